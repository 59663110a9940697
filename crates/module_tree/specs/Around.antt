-- A file with another translation in the same place ("A PlusCal User's Manual", section 2.2).
use Rattle.module_tree.specs.Module.{Module}
use Rattle.module_tree.specs.Layout.{layout}
use Rattle.module_tree.specs.TextFront.{Text}
pub use Rattle.module_tree.specs.WithTranslation.{begin_line, end_line, WithTranslation, Swapped}

-- w is x with the translation of m
abbrev pub Around : Text → Module → Text → Type 0
Around x m w = WithTranslation x (layout m.region) w
