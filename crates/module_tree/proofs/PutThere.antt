-- Where a file has a place for its translation, a text can be put there.
use Rattle.std.proofs.Common.{◌≡◌, ◌++◌, take, drop, Some, refl}
use Rattle.module_tree.specs.TextFront.{Text}
use Rattle.module_tree.specs.Walk.{walk}
use Rattle.module_tree.specs.FileParts.{Span, spot}
use Rattle.module_tree.specs.WithTranslation.{begin_line, end_line, line_end_if_new, WithTranslation}

pub put_there : (x t : Text) (at : Span) → spot (walk x) ≡ Some at
    → WithTranslation x t (take at.from x ++ (begin_line ++ (t ++ (end_line ++ (line_end_if_new x ++ drop at.to x)))))
put_there x t at e = record { at = at; is_spot = e; is = refl }
