-- What statements assign where they stand.
use Rattle.std.specs.Prelude.{List, Bool, false, Option, Some, None, bytes_eq, map}
use Rattle.tla_tree.specs.Tree.{Word}
use Rattle.pcal_tree.specs.declared.algorithm.Declaration.{Declaration}
use Rattle.pcal_tree.specs.Algorithm.{Name}
use Rattle.pcal_tree.specs.Paths.{Effects}
use Rattle.pcal_tree.specs.OffencesSteps.{effects_in}
use Rattle.pcal_tree.specs.laws.MacroSummaries.{Summary, summary_effect}
use Rattle.label_steps.specs.declared.around.Around.{Around}

abbrev pub is_own : Option Name → Word → Bool
is_own None x = false
is_own (Some p) x = bytes_eq p.word x

-- where a body stands, and these are the macros, the newest first
abbrev pub effects_around : Around → List Summary → Effects
effects_around a ms = effects_in (summary_effect ms) a.name a.own.items

abbrev pub names_of : List Declaration → List Word
names_of ds = map (λ d. d.name.word) ds
