-- The constants of a run, with `defaultInitValue` put last.
use Rattle.std.proofs.Common.{◌≡◌, Bool, cond, codes, Some, ap, ◌∙◌}
use Rattle.tla_tree.specs.Tree.{Word}
use Rattle.tla_value.specs.Value.{Value}
use Rattle.tla_value.specs.States.{Entries, value_of, updated}
use Rattle.pcal_tree.specs.Calls.{defaultInitValue}
use Rattle.pcal_tree.proofs.SelfByMacro.{turned}
use Rattle.step_moves.proofs.StateLaws.{value_updated}
use Rattle.step_runner.specs.Config.{constants_of}

default_put : (es : Entries) → value_of (updated es (codes "defaultInitValue") defaultInitValue) ≡ constants_of es
default_put es i x =
    (value_updated es (codes "defaultInitValue") defaultInitValue x ∙ ap (λ (b : Bool). cond b (Some defaultInitValue) (value_of es x)) (turned (codes "defaultInitValue") x)) i

pub with_default_put : (es all : Entries) (x : Word) (v : Value) → x ≡ codes "defaultInitValue" → v ≡ defaultInitValue → all ≡ updated es x v → value_of all ≡ constants_of es
with_default_put es all x v name value made = ap value_of made ∙ (λ i. value_of (updated es (name i) (value i))) ∙ default_put es
