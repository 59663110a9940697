-- Where statements stand, as code has it.
use Rattle.std.specs.Prelude.{◌≡◌, Bool, ◌||◌, bytes_eq, codes}
use Rattle.tla_token.specs.Signs.{is_among}
use Rattle.tla_tree.specs.Tree.{Word}
use Rattle.pcal_tree.specs.OffencesLabels.{Within}
use Rattle.label_jumps.specs.declared.jumps.Body.{Body}
use Rattle.label_jumps.specs.Meeting.{is_met}

-- true in a `with`
pub record Stands (b : Body) (in_with : Bool) (w : Within) : Type 0 where
  pub macro : w.macro ≡ b.in_macro
  pub with : w.with ≡ in_with
  pub procedure : w.procedure ≡ b.in_procedure
  pub targets : (x : Word) → is_among w.targets x ≡ (bytes_eq (codes "Done") x || is_met b.labels x)
