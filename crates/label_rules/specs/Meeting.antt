-- Labels that are met in a body, one after another, and all that second ones offend.
use Rattle.std.specs.Prelude.{◌≡◌, List, ◌++◌, Bool, ◌||◌}
use Rattle.tla_token.specs.Signs.{is_among}
use Rattle.tla_tree.specs.Tree.{Word, Tree}
use Rattle.pcal_tree.specs.declared.algorithm.Stmt.{Stmt}
use Rattle.pcal_tree.specs.Algorithm.{Statements}
use Rattle.pcal_tree.specs.InMemory.{stmt_at}
use Rattle.pcal_tree.specs.OffencesLabels.{Label, labels, second_labels}
use Rattle.label_jumps.specs.Meeting.{is_met, AreMet, label_names}
use Rattle.label_rules.specs.declared.labels.Labels.{Labels}

-- these labels were met besides
pub record Meets (old new : Labels) (ls : List Label) : Type 0 where
  pub names : (x : Word) → is_met new.met x ≡ (is_among (label_names ls) x || is_met old.met x)
  pub seconds : (seen : List Word) → AreMet old.met seen → new.seconds.items ≡ old.seconds.items ++ second_labels seen ls

-- those of a statement were, before the rest of its list; true where a label is right before it, and before that rest
pub record MeetsStmt (ts : List Tree) (s : Stmt) (before after : Bool) (old new : Labels) : Type 0 where
  pub these : List Label
  pub ahead : (rest : Statements) → labels before (stmt_at ts s rest) ≡ these ++ labels after rest
  pub meets : Meets old new these
