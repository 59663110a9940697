-- Labels that are met in a body, one after another.
use Rattle.std.specs.Prelude.{◌≡◌, nat_lt, List, ◌++◌, map, Bool, ◌||◌}
use Rattle.tla_token.specs.Signs.{is_among}
use Rattle.tla_tree.specs.Tree.{Word, Tree}
use Rattle.pcal_tree.specs.declared.algorithm.Stmt.{Stmt}
use Rattle.pcal_tree.specs.Algorithm.{Statements}
use Rattle.pcal_tree.specs.InMemory.{stmt_at}
use Rattle.pcal_tree.specs.Offences.{first}
use Rattle.pcal_tree.specs.OffencesLabels.{Label, labels, second_labels}
use Rattle.algorithm_answer.specs.Joined.{joined}
use Rattle.algorithm_limits.specs.Numbers.{Numbers, number_of}
use Rattle.label_jumps.specs.declared.labels.Labels.{Labels}

abbrev pub is_met : Numbers → Word → Bool
is_met es x = nat_lt 0 (number_of es x)

-- these names were met
abbrev pub AreMet : Numbers → List Word → Type 0
AreMet es xs = (x : Word) → is_met es x ≡ is_among xs x

abbrev pub label_names : List Label → List Word
label_names ls = map (λ l. l.name.word) ls

-- these labels were met besides
pub record Meets (old new : Labels) (ls : List Label) : Type 0 where
  pub names : (x : Word) → is_met new.met x ≡ (is_among (label_names ls) x || is_met old.met x)
  pub found : (seen : List Word) → AreMet old.met seen → new.first ≡ joined old.first (first (second_labels seen ls))

-- those of a statement were, before the rest of its list; true where a label is right before it, and before that rest
pub record MeetsStmt (ts : List Tree) (s : Stmt) (before after : Bool) (old new : Labels) : Type 0 where
  pub these : List Label
  pub ahead : (rest : Statements) → labels before (stmt_at ts s rest) ≡ these ++ labels after rest
  pub meets : Meets old new these
