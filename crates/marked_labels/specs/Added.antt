-- What is listed of statements in the order of the text, where it is put behind what was listed before.
use Rattle.std.specs.Prelude.{◌≡◌, ℕ, ◌+◌, List, ◌++◌, drop}
use Rattle.tla_tree.specs.Tree.{Tree}
use Rattle.pcal_tree.specs.declared.algorithm.Stmt.{Stmt}
use Rattle.pcal_tree.specs.Algorithm.{Statements}
use Rattle.pcal_tree.specs.InMemory.{statements_at}

-- what the label or the statement at one place of a list has comes before that of the rest of the list
pub record AddsAt {X : Type 0} (all : Statements → List X) (ts : List Tree) (ss : List Stmt) (i : ℕ) (old new : List X) : Type 0 where
  pub these : List X
  pub ahead : all (statements_at ts (drop i ss)) ≡ these ++ all (statements_at ts (drop (i + 1) ss))
  pub adds : new ≡ old ++ these
