-- What a walk through an algorithm does: parts are looked at, and their names are kept.
use Rattle.std.specs.Prelude.{◌≡◌, ◌≤◌, List, ◌++◌, length}
use Rattle.tla_tree.specs.Tree.{Tree}
use Rattle.pcal_tree.specs.declared.algorithm.Stmt.{Stmt}
use Rattle.pcal_tree.specs.Algorithm.{Statements}
use Rattle.pcal_tree.specs.InMemory.{stmt_at}
use Rattle.declared_rules.specs.declared.walk.Walked.{Walked}
use Rattle.declared_rules.specs.Parts.{Part, in_body}
use Rattle.declared_rules.specs.Finding as finding
use Rattle.declared_rules.specs.Met as met

-- there are as many marks as before
pub record SameMarks (old new : Walked) : Type 0 where
  pub found : length new.found.marks.items ≡ length old.found.marks.items
  pub met : length new.met.marks.items ≡ length old.met.marks.items

-- these parts were looked at, and their names were added, where there is a mark for each tree
pub record Adds (ts : List Tree) (old new : Walked) (xs : List Part) : Type 0 where
  pub marks : SameMarks old new
  pub found : length ts ≤ length old.found.marks.items → finding.Adds ts old.found new.found xs
  pub met : length ts ≤ length old.met.marks.items → met.Adds ts old.met new.met (met.parts_words xs)

-- those of a statement were, which come before those of the rest of its list
pub record AddsStmt (ts : List Tree) (s : Stmt) (old new : Walked) : Type 0 where
  pub these : List Part
  pub ahead : (rest : Statements) → in_body (stmt_at ts s rest) ≡ these ++ in_body rest
  pub adds : Adds ts old new these
