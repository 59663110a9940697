-- Lines of labels in memory, and those that are put behind others.
use Rattle.std.specs.Prelude.{◌≡◌, ℕ, ◌+◌, List, ◌++◌, map, drop}
use Rattle.tla_tree.specs.Tree.{Tree}
use Rattle.pcal_tree.specs.declared.algorithm.Stmt.{Stmt}
use Rattle.pcal_tree.specs.Algorithm.{Statements, Branches, Naming}
use Rattle.pcal_tree.specs.InMemory.{statements_at}
use Rattle.source_map.specs.Lines.{Line, lines_in, lines_of_some}
use Rattle.label_lines.specs.declared.line.Line as code
use Rattle.label_lines.specs.declared.walk.Unit.{Unit}

abbrev pub line_seen : code.Line → Line
line_seen l = record { label = l.label; unit = l.unit; first = l.first; last = l.last }

abbrev pub lines_seen : List code.Line → List Line
lines_seen ls = map line_seen ls

-- these are behind those of before
abbrev pub Adds : List code.Line → List code.Line → List Line → Type 0
Adds old new ls = lines_seen new ≡ lines_seen old ++ ls

-- those of a list of statements, and of branches, in a routine
abbrev pub unit_lines : Naming → Unit → Statements → List Line
unit_lines f u b = lines_in (f.label u.number) u.title b

abbrev pub branch_lines : Naming → Unit → Branches → List Line
branch_lines f u bs = lines_of_some (f.label u.number) u.title bs

-- those that stand at one place of a list, before those of the rest of it, are added
pub record AddsAt (f : Naming) (u : Unit) (ts : List Tree) (ss : List Stmt) (i : ℕ) (old new : List code.Line) : Type 0 where
  pub these : List Line
  pub ahead : unit_lines f u (statements_at ts (drop i ss)) ≡ these ++ unit_lines f u (statements_at ts (drop (i + 1) ss))
  pub adds : Adds old new these
