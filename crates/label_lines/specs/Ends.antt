-- Where the statements before the next label of a list end, told by its first.
use Rattle.std.specs.Prelude.{◌≡◌, List, Option, Some, None}
use Rattle.tla_token.specs.declared.place.Place.{Place}
use Rattle.tla_tree.specs.Tree.{Tree}
use Rattle.pcal_tree.specs.declared.algorithm.Stmt.{Stmt}
use Rattle.pcal_tree.specs.Algorithm.{Statements}
use Rattle.pcal_tree.specs.InMemory.{stmt_at}
use Rattle.source_map.specs.Lines.{last_token}

-- a statement that ends there is followed by others; before a label nothing is
abbrev pub ended : Option Place → Place → Statements → Place
ended None at rest = at
ended (Some end) at rest = last_token end rest

abbrev pub EndsAt : List Tree → Stmt → Option Place → Type 0
EndsAt ts s e = (at : Place) (rest : Statements) → last_token at (stmt_at ts s rest) ≡ ended e at rest
