-- The macros that are called, in a table by name.
use Rattle.std.specs.Prelude.{◌≡◌, nat_lt, List, ◌++◌, Bool, ◌||◌}
use Rattle.tla_token.specs.Signs.{is_among}
use Rattle.tla_tree.specs.Tree.{Word, Tree}
use Rattle.pcal_tree.specs.declared.algorithm.Stmt.{Stmt}
use Rattle.pcal_tree.specs.Algorithm.{Statements}
use Rattle.pcal_tree.specs.InMemory.{stmt_at}
use Rattle.pcal_tree.specs.OffencesCounts.{calls_of}
use Rattle.algorithm_limits.specs.Numbers.{Numbers, number_of}

abbrev pub is_called : Numbers → Word → Bool
is_called es x = nat_lt 0 (number_of es x)

-- the macros that are marked are these
abbrev pub AreCalled : Numbers → List Word → Type 0
AreCalled es ms = (x : Word) → is_called es x ≡ is_among ms x

-- these are called besides
pub record AddsCalls (old new : Numbers) (ms : List Word) : Type 0 where
  pub calls : (x : Word) → is_called new x ≡ (is_among ms x || is_called old x)

-- those of a statement, which come before those of the rest of its list
pub record AddsStmtCalls (ts : List Tree) (s : Stmt) (old new : Numbers) : Type 0 where
  pub these : List Word
  pub ahead : (rest : Statements) → calls_of (stmt_at ts s rest) ≡ these ++ calls_of rest
  pub adds : AddsCalls old new these
