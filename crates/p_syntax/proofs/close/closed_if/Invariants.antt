-- What the loop keeps: the tests that are left, with the `if` so far in the last of them, are the whole.
use Rattle.std.proofs.Common.{◌≡◌, max, [], ◌∷◌, ◌++◌, List, map, length}
use Rattle.tla_tree.specs.Tree.{Tree}
use Rattle.tla_tree.specs.Nesting.{greatest}
use Rattle.pcal_tree.specs.Algorithm.{Statements, done}
use Rattle.pcal_tree.specs.InMemory.{stmt_at, statements_at, past_stmt, past_statements}
use Rattle.p_syntax.specs.StatesRead.{nested, before_rest, past_test}
use Rattle.p_syntax.proofs.close.closed_if.Given as goal

abbrev pub invariant-loop-test : goal.invariant-loop-test
invariant-loop-test l =
    record {
      whole : (ts : List Tree) → nested ts l.tests.items l.last (stmt_at ts l.statement done) ≡ nested ts (l.fn.tests.items ++ l.fn.test ∷ []) l.last (statements_at ts l.fn.otherwise.items);
      alone : (ts : List Tree) (rest : Statements) → stmt_at ts l.statement rest ≡ before_rest (stmt_at ts l.statement done) rest;
      below : max (greatest (map past_test l.tests.items)) (past_stmt l.statement) ≡ max (greatest (map past_test (l.fn.tests.items ++ l.fn.test ∷ []))) (past_statements l.fn.otherwise.items);
    }

abbrev pub decreases-loop-test : goal.decreases-loop-test
decreases-loop-test l = length l.tests.items
