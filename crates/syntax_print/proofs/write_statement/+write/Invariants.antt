-- Why the calls of the printer of statements end, and what its loops keep.
use Rattle.std.proofs.Common.{◌≡◌, ℕ, ◌+◌, ◌*◌, List, [], ◌++◌, drop}
use Rattle.pcal_tree.specs.Printed.{statements, branches}
use Rattle.pcal_tree.specs.InMemory.{statements_at, branches_at}
use Rattle.pcal_tree.specs.Syntaxes.{syntax_of}
use Rattle.syntax_print.specs.Adding.{behind}
use Rattle.syntax_print.proofs.Branches.{branch_line}
use Rattle.pcal_tree.proofs.StatementHeights.{height, heights, branch_heights}
use Rattle.syntax_print.proofs.write_statement.+write.Given as goal

abbrev pub decreases-write_stmt : goal.decreases-write_stmt
decreases-write_stmt l = 4 * height l.stmt.now

abbrev pub decreases-write_statements : goal.decreases-write_statements
decreases-write_statements l = 4 * heights l.stmts.now + 1

abbrev pub decreases-write_otherwise : goal.decreases-write_otherwise
decreases-write_otherwise l = 4 * heights l.stmts.now + 2

abbrev pub decreases-write_branches : goal.decreases-write_branches
decreases-write_branches l = 4 * branch_heights l.list.now + 3

abbrev pub invariant-write_statements-loop-stmt : goal.invariant-write_statements-loop-stmt
invariant-write_statements-loop-stmt l =
    (rest : List (List ℕ)) → l.into ++ behind (statements (syntax_of l.syntax) l.k l.labels (statements_at l.pool (drop l.stmt-index l.stmts)) rest) ≡ l.fn.into ++ behind (statements (syntax_of l.syntax) l.k [] (statements_at l.pool l.stmts) rest)

abbrev pub invariant-write_branches-loop-i : goal.invariant-write_branches-loop-i
invariant-write_branches-loop-i l =
    (rest : List (List ℕ)) → l.into ++ behind (branches (syntax_of l.syntax) l.k (branch_line (syntax_of l.syntax) l.labels l.i) (branches_at l.pool (drop l.i l.list)) rest)
    ≡ l.fn.into ++ behind (branches (syntax_of l.syntax) l.k (branch_line (syntax_of l.syntax) l.labels 0) (branches_at l.pool l.list) rest)
