-- Proves what is asked of `write_conjuncts`.
use Rattle.std.proofs.Common.{ℕ, List, ◌++◌, length, map, get_or, refl}
use Rattle.std.specs.Prelude.{codes}
use Rattle.tla_tree.specs.Pool.{at}
use Rattle.tla_tree.specs.Written.{written}
use Rattle.tla_tree.proofs.PoolNumbers.{AllBelow-at}
use Rattle.module_tree.specs.Layout.{blanks, line, conjuncts_text}
use Rattle.tla_tree.proofs.PoolNumbers.{same_default}
use Rattle.tla_write.proofs.OneMore.{listed_more}
use Rattle.module_lines.proofs.Regrouped.{line_joined}
use Rattle.module_write.proofs.write_units.write_conjuncts.Goals as goal

pub append_expr-requires : goal.append_expr-requires
append_expr-requires c = AllBelow-at (length c.args.pool.now) c.args.conjuncts.now c.loop-e.e-index 0 c.requires c.loop-e-test.true

pub loop-e-preserved : goal.loop-e-preserved
loop-e-preserved c =
    let ts = c.args.pool.now in
    let es = c.args.conjuncts.now in
    let i = c.loop-e.e-index in
    let e = get_or es i 0 in
    listed_more (λ (es : List ℕ). conjuncts_text (map written (map (at ts) es))) (λ (e : ℕ). line 2 (codes "/\\ " ++ written (at ts e))) (record { none = refl; more = λ x xs. refl })
    c.args.into.now c.loop-e.into c.push.new.self es i e (same_default es i 0 e c.loop-e-test.true) c.loop-e-test.true c.loop-e.invariant
    (rw (c.in_ok-push.ensures.ok, c.in_ok-append_expr.ensures, c.in_ok-begin_line.ensures) (line_joined c.loop-e.into (blanks 2) (codes "/\\ ") (written (at ts e)) (codes "\n")))
