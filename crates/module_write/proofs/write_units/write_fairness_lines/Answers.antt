-- Proves what is asked of `write_fairness_lines`.
use Rattle.std.proofs.Common.{List, ◌++◌, map, refl}
use Rattle.std.specs.Prelude.{codes}
use Rattle.module_write.specs.declared.«module».Fairness.{Fairness}
use Rattle.module_tree.specs.Layout.{blanks, line, fairness_text, conjuncts_text}
use Rattle.module_write.specs.InMemory.{fairness_at}
use Rattle.tla_write.proofs.OneMore.{listed_more}
use Rattle.module_lines.proofs.Regrouped.{line_joined}
use Rattle.module_write.proofs.write_units.write_fairness_lines.Goals as goal

pub loop-fairness-preserved : goal.loop-fairness-preserved
loop-fairness-preserved c =
    let ts = c.args.pool.now in
    listed_more (λ (fs : List Fairness). conjuncts_text (map fairness_text (map (fairness_at ts) fs))) (λ (f : Fairness). line 2 (codes "/\\ " ++ fairness_text (fairness_at ts f))) (record { none = refl; more = λ x xs. refl })
    c.args.into.now c.loop-fairness.into c.push.new.self c.args.lines.now c.loop-fairness.fairness-index c.fairness-item.result c.fairness-item.is c.loop-fairness-test.true c.loop-fairness.invariant
    (rw (c.in_ok-push.ensures.ok, c.in_ok-write_fairness.ensures, c.in_ok-begin_line.ensures) (line_joined c.loop-fairness.into (blanks 2) (codes "/\\ ") (fairness_text (fairness_at ts c.fairness-item.result)) (codes "\n")))
