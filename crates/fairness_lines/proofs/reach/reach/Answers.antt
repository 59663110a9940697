-- Proves that all that is reached is marked, and nothing else.
use Rattle.std.proofs.Common.{rules, ◌≡◌, ◌<◌, ◌+◌, ℕ, false, [], length, get_or, replicate, sym, ap, ◌∙◌, subst, arith}
use Rattle.tla_tree.proofs.PoolNumbers.{AllBelow-at, same_default}
use Rattle.fairness_lines.specs.WorkLists.{Found, put_all}
use Rattle.fairness_lines.proofs.Reaching.{Reaching, begins, goes, ends, lists, lists_long}
use Rattle.fairness_lines.proofs.reach.reach.Goals as goal

pub loop-at-init : goal.loop-at-init
loop-at-init c =
    let all : c.in_ok-marks.marks.items ≡ replicate (length c.args.rows.now) false = search rules in
    let made : c.in_ok-marks.marks.items ≡ replicate (length (lists c.args.rows.now)) false = all ∙ ap (λ (n : ℕ). replicate n false) (sym (lists_long c.args.rows.now)) in
    subst (λ (f : Found). Reaching (lists c.args.rows.now) c.args.start.now f 0)
    (sym (c.in_ok-mark_all.ensures ∙ ap (λ (f : Found). put_all f c.args.start.now) (λ i. record { marks = made i; work = c.new-work.ensures.items i })))
    (begins (lists c.args.rows.now) c.args.start.now)

pub follow-requires : goal.follow-requires
follow-requires c =
    let this = c.index-number.ensures ∙ same_default c.loop-at.work.items c.loop-at.at c.index-number.result.now 0 (omega (arith, c.loop-at-test.true)) in
    let below : get_or c.loop-at.work.items c.loop-at.at 0 < length (lists c.args.rows.now) = AllBelow-at (length (lists c.args.rows.now)) c.loop-at.work.items c.loop-at.at 0 c.loop-at.invariant.sound.below (omega (arith, c.loop-at-test.true)) in
    omega (arith, below, this, lists_long c.args.rows.now)

pub loop-at-preserved : goal.loop-at-preserved
loop-at-preserved c =
    let next = goes (lists c.args.rows.now) c.args.start.now (record { marks = c.loop-at.marks.items; work = c.loop-at.work.items }) c.loop-at.at c.loop-at.invariant (omega (arith, c.loop-at-test.true)) in
    let this : c.index-number.result.now ≡ get_or c.loop-at.work.items c.loop-at.at 0 =
    c.index-number.ensures ∙ same_default c.loop-at.work.items c.loop-at.at c.index-number.result.now 0 (omega (arith, c.loop-at-test.true)) in
    subst (λ (f : Found). Reaching (lists c.args.rows.now) c.args.start.now f (c.loop-at.at + 1))
    (sym (c.in_ok-follow.ensures ∙ ap (λ (n : ℕ). put_all (record { marks = c.loop-at.marks.items; work = c.loop-at.work.items }) (get_or (lists c.args.rows.now) n [])) this)) next

pub loop-at-smaller : goal.loop-at-smaller
loop-at-smaller c = omega (arith, c.loop-at.invariant.sound.count, lists_long c.args.rows.now, c.loop-at-test.true)

pub returns : goal.returns
returns c = ends (lists c.args.rows.now) c.args.start.now (record { marks = c.loop-at.marks.items; work = c.loop-at.work.items }) c.loop-at.at c.loop-at.invariant (omega (arith, c.loop-at-test.false))
