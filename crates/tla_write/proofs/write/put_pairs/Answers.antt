-- Proves what is asked of `put_pairs`.
use Rattle.std.proofs.Common.{◌≡◌, ℕ, ◌-◌, drop, arith, ap, ◌∙◌}
use Rattle.tla_tree.specs.Written.{arm_pieces}
use Rattle.tla_write.proofs.WritingLemmas.{shown_append, arms_next, drop_none}
use Rattle.tla_write.proofs.write.put_pairs.Goals as goal

pub loop-i-preserved : goal.loop-i-preserved
loop-i-preserved c =
    let inv = c.loop-i.invariant in (
      omega (arith, inv.0),
      (inv.1.0 - 1, omega (arith, inv.1.1, c.loop-i-test.true)),
      λ xs h ps end e. rw (c.in_ok-push-2.ensures.items, c.in_ok-put_spaced.ensures, c.in_ok-push.ensures.items, c.in_ok-put_box_if.ensures)
          (simp shown_append (rw (inv.2 xs h ps end e) (arms_next c.args.other xs c.args.n c.loop-i.i h (omega (arith, c.loop-i-test.true)) inv.0 end))),
    )

pub returns : goal.returns
returns c = λ xs h ps end e.
    let inv = c.loop-i.invariant in
    let none : c.loop-i.i ≡ 0 = omega (arith, inv.1.1, c.loop-i-test.false) in
    inv.2 xs h ps end e ∙ ap (λ (k : ℕ). arm_pieces c.args.other (drop k xs) end) none ∙ ap (λ ys. arm_pieces c.args.other ys end) (drop_none xs)
