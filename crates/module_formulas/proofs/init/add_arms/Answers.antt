-- Proves that the arm of one more process is added.
use Rattle.std.proofs.Common.{◌++◌, map, refl, ap, ◌∙◌, arith}
use Rattle.tla_tree.specs.Pool.{at}
use Rattle.tla_tree.proofs.PoolNumbers.{past_at}
use Rattle.pcal_tree.specs.Algorithm as pure
use Rattle.pcal_tree.specs.InMemory.{process_at, past_process}
use Rattle.pcal_tree.specs.Takers.{taken_process}
use Rattle.draft.proofs.Grown.{draft_kept}
use Rattle.draft.proofs.Behind.{numbered_more, numbered_all}
use Rattle.module_formulas.specs.Starts.{arm}
use Rattle.module_formulas.proofs.Grown.{process_at-kept, grows_none, grows_more}
use Rattle.module_formulas.proofs.init.add_arms.Goals as goal

pub loop-one-init : goal.loop-one-init
loop-one-init c = (grows_none c.args.pool.now c.args.out.now.items c.requires.below, omega arith, λ P d this. refl)

pub add_arm-requires-clause-there : goal.add_arm-requires-clause-there
add_arm-requires-clause-there c =
    let past = past_at past_process c.args.list.now c.loop-one.one-index c.one-item.result c.one-item.is c.loop-one-test.true in
    omega (arith, past, c.requires.there, c.loop-one.invariant.0.kept.longer)

pub add_arm-requires-clause-name : goal.add_arm-requires-clause-name
add_arm-requires-clause-name c = omega (arith, c.requires.name, c.loop-one.invariant.0.kept.longer)

pub add_arm-requires-clause-below : goal.add_arm-requires-clause-below
add_arm-requires-clause-below c = c.loop-one.invariant.0.below

pub loop-one-preserved : goal.loop-one-preserved
loop-one-preserved c =
    let ts = c.args.pool.now in
    let now = c.loop-one.pool in
    let new = c.add_arm.new.pool in
    let kept = c.loop-one.invariant.0.kept in
    let said = c.in_ok-add_arm.ensures in
    let p = c.one-item.result in
    let past = past_at past_process c.args.list.now c.loop-one.one-index p c.one-item.is c.loop-one-test.true in (
      grows_more ts now new c.loop-one.out.items c.add_arm.new.out.items c.loop-one.invariant.0 said.kept said.below,
      omega (arith, said.paired, c.loop-one.invariant.1),
      λ P d this.
          numbered_more (arm P) taken_process (process_at ts) c.args.list.now c.loop-one.one-index c.loop-one.number c.in_ok-number.number p c.one-item.is c.loop-one-test.true c.in_ok-number.ensures
          (map (at now) c.loop-one.out.items) (map (at new) c.add_arm.new.out.items) _
          (said.made P (draft_kept ts now kept c.args.draft.now P d) (kept.same c.args.this c.requires.name ∙ this)
          ∙ ap (λ (q : pure.Process). map (at now) c.loop-one.out.items ++ arm P (taken_process c.loop-one.number q)) (process_at-kept ts now kept p (omega (arith, past, c.requires.there))))
          (c.loop-one.invariant.2 P d this),
    )

pub returns-clause-made : goal.returns-clause-made
returns-clause-made c = λ P d this.
    numbered_all (arm P) taken_process (process_at c.args.pool.now) c.args.list.now c.loop-one.one-index c.loop-one.number
    (map (at c.loop-one.pool) c.loop-one.out.items) _ c.loop-one-test.false (c.loop-one.invariant.2 P d this)
