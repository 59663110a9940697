-- Proves that the conjuncts of one more process are added.
use Rattle.std.proofs.Common.{◌++◌, length, map, refl, sym, ap, ◌∙◌, arith}
use Rattle.tla_tree.specs.Pool.{at}
use Rattle.tla_tree.proofs.PoolNumbers.{past_at}
use Rattle.pcal_tree.specs.Algorithm.{process_routine}
use Rattle.pcal_tree.specs.InMemory.{declarations_at, process_at, past_declarations, past_process}
use Rattle.pcal_tree.specs.Takers.{Takers, takers_of, taken_process}
use Rattle.pcal_tree.proofs.InMemoryGrown.{declarations_at-kept}
use Rattle.action_builder.specs.InitialFormulas.{locals_start}
use Rattle.draft.proofs.Grown.{draft_kept}
use Rattle.draft.proofs.Behind.{numbered_more, numbered_all}
use Rattle.module_formulas.specs.TakersIn.{taken}
use Rattle.module_formulas.proofs.Grown.{process_at-kept, grows_none, grows_more}
use Rattle.module_formulas.proofs.starts.add_processes.Goals as goal

pub loop-one-init : goal.loop-one-init
loop-one-init c = (grows_none c.args.pool.now c.args.out.now.items c.requires.below, λ P d. refl)

pub add_routine-requires-clause-then : goal.add_routine-requires-clause-then
add_routine-requires-clause-then c =
    let past = past_at past_process c.args.list.now c.loop-one.one-index c.one-item.result c.one-item.is c.loop-one-test.true in
    omega (arith, past, ap past_declarations c.deref.ensures.value, c.requires.there, c.loop-one.invariant.0.kept.longer)

pub add_routine-requires-clause-within : goal.add_routine-requires-clause-within
add_routine-requires-clause-within c =
    let past = past_at past_process c.args.list.now c.loop-one.one-index c.one-item.result c.one-item.is c.loop-one-test.true in
    c.taker_of.ensures.within (length c.loop-one.pool) (omega (arith, past, c.requires.there, c.loop-one.invariant.0.kept.longer))

pub add_routine-requires-clause-below : goal.add_routine-requires-clause-below
add_routine-requires-clause-below c = c.loop-one.invariant.0.below

pub loop-one-preserved : goal.loop-one-preserved
loop-one-preserved c =
    let ts = c.args.pool.now in
    let now = c.loop-one.pool in
    let new = c.add_routine.new.pool in
    let kept = c.loop-one.invariant.0.kept in
    let said = c.in_ok-add_routine.ensures in
    let p = c.one-item.result in
    let past = past_at past_process c.args.list.now c.loop-one.one-index p c.one-item.is c.loop-one-test.true in (
      grows_more ts now new c.loop-one.out.items c.add_routine.new.out.items c.loop-one.invariant.0 said.kept said.below,
      λ P d.
          numbered_more (locals_start P) taken_process (process_at ts) c.args.list.now c.loop-one.one-index c.loop-one.number c.in_ok-number.number p c.one-item.is c.loop-one-test.true c.in_ok-number.ensures
          (map (at now) c.loop-one.out.items) (map (at new) c.add_routine.new.out.items) _
          (said.made P (process_routine c.loop-one.number (process_at ts p)) (draft_kept ts now kept c.args.draft.now P d) refl refl
          (sym (declarations_at-kept ts now kept p.variables.items (omega (arith, past, c.requires.there))) ∙ ap (declarations_at now) (sym c.deref.ensures.value))
          ∙ ap (λ (t : Takers). map (at now) c.loop-one.out.items ++ locals_start P (taken t (process_routine c.loop-one.number (process_at ts p))))
          (c.taker_of.ensures.stands now ∙ ap takers_of (process_at-kept ts now kept p (omega (arith, past, c.requires.there)))))
          (c.loop-one.invariant.1 P d),
    )

pub returns-clause-made : goal.returns-clause-made
returns-clause-made c = λ P d.
    numbered_all (locals_start P) taken_process (process_at c.args.pool.now) c.args.list.now c.loop-one.one-index c.loop-one.number
    (map (at c.loop-one.pool) c.loop-one.out.items) _ c.loop-one-test.false (c.loop-one.invariant.1 P d)
