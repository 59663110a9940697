-- Proves that the conjuncts of one more procedure are added.
use Rattle.std.proofs.Common.{◌++◌, map, refl, sym, ap, ◌∙◌, arith}
use Rattle.tla_tree.specs.Pool.{at}
use Rattle.tla_tree.proofs.PoolNumbers.{past_at}
use Rattle.pcal_tree.specs.Algorithm.{procedure_routine}
use Rattle.pcal_tree.specs.InMemory.{declarations_at, procedure_at, past_declarations, past_procedure}
use Rattle.pcal_tree.specs.Takers.{Takers}
use Rattle.pcal_tree.proofs.InMemoryGrown.{declarations_at-kept}
use Rattle.action_builder.specs.InitialFormulas.{locals_start}
use Rattle.draft.proofs.Grown.{draft_kept}
use Rattle.draft.proofs.Behind.{numbered_more, numbered_all}
use Rattle.module_formulas.specs.TakersIn.{taker_at, taken, taken_procedure}
use Rattle.module_formulas.proofs.Grown.{taker_at-kept, taker_in-kept, grows_none, grows_more}
use Rattle.module_formulas.proofs.starts.add_procedures.Goals as goal

pub loop-one-init : goal.loop-one-init
loop-one-init c = (grows_none c.args.pool.now c.args.out.now.items c.requires.below, λ P d. refl)

pub add_routine-requires-clause-first : goal.add_routine-requires-clause-first
add_routine-requires-clause-first c =
    let past = past_at past_procedure c.args.list.now c.loop-one.one-index c.one-item.result c.one-item.is c.loop-one-test.true in
    omega (arith, past, ap past_declarations c.deref.ensures.value, c.requires.there, c.loop-one.invariant.0.kept.longer)

pub add_routine-requires-clause-then : goal.add_routine-requires-clause-then
add_routine-requires-clause-then c =
    let past = past_at past_procedure c.args.list.now c.loop-one.one-index c.one-item.result c.one-item.is c.loop-one-test.true in
    omega (arith, past, ap past_declarations c.deref-in-loop-one.ensures.value, c.requires.there, c.loop-one.invariant.0.kept.longer)

pub add_routine-requires-clause-within : goal.add_routine-requires-clause-within
add_routine-requires-clause-within c = taker_in-kept c.args.pool.now c.loop-one.pool c.loop-one.invariant.0.kept c.args.taker c.requires.within

pub add_routine-requires-clause-below : goal.add_routine-requires-clause-below
add_routine-requires-clause-below c = c.loop-one.invariant.0.below

pub loop-one-preserved : goal.loop-one-preserved
loop-one-preserved c =
    let ts = c.args.pool.now in
    let now = c.loop-one.pool in
    let new = c.add_routine.new.pool in
    let kept = c.loop-one.invariant.0.kept in
    let said = c.in_ok-add_routine.ensures in
    let p = c.one-item.result in
    let past = past_at past_procedure c.args.list.now c.loop-one.one-index p c.one-item.is c.loop-one-test.true in (
      grows_more ts now new c.loop-one.out.items c.add_routine.new.out.items c.loop-one.invariant.0 said.kept said.below,
      λ P d.
          numbered_more (locals_start P) (taken_procedure (taker_at ts c.args.taker)) (procedure_at ts) c.args.list.now c.loop-one.one-index c.loop-one.number c.in_ok-number.number p c.one-item.is c.loop-one-test.true c.in_ok-number.ensures
          (map (at now) c.loop-one.out.items) (map (at new) c.add_routine.new.out.items) _
          (said.made P (procedure_routine c.loop-one.number (procedure_at ts p)) (draft_kept ts now kept c.args.draft.now P d) refl
          (sym (declarations_at-kept ts now kept p.params.items (omega (arith, past, c.requires.there))) ∙ ap (declarations_at now) (sym c.deref.ensures.value))
          (sym (declarations_at-kept ts now kept p.variables.items (omega (arith, past, c.requires.there))) ∙ ap (declarations_at now) (sym c.deref-in-loop-one.ensures.value))
          ∙ ap (λ (t : Takers). map (at now) c.loop-one.out.items ++ locals_start P (taken t (procedure_routine c.loop-one.number (procedure_at ts p)))) (taker_at-kept ts now kept c.args.taker c.requires.within))
          (c.loop-one.invariant.1 P d),
    )

pub returns-clause-made : goal.returns-clause-made
returns-clause-made c = λ P d.
    numbered_all (locals_start P) (taken_procedure (taker_at c.args.pool.now c.args.taker)) (procedure_at c.args.pool.now) c.args.list.now c.loop-one.one-index c.loop-one.number
    (map (at c.loop-one.pool) c.loop-one.out.items) _ c.loop-one-test.false (c.loop-one.invariant.1 P d)
