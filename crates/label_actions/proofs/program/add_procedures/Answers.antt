-- Proves that the actions of one procedure more are added.
use Rattle.std.proofs.Common.{◌≡◌, ◌+◌, refl, sym, ap, ◌∙◌, arith}
use Rattle.tla_tree.proofs.PoolNumbers.{past_at}
use Rattle.pcal_tree.specs.Algorithm.{procedure_routine}
use Rattle.pcal_tree.specs.InMemory.{declarations_at, statements_at, procedure_at, past_declarations, past_statements, past_procedure}
use Rattle.pcal_tree.proofs.InMemoryGrown.{declarations_at-kept, statements_at-kept}
use Rattle.module_write.specs.InMemory.{actions_at}
use Rattle.draft.proofs.Behind.{numbered_more}
use Rattle.step_forms.specs.Steps.{routine_steps}
use Rattle.module_formulas.specs.TakersIn.{taker_at, taken_procedure}
use Rattle.module_formulas.proofs.Grown.{taker_at-kept, taker_in-kept}
use Rattle.label_actions.proofs.RoutinesListed.{has_numbered}
use Rattle.label_actions.proofs.UnitLaws.{basis_kept, grows_more}
use Rattle.label_actions.proofs.program.add_procedures.Goals as goal

pub add_routine-requires-clause-unit : goal.add_routine-requires-clause-unit
add_routine-requires-clause-unit c =
    let past = past_at past_procedure c.args.list.now c.loop-one.one-index c.one-item.result c.one-item.is c.loop-one-test.true in
    let longer = c.loop-one.invariant.0.kept.longer in record {
      taker = taker_in-kept _ _ c.loop-one.invariant.0.kept c.args.taker c.requires.taker;
      params = omega (arith, past, ap past_declarations c.deref.ensures.value, c.requires.there, longer);
      variables = omega (arith, past, ap past_declarations c.deref-in-loop-one.ensures.value, c.requires.there, longer);
      body = omega (arith, past, ap past_statements c.deref-in-loop-one-2.ensures.value, c.requires.there, longer);
    }

pub loop-one-preserved : goal.loop-one-preserved
loop-one-preserved c =
    let ts = c.args.pool.now in
    let now = c.loop-one.pool in
    let new = c.add_routine.new.pool in
    let kept = c.loop-one.invariant.0.kept in
    let said = c.in_ok-add_routine.ensures in
    let p = c.one-item.result in
    let past = past_at past_procedure c.args.list.now c.loop-one.one-index p c.one-item.is c.loop-one-test.true in
    let next : c.in_ok-number.number ≡ c.args.first + (c.loop-one.one-index + 1) = omega (arith, c.in_ok-number.ensures, c.loop-one.invariant.1) in (
      grows_more ts now new c.loop-one.out.items c.add_routine.new.out.items c.loop-one.invariant.0 said.kept said.within,
      next,
      λ P a b ones.
          numbered_more (routine_steps P) (taken_procedure (taker_at ts c.args.taker)) (procedure_at ts) c.args.list.now c.loop-one.one-index c.loop-one.number c.in_ok-number.number p c.one-item.is
          c.loop-one-test.true c.in_ok-number.ensures (actions_at now c.loop-one.out.items) (actions_at new c.add_routine.new.out.items) _
          (said.made P (taken_procedure (taker_at ts c.args.taker) c.loop-one.number (procedure_at ts p)) a
          (ones (procedure_routine c.loop-one.number (procedure_at ts p))
          (has_numbered procedure_routine (procedure_at ts) c.args.first c.args.list.now c.loop-one.one-index c.loop-one.number p c.one-item.is c.loop-one-test.true c.loop-one.invariant.1))
          (basis_kept ts now kept c.args.basis.now P c.requires.basis b)
          (record {
            number = refl;
            takers = taker_at-kept ts now kept c.args.taker c.requires.taker;
            params = sym (ap (declarations_at now) c.deref.ensures.value ∙ declarations_at-kept ts now kept p.params.items (omega (arith, past, c.requires.there)));
            variables = sym (ap (declarations_at now) c.deref-in-loop-one.ensures.value ∙ declarations_at-kept ts now kept p.variables.items (omega (arith, past, c.requires.there)));
            body = sym (ap (statements_at now) c.deref-in-loop-one-2.ensures.value ∙ statements_at-kept ts now kept p.body.items (omega (arith, past, c.requires.there)));
            exit = refl;
          }))
          (c.loop-one.invariant.2 P a b ones),
    )
