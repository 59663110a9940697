-- Proves that the label of a procedure is found that the value names.
use Rattle.std.proofs.Common.{ℕ, ◌+◌, ap, sym, ◌∙◌, arith}
use Rattle.std.specs.Option.{option_map}
use Rattle.tla_tree.proofs.PoolNumbers.{past_at}
use Rattle.pcal_tree.specs.InMemory.{past_procedure, past_statements}
use Rattle.step_moves.specs.Programs.{program_at}
use Rattle.step_meaning.specs.StandsAt.{stand_at}
use Rattle.step_meaning.proofs.StandLaws.{made_procedure, rest_found, rest_missed, rest_ended}
use Rattle.step_meaning.proofs.stands.stand_in_procedures.Goals as goal

pub stand_in-requires : goal.stand_in-requires
stand_in-requires c =
    let past = past_at past_procedure c.args.stage.now.procedures.now c.loop-i.i c.index-procedures-i.result c.index-procedures-i.is c.loop-i-test.true in
    record { within = omega (arith, past, ap past_statements c.deref-in-loop-i-2.ensures.value, c.requires.stage.procedures_within) }

pub returns-in-Some-clause-found : goal.returns-in-Some-clause-found
returns-in-Some-clause-found c =
    let ts = c.args.stage.now.program.pool.now in
    rest_found ts (program_at c.args.stage.now.program) c.args.label.now c.args.stage.now.procedures.now c.requires.stage.procedures c.loop-i.i c.index-procedures-i.result _ (stand_at ts c.in-Some.stand) c.index-procedures-i.is c.loop-i-test.true
    (λ j. made_procedure ts ((c.in_ok-sum.ensures ∙ ap (λ (m : ℕ). m + c.loop-i.i) c.first_procedure-first.ensures) j) c.index-procedures-i.result (c.deref.ensures.value j) (c.deref-in-loop-i.ensures.value j) (c.deref-in-loop-i-2.ensures.value j))
    (sym (ap (option_map (stand_at ts)) c.in-Some.is) ∙ c.in_ok-stand.ensures.found)
    ∙ c.loop-i.invariant

pub loop-i-preserved : goal.loop-i-preserved
loop-i-preserved c =
    let ts = c.args.stage.now.program.pool.now in
    rest_missed ts (program_at c.args.stage.now.program) c.args.label.now c.args.stage.now.procedures.now c.requires.stage.procedures c.loop-i.i c.index-procedures-i.result _ c.index-procedures-i.is c.loop-i-test.true
    (λ j. made_procedure ts ((c.in_ok-sum.ensures ∙ ap (λ (m : ℕ). m + c.loop-i.i) c.first_procedure-first.ensures) j) c.index-procedures-i.result (c.deref.ensures.value j) (c.deref-in-loop-i.ensures.value j) (c.deref-in-loop-i-2.ensures.value j))
    (sym (ap (option_map (stand_at ts)) c.in-None.is) ∙ c.in_ok-stand.ensures.found)
    ∙ c.loop-i.invariant

pub returns-clause-found : goal.returns-clause-found
returns-clause-found c =
    rest_ended c.args.stage.now.program.pool.now (program_at c.args.stage.now.program) c.args.label.now c.args.stage.now.procedures.now c.requires.stage.procedures c.loop-i.i (omega (arith, c.loop-i-test.false))
    ∙ c.loop-i.invariant
