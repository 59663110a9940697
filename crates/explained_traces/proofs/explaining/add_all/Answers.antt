-- Proves that the processes are those of the program, or that none is told and no state is shown.
use Rattle.std.proofs.Common.{Ok, refl, ◌∙◌, ap, sym, map}
use Rattle.tla_value.specs.States.{value_of}
use Rattle.pcal_tree.specs.Processes.{actors}
use Rattle.run_files.specs.InMemory.{trouble_of}
use Rattle.step_moves.specs.StatesOf.{state_of}
use Rattle.step_meaning.proofs.StandLaws.{if_ok}
use Rattle.step_moves.specs.InMemory.{actor_at}
use Rattle.step_moves.specs.Programs.{program_at}
use Rattle.followed_runs.proofs.OwnLaws.{all_own}
use Rattle.explained_traces.proofs.TraceLaws.{told_shown, untold_shown}
use Rattle.explained_traces.proofs.explaining.add_all.Goals as goal

pub add_states-requires-clause-judge : goal.add_states-requires-clause-judge
add_states-requires-clause-judge c =
    let told = c.in-Ok.ensures ∙ ap (λ zs. Ok (map (actor_at c.args.stage.now.program.pool.now) zs)) (sym c.deref.ensures.value) in
    record { party = record { stage = c.requires.stage; variables = c.requires.variables; actors = told; own = all_own c.args.stage.now c.deref.result.now told }; ready = c.requires.ready }

pub returns-in-Ok : goal.returns-in-Ok
returns-in-Ok c =
    let P = program_at c.args.stage.now.program in
    let told = c.in-Ok.ensures ∙ ap (λ zs. Ok (map (actor_at c.args.stage.now.program.pool.now) zs)) (sym c.deref.ensures.value) in
    if_ok _ _ c.add_states.result c.add_states.ensures
    (λ o g m a. told_shown P m (value_of c.args.asked.now.constants.now) (map state_of c.args.trace.now) _ (actors P) c.args.text.now c.add_states.new.text o told (g m a))

pub returns-in_ok-trouble_by-in-Err : goal.returns-in_ok-trouble_by-in-Err
returns-in_ok-trouble_by-in-Err c = λ m a.
    let P = program_at c.args.stage.now.program in
    untold_shown P m (value_of c.args.asked.now.constants.now) (map state_of c.args.trace.now) (trouble_of c.in_ok-trouble_by-in-Err.field-0) (actors P) _ c.args.text.now
    (c.in_ok-trouble_by-in-Err.ensures (actors P) c.in-Err.ensures) refl
