-- Proves that the processes are those of the program, or that the start is where the run stops.
use Rattle.std.proofs.Common.{Ok, ◌∙◌, ap, sym, map}
use Rattle.step_moves.specs.InMemory.{actor_at}
use Rattle.step_moves.specs.Programs.{program_at}
use Rattle.run_files.specs.Turns.{script_of}
use Rattle.followed_runs.proofs.OwnLaws.{all_own}
use Rattle.followed_runs.proofs.FollowLaws.{untold_shown}
use Rattle.followed_runs.proofs.following.add_all.Goals as goal

pub add_run-requires : goal.add_run-requires
add_run-requires c =
    let told = c.in-Ok.ensures ∙ ap (λ zs. Ok (map (actor_at c.args.stage.now.program.pool.now) zs)) (sym c.deref.ensures.value) in
    record { party = record { stage = c.requires.stage; variables = c.requires.variables; actors = told; own = all_own c.args.stage.now c.deref.result.now told } }

pub returns-in-Err : goal.returns-in-Err
returns-in-Err c =
    untold_shown (program_at c.args.stage.now.program) (script_of c.args.script.now) c.in-Err.stop c.from.result c.args.text.now c.stopped.result c.from.ensures c.in-Err.ensures c.stopped.ensures
