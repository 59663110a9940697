-- Proves that what is followed over the larger pool is the run of what was read before.
use Rattle.std.proofs.Common.{subst, sym, IfOk}
use Rattle.pcal_tree.specs.Program.{Program}
use Rattle.run_files.specs.Turns.{script_of}
use Rattle.running.specs.Ready.{program_read, IsFollowed}
use Rattle.running.proofs.ReadyLaws.{algorithm_kept, program_kept, run_kept}
use Rattle.running.proofs.FollowLaws.{read_apart, read_few}
use Rattle.running.proofs.following.followed_of.Goals as goal

pub followed_on-requires-clause-can : goal.followed_on-requires-clause-can
followed_on-requires-clause-can c = run_kept c.args.pool.now c.grounds.new.pool c.in_ok-made.ensures.kept c.args.checked.now c.requires

pub followed_on-requires-clause-made : goal.followed_on-requires-clause-made
followed_on-requires-clause-made c = λ es.
    let ts = c.args.pool.now in
    let us = c.grounds.new.pool in
    let k = c.args.checked.now in
    let kept = c.in_ok-made.ensures.kept in
    let can = run_kept ts us kept k c.requires in
    c.in_ok-made.ensures.made (program_read us k es) (sym (algorithm_kept ts us kept k c.requires)) can.names (read_apart us k can es) (read_few us k can es)

pub returns : goal.returns
returns c =
    subst (λ (P : Program). IfOk c.followed_on.result (IsFollowed P (script_of c.args.script.now)))
    (program_kept c.args.pool.now c.grounds.new.pool c.in_ok-made.ensures.kept c.args.checked.now c.requires c.args.constants) c.followed_on.ensures
