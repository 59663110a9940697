-- Proves that it is a stage, and that what is followed from it is followed by the written names.
use Rattle.std.proofs.Common.{sym, ap, ◌∙◌}
use Rattle.pcal_tree.specs.Variables.{vars}
use Rattle.step_moves.specs.declared.program.Program as code
use Rattle.step_moves.specs.Programs.{program_at}
use Rattle.run_files.specs.Turns.{script_of}
use Rattle.running.proofs.FollowLaws.{once_told}
use Rattle.running.proofs.following.followed_from.Goals as goal

pub follow-requires-clause-stage : goal.follow-requires-clause-stage
follow-requires-clause-stage c = c.stage-from.ensures.stands c.requires.grounds c.requires.whole c.requires.opens

pub follow-requires-clause-variables : goal.follow-requires-clause-variables
follow-requires-clause-variables c = c.as_slice.ensures ∙ c.requires.grounds.variables ∙ ap (λ (p : code.Program). vars (program_at p)) (sym c.stage-from.ensures.program)

pub returns : goal.returns
returns c = once_told c.args.program c.stage-from.result.program c.stage-from.ensures.program (script_of c.args.script.now) c.follow.result c.follow.ensures.text c.follow.ensures.stop
