-- Proves the law `written_out_steps_begin_alike`.
use Rattle.action_builder.proofs.Begins.{begins_expanded}
use Rattle.action_builder.proofs.laws.written_out_steps_begin_alike.Goals as goal

pub returns : goal.returns
returns c = begins_expanded
