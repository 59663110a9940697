-- Proves that variables count before the body.
use Rattle.std.proofs.Common.{ap, ◌∙◌}
use Rattle.tla_token.specs.Limits.{deepest_statement}
use Rattle.pcal_tree.specs.InMemory.{statements_at}
use Rattle.expansion_size.specs.FramesIn.{after_all}
use Rattle.expansion_size.proofs.algorithm.routine.Goals as goal

pub returns : goal.returns
returns c =
    c.statements.ensures ∙ ap (after_all c.args.pool.now c.args.macros.now c.args.frames.now (statements_at c.args.pool.now c.args.body.now) deepest_statement) (c.declared-so_far.ensures deepest_statement)
