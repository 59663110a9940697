-- Proves that the one body is the one process.
use Rattle.std.proofs.Common.{ℕ, ap, ◌∙◌}
use Rattle.pcal_tree.specs.InMemory.{statements_at}
use Rattle.step_spots.specs.InMemory.{alone_body}
use Rattle.step_moves.proofs.GatherLaws.{one_alone}
use Rattle.step_moves.proofs.processes.alone.Goals as goal

pub returns : goal.returns
returns c =
    let p = c.args.program.now in
    let ts = p.pool.now in
    let body = statements_at ts c.args.body.now in
    let own = c.alone.ensures ts ∙ ap (λ (n : ℕ). alone_body n p.algorithm.now.name body) c.in_ok-number.ensures in
    one_alone ts c.alone.result c.new-one.result.items c.push.new.self.items _ c.new-one.ensures.items c.in_ok-push.ensures.items own
