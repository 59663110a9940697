-- Proves that the place is that of the last name.
use Rattle.std.proofs.Common.{List, map, drop, ap, sym, ◌∙◌, ◌+◌}
use Rattle.pcal_tree.specs.declared.algorithm.Process.{Process}
use Rattle.pcal_tree.specs.Algorithm as tree
use Rattle.pcal_tree.specs.InMemory.{process_at}
use Rattle.pcal_tree.specs.Processes.{last_place}
use Rattle.step_moves.proofs.GatherLaws.{from_process, no_process}
use Rattle.step_moves.proofs.gather.last_place.Goals as goal

pub loop-process-preserved : goal.loop-process-preserved
loop-process-preserved c = λ ts.
    let ps = c.args.list.now in
    let i = c.loop-process.process-index in
    ap (λ (p : Process). last_place p.name.place (map (process_at ts) (drop (i + 1) ps))) c.process.view_is
    ∙ ap (λ (zs : List tree.Process). last_place c.loop-process.last zs) (sym (from_process ts ps i c.process-item.result c.process-item.is c.loop-process-test.true))
    ∙ c.loop-process.invariant ts

pub returns : goal.returns
returns c = λ ts.
    ap (λ (zs : List tree.Process). last_place c.loop-process.last zs) (sym (no_process ts c.args.list.now c.loop-process.process-index c.loop-process-test.false)) ∙ c.loop-process.invariant ts
