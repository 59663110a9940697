-- Proves that there are as many prepared processes.
use Rattle.std.proofs.Common.{List, length, sym, ap, ◌∙◌}
use Rattle.pcal_tree.specs.declared.algorithm.Process.{Process}
use Rattle.step_moves.specs.Programs.{program_at}
use Rattle.step_meaning.proofs.MainLaws.{prepared_many}
use Rattle.step_meaning.proofs.routines.processes.Goals as goal

pub several-requires-clause-many : goal.several-requires-clause-many
several-requires-clause-many c =
    let p = c.args.origin.now.program in
    ap (λ (l : List Process). length l) c.deref-in-Processes-main.ensures.value
    ∙ prepared_many (program_at p) p.pool.now c.args.main.now c.args.origin.now.main.now c.requires.all c.requires.origin.main c.in-Processes.list c.in-Processes-main.ready c.in-Processes.is c.in-Processes-main.is
    ∙ ap (λ (l : List Process). length l) (sym c.deref.ensures.value)
