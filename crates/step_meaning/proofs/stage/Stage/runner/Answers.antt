-- Proves that a process in a prepared routine is ready, and which it stands for.
use Rattle.std.proofs.Common.{sym, ap}
use Rattle.tla_tree.specs.Tree.{Name}
use Rattle.pcal_tree.specs.Algorithm.{Routine}
use Rattle.step_meaning.proofs.RunnerLaws.{prepared_names, prepared_known}
use Rattle.step_meaning.proofs.stage.Stage.runner.Goals as goal

pub returns-clause-ready : goal.returns-clause-ready
returns-clause-ready c = record {
  pc_is = c.requires.stage.pc_is;
  stack_is = c.requires.stage.stack_is;
  self_is = c.requires.stage.self_is;
  procedures = c.requires.stage.procedures;
  within = c.requires.stage.procedures_within;
  labelled = c.requires.stage.labelled;
  variables = prepared_known c.args.self.now c.args.routine c.requires.routine.0 c.requires.routine.1;
}

pub returns-clause-runs : goal.returns-clause-runs
returns-clause-runs c u h = record {
  identifier = sym c.as_ref.ensures.value;
  place = ap (λ (n : Name). n.place) (sym c.name.view_is);
  number = ap (λ (w : Routine). w.number) (sym h.prepared);
  spread = ap (λ (w : Routine). w.spread) (sym h.prepared);
  names = prepared_names c.args.self.now c.args.routine u h;
}
