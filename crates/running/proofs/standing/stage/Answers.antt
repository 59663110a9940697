-- Proves that it is a stage, where it stands on what was made.
use Rattle.std.proofs.Common.{List, ap, map, ◌∙◌, arith}
use Rattle.tla_tree.specs.Nesting.{greatest}
use Rattle.pcal_tree.specs.declared.algorithm.Procedure.{Procedure}
use Rattle.pcal_tree.specs.InMemory.{procedure_at, past_procedure}
use Rattle.step_moves.specs.Programs.{program_at}
use Rattle.running.proofs.LabelLaws.{procedures_begin_labelled}
use Rattle.running.proofs.standing.stage.Goals as goal

pub returns-clause-stands : goal.returns-clause-stands
returns-clause-stands c = λ h all opens. record {
  pc_is = h.pc_is;
  stack_is = h.stack_is;
  self_is = h.self_is;
  procedures = ap (map (procedure_at c.args.program.pool.now)) c.deref.ensures.value ∙ h.procedures;
  main = h.main;
  procedures_within = (let w = h.procedures_within in omega (arith, w, ap (λ (ps : List Procedure). greatest (map past_procedure ps)) c.deref.ensures.value));
  main_within = h.main_within;
  labelled = procedures_begin_labelled (program_at c.args.program).algorithm opens.labels;
  openable = opens;
  whole = all;
}
