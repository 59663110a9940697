-- What a run stands on stays so as the pool grows.
use Rattle.std.proofs.Common.{List, [], ◌∙◌, arith}
use Rattle.tla_tree.specs.Tree.{Tree}
use Rattle.tla_tree.specs.Pool.{Keeps}
use Rattle.pcal_tree.specs.Program.{Program}
use Rattle.pcal_tree.proofs.InMemoryGrown.{main_at-kept}
use Rattle.expansion.proofs.AlgorithmLaws.{procedures_kept}
use Rattle.running.specs.declared.made.Grounds.{Grounds}
use Rattle.running.specs.GroundsOf.{AreGrounds}

pub grounds_kept : (ts us : List Tree) (k : Grounds) (P : Program) → Keeps ts us → AreGrounds ts k P → AreGrounds us k P
grounds_kept ts us k P kept h = record {
  procedures = procedures_kept ts us kept [] k.procedures.items h.procedures_within ∙ h.procedures;
  main = main_at-kept ts us kept k.main h.main_within ∙ h.main;
  procedures_within = (let w = h.procedures_within in omega (arith, w, kept.longer));
  main_within = (let w = h.main_within in omega (arith, w, kept.longer));
  variables = h.variables;
  pc_is = h.pc_is;
  stack_is = h.stack_is;
  self_is = h.self_is;
}
