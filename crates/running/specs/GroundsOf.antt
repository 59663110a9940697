-- What a run of a program stands on.
use Rattle.std.specs.Prelude.{◌≡◌, ◌≤◌, List, map, length}
use Rattle.tla_tree.specs.Tree.{Tree}
use Rattle.tla_tree.specs.Nesting.{greatest}
use Rattle.module_tree.specs.Formulas.{self}
use Rattle.pcal_tree.specs.InMemory.{procedure_at, main_at, past_procedure, past_main}
use Rattle.pcal_tree.specs.Program.{Program}
use Rattle.pcal_tree.specs.Variables.{pc, stack, vars}
use Rattle.step_moves.specs.Prepared.{prepared_procedures, prepared_main}
use Rattle.running.specs.declared.made.Grounds.{Grounds}

-- where the pool has these trees
pub record AreGrounds (ts : List Tree) (k : Grounds) (P : Program) : Type 0 where
  pub procedures : map (procedure_at ts) k.procedures.items ≡ prepared_procedures P
  pub main : main_at ts k.main ≡ prepared_main P P.algorithm.main
  pub procedures_within : greatest (map past_procedure k.procedures.items) ≤ length ts
  pub main_within : past_main k.main ≤ length ts
  pub variables : k.variables ≡ vars P
  pub pc_is : k.pc ≡ pc
  pub stack_is : k.stack ≡ stack
  pub self_is : k.this ≡ self
