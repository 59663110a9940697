-- What is kept: those that are left decide.
use Rattle.std.proofs.Common.{◌≡◌, List, drop}
use Rattle.std.specs.List.{flat_map}
use Rattle.tla_tree.specs.Tree.{Tree}
use Rattle.module_formulas.specs.Unset.{some_unset, procedure_declarations}
use Rattle.module_formulas.proofs.model_values.in_procedures.Given as goal

abbrev pub invariant-loop-one : goal.invariant-loop-one
invariant-loop-one l = (ts : List Tree) → some_unset (flat_map (procedure_declarations ts) (drop l.one-index l.list)) ≡ some_unset (flat_map (procedure_declarations ts) l.list)
