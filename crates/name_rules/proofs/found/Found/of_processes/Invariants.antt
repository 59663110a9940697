-- What is kept: the first offence so far and those that are left give the first of all.
use Rattle.std.proofs.Common.{◌≡◌, List, drop, map}
use Rattle.std.specs.List.{flat_map}
use Rattle.pcal_tree.specs.Algorithm.{Procedure}
use Rattle.pcal_tree.specs.InMemory.{process_at}
use Rattle.pcal_tree.specs.Offences.{first}
use Rattle.pcal_tree.specs.NameUses as names
use Rattle.pcal_tree.specs.OffencesNames.{Calls, in_process}
use Rattle.algorithm_answer.specs.Joined.{joined}
use Rattle.name_rules.specs.Calling.{Means}
use Rattle.declared_rules.specs.UsesSeen.{Sees}
use Rattle.name_rules.proofs.found.Found.of_processes.Given as goal

abbrev pub invariant-loop-one : goal.invariant-loop-one
invariant-loop-one l = (C : Calls) (ps : List Procedure) (s : names.Sight) → Means l.callees C ps → Sees l.sight s
    → joined l.found (first (flat_map (in_process C ps s) (map (process_at l.pool) (drop l.one-index l.list)))) ≡ first (flat_map (in_process C ps s) (map (process_at l.pool) l.list))
