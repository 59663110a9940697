-- What Spec demands of fair steps, in its order ("A PlusCal User's Manual", sections 2.6 and 3.7, fairness): of all processes together, of a process's
-- steps from its own labels or from those of a procedure that it reaches, or of its steps from one label.
use Rattle.std.specs.Prelude.{List, [], ◌∷◌, ◌++◌, map, flat_map, Bool, true, false, cond}
use Rattle.tla_tree.specs.Tree.{Word}
use Rattle.pcal_tree.specs.declared.mark.Fairness.{Fairness}
use Rattle.pcal_tree.specs.declared.mark.Fairness.TheVariants.{Unfair, Weak, Strong}
use Rattle.pcal_tree.specs.Algorithm.{Process, Main, alone, processes, Routine, numbered, first_process, Algorithm}
use Rattle.pcal_tree.specs.Takers.{Taken, taken_process}
use Rattle.fairness.specs.MarkedLabels.{strong_labels}
use Rattle.fairness.specs.ReachedProcedures.{reached}

pub data Demand : Type 0 where
  all_steps : Demand
  routine_steps : Taken → Bool → Routine → Demand  -- of a process; strong; from the labels of this routine that aren't left out
  label_steps : Taken → Routine → Word → Demand  -- of a process; strong; from this label of the routine

-- in a weakly fair process each label marked `:+` has strong fairness of its own
abbrev pub demands_in : Taken → Bool → Routine → List Demand
demands_in t strong u = routine_steps t strong u ∷ cond strong [] (map (label_steps t u) (strong_labels u.body))

abbrev pub demands_of : Algorithm → Fairness → Taken → List Demand
demands_of a Unfair t = []
demands_of a Weak t = flat_map (demands_in t false) (t.routine ∷ reached a t.routine)
demands_of a Strong t = flat_map (demands_in t true) (t.routine ∷ reached a t.routine)

abbrev pub process_demands : Algorithm → List Process → List Demand
process_demands a ps = flat_map (λ ds. ds) (numbered (λ n p. demands_of a p.fairness (taken_process n p)) (first_process a) ps)

-- in a uniprocess algorithm marks have no effect
abbrev pub main_demands : Algorithm → Main → List Demand
main_demands a (alone ss) = []
main_demands a (processes ps) = process_demands a ps

-- `--fair` first, and then the fair processes
abbrev pub demands : Algorithm → List Demand
demands a = cond a.fair (all_steps ∷ []) [] ++ main_demands a a.main
