-- What Spec demands of fair steps, as far as its formulas and obligations read it: by numbers of routines and written names of labels.
use Rattle.std.specs.Prelude.{ℕ, List, [], ◌∷◌, map, Bool, true, false, cond, Option, Some, None}
use Rattle.std.specs.List.{flat_map}
use Rattle.tla_tree.specs.Tree.{Word}
use Rattle.pcal_tree.specs.Algorithm.{Statements, Process, Main, alone, processes, Routine, numbered, first_process, Algorithm, Naming}
use Rattle.pcal_tree.specs.Takers.{Takers, taken_process}
use Rattle.fairness.specs.Demands.{Demand, all_steps, routine_steps, label_steps, demands_of}
use Rattle.pcal_tree.specs.declared.mark.Fairness.{Fairness}
use Rattle.pcal_tree.specs.declared.mark.Fairness.TheVariants.{Unfair, Weak, Strong}
use Rattle.marked_labels.specs.declared.labels.Wanted.TheVariants as wanted
use Rattle.marked_labels.specs.Wanted.{written_label, labels_of}

pub data Asked : Type 0 where
  of_all : Asked
  of_routine : Takers → ℕ → Bool → ℕ → Statements → Asked  -- who takes the steps of a process, its number; strong; a routine's number and body
  of_label : Takers → ℕ → ℕ → Word → Asked  -- of a process; a routine's number and the written name of a label

abbrev pub asked : Naming → Demand → Asked
asked f all_steps = of_all
asked f (routine_steps t strong u) = of_routine t.takers t.routine.number strong u.number u.body
asked f (label_steps t u l) = of_label t.takers t.routine.number u.number (written_label f u.number l)

-- of the steps of one routine
abbrev pub asked_of : Naming → Takers → ℕ → Bool → ℕ → Statements → List Asked
asked_of f t n strong m b = of_routine t n strong m b ∷ cond strong [] (map (of_label t n m) (labels_of f m wanted.Strong b))

abbrev pub asked_in : Naming → Takers → ℕ → Bool → Routine → List Asked
asked_in f t n strong u = asked_of f t n strong u.number u.body

abbrev pub asked_of_process : Naming → Algorithm → ℕ → Process → List Asked
asked_of_process f a n p = map (asked f) (demands_of a p.fairness (taken_process n p))

-- of processes, of which the first has this number
abbrev pub asked_of_processes : Naming → Algorithm → ℕ → List Process → List Asked
asked_of_processes f a n ps = flat_map (λ these. these) (numbered (asked_of_process f a) n ps)

abbrev pub asked_of_main : Naming → Algorithm → Main → List Asked
asked_of_main f a (alone ss) = []
asked_of_main f a (processes ps) = asked_of_processes f a (first_process a) ps

-- whether a process has fairness, and whether it is strong
abbrev pub strength_of : Fairness → Option Bool
strength_of Unfair = None
strength_of Weak = Some false
strength_of Strong = Some true
