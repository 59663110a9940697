-- The obligations of Spec, in its order: which steps have weak or strong fairness ("A PlusCal User's Manual", sections 2.6 and 3.7; "Specifying Systems",
-- section 8.6).
use Rattle.std.specs.Prelude.{ℕ, List, [], ◌∷◌, map, flat_map, Bool, true, false, Option, Some, None}
use Rattle.tla_tree.specs.Tree.{Word}
use Rattle.pcal_tree.specs.Algorithm.{Routine, routines}
use Rattle.pcal_tree.specs.OffencesLabels.{label_words}
use Rattle.pcal_tree.specs.Program.{Program}
use Rattle.pcal_tree.specs.Calls.{label_name}
use Rattle.fairness.specs.MarkedLabels.{kept_labels}
use Rattle.fairness.specs.Demands.{Demand, all_steps, routine_steps, label_steps, demands}

pub record Obligation : Type 0 where
  pub strong : Bool
  pub process : Option ℕ  -- its number among the routines, taken for each identifier by itself; none: all processes together
  pub labels : List Word  -- written names: steps from these

abbrev pub written_labels : Program → Routine → List Word → List Word
written_labels P u ls = map (label_name P u) ls

abbrev pub every_label : Program → List Word
every_label P = flat_map (λ u. written_labels P u (label_words u.body)) (routines P.algorithm)

abbrev pub obligation_of : Program → Demand → Obligation
obligation_of P all_steps = record { strong = false; process = None; labels = every_label P }
obligation_of P (routine_steps t strong u) = record { strong = strong; process = Some t.routine.number; labels = written_labels P u (kept_labels u.body) }
obligation_of P (label_steps t u l) = record { strong = true; process = Some t.routine.number; labels = label_name P u l ∷ [] }

abbrev pub obligations : Program → List Obligation
obligations P = map (obligation_of P) (demands P.algorithm)
