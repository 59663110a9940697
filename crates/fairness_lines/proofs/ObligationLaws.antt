-- Obligations that are made of demands in memory are those that are defined.
use Rattle.std.proofs.Common.{◌≡◌, List, [], ◌∷◌, ◌++◌, map, Some, refl, sym, ap}
use Rattle.std.specs.List.{flat_map}
use Rattle.tla_tree.specs.Tree.{Word}
use Rattle.pcal_tree.specs.Algorithm.{Routine, routines}
use Rattle.pcal_tree.specs.OffencesLabels.{label_words}
use Rattle.pcal_tree.specs.Program.{Program}
use Rattle.pcal_tree.specs.Calls.{label_name}
use Rattle.fairness.specs.Demands.{Demand, all_steps, routine_steps, label_steps, demands}
use Rattle.fairness.specs.Obligations.{written_labels, obligation_of, obligations}
use Rattle.fairness_lines.specs.Asked.{asked}
use Rattle.fairness_lines.specs.LinesOf.{obligation_for, every_in}
use Rattle.marked_labels.proofs.LabelLaws.{chosen_all, chosen_kept}

module _ (P : Program) where
  every_is : (us : List Routine) → flat_map (λ u. written_labels P u (label_words u.body)) us ≡ every_in P.naming us
  every_is [] = refl
  every_is (u ∷ us) = λ i. map (label_name P u) (sym (chosen_all u.body) i) ++ every_is us i

  same_obligation : (d : Demand) → obligation_of P d ≡ obligation_for P.naming (every_in P.naming (routines P.algorithm)) (asked P.naming d)
  same_obligation all_steps = λ i. obligation_for P.naming (every_is (routines P.algorithm) i) (asked P.naming all_steps)
  same_obligation (routine_steps t strong u) =
      ap (λ (ls : List Word). record { strong = strong; process = Some t.routine.number; labels = map (label_name P u) ls }) (sym (chosen_kept u.body))
  same_obligation (label_steps t u l) = refl

  same_obligations : (ds : List Demand) → map (obligation_of P) ds ≡ map (obligation_for P.naming (every_in P.naming (routines P.algorithm))) (map (asked P.naming) ds)
  same_obligations [] = refl
  same_obligations (d ∷ ds) = λ i. same_obligation d i ∷ same_obligations ds i

  pub obligations_are : map (obligation_for P.naming (every_in P.naming (routines P.algorithm))) (map (asked P.naming) (demands P.algorithm)) ≡ obligations P
  obligations_are = sym (same_obligations (demands P.algorithm))
