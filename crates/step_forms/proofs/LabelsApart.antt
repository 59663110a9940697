-- Where no rule on labels is broken, no two labels of a body are the same.
use Rattle.std.proofs.Common.{◌≡◌, ℕ, suc, List, [], ◌∷◌, map, reverse, Bool, true, false, ◌||◌, bytes_eq, refl}
use Rattle.std.specs.List.{flat_map, AllByRecursion}
use Rattle.std.proofs.lemmas.Bool.{or_parts}
use Rattle.tla_token.specs.Signs.{is_among}
use Rattle.tla_token.specs.declared.rule.Rule.TheVariants.{DoubleLabel}
use Rattle.tla_tree.specs.Tree.{Word, Trees, Each}
use Rattle.pcal_tree.specs.Algorithm.{Statements, Procedure, Process, Main, alone, processes, numbered, procedure_routine, first_procedure, first_process, Algorithm}
use Rattle.pcal_tree.specs.Offences.{offence_if}
use Rattle.pcal_tree.specs.OffencesLabels.{Label, labels, label_words, jump_offences, second_labels, misplaced, of_macro, of_procedure, of_body, of_main, label_offences}
use Rattle.pcal_tree.specs.OffencesSteps.{call_effect, missing_in_body, procedure_effects, outer_effects}
use Rattle.pcal_tree.specs.Paths.{Effect}
use Rattle.pcal_tree.specs.Takers.{Taken, taken_process, taken_main}
use Rattle.pcal_tree.proofs.ClearLabels.{both_none}
use Rattle.action_builder.specs.LabelActions.{procedure_takers, taken_procedures}
use Rattle.action_builder.specs.laws.Jumps.{AllUnlike}

each_to : (P Q : Word → Type 0) → ((x : Word) → P x → Q x) → (xs : List Word) → Each P xs → Each Q xs
each_to P Q f [] h = tt
each_to P Q f (x ∷ xs) h = (f x h.0, each_to P Q f xs h.1)

no_second : (b : Bool) (l : Label) → offence_if b DoubleLabel l.name.place ≡ [] → b ≡ false
no_second true l e = cc
no_second false l e = refl

labels_once : (seen : List Word) (ls : List Label) → second_labels seen ls ≡ [] → Each (λ y. is_among seen y ≡ false) (map (λ (l : Label). l.name.word) ls) × AllUnlike (map (λ (l : Label). l.name.word) ls)
labels_once seen [] e = (tt, tt)
labels_once seen (l ∷ ls) e =
    let k = both_none (offence_if (l.second || is_among seen l.name.word) DoubleLabel l.name.place) (second_labels (l.name.word ∷ seen) ls) e in
    let here = or_parts l.second (is_among seen l.name.word) (no_second (l.second || is_among seen l.name.word) l k.0) in
    let rest = labels_once (l.name.word ∷ seen) ls k.1 in (
      (here.1, each_to _ _ (λ y q. (or_parts (bytes_eq l.name.word y) (is_among seen y) q).1) (map (λ (l : Label). l.name.word) ls) rest.0),
      (each_to _ _ (λ y q. (or_parts (bytes_eq l.name.word y) (is_among seen y) q).0) (map (λ (l : Label). l.name.word) ls) rest.0, rest.1),
    )

body_once : (macro procedure : Bool) (b : Statements) → misplaced macro procedure b ≡ [] → AllUnlike (label_words b)
body_once macro procedure b e = (labels_once [] (labels false b) (both_none (jump_offences _ b) (second_labels [] (labels false b)) e).1).1

-- the labels of each routine are apart
abbrev pub LabelsApart : List Taken → Type 0
LabelsApart = AllByRecursion (λ (t : Taken). AllUnlike (label_words t.routine.body))

module _ (C : Word → Trees → Effect) where
  procedures_apart : (a : Algorithm) (n : ℕ) (ps : List Procedure) → flat_map (of_procedure C) ps ≡ [] → LabelsApart (map (λ u. record { takers = procedure_takers a.main; routine = u }) (numbered procedure_routine n ps))
  procedures_apart a n [] e = tt
  procedures_apart a n (p ∷ ps) e =
      let k = both_none (of_procedure C p) (flat_map (of_procedure C) ps) e in
      (body_once false true p.body (both_none (missing_in_body (procedure_effects C p) p.body) _ k.0).1, procedures_apart a (suc n) ps k.1)

  processes_apart : (n : ℕ) (ps : List Process) → flat_map (λ (p : Process). of_body C p.body) ps ≡ [] → LabelsApart (numbered taken_process n ps)
  processes_apart n [] e = tt
  processes_apart n (p ∷ ps) e =
      let k = both_none (of_body C p.body) (flat_map (λ (q : Process). of_body C q.body) ps) e in
      (body_once false false p.body (both_none (missing_in_body (outer_effects C) p.body) _ k.0).1, processes_apart (suc n) ps k.1)

  main_apart : (a : Algorithm) (m : Main) → of_main C m ≡ [] → LabelsApart (taken_main a m)
  main_apart a (alone ss) e = (body_once false false ss (both_none (missing_in_body (outer_effects C) ss) _ e).1, tt)
  main_apart a (processes ps) e = processes_apart (first_process a) ps e

module _ (a : Algorithm) (h : label_offences a ≡ []) where
  abbrev C : Word → Trees → Effect
  C = call_effect (reverse a.macros)

  pub procedure_labels_apart : LabelsApart (taken_procedures a)
  procedure_labels_apart =
      procedures_apart C a (first_procedure a) a.procedures
      (both_none (flat_map (of_procedure C) a.procedures) (of_main C a.main) (both_none (flat_map of_macro a.macros) _ h).1).0

  pub main_labels_apart : LabelsApart (taken_main a a.main)
  main_labels_apart = main_apart C a a.main (both_none (flat_map (of_procedure C) a.procedures) (of_main C a.main) (both_none (flat_map of_macro a.macros) _ h).1).1
