-- The rules on labels that an algorithm offends against rest on no place.
use Rattle.std.proofs.Common.{◌≡◌, List, [], ◌∷◌, ◌++◌, map, flat_map, reverse, Bool, true, false, ◌||◌, not, codes, None, Some, refl, ap, ◌∙◌}
use Rattle.tla_token.specs.declared.place.Place.{Place}
use Rattle.tla_token.specs.declared.rule.Rule.TheVariants.{LabelInside, UnknownLabel, ReturnOutside, DoubleLabel, FirstLabel}
use Rattle.tla_token.specs.Signs.{is_among}
use Rattle.tla_tree.specs.Tree.{Word, Trees}
use Rattle.tla_tree.specs.laws.Placeless.{trees_placeless}
use Rattle.pcal_tree.specs.Algorithm.{nowhere, Statement, branch, either, with, while, goto, call, return, Statements, done, then, mark, Branches, no_branches, or, Macro, Procedure, Process, Main, alone, processes, Algorithm}
use Rattle.pcal_tree.specs.Offences.{offence_if}
use Rattle.pcal_tree.specs.OffencesLabels.{Label, labels, label_words, labels_of_main, all_labels, Within, within_with, jump_offences_here, jump_offences_inside, jump_offences, jump_offences_of_some, second_labels, misplaced, of_macro, of_procedure, of_body, of_main, label_offences}
use Rattle.pcal_tree.specs.OffencesSteps.{at_first, call_effect, procedure_effects, outer_effects, missing_in_macro, missing_in_body}
use Rattle.pcal_tree.specs.Paths.{Effect, nothing}
use Rattle.pcal_tree.specs.Placeless.{statement_placeless, statements_placeless, branches_placeless, procedures_placeless, macros_placeless, main_placeless, placeless}
use Rattle.translation.proofs.AgainAdded.{calls_bare, outer_bare, own_bare}
use Rattle.translation.proofs.AgainOffences.{rules, rules_two, rules_if, rules_each, step_offences_bare}
use Rattle.translation.proofs.AgainParts.{macro_placeless, procedure_placeless, process_placeless, macros_each, procedures_each, processes_each}
use Rattle.translation.proofs.BareNames.{both, each_list, label_placeless, labels_bare}
use Rattle.translation.proofs.NoPlaces.{all_labels as label_words_bare}

-- ---- labels

abbrev Bare : List Label → List Label → Type 0
Bare xs ys = ys ≡ map label_placeless xs

two : (xs ys us vs : List Label) → Bare xs us → Bare ys vs → Bare (xs ++ ys) (us ++ vs)
two = both label_placeless

main_labels : (m : Main) → Bare (labels_of_main m) (labels_of_main (main_placeless m))
main_labels (alone b) = labels_bare false b
main_labels (processes ps) =
    ap (flat_map (λ (p : Process). labels false p.body)) (processes_each ps)
    ∙ each_list process_placeless label_placeless (λ p. labels false p.body) (λ p. labels false p.body) (λ p. labels_bare false p.body) ps

pub all_labels_bare : (a : Algorithm) → Bare (all_labels a) (all_labels (placeless a))
all_labels_bare a =
    two (flat_map (λ d. labels false d.body) a.macros) (flat_map (λ p. labels false p.body) a.procedures ++ labels_of_main a.main) _ _
    (ap (flat_map (λ (d : Macro). labels false d.body)) (macros_each a.macros)
    ∙ each_list macro_placeless label_placeless (λ d. labels false d.body) (λ d. labels false d.body) (λ d. labels_bare false d.body) a.macros)
    (two (flat_map (λ p. labels false p.body) a.procedures) (labels_of_main a.main) _ _
    (ap (flat_map (λ (p : Procedure). labels false p.body)) (procedures_each a.procedures)
    ∙ each_list procedure_placeless label_placeless (λ p. labels false p.body) (λ p. labels false p.body) (λ p. labels_bare false p.body) a.procedures)
    (main_labels a.main))

-- ---- labels and jumps where none may be

here_bare : (w : Within) (at : Place) (st : Statement) → rules (jump_offences_here w nowhere (statement_placeless st)) ≡ rules (jump_offences_here w at st)
here_bare w at (while e b) = rules_if w.macro w.macro LabelInside nowhere at refl
here_bare w at (goto n) =
    rules_two (offence_if w.macro LabelInside nowhere) (offence_if (not (is_among w.targets n)) UnknownLabel nowhere) (offence_if w.macro LabelInside at) (offence_if (not (is_among w.targets n)) UnknownLabel at)
    (rules_if w.macro w.macro LabelInside nowhere at refl) (rules_if (not (is_among w.targets n)) (not (is_among w.targets n)) UnknownLabel nowhere at refl)
here_bare w at (call p ts) = rules_if w.macro w.macro LabelInside nowhere at refl
here_bare w at return =
    rules_two (offence_if w.macro LabelInside nowhere) (offence_if (not w.procedure) ReturnOutside nowhere) (offence_if w.macro LabelInside at) (offence_if (not w.procedure) ReturnOutside at)
    (rules_if w.macro w.macro LabelInside nowhere at refl) (rules_if (not w.procedure) (not w.procedure) ReturnOutside nowhere at refl)
here_bare w at st = refl

mutual
  inside_jumps : (w : Within) (st : Statement) → rules (jump_offences_inside w (statement_placeless st)) ≡ rules (jump_offences_inside w st)
  inside_jumps w (branch e a b) = rules_two (jump_offences w (statements_placeless a)) (jump_offences w (statements_placeless b)) (jump_offences w a) (jump_offences w b) (jumps_bare w a) (jumps_bare w b)
  inside_jumps w (either bs) = some_jumps w bs
  inside_jumps w (with bs b) = jumps_bare (within_with w) b
  inside_jumps w (while e b) = jumps_bare w b
  inside_jumps w st = refl

  jumps_bare : (w : Within) (b : Statements) → rules (jump_offences w (statements_placeless b)) ≡ rules (jump_offences w b)
  jumps_bare w done = refl
  jumps_bare w (mark n k rest) =
      rules_two (offence_if (w.macro || w.with) LabelInside nowhere) (jump_offences w (statements_placeless rest)) (offence_if (w.macro || w.with) LabelInside n.place) (jump_offences w rest)
      (rules_if (w.macro || w.with) (w.macro || w.with) LabelInside nowhere n.place refl) (jumps_bare w rest)
  jumps_bare w (then at st rest) =
      rules_two (jump_offences_here w nowhere (statement_placeless st)) (jump_offences_inside w (statement_placeless st) ++ jump_offences w (statements_placeless rest)) (jump_offences_here w at.first st)
      (jump_offences_inside w st ++ jump_offences w rest) (here_bare w at.first st)
      (rules_two (jump_offences_inside w (statement_placeless st)) (jump_offences w (statements_placeless rest)) (jump_offences_inside w st) (jump_offences w rest) (inside_jumps w st) (jumps_bare w rest))

  some_jumps : (w : Within) (bs : Branches) → rules (jump_offences_of_some w (branches_placeless bs)) ≡ rules (jump_offences_of_some w bs)
  some_jumps w no_branches = refl
  some_jumps w (or b bs) =
      rules_two (jump_offences w (statements_placeless b)) (jump_offences_of_some w (branches_placeless bs)) (jump_offences w b) (jump_offences_of_some w bs) (jumps_bare w b) (some_jumps w bs)

second_bare : (seen : List Word) (ls : List Label) → rules (second_labels seen (map label_placeless ls)) ≡ rules (second_labels seen ls)
second_bare seen [] = refl
second_bare seen (l ∷ ls) =
    rules_two (offence_if (l.second || is_among seen l.name.word) DoubleLabel nowhere) (second_labels (l.name.word ∷ seen) (map label_placeless ls))
    (offence_if (l.second || is_among seen l.name.word) DoubleLabel l.name.place) (second_labels (l.name.word ∷ seen) ls)
    (rules_if (l.second || is_among seen l.name.word) (l.second || is_among seen l.name.word) DoubleLabel nowhere l.name.place refl) (second_bare (l.name.word ∷ seen) ls)

misplaced_bare : (macro procedure : Bool) (b : Statements) → rules (misplaced macro procedure (statements_placeless b)) ≡ rules (misplaced macro procedure b)
misplaced_bare macro procedure b =
    rules_two (jump_offences (within (label_words (statements_placeless b))) (statements_placeless b)) (second_labels [] (labels false (statements_placeless b)))
    (jump_offences (within (label_words b)) b) (second_labels [] (labels false b))
    (ap (λ (ls : List Word). rules (jump_offences (within ls) (statements_placeless b))) (label_words_bare false b) ∙ jumps_bare (within (label_words b)) b)
    (ap (λ (ls : List Label). rules (second_labels [] ls)) (labels_bare false b) ∙ second_bare [] (labels false b))
  where
    within : List Word → Within
    within ls = record { macro = macro; with = false; procedure = procedure; targets = codes "Done" ∷ ls }

-- ---- of an algorithm

macro_labels : (d : Macro) → rules (of_macro (macro_placeless d)) ≡ rules (of_macro d)
macro_labels d =
    rules_two (missing_in_macro (macro_placeless d)) (misplaced true false (statements_placeless d.body)) (missing_in_macro d) (misplaced true false d.body)
    (step_offences_bare (λ st. nothing) (λ st. nothing) (λ st. refl) (at_first None) d.body) (misplaced_bare true false d.body)

module _ (C D : Word → Trees → Effect) (same : (m : Word) (ts : Trees) → D m (trees_placeless ts) ≡ C m ts) where
  procedure_labels : (p : Procedure) → rules (of_procedure D (procedure_placeless p)) ≡ rules (of_procedure C p)
  procedure_labels p =
      rules_two (missing_in_body (procedure_effects D (procedure_placeless p)) (statements_placeless p.body)) (misplaced false true (statements_placeless p.body))
      (missing_in_body (procedure_effects C p) p.body) (misplaced false true p.body)
      (step_offences_bare (procedure_effects C p) (procedure_effects D (procedure_placeless p)) (own_bare C D same p) (at_first (Some FirstLabel)) p.body) (misplaced_bare false true p.body)

  body_labels : (b : Statements) → rules (of_body D (statements_placeless b)) ≡ rules (of_body C b)
  body_labels b =
      rules_two (missing_in_body (outer_effects D) (statements_placeless b)) (misplaced false false (statements_placeless b)) (missing_in_body (outer_effects C) b) (misplaced false false b)
      (step_offences_bare (outer_effects C) (outer_effects D) (outer_bare C D same) (at_first (Some FirstLabel)) b) (misplaced_bare false false b)

  of_main_bare : (m : Main) → rules (of_main D (main_placeless m)) ≡ rules (of_main C m)
  of_main_bare (alone b) = body_labels b
  of_main_bare (processes ps) =
      ap (λ (qs : List Process). rules (flat_map (λ p. of_body D p.body) qs)) (processes_each ps)
      ∙ rules_each process_placeless (λ p. of_body D p.body) (λ p. of_body C p.body) (λ p. body_labels p.body) ps

pub label_offences_bare : (a : Algorithm) → rules (label_offences (placeless a)) ≡ rules (label_offences a)
label_offences_bare a =
    rules_two (flat_map of_macro (macros_placeless a.macros)) (flat_map (of_procedure D) (procedures_placeless a.procedures) ++ of_main D (main_placeless a.main))
    (flat_map of_macro a.macros) (flat_map (of_procedure C) a.procedures ++ of_main C a.main)
    (ap (λ (ds : List Macro). rules (flat_map of_macro ds)) (macros_each a.macros) ∙ rules_each macro_placeless of_macro of_macro macro_labels a.macros)
    (rules_two (flat_map (of_procedure D) (procedures_placeless a.procedures)) (of_main D (main_placeless a.main)) (flat_map (of_procedure C) a.procedures) (of_main C a.main)
    (ap (λ (ps : List Procedure). rules (flat_map (of_procedure D) ps)) (procedures_each a.procedures)
    ∙ rules_each procedure_placeless (of_procedure D) (of_procedure C) (procedure_labels C D (calls_bare a.macros)) a.procedures)
    (of_main_bare C D (calls_bare a.macros) a.main))
  where
    C : Word → Trees → Effect
    C = call_effect (reverse a.macros)

    D : Word → Trees → Effect
    D = call_effect (reverse (macros_placeless a.macros))
