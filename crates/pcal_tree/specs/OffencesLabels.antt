-- Labels, jumps and calls where none may be, second labels, and all that offends against the rules on labels ("A PlusCal User's Manual", section 3.7, labels).
use Rattle.std.specs.Prelude.{List, [], ◌∷◌, ◌++◌, reverse, map, Bool, true, false, ◌||◌, not, codes}
use Rattle.std.specs.List.{flat_map}
use Rattle.tla_token.specs.declared.place.Place.{Place}
use Rattle.tla_token.specs.declared.rule.Rule.TheVariants.{LabelInside, UnknownLabel, ReturnOutside, DoubleLabel}
use Rattle.tla_token.specs.declared.rule.Refusal.{Refusal}
use Rattle.tla_token.specs.Signs.{is_among}
use Rattle.tla_tree.specs.Tree.{Word, Trees}
use Rattle.pcal_tree.specs.Algorithm.{Name, Statement, branch, either, with, while, goto, call, return, Statements, done, then, mark, Branches, no_branches, or, Macro, Procedure, Main, alone, processes, Algorithm}
use Rattle.pcal_tree.specs.Offences.{offence_if}
use Rattle.pcal_tree.specs.Paths.{Effect}
use Rattle.pcal_tree.specs.OffencesSteps.{call_effect, missing_in_macro, missing_in_body, procedure_effects, outer_effects}

-- ---- labels and jumps where none may be

-- a label, and whether another one is right before it
pub record Label : Type 0 where
  pub name : Name
  pub second : Bool

-- the labels of a body, in the order of the text; true where a label is right before the statements
abbrev mutual
  pub labels_of_one : Statement → List Label
  labels_of_one (branch e a b) = labels false a ++ labels false b
  labels_of_one (either bs) = labels_of_some bs
  labels_of_one (with bs b) = labels false b
  labels_of_one (while e b) = labels false b
  labels_of_one _ = []

  pub labels : Bool → Statements → List Label
  labels l done = []
  labels l (mark n k rest) = record { name = n; second = l } ∷ labels true rest
  labels l (then at st rest) = labels_of_one st ++ labels false rest

  pub labels_of_some : Branches → List Label
  labels_of_some no_branches = []
  labels_of_some (or b bs) = labels false b ++ labels_of_some bs

abbrev pub label_words : Statements → List Word
label_words b = map (λ l. l.name.word) (labels false b)

abbrev pub labels_of_main : Main → List Label
labels_of_main (alone b) = labels false b
labels_of_main (processes ps) = flat_map (λ p. labels false p.body) ps

-- all labels of an algorithm, also those in macros, which may have none
abbrev pub all_labels : Algorithm → List Label
all_labels a = flat_map (λ d. labels false d.body) a.macros ++ (flat_map (λ p. labels false p.body) a.procedures ++ labels_of_main a.main)

-- where statements are: in a macro, in a `with` of another body, in a procedure
pub record Within : Type 0 where
  pub macro : Bool
  pub with : Bool
  pub procedure : Bool
  pub targets : List Word  -- of `goto`

abbrev pub within_with : Within → Within
within_with w = record { macro = w.macro; with = true; procedure = w.procedure; targets = w.targets }

-- in a macro each of these offends, and `goto` and `return` by the rules that they have elsewhere too
abbrev pub jump_offences_here : Within → Place → Statement → List Refusal
jump_offences_here w at (while e b) = offence_if w.macro LabelInside at
jump_offences_here w at (goto n) = offence_if w.macro LabelInside at ++ offence_if (not (is_among w.targets n)) UnknownLabel at
jump_offences_here w at (call p ts) = offence_if w.macro LabelInside at
jump_offences_here w at return = offence_if w.macro LabelInside at ++ offence_if (not w.procedure) ReturnOutside at
jump_offences_here w at _ = []

abbrev mutual
  pub jump_offences_inside : Within → Statement → List Refusal
  jump_offences_inside w (branch e a b) = jump_offences w a ++ jump_offences w b
  jump_offences_inside w (either bs) = jump_offences_of_some w bs
  jump_offences_inside w (with bs b) = jump_offences (within_with w) b
  jump_offences_inside w (while e b) = jump_offences w b
  jump_offences_inside w _ = []

  pub jump_offences : Within → Statements → List Refusal
  jump_offences w done = []
  jump_offences w (mark n k rest) = offence_if (w.macro || w.with) LabelInside n.place ++ jump_offences w rest
  jump_offences w (then at st rest) = jump_offences_here w at.first st ++ (jump_offences_inside w st ++ jump_offences w rest)

  pub jump_offences_of_some : Within → Branches → List Refusal
  jump_offences_of_some w no_branches = []
  jump_offences_of_some w (or b bs) = jump_offences w b ++ jump_offences_of_some w bs

-- second labels of one statement or of one name
abbrev pub second_labels : List Word → List Label → List Refusal
second_labels seen [] = []
second_labels seen (l ∷ ls) = offence_if (l.second || is_among seen l.name.word) DoubleLabel l.name.place ++ second_labels (l.name.word ∷ seen) ls

-- ---- of an algorithm

-- what is elsewhere than it may be, in a macro or procedure or in neither
abbrev pub misplaced : Bool → Bool → Statements → List Refusal
misplaced macro procedure b =
    jump_offences (record { macro = macro; with = false; procedure = procedure; targets = codes "Done" ∷ label_words b }) b
    ++ second_labels [] (labels false b)

abbrev pub of_macro : Macro → List Refusal
of_macro d = missing_in_macro d ++ misplaced true false d.body

-- where macro calls assign what C says
abbrev pub of_procedure : (Word → Trees → Effect) → Procedure → List Refusal
of_procedure C p = missing_in_body (procedure_effects C p) p.body ++ misplaced false true p.body

abbrev pub of_body : (Word → Trees → Effect) → Statements → List Refusal
of_body C b = missing_in_body (outer_effects C) b ++ misplaced false false b

abbrev pub of_main : (Word → Trees → Effect) → Main → List Refusal
of_main C (alone b) = of_body C b
of_main C (processes ps) = flat_map (λ p. of_body C p.body) ps

abbrev pub label_offences_by : (Word → Trees → Effect) → Algorithm → List Refusal
label_offences_by C a = flat_map of_macro a.macros ++ (flat_map (of_procedure C) a.procedures ++ of_main C a.main)

-- against the rules on labels and on what is assigned twice; those of one rule are in the order of the text
abbrev pub label_offences : Algorithm → List Refusal
label_offences a = label_offences_by (call_effect (reverse a.macros)) a
