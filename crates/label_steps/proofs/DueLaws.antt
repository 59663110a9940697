-- The offences of a body's steps are the labels that are missing and the variables that are assigned twice.
use Rattle.std.proofs.Common.{◌≡◌, List, [], ◌∷◌, ◌++◌, Bool, true, false, ◌||◌, Option, Some, None, nat_lt, refl, sym, ap, ◌∙◌, cond, not}
use Rattle.std.specs.List.{list_any, flat_map}
use Rattle.std.specs.Option.{option_or}
use Rattle.std.proofs.lemmas.Grind.{flat_map-append}
use Rattle.std.proofs.lemmas.List.Folds.{list_any-append}
use Rattle.std.proofs.Math.Bool.{or-false}
use Rattle.tla_token.specs.declared.place.Place.{Place}
use Rattle.tla_token.specs.declared.rule.Rule.{Rule}
use Rattle.tla_token.specs.declared.rule.Rule.TheVariants.{FirstLabel, AfterBranch, AssignTwice}
use Rattle.tla_token.specs.declared.rule.Refusal.{Refusal}
use Rattle.tla_token.specs.Rules.{rule_number}
use Rattle.tla_tree.specs.Tree.{Word, Trees}
use Rattle.pcal_tree.specs.Algorithm.{Statement, assign, await, print, assert, skip, branch, either, with, while, goto, macro, call, return, Statements, done, then, mark, Branches, no_branches, or, Macro, Procedure, Process, Main, alone, processes, Algorithm}
use Rattle.pcal_tree.specs.Run.{Partner, no_partner, goto_partner, return_partner, partner_of}
use Rattle.pcal_tree.specs.Offences.{offence_if, first}
use Rattle.pcal_tree.specs.OffencesSteps.{holds, holds_some, due_after, Before, at_first, inside, Visit, visits_inside, visits, visits_of_some, due_offence, while_offence, missing_label, effect_with, assigns_twice, step_offences, missing_in_macro, missing_in_body, procedure_effects, outer_effects}
use Rattle.pcal_tree.specs.Paths.{Effect, Effects, nothing, Path, after_one, has_assigned}
use Rattle.pcal_tree.proofs.FirstLaws.{Below, same_first, lesser_first}
use Rattle.pcal_tree.proofs.SetLaws.{Same, any_flat, any_same, any_none, none_together}
use Rattle.label_jumps.specs.Parted.{missing_in_main, missing_in}
use Rattle.label_jumps.proofs.PartedLaws.{each_parted, both_parted}
use Rattle.label_steps.specs.AssignedTwice.{twice_at, twice_in, twice_in_body, twice_in_main, assigned_twice}
use Rattle.label_steps.specs.MissingLabels.{due_before, due_inside, due_in, due_in_some, due_in_body, due_in_main, missing_labels}

abbrev pub At : Bool → Option Rule → Path → Before
At l r p = record { labelled = l; due = r; path = p }

abbrev Missing : List Visit → List Refusal
Missing vs = flat_map missing_label vs

-- ---- labels that are missing rest on no path

two : (vs ws : List Visit) (xs ys : List Refusal) → Missing vs ≡ xs → Missing ws ≡ ys → Missing (vs ++ ws) ≡ xs ++ ys
two vs ws xs ys h k = flat_map-append missing_label vs ws ∙ (λ i. h i ++ k i)

mutual
  due_inside_is : (E : Effects) (l : Bool) (r : Option Rule) (p : Path) (st : Statement) → Missing (visits_inside E (At l r p) st) ≡ due_inside st
  due_inside_is E l r p (branch e a b) = two (visits E (inside p) a) (visits E (inside p) b) (due_in false None a) (due_in false None b) (due_is E false None p a) (due_is E false None p b)
  due_inside_is E l r p (either bs) = due_some_is E p bs
  due_inside_is E l r p (with bs b) = due_is E false None p b
  due_inside_is E l r p (while e b) = due_is E false None (after_one E (while e b) l p) b
  due_inside_is E l r p (assign ms) = refl
  due_inside_is E l r p (await e) = refl
  due_inside_is E l r p (print e) = refl
  due_inside_is E l r p (assert e) = refl
  due_inside_is E l r p skip = refl
  due_inside_is E l r p (goto n) = refl
  due_inside_is E l r p (macro m ts) = refl
  due_inside_is E l r p (call q ts) = refl
  due_inside_is E l r p return = refl

  pub due_is : (E : Effects) (l : Bool) (r : Option Rule) (p : Path) (b : Statements) → Missing (visits E (At l r p) b) ≡ due_in l r b
  due_is E l r p done = refl
  due_is E l r p (mark n k rest) = due_is E true None (Some []) rest
  due_is E l r p (then at st rest) =
      let more = visits E (At false (due_after st (partner_of rest)) (after_one E st l p)) rest in
      ap (λ (xs : List Refusal). due_before l r at.first st ++ xs)
      (two (visits_inside E (At l r p) st) more (due_inside st) (due_in false (due_after st (partner_of rest)) rest) (due_inside_is E l r p st)
      (due_is E false (due_after st (partner_of rest)) (after_one E st l p) rest))

  due_some_is : (E : Effects) (p : Path) (bs : Branches) → Missing (visits_of_some E (inside p) bs) ≡ due_in_some bs
  due_some_is E p no_branches = refl
  due_some_is E p (or b bs) = two (visits E (inside p) b) (visits_of_some E (inside p) bs) (due_in false None b) (due_in_some bs) (due_is E false None p b) (due_some_is E p bs)

steps_parted : (E : Effects) (l : Bool) (r : Option Rule) (p : Path) (b : Statements) → Same (step_offences E (At l r p) b) (due_in l r b ++ twice_in E (At l r p) b)
steps_parted E l r p b t =
    each_parted missing_label (twice_at E) (visits E (At l r p) b) t
    ∙ ap (λ (xs : List Refusal). list_any t (xs ++ twice_in E (At l r p) b)) (due_is E l r p b)

-- ---- nothing is assigned in macros

never_met : (p : Path) → has_assigned p [] ≡ false
never_met None = refl
never_met (Some xs) = refl

none_assigned : (st : Statement) (j : Partner) → effect_with (λ st. nothing) st j ≡ nothing
none_assigned (assign ms) j = refl
none_assigned (await e) j = refl
none_assigned (print e) j = refl
none_assigned (assert e) j = refl
none_assigned skip j = refl
none_assigned (branch e a b) j = refl
none_assigned (either bs) j = refl
none_assigned (with bs b) j = refl
none_assigned (while e b) j = refl
none_assigned (goto n) j = refl
none_assigned (macro m ts) j = refl
none_assigned (call q ts) no_partner = refl
none_assigned (call q ts) (goto_partner l) = refl
none_assigned (call q ts) (return_partner at) = refl
none_assigned return j = refl

never_twice : (v : Visit) → twice_at (λ st. nothing) v ≡ []
never_twice v =
    ap (λ (e : Effect). offence_if (e.twice || has_assigned v.before.path e.variables) AssignTwice v.place) (none_assigned v.statement v.partner)
    ∙ ap (λ (b : Bool). offence_if b AssignTwice v.place) (never_met v.before.path)

none_of_any : {X : Type 0} (f : X → List Refusal) → ((x : X) → f x ≡ []) → (xs : List X) → flat_map f xs ≡ []
none_of_any f e [] = refl
none_of_any f e (x ∷ xs) = λ i. e x i ++ none_of_any f e xs i

macro_parted : (d : Macro) → Same (missing_in_macro d) (due_in false None d.body)
macro_parted d t =
    steps_parted (λ st. nothing) false None (Some []) d.body t
    ∙ list_any-append t (due_in false None d.body) (twice_in (λ st. nothing) (at_first None) d.body)
    ∙ ap (λ (xs : List Refusal). list_any t (due_in false None d.body) || list_any t xs) (none_of_any (twice_at (λ st. nothing)) never_twice (visits (λ st. nothing) (at_first None) d.body))
    ∙ or-false (list_any t (due_in false None d.body))

-- ---- of an algorithm

each_same : {X : Type 0} (h f g : X → List Refusal) → ((x : X) → Same (h x) (f x ++ g x)) → (xs : List X) → Same (flat_map h xs) (flat_map f xs ++ flat_map g xs)
each_same h f g s xs t =
    any_flat t h xs ∙ any_same (λ x. list_any t (h x)) (λ x. list_any t (f x ++ g x)) (λ x. s x t) xs ∙ sym (any_flat t (λ x. f x ++ g x) xs) ∙ each_parted f g xs t

each_one : {X : Type 0} (h f : X → List Refusal) → ((x : X) → Same (h x) (f x)) → (xs : List X) → Same (flat_map h xs) (flat_map f xs)
each_one h f s xs t = any_flat t h xs ∙ any_same (λ x. list_any t (h x)) (λ x. list_any t (f x)) (λ x. s x t) xs ∙ sym (any_flat t f xs)

body_parted : (E : Effects) (b : Statements) → Same (missing_in_body E b) (due_in_body b ++ twice_in_body E b)
body_parted E b = steps_parted E false (Some FirstLabel) (Some []) b

main_parted : (C : Word → Trees → Effect) (m : Main) → Same (missing_in_main C m) (due_in_main m ++ twice_in_main C m)
main_parted C (alone b) = body_parted (outer_effects C) b
main_parted C (processes ps) =
    each_same (λ (p : Process). missing_in_body (outer_effects C) p.body) (λ (p : Process). due_in_body p.body) (λ (p : Process). twice_in_body (outer_effects C) p.body) (λ p. body_parted (outer_effects C) p.body) ps

all_parted : (C : Word → Trees → Effect) (a : Algorithm) → Same (missing_in C a) (missing_labels a ++ assigned_twice C a)
all_parted C a =
    both_parted (flat_map missing_in_macro a.macros) _ (flat_map (λ (d : Macro). due_in false None d.body) a.macros) [] _ _
    (λ t. each_one missing_in_macro (λ (d : Macro). due_in false None d.body) macro_parted a.macros t
    ∙ sym (list_any-append t (flat_map (λ (d : Macro). due_in false None d.body) a.macros) [] ∙ or-false (list_any t (flat_map (λ (d : Macro). due_in false None d.body) a.macros))))
    (both_parted (flat_map (λ (p : Procedure). missing_in_body (procedure_effects C p) p.body) a.procedures) (missing_in_main C a.main) (flat_map (λ (p : Procedure). due_in_body p.body) a.procedures)
    (flat_map (λ (p : Procedure). twice_in_body (procedure_effects C p) p.body) a.procedures) (due_in_main a.main) (twice_in_main C a.main)
    (each_same (λ (p : Procedure). missing_in_body (procedure_effects C p) p.body) (λ (p : Procedure). due_in_body p.body) (λ (p : Procedure). twice_in_body (procedure_effects C p) p.body)
    (λ p. body_parted (procedure_effects C p) p.body) a.procedures)
    (main_parted C a.main))

-- ---- labels that are missing come first

abbrev High : Refusal → Bool
High r = not (Below 45 r)

abbrev IsLow : Option Rule → Bool
IsLow None = true
IsLow (Some r) = nat_lt (rule_number r) 45

low_chosen : (b : Bool) (r : Rule) → IsLow (Some r) ≡ true → IsLow (cond b (Some r) None) ≡ true
low_chosen true r e = e
low_chosen false r e = refl

low_after : (st : Statement) (j : Partner) → IsLow (due_after st j) ≡ true
low_after (goto n) j = refl
low_after (call p ts) no_partner = refl
low_after (call p ts) (goto_partner l) = refl
low_after (call p ts) (return_partner at) = refl
low_after return j = refl
low_after (branch e a b) j = low_chosen (holds a || holds b) AfterBranch refl
low_after (either bs) j = low_chosen (holds_some bs) AfterBranch refl
low_after (with bs b) j = low_chosen (holds b) AfterBranch refl
low_after (while e b) j = refl
low_after (assign ms) j = refl
low_after (await e) j = refl
low_after (print e) j = refl
low_after (assert e) j = refl
low_after skip j = refl
low_after (macro m ts) j = refl

low_due : (r : Option Rule) (at : Place) → IsLow r ≡ true → list_any High (due_offence r at) ≡ false
low_due None at e = refl
low_due (Some r) at e = ap (λ (b : Bool). not b || false) e

low_while : (st : Statement) (at : Place) → list_any High (while_offence st at) ≡ false
low_while (goto n) at = refl
low_while (call p ts) at = refl
low_while return at = refl
low_while (branch e a b) at = refl
low_while (either bs) at = refl
low_while (with bs b) at = refl
low_while (while e b) at = refl
low_while (assign ms) at = refl
low_while (await e) at = refl
low_while (print e) at = refl
low_while (assert e) at = refl
low_while skip at = refl
low_while (macro m ts) at = refl

low_before : (l : Bool) (r : Option Rule) (at : Place) (st : Statement) → IsLow r ≡ true → list_any High (due_before l r at st) ≡ false
low_before true r at st e = refl
low_before false r at st e = none_together High (due_offence r at) (while_offence st at) (low_due r at e) (low_while st at)

mutual
  low_inside : (st : Statement) → list_any High (due_inside st) ≡ false
  low_inside (branch e a b) = none_together High (due_in false None a) (due_in false None b) (low_in false None a refl) (low_in false None b refl)
  low_inside (either bs) = low_in_some bs
  low_inside (with bs b) = low_in false None b refl
  low_inside (while e b) = low_in false None b refl
  low_inside (goto n) = refl
  low_inside (call p ts) = refl
  low_inside return = refl
  low_inside (assign ms) = refl
  low_inside (await e) = refl
  low_inside (print e) = refl
  low_inside (assert e) = refl
  low_inside skip = refl
  low_inside (macro m ts) = refl

  low_in : (l : Bool) (r : Option Rule) (b : Statements) → IsLow r ≡ true → list_any High (due_in l r b) ≡ false
  low_in l r done e = refl
  low_in l r (mark n k rest) e = low_in true None rest refl
  low_in l r (then at st rest) e =
      none_together High (due_before l r at.first st) (due_inside st ++ due_in false (due_after st (partner_of rest)) rest) (low_before l r at.first st e)
      (none_together High (due_inside st) (due_in false (due_after st (partner_of rest)) rest) (low_inside st) (low_in false (due_after st (partner_of rest)) rest (low_after st (partner_of rest))))

  low_in_some : (bs : Branches) → list_any High (due_in_some bs) ≡ false
  low_in_some no_branches = refl
  low_in_some (or b bs) = none_together High (due_in false None b) (due_in_some bs) (low_in false None b refl) (low_in_some bs)

low_each : {X : Type 0} (f : X → List Refusal) → ((x : X) → list_any High (f x) ≡ false) → (xs : List X) → list_any High (flat_map f xs) ≡ false
low_each f e xs = any_flat High f xs ∙ any_none (λ x. list_any High (f x)) e xs

low_main : (m : Main) → list_any High (due_in_main m) ≡ false
low_main (alone b) = low_in false (Some FirstLabel) b refl
low_main (processes ps) = low_each (λ (p : Process). due_in_body p.body) (λ p. low_in false (Some FirstLabel) p.body refl) ps

low_all : (a : Algorithm) → list_any High (missing_labels a) ≡ false
low_all a =
    none_together High (flat_map (λ (d : Macro). due_in false None d.body) a.macros) _ (low_each (λ (d : Macro). due_in false None d.body) (λ d. low_in false None d.body refl) a.macros)
    (none_together High (flat_map (λ (p : Procedure). due_in_body p.body) a.procedures) (due_in_main a.main) (low_each (λ (p : Procedure). due_in_body p.body) (λ p. low_in false (Some FirstLabel) p.body refl) a.procedures)
    (low_main a.main))

high_chosen : (b : Bool) (at : Place) → list_any (Below 45) (offence_if b AssignTwice at) ≡ false
high_chosen true at = refl
high_chosen false at = refl

high_in : (E : Effects) (p : Before) (b : Statements) → list_any (Below 45) (twice_in E p b) ≡ false
high_in E p b = any_flat (Below 45) (twice_at E) (visits E p b) ∙ any_none (λ v. list_any (Below 45) (twice_at E v)) (λ v. high_chosen (assigns_twice E v) v.place) (visits E p b)

high_each : {X : Type 0} (f : X → List Refusal) → ((x : X) → list_any (Below 45) (f x) ≡ false) → (xs : List X) → list_any (Below 45) (flat_map f xs) ≡ false
high_each f e xs = any_flat (Below 45) f xs ∙ any_none (λ x. list_any (Below 45) (f x)) e xs

high_main : (C : Word → Trees → Effect) (m : Main) → list_any (Below 45) (twice_in_main C m) ≡ false
high_main C (alone b) = high_in (outer_effects C) (at_first (Some FirstLabel)) b
high_main C (processes ps) = high_each (λ (p : Process). twice_in_body (outer_effects C) p.body) (λ p. high_in (outer_effects C) (at_first (Some FirstLabel)) p.body) ps

high_all : (C : Word → Trees → Effect) (a : Algorithm) → list_any (Below 45) (assigned_twice C a) ≡ false
high_all C a =
    none_together (Below 45) (flat_map (λ (p : Procedure). twice_in_body (procedure_effects C p) p.body) a.procedures) (twice_in_main C a.main)
    (high_each (λ (p : Procedure). twice_in_body (procedure_effects C p) p.body) (λ p. high_in (procedure_effects C p) (at_first (Some FirstLabel)) p.body) a.procedures)
    (high_main C a.main)

low_first : (b : Bool) (c : Bool) → (not b || c) ≡ false → b ≡ true
low_first true c e = refl
low_first false c e = cc

pub missing_first : (C : Word → Trees → Effect) (a : Algorithm) → first (missing_in C a) ≡ option_or (first (missing_labels a)) (first (assigned_twice C a))
missing_first C a =
    same_first (missing_in C a) (missing_labels a ++ assigned_twice C a) (all_parted C a)
    ∙ by (missing_labels a) (low_all a)
  where
    by : (xs : List Refusal) → list_any High xs ≡ false → first (xs ++ assigned_twice C a) ≡ option_or (first xs) (first (assigned_twice C a))
    by [] e = refl
    by (x ∷ xs) e =
        lesser_first 45 (x ∷ xs) (assigned_twice C a) (ap (λ (b : Bool). b || list_any (Below 45) xs) (low_first (Below 45 x) (list_any High xs) e)) (high_all C a)
