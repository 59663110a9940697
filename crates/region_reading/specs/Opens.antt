-- The most forms that are open at a token of what was read, where bare tells it of an expression.
-- A form counts from its own token on: a list behind bullets to its end, brackets to theirs, an open form and a prefix operator to the end of the last part, an infix operator to that of its chain.
use Rattle.std.specs.Prelude.{◌≡◌, ℕ, ◌+◌, ◌≤◌, max, List, [], ◌∷◌, Option, Some, None}
use Rattle.tla_token.specs.declared.place.Place.{Place}
use Rattle.tla_tree.specs.Tree.{Word}
use Rattle.tla_tree.specs.Lexical.{Token}
use Rattle.tla_tree.specs.Spelling.{Phrase}
use Rattle.module_tree.specs.TextFront.{Text}
use Rattle.module_tree.specs.Walk.{Located, walk}
use Rattle.module_tree.specs.FileParts.{region_of, inside_region}
use Rattle.module_tree.specs.FileUnits.{units_in}
use Rattle.module_tree.specs.Grammar.{ItemForm, test_form, setting_form, unchanged_form, exists_form, local_form, choice_form, either_form, ListForm, last_item, more_items, BranchForms, last_branch, more_branches, CallForm, call_form, call_with_form, WayForm, one_form, some_form}
use Rattle.module_tree.specs.Units.{OverForm, GuardForm, FairForm, SpecForm, start_line, steps_line, fair_line, fair_specs, ParameterForm, BodyForm, all_form, some_form, UnitForm, constant_form, variables_form, definition_form, vars_form, process_set_form, init_form, action_form, terminating_form, next_form, spec_form, termination_form}
use Rattle.region_reading.specs.UnitReader.{form_in}

-- ---- items
abbrev mutual
  pub item_opens : (Phrase → ℕ) → ItemForm → ℕ
  item_opens bare (test_form p a q) = 1 + bare a
  item_opens bare (setting_form p x q s a) = 1 + bare a
  item_opens bare (unchanged_form p q ns s) = 2
  item_opens bare (exists_form p q x s a t is) = 1 + max (bare a) (list_opens bare is)
  item_opens bare (local_form p q x s a t is) = 1 + max (bare a) (list_opens bare is)
  item_opens bare (choice_form p a q is s js) = 1 + max (bare a) (max (list_opens bare is) (list_opens bare js))
  item_opens bare (either_form bs) = branches_open bare bs

  pub list_opens : (Phrase → ℕ) → ListForm → ℕ
  list_opens bare (last_item p i) = 1 + item_opens bare i
  list_opens bare (more_items p i is) = max (1 + item_opens bare i) (list_opens bare is)

  pub branches_open : (Phrase → ℕ) → BranchForms → ℕ
  branches_open bare (last_branch p is) = 1 + list_opens bare is
  branches_open bare (more_branches p is bs) = max (1 + list_opens bare is) (branches_open bare bs)

-- ---- forms behind bullets
abbrev pub bullets_open : {A : Type 0} → (A → ℕ) → List (Place × A) → ℕ
bullets_open opens [] = 0
bullets_open opens (x ∷ xs) = max (1 + opens x.1) (bullets_open opens xs)

-- ---- calls and ways
abbrev pub call_opens : (Phrase → ℕ) → CallForm → ℕ
call_opens bare (call_form p x) = 0
call_opens bare (call_with_form p x q a s) = 1 + bare a

abbrev pub way_opens : (Phrase → ℕ) → WayForm → ℕ
way_opens bare (one_form u) = call_opens bare u
way_opens bare (some_form p q x s a t u) = 1 + max (bare a) (call_opens bare u)

-- ---- fairness

-- with n open behind `\A x \in S :`, or behind `(e) /\`
abbrev pub over_opens : (Phrase → ℕ) → Option OverForm → ℕ → ℕ
over_opens bare None n = n
over_opens bare (Some f) n = 1 + max (bare f.set) n

abbrev pub guard_opens : (Phrase → ℕ) → Option GuardForm → ℕ → ℕ
guard_opens bare None n = n
guard_opens bare (Some f) n = max (1 + bare f.test) (1 + n)

abbrev pub fair_opens : (Phrase → ℕ) → FairForm → ℕ
fair_opens bare f = over_opens bare f.over (1 + guard_opens bare f.guard (call_opens bare f.action))

abbrev pub spec_opens : (Phrase → ℕ) → SpecForm → ℕ
spec_opens bare (start_line p) = 0
spec_opens bare (steps_line p q s t u) = 2
spec_opens bare (fair_line f) = fair_opens bare f

-- ---- units
abbrev pub parameters_open : Option ParameterForm → ℕ
parameters_open None = 0
parameters_open (Some f) = 1

abbrev pub parameter_opens : Option (Place × Place × Word × Place) → ℕ
parameter_opens None = 0
parameter_opens (Some f) = 1

abbrev pub body_opens : (Phrase → ℕ) → BodyForm → ℕ
body_opens bare (all_form is) = list_opens bare is
body_opens bare (some_form ys) = bullets_open (way_opens bare) ys

abbrev pub unit_opens : (Phrase → ℕ) → UnitForm → ℕ
unit_opens bare (constant_form p ns) = 0
unit_opens bare (variables_form p ns) = 0
unit_opens bare (definition_form p x f q a) = max (parameters_open f) (bare a)
unit_opens bare (vars_form p q s ns t) = 1
unit_opens bare (process_set_form p q a) = bare a
unit_opens bare (init_form p q es) = bullets_open bare es
unit_opens bare (action_form p x f q b) = max (parameter_opens f) (body_opens bare b)
unit_opens bare (terminating_form p q s t a u v w z) = 1 + max (1 + bare a) 1
unit_opens bare (next_form p q ys) = bullets_open (way_opens bare) ys
unit_opens bare (spec_form p q s t u f fs) = bullets_open (spec_opens bare) ((s, start_line t) ∷ (u, f) ∷ fair_specs fs)
unit_opens bare (termination_form p q s t u a v) = 1 + (1 + bare a)

-- ---- translations

-- each of these that is a unit opens so many forms at most
abbrev pub UnitsOpen : (Phrase → ℕ) → ℕ → List (List Token) → Type 0
UnitsOpen bare l [] = Unit {0}
UnitsOpen bare l (ts ∷ tss) = ((f : UnitForm) → form_in ts ≡ Some f → unit_opens bare f ≤ l) × UnitsOpen bare l tss

-- and so does each unit of the translation in a text
abbrev pub TextOpens : (Phrase → ℕ) → ℕ → Text → Type 0
TextOpens bare l w = (d : Located) → region_of (walk w) ≡ Some d → UnitsOpen bare l (units_in (inside_region d)).units
