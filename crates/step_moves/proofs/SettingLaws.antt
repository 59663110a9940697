-- Settings of variables in memory, and which names have values after them.
use Rattle.std.proofs.Common.{◌≡◌, ℕ, ◌+◌, ◌<◌, ◌≤◌, Bool, true, false, ◌||◌, bytes_eq, List, [], ◌∷◌, ◌++◌, length, drop, get_or, replicate, append_assoc, refl, sym, ap, subst, ◌∙◌, true≢false}
use Rattle.std.proofs.lemmas.List.{map-append, append-nil, drop_more, drop_all}
use Rattle.std.proofs.lemmas.List.Elements.{All-from_recursion}
use Rattle.std.proofs.lemmas.Slice.Eq.{bytes_eq-Decides}
use Rattle.std.specs.List.{AllByRecursion}
use Rattle.std.specs.Option.{is_some}
use Rattle.tla_token.specs.declared.place.Place.{Place}
use Rattle.tla_token.specs.Signs.{is_among}
use Rattle.tla_tree.specs.Tree.{Word, Each}
use Rattle.tla_value.specs.Value.{Value}
use Rattle.tla_value.specs.States.{Entries, value_of}
use Rattle.pcal_tree.specs.Algorithm.{procedure_routines, main_routines}
use Rattle.pcal_tree.specs.Assign as pure
use Rattle.pcal_tree.specs.Program.{Program}
use Rattle.pcal_tree.specs.Calls.{setting, argument_settings, part_settings}
use Rattle.pcal_tree.specs.Variables.{pc, declared, stack_for, written_by_all, vars}
use Rattle.step_moves.specs.declared.setting.Setting.{Setting}
use Rattle.step_moves.specs.StatesOf.{HasJust, setting_of, settings_of, AreOf}

-- ---- names

or_right : (b : Bool) {c : Bool} → c ≡ true → (b || c) ≡ true
or_right true e = refl
or_right false e = e

pub among_later : (xs ys : List Word) (x : Word) → is_among ys x ≡ true → is_among (xs ++ ys) x ≡ true
among_later [] ys x e = e
among_later (z ∷ xs) ys x e = or_right (bytes_eq z x) (among_later xs ys x e)

pub among_before : (xs ys : List Word) (x : Word) → is_among xs x ≡ true → is_among (xs ++ ys) x ≡ true
among_before [] ys x e = absurd (true≢false (sym e))
among_before (z ∷ xs) ys x e = by (bytes_eq z x) (among_before xs ys x) e
  where
    by : (b : Bool) → (is_among xs x ≡ true → is_among (xs ++ ys) x ≡ true) → (b || is_among xs x) ≡ true → (b || is_among (xs ++ ys) x) ≡ true
    by true f d = refl
    by false f d = f d

pub pc_among : (P : Program) → is_among (vars P) pc ≡ true
pc_among P =
    let us = procedure_routines P.algorithm in
    let first = declared P.algorithm.globals ++ (pc ∷ stack_for us) in
    among_before (first ++ written_by_all P us) (written_by_all P (main_routines P.algorithm P.algorithm.main)) pc
    (among_before first (written_by_all P us) pc (among_later (declared P.algorithm.globals) (pc ∷ stack_for us) pc refl))

pub kept_one : (xs : List Word) (y : Word) (m n : Entries) → HasJust xs m → is_among xs y ≡ true → ((x : Word) → is_some (value_of n x) ≡ (bytes_eq y x || is_some (value_of m x))) → HasJust xs n
kept_one xs y m n k a h x = h x ∙ ap (λ (b : Bool). bytes_eq y x || b) (k x) ∙ by (bytes_eq y x) refl
  where
    by : (b : Bool) → bytes_eq y x ≡ b → (b || is_among xs x) ≡ is_among xs x
    by true e = sym (subst (λ (z : Word). is_among xs z ≡ true) ((bytes_eq-Decides y x).0 e) a)
    by false e = refl

-- what has a value is a variable
pub there_among : (xs : List Word) (m : Entries) (x : Word) → HasJust xs m → is_some (value_of m x) ≡ true → is_among xs x ≡ true
there_among xs m x k h = sym (k x) ∙ h

-- ---- of which variables settings are

abbrev pub AllOf : List Word → List pure.Setting → Type 0
AllOf xs [] = Unit {0}
AllOf xs (s ∷ ss) = (is_among xs s.part.variable ≡ true) × AllOf xs ss

by_recursion : (xs : List Word) (all : List Setting) → AllOf xs (settings_of all) → AllByRecursion (λ (one : Setting). is_among xs one.variable.now ≡ true) all
by_recursion xs [] h = tt
by_recursion xs (s ∷ all) h = (h.0, by_recursion xs all h.1)

pub are_of : (xs : List Word) (all : List Setting) (ss : List pure.Setting) → settings_of all ≡ ss → AllOf xs ss → AreOf xs all
are_of xs all ss e h = All-from_recursion _ all (by_recursion xs all (subst (AllOf xs) (sym e) h))

pub parts_of : (xs : List Word) (at : Place) (path : List Value) (ys : List Word) (vs : List Value) → Each (λ y. is_among xs y ≡ true) ys → AllOf xs (part_settings at path ys vs)
parts_of xs at path [] vs h = tt
parts_of xs at path (y ∷ ys) [] h = tt
parts_of xs at path (y ∷ ys) (v ∷ vs) h = (h.0, parts_of xs at path ys vs h.1)

pub arguments_of : (xs : List Word) (path : List Value) (ys : List Word) (ats : List Place) (vs : List Value) → Each (λ y. is_among xs y ≡ true) ys → AllOf xs (argument_settings path ys ats vs)
arguments_of xs path [] ats vs h = tt
arguments_of xs path (y ∷ ys) [] vs h = tt
arguments_of xs path (y ∷ ys) (at ∷ ats) [] h = tt
arguments_of xs path (y ∷ ys) (at ∷ ats) (v ∷ vs) h = (h.0, arguments_of xs path ys ats vs h.1)

-- ---- lists of settings

pub same_place : (at : Place) (path : List Value) (xs : List Word) (vs : List Value) → argument_settings path xs (replicate (length xs) at) vs ≡ part_settings at path xs vs
same_place at path [] vs = refl
same_place at path (x ∷ xs) [] = refl
same_place at path (x ∷ xs) (v ∷ vs) = ap (λ (ss : List pure.Setting). setting at x path v ∷ ss) (same_place at path xs vs)

pub one_set : (all more : List Setting) (one : Setting) (ss : List pure.Setting) → more ≡ all ++ one ∷ [] → settings_of more ++ ss ≡ settings_of all ++ (setting_of one ∷ ss)
one_set all more one ss e =
    ap (λ (l : List Setting). settings_of l ++ ss) e ∙ ap (λ (l : List pure.Setting). l ++ ss) (map-append setting_of all (one ∷ [])) ∙ append_assoc (settings_of all) (setting_of one ∷ []) ss

no_places : (path : List Value) (xs : List Word) (vs : List Value) → argument_settings path xs [] vs ≡ []
no_places path [] vs = refl
no_places path (x ∷ xs) vs = refl

no_values : (path : List Value) (xs : List Word) (ats : List Place) → argument_settings path xs ats [] ≡ []
no_values path [] ats = refl
no_values path (x ∷ xs) [] = refl
no_values path (x ∷ xs) (at ∷ ats) = refl

-- no place is left
pub places_end : (path : List Value) (xs : List Word) (ats : List Place) (vs : List Value) (i : ℕ) (done whole : List pure.Setting) → length ats ≤ i
    → done ++ argument_settings path (drop i xs) (drop i ats) (drop i vs) ≡ whole → done ≡ whole
places_end path xs ats vs i done whole le h =
    sym (append-nil done) ∙ ap (λ (l : List pure.Setting). done ++ l) (sym (ap (λ (l : List Place). argument_settings path (drop i xs) l (drop i vs)) (drop_all i ats le) ∙ no_places path (drop i xs) (drop i vs))) ∙ h

-- no value is left
pub values_end : (path : List Value) (xs : List Word) (ats : List Place) (vs : List Value) (i : ℕ) (done whole : List pure.Setting) → length vs ≤ i
    → done ++ argument_settings path (drop i xs) (drop i ats) (drop i vs) ≡ whole → done ≡ whole
values_end path xs ats vs i done whole le h =
    sym (append-nil done) ∙ ap (λ (l : List pure.Setting). done ++ l) (sym (ap (argument_settings path (drop i xs) (drop i ats)) (drop_all i vs le) ∙ no_values path (drop i xs) (drop i ats))) ∙ h

-- the next argument is set
pub argument_next : (path : List Value) (xs : List Word) (ats : List Place) (vs : List Value) (i : ℕ) (x : Word) (at : Place) (v : Value) (all more : List Setting) (one : Setting) (whole : List pure.Setting)
    → i < length xs → i < length ats → i < length vs → x ≡ get_or xs i x → at ≡ get_or ats i at → v ≡ get_or vs i v → more ≡ all ++ one ∷ [] → setting_of one ≡ setting at x path v
    → settings_of all ++ argument_settings path (drop i xs) (drop i ats) (drop i vs) ≡ whole
    → settings_of more ++ argument_settings path (drop (i + 1) xs) (drop (i + 1) ats) (drop (i + 1) vs) ≡ whole
argument_next path xs ats vs i x at v all more one whole lx la lv ex ea ev em eo h =
    let rest = argument_settings path (drop (i + 1) xs) (drop (i + 1) ats) (drop (i + 1) vs) in
    let names : drop i xs ≡ x ∷ drop (i + 1) xs = drop_more xs i x lx ∙ ap (λ (y : Word). y ∷ drop (i + 1) xs) (sym ex) in
    let places : drop i ats ≡ at ∷ drop (i + 1) ats = drop_more ats i at la ∙ ap (λ (y : Place). y ∷ drop (i + 1) ats) (sym ea) in
    let values : drop i vs ≡ v ∷ drop (i + 1) vs = drop_more vs i v lv ∙ ap (λ (y : Value). y ∷ drop (i + 1) vs) (sym ev) in
    one_set all more one rest em
    ∙ ap (λ (s : pure.Setting). settings_of all ++ (s ∷ rest)) eo
    ∙ (λ j. settings_of all ++ argument_settings path (sym names j) (sym places j) (sym values j)) ∙ h

-- settings of parts, all at one place
pub parts_made : (at : Place) (path own : List Value) (xs : List Word) (ats : List Place) (vs : List Value) (all more : List Setting) → all ≡ [] → own ≡ path → ats ≡ replicate (length xs) at
    → settings_of more ≡ settings_of all ++ argument_settings own xs ats vs → settings_of more ≡ part_settings at path xs vs
parts_made at path own xs ats vs all more a o p m = m ∙ (λ i. settings_of (a i) ++ argument_settings (o i) xs (p i) vs) ∙ same_place at path xs vs
