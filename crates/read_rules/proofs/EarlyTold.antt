-- Variables that are read too early are told by the levels of definitions.
use Rattle.std.proofs.Common.{◌≡◌, ℕ, suc, nat_lt, Bool, true, false, ◌&&◌, ◌||◌, not, List, [], ◌∷◌, ◌++◌, take, length, map, reverse, bytes_eq, refl, sym, ap, ◌∙◌, arith, le-ltb, append_assoc, length-append}
use Rattle.std.specs.List.{list_any, flat_map}
use Rattle.std.proofs.Math.Seq.{take-append_seam}
use Rattle.std.proofs.lemmas.List.Folds.{list_any-append}
use Rattle.std.proofs.lemmas.Grind.{flat_map-append}
use Rattle.tla_token.specs.declared.rule.Rule.TheVariants.{ProcessNotConstant, InitLater}
use Rattle.tla_token.specs.declared.rule.Refusal.{Refusal}
use Rattle.tla_token.specs.Signs.{is_among}
use Rattle.tla_tree.specs.Tree.{Word, Tree, root_place}
use Rattle.pcal_tree.specs.Algorithm.{Name, Declaration, declares, Definition, Routine, Process, Procedure, Main, alone, processes, Algorithm, locals, procedure_routine, process_routine, first_procedure, first_process, procedure_routines, main_routines, numbered, routines}
use Rattle.pcal_tree.specs.Offences.{offence_if}
use Rattle.pcal_tree.specs.OffencesReads.{processes_of, not_constant, process_offences, all_variables, is_later, reads_later, later_in, order_offences}
use Rattle.pcal_tree.specs.Reads.{used, initial, through, looked_at, readings, readings_of}
use Rattle.pcal_tree.specs.Variables.{declared}
use Rattle.pcal_tree.proofs.SetLaws.{any_flat, any_same}
use Rattle.read_rules.specs.Levels.{Levels, number_among, level_of, reach_of, levels, levels_of}
use Rattle.read_rules.specs.EarlyReads.{offending_name, offending_process, process_offences_by, local_lists, variables_of, is_early, early_in_tree, early_in_start, early_in, early_in_locals, order_offences_by}
use Rattle.read_rules.proofs.NumbersOfVariables.{past_number}
use Rattle.read_rules.proofs.LevelsTell.{level_told, looked_told, read_inside}

flat_same : {X Y : Type 0} (f g : X → List Y) → ((x : X) → f x ≡ g x) → (xs : List X) → flat_map f xs ≡ flat_map g xs
flat_same f g h [] = refl
flat_same f g h (x ∷ xs) = λ i. h x i ++ flat_same f g h xs i

-- ---- the identifiers of processes

and_true : (b : Bool) → (b && true) ≡ b
and_true true = refl
and_true false = refl

name_told : (gs : List Word) (ds : List Definition) (n : Name) → list_any (is_among gs) (looked_at (readings gs ds) n) ≡ nat_lt 0 (reach_of gs (levels gs ds) n.word)
name_told gs ds n =
    any_same (is_among gs) (λ y. nat_lt 0 (number_among gs y)) (λ y. sym (and_true (is_among gs y)) ∙ past_number gs 0 y) (looked_at (readings gs ds) n)
    ∙ looked_told gs 0 ds n

pub processes_told : (a : Algorithm) → process_offences a ≡ process_offences_by a
processes_told a = flat_same (not_constant a) (offending_process gs ls) one (processes_of a.main)
  where
    gs : List Word
    gs = declared a.globals

    ls : Levels
    ls = levels_of a

    one : (p : Process) → not_constant a p ≡ offending_process gs ls p
    one p =
        flat_same (λ n. offence_if (list_any (declares a.globals) (looked_at (readings_of a) n)) ProcessNotConstant n.place) (offending_name gs ls) (λ n. ap (λ (b : Bool). offence_if b ProcessNotConstant n.place) (name_told gs (reverse a.definitions) n)) (used p.identity [])

-- ---- the variables of procedures and processes

flat_numbered : {X : Type 0} (f : ℕ → X → Routine) (h : X → List Declaration) → ((n : ℕ) (x : X) → locals (f n x) ≡ h x) → {Y : Type 0} (g : List Declaration → List Y) (n : ℕ) (xs : List X)
    → flat_map (λ u. g (locals u)) (numbered f n xs) ≡ flat_map g (map h xs)
flat_numbered f h e g n [] = refl
flat_numbered f h e g n (x ∷ xs) = λ i. g (e n x i) ++ flat_numbered f h e g (suc n) xs i

pub flat_locals : {Y : Type 0} (g : List Declaration → List Y) → g [] ≡ [] → (a : Algorithm) → flat_map (λ u. g (locals u)) (routines a) ≡ flat_map g (local_lists a)
flat_locals {Y = Y} g e a =
    flat_map-append (λ u. g (locals u)) (procedure_routines a) (main_routines a a.main)
    ∙ (λ i. flat_numbered procedure_routine (λ (p : Procedure). p.params ++ p.variables) (λ n p. refl) g (first_procedure a) a.procedures i ++ mains a.main i)
    ∙ sym (flat_map-append g (map (λ (p : Procedure). p.params ++ p.variables) a.procedures) (map (λ (p : Process). p.variables) (processes_of a.main)))
  where
    mains : (m : Main) → flat_map (λ u. g (locals u)) (main_routines a m) ≡ flat_map g (map (λ (p : Process). p.variables) (processes_of m))
    mains (alone b) = ap (λ (ys : List Y). ys ++ []) e
    mains (processes ps) = flat_numbered process_routine (λ (p : Process). p.variables) (λ n p. refl) g (first_process a) ps

pub same_variables : (a : Algorithm) → all_variables a ≡ variables_of a
same_variables a = ap (λ (ys : List Word). declared a.globals ++ ys) (flat_locals declared refl a)

-- ---- the order of initial values

-- the words are those that are declared first
abbrev AreFirst : ℕ → List Word → List Word → Type 0
AreFirst i gs before = (y : Word) → is_among before y ≡ is_among (take i gs) y

-- a global is a variable
abbrev Covers : List Word → List Word → Type 0
Covers all gs = (y : Word) → is_among gs y ≡ true → is_among all y ≡ true

-- what definitions read past i is later than the first i
definition_told : (all gs before : List Word) (i : ℕ) (ds : List Definition) (x : Word) → Covers all gs → AreFirst i gs before
    → list_any (λ y. is_among all y && not (is_among before y)) (through (readings gs ds) x) ≡ nat_lt i (level_of (levels gs ds) x)
definition_told all gs before i ds x c f =
    read_inside (λ y. is_among all y && not (is_among before y)) (λ y. nat_lt i (number_among gs y)) gs ds x
    (λ y e. ap (λ (b : Bool). b && not (is_among before y)) (c y e ∙ sym e) ∙ ap (λ (b : Bool). is_among gs y && not b) (f y) ∙ past_number gs i y)
    ∙ level_told gs i ds x

-- they read nothing that is later than all globals
nothing_told : (all gs before : List Word) (i : ℕ) (ds : List Definition) (x : Word) → ((y : Word) → is_among gs y ≡ true → is_among before y ≡ true)
    → list_any (λ y. is_among all y && not (is_among before y)) (through (readings gs ds) x) ≡ nat_lt i 0
nothing_told all gs before i ds x h =
    read_inside (λ y. is_among all y && not (is_among before y)) (λ y. false) gs ds x (λ y e. ap (λ (b : Bool). is_among all y && not b) (h y e) ∙ never (is_among all y))
    ∙ none (through (readings gs ds) x)
    ∙ sym (le-ltb i 0 (omega arith))
  where
    never : (b : Bool) → (b && false) ≡ false
    never true = refl
    never false = refl

    none : (ys : List Word) → list_any (λ (y : Word). false) ys ≡ false
    none [] = refl
    none (y ∷ ys) = none ys

-- of an expression, where definitions are told
module _ (a : Algorithm) (before : List Word) (ls : Levels) (i : ℕ) (told : (x : Word) → list_any (is_later a before) (through (readings_of a) x) ≡ nat_lt i (level_of ls x)) where
  same_test : (n : Name) → list_any (is_later a before) (looked_at (readings_of a) n) ≡ is_early (variables_of a) ls before i n
  same_test n = λ k. (is_among (same_variables a k) n.word && not (is_among before n.word)) || told n.word k

  tree_told : (e : Tree) → offence_if (reads_later a before e) InitLater (root_place e) ≡ early_in_tree (variables_of a) ls before i e
  tree_told e = ap (λ (b : Bool). offence_if b InitLater (root_place e))
      (any_flat (is_later a before) (looked_at (readings_of a)) (used e []) ∙ any_same (λ n. list_any (is_later a before) (looked_at (readings_of a) n)) (is_early (variables_of a) ls before i) same_test (used e []))

  start_told : (d : Declaration) → flat_map (λ e. offence_if (reads_later a before e) InitLater (root_place e)) (initial d.start) ≡ early_in_start (variables_of a) ls before i d.start
  start_told d = flat_same (λ e. offence_if (reads_later a before e) InitLater (root_place e)) (early_in_tree (variables_of a) ls before i) tree_told (initial d.start)

covers_globals : (a : Algorithm) → Covers (all_variables a) (declared a.globals)
covers_globals a y e = list_any-append (λ v. bytes_eq v y) (declared a.globals) (flat_map (λ u. declared (locals u)) (routines a)) ∙ ap (λ (b : Bool). b || is_among (flat_map (λ u. declared (locals u)) (routines a)) y) e

-- declarations behind those of the words pre
globals_told : (a : Algorithm) (pre before : List Word) (i : ℕ) (ds : List Declaration) → declared a.globals ≡ pre ++ declared ds → length pre ≡ i → ((y : Word) → is_among before y ≡ is_among pre y)
    → later_in a before ds ≡ early_in (variables_of a) (levels_of a) before i ds
globals_told a pre before i [] s l f = refl
globals_told a pre before i (d ∷ ds) s l f =
    λ k. start_told a before (levels_of a) i told d k ++ globals_told a (pre ++ (d.name.word ∷ [])) (d.name.word ∷ before) (suc i) ds (s ∙ sym (append_assoc pre (d.name.word ∷ []) (declared ds))) (let e = length-append pre (d.name.word ∷ []) in omega (arith, l)) more k
  where
    first_ones : AreFirst i (declared a.globals) before
    first_ones y = f y ∙ ap (λ (ys : List Word). is_among ys y) (sym (take-append_seam pre (declared (d ∷ ds))) ∙ (λ k. take (l k) (sym s k)))

    told : (x : Word) → list_any (is_later a before) (through (readings_of a) x) ≡ nat_lt i (level_of (levels_of a) x)
    told x = definition_told (all_variables a) (declared a.globals) before i (reverse a.definitions) x (covers_globals a) first_ones

    turned_or : (b c : Bool) → (b || c) ≡ (c || (b || false))
    turned_or true true = refl
    turned_or true false = refl
    turned_or false true = refl
    turned_or false false = refl

    more : (y : Word) → is_among (d.name.word ∷ before) y ≡ is_among (pre ++ (d.name.word ∷ [])) y
    more y = ap (λ (b : Bool). bytes_eq d.name.word y || b) (f y) ∙ turned_or (bytes_eq d.name.word y) (is_among pre y) ∙ sym (list_any-append (λ v. bytes_eq v y) pre (d.name.word ∷ []))

-- where all globals are before
locals_told : (a : Algorithm) (before : List Word) (i : ℕ) (ds : List Declaration) → ((y : Word) → is_among (declared a.globals) y ≡ true → is_among before y ≡ true)
    → later_in a before ds ≡ early_in (variables_of a) [] before i ds
locals_told a before i [] h = refl
locals_told a before i (d ∷ ds) h = λ k. start_told a before [] i told d k ++ locals_told a (d.name.word ∷ before) (suc i) ds (λ y e. last (bytes_eq d.name.word y) (is_among before y) (h y e)) k
  where
    told : (x : Word) → list_any (is_later a before) (through (readings_of a) x) ≡ nat_lt i 0
    told x = nothing_told (all_variables a) (declared a.globals) before i (reverse a.definitions) x h

    last : (b c : Bool) → c ≡ true → (b || c) ≡ true
    last true c e = refl
    last false c e = e

pub order_told : (a : Algorithm) → order_offences a ≡ order_offences_by a
order_told a =
    (λ k. globals_told a [] [] 0 a.globals refl refl (λ y. refl) k ++ flat_map (λ u. later_in a (declared a.globals) (locals u)) (routines a))
    ∙ ap (λ (rs : List Refusal). early_in (variables_of a) (levels_of a) [] 0 a.globals ++ rs)
    (flat_locals (later_in a (declared a.globals)) refl a
    ∙ flat_same (later_in a (declared a.globals)) (early_in_locals (variables_of a) (declared a.globals)) (λ ds. locals_told a (declared a.globals) 0 ds (λ y e. e)) (local_lists a))
