-- Names that are counted one after another, and the first one past a limit.
use Rattle.std.proofs.lemmas.Simd.{map-map}
use Rattle.std.proofs.Common.{◌≡◌, ℕ, zero, suc, ◌+◌, ◌-◌, ◌<◌, ◌≤◌, Bool, cond, List, [], ◌∷◌, ◌++◌, length, map, drop, get_or, Some, None, refl, sym, ap, ◌∙◌, arith, ne_eqb}
use Rattle.std.proofs.lemmas.List.{map-append}
use Rattle.std.proofs.lemmas.List.{drop_more, drop_all}
use Rattle.std.proofs.lemmas.Grind.{flat_map-append}
use Rattle.std.specs.List.{flat_map}
use Rattle.tla_token.specs.declared.place.Place.{Place}
use Rattle.tla_tree.specs.Tree.{Tree}
use Rattle.pcal_tree.specs.declared.algorithm.Declaration.{Declaration}
use Rattle.pcal_tree.specs.declared.algorithm.Procedure as code_procedure
use Rattle.pcal_tree.specs.declared.algorithm.Process as code_process
use Rattle.pcal_tree.specs.declared.algorithm.Main as code_main
use Rattle.pcal_tree.specs.declared.algorithm.Main.TheVariants as main
use Rattle.pcal_tree.specs.declared.algorithm.Algorithm as code
use Rattle.pcal_tree.specs.Algorithm.{Name, Declaration as Declared, Procedure, Process, Routine, numbered, procedure_routine, process_routine, locals, first_procedure, first_process, main_routines}
use Rattle.pcal_tree.specs.InMemory.{declarations_at, procedure_at, process_at, main_at, algorithm_at}
use Rattle.pcal_tree.specs.OffencesNames.{names_of, process_names}
use Rattle.pcal_tree.specs.OffencesCounts.{variable_names, procedure_names, first_past}
use Rattle.algorithm_limits.specs.declared.count.Count.{Count}
use Rattle.algorithm_limits.specs.Counting.{none_of, counted_one, counted, past_limit, declared_names, procedure_variables, process_variables, main_variables, variables_in, processes_in, procedures_in}

pub counted_append : (c : Count) (xs ys : List Name) → counted c (xs ++ ys) ≡ counted (counted c xs) ys
counted_append c [] ys = refl
counted_append c (x ∷ xs) ys = counted_append (counted_one c x.place) xs ys

-- ---- the first one past the limit

-- where one has come, no other counts
stays : (n : ℕ) (p : Place) (xs : List Name) → counted (record { left = n; past = Some p }) xs ≡ record { left = n; past = Some p }
stays n p [] = refl
stays n p (x ∷ xs) = stays n p xs

abbrev one_of : Bool → ℕ → Place → Count
one_of b n p = cond b (record { left = 0; past = Some p }) (record { left = n; past = None })

one_less : (n : ℕ) (p : Place) → counted_one (none_of (suc n)) p ≡ none_of n
one_less n p =
    let e : suc n - 1 ≡ n = omega arith in
    let z = ne_eqb (suc n) 0 (λ h. omega (arith, h)) in
    λ i. one_of (z i) (e i) p

pub past_is_first : (n : ℕ) (xs : List Name) → past_limit (counted (none_of n) xs) ≡ first_past n xs
past_is_first zero [] = refl
past_is_first (suc n) [] = refl
past_is_first zero (x ∷ xs) = ap past_limit (stays 0 x.place xs)
past_is_first (suc n) (x ∷ xs) = ap (λ (c : Count). past_limit (counted c xs)) (one_less n x.place) ∙ past_is_first n xs

-- ---- one name more, in a loop

module _ {A : Type 0} (names : A → List Name) (xs : List A) where
  pub counted_more : (c d : Count) (i : ℕ) (x : A) → x ≡ get_or xs i x → i < length xs → d ≡ counted c (names x)
      → counted d (flat_map names (drop (i + 1) xs)) ≡ counted c (flat_map names (drop i xs))
  counted_more c d i x e l is =
      ap (λ (b : Count). counted b (flat_map names (drop (i + 1) xs))) is
      ∙ sym (counted_append c (names x) (flat_map names (drop (i + 1) xs)))
      ∙ ap (λ (y : A). counted c (names y ++ flat_map names (drop (i + 1) xs))) e
      ∙ ap (λ (ys : List A). counted c (flat_map names ys)) (sym (drop_more xs i x l))

  pub counted_all : (c : Count) (i : ℕ) → length xs ≤ i → counted c (flat_map names (drop i xs)) ≡ c
  counted_all c i l = ap (λ (ys : List A). counted c (flat_map names ys)) (drop_all i xs l)

module _ {A : Type 0} (name : A → Name) (xs : List A) where
  pub counted_next : (c : Count) (i : ℕ) (x : A) → x ≡ get_or xs i x → i < length xs
      → counted (counted_one c (name x).place) (map name (drop (i + 1) xs)) ≡ counted c (map name (drop i xs))
  counted_next c i x e l =
      ap (λ (y : A). counted c (name y ∷ map name (drop (i + 1) xs))) e ∙ ap (λ (ys : List A). counted c (map name ys)) (sym (drop_more xs i x l))

  pub counted_each : (c : Count) (i : ℕ) → length xs ≤ i → counted c (map name (drop i xs)) ≡ c
  counted_each c i l = ap (λ (ys : List A). counted c (map name ys)) (drop_all i xs l)

-- ---- the names are those of the algorithm

names_declared : (ts : List Tree) (ds : List Declaration) → names_of (declarations_at ts ds) ≡ declared_names ds
names_declared ts ds = map-map _ _ ds

numbered_names : {A : Type 0} (f : ℕ → A → Routine) (names : A → List Name) → ((n : ℕ) (x : A) → names_of (locals (f n x)) ≡ names x) → (n : ℕ) (xs : List A)
    → flat_map (λ (u : Routine). names_of (locals u)) (numbered f n xs) ≡ flat_map names xs
numbered_names f names h n [] = refl
numbered_names f names h n (x ∷ xs) = λ i. h n x i ++ numbered_names f names h (suc n) xs i

flat_map_of : {A B C : Type 0} (f : B → List C) (g : A → B) (names : A → List C) → ((x : A) → f (g x) ≡ names x) → (xs : List A) → flat_map f (map g xs) ≡ flat_map names xs
flat_map_of f g names h [] = refl
flat_map_of f g names h (x ∷ xs) = λ i. h x i ++ flat_map_of f g names h xs i

module _ (ts : List Tree) where
  of_procedures : (n : ℕ) (ps : List code_procedure.Procedure) → flat_map (λ (u : Routine). names_of (locals u)) (numbered procedure_routine n (map (procedure_at ts) ps)) ≡ flat_map procedure_variables ps
  of_procedures n ps =
      numbered_names procedure_routine (λ (p : Procedure). names_of (p.params ++ p.variables)) (λ n p. refl) n (map (procedure_at ts) ps)
      ∙ flat_map_of (λ (p : Procedure). names_of (p.params ++ p.variables)) (procedure_at ts) procedure_variables one ps
    where
      one : (p : code_procedure.Procedure) → names_of (declarations_at ts p.params.items ++ declarations_at ts p.variables.items) ≡ procedure_variables p
      one p = map-append (λ (d : Declared). d.name) (declarations_at ts p.params.items) (declarations_at ts p.variables.items) ∙ (λ i. names_declared ts p.params.items i ++ names_declared ts p.variables.items i)

  of_processes : (n : ℕ) (ps : List code_process.Process) → flat_map (λ (u : Routine). names_of (locals u)) (numbered process_routine n (map (process_at ts) ps)) ≡ flat_map process_variables ps
  of_processes n ps =
      numbered_names process_routine (λ (p : Process). names_of p.variables) (λ n p. refl) n (map (process_at ts) ps)
      ∙ flat_map_of (λ (p : Process). names_of p.variables) (process_at ts) process_variables (λ p. names_declared ts p.variables.items) ps

  module _ (a : code.Algorithm) where
    of_main : (m : code_main.Main) → flat_map (λ (u : Routine). names_of (locals u)) (main_routines (algorithm_at ts a) (main_at ts m)) ≡ main_variables m
    of_main (main.Alone ss) = refl
    of_main (main.Processes ps) = of_processes (first_process (algorithm_at ts a)) ps.items

    pub variables_are : variable_names (algorithm_at ts a) ≡ variables_in a
    variables_are =
        λ i. names_declared ts a.globals.items i
        ++ (flat_map-append (λ (u : Routine). names_of (locals u)) (numbered procedure_routine (first_procedure (algorithm_at ts a)) (map (procedure_at ts) a.procedures.items)) (main_routines (algorithm_at ts a) (main_at ts a.main))
        ∙ (λ j. of_procedures (first_procedure (algorithm_at ts a)) a.procedures.items j ++ of_main a.main j)) i

    pub procedures_are : procedure_names (algorithm_at ts a) ≡ procedures_in a
    procedures_are = map-map _ _ a.procedures.items

  pub processes_are : (m : code_main.Main) → process_names (main_at ts m) ≡ processes_in m
  processes_are (main.Alone ss) = refl
  processes_are (main.Processes ps) = map-map _ _ ps.items
