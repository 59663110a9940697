-- Variables without a first value, list by list.
use Rattle.std.proofs.Common.{◌≡◌, ℕ, suc, ◌+◌, ◌<◌, ◌≤◌, Bool, true, false, ◌||◌, List, [], ◌∷◌, ◌++◌, length, drop, get_or, map, refl, sym, ap, ◌∙◌}
use Rattle.std.specs.List.{flat_map}
use Rattle.std.proofs.lemmas.List.{drop_more, drop_all}
use Rattle.std.proofs.lemmas.List.Folds.{list_any-append}
use Rattle.std.proofs.lemmas.Grind.{flat_map-append}
use Rattle.tla_tree.specs.Tree.{Tree}
use Rattle.pcal_tree.specs.declared.algorithm.Declaration as code_declaration
use Rattle.pcal_tree.specs.declared.algorithm.Procedure as code_procedure
use Rattle.pcal_tree.specs.declared.algorithm.Process as code_process
use Rattle.pcal_tree.specs.declared.algorithm.Main as code_main
use Rattle.pcal_tree.specs.declared.algorithm.Main.TheVariants as main
use Rattle.pcal_tree.specs.declared.algorithm.Algorithm as code_algorithm
use Rattle.pcal_tree.specs.Algorithm.{Declaration, Algorithm, locals, numbered, procedure_routine, process_routine, procedure_routines, main_routines, routines}
use Rattle.pcal_tree.specs.InMemory.{declaration_at, declarations_at, procedure_at, process_at, main_at, algorithm_at}
use Rattle.pcal_tree.specs.Expressions.{all_declarations}
use Rattle.action_builder.specs.ModelValues.{is_unset}
use Rattle.module_formulas.specs.Unset.{some_unset, procedure_declarations, process_declarations, main_unset}

pub some_of_two : (xs ys : List Declaration) → some_unset (xs ++ ys) ≡ (some_unset xs || some_unset ys)
some_of_two xs ys = list_any-append (λ (d : Declaration). is_unset d.start) xs ys

-- one after another: what is left still decides, and where one is unset all is decided
module _ (ts : List Tree) (ds : List code_declaration.Declaration) (i : ℕ) (d : code_declaration.Declaration) (is : d ≡ get_or ds i d) (less : i < length ds) where
  here : some_unset (declarations_at ts (drop i ds)) ≡ (is_unset (declaration_at ts d).start || some_unset (declarations_at ts (drop (i + 1) ds)))
  here = ap (λ (ys : List code_declaration.Declaration). some_unset (declarations_at ts ys)) (drop_more ds i d less ∙ ap (λ (y : code_declaration.Declaration). y ∷ drop (i + 1) ds) (sym is))

  pub one_set : (all : Bool) → false ≡ is_unset (declaration_at ts d).start → some_unset (declarations_at ts (drop i ds)) ≡ all → some_unset (declarations_at ts (drop (i + 1) ds)) ≡ all
  one_set all e h = ap (λ (b : Bool). b || some_unset (declarations_at ts (drop (i + 1) ds))) e ∙ sym here ∙ h

  pub one_unset : (all : Bool) → true ≡ is_unset (declaration_at ts d).start → some_unset (declarations_at ts (drop i ds)) ≡ all → true ≡ all
  one_unset all e h = ap (λ (b : Bool). b || some_unset (declarations_at ts (drop (i + 1) ds))) e ∙ sym here ∙ h

module _ {X : Type 0} (g : X → List Declaration) (xs : List X) (i : ℕ) (x : X) (is : x ≡ get_or xs i x) (less : i < length xs) where
  there : some_unset (flat_map g (drop i xs)) ≡ (some_unset (g x) || some_unset (flat_map g (drop (i + 1) xs)))
  there = ap (λ (ys : List X). some_unset (flat_map g ys)) (drop_more xs i x less ∙ ap (λ (y : X). y ∷ drop (i + 1) xs) (sym is)) ∙ some_of_two (g x) (flat_map g (drop (i + 1) xs))

  pub all_set : (all : Bool) → false ≡ some_unset (g x) → some_unset (flat_map g (drop i xs)) ≡ all → some_unset (flat_map g (drop (i + 1) xs)) ≡ all
  all_set all e h = ap (λ (b : Bool). b || some_unset (flat_map g (drop (i + 1) xs))) e ∙ sym there ∙ h

  pub some_found : (all : Bool) → true ≡ some_unset (g x) → some_unset (flat_map g (drop i xs)) ≡ all → true ≡ all
  some_found all e h = ap (λ (b : Bool). b || some_unset (flat_map g (drop (i + 1) xs))) e ∙ sym there ∙ h

pub none_left : {X : Type 0} (g : X → List Declaration) (xs : List X) (i : ℕ) → length xs ≤ i → (all : Bool) → some_unset (flat_map g (drop i xs)) ≡ all → false ≡ all
none_left g xs i less all h = sym (ap (λ ys. some_unset (flat_map g ys)) (drop_all i xs less)) ∙ h

pub no_more : (ts : List Tree) (ds : List code_declaration.Declaration) (i : ℕ) → length ds ≤ i → (all : Bool) → some_unset (declarations_at ts (drop i ds)) ≡ all → false ≡ all
no_more ts ds i less all h = sym (ap (λ ys. some_unset (declarations_at ts ys)) (drop_all i ds less)) ∙ h

-- ---- all of an algorithm

of_procedures : (ts : List Tree) (n : ℕ) (ps : List code_procedure.Procedure) → flat_map locals (numbered procedure_routine n (map (procedure_at ts) ps)) ≡ flat_map (procedure_declarations ts) ps
of_procedures ts n [] = refl
of_procedures ts n (p ∷ ps) = ap (λ (l : List Declaration). procedure_declarations ts p ++ l) (of_procedures ts (suc n) ps)

of_processes : (ts : List Tree) (n : ℕ) (ps : List code_process.Process) → flat_map locals (numbered process_routine n (map (process_at ts) ps)) ≡ flat_map (process_declarations ts) ps
of_processes ts n [] = refl
of_processes ts n (p ∷ ps) = ap (λ (l : List Declaration). process_declarations ts p ++ l) (of_processes ts (suc n) ps)

of_main : (ts : List Tree) (a : Algorithm) (m : code_main.Main) → some_unset (flat_map locals (main_routines a (main_at ts m))) ≡ main_unset ts m
of_main ts a (main.Alone ss) = refl
of_main ts a (main.Processes ps) = ap some_unset (of_processes ts _ ps.items)

pub all_unset : (ts : List Tree) (a : code_algorithm.Algorithm)
    → some_unset (all_declarations (algorithm_at ts a)) ≡ (some_unset (declarations_at ts a.globals.items) || (some_unset (flat_map (procedure_declarations ts) a.procedures.items) || main_unset ts a.main))
all_unset ts a =
    let b = algorithm_at ts a in
    some_of_two b.globals (flat_map locals (routines b))
    ∙ ap (λ (c : Bool). some_unset b.globals || c)
    (ap some_unset (flat_map-append locals (procedure_routines b) (main_routines b b.main))
    ∙ some_of_two (flat_map locals (procedure_routines b)) (flat_map locals (main_routines b b.main))
    ∙ (λ j. some_unset (of_procedures ts (length b.macros) a.procedures.items j) || of_main ts b a.main j))
