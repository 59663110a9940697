-- The conjuncts of a routine's variables, and of the routines that are there.
use Rattle.std.proofs.Common.{◌≡◌, ℕ, zero, suc, ◌+◌, ◌*◌, ◌<◌, ◌≤◌, List, [], ◌∷◌, ◌++◌, length, drop, get_or, map, refl, sym, ap, subst, ◌∙◌, arith}
use Rattle.std.specs.List.{flat_map}
use Rattle.std.proofs.lemmas.List.{map-append, drop_more, drop_all}
use Rattle.tla_tree.specs.declared.op.Op.TheVariants.{Cup}
use Rattle.tla_token.specs.Places.{nowhere}
use Rattle.tla_tree.specs.Tree.{Tree, node, no_trees, tree, strict, operator}
use Rattle.tla_tree.specs.Pool.{at, Keeps}
use Rattle.tla_tree.specs.Nesting.{greatest}
use Rattle.tla_tree.specs.Shapes.{IsPaired}
use Rattle.module_tree.specs.Formulas.{named, equal, empty_tuple}
use Rattle.pcal_tree.specs.declared.algorithm.Declaration as code_declaration
use Rattle.pcal_tree.specs.declared.algorithm.Process.{Process}
use Rattle.pcal_tree.specs.Algorithm as pure
use Rattle.pcal_tree.specs.Algorithm.{Routine, locals, numbered, procedure_routine, procedure_routines, first_process}
use Rattle.pcal_tree.specs.InMemory.{declarations_at, process_at, past_declarations, past_process}
use Rattle.pcal_tree.proofs.InMemoryGrown.{declarations_at-kept, each_kept}
use Rattle.pcal_tree.specs.Takers.{Takers, Taken, takers_of, taken_process, taken_main}
use Rattle.pcal_tree.specs.Program.{Program}
use Rattle.pcal_tree.specs.Variables.{stack}
use Rattle.action_builder.specs.InitialFormulas.{locals_start, for_all_processes, stack_start, first_pc, pc_value}
use Rattle.action_builder.specs.ProcessSets.{set_of_takers, union_from, union, sets_of_processes}
use Rattle.module_formulas.specs.declared.takers.Taker.{Taker}
use Rattle.module_formulas.specs.TakersIn.{taker_at, TakerIn, taken, taken_procedure, Runs}
use Rattle.module_formulas.specs.Added.{Adds}
use Rattle.module_formulas.specs.Starts.{local_start, cases_of}
use Rattle.module_formulas.proofs.Grown.{taker_at-kept, process_at-kept}
use Rattle.module_formulas.proofs.Behind.{adds_then}

-- parameters, and then variables
pub routine_adds : (ts us vs : List Tree) → Keeps ts us → (P : Program) (u : Routine) (t : Taker) → TakerIn (length ts) t → (ps ds : List code_declaration.Declaration) → past_declarations ds ≤ length ts
    → u.params ≡ declarations_at ts ps → u.variables ≡ declarations_at ts ds → (is js ks : List ℕ)
    → Adds ts us is js (map (local_start P u (taker_at ts t)) (declarations_at ts ps)) → Adds us vs js ks (map (local_start P u (taker_at us t)) (declarations_at us ds))
    → Adds ts vs is ks (locals_start P (taken (taker_at ts t) u))
routine_adds ts us vs k P u t h ps ds past p d is js ks first second =
    let f = local_start P u (taker_at ts t) in
    adds_then ts us vs is js ks _ _ first second
    ∙ (λ i. map (at ts) is ++ (map f (sym p i) ++ map (local_start P u (taker_at-kept ts us k t h i)) ((declarations_at-kept ts us k ds past ∙ sym d) i)))
    ∙ ap (λ (l : List Tree). map (at ts) is ++ l) (sym (map-append f u.params u.variables))

-- procedures with those who take their steps
pub taken_are : (t : Takers) (n : ℕ) (ps : List pure.Procedure) → numbered (taken_procedure t) n ps ≡ map (taken t) (numbered procedure_routine n ps)
taken_are t n [] = refl
taken_are t n (p ∷ ps) = ap (λ (l : List Taken). taken t (procedure_routine n p) ∷ l) (taken_are t (suc n) ps)

pub processes_kept : (ts us : List Tree) → Keeps ts us → (ps : List Process) → greatest (map past_process ps) ≤ length ts → map (process_at us) ps ≡ map (process_at ts) ps
processes_kept ts us k ps h = each_kept ts us k (process_at us) (process_at ts) past_process (process_at-kept ts us k) ps h

-- the one body has no variables
pub none_of_body : (P : Program) (a : pure.Algorithm) (ss : pure.Statements) → flat_map (locals_start P) (taken_main a (pure.alone ss)) ≡ []
none_of_body P a ss = refl

-- ---- the stack and pc

pub stack_there : {A : Type 0} (m : pure.Main) (r : ℕ → A → Routine) (n : ℕ) (xs : List A) → 0 < length xs → equal (named stack) (for_all_processes m empty_tuple) ∷ [] ≡ stack_start m (numbered r n xs)
stack_there m r n [] h = absurd (let no : ⊥ = omega (arith, h) in no)
stack_there m r n (x ∷ xs) h = refl

pub pc_of_one : (P : Program) (ts : List Tree) (n : ℕ) (ps : List Process) (p : Process) → length ps ≡ 1 → p ≡ get_or ps 0 p → first_pc P (taken_process n (process_at ts p)) ≡ pc_value P (numbered taken_process n (map (process_at ts) ps))
pc_of_one P ts n [] p h is = absurd (let no : ⊥ = omega (arith, h) in no)
pc_of_one P ts n (x ∷ []) p h is = ap (λ (y : Process). first_pc P (taken_process n (process_at ts y))) is
pc_of_one P ts n (x ∷ y ∷ ps) p h is = absurd (let no : ⊥ = omega (arith, h) in no)

pub pc_by_cases : (P : Program) (ts : List Tree) (n : ℕ) (ps : List Process) → 1 < length ps → cases_of P (numbered taken_process n (map (process_at ts) ps)) ≡ pc_value P (numbered taken_process n (map (process_at ts) ps))
pc_by_cases P ts n [] h = absurd (let no : ⊥ = omega (arith, h) in no)
pc_by_cases P ts n (x ∷ []) h = absurd (let no : ⊥ = omega (arith, h) in no)
pc_by_cases P ts n (x ∷ y ∷ ps) h = refl

pub some_run : (ts : List Tree) (ps : List Process) → Runs (pure.processes (map (process_at ts) ps)) → 0 < length ps
some_run ts [] h = absurd h
some_run ts (p ∷ ps) h = omega arith

twice : ℕ → ℕ
twice zero = zero
twice (suc n) = suc (suc (twice n))

twice_is : (n : ℕ) → twice n ≡ 2 * n
unfolding twice
twice_is zero = refl
twice_is (suc n) = omega (arith, twice_is n)

pairs : (n : ℕ) → IsPaired (suc (suc (twice n)))
unfolding twice
pairs zero = tt
pairs (suc n) = pairs n

pub arms_paired : (n k : ℕ) → 0 < n → k ≡ 2 * n → IsPaired k
arms_paired zero k h e = absurd (let no : ⊥ = omega (arith, h) in no)
arms_paired (suc n) k h e = subst IsPaired (let same : suc (suc (twice n)) ≡ k = omega (arith, twice_is n, e) in same) (pairs n)

-- ---- unions

module _ (ts : List Tree) (ps : List Process) where
  pub union_more : (i : ℕ) (p : Process) → p ≡ get_or ps i p → i < length ps → (old new all : Tree)
      → new ≡ node (strict (operator Cup)) nowhere (tree old (tree (set_of_takers (takers_of (process_at ts p))) no_trees))
      → union_from old (sets_of_processes (map (process_at ts) (drop i ps))) ≡ all → union_from new (sets_of_processes (map (process_at ts) (drop (i + 1) ps))) ≡ all
  union_more i p is less old new all made h =
      ap (λ (t : Tree). union_from t (sets_of_processes (map (process_at ts) (drop (i + 1) ps)))) made
      ∙ ap (λ (l : List Process). union_from old (sets_of_processes (map (process_at ts) l))) (ap (λ (y : Process). y ∷ drop (i + 1) ps) is ∙ sym (drop_more ps i p less)) ∙ h

  pub union_done : (i : ℕ) (now all : Tree) → length ps ≤ i → union_from now (sets_of_processes (map (process_at ts) (drop i ps))) ≡ all → now ≡ all
  union_done i now all less h = sym (ap (λ (l : List Process). union_from now (sets_of_processes (map (process_at ts) l))) (drop_all i ps less)) ∙ h

pub union_all : (ts us : List Tree) → Keeps ts us → (ps : List Process) → greatest (map past_process ps) ≤ length ts → (p : Process) → p ≡ get_or ps 0 p → 1 ≤ length ps → (members new : Tree)
    → members ≡ set_of_takers (takers_of (process_at ts p)) → new ≡ union_from members (sets_of_processes (map (process_at us) (drop 1 ps))) → new ≡ union (sets_of_processes (map (process_at ts) ps))
union_all ts us k [] past p is h members new m made = absurd (let no : ⊥ = omega (arith, h) in no)
union_all ts us k (x ∷ xs) past p is h members new m made =
    made ∙ (λ j. union_from ((m ∙ ap (λ (y : Process). set_of_takers (takers_of (process_at ts y))) is) j) (sets_of_processes (processes_kept ts us k xs (omega (arith, past)) j)))
