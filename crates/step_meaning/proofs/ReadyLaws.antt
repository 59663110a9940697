-- What every start ends with: the stacks and `pc` get their values.
use Rattle.std.proofs.Common.{◌≡◌, ◌==◌, true≢false, false, ℕ, zero, suc, ◌<◌, ◌≤◌, List, [], ◌∷◌, ◌++◌, ◌+◌, length, map, take, get_or, refl, sym, ap, subst, ◌∙◌, arith}
use Rattle.std.proofs.lemmas.List.{take_more, take_all, map-append}
use Rattle.tla_tree.specs.Tree.{Word, Tree}
use Rattle.tla_value.specs.Value.{Value}
use Rattle.pcal_tree.specs.Algorithm.{Statements, Process, Main, alone, processes, Routine, numbered, procedure_routine}
use Rattle.pcal_tree.specs.InMemory.{procedure_at}
use Rattle.pcal_tree.specs.declared.algorithm.Procedure.{Procedure}
use Rattle.pcal_tree.specs.InitialChoice.{own_begun, stack_begun}
use Rattle.pcal_tree.specs.InitialStates.{function_on, empty_stack}
use Rattle.pcal_tree.specs.Program.{Program, Actor}
use Rattle.pcal_tree.specs.Scope.{State, put}
use Rattle.pcal_tree.specs.Variables.{stack}

module _ (x : Word) (vs : List Actor) (f : Actor → Value) (us : List Value) (s t : State) (are : us ≡ map f vs) where
  pub own_spread : (m : Main) (ps : List Process) (w : Value) → m ≡ processes ps → w ≡ function_on vs us → t ≡ put x w s → t ≡ own_begun m x vs f s
  own_spread m ps w e q h = h ∙ ap (λ (z : Value). put x z s) (q ∙ ap (function_on vs) are) ∙ sym (ap (λ (n : Main). own_begun n x vs f s) e)

  pub own_none : (m : Main) (ss : Statements) → m ≡ alone ss → length us ≡ 0 → t ≡ s → t ≡ own_begun m x vs f s
  own_none m ss e n h = h ∙ by vs (ap length (sym are) ∙ n) ∙ sym (ap (λ (n : Main). own_begun n x vs f s) e)
    where
      by : (ws : List Actor) → length (map f ws) ≡ 0 → s ≡ own_begun (alone ss) x ws f s
      by [] k = refl
      by (w ∷ ws) k = absurd (omega (arith, k))

  pub own_first : (m : Main) (ss : Statements) (w : Value) → m ≡ alone ss → 0 < length us → w ≡ get_or us 0 w → t ≡ put x w s → t ≡ own_begun m x vs f s
  own_first m ss w e n q h = h ∙ by vs (subst (λ (l : List Value). 0 < length l) are n) (q ∙ ap (λ (l : List Value). get_or l 0 w) are) ∙ sym (ap (λ (n : Main). own_begun n x vs f s) e)
    where
      by : (ws : List Actor) → 0 < length (map f ws) → w ≡ get_or (map f ws) 0 w → put x w s ≡ own_begun (alone ss) x ws f s
      by [] k r = absurd (omega (arith, k))
      by (v ∷ ws) k r = ap (λ (z : Value). put x z s) r

-- where there are no stacks, and where there are
pub stacks_none : (P : Program) (us : List Routine) (vs : List Actor) (s : State) → us ≡ [] → stack_begun P us vs s ≡ s
stacks_none P us vs s e = ap (λ (l : List Routine). stack_begun P l vs s) e

pub stacks_some : (P : Program) (us : List Routine) (u : Routine) (rest : List Routine) (vs : List Actor) (s : State) → us ≡ u ∷ rest → stack_begun P us vs s ≡ own_begun P.algorithm.main stack vs (λ v. empty_stack) s
stacks_some P us u rest vs s e = ap (λ (l : List Routine). stack_begun P l vs s) e

-- where there are procedures
pub some_procedures : (ts : List Tree) (n : ℕ) (ps : List Procedure) → 0 < length ps → (u : Routine) × (rest : List Routine) × (numbered procedure_routine n (map (procedure_at ts) ps) ≡ u ∷ rest)
some_procedures ts n [] h = absurd (omega (arith, h))
some_procedures ts n (p ∷ ps) h = (procedure_routine n (procedure_at ts p), numbered procedure_routine (suc n) (map (procedure_at ts) ps), refl)

-- one value more
pub mapped_more : {A B C : Type 0} (f : B → C) (g : A → B) (xs : List A) (i : ℕ) (x : A) (done more : List C) (v : C) → i < length xs → x ≡ get_or xs i x → more ≡ done ++ v ∷ [] → v ≡ f (g x) → done ≡ map f (map g (take i xs)) → more ≡ map f (map g (take (i + 1) xs))
mapped_more f g xs i x done more v less is m e h =
    m ∙ (λ j. h j ++ (e ∙ ap (λ y. f (g y)) is) j ∷ [])
    ∙ sym (ap (λ l. map f (map g l)) (take_more xs i x less) ∙ ap (map f) (map-append g (take i xs) (get_or xs i x ∷ [])) ∙ map-append f (map g (take i xs)) (g (get_or xs i x) ∷ []))

pub mapped_all : {A B C : Type 0} (f : B → C) (g : A → B) (xs : List A) (i : ℕ) (done : List C) → length xs ≤ i → done ≡ map f (map g (take i xs)) → done ≡ map f (map g xs)
mapped_all f g xs i done le h = h ∙ ap (λ l. map f (map g l)) (take_all i xs le)

pub nonzero : (n : ℕ) → (n == 0) ≡ false → 0 < n
nonzero zero e = absurd (true≢false e)
nonzero (suc n) e = omega arith
