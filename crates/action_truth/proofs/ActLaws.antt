-- Which action a name is, among the first ones.
use Rattle.std.proofs.Common.{◌≡◌, ℕ, zero, suc, ◌<◌, ◌≤◌, List, [], ◌∷◌, ◌++◌, length, map, take, get_or, Bool, true, false, cond, bytes_eq, Some, None, refl, sym, ap, subst, ◌∙◌, arith, add-one}
use Rattle.std.specs.Option.{option_map}
use Rattle.std.proofs.lemmas.List.{take_more, length-append, length-map}
use Rattle.tla_tree.specs.Tree.{Word}
use Rattle.tla_tree.specs.Pool.{at}
use Rattle.tla_tree.proofs.PoolNumbers.{same_default}
use Rattle.tla_value.specs.Limits.{bounded}
use Rattle.tla_value.specs.States.{value_of}
use Rattle.tla_value.specs.Stops.{Check}
use Rattle.tla_value.specs.Meaning.{Env}
use Rattle.tla_value.specs.Definitions.{Valuation}
use Rattle.module_tree.specs.Module as tree
use Rattle.module_tree.specs.ModuleTruth.{terminating}
use Rattle.module_tree.specs.ActionTruth.{Acts, no_acts, action_of, acts_of}
use Rattle.module_write.specs.declared.«module».Action.{Action}
use Rattle.module_write.specs.InMemory.{action_at, BodyIn, ActionsIn}
use Rattle.action_truth.specs.declared.formulas.Pair.{Pair}
use Rattle.action_truth.specs.AskedOf.{last_titled, all_actions}
use Rattle.action_truth.specs.Pairs.{scope_at, action_in, acts_in, acts_at}
use Rattle.action_truth.proofs.ListLaws.{element}
use Rattle.action_truth.proofs.TitleLaws.{titled_next}

acts_more : (c : Check) (s t : Valuation) (env : Env) (list : List tree.Action) (a : tree.Action) (acts : Acts) (x : Word)
    → acts_of c s t env (list ++ a ∷ []) acts x ≡ cond (bytes_eq a.title x) (Some (action_of c s t env (acts_of c s t env list acts) a)) (acts_of c s t env list acts x)
acts_more c s t env [] a acts x = refl
acts_more c s t env (b ∷ list) a acts x = acts_more c s t env list a (λ y. cond (bytes_eq b.title y) (Some (action_of c s t env acts b)) (acts y)) x

both_at : {A B : Type 0} (f : A → B) (xs : List A) (ys : List B) (n : ℕ) (x : A) (d : B) → x ≡ get_or xs n x → n < length xs → get_or (map f xs ++ ys) n d ≡ f x
both_at f [] ys n x d is less = absurd (omega (arith, less))
both_at f (z ∷ xs) ys zero x d is less = ap f (sym is)
both_at f (z ∷ xs) ys (suc n) x d is less = both_at f xs ys n x d is (omega (arith, less))

both_longer : {A B : Type 0} (f : A → B) (xs : List A) (ys : List B) → length xs ≤ length (map f xs ++ ys)
both_longer f xs ys = (let a = length-append (map f xs) ys in let b = length-map xs f in omega (arith, a, b))

-- with one more action behind
pub acts_last : (p : Pair) (list : List tree.Action) (a : tree.Action) (x : Word) → acts_in p (list ++ a ∷ []) x ≡ cond (bytes_eq a.title x) (Some (action_in p (acts_in p list) a)) (acts_in p list x)
acts_last p list a x = acts_more bounded (value_of p.from.now) (value_of p.to.now) (scope_at p) list a no_acts x

module _ (p : Pair) where
  abbrev acts_of_it : List Action
  acts_of_it = p.asked.region.now.actions.items

  -- with one more of them
  acts_next : (n : ℕ) (a : Action) (x : Word) → a ≡ get_or acts_of_it n a → n < length acts_of_it
      → acts_at p (suc n) x ≡ cond (bytes_eq a.title x) (Some (action_in p (acts_at p n) (action_at p.asked.pool.now a))) (acts_at p n x)
  acts_next n a x is less =
      let all = all_actions p.asked in
      let one = action_at p.asked.pool.now a in
      let more = terminating p.asked.region.now.vars (option_map (at p.asked.pool.now) p.asked.region.now.ended) in
      let l : length acts_of_it ≤ length all = both_longer (action_at p.asked.pool.now) acts_of_it more in
      let less2 : n < length all = omega (arith, l, less) in
      let whole : take (suc n) all ≡ take n all ++ one ∷ [] =
      ap (λ (k : ℕ). take k all) (sym (add-one n)) ∙ take_more all n one less2
      ∙ ap (λ (b : tree.Action). take n all ++ b ∷ []) (both_at (action_at p.asked.pool.now) acts_of_it more n a one is less) in
      ap (λ (l : List tree.Action). acts_in p l x) whole
      ∙ acts_last p (take n all) one x

  -- no action has the name
  pub acts_none : (n : ℕ) (x : Word) → n ≤ length acts_of_it → last_titled acts_of_it x n ≡ 0 → acts_at p n x ≡ None
  acts_none zero x le e = refl
  acts_none (suc n) x le e =
      let less : n < length acts_of_it = omega (arith, le) in
      let b = element acts_of_it n less in
      by b.0 (bytes_eq b.0.title x) (λ k. acts_none n x (omega (arith, le)) k) (sym (titled_next acts_of_it x n b.0 b.1 less) ∙ e) (acts_next n b.0 x b.1 less)
    where
      by : (b : Action) (q : Bool) → (last_titled acts_of_it x n ≡ 0 → acts_at p n x ≡ None) → cond q (suc n) (last_titled acts_of_it x n) ≡ 0 → acts_at p (suc n) x ≡ cond q (Some (action_in p (acts_at p n) (action_at p.asked.pool.now b))) (acts_at p n x) → acts_at p (suc n) x ≡ None
      by b true before k s = absurd (let no : ⊥ = omega (arith, k) in no)
      by b false before k s = s ∙ before k

  -- the last one that has it, which calls those before it
  pub acts_one : (n k : ℕ) (a : Action) (x : Word) → n ≤ length acts_of_it → last_titled acts_of_it x n ≡ suc k → a ≡ get_or acts_of_it k a → acts_at p n x ≡ Some (action_in p (acts_at p k) (action_at p.asked.pool.now a))
  acts_one zero k a x le e is = absurd (omega (arith, e))
  acts_one (suc n) k a x le e is =
      let less : n < length acts_of_it = omega (arith, le) in
      let b = element acts_of_it n less in
      by b.0 b.1 less (bytes_eq b.0.title x) (λ j. acts_one n k a x (omega (arith, le)) j is) (sym (titled_next acts_of_it x n b.0 b.1 less) ∙ e) (acts_next n b.0 x b.1 less)
    where
      by : (b : Action) → b ≡ get_or acts_of_it n b → n < length acts_of_it → (q : Bool) → (last_titled acts_of_it x n ≡ suc k → acts_at p n x ≡ Some (action_in p (acts_at p k) (action_at p.asked.pool.now a))) → cond q (suc n) (last_titled acts_of_it x n) ≡ suc k
          → acts_at p (suc n) x ≡ cond q (Some (action_in p (acts_at p n) (action_at p.asked.pool.now b))) (acts_at p n x) → acts_at p (suc n) x ≡ Some (action_in p (acts_at p k) (action_at p.asked.pool.now a))
      by b here less true before j s =
          let same : n ≡ k = omega (arith, j) in
          let alike : b ≡ a = here ∙ same_default acts_of_it n b a less ∙ ap (λ (i : ℕ). get_or acts_of_it i a) same ∙ sym is in
          s ∙ (λ i. Some (action_in p (acts_at p (same i)) (action_at p.asked.pool.now (alike i))))
      by b here less false before j s = s ∙ before j

-- the calls of an action are of the pool
pub body_within : (m : ℕ) (acts : List Action) (i : ℕ) (a : Action) → a ≡ get_or acts i a → i < length acts → ActionsIn m acts → BodyIn m a.body
body_within m [] i a is less h = absurd (omega (arith, less))
body_within m (b ∷ acts) zero a is less h = subst (λ (x : Action). BodyIn m x.body) (sym is) h.0
body_within m (b ∷ acts) (suc i) a is less h = body_within m acts i a is (omega (arith, less)) h.1
