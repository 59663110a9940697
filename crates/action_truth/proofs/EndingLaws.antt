-- Terminating, which comes after all other actions.
use Rattle.std.proofs.Common.{◌≡◌, ℕ, ◌<◌, ◌≤◌, min, List, [], ◌∷◌, ◌++◌, length, take, Bool, true, false, cond, bytes_eq, Option, Some, None, Ok, Err, refl, sym, ap, subst, ◌∙◌, arith, codes}
use Rattle.std.specs.Prelude.{MatchOption}
use Rattle.std.specs.Option.{option_map}
use Rattle.std.proofs.lemmas.List.{take_all, length-append, length-map}
use Rattle.tla_tree.specs.Tree.{Word}
use Rattle.tla_tree.specs.Pool.{at}
use Rattle.tla_token.specs.Places.{start}
use Rattle.tla_value.specs.declared.fault.FaultKind.TheVariants.{NotFunction}
use Rattle.tla_value.specs.Value.{Value, fault, and_then}
use Rattle.tla_value.specs.Limits.{bounded}
use Rattle.tla_value.specs.States.{value_of}
use Rattle.module_tree.specs.ActionTruth.{Acts, truth_in, are_unchanged}
use Rattle.module_tree.specs.Module as tree
use Rattle.module_tree.specs.ModuleTruth.{terminating}
use Rattle.module_write.specs.InMemory.{actions_at, action_at, MaybeIn}
use Rattle.action_truth.specs.declared.formulas.Pair.{Pair}
use Rattle.action_truth.specs.AskedOf.{all_actions}
use Rattle.action_truth.specs.Pairs.{scope_at, action_in, acts_in, acts_at, ending}
use Rattle.action_truth.proofs.ActLaws.{acts_last}
use Rattle.action_truth.proofs.ListLaws.{take_front}

module _ (p : Pair) where
  abbrev listed : List tree.Action
  listed = actions_at p.asked.pool.now p.asked.region.now.actions.items

  abbrev many : ℕ
  many = length p.asked.region.now.actions.items

  listed_many : length listed ≡ many
  listed_many = length-map p.asked.region.now.actions.items (action_at p.asked.pool.now)

  abbrev pub Tested : Word → ℕ → Option ℕ → Type 0
  Tested x n o =
      MatchOption o (acts_at p n x ≡ acts_at p (min n many) x) (λ e. (e < length p.asked.pool.now) × (acts_at p n x ≡ Some (action_in p (acts_at p many) (ending p e))))

  abbrev last_of : Option ℕ → List tree.Action
  last_of o = terminating p.asked.region.now.vars (option_map (at p.asked.pool.now) o)

  one_last : (e n : ℕ) → many < n → n ≤ length (listed ++ last_of (Some e)) → take n (listed ++ last_of (Some e)) ≡ listed ++ ending p e ∷ []
  one_last e n gt le =
      let a = length-append listed (last_of (Some e)) in
      let one : length (last_of (Some e)) ≡ 1 = refl in
      take_all n (listed ++ last_of (Some e)) (omega (arith, a, one, listed_many, gt))

  before_last : (o : Option ℕ) → take many (listed ++ last_of o) ≡ listed
  before_last o = take_front listed (last_of o) many (sym listed_many)

  -- the name is Terminating's, or not
  with_last : (o : Option ℕ) (e : ℕ) (x : Word) (n : ℕ) → o ≡ Some e → many < n → n ≤ length (listed ++ last_of o)
      → acts_in p (take n (listed ++ last_of o)) x ≡ cond (bytes_eq (codes "Terminating") x) (Some (action_in p (acts_in p (take many (listed ++ last_of o))) (ending p e))) (acts_in p (take many (listed ++ last_of o)) x)
  with_last o e x n is gt le =
      subst (λ (q : Option ℕ). acts_in p (take n (listed ++ last_of q)) x ≡ cond (bytes_eq (codes "Terminating") x) (Some (action_in p (acts_in p (take many (listed ++ last_of q))) (ending p e))) (acts_in p (take many (listed ++ last_of q)) x))
      (sym is)
      (ap (λ (l : List tree.Action). acts_in p l x) (one_last e n gt (subst (λ (q : Option ℕ). n ≤ length (listed ++ last_of q)) is le))
      ∙ acts_last p listed (ending p e) x
      ∙ ap (λ (l : List tree.Action). cond (bytes_eq (codes "Terminating") x) (Some (action_in p (acts_in p l) (ending p e))) (acts_in p l x)) (sym (before_last (Some e))))

  there_is : (o : Option ℕ) (n : ℕ) → many < n → n ≤ length (listed ++ last_of o) → (e : ℕ) × (o ≡ Some e)
  there_is (Some e) n gt le = (e, refl)
  there_is None n gt le =
      let a = length-append listed (last_of None) in
      let nothing : length (last_of None) ≡ 0 = refl in
      absurd (let no : ⊥ = omega (arith, a, nothing, listed_many, gt, le) in no)

  pub other_name : (x : Word) (n : ℕ) → many < n → n ≤ length (all_actions p.asked) → bytes_eq (codes "Terminating") x ≡ false → acts_at p n x ≡ acts_at p (min n many) x
  other_name x n gt le not_its =
      let o = p.asked.region.now.ended in
      let some = there_is o n gt le in
      with_last o some.0 x n some.1 gt le
      ∙ ap (λ (b : Bool). cond b (Some (action_in p (acts_at p many) (ending p some.0))) (acts_at p many x)) not_its
      ∙ ap (λ (k : ℕ). acts_at p k x) (let e : many ≡ min n many = omega (arith, gt) in e)

  pub its_name : (x : Word) (n : ℕ) → many < n → n ≤ length (all_actions p.asked) → bytes_eq (codes "Terminating") x ≡ true → MaybeIn (length p.asked.pool.now) p.asked.region.now.ended → Tested x n p.asked.region.now.ended
  its_name x n gt le its within =
      let o = p.asked.region.now.ended in
      let some = there_is o n gt le in
      subst (Tested x n) (sym some.1) (
        subst (MaybeIn (length p.asked.pool.now)) some.1 within,
        with_last o some.0 x n some.1 gt le ∙ ap (λ (b : Bool). cond b (Some (action_in p (acts_at p many) (ending p some.0))) (acts_at p many x)) its,
      )

-- ---- what it says

and_true : (b : Bool) → and_then (Ok b) (Ok true) ≡ Ok b
and_true true = refl
and_true false = refl

pub ending_is : (p : Pair) (e : ℕ) (acts : Acts) (v : Option Value) → v ≡ None
    → action_in p acts (ending p e) v ≡ and_then (truth_in bounded (scope_at p) (at p.asked.pool.now e)) (Ok (are_unchanged (value_of p.from.now) (value_of p.to.now) p.asked.region.now.vars))
ending_is p e acts v h =
    ap (action_in p acts (ending p e)) h
    ∙ ap (and_then (truth_in bounded (scope_at p) (at p.asked.pool.now e))) (and_true (are_unchanged (value_of p.from.now) (value_of p.to.now) p.asked.region.now.vars))

-- it has no argument
pub ending_unknown : (p : Pair) (e : ℕ) (acts : Acts) (v : Option Value) (w : Value) → v ≡ Some w → action_in p acts (ending p e) v ≡ Err (fault NotFunction start)
ending_unknown p e acts v w h = ap (action_in p acts (ending p e)) h
