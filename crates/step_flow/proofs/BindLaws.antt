-- What the binds of a `with` bind: one after another, each seen by those after it.
use Rattle.std.proofs.Common.{◌≡◌, ℕ, ◌+◌, ◌<◌, List, [], ◌∷◌, ◌++◌, length, take, drop, get_or, Result, Ok, Err, refl, sym, ap, subst, ◌∙◌}
use Rattle.std.proofs.lemmas.List.{drop_more}
use Rattle.std.specs.Result.{IsErr, IsErrAnd}
use Rattle.tla_token.specs.declared.place.Place.{Place}
use Rattle.tla_tree.specs.Tree.{Word, Tree, Name}
use Rattle.tla_tree.specs.Pool.{at}
use Rattle.tla_value.specs.Limits.{bounded}
use Rattle.tla_value.specs.Value.{Value, Outcome}
use Rattle.pcal_tree.specs.declared.algorithm.Bind.{Bind}
use Rattle.pcal_tree.specs.declared.algorithm.Bind.TheVariants.{Among, Is}
use Rattle.pcal_tree.specs.Algorithm.{Binds}
use Rattle.pcal_tree.specs.InMemory.{bind_at, binds_at}
use Rattle.pcal_tree.specs.Scope.{State, Scope, bound, members, value_of}
use Rattle.pcal_tree.specs.Program.{Program}
use Rattle.step_walks.specs.Flows.{Flow, flowing, chosen}
use Rattle.step_walks.specs.StepFlows.{flow_binds}
use Rattle.step_choices.specs.declared.pause.Pause.{Pause}
use Rattle.step_choices.specs.Pauses.{Pauses}
use Rattle.step_moves.specs.ScopeIn.{scope_in}
use Rattle.step_moves.proofs.ScopeLaws.{scope_more}
use Rattle.step_flow.specs.Binding.{bind_name, Leads}

pub binds_more : (ts : List Tree) (bs : List Bind) (i : ℕ) (b : Bind) → b ≡ get_or bs i b → i < length bs → binds_at ts (drop i bs) ≡ bind_at ts b (binds_at ts (drop (i + 1) bs))
binds_more ts bs i b is less = ap (binds_at ts) (drop_more bs i b less ∙ ap (λ (y : Bind). y ∷ drop (i + 1) bs) (sym is))

-- the first of what was bound before and of one name more is what was bound before
pub take_first : {X : Type 0} (xs ys zs : List X) → ys ≡ xs ++ zs → take (length xs) ys ≡ xs
take_first {X = X} xs ys zs e = ap (take (length xs)) e ∙ by xs
  where
    by : (us : List X) → take (length us) (us ++ zs) ≡ us
    by [] = refl
    by (u ∷ us) = ap (λ l. u ∷ l) (by us)

-- a `?` passes the pause on
pub err_leads : {X : Type 0} (r : Result X Pause) (p : Pause) (go : X → Flow State) (f : Flow State) → IsErr r × IsErrAnd r (λ e. e ≡ p) → Pauses p f → Leads r go f
err_leads (Ok x) p go f h e = cc
err_leads (Err q) p go f h e = subst (λ t. Pauses t f) (sym h.1) e

-- ---- one bind

module _ (ts : List Tree) (at-with : Place) (sc : Scope) (s : State) (r : Result Value Pause) (ns ms : List ℕ) where
  abbrev BoundBy : Bind → Type 0
  BoundBy b = (rest : Binds) (body : Scope → List ℕ → Flow State)
      → Leads r (λ w. flow_binds bounded at-with rest body (bound (bind_name b) w sc) s ms) (flow_binds bounded at-with (bind_at ts b rest) body sc s ns)

  pub among_bound : (b : Bind) (x : Name) (e : ℕ) → b ≡ Among x e → ((go : Value → List ℕ → Flow State) → Leads r (λ w. go w ms) (flowing (members bounded (at ts e) sc s) (λ vs. chosen at-with vs ns go))) → BoundBy b
  among_bound b x e is h = subst BoundBy (sym is) (λ rest body. h (λ w ls. flow_binds bounded at-with rest body (bound x.word w sc) s ls))

module _ (ts : List Tree) (at-with : Place) (sc : Scope) (s : State) (ns : List ℕ) where
  pub is_bound : (w : Value) (b : Bind) (x : Name) (e : ℕ) → b ≡ Is x e → value_of bounded (at ts e) sc s ≡ Ok w → (rest : Binds) (body : Scope → List ℕ → Flow State)
      → flow_binds bounded at-with (bind_at ts b rest) body sc s ns ≡ flow_binds bounded at-with rest body (bound (bind_name b) w sc) s ns
  is_bound w b x e is h rest body =
      subst (λ (y : Bind). flow_binds bounded at-with (bind_at ts y rest) body sc s ns ≡ flow_binds bounded at-with rest body (bound (bind_name y) w sc) s ns) (sym is)
      (ap (λ (o : Outcome Value). flowing o (λ v. flow_binds bounded at-with rest body (bound x.word v sc) s ns)) h)

pub one_more : (P : Program) (xs ys : List Word) (vs ws : List Value) (x : Word) (v w : Value) → length xs ≡ length vs → ys ≡ xs ++ x ∷ [] → ws ≡ vs ++ v ∷ [] → w ≡ v
    → bound x w (scope_in P xs vs) ≡ scope_in P ys ws
one_more P xs ys vs ws x v w e h k is = ap (λ (z : Value). bound x z (scope_in P xs vs)) is ∙ scope_more P xs vs x v e ∙ (λ i. scope_in P (sym h i) (sym k i))
