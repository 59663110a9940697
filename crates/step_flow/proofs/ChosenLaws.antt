-- What the next choice takes of the members of a set, and of the branches of an `either`.
use Rattle.std.proofs.Common.{◌≡◌, inl, inr, ℕ, zero, suc, ◌<◌, List, [], ◌∷◌, length, get_or, Vec, Global, Ok, refl, sym, ap, subst, ◌∙◌, arith}
use Rattle.tla_token.specs.declared.place.Place.{Place}
use Rattle.tla_tree.specs.Tree.{Word, Tree}
use Rattle.tla_value.specs.Value.{Value, Values, no_values, and, values_in, Outcome}
use Rattle.tla_value.specs.Order.{count}
use Rattle.pcal_tree.specs.declared.algorithm.Stmt.{Stmt}
use Rattle.pcal_tree.specs.Algorithm.{Branches, no_branches, or}
use Rattle.pcal_tree.specs.InMemory.{statements_at, branches_at}
use Rattle.pcal_tree.specs.Choices.{Walk}
use Rattle.pcal_tree.specs.Run.{Partner, Rules, unlabelled}
use Rattle.pcal_tree.specs.Scope.{State, Scope}
use Rattle.step_walks.specs.Flows.{Flow, halts, flowing, unchosen, chosen, chosen_of}
use Rattle.step_walks.specs.StepFlows.{flow, flow_one, flow_branch, count_branches}
use Rattle.pcal_tree.specs.Algorithm.{either}
use Rattle.step_choices.specs.declared.pause.Pause.{Pause}
use Rattle.step_choices.specs.Pauses.{Pauses}
use Rattle.step_choices.specs.Picks.{TakesNone, pause_unchosen}

-- ---- nothing is taken

pub unchosen_pauses : {X : Type 0} (n : ℕ) (p : Place) (f : Flow X) → f ≡ halts (unchosen n p) → Pauses (pause_unchosen n p) f
unchosen_pauses zero p f h = h
unchosen_pauses (suc n) p f h = h

-- ---- members

count_is : (vs : List Value) → count (values_in vs) ≡ length vs
count_is [] = refl
count_is (v ∷ vs) = ap suc (count_is vs)

module _ {X : Type 0} (go : Value → List ℕ → Flow X) (otherwise : Walk) where
  of_taken : (vs : List Value) (i : ℕ) (w : Value) (ns : List ℕ) → i < length vs → w ≡ get_or vs i w → chosen_of otherwise (values_in vs) (suc i) ns go ≡ go w ns
  of_taken [] i w ns less is = absurd (omega (arith, less))
  of_taken (v ∷ vs) zero w ns less is = ap (λ (x : Value). go x ns) (sym is)
  of_taken (v ∷ vs) (suc i) w ns less is = of_taken vs i w ns (omega (arith, less)) is

  of_zero : (vs : Values) (ns : List ℕ) → chosen_of otherwise vs 0 ns go ≡ halts otherwise
  of_zero no_values ns = refl
  of_zero (and v vs) ns = refl

  of_past : (vs : List Value) (n : ℕ) (ns : List ℕ) → length vs < n → chosen_of otherwise (values_in vs) n ns go ≡ halts otherwise
  of_past [] n ns less = refl
  of_past (v ∷ vs) zero ns less = absurd (omega (arith, less))
  of_past (v ∷ vs) (suc zero) ns less = absurd (omega (arith, less))
  of_past (v ∷ vs) (suc (suc n)) ns less = of_past vs (suc n) ns (omega (arith, less))

pub member_taken : {X : Type 0} (at : Place) (vs : List Value) (i : ℕ) (w : Value) (ms ns : List ℕ) (go : Value → List ℕ → Flow X) → i < length vs → w ≡ get_or vs i w → ms ≡ suc i ∷ ns → chosen at (values_in vs) ms go ≡ go w ns
member_taken at vs i w ms ns go less is h = ap (λ (ls : List ℕ). chosen at (values_in vs) ls go) h ∙ of_taken go _ vs i w ns less is

member_none : {X : Type 0} (at : Place) (vs : List Value) (ns : List ℕ) (go : Value → List ℕ → Flow X) → TakesNone (length vs) ns → chosen at (values_in vs) ns go ≡ halts (unchosen (length vs) at)
member_none at vs [] go h = ap (λ (n : ℕ). halts (unchosen n at)) (count_is vs)
member_none at vs (n ∷ ns) go (inl h) = ap (λ (k : ℕ). chosen_of (unchosen (count (values_in vs)) at) (values_in vs) k ns go) h ∙ of_zero go _ (values_in vs) ns ∙ ap (λ (k : ℕ). halts (unchosen k at)) (count_is vs)
member_none at vs (n ∷ ns) go (inr h) = of_past go _ vs n ns h ∙ ap (λ (k : ℕ). halts (unchosen k at)) (count_is vs)

pub member_pauses : {X : Type 0} (at : Place) (vs : List Value) (ns : List ℕ) (go : Value → List ℕ → Flow X) (p : Pause) → p ≡ pause_unchosen (length vs) at → TakesNone (length vs) ns → Pauses p (chosen at (values_in vs) ns go)
member_pauses at vs ns go p e h = subst (λ q. Pauses q (chosen at (values_in vs) ns go)) (sym e) (unchosen_pauses (length vs) at (chosen at (values_in vs) ns go) (member_none at vs ns go h))

-- ---- branches

module _ (M : Rules) (ts : List Tree) (sc : Scope) (x : Word) (j : Partner) (s : State) where
  branches_count : (bs : List (Vec Stmt Global)) → count_branches (branches_at ts bs) ≡ length bs
  branches_count [] = refl
  branches_count (b ∷ bs) = ap suc (branches_count bs)

  branch_of : (otherwise : Walk) (bs : List (Vec Stmt Global)) (i : ℕ) (b : Vec Stmt Global) (ns : List ℕ) → i < length bs → b ≡ get_or bs i b
      → flow_branch M otherwise (branches_at ts bs) sc x j s (suc i) ns ≡ flow M unlabelled (statements_at ts b.items) sc x j s ns
  branch_of otherwise [] i b ns less is = absurd (omega (arith, less))
  branch_of otherwise (c ∷ bs) zero b ns less is = ap (λ (y : Vec Stmt Global). flow M unlabelled (statements_at ts y.items) sc x j s ns) (sym is)
  branch_of otherwise (c ∷ bs) (suc i) b ns less is = branch_of otherwise bs i b ns (omega (arith, less)) is

  branch_past : (otherwise : Walk) (bs : List (Vec Stmt Global)) (n : ℕ) (ns : List ℕ) → length bs < n → flow_branch M otherwise (branches_at ts bs) sc x j s n ns ≡ halts otherwise
  branch_past otherwise [] n ns less = refl
  branch_past otherwise (b ∷ bs) zero ns less = absurd (omega (arith, less))
  branch_past otherwise (b ∷ bs) (suc zero) ns less = absurd (omega (arith, less))
  branch_past otherwise (b ∷ bs) (suc (suc n)) ns less = branch_past otherwise bs (suc n) ns (omega (arith, less))

  branch_zero : (otherwise : Walk) (bs : Branches) (ns : List ℕ) → flow_branch M otherwise bs sc x j s 0 ns ≡ halts otherwise
  branch_zero otherwise no_branches ns = refl
  branch_zero otherwise (or b bs) ns = refl

  module _ (here : Word) (at : Place) where
    pub branch_picked : (bs : List (Vec Stmt Global)) (i : ℕ) (b : Vec Stmt Global) (ms ns : List ℕ) → i < length bs → b ≡ get_or bs i b → ms ≡ suc i ∷ ns
        → flow_one M here at (either (branches_at ts bs)) sc x j s ms ≡ flow M unlabelled (statements_at ts b.items) sc x j s ns
    branch_picked bs i b ms ns less is h = ap (flow_one M here at (either (branches_at ts bs)) sc x j s) h ∙ branch_of _ bs i b ns less is

    branch_none : (bs : List (Vec Stmt Global)) (ns : List ℕ) → TakesNone (length bs) ns → flow_one M here at (either (branches_at ts bs)) sc x j s ns ≡ halts (unchosen (length bs) at)
    branch_none bs [] h = ap (λ (n : ℕ). halts (unchosen n at)) (branches_count bs)
    branch_none bs (n ∷ ns) (inl h) =
        ap (λ (k : ℕ). flow_branch M (unchosen (count_branches (branches_at ts bs)) at) (branches_at ts bs) sc x j s k ns) h ∙ branch_zero _ (branches_at ts bs) ns ∙ ap (λ (k : ℕ). halts (unchosen k at)) (branches_count bs)
    branch_none bs (n ∷ ns) (inr h) = branch_past _ bs n ns h ∙ ap (λ (k : ℕ). halts (unchosen k at)) (branches_count bs)

    pub branch_pauses : (bs : List (Vec Stmt Global)) (ns : List ℕ) (p : Pause) → p ≡ pause_unchosen (length bs) at → TakesNone (length bs) ns → Pauses p (flow_one M here at (either (branches_at ts bs)) sc x j s ns)
    branch_pauses bs ns p e h =
        subst (λ q. Pauses q (flow_one M here at (either (branches_at ts bs)) sc x j s ns)) (sym e) (unchosen_pauses (length bs) at _ (branch_none bs ns h))

-- of a set that is given

pub set_taken : {X : Type 0} (o : Outcome Values) (at : Place) (vs : List Value) (n i : ℕ) (u w : Value) (ms ns : List ℕ) (go : Value → List ℕ → Flow X)
    → o ≡ Ok (values_in vs) → n ≡ length vs → i < n → u ≡ get_or vs i u → w ≡ u → ms ≡ suc i ∷ ns → flowing o (λ ws. chosen at ws ms go) ≡ go w ns
set_taken o at vs n i u w ms ns go h e less is same k =
    ap (λ (q : Outcome Values). flowing q (λ ws. chosen at ws ms go)) h
    ∙ member_taken at vs i u ms ns go (omega (arith, less, e)) is k
    ∙ ap (λ (x : Value). go x ns) (sym same)

pub set_pauses : {X : Type 0} (o : Outcome Values) (at : Place) (vs : List Value) (n : ℕ) (ns : List ℕ) (go : Value → List ℕ → Flow X) (p : Pause)
    → o ≡ Ok (values_in vs) → n ≡ length vs → p ≡ pause_unchosen n at → TakesNone n ns → Pauses p (flowing o (λ ws. chosen at ws ns go))
set_pauses o at vs n ns go p h e is none =
    subst (λ (q : Outcome Values). Pauses p (flowing q (λ ws. chosen at ws ns go))) (sym h)
    (member_pauses at vs ns go p (is ∙ ap (λ (k : ℕ). pause_unchosen k at) e) (subst (λ (k : ℕ). TakesNone k ns) e none))
