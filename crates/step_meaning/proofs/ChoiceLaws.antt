-- What a choice takes of a set in memory.
use Rattle.std.proofs.Common.{◌≡◌, ◌⊎◌, inl, inr, ℕ, zero, suc, ◌+◌, ◌<◌, ◌≤◌, List, [], ◌∷◌, ◌++◌, length, drop, get_or, append_assoc, refl, sym, ap, subst, ◌∙◌, arith}
use Rattle.std.proofs.lemmas.List.{drop_more, drop_all, append-nil}
use Rattle.tla_token.specs.declared.place.Place.{Place}
use Rattle.tla_value.specs.Value.{Value, Values, no_values, and, values_in}
use Rattle.tla_value.specs.Order.{count}
use Rattle.pcal_tree.specs.Choices.{Walk}
use Rattle.step_walks.specs.Flows.{Flow, falls, halts, onward, unchosen, chosen_of, chosen}
use Rattle.step_choices.specs.declared.pause.Pause.{Pause}
use Rattle.step_choices.specs.Pauses.{Pauses}
use Rattle.step_choices.specs.Picks.{TakesNone, pause_unchosen}
use Rattle.step_meaning.specs.Identified.{each_chosen}
use Rattle.step_meaning.proofs.FlowLaws.{through, pauses_onward, pauses_is}

pub count_is : (vs : List Value) → count (values_in vs) ≡ length vs
count_is [] = refl
count_is (v ∷ vs) = ap suc (count_is vs)

taken_of : {X : Type 0} (w : Walk) (vs : List Value) (i : ℕ) (v : Value) (ns : List ℕ) (go : Value → List ℕ → Flow X) → i < length vs → v ≡ get_or vs i v → chosen_of w (values_in vs) (suc i) ns go ≡ go v ns
taken_of w [] i v ns go less is = absurd (omega (arith, less))
taken_of w (u ∷ vs) zero v ns go less is = ap (λ (x : Value). go x ns) (sym is)
taken_of w (u ∷ vs) (suc i) v ns go less is = taken_of w vs i v ns go (omega (arith, less)) is

pub chosen_taken : {X : Type 0} (at : Place) (vs : List Value) (i : ℕ) (v : Value) (ns ms : List ℕ) (go : Value → List ℕ → Flow X) → i < length vs → v ≡ get_or vs i v → ns ≡ suc i ∷ ms → chosen at (values_in vs) ns go ≡ go v ms
chosen_taken at vs i v ns ms go less is e = ap (λ (l : List ℕ). chosen at (values_in vs) l go) e ∙ taken_of (unchosen (count (values_in vs)) at) vs i v ms go less is

-- there is no such number
abbrev NoSuch : ℕ → ℕ → Type 0
NoSuch n k = (k ≡ 0) ⊎ (n < k)

no_first : (n : ℕ) → NoSuch (suc n) 1 → ⊥
no_first n (inl e) = omega (arith, e)
no_first n (inr l) = omega (arith, l)

later : (n k : ℕ) → NoSuch (suc n) (suc (suc k)) → NoSuch n (suc k)
later n k (inl e) = absurd (omega (arith, e))
later n k (inr l) = inr (omega (arith, l))

none_of : {X : Type 0} (w : Walk) (vs : Values) (k : ℕ) (ns : List ℕ) (go : Value → List ℕ → Flow X) → NoSuch (count vs) k → chosen_of w vs k ns go ≡ halts w
none_of w no_values k ns go h = refl
none_of w (and v vs) zero ns go h = refl
none_of w (and v vs) (suc zero) ns go h = absurd (no_first (count vs) h)
none_of w (and v vs) (suc (suc k)) ns go h = none_of w vs (suc k) ns go (later (count vs) k h)

chosen_none : {X : Type 0} (at : Place) (vs : Values) (ns : List ℕ) (go : Value → List ℕ → Flow X) → TakesNone (count vs) ns → chosen at vs ns go ≡ halts (unchosen (count vs) at)
chosen_none at vs [] go h = refl
chosen_none at vs (k ∷ ns) go h = none_of (unchosen (count vs) at) vs k ns go h

pauses_unchosen : (X : Type 0) (n : ℕ) (at : Place) → Pauses {X = X} (pause_unchosen n at) (halts (unchosen n at))
pauses_unchosen X zero at = refl
pauses_unchosen X (suc n) at = refl

pub chosen_pauses : {X : Type 0} (at : Place) (vs : List Value) (ns : List ℕ) (go : Value → List ℕ → Flow X) (n : ℕ) (p : Pause) → n ≡ length vs → p ≡ pause_unchosen n at → TakesNone n ns → Pauses p (chosen at (values_in vs) ns go)
chosen_pauses {X = X} at vs ns go n p e is h =
    let same : n ≡ count (values_in vs) = e ∙ sym (count_is vs) in
    subst (λ (q : Pause). Pauses q (chosen at (values_in vs) ns go)) (sym (is ∙ ap (λ (k : ℕ). pause_unchosen k at) same))
    (pauses_is (pause_unchosen (count (values_in vs)) at) (halts (unchosen (count (values_in vs)) at)) (chosen at (values_in vs) ns go)
    (sym (chosen_none at (values_in vs) ns go (subst (λ (k : ℕ). TakesNone k ns) same h))) (pauses_unchosen X (count (values_in vs)) at))

-- what follows a choice, apart from it
chosen_onward_of : {X Y : Type 0} (w : Walk) (vs : Values) (k : ℕ) (ns : List ℕ) (go : X → List ℕ → Flow Y) (on : Value → List ℕ → Flow X) → chosen_of w vs k ns (λ v ms. onward (on v ms) go) ≡ onward (chosen_of w vs k ns on) go
chosen_onward_of w no_values k ns go on = refl
chosen_onward_of w (and v vs) zero ns go on = refl
chosen_onward_of w (and v vs) (suc zero) ns go on = refl
chosen_onward_of w (and v vs) (suc (suc k)) ns go on = chosen_onward_of w vs (suc k) ns go on

pub chosen_onward : {Y : Type 0} (at : Place) (vs : Values) (ns : List ℕ) (go : Value → List ℕ → Flow Y) → chosen at vs ns go ≡ onward (chosen at vs ns falls) go
chosen_onward at vs [] go = refl
chosen_onward at vs (k ∷ ns) go = chosen_onward_of (unchosen (count vs) at) vs k ns go falls

-- ---- a member for each identifier

module _ (at : Place) (ws : Values) (ids : List Value) where
  abbrev pub EachFrom : ℕ → List Value → List ℕ → List ℕ → Type 0
  EachFrom i done ns ms = onward (each_chosen at ws (drop i ids) ns) (λ us ls. falls (done ++ us) ls) ≡ each_chosen at ws ids ms

  ended : (f : Flow (List Value)) (done : List Value) → done ≡ [] → onward f (λ us ls. falls (done ++ us) ls) ≡ f
  ended (falls us ls) done e = ap (λ (l : List Value). falls (l ++ us) ls) e
  ended (halts w) done e = refl

  pub each_begun : (done : List Value) (ns : List ℕ) → done ≡ [] → EachFrom 0 done ns ns
  each_begun done ns e = ended (each_chosen at ws ids ns) done e

  next_is : (i : ℕ) (v : Value) (ns : List ℕ) → i < length ids → v ≡ get_or ids i v
      → each_chosen at ws (drop i ids) ns ≡ onward (chosen at ws ns falls) (λ w ms. onward (each_chosen at ws (drop (i + 1) ids) ms) (λ us ls. falls (w ∷ us) ls))
  next_is i v ns less is =
      ap (λ (l : List Value). each_chosen at ws l ns) (drop_more ids i v less) ∙ chosen_onward at ws ns (λ w ms. onward (each_chosen at ws (drop (i + 1) ids) ms) (λ us ls. falls (w ∷ us) ls))

  joined : (f : Flow (List Value)) (done more : List Value) (w : Value) → more ≡ done ++ w ∷ [] → onward f (λ us ls. falls (more ++ us) ls) ≡ onward (onward f (λ us ls. falls (w ∷ us) ls)) (λ us ls. falls (done ++ us) ls)
  joined (falls us ls) done more w e = ap (λ (l : List Value). falls l ls) (ap (λ (l : List Value). l ++ us) e ∙ append_assoc done (w ∷ []) us)
  joined (halts x) done more w e = refl

  pub each_next : (i : ℕ) (v w : Value) (done more : List Value) (ns ms first : List ℕ) → i < length ids → v ≡ get_or ids i v → chosen at ws ns falls ≡ falls w ms → more ≡ done ++ w ∷ [] → EachFrom i done ns first → EachFrom (i + 1) more ms first
  each_next i v w done more ns ms first less is e m h =
      let rest = each_chosen at ws (drop (i + 1) ids) ms in
      joined rest done more w m
      ∙ ap (λ (f : Flow (List Value)). onward f (λ us ls. falls (done ++ us) ls)) (sym (next_is i v ns less is ∙ through (chosen at ws ns falls) w ms (λ u ls. onward (each_chosen at ws (drop (i + 1) ids) ls) (λ us ks. falls (u ∷ us) ks)) e))
      ∙ h

  pub each_pauses : (i : ℕ) (v : Value) (done : List Value) (ns first : List ℕ) (p : Pause) → i < length ids → v ≡ get_or ids i v → Pauses p (chosen at ws ns falls) → EachFrom i done ns first → Pauses p (each_chosen at ws ids first)
  each_pauses i v done ns first p less is k h =
      let f = each_chosen at ws (drop i ids) ns in
      pauses_is p (onward f (λ us ls. falls (done ++ us) ls)) (each_chosen at ws ids first) h
      (pauses_onward p f (λ us ls. falls (done ++ us) ls)
      (pauses_is p (onward (chosen at ws ns falls) (λ w ms. onward (each_chosen at ws (drop (i + 1) ids) ms) (λ us ls. falls (w ∷ us) ls))) f (sym (next_is i v ns less is)) (pauses_onward p (chosen at ws ns falls) _ k)))

  pub each_done : (i : ℕ) (done : List Value) (ns first : List ℕ) → length ids ≤ i → EachFrom i done ns first → each_chosen at ws ids first ≡ falls done ns
  each_done i done ns first le h = sym h ∙ ap (λ (l : List Value). onward (each_chosen at ws l ns) (λ us ls. falls (done ++ us) ls)) (drop_all i ids le) ∙ ap (λ (l : List Value). falls l ns) (append-nil done)
