-- Items that are asked in turn, as long as all before are allowed.
use Rattle.std.proofs.Common.{◌≡◌, ℕ, ◌+◌, ◌<◌, ◌≤◌, Bool, true, false, List, [], ◌∷◌, length, drop, get_or, Result, Ok, Err, refl, sym, ap, subst, ◌∙◌}
use Rattle.std.proofs.lemmas.List.{drop_more, drop_all}
use Rattle.tla_value.specs.declared.stop.EvalStop.{EvalStop}
use Rattle.tla_value.specs.declared.stop.EvalStop.TheVariants.{Memory, Fault, Limit}
use Rattle.tla_value.specs.Value.{Outcome, and_then}
use Rattle.value_forms.specs.Gives.{Stops, Tells}

-- ---- answers

pub stops_is : (s : EvalStop) (o p : Outcome Bool) → o ≡ p → Stops s o → Stops s p
stops_is s o p e h = subst (Stops s) e h

pub tells_is : (r : Result Bool EvalStop) (o p : Outcome Bool) → o ≡ p → Tells r o → Tells r p
tells_is r o p e h = subst (Tells r) e h

-- ---- one, and then the rest

pub and_stops : (s : EvalStop) (o rest : Outcome Bool) → Stops s o → Stops s (and_then o rest)
and_stops Memory o rest h = tt
and_stops (Fault k p) o rest h = ap (λ w. and_then w rest) h
and_stops (Limit p) o rest h = ap (λ w. and_then w rest) h

pub and_not : (o rest : Outcome Bool) → o ≡ Ok false → and_then o rest ≡ Ok false
and_not o rest e = ap (λ w. and_then w rest) e

pub and_tells : (r : Result Bool EvalStop) (o rest : Outcome Bool) → o ≡ Ok true → Tells r rest → Tells r (and_then o rest)
and_tells r o rest e h = subst (λ w. Tells r (and_then w rest)) (sym e) h

-- the first is allowed, and the rest meets the stop
pub stops_later : (s : EvalStop) (o rest : Outcome Bool) → o ≡ Ok true → Stops s rest → Stops s (and_then o rest)
stops_later s o rest e h = stops_is s rest (and_then o rest) (sym (ap (λ w. and_then w rest) e)) h

pub and_again : (a b d : Outcome Bool) → and_then (and_then a b) d ≡ and_then a (and_then b d)
and_again (Ok true) b d = refl
and_again (Ok false) b d = refl
and_again (Err k) b d = refl

-- ---- all of a list

abbrev pub all_asked : {A : Type 0} → (A → Outcome Bool) → List A → Outcome Bool
all_asked one [] = Ok true
all_asked one (x ∷ xs) = and_then (one x) (all_asked one xs)

module _ {A : Type 0} (one : A → Outcome Bool) (list : List A) where
  -- those before are allowed
  abbrev pub AskedFrom : ℕ → Type 0
  AskedFrom i = all_asked one (drop i list) ≡ all_asked one list

  first_asked : (i : ℕ) (x : A) → i < length list → x ≡ get_or list i x → all_asked one (drop i list) ≡ and_then (one x) (all_asked one (drop (i + 1) list))
  first_asked i x less is = ap (all_asked one) (drop_more list i x less ∙ ap (λ (z : A). z ∷ drop (i + 1) list) (sym is))

  pub asked_next : (i : ℕ) (x : A) → i < length list → x ≡ get_or list i x → one x ≡ Ok true → AskedFrom i → AskedFrom (i + 1)
  asked_next i x less is e h = sym (ap (λ w. and_then w (all_asked one (drop (i + 1) list))) e) ∙ sym (first_asked i x less is) ∙ h

  pub asked_not : (i : ℕ) (x : A) → i < length list → x ≡ get_or list i x → one x ≡ Ok false → AskedFrom i → all_asked one list ≡ Ok false
  asked_not i x less is e h = sym h ∙ first_asked i x less is ∙ and_not (one x) (all_asked one (drop (i + 1) list)) e

  pub asked_stops : (i : ℕ) (x : A) (s : EvalStop) → i < length list → x ≡ get_or list i x → Stops s (one x) → AskedFrom i → Stops s (all_asked one list)
  asked_stops i x s less is k h =
      stops_is s (and_then (one x) (all_asked one (drop (i + 1) list))) (all_asked one list) (sym (first_asked i x less is) ∙ h) (and_stops s (one x) (all_asked one (drop (i + 1) list)) k)

  pub asked_done : (i : ℕ) → length list ≤ i → AskedFrom i → all_asked one list ≡ Ok true
  asked_done i le h = sym h ∙ ap (all_asked one) (drop_all i list le)
