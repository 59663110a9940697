-- What is read for each of some names, from the first on, until one stops it.
use Rattle.std.proofs.Common.{◌≡◌, ℕ, ◌+◌, ◌<◌, ◌≤◌, List, [], ◌∷◌, ◌++◌, length, drop, get_or, append_assoc, refl, sym, ap, ◌∙◌, Ok, Err}
use Rattle.std.proofs.lemmas.List.{append-nil, drop_more, drop_all}
use Rattle.tla_value.specs.declared.stop.EvalStop.{EvalStop}
use Rattle.tla_value.specs.declared.stop.EvalStop.TheVariants.{Memory, Fault, Limit}
use Rattle.tla_value.specs.Value.{Outcome, ◌>>=◌, in_order}
use Rattle.value_forms.specs.Gives.{Stops}
use Rattle.value_forms.proofs.StopLaws.{behind}

module _ {X Y : Type 0} (go : X → Outcome Y) where
  abbrev first_then : Outcome Y → Outcome (List Y) → Outcome (List Y)
  first_then o rest = o >>= (λ y. rest >>= (λ ys. Ok (y ∷ ys)))

  one_more : (done : List Y) (y : Y) (o : Outcome (List Y)) → behind (done ++ y ∷ []) o ≡ behind done (o >>= (λ ys. Ok (y ∷ ys)))
  one_more done y (Ok ys) = ap Ok (append_assoc done (y ∷ []) ys)
  one_more done y (Err k) = refl

  first_is : (xs : List X) (i : ℕ) (x : X) → i < length xs → x ≡ get_or xs i x → in_order go (drop i xs) ≡ first_then (go x) (in_order go (drop (i + 1) xs))
  first_is xs i x less is = ap (in_order go) (drop_more xs i x less) ∙ ap (λ (z : X). first_then (go z) (in_order go (drop (i + 1) xs))) (sym is)

  pub each_next : (xs : List X) (done more : List Y) (i : ℕ) (x : X) (y : Y) (all : Outcome (List Y)) → i < length xs → x ≡ get_or xs i x → go x ≡ Ok y → more ≡ done ++ y ∷ []
      → behind done (in_order go (drop i xs)) ≡ all → behind more (in_order go (drop (i + 1) xs)) ≡ all
  each_next xs done more i x y all less is e d h =
      let rest = in_order go (drop (i + 1) xs) in
      ap (λ (l : List Y). behind l rest) d ∙ one_more done y rest ∙ ap (λ (o : Outcome Y). behind done (first_then o rest)) (sym e) ∙ ap (behind done) (sym (first_is xs i x less is)) ∙ h

  pub each_stop : (xs : List X) (done : List Y) (i : ℕ) (x : X) (stop : EvalStop) (all : Outcome (List Y)) → i < length xs → x ≡ get_or xs i x → Stops stop (go x)
      → behind done (in_order go (drop i xs)) ≡ all → Stops stop all
  each_stop xs done i x Memory all less is e h = tt
  each_stop xs done i x (Fault k p) all less is e h =
      sym h ∙ ap (behind done) (first_is xs i x less is) ∙ ap (λ (o : Outcome Y). behind done (first_then o (in_order go (drop (i + 1) xs)))) e
  each_stop xs done i x (Limit p) all less is e h =
      sym h ∙ ap (behind done) (first_is xs i x less is) ∙ ap (λ (o : Outcome Y). behind done (first_then o (in_order go (drop (i + 1) xs)))) e

  pub each_end : (xs : List X) (done : List Y) (i : ℕ) (all : Outcome (List Y)) → length xs ≤ i → behind done (in_order go (drop i xs)) ≡ all → all ≡ Ok done
  each_end xs done i all le h = sym h ∙ ap (λ (l : List X). behind done (in_order go l)) (drop_all i xs le) ∙ ap Ok (append-nil done)
