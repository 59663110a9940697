-- Answers and stops, passed on.
use Rattle.std.proofs.Common.{◌≡◌, ℕ, suc, ◌+◌, ◌<◌, ◌≤◌, List, [], ◌∷◌, ◌++◌, length, drop, get_or, append_assoc, refl, sym, subst, ap, ◌∙◌, add-one, Ok, Err, Result}
use Rattle.std.proofs.lemmas.List.{append-nil}
use Rattle.std.proofs.Math.Seq.{drop-cons}
use Rattle.std.proofs.Math.ListN.{drop_of_length-le}
use Rattle.std.specs.Result.{IsErr, IsErrAnd}
use Rattle.tla_value.specs.declared.stop.EvalStop.{EvalStop}
use Rattle.tla_value.specs.declared.stop.EvalStop.TheVariants.{Memory, Fault, Limit}
use Rattle.tla_value.specs.Value.{Value, Outcome, ◌>>=◌, in_order}
use Rattle.tla_value.specs.Answers.{Answers}
use Rattle.tla_value.proofs.Outcomes.{ok_is, bound_ok}
use Rattle.value_forms.specs.Gives.{Stops, Tells, Gives}

pub answers_tell : {X : Type 0} (r : Result X EvalStop) (o : Outcome X) → Answers r o → Tells r o
answers_tell (Ok x) o h = h
answers_tell (Err Memory) o h = h
answers_tell (Err (Fault k p)) o h = h
answers_tell (Err (Limit p)) o h = h

-- a `?` passes the stop on
pub err_is : {X Y : Type 0} (view : X → Y) (r : Result X EvalStop) (s : EvalStop) (o : Outcome Y) → IsErr r × IsErrAnd r (λ e. e ≡ s) → Stops s o → Gives view r o
err_is view (Ok y) s o h k = cc
err_is view (Err e) s o h k = subst (λ t. Stops t o) (sym h.1) k

pub tells_err : {Y : Type 0} (r : Result Y EvalStop) (s : EvalStop) (o : Outcome Y) → IsErr r × IsErrAnd r (λ e. e ≡ s) → Stops s o → Tells r o
tells_err (Ok y) s o h k = cc
tells_err (Err e) s o h k = subst (λ t. Stops t o) (sym h.1) k

-- what stops the first stops both
pub then_stops : {X Y : Type 0} (s : EvalStop) (o : Outcome X) (go : X → Outcome Y) → Stops s o → Stops s (o >>= go)
then_stops Memory o go h = tt
then_stops (Fault k p) o go h = ap (λ u. u >>= go) h
then_stops (Limit p) o go h = ap (λ u. u >>= go) h

-- the first gives x, and what comes after it stops
pub then_later : {X Y : Type 0} (s : EvalStop) (x : X) (o : Outcome X) (go : X → Outcome Y) → o ≡ Ok x → Stops s (go x) → Stops s (o >>= go)
then_later s x o go e h = subst (λ u. Stops s (u >>= go)) (sym e) h

-- ---- the items of a list, from the first on, until one stops it

abbrev pub behind : {X : Type 0} → List X → Outcome (List X) → Outcome (List X)
behind xs o = o >>= λ ys. Ok (xs ++ ys)

pub behind_none : {X : Type 0} (done : List X) (o : Outcome (List X)) → done ≡ [] → behind done o ≡ o
behind_none done (Ok ys) e = ap (λ l. Ok (l ++ ys)) e
behind_none done (Err k) e = refl

one_more : {X : Type 0} (done : List X) (y : X) (o : Outcome (List X)) → behind (done ++ y ∷ []) o ≡ behind done (o >>= λ ys. Ok (y ∷ ys))
one_more done y (Ok ys) = ap Ok (append_assoc done (y ∷ []) ys)
one_more done y (Err k) = refl

abbrev first_then : Outcome Value → Outcome (List Value) → Outcome (List Value)
first_then o rest = o >>= λ y. (rest >>= λ ys. Ok (y ∷ ys))

first_is : (go : Value → Outcome Value) (xs : List Value) (i : ℕ) (x : Value) → i < length xs → x ≡ get_or xs i x → in_order go (drop i xs) ≡ first_then (go x) (in_order go (drop (i + 1) xs))
first_is go xs i x lt is =
    ap (in_order go) (drop-cons xs i x lt) ∙ (λ n. first_then (go (sym is n)) (in_order go (drop (sym (add-one i) n) xs)))

pub order_next : (go : Value → Outcome Value) (xs done done2 : List Value) (i : ℕ) (x y : Value) (all : Outcome (List Value)) → i < length xs → x ≡ get_or xs i x → go x ≡ Ok y → done2 ≡ done ++ y ∷ []
    → behind done (in_order go (drop i xs)) ≡ all → behind done2 (in_order go (drop (i + 1) xs)) ≡ all
order_next go xs done done2 i x y all lt is e d h =
    let rest = in_order go (drop (i + 1) xs) in
    ap (λ l. behind l rest) d ∙ one_more done y rest ∙ ap (λ o. behind done (first_then o rest)) (sym e) ∙ ap (behind done) (sym (first_is go xs i x lt is)) ∙ h

pub order_stop : (go : Value → Outcome Value) (xs done : List Value) (i : ℕ) (x : Value) (stop : EvalStop) (all : Outcome (List Value)) → i < length xs → x ≡ get_or xs i x → Stops stop (go x)
    → behind done (in_order go (drop i xs)) ≡ all → Stops stop all
order_stop go xs done i x Memory all lt is e h = tt
order_stop go xs done i x (Fault k p) all lt is e h =
    sym h ∙ ap (behind done) (first_is go xs i x lt is) ∙ ap (λ o. behind done (first_then o (in_order go (drop (i + 1) xs)))) e
order_stop go xs done i x (Limit p) all lt is e h =
    sym h ∙ ap (behind done) (first_is go xs i x lt is) ∙ ap (λ o. behind done (first_then o (in_order go (drop (i + 1) xs)))) e

pub order_end : (go : Value → Outcome Value) (xs done : List Value) (i : ℕ) (all : Outcome (List Value)) → length xs ≤ i → behind done (in_order go (drop i xs)) ≡ all → all ≡ Ok done
order_end go xs done i all le h = sym h ∙ ap (λ l. behind done (in_order go l)) (drop_of_length-le xs le) ∙ ap Ok (append-nil done)

pub order_counts : (go : Value → Outcome Value) (xs ys : List Value) → in_order go xs ≡ Ok ys → length xs ≡ length ys
order_counts go [] ys h = ap length (ok_is h)
order_counts go (x ∷ xs) ys h =
    let a = bound_ok (go x) (λ y. (in_order go xs >>= λ zs. Ok (y ∷ zs))) ys h in
    let b = bound_ok (in_order go xs) (λ zs. Ok (a.0 ∷ zs)) ys a.2 in
    ap suc (order_counts go xs b.0 b.1) ∙ ap length (ok_is b.2)

pub tells_then : {X Y : Type 0} (r : Result Y EvalStop) (x : X) (o : Outcome X) (go : X → Outcome Y) → o ≡ Ok x → Tells r (go x) → Tells r (o >>= go)
tells_then r x o go e h = subst (λ u. Tells r (u >>= go)) (sym e) h
