-- The names of a LET, each seen by those behind it.
use Rattle.std.proofs.Common.{◌≡◌, ℕ, suc, zero, ◌+◌, ◌<◌, List, [], ◌∷◌, ◌++◌, length, refl, sym, ap, ◌∙◌, subst, arith, get_or, drop, add-one, Ok}
use Rattle.std.proofs.Math.Seq.{drop-cons}
use Rattle.std.proofs.Math.ListN.{drop_of_length-le}
use Rattle.tla_token.specs.declared.place.Place.{Place}
use Rattle.tla_tree.specs.Tree.{Name, Tree}
use Rattle.tla_value.specs.declared.stop.EvalStop.{EvalStop}
use Rattle.tla_value.specs.Value.{Value, Outcome, ◌>>=◌}
use Rattle.tla_value.specs.Meaning.{Env, bind, local_value}
use Rattle.value_forms.specs.Gives.{Stops}
use Rattle.tla_eval.specs.Parts.{dens, value_at}
use Rattle.eval_scopes.specs.Scopes.{with_locals}
use Rattle.value_forms.proofs.StopLaws.{then_stops}

pub locals_none : (xs : List Name) (env : Env) → with_locals xs [] env ≡ env
locals_none [] env = refl
locals_none (x ∷ xs) env = refl

pub locals_push : (xs : List Name) (vs : List Value) (v : Value) (x : Name) (env : Env) → length vs < length xs → x ≡ get_or xs (length vs) x → with_locals xs (vs ++ v ∷ []) env ≡ bind x.word v (with_locals xs vs env)
locals_push [] vs v x env lt is = absurd (omega arith)
locals_push (y ∷ xs) [] v x env lt is = locals_none xs (bind y.word v env) ∙ ap (λ (z : Name). bind z.word v env) (sym is)
locals_push (y ∷ xs) (w ∷ vs) v x env lt is = locals_push xs vs v x (bind y.word w env) (omega arith) is

abbrev local_left : Place → List Name → List Tree → List ℕ → Env → Outcome Value
local_left at xs ts is env = local_value at xs (dens ts is) env

first_of : (at : Place) (xs : List Name) (ts : List Tree) (is : List ℕ) (env : Env) (k : ℕ) (x : Name) (d : ℕ) → k < length xs → k < length is → x ≡ get_or xs k x
    → local_left at (drop k xs) ts (drop k is) env ≡ local_left at (x ∷ drop (suc k) xs) ts (get_or is k d ∷ drop (suc k) is) env
first_of at xs ts is env k x d lt gt it =
    (λ j. local_left at (drop-cons xs k x lt j) ts (drop-cons is k d gt j) env) ∙ ap (λ z. local_left at (z ∷ drop (suc k) xs) ts (get_or is k d ∷ drop (suc k) is) env) (sym it)

pub local_step : (at : Place) (xs : List Name) (ts : List Tree) (is : List ℕ) (env : Env) (k : ℕ) (x : Name) (d : ℕ) (v : Value) (all : Outcome Value) → k < length xs → k < length is → x ≡ get_or xs k x → value_at ts (get_or is k d) env ≡ Ok v
    → local_value at (drop k xs) (dens ts (drop k is)) env ≡ all → local_value at (drop (k + 1) xs) (dens ts (drop (k + 1) is)) (bind x.word v env) ≡ all
local_step at xs ts is env k x d v all lt gt it h i =
    ap (λ n. local_left at (drop n xs) ts (drop n is) (bind x.word v env)) (add-one k)
    ∙ sym (ap (λ o. o >>= λ w. local_left at (drop (suc k) xs) ts (drop (suc k) is) (bind x.word w env)) h)
    ∙ sym (first_of at xs ts is env k x d lt gt it) ∙ i

pub local_stop : (at : Place) (xs : List Name) (ts : List Tree) (is : List ℕ) (env : Env) (k : ℕ) (x : Name) (d : ℕ) (s : EvalStop) (all : Outcome Value) → k < length xs → k < length is → x ≡ get_or xs k x → Stops s (value_at ts (get_or is k d) env)
    → local_value at (drop k xs) (dens ts (drop k is)) env ≡ all → Stops s all
local_stop at xs ts is env k x d s all lt gt it h i =
    subst (Stops s) (sym (first_of at xs ts is env k x d lt gt it) ∙ i)
    (then_stops s (value_at ts (get_or is k d) env) (λ w. local_left at (drop (suc k) xs) ts (drop (suc k) is) (bind x.word w env)) h)

pub local_end : (at : Place) (xs : List Name) (ts : List Tree) (is : List ℕ) (env : Env) (k d : ℕ) (all : Outcome Value) → length xs ≡ k → length is ≡ suc k
    → local_value at (drop k xs) (dens ts (drop k is)) env ≡ all → value_at ts (get_or is k d) env ≡ all
local_end at xs ts is env k d all le ge i =
    let a : drop k xs ≡ [] = drop_of_length-le xs {i = k} (omega (arith, le)) in
    let b : drop (suc k) is ≡ [] = drop_of_length-le is {i = suc k} (omega (arith, ge)) in
    sym (ap (λ l. local_left at l ts (drop k is) env) a ∙ ap (λ l. local_left at [] ts l env) (drop-cons is k d (omega (arith, ge)) ∙ ap (λ l. get_or is k d ∷ l) b)) ∙ i

pub same_got : (xs : List Name) (k : ℕ) (a b : Name) → k < length xs → get_or xs k a ≡ get_or xs k b
same_got [] k a b lt = absurd (omega arith)
same_got (x ∷ xs) zero a b lt = refl
same_got (x ∷ xs) (suc k) a b lt = same_got xs k a b (omega arith)
