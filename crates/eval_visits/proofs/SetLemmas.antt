-- The names of groups, with the members of the sets that they go over.
use Rattle.std.proofs.Common.{◌≡◌, ℕ, suc, zero, ◌+◌, ◌<◌, ◌≤◌, List, [], ◌∷◌, ◌++◌, length, refl, sym, ap, ◌∙◌, subst, arith, get_or, take, drop, add-one, append_assoc, Vec, Global, Ok, Err}
use Rattle.std.proofs.lemmas.List.{append-nil}
use Rattle.std.proofs.Math.Seq.{drop-cons}
use Rattle.std.proofs.Math.ListN.{drop_of_length-le}
use Rattle.tla_token.specs.declared.place.Place.{Place}
use Rattle.tla_tree.specs.Tree.{Name, Word}
use Rattle.tla_pool.specs.FormOf.{groups_of}
use Rattle.tla_value.specs.declared.stop.EvalStop.{EvalStop}
use Rattle.tla_value.specs.declared.stop.EvalStop.TheVariants.{Memory, Fault, Limit}
use Rattle.tla_value.specs.Value.{Value, Values, values_in, Outcome, ◌>>=◌, in_order}
use Rattle.tla_value.specs.Order.{listed}
use Rattle.tla_value.specs.Stops.{members_at}
use Rattle.tla_value.proofs.OrderFuns.{listed_values}
use Rattle.value_forms.specs.Gives.{Stops}
use Rattle.eval_scopes.specs.Choices.{Over}
use Rattle.eval_visits.specs.Visits.{over, over_group, over_sets}

abbrev over_one : Name → Values → Word × List Value
over_one x s = (x.word, listed s)

over_push : (xs : List Name) (s : Values) (k : ℕ) (x : Name) → k < length xs → x ≡ get_or xs k x → over_group (take (k + 1) xs) s ≡ over_group (take k xs) s ++ over_one x s ∷ []
over_push [] s k x lt is = absurd (omega arith)
over_push (y ∷ xs) s zero x lt is = ap (λ z. over_one z s ∷ []) (sym is)
over_push (y ∷ xs) s (suc k) x lt is =
    ap (λ n. over_group (take n (y ∷ xs)) s) (add-one (suc k)) ∙ ap (λ l. over_one y s ∷ l) (ap (λ n. over_group (take n xs) s) (sym (add-one k)) ∙ over_push xs s k x (omega arith) is)

abbrev pub sets_behind : Over → Outcome Over → Outcome Over
sets_behind done o = o >>= λ ns. Ok (done ++ ns)

abbrev listed_sets : Place → List Value → Outcome (List Values)
listed_sets at vs = in_order (members_at at) vs

abbrev over_rest : List (List Name) → Outcome (List Values) → Outcome Over
over_rest groups o = o >>= λ ss. Ok (over groups ss)

abbrev set_then : Outcome Values → Outcome (List Values) → Outcome (List Values)
set_then o q = o >>= λ s. q >>= λ ss. Ok (s ∷ ss)

joined_sets : (done : Over) (xs : List Name) (groups : List (List Name)) (s : Values) (q : Outcome (List Values)) → sets_behind done (over_rest (xs ∷ groups) (set_then (Ok s) q)) ≡ sets_behind (done ++ over_group xs s) (over_rest groups q)
joined_sets done xs groups s (Ok ss) = ap Ok (sym (append_assoc done (over_group xs s) (over groups ss)))
joined_sets done xs groups s (Err k) = refl

one_set : (at : Place) (done : Over) (xs : List Name) (groups : List (List Name)) (v : Value) (vs : List Value) (s : Values) → members_at at v ≡ Ok s → sets_behind done (over_sets at (xs ∷ groups) (v ∷ vs)) ≡ sets_behind (done ++ over_group xs s) (over_sets at groups vs)
one_set at done xs groups v vs s h = ap (λ o. sets_behind done (over_rest (xs ∷ groups) (set_then o (listed_sets at vs)))) h ∙ joined_sets done xs groups s (listed_sets at vs)

pub sets_next : (at : Place) (gs : List (List Name)) (vs : List Value) (k : ℕ) (xs : List Name) (v : Value) (done : Over) (s : Values) (all : Outcome Over) → k < length gs → k < length vs → xs ≡ get_or gs k xs → v ≡ get_or vs k v → members_at at v ≡ Ok s
    → sets_behind done (over_sets at (drop k gs) (drop k vs)) ≡ all → sets_behind (done ++ over_group xs s) (over_sets at (drop (k + 1) gs) (drop (k + 1) vs)) ≡ all
sets_next at gs vs k xs v done s all lt gt is it h i =
    ap (λ n. sets_behind (done ++ over_group xs s) (over_sets at (drop n gs) (drop n vs))) (add-one k)
    ∙ sym (one_set at done xs (drop (suc k) gs) v (drop (suc k) vs) s h)
    ∙ (λ j. sets_behind done (over_sets at (is j ∷ drop (suc k) gs) (it j ∷ drop (suc k) vs)))
    ∙ sym (λ j. sets_behind done (over_sets at (drop-cons gs k xs lt j) (drop-cons vs k v gt j))) ∙ i

stop_there : (at : Place) (done : Over) (xs : List Name) (groups : List (List Name)) (v : Value) (vs : List Value) (s : EvalStop) → Stops s (members_at at v) → Stops s (sets_behind done (over_sets at (xs ∷ groups) (v ∷ vs)))
stop_there at done xs groups v vs Memory h = tt
stop_there at done xs groups v vs (Fault k p) h = ap (λ o. sets_behind done (over_rest (xs ∷ groups) (set_then o (listed_sets at vs)))) h
stop_there at done xs groups v vs (Limit p) h = ap (λ o. sets_behind done (over_rest (xs ∷ groups) (set_then o (listed_sets at vs)))) h

pub sets_stop : (at : Place) (gs : List (List Name)) (vs : List Value) (k : ℕ) (xs : List Name) (v : Value) (done : Over) (s : EvalStop) (all : Outcome Over) → k < length gs → k < length vs → v ≡ get_or vs k v → Stops s (members_at at v)
    → sets_behind done (over_sets at (drop k gs) (drop k vs)) ≡ all → Stops s all
sets_stop at gs vs k xs v done s all lt gt it h i =
    subst (Stops s) ((λ j. sets_behind done (over_sets at (get_or gs k xs ∷ drop (suc k) gs) (it j ∷ drop (suc k) vs))) ∙ sym (λ j. sets_behind done (over_sets at (drop-cons gs k xs lt j) (drop-cons vs k v gt j))) ∙ i)
    (stop_there at done (get_or gs k xs) (drop (suc k) gs) v (drop (suc k) vs) s h)

pub sets_end : (at : Place) (gs : List (List Name)) (vs : List Value) (k : ℕ) (done : Over) (all : Outcome Over) → length gs ≤ k → length vs ≤ k → sets_behind done (over_sets at (drop k gs) (drop k vs)) ≡ all → all ≡ Ok done
sets_end at gs vs k done all le ge h =
    sym (sym (λ j. sets_behind done (over_sets at (drop_of_length-le gs le j) (drop_of_length-le vs ge j))) ∙ h) ∙ ap (λ l. Ok l) (append-nil done)

pub groups_at : (gs : List (Vec Name Global)) (k : ℕ) (d : Vec Name Global) → k < length gs → d ≡ get_or gs k d → d.items ≡ get_or (groups_of gs) k d.items
groups_at [] k d lt is = absurd (omega arith)
groups_at (g ∷ gs) zero d lt is = ap (λ (v : Vec Name Global). v.items) is
groups_at (g ∷ gs) (suc k) d lt is = groups_at gs k d (omega arith) is

pub groups_count : (gs : List (Vec Name Global)) → length (groups_of gs) ≡ length gs
groups_count [] = refl
groups_count (g ∷ gs) = omega (arith, groups_count gs)

abbrev over_with : Word → List Value → Word × List Value
over_with n ws = (n, ws)

pub over_one_is : (x : Name) (n : Word) (ms ws : List Value) → n ≡ x.word → ws ≡ ms → over_with n ws ≡ over_one x (values_in ms)
over_one_is x n ms ws h k = (λ i. over_with (h i) (k i)) ∙ ap (over_with x.word) (sym (listed_values ms))

pub push_next : (before now : Over) (xs : List Name) (s : Values) (k : ℕ) (x : Name) → k < length xs → x ≡ get_or xs k x → now ≡ before ++ over_group (take k xs) s → now ++ over_one x s ∷ [] ≡ before ++ over_group (take (k + 1) xs) s
push_next before now xs s k x lt is h =
    ap (λ l. l ++ over_one x s ∷ []) h ∙ append_assoc before (over_group (take k xs) s) (over_one x s ∷ []) ∙ ap (λ l. before ++ l) (sym (over_push xs s k x lt is))
