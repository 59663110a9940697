-- The slots of an EXCEPT, a value at a time.
use Rattle.std.proofs.Common.{◌≡◌, ℕ, ◌+◌, ◌<◌, ◌≤◌, List, [], ◌∷◌, ◌++◌, length, drop, get_or, append_assoc, Ok, Err, refl, sym, ap, ◌∙◌, subst, add-one}
use Rattle.std.specs.Prelude.{reverse}
use Rattle.std.proofs.lemmas.List.{reverse-append, append-nil}
use Rattle.std.proofs.Math.Seq.{drop-cons}
use Rattle.std.proofs.Math.ListN.{drop_of_length-le}
use Rattle.tla_token.specs.declared.place.Place.{Place}
use Rattle.tla_tree.specs.Tree.{PathStep, index, field, Slot}
use Rattle.tla_pool.specs.declared.form.Step.{Step}
use Rattle.tla_pool.specs.declared.form.Slot.{Slot as Held}
use Rattle.tla_pool.specs.FormOf.{step_of, steps_of, slot_of, slots_of}
use Rattle.tla_value.specs.declared.stop.EvalStop.{EvalStop}
use Rattle.tla_value.specs.Value.{Value, Outcome, ◌>>=◌}
use Rattle.tla_value.specs.Limits.{bounded}
use Rattle.tla_value.specs.Strict.{changed_at, next_slot, updated}
use Rattle.value_forms.specs.Gives.{Stops}
use Rattle.value_forms.proofs.StopLaws.{then_stops}
use Rattle.except_forms.specs.Changes.{reached_change, next_key, changed_slot}

-- the last of a row that is turned round is the first
pub last_first : (xs : List Value) (v : Value) → reverse (xs ++ v ∷ []) ≡ v ∷ reverse xs
last_first xs v = reverse-append xs (v ∷ [])

-- ---- the path of a slot

abbrev Parts : Type 0
Parts = List Value × Value × List Value

abbrev with_key : Value → Outcome Parts → Outcome Parts
with_key k o = o >>= λ r. Ok (k ∷ r.0, r.1, r.2)

step_first : (at : Place) (p : PathStep) (ps : List PathStep) (vs : List Value) → next_slot at (p ∷ ps) vs ≡ (next_key at p vs >>= λ r. with_key r.0 (next_slot at ps r.1))
step_first at index ps [] = refl
step_first at index ps (k ∷ vs) = refl
step_first at (field x) ps vs = refl

-- what is there of a path, before what is to come
abbrev pub behind : List Value → Outcome (List Value × Value × List Value) → Outcome (List Value × Value × List Value)
behind done o = o >>= λ r. Ok (done ++ r.0, r.1, r.2)

pub behind_none : (done : List Value) (o : Outcome (List Value × Value × List Value)) → done ≡ [] → behind done o ≡ o
behind_none done (Ok r) e = ap (λ l. Ok (l ++ r.0, r.1, r.2)) e
behind_none done (Err t) e = refl

one_more : (done : List Value) (k : Value) (o : Outcome Parts) → behind (done ++ k ∷ []) o ≡ behind done (with_key k o)
one_more done k (Ok r) = ap (λ l. Ok (l, r.1, r.2)) (append_assoc done (k ∷ []) r.0)
one_more done k (Err t) = refl

first_is : (at : Place) (ps : List Step) (i : ℕ) (p : Step) (vs : List Value) → i < length ps → p ≡ get_or ps i p → next_slot at (steps_of (drop i ps)) vs ≡ (next_key at (step_of p) vs >>= λ r. with_key r.0 (next_slot at (steps_of (drop (i + 1) ps)) r.1))
first_is at ps i p vs lt is =
    ap (λ l. next_slot at (steps_of l) vs) (drop-cons ps i p lt ∙ (λ n. sym is n ∷ drop (sym (add-one i) n) ps)) ∙ step_first at (step_of p) (steps_of (drop (i + 1) ps)) vs

pub path_next : (at : Place) (ps : List Step) (done done2 vs ws : List Value) (i : ℕ) (p : Step) (k : Value) (all : Outcome (List Value × Value × List Value)) → i < length ps → p ≡ get_or ps i p → next_key at (step_of p) vs ≡ Ok (k, ws) → done2 ≡ done ++ k ∷ []
    → behind done (next_slot at (steps_of (drop i ps)) vs) ≡ all → behind done2 (next_slot at (steps_of (drop (i + 1) ps)) ws) ≡ all
path_next at ps done done2 vs ws i p k all lt is e d h =
    ap (λ l. behind l (next_slot at (steps_of (drop (i + 1) ps)) ws)) d ∙ one_more done k (next_slot at (steps_of (drop (i + 1) ps)) ws) ∙
    ap (behind done) (sym (first_is at ps i p vs lt is ∙ ap (λ o. o >>= λ r. with_key r.0 (next_slot at (steps_of (drop (i + 1) ps)) r.1)) e)) ∙ h

pub path_stop : (at : Place) (ps : List Step) (done vs : List Value) (i : ℕ) (p : Step) (s : EvalStop) (all : Outcome (List Value × Value × List Value)) → i < length ps → p ≡ get_or ps i p → Stops s (next_key at (step_of p) vs)
    → behind done (next_slot at (steps_of (drop i ps)) vs) ≡ all → Stops s all
path_stop at ps done vs i p s all lt is k h =
    subst (Stops s) (ap (behind done) (sym (first_is at ps i p vs lt is)) ∙ h)
    (then_stops s (next_key at (step_of p) vs >>= λ r. with_key r.0 (next_slot at (steps_of (drop (i + 1) ps)) r.1)) (λ r. Ok (done ++ r.0, r.1, r.2)) (then_stops s (next_key at (step_of p) vs) (λ r. with_key r.0 (next_slot at (steps_of (drop (i + 1) ps)) r.1)) k))

-- at the end of the path there are values that are left, or none
pub path_end : (at : Place) (ps : List Step) (done vs : List Value) (i : ℕ) (all : Outcome (List Value × Value × List Value)) → length ps ≤ i → behind done (next_slot at (steps_of (drop i ps)) vs) ≡ all → behind done (next_slot at [] vs) ≡ all
path_end at ps done vs i all le h = ap (λ l. behind done (next_slot at (steps_of l) vs)) (sym (drop_of_length-le ps le)) ∙ h

pub path_done : (at : Place) (done vs ws : List Value) (v : Value) (all : Outcome (List Value × Value × List Value)) → vs ≡ v ∷ ws → behind done (next_slot at [] vs) ≡ all → all ≡ Ok (done, v, ws)
path_done at done vs ws v all e h = sym h ∙ ap (λ l. behind done (next_slot at [] l)) e ∙ ap (λ l. Ok (l, v, ws)) (append-nil done)

-- ---- slot by slot

abbrev later : List Slot → Value × List Value → Outcome Value
later ns r = updated bounded ns r.1 r.0

slot_first : (n : Slot) (ns : List Slot) (vs : List Value) (old : Value) → updated bounded (n ∷ ns) vs old ≡ (changed_slot n vs old >>= later ns)
slot_first n ns vs old = by_parts (next_slot n.place n.path vs)
  where
    by_change : (o : Outcome Value) (rest : List Value) → (o >>= λ new. (bounded n.place new >>= λ reached. updated bounded ns rest reached)) ≡ (((o >>= bounded n.place) >>= λ new. Ok (new, rest)) >>= later ns)
    by_change (Ok new) rest = by_reached (bounded n.place new)
      where
        by_reached : (o : Outcome Value) → (o >>= λ reached. updated bounded ns rest reached) ≡ ((o >>= λ new. Ok (new, rest)) >>= later ns)
        by_reached (Ok w) = refl
        by_reached (Err t) = refl
    by_change (Err t) rest = refl

    by_parts : (o : Outcome Parts) → (o >>= λ r. (changed_at n.place r.0 r.1 old >>= λ new. (bounded n.place new >>= λ reached. updated bounded ns r.2 reached))) ≡ ((o >>= λ r. (reached_change n.place r.0 r.1 old >>= λ new. Ok (new, r.2))) >>= later ns)
    by_parts (Ok r) = by_change (changed_at n.place r.0 r.1 old) r.2
    by_parts (Err t) = refl

first_slot : (ns : List Held) (i : ℕ) (n : Held) (vs : List Value) (old : Value) → i < length ns → n ≡ get_or ns i n → updated bounded (slots_of (drop i ns)) vs old ≡ (changed_slot (slot_of n) vs old >>= later (slots_of (drop (i + 1) ns)))
first_slot ns i n vs old lt is =
    ap (λ l. updated bounded (slots_of l) vs old) (drop-cons ns i n lt ∙ (λ j. sym is j ∷ drop (sym (add-one i) j) ns)) ∙ slot_first (slot_of n) (slots_of (drop (i + 1) ns)) vs old

pub slot_next : (ns : List Held) (i : ℕ) (n : Held) (vs ws : List Value) (old new : Value) (all : Outcome Value) → i < length ns → n ≡ get_or ns i n → changed_slot (slot_of n) vs old ≡ Ok (new, ws)
    → updated bounded (slots_of (drop i ns)) vs old ≡ all → updated bounded (slots_of (drop (i + 1) ns)) ws new ≡ all
slot_next ns i n vs ws old new all lt is e h =
    sym (first_slot ns i n vs old lt is ∙ ap (λ o. o >>= later (slots_of (drop (i + 1) ns))) e) ∙ h

pub slot_stop : (ns : List Held) (i : ℕ) (n : Held) (vs : List Value) (old : Value) (s : EvalStop) (all : Outcome Value) → i < length ns → n ≡ get_or ns i n → Stops s (changed_slot (slot_of n) vs old)
    → updated bounded (slots_of (drop i ns)) vs old ≡ all → Stops s all
slot_stop ns i n vs old s all lt is k h =
    subst (Stops s) (sym (first_slot ns i n vs old lt is) ∙ h) (then_stops s (changed_slot (slot_of n) vs old) (later (slots_of (drop (i + 1) ns))) k)

pub slot_end : (ns : List Held) (i : ℕ) (vs : List Value) (old : Value) (all : Outcome Value) → length ns ≤ i → updated bounded (slots_of (drop i ns)) vs old ≡ all → all ≡ Ok old
slot_end ns i vs old all le h = sym h ∙ ap (λ l. updated bounded (slots_of l) vs old) (drop_of_length-le ns le)
