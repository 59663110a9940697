-- The members of some sets, gathered a set at a time.
use Rattle.std.proofs.Common.{◌≡◌, ℕ, ◌+◌, ◌<◌, ◌≤◌, List, [], ◌∷◌, ◌++◌, length, drop, get_or, append_assoc, refl, sym, ap, ◌∙◌, add-one, Ok, Err}
use Rattle.std.specs.List.{flat_map}
use Rattle.std.proofs.Math.Seq.{drop-cons}
use Rattle.std.proofs.Math.ListN.{drop_of_length-le}
use Rattle.tla_token.specs.declared.place.Place.{Place}
use Rattle.tla_value.specs.declared.stop.EvalStop.{EvalStop}
use Rattle.tla_value.specs.declared.stop.EvalStop.TheVariants.{Memory, Fault, Limit}
use Rattle.tla_value.specs.Value.{Value, Values, Outcome, values_in, ◌>>=◌, in_order}
use Rattle.tla_value.specs.Order.{listed}
use Rattle.tla_value.specs.Stops.{members_at}
use Rattle.tla_value.specs.Sets.{union_of}
use Rattle.tla_value.proofs.OrderFuns.{listed_values}
use Rattle.value_forms.specs.Gives.{Stops}

abbrev pub behind : List Value → Outcome (List Values) → Outcome (List Value)
behind done o = o >>= λ ss. Ok (done ++ flat_map listed ss)

abbrev pub gather : Place → List Value → List Value → Outcome (List Value)
gather at done rest = behind done (in_order (members_at at) rest)

pub gather_start : (at : Place) (sets : List Value) → gather at [] sets ≡ union_of at (values_in sets)
gather_start at sets = ap (λ l. in_order (members_at at) l >>= λ ss. Ok (flat_map listed ss)) (sym (listed_values sets))

abbrev fronted : Values → Outcome (List Values) → Outcome (List Values)
fronted m o = o >>= λ ss. Ok (m ∷ ss)

one_more : (done members : List Value) (o : Outcome (List Values)) → behind (done ++ members) o ≡ behind done (fronted (values_in members) o)
one_more done members (Ok ss) =
    ap Ok (append_assoc done members (flat_map listed ss)) ∙ ap (λ l. Ok (done ++ (l ++ flat_map listed ss))) (sym (listed_values members))
one_more done members (Err k) = refl

abbrev first_then : Outcome Values → Outcome (List Values) → Outcome (List Values)
first_then o rest = o >>= λ m. fronted m rest

first_is : (at : Place) (sets : List Value) (i : ℕ) (s : Value) → i < length sets → s ≡ get_or sets i s → in_order (members_at at) (drop i sets) ≡ first_then (members_at at s) (in_order (members_at at) (drop (i + 1) sets))
first_is at sets i s lt is =
    ap (in_order (members_at at)) (drop-cons sets i s lt) ∙ (λ n. first_then (members_at at (sym is n)) (in_order (members_at at) (drop (sym (add-one i) n) sets)))

pub gather_next : (at : Place) (sets done members done2 : List Value) (i : ℕ) (s : Value) (all : Outcome (List Value)) → i < length sets → s ≡ get_or sets i s → members_at at s ≡ Ok (values_in members) → done2 ≡ done ++ members
    → gather at done (drop i sets) ≡ all → gather at done2 (drop (i + 1) sets) ≡ all
gather_next at sets done members done2 i s all lt is e d h =
    ap (λ l. gather at l (drop (i + 1) sets)) d ∙ one_more done members (in_order (members_at at) (drop (i + 1) sets)) ∙ ap (λ o. behind done (first_then o (in_order (members_at at) (drop (i + 1) sets)))) (sym e) ∙ ap (behind done) (sym (first_is at sets i s lt is)) ∙ h

pub gather_stop : (at : Place) (sets done : List Value) (i : ℕ) (s : Value) (stop : EvalStop) (all : Outcome (List Value)) → i < length sets → s ≡ get_or sets i s → Stops stop (members_at at s)
    → gather at done (drop i sets) ≡ all → Stops stop all
gather_stop at sets done i s Memory all lt is e h = tt
gather_stop at sets done i s (Fault k p) all lt is e h =
    sym h ∙ ap (behind done) (first_is at sets i s lt is) ∙ ap (λ o. behind done (first_then o (in_order (members_at at) (drop (i + 1) sets)))) e
gather_stop at sets done i s (Limit p) all lt is e h =
    sym h ∙ ap (behind done) (first_is at sets i s lt is) ∙ ap (λ o. behind done (first_then o (in_order (members_at at) (drop (i + 1) sets)))) e

pub gather_end : (at : Place) (sets done : List Value) (i : ℕ) (all : Outcome (List Value)) → length sets ≤ i → gather at done (drop i sets) ≡ all → all ≡ Ok (done ++ [])
gather_end at sets done i all le h = sym h ∙ ap (gather at done) (drop_of_length-le sets le)
