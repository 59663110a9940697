-- Outcomes that are the same but for places.
use Rattle.std.proofs.Common.{Bool, true, false, cond, refl, subst, Ok, Err}
use Rattle.tla_token.specs.declared.place.Place.{Place}
use Rattle.tla_value.specs.Value.{Value, truth, int, text, model, set, fun, Values, no_values, and, Outcome, Trouble, fault, over, ◌>>=◌, and_then, or_all}
use Rattle.tla_value.specs.Stops.{truth_at, members_at}
use Rattle.module_tree.specs.ActionTruth.{Verdict, some_member}
use Rattle.tla_value.specs.laws.Places.{SameKind, AgreeButPlaces}

one_kind : (k : Trouble) → SameKind k k
one_kind (fault k p) = refl
one_kind (over p) = tt

pub same_refl : {X : Type 0} (o : Outcome X) → AgreeButPlaces o o
same_refl (Ok x) = refl
same_refl (Err k) = one_kind k

pub then_same : {X Y : Type 0} (o q : Outcome X) (f g : X → Outcome Y) → AgreeButPlaces o q → ((x : X) → AgreeButPlaces (f x) (g x)) → AgreeButPlaces (o >>= f) (q >>= g)
then_same (Ok x) (Ok y) f g h k = subst (λ z. AgreeButPlaces (f x) (g z)) h (k x)
then_same (Ok x) (Err j) f g h k = absurd h
then_same (Err i) (Ok y) f g h k = absurd h
then_same (Err i) (Err j) f g h k = h

pub and_same : (p q v w : Verdict) → AgreeButPlaces p v → AgreeButPlaces q w → AgreeButPlaces (and_then p q) (and_then v w)
and_same (Ok true) q (Ok true) w h k = k
and_same (Ok true) q (Ok false) w h k = cc
and_same (Ok false) q (Ok true) w h k = cc
and_same (Ok false) q (Ok false) w h k = refl
and_same (Ok b) q (Err j) w h k = absurd h
and_same (Err i) q (Ok y) w h k = absurd h
and_same (Err i) q (Err j) w h k = h

pub or_same : (p q v w : Verdict) → AgreeButPlaces p v → AgreeButPlaces q w → AgreeButPlaces (or_all p q) (or_all v w)
or_same p q v w h k = then_same p v _ _ h (λ a. then_same q w _ _ k (λ b. refl))

pub cond_same : (b : Bool) (p q v w : Verdict) → AgreeButPlaces p v → AgreeButPlaces q w → AgreeButPlaces (cond b p q) (cond b v w)
cond_same true p q v w h k = h
cond_same false p q v w h k = k

pub truth_same : (at p : Place) (v : Value) → AgreeButPlaces (truth_at at v) (truth_at p v)
truth_same at p (truth b) = refl
truth_same at p (int n) = refl
truth_same at p (text w) = refl
truth_same at p (model w) = refl
truth_same at p (set vs) = refl
truth_same at p (fun ds rs) = refl

pub members_same : (at p : Place) (v : Value) → AgreeButPlaces (members_at at v) (members_at p v)
members_same at p (truth b) = refl
members_same at p (int n) = refl
members_same at p (text w) = refl
members_same at p (model w) = refl
members_same at p (set vs) = refl
members_same at p (fun ds rs) = refl

pub each_same : (vs : Values) (f g : Value → Verdict) → ((v : Value) → AgreeButPlaces (f v) (g v)) → AgreeButPlaces (some_member vs f) (some_member vs g)
each_same no_values f g h = refl
each_same (and v vs) f g h = or_same (f v) (some_member vs f) (g v) (some_member vs g) (h v) (each_same vs f g h)
