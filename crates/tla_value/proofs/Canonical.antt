-- What forms make of canonical values is canonical.
use Rattle.std.proofs.Common.{◌≡◌, ℕ, zero, suc, ℤ, pos, ◌+ℤ◌, Bool, true, false, cond, List, [], ◌∷◌, ◌++◌, map, refl, sym, ◌∙◌, ap, arith, Ok, Err}
use Rattle.std.specs.Cmp.{int_cmp_is}
use Rattle.std.specs.declared.cmp.Ordering.TheVariants.{Less}
use Rattle.std.proofs.lemmas.Int.{ints}
use Rattle.tla_value.specs.Value.{Value, Values, truth, int, text, model, set, fun, no_values, and, Outcome, values_in, ◌>>=◌}
use Rattle.tla_value.specs.Order.{order, count, listed, set_from, pairs_of, IsBefore, IsAscending, IsCanonical, AreCanonical, ArePairsCanonical}
use Rattle.tla_value.specs.Sets.{kept, sublists, subsets, integers, repeated, fronted, members, choices, functions_over}
use Rattle.tla_value.specs.laws.CanonicalNames.{Has}
use Rattle.tla_value.proofs.OrderSets.{set_from_ascending, set_from_canonical, before_next}

pub then_has : {X Y : Type 0} (P : X → Type 0) (Q : Y → Type 0) (o : Outcome X) (go : X → Outcome Y) → Has P o → ((x : X) → P x → Has Q (go x)) → Has Q (o >>= go)
then_has P Q (Ok x) go h k = k x h
then_has P Q (Err j) go h k = tt

pub any_has : {X Y : Type 0} (Q : Y → Type 0) (o : Outcome X) (go : X → Outcome Y) → ((x : X) → Has Q (go x)) → Has Q (o >>= go)
any_has Q (Ok x) go k = k x
any_has Q (Err j) go k = tt

pub has_cond : {X : Type 0} (P : X → Type 0) (b : Bool) (o q : Outcome X) → Has P o → Has P q → Has P (cond b o q)
has_cond P true o q h k = h
has_cond P false o q h k = k

-- ---- sets

pub append_canonical : (vs ws : List Value) → AreCanonical (values_in vs) → AreCanonical (values_in ws) → AreCanonical (values_in (vs ++ ws))
append_canonical [] ws h k = k
append_canonical (v ∷ vs) ws h k = (h.0, append_canonical vs ws h.1 k)

pub listed_canonical : (vs : Values) → AreCanonical vs → AreCanonical (values_in (listed vs))
listed_canonical no_values h = tt
listed_canonical (and v vs) h = (h.0, listed_canonical vs h.1)

pub set_canonical : (vs : List Value) → AreCanonical (values_in vs) → IsCanonical (set (set_from vs))
set_canonical vs h = (set_from_ascending vs, set_from_canonical vs h)

before_kept : (u : Value) (p : Value → Bool) (vs : Values) → IsBefore u vs → IsAscending vs → IsBefore u (kept p vs)
before_kept u p no_values b h = tt
before_kept u p (and v vs) b h = either (p v) (before_kept u p vs (before_next u v vs b h.0) h.1)
  where
    either : (t : Bool) → IsBefore u (kept p vs) → IsBefore u (cond t (and v (kept p vs)) (kept p vs))
    either true k = b
    either false k = k

kept_either : (t : Bool) (v : Value) (vs : Values) → IsBefore v vs → IsCanonical v → IsAscending vs × AreCanonical vs → IsAscending (cond t (and v vs) vs) × AreCanonical (cond t (and v vs) vs)
kept_either true v vs b c h = ((b, h.0), (c, h.1))
kept_either false v vs b c h = h

pub kept_canonical : (p : Value → Bool) (vs : Values) → IsAscending vs → AreCanonical vs → IsCanonical (set (kept p vs))
kept_canonical p no_values a h = (tt, tt)
kept_canonical p (and v vs) a h = kept_either (p v) v (kept p vs) (before_kept v p vs a.0 a.1) h.0 (kept_canonical p vs a.1 h.1)

-- ---- sets of sets and of functions

abbrev pub EachList : (Values → Type 0) → List Values → Type 0
EachList P [] = Unit {0}
EachList P (t ∷ ts) = P t × EachList P ts

each_append : (P : Values → Type 0) (ss ts : List Values) → EachList P ss → EachList P ts → EachList P (ss ++ ts)
each_append P [] ts h k = k
each_append P (s ∷ ss) ts h k = (h.0, each_append P ss ts h.1 k)

-- in ascending order after u, and canonical
abbrev Behind : Value → Values → Type 0
Behind u t = IsBefore u t × IsAscending t × AreCanonical t

behind_front : (u v : Value) (ts : List Values) → order u v ≡ Less → IsCanonical v → EachList (Behind v) ts → EachList (Behind u) (map (and v) ts)
behind_front u v [] o c h = tt
behind_front u v (t ∷ ts) o c h = ((o, (h.0.0, h.0.1), (c, h.0.2)), behind_front u v ts o c h.1)

behind_sublists : (u : Value) (vs : Values) → IsBefore u vs → IsAscending vs → AreCanonical vs → EachList (Behind u) (sublists vs)
behind_sublists u no_values b a h = ((tt, tt, tt), tt)
behind_sublists u (and v vs) b a h =
    each_append (Behind u) (sublists vs) (map (and v) (sublists vs))
    (behind_sublists u vs (before_next u v vs b a.0) a.1 h.1)
    (behind_front u v (sublists vs) b h.0 (behind_sublists v vs a.0 a.1 h.1))

abbrev pub IsSet : Values → Type 0
IsSet t = IsAscending t × AreCanonical t

set_front : (v : Value) (ts : List Values) → IsCanonical v → EachList (Behind v) ts → EachList IsSet (map (and v) ts)
set_front v [] c h = tt
set_front v (t ∷ ts) c h = (((h.0.0, h.0.1), (c, h.0.2)), set_front v ts c h.1)

set_sublists : (vs : Values) → IsAscending vs → AreCanonical vs → EachList IsSet (sublists vs)
set_sublists no_values a h = ((tt, tt), tt)
set_sublists (and v vs) a h =
    each_append IsSet (sublists vs) (map (and v) (sublists vs)) (set_sublists vs a.1 h.1) (set_front v (sublists vs) h.0 (behind_sublists v vs a.0 a.1 h.1))

pub sets_canonical : (ts : List Values) → EachList IsSet ts → AreCanonical (values_in (map set ts))
sets_canonical [] h = tt
sets_canonical (t ∷ ts) h = (h.0, sets_canonical ts h.1)

-- SUBSET
pub subsets_canonical : (vs : Values) → IsAscending vs → AreCanonical vs → IsCanonical (set (subsets vs))
subsets_canonical vs a h = set_canonical (map set (sublists vs)) (sets_canonical (sublists vs) (set_sublists vs a h))

abbrev OfCount : ℕ → Values → Type 0
OfCount n t = AreCanonical t × (n ≡ count t)

count_front : (w : Value) (ts : List Values) (n : ℕ) → IsCanonical w → EachList (OfCount n) ts → EachList (OfCount (suc n)) (map (and w) ts)
count_front w [] n c h = tt
count_front w (t ∷ ts) n c h = (((c, h.0.0), ap suc h.0.1), count_front w ts n c h.1)

count_fronted : (ws : Values) (ts : List Values) (n : ℕ) → AreCanonical ws → EachList (OfCount n) ts → EachList (OfCount (suc n)) (fronted ws ts)
count_fronted no_values ts n c h = tt
count_fronted (and w ws) ts n c h = each_append (OfCount (suc n)) (map (and w) ts) (fronted ws ts) (count_front w ts n c.0 h) (count_fronted ws ts n c.1 h)

members_canonical : (v : Value) → IsCanonical v → AreCanonical (members v)
members_canonical (set vs) h = h.1
members_canonical (truth b) h = tt
members_canonical (int n) h = tt
members_canonical (text w) h = tt
members_canonical (model w) h = tt
members_canonical (fun ds rs) h = tt

count_choices : (ss : Values) → AreCanonical ss → EachList (OfCount (count ss)) (choices ss)
count_choices no_values h = ((tt, refl), tt)
count_choices (and s ss) h = count_fronted (members s) (choices ss) (count ss) (members_canonical s h.0) (count_choices ss h.1)

funs_canonical : (ds : Values) (n : ℕ) (ts : List Values) → IsAscending ds → AreCanonical ds → count ds ≡ n → EachList (OfCount n) ts → AreCanonical (values_in (map (fun ds) ts))
funs_canonical ds n [] a c e h = tt
funs_canonical ds n (t ∷ ts) a c e h = ((a, c, h.0.0, e ∙ h.0.1), funs_canonical ds n ts a c e h.1)

-- [A -> B] and [a : A, b : B]
pub functions_canonical : (ds ss : Values) → IsAscending ds → AreCanonical ds → AreCanonical ss → count ds ≡ count ss → IsCanonical (set (functions_over ds ss))
functions_canonical ds ss a c h e = set_canonical (map (fun ds) (choices ss)) (funs_canonical ds (count ss) (choices ss) a c e (count_choices ss h))

pub count_repeated : (ds : Values) (b : Value) → count ds ≡ count (repeated ds b)
count_repeated no_values b = refl
count_repeated (and d ds) b = ap suc (count_repeated ds b)

pub repeated_canonical : (ds : Values) (b : Value) → IsCanonical b → AreCanonical (repeated ds b)
repeated_canonical no_values b h = tt
repeated_canonical (and d ds) b h = (h, repeated_canonical ds b h)

-- ---- integers

next_above : (m : ℤ) → order (int m) (int (m +ℤ pos 1)) ≡ Less
next_above m = sym (int_cmp_is m (m +ℤ pos 1) Less (omega (arith, ints)))

integers_before : (k : ℕ) (m : ℤ) → IsBefore (int m) (integers k (m +ℤ pos 1))
integers_before zero m = tt
integers_before (suc k) m = next_above m

integers_ascending : (k : ℕ) (m : ℤ) → IsAscending (integers k m)
integers_ascending zero m = tt
integers_ascending (suc k) m = (integers_before k m, integers_ascending k (m +ℤ pos 1))

integers_proper : (k : ℕ) (m : ℤ) → AreCanonical (integers k m)
integers_proper zero m = tt
integers_proper (suc k) m = (tt, integers_proper k (m +ℤ pos 1))

-- m..n
pub integers_canonical : (k : ℕ) (m : ℤ) → IsCanonical (set (integers k m))
integers_canonical k m = (integers_ascending k m, integers_proper k m)

-- ---- functions

pub pairs_canonical : (ds rs : Values) → AreCanonical ds → AreCanonical rs → ArePairsCanonical (pairs_of ds rs)
pairs_canonical no_values rs a h = tt
pairs_canonical (and d ds) no_values a h = tt
pairs_canonical (and d ds) (and r rs) a h = ((a.0, h.0), pairs_canonical ds rs a.1 h.1)
