-- What becomes of a state in memory where a name gets a value.
use Rattle.std.proofs.Common.{◌≡◌, ℕ, zero, suc, arith, ◌+◌, ◌<◌, ◌≤◌, length, get_or, drop, Bool, true, false, ◌||◌, cond, bytes_eq, List, [], ◌∷◌, Option, Some, None, unwrap_or, Ok, Err, refl, sym, ap, subst, ◌∙◌, true≢false}
use Rattle.std.proofs.lemmas.List.{drop_more, drop_all}
use Rattle.std.specs.Prelude.{◌==◌, if◌then◌else◌}
use Rattle.std.specs.Option.{is_some}
use Rattle.std.specs.Map.{lookup}
use Rattle.std.specs.Cmp.Lexicographic.{pointwise, bytes_decides}
use Rattle.std.proofs.lemmas.Slice.Eq.{bytes_eq-Decides}
use Rattle.indexmap.specs.IndexMap.{insert_entry}
use Rattle.tla_token.specs.Signs.{is_among}
use Rattle.tla_tree.specs.Tree.{Word}
use Rattle.tla_value.specs.Value.{Value, truth}
use Rattle.tla_value.specs.States.{Entries, value_of, updated}
use Rattle.pcal_tree.specs.Scope.{State, put}
use Rattle.tla_token.specs.declared.place.Place.{Place}
use Rattle.tla_value.specs.declared.stop.EvalStop.{EvalStop}
use Rattle.tla_value.specs.Value.{Outcome, ◌>>=◌}
use Rattle.tla_value.specs.Limits.{bounded}
use Rattle.pcal_tree.specs.Assign as pure
use Rattle.pcal_tree.specs.Assign.{set_one, set_all}
use Rattle.action_builder.specs.laws.Ready.{values_of}
use Rattle.value_forms.specs.Gives.{Stops}
use Rattle.value_forms.proofs.StopLaws.{then_stops, then_later}
use Rattle.tla_value.specs.Strict.{changed_at}
use Rattle.except_forms.specs.Changes.{reached_change}
use Rattle.step_moves.specs.declared.setting.Setting.{Setting}
use Rattle.step_moves.specs.StatesOf.{state_of, setting_of, settings_of, AreOf, HasJust}

abbrev equal : Word → Word → Bool
equal = pointwise ◌==◌

equal_is : (x y : Word) → equal x y ≡ true → x ≡ y
equal_is x y h = (bytes_decides x y).0 h

equal_itself : (x : Word) → equal x x ≡ true
equal_itself x = (bytes_decides x x).1 refl

same_test : (x y : Word) → equal x y ≡ bytes_eq y x
same_test x y = by (bytes_eq y x) (equal x y) refl refl
  where
    by : (b c : Bool) → bytes_eq y x ≡ b → equal x y ≡ c → c ≡ b
    by true true e k = refl
    by false false e k = refl
    by true false e k = absurd (true≢false (sym ((bytes_decides x y).1 (sym ((bytes_eq-Decides y x).0 e))) ∙ k))
    by false true e k = absurd (true≢false (sym ((bytes_eq-Decides y x).1 (sym (equal_is x y k))) ∙ e))

-- a name has the value that it was given, and another one its old one
pub value_updated : (m : Entries) (x : Word) (v : Value) (y : Word) → value_of (updated m x v) y ≡ cond (bytes_eq x y) (Some v) (value_of m y)
value_updated [] x v y = ap (λ (b : Bool). cond b (Some v) None) (same_test y x)
value_updated (e ∷ es) x v y = by (equal x e.0) refl (value_updated es x v y)
  where
    L : Option Value
    L = value_of es y

    again : (b : Bool) → cond b (Some v) L ≡ cond b (Some v) (cond b (Some e.1) L)
    again true = refl
    again false = refl

    apart : equal x e.0 ≡ false → (b c : Bool) → equal y e.0 ≡ b → bytes_eq x y ≡ c → cond b (Some e.1) (cond c (Some v) L) ≡ cond c (Some v) (cond b (Some e.1) L)
    apart h true true k j = absurd (true≢false (sym (equal_itself e.0) ∙ ap (λ (z : Word). equal z e.0) (sym ((bytes_eq-Decides x y).0 j ∙ equal_is y e.0 k)) ∙ h))
    apart h true false k j = refl
    apart h false c k j = refl

    by : (b : Bool) → equal x e.0 ≡ b → value_of (updated es x v) y ≡ cond (bytes_eq x y) (Some v) L
        → lookup (equal y) (if b then (e.0, v) ∷ es else e ∷ updated es x v) ≡ cond (bytes_eq x y) (Some v) (cond (equal y e.0) (Some e.1) L)
    by true h rest =
        let is : equal y e.0 ≡ bytes_eq x y = ap (equal y) (sym (equal_is x e.0 h)) ∙ same_test y x in
        ap (λ (b : Bool). cond b (Some v) L) is ∙ again (bytes_eq x y) ∙ ap (λ (b : Bool). cond (bytes_eq x y) (Some v) (cond b (Some e.1) L)) (sym is)
    by false h rest = ap (λ (o : Option Value). cond (equal y e.0) (Some e.1) o) rest ∙ apart h (equal y e.0) (bytes_eq x y) refl refl

put_by : (b : Bool) (v : Value) (o : Option Value) → unwrap_or (cond b (Some v) o) (truth false) ≡ cond b v (unwrap_or o (truth false))
put_by true v o = refl
put_by false v o = refl

pub state_updated : (m : Entries) (x : Word) (v : Value) → state_of (updated m x v) ≡ put x v (state_of m)
state_updated m x v i y = (ap (λ (o : Option Value). unwrap_or o (truth false)) (value_updated m x v y) ∙ put_by (bytes_eq x y) v (value_of m y)) i

put_again : (x : Word) (u v : Value) (s : State) → put x v (put x u s) ≡ put x v s
put_again x u v s i y = by (bytes_eq x y) i
  where
    by : (b : Bool) → cond b v (cond b u (s y)) ≡ cond b v (s y)
    by true = refl
    by false = refl

pub state_twice : (m : Entries) (x : Word) (u v : Value) → state_of (updated (updated m x u) x v) ≡ put x v (state_of m)
state_twice m x u v = state_updated (updated m x u) x v ∙ ap (put x v) (state_updated m x u) ∙ put_again x u v (state_of m)

some_by : (b : Bool) (v : Value) (o : Option Value) → is_some (cond b (Some v) o) ≡ (b || is_some o)
some_by true v o = refl
some_by false v o = refl

pub names_updated : (m : Entries) (x : Word) (v : Value) (y : Word) → is_some (value_of (updated m x v) y) ≡ (bytes_eq x y || is_some (value_of m y))
names_updated m x v y = ap (λ (o : Option Value). is_some o) (value_updated m x v y) ∙ some_by (bytes_eq x y) v (value_of m y)

again_or : (b c : Bool) → (b || (b || c)) ≡ (b || c)
again_or true c = refl
again_or false c = refl

pub names_twice : (m : Entries) (x : Word) (u v : Value) (y : Word) → is_some (value_of (updated (updated m x u) x v) y) ≡ (bytes_eq x y || is_some (value_of m y))
names_twice m x u v y = names_updated (updated m x u) x v y ∙ ap (λ (b : Bool). bytes_eq x y || b) (names_updated m x u y) ∙ again_or (bytes_eq x y) (is_some (value_of m y))

pub in_memory : (xs : List Word) (m : Entries) → HasJust xs m → value_of m ≡ values_of xs (state_of m)
in_memory xs m h i x = by (value_of m x) (is_among xs x) (h x) i
  where
    by : (o : Option Value) (b : Bool) → is_some o ≡ b → o ≡ cond b (Some (unwrap_or o (truth false))) None
    by (Some v) true e = refl
    by (Some v) false e = absurd (true≢false e)
    by None true e = absurd (true≢false (sym e))
    by None false e = refl

-- ---- one part set

-- a value is changed and reached, and then put
chained : (at : Place) (x : Word) (s : State) (o : Outcome Value) → (o >>= λ w. bounded at w >>= λ u. Ok (put x u s)) ≡ ((o >>= bounded at) >>= λ u. Ok (put x u s))
chained at x s (Ok w) = refl
chained at x s (Err k) = refl

abbrev change_of : pure.Setting → State → Outcome Value
change_of n s = reached_change n.place n.part.path n.value (s n.part.variable)

set_chained : (n : pure.Setting) (s : State) → set_one bounded n s ≡ (change_of n s >>= λ u. Ok (put n.part.variable u s))
set_chained n s = chained n.place n.part.variable s (changed_at n.place n.part.path n.value (s n.part.variable))

pub set_in_memory : (n : pure.Setting) (m m1 m2 : Entries) (y z : Word) (u old new : Value) (o : Option Value) → y ≡ n.part.variable → z ≡ n.part.variable → m1 ≡ updated m y u → m2 ≡ updated m1 z new
    → o ≡ value_of m y → old ≡ unwrap_or o (truth false) → reached_change n.place n.part.path n.value old ≡ Ok new → set_one bounded n (state_of m) ≡ Ok (state_of m2)
set_in_memory n m m1 m2 y z u old new o ey ez e1 e2 found is changed =
    let x = n.part.variable in
    let was : old ≡ state_of m x = is ∙ ap (λ (q : Option Value). unwrap_or q (truth false)) (found ∙ ap (value_of m) ey) in
    let made : m2 ≡ updated (updated m x u) x new = e2 ∙ (λ i. updated ((e1 ∙ ap (λ w. updated m w u) ey) i) (ez i) new) in
    set_chained n (state_of m)
    ∙ ap (λ (q : Outcome Value). q >>= λ w. Ok (put x w (state_of m))) (ap (reached_change n.place n.part.path n.value) (sym was) ∙ changed)
    ∙ ap Ok (sym (ap state_of made ∙ state_twice m x u new))

pub set_stops : (n : pure.Setting) (m : Entries) (y : Word) (old : Value) (o : Option Value) (k : EvalStop) → y ≡ n.part.variable → o ≡ value_of m y → old ≡ unwrap_or o (truth false)
    → Stops k (reached_change n.place n.part.path n.value old) → Stops k (set_one bounded n (state_of m))
set_stops n m y old o k ey found is h =
    let was : old ≡ state_of m n.part.variable = is ∙ ap (λ (q : Option Value). unwrap_or q (truth false)) (found ∙ ap (value_of m) ey) in
    subst (Stops k) (sym (set_chained n (state_of m)))
    (then_stops k (change_of n (state_of m)) (λ u. Ok (put n.part.variable u (state_of m))) (subst (λ (w : Value). Stops k (reached_change n.place n.part.path n.value w)) was h))

pub names_in_memory : (x : Word) (m m1 m2 : Entries) (y z : Word) (u new : Value) → y ≡ x → z ≡ x → m1 ≡ updated m y u → m2 ≡ updated m1 z new
    → (w : Word) → is_some (value_of m2 w) ≡ (bytes_eq x w || is_some (value_of m w))
names_in_memory x m m1 m2 y z u new ey ez e1 e2 w =
    let made : m2 ≡ updated (updated m x u) x new = e2 ∙ (λ i. updated ((e1 ∙ ap (λ v. updated m v u) ey) i) (ez i) new) in
    ap (λ (q : Entries). is_some (value_of q w)) made ∙ names_twice m x u new w

-- ---- several parts

abbrev pub SetFrom : List Setting → ℕ → Entries → Entries → Type 0
SetFrom all i old now = set_all bounded (settings_of (drop i all)) (state_of now) ≡ set_all bounded (settings_of all) (state_of old)

set_next : (all : List Setting) (i : ℕ) (one : Setting) → one ≡ get_or all i one → i < length all → (s : State) → set_all bounded (settings_of (drop i all)) s ≡ (set_one bounded (setting_of one) s >>= set_all bounded (settings_of (drop (i + 1) all)))
set_next all i one is less s =
    ap (λ (ns : List Setting). set_all bounded (settings_of ns) s) (drop_more all i one less ∙ ap (λ (n : Setting). n ∷ drop (i + 1) all) (sym is))

pub one_set : (all : List Setting) (i : ℕ) (one : Setting) → one ≡ get_or all i one → i < length all → (old now next : Entries) → set_one bounded (setting_of one) (state_of now) ≡ Ok (state_of next) → SetFrom all i old now → SetFrom all (i + 1) old next
one_set all i one is less old now next done s =
    ap (λ (o : Outcome State). o >>= set_all bounded (settings_of (drop (i + 1) all))) (sym done) ∙ sym (set_next all i one is less (state_of now)) ∙ s

pub one_stops : (all : List Setting) (i : ℕ) (one : Setting) → one ≡ get_or all i one → i < length all → (old now : Entries) (k : EvalStop) → Stops k (set_one bounded (setting_of one) (state_of now)) → SetFrom all i old now
    → Stops k (set_all bounded (settings_of all) (state_of old))
one_stops all i one is less old now k h s =
    subst (Stops k) (sym (set_next all i one is less (state_of now)) ∙ s) (then_stops k (set_one bounded (setting_of one) (state_of now)) (set_all bounded (settings_of (drop (i + 1) all))) h)

pub all_set : (all : List Setting) (i : ℕ) (old now : Entries) → length all ≤ i → SetFrom all i old now → set_all bounded (settings_of all) (state_of old) ≡ Ok (state_of now)
all_set all i old now le s = sym s ∙ ap (λ (ns : List Setting). set_all bounded (settings_of ns) (state_of now)) (drop_all i all le)

-- the names stay
among_or : (x w : Word) (xs : List Word) → is_among xs x ≡ true → (bytes_eq x w || is_among xs w) ≡ is_among xs w
among_or x w xs h = by (bytes_eq x w) refl
  where
    by : (d : Bool) → bytes_eq x w ≡ d → (d || is_among xs w) ≡ is_among xs w
    by true e = sym (ap (is_among xs) (sym ((bytes_eq-Decides x w).0 e)) ∙ h)
    by false e = refl

pub names_stay : (xs : List Word) (x : Word) (m m2 : Entries) → is_among xs x ≡ true → ((w : Word) → is_some (value_of m2 w) ≡ (bytes_eq x w || is_some (value_of m w))) → HasJust xs m → HasJust xs m2
names_stay xs x m m2 h new has w = new w ∙ ap (λ (b : Bool). bytes_eq x w || b) (has w) ∙ among_or x w xs h

pub of_one : (xs : List Word) (all : List Setting) (i : ℕ) (one : Setting) → one ≡ get_or all i one → i < length all → AreOf xs all → is_among xs one.variable.now ≡ true
of_one xs all i one is less h = ap (λ (m : Setting). is_among xs m.variable.now) is ∙ h i one less
