-- Two evaluations side by side: outcomes that are joined are one result, or troubles that may stand for one another.
use Rattle.std.proofs.Common.{◌≡◌, ℤ, pos, Bool, true, false, cond, List, [], ◌∷◌, map, Option, Some, None, refl, subst, Ok, Err}
use Rattle.std.specs.Prelude.{int_lt}
use Rattle.std.specs.Option.{ok_or}
use Rattle.tla_token.specs.declared.place.Place.{Place}
use Rattle.tla_tree.specs.declared.op.Op.{Op}
use Rattle.tla_tree.specs.declared.op.Op.TheVariants.{Equivalent, Not, Equal, NotEqual, Less, Greater, AtMost, AtLeast, SubsetEq, Override, MapsTo, Cup, Cap, Without, Subset, Union, Range, Domain, Plus, Modulo, Minus, Negate, Times, Concat, Divide}
use Rattle.tla_tree.specs.Tree.{PathStep, index, field, Slot, Strict, operator, set_of, tuple, fields, records, functions, apply, select, except}
use Rattle.tla_value.specs.declared.fault.FaultKind.{FaultKind}
use Rattle.tla_value.specs.declared.fault.FaultKind.TheVariants.{BadDivisor}
use Rattle.tla_value.specs.Value.{Value, Values, truth, int, text, set, fun, no_values, and, Outcome, Trouble, fault, ◌>>=◌, in_order}
use Rattle.tla_value.specs.Order.{same, listed, sequence_of, record_from}
use Rattle.tla_value.specs.Stops.{Check, truth_at, int_at, members_at, function_at, sequence_at, one_of, two_of, three_of, tested}
use Rattle.tla_value.specs.Sets.{union_of}
use Rattle.tla_value.specs.Definitions.{trouble_at}
use Rattle.tla_value.specs.Strict.{of_truths, of_ints, of_sets, of_quotient, operated, space_of, made, applied, changed, changed_at, next_slot, updated, excepted, strict_value, operator_test, strict_test}

-- which troubles, and which places, may stand for one another
pub record Kin : Type 1 where
  pub beside : Trouble → Trouble → Type 0
  pub free : Trouble → Type 0  -- anything may stand for it
  pub place : Place → Place → Type 0
  pub self : (p : Place) → place p p
  pub anything : (k j : Trouble) → free k → beside k j
  pub faults : (k : FaultKind) (p q : Place) → place p q → beside (fault k p) (fault k q)
  pub moved : (p q : Place) → place p q → (k j : Trouble) → beside k j → beside (trouble_at p k) (trouble_at q j)
  pub free_moved : (p : Place) (k : Trouble) → free k → free (trouble_at p k)

abbrev pub Joined : Kin → {X Y : Type 0} → (X → Y → Type 0) → Outcome X → Outcome Y → Type 0
Joined K R (Ok x) (Ok y) = R x y
Joined K R (Ok x) (Err j) = ⊥
Joined K R (Err k) (Ok y) = K.free k
Joined K R (Err k) (Err j) = K.beside k j

-- one result
abbrev pub Same : Kin → {X : Type 0} → Outcome X → Outcome X → Type 0
Same K o o' = Joined K ◌≡◌ o o'

freed : (K : Kin) {X Y : Type 0} (R : X → Y → Type 0) (k : Trouble) (o : Outcome Y) → K.free k → Joined K R (Err k) o
freed K R k (Ok y) h = h
freed K R k (Err j) h = K.anything k j h

-- what goes on with joined results
pub then_joined : (K : Kin) {X Y Z W : Type 0} (R : X → Y → Type 0) (S : Z → W → Type 0) (o : Outcome X) (o' : Outcome Y) (g : X → Outcome Z) (g' : Y → Outcome W) → Joined K R o o' → ((x : X) (y : Y) → R x y → Joined K S (g x) (g' y)) → Joined K S (o >>= g) (o' >>= g')
then_joined K R S (Ok x) (Ok y) g g' h k = k x y h
then_joined K R S (Ok x) (Err j) g g' h k = absurd h
then_joined K R S (Err j) (Ok y) g g' h k = freed K S j (g' y) h
then_joined K R S (Err j) (Err i) g g' h k = h

pub then_same : (K : Kin) {X Z W : Type 0} (S : Z → W → Type 0) (o o' : Outcome X) (g : X → Outcome Z) (g' : X → Outcome W) → Same K o o' → ((x : X) → Joined K S (g x) (g' x)) → Joined K S (o >>= g) (o' >>= g')
then_same K S o o' g g' h k = then_joined K ◌≡◌ S o o' g g' h (λ x y e. subst (λ z. Joined K S (g x) (g' z)) e (k x))

pub same_cond : (K : Kin) {X : Type 0} (b : Bool) (o o' q q' : Outcome X) → Same K o o' → Same K q q' → Same K (cond b o q) (cond b o' q')
same_cond K true o o' q q' h k = h
same_cond K false o o' q q' h k = k

-- lists whose elements stand for one another
pub data Both {X Y : Type 0} (R : X → Y → Type 0) : List X → List Y → Type 0 where
  none : Both R [] []
  one : {x : X} {y : Y} {xs : List X} {ys : List Y} → R x y → Both R xs ys → Both R (x ∷ xs) (y ∷ ys)

pub order_both : (K : Kin) {X Y Z : Type 0} (R : X → Y → Type 0) (xs : List X) (ys : List Y) (g : X → Outcome Z) (g' : Y → Outcome Z) → Both R xs ys → ((x : X) (y : Y) → R x y → Same K (g x) (g' y)) → Same K (in_order g xs) (in_order g' ys)
order_both K R _ _ g g' none k = refl
order_both K R _ _ g g' (one h hs) k =
    then_same K ◌≡◌ _ _ _ _ (k _ _ h) (λ y. then_same K ◌≡◌ _ _ _ _ (order_both K R _ _ g g' hs k) (λ ys. refl))

pub order_same : (K : Kin) {X Z : Type 0} (xs : List X) (g g' : X → Outcome Z) → ((x : X) → Same K (g x) (g' x)) → Same K (in_order g xs) (in_order g' xs)
order_same K [] g g' k = refl
order_same K (x ∷ xs) g g' k = then_same K ◌≡◌ _ _ _ _ (k x) (λ y. then_same K ◌≡◌ _ _ _ _ (order_same K xs g g' k) (λ ys. refl))

abbrev pub Pairs : {X Y : Type 0} → (X → Y → Type 0) → X × X → Y × Y → Type 0
Pairs R x y = R x.0 y.0 × R x.1 y.1

abbrev pub Triples : {X Y : Type 0} → (X → Y → Type 0) → X × X × X → Y × Y × Y → Type 0
Triples R x y = R x.0 y.0 × R x.1 y.1 × R x.2 y.2

pub joined_two : (K : Kin) {X Y : Type 0} (R : X → Y → Type 0) (p q : Place) (xs : List X) (ys : List Y) → K.place p q → Both R xs ys → Joined K (Pairs R) (two_of p xs) (two_of q ys)
joined_two K R p q _ _ at none = K.faults _ p q at
joined_two K R p q _ _ at (one h none) = K.faults _ p q at
joined_two K R p q _ _ at (one h (one i none)) = (h, i)
joined_two K R p q _ _ at (one h (one i (one j js))) = K.faults _ p q at

pub joined_three : (K : Kin) {X Y : Type 0} (R : X → Y → Type 0) (p q : Place) (xs : List X) (ys : List Y) → K.place p q → Both R xs ys → Joined K (Triples R) (three_of p xs) (three_of q ys)
joined_three K R p q _ _ at none = K.faults _ p q at
joined_three K R p q _ _ at (one h none) = K.faults _ p q at
joined_three K R p q _ _ at (one h (one i none)) = K.faults _ p q at
joined_three K R p q _ _ at (one h (one i (one j none))) = (h, i, j)
joined_three K R p q _ _ at (one h (one i (one j (one k ks)))) = K.faults _ p q at

pub joined_one : (K : Kin) {X Y : Type 0} (R : X → Y → Type 0) (p q : Place) (xs : List X) (ys : List Y) → K.place p q → Both R xs ys → Joined K R (one_of p xs) (one_of q ys)
joined_one K R p q _ _ at none = K.faults _ p q at
joined_one K R p q _ _ at (one h none) = h
joined_one K R p q _ _ at (one h (one i is)) = K.faults _ p q at

-- at places that stand for one another
module _ (K : Kin) (p q : Place) (at : K.place p q) where
  pub ones : {X : Type 0} (vs : List X) → Same K (one_of p vs) (one_of q vs)
  ones [] = K.faults _ p q at
  ones (v ∷ []) = refl
  ones (v ∷ w ∷ vs) = K.faults _ p q at

  pub twos : {X : Type 0} (vs : List X) → Same K (two_of p vs) (two_of q vs)
  twos [] = K.faults _ p q at
  twos (v ∷ []) = K.faults _ p q at
  twos (v ∷ w ∷ []) = refl
  twos (v ∷ w ∷ u ∷ vs) = K.faults _ p q at

  pub threes : {X : Type 0} (vs : List X) → Same K (three_of p vs) (three_of q vs)
  threes [] = K.faults _ p q at
  threes (v ∷ []) = K.faults _ p q at
  threes (v ∷ w ∷ []) = K.faults _ p q at
  threes (v ∷ w ∷ u ∷ []) = refl
  threes (v ∷ w ∷ u ∷ x ∷ vs) = K.faults _ p q at

  pub truths : (v : Value) → Same K (truth_at p v) (truth_at q v)
  truths (truth b) = refl
  truths _ = K.faults _ p q at

  pub ints : (v : Value) → Same K (int_at p v) (int_at q v)
  ints (int n) = refl
  ints _ = K.faults _ p q at

  pub sets : (v : Value) → Same K (members_at p v) (members_at q v)
  sets (set vs) = refl
  sets _ = K.faults _ p q at

  pub funs : (v : Value) → Same K (function_at p v) (function_at q v)
  funs (fun ds rs) = refl
  funs _ = K.faults _ p q at

  pub or_faults : {X : Type 0} (k : FaultKind) (o : Option X) → Same K (ok_or o (fault k p)) (ok_or o (fault k q))
  or_faults k None = K.faults k p q at
  or_faults k (Some x) = refl

  pub sequences : (v : Value) → Same K (sequence_at p v) (sequence_at q v)
  sequences v = or_faults _ (sequence_of v)

  pub tests : (v : Value) (o o' : Outcome Value) → Same K o o' → Same K (tested p v o) (tested q v o')
  tests v o o' h = then_same K ◌≡◌ o o' _ _ h (λ s. then_same K ◌≡◌ _ _ _ _ (sets s) (λ ws. refl))

  -- ---- operators

  two_truths : (vs : List Value) (f : Bool → Bool → Value) → Same K (of_truths p vs f) (of_truths q vs f)
  two_truths vs f = then_same K ◌≡◌ _ _ _ _ (twos vs) (λ (a, b). then_same K ◌≡◌ _ _ _ _ (truths a) (λ m. then_same K ◌≡◌ _ _ _ _ (truths b) (λ n. refl)))

  two_ints : (vs : List Value) (f : ℤ → ℤ → Value) → Same K (of_ints p vs f) (of_ints q vs f)
  two_ints vs f = then_same K ◌≡◌ _ _ _ _ (twos vs) (λ (a, b). then_same K ◌≡◌ _ _ _ _ (ints a) (λ m. then_same K ◌≡◌ _ _ _ _ (ints b) (λ n. refl)))

  two_sets : (vs : List Value) (f : Values → Values → Value) → Same K (of_sets p vs f) (of_sets q vs f)
  two_sets vs f = then_same K ◌≡◌ _ _ _ _ (twos vs) (λ (a, b). then_same K ◌≡◌ _ _ _ _ (sets a) (λ m. then_same K ◌≡◌ _ _ _ _ (sets b) (λ n. refl)))

  quotients : (vs : List Value) (f : ℤ → ℤ → ℤ) → Same K (of_quotient p vs f) (of_quotient q vs f)
  quotients vs f = then_same K ◌≡◌ _ _ _ _ (twos vs) (λ (a, b). then_same K ◌≡◌ _ _ _ _ (ints a) (λ m. then_same K ◌≡◌ _ _ _ _ (ints b) (λ n. same_cond K (int_lt (pos 0) n) (Ok (int (f m n))) (Ok (int (f m n))) (Err (fault BadDivisor p)) (Err (fault BadDivisor q)) refl (K.faults BadDivisor p q at))))

  unions : (vs : Values) → Same K (union_of p vs) (union_of q vs)
  unions vs = then_same K ◌≡◌ _ _ _ _ (order_same K (listed vs) _ _ sets) (λ ss. refl)

  pub operators : (o : Op) (vs : List Value) → Same K (operated o p vs) (operated o q vs)
  operators Equivalent vs = two_truths vs _
  operators Not vs = then_same K ◌≡◌ _ _ _ _ (ones vs) (λ a. then_same K ◌≡◌ _ _ _ _ (truths a) (λ b. refl))
  operators Equal vs = then_same K ◌≡◌ _ _ _ _ (twos vs) (λ ab. refl)
  operators NotEqual vs = then_same K ◌≡◌ _ _ _ _ (twos vs) (λ ab. refl)
  operators Less vs = two_ints vs _
  operators Greater vs = two_ints vs _
  operators AtMost vs = two_ints vs _
  operators AtLeast vs = two_ints vs _
  operators SubsetEq vs = two_sets vs _
  operators Override vs = then_same K ◌≡◌ _ _ _ _ (twos vs) (λ (a, b). then_same K ◌≡◌ _ _ _ _ (funs a) (λ f. then_same K ◌≡◌ _ _ _ _ (funs b) (λ g. refl)))
  operators MapsTo vs = then_same K ◌≡◌ _ _ _ _ (twos vs) (λ ab. refl)
  operators Cup vs = two_sets vs _
  operators Cap vs = two_sets vs _
  operators Without vs = two_sets vs _
  operators Subset vs = then_same K ◌≡◌ _ _ _ _ (ones vs) (λ a. then_same K ◌≡◌ _ _ _ _ (sets a) (λ ss. refl))
  operators Union vs = then_same K ◌≡◌ _ _ _ _ (ones vs) (λ a. then_same K ◌≡◌ _ _ _ _ (sets a) (λ ss. then_same K ◌≡◌ _ _ _ _ (unions ss) (λ ws. refl)))
  operators Range vs = two_ints vs _
  operators Domain vs = then_same K ◌≡◌ _ _ _ _ (ones vs) (λ a. then_same K ◌≡◌ _ _ _ _ (funs a) (λ f. refl))
  operators Plus vs = two_ints vs _
  operators Minus vs = two_ints vs _
  operators Times vs = two_ints vs _
  operators Negate vs = then_same K ◌≡◌ _ _ _ _ (ones vs) (λ a. then_same K ◌≡◌ _ _ _ _ (ints a) (λ n. refl))
  operators Divide vs = quotients vs _
  operators Modulo vs = quotients vs _
  operators Concat vs = then_same K ◌≡◌ _ _ _ _ (twos vs) (λ (a, b). then_same K ◌≡◌ _ _ _ _ (sequences a) (λ xs. then_same K ◌≡◌ _ _ _ _ (sequences b) (λ ys. refl)))
  operators _ vs = K.faults _ p q at

  -- ---- other forms whose parts are all evaluated first

  pub spaces : (o : Strict) (vs : List Value) → Same K (space_of o p vs) (space_of o q vs)
  spaces functions vs = then_same K ◌≡◌ _ _ _ _ (twos vs) (λ (a, b). then_same K ◌≡◌ _ _ _ _ (sets a) (λ ds. then_same K ◌≡◌ _ _ _ _ (sets b) (λ ws. refl)))
  spaces (records xs) vs = then_same K ◌≡◌ _ _ _ _ (order_same K vs _ _ sets) (λ ss. funs (record_from xs (map set ss)))
  spaces _ vs = K.faults _ p q at

  pub makings : (o : Strict) (vs : List Value) → Same K (made o p vs) (made o q vs)
  makings (operator o) vs = operators o vs
  makings set_of vs = refl
  makings tuple vs = refl
  makings (fields xs) vs = refl
  makings (records xs) vs = then_same K ◌≡◌ _ _ _ _ (spaces (records xs) vs) (λ f. refl)
  makings functions vs = then_same K ◌≡◌ _ _ _ _ (spaces functions vs) (λ f. refl)
  makings _ vs = K.faults _ p q at

  pub applications : (f a : Value) → Same K (applied p f a) (applied q f a)
  applications f a = then_same K ◌≡◌ _ _ _ _ (funs f) (λ (ds, rs). or_faults _ _)

  changes : (k : Value) (g g' : Value → Outcome Value) (ds rs : Values) → ((v : Value) → Same K (g v) (g' v)) → Same K (changed k g ds rs) (changed k g' ds rs)
  changes k g g' no_values rs h = refl
  changes k g g' (and d ds) no_values h = refl
  changes k g g' (and d ds) (and r rs) h =
      same_cond K (same k d) _ _ _ _ (then_same K ◌≡◌ _ _ _ _ (h r) (λ w. refl)) (then_same K ◌≡◌ _ _ _ _ (changes k g g' ds rs h) (λ us. refl))

  pub paths : (ks : List Value) (v old : Value) → Same K (changed_at p ks v old) (changed_at q ks v old)
  paths [] v old = refl
  paths (k ∷ ks) v old = then_same K ◌≡◌ _ _ _ _ (funs old) (λ (ds, rs). then_same K ◌≡◌ _ _ _ _ (changes k _ _ ds rs (paths ks v)) (λ us. refl))

  pub next_slots : (ps : List PathStep) (vs : List Value) → Same K (next_slot p ps vs) (next_slot q ps vs)
  next_slots [] [] = K.faults _ p q at
  next_slots [] (v ∷ vs) = refl
  next_slots (index ∷ ps) [] = K.faults _ p q at
  next_slots (index ∷ ps) (w ∷ vs) = then_same K ◌≡◌ _ _ _ _ (next_slots ps vs) (λ n. refl)
  next_slots (field x ∷ ps) vs = then_same K ◌≡◌ _ _ _ _ (next_slots ps vs) (λ n. refl)

-- slots with one path, at places that stand for one another
pub record SlotsJoin (K : Kin) (n m : Slot) : Type 0 where
  pub path : n.path ≡ m.path
  pub place : K.place n.place m.place

-- one form, but for its slots' places
pub data FormsJoin (K : Kin) : Strict → Strict → Type 0 where
  form : (o : Strict) → FormsJoin K o o
  slots : {ns ms : List Slot} → Both (SlotsJoin K) ns ms → FormsJoin K (except ns) (except ms)

-- at both checks a value is let through, or stopped by troubles that stand for one another
abbrev pub Checks : Kin → Check → Check → Type 0
Checks K c c' = (p q : Place) → K.place p q → (v : Value) → Same K (c p v) (c' q v)

module _ (K : Kin) (c c' : Check) (l : Checks K c c') where
  pub updates : (ns ms : List Slot) (vs : List Value) (old : Value) → Both (SlotsJoin K) ns ms → Same K (updated c ns vs old) (updated c' ms vs old)
  updates _ _ vs old none = refl
  updates _ _ vs old (one {x = n} {y = m} h hs) =
      then_same K ◌≡◌ _ _ _ _ (subst (λ ps. Same K (next_slot n.place n.path vs) (next_slot m.place ps vs)) h.path (next_slots K n.place m.place h.place n.path vs))
      (λ (path, v, rest). then_same K ◌≡◌ _ _ _ _ (paths K n.place m.place h.place path v old)
      (λ new. then_same K ◌≡◌ _ _ _ _ (l n.place m.place h.place new) (λ w. updates _ _ rest w hs)))

  excepts : (p q : Place) → K.place p q → (ns ms : List Slot) (vs : List Value) → Both (SlotsJoin K) ns ms → Same K (excepted c p ns vs) (excepted c' q ms vs)
  excepts p q at ns ms [] h = K.faults _ p q at
  excepts p q at ns ms (old ∷ vs) h = updates ns ms vs old h

  same_slots : (ns : List Slot) → Both (SlotsJoin K) ns ns
  same_slots [] = none
  same_slots (n ∷ ns) = one (record { path = refl; place = K.self n.place }) (same_slots ns)

  made_checked : (p q : Place) → K.place p q → (o : Strict) (vs : List Value) → Same K (made o p vs >>= c p) (made o q vs >>= c' q)
  made_checked p q at o vs = then_same K ◌≡◌ _ _ _ _ (makings K p q at o vs) (l p q at)

  value_of_one : (p q : Place) → K.place p q → (o : Strict) (vs : List Value) → Same K (strict_value c o p vs) (strict_value c' o q vs)
  value_of_one p q at apply vs = then_same K ◌≡◌ _ _ _ _ (twos K p q at vs) (λ (f, a). applications K p q at f a)
  value_of_one p q at (select x) vs = then_same K ◌≡◌ _ _ _ _ (ones K p q at vs) (λ f. applications K p q at f (text x))
  value_of_one p q at (except ns) vs = excepts p q at ns ns vs (same_slots ns)
  value_of_one p q at o vs = made_checked p q at o vs

  pub strict_values : (p q : Place) → K.place p q → (o o' : Strict) (vs : List Value) → FormsJoin K o o' → Same K (strict_value c o p vs) (strict_value c' o' q vs)
  strict_values p q at _ _ vs (form o) = value_of_one p q at o vs
  strict_values p q at _ _ vs (slots {ns = ns} {ms = ms} h) = excepts p q at ns ms vs h

  operator_tests : (p q : Place) → K.place p q → (a b : Place) → K.place a b → (o : Op) (v : Value) (vs : List Value) → Same K (operator_test c o p a v vs) (operator_test c' o q b v vs)
  operator_tests p q at a b to Subset v vs = then_same K ◌≡◌ _ _ _ _ (ones K p q at vs) (λ w. then_same K ◌≡◌ _ _ _ _ (sets K p q at w) (λ ws. refl))
  operator_tests p q at a b to o v vs = tests K a b to v (strict_value c (operator o) p vs) (strict_value c' (operator o) q vs) (value_of_one p q at (operator o) vs)

  tests_of_one : (p q : Place) → K.place p q → (a b : Place) → K.place a b → (o : Strict) (v : Value) (vs : List Value) → Same K (strict_test c o p a v vs) (strict_test c' o q b v vs)
  tests_of_one p q at a b to (operator o) v vs = operator_tests p q at a b to o v vs
  tests_of_one p q at a b to functions v vs = then_same K ◌≡◌ _ _ _ _ (spaces K p q at functions vs) (λ f. refl)
  tests_of_one p q at a b to (records xs) v vs = then_same K ◌≡◌ _ _ _ _ (spaces K p q at (records xs) vs) (λ f. refl)
  tests_of_one p q at a b to o v vs = tests K a b to v _ _ (value_of_one p q at o vs)

  pub strict_tests : (p q : Place) → K.place p q → (a b : Place) → K.place a b → (o o' : Strict) (v : Value) (vs : List Value) → FormsJoin K o o' → Same K (strict_test c o p a v vs) (strict_test c' o' q b v vs)
  strict_tests p q at a b to _ _ v vs (form o) = tests_of_one p q at a b to o v vs
  strict_tests p q at a b to _ _ v vs (slots {ns = ns} {ms = ms} h) = tests K a b to v _ _ (excepts p q at ns ms vs h)
