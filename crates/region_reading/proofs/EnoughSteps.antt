-- Enough steps are enough: with more of them each reader does the same, so the readers with as many as they need are one step over themselves.
use Rattle.std.proofs.Common.{◌≡◌, ℕ, zero, suc, ◌+◌, ◌*◌, ◌≤◌, min, bytes_eq, Bool, true, false, List, [], ◌∷◌, length, codes, Option, Some, None, Ok, Err, refl, sym, subst, ◌∙◌, arith}
use Rattle.std.proofs.lemmas.Option.{same_Some}
use Rattle.tla_token.specs.declared.place.Place.{Place}
use Rattle.tla_token.specs.declared.rule.Rule.TheVariants.{Syntax}
use Rattle.tla_tree.specs.declared.op.Op.{Op}
use Rattle.tla_tree.specs.declared.op.Op.TheVariants as op
use Rattle.tla_tree.specs.Tree.{Word}
use Rattle.tla_tree.specs.Lexical.{Mark, Key, TokenView, Token, mark, sign, key}
use Rattle.tla_tree.specs.Lexical as tk
use Rattle.tla_tree.specs.Spelling.{Phrase, head, is_primary}
use Rattle.tla_tree.specs.Reader.{Out, Reader, free, then_read, ◌>>=◌, too_deep, gives, next, took, take, place_if, is_mark, is_key, is_sign, word_of, bullet_of, a_mark, a_key, a_sign, a_word, read}
use Rattle.tla_tree.proofs.Alike.{rest_of}
use Rattle.tla_tree.proofs.Enough.{IsFair, weaker, fair_gives, fair_refuses, fair_deep, fair_skip, fair_peek, fair_bind, fair_take}
use Rattle.tla_tree.proofs.Whole.{fair_same}
use Rattle.module_tree.specs.Grammar.{ItemForm, ListForm, Names}
use Rattle.module_tree.specs.Grammar as gr
use Rattle.module_tree.specs.Units as un
use Rattle.region_reading.specs.Bound.{Bound, unbounded, deeper, phrase_by, a_phrase, if_room, token_by, opening, rest, Shortens}
use Rattle.region_reading.specs.NameReader.{is_title, a_title, names_by, names_step, some_names, names_in, is_bullet_in, bulleted_if, bulleted_step, bulleted, bulleted_from}
use Rattle.region_reading.specs.ItemReader.{ItemReaders, operand_if, an_operand, test_from, setting_from, unchanged_from, exists_from, local_from, choice_from, unchanged_if, item_by, list_by, items_if, branches_if, item_step, item_readers, whole_items}
use Rattle.region_reading.specs.CallReader.{call_from, call_by, call_in, some_way_from, way_by, way_in, over_from, over_by, behind_over, guard_from, guard_by, behind_guard, strong_of, fair_end, fair_with, fair_from, fair_in, start_if, steps_from, spec_by, spec_in}

-- ---- readers without steps of their own leave no more tokens than there were

module _ {b : ℕ} where
  one_token : {A : Type 0} (e : ℕ) (f : Place → TokenView → Option A) → IsFair b (take e f) (take e f)
  one_token e f = record { less = λ ts. by ts (f (next e ts).place (next e ts).kind); same = λ ts m. refl }
    where
      by : {A : Type 0} (ts : List Token) (o : Option A) → length (rest_of (took o ts)) ≤ length ts
      by [] (Some a) = omega arith
      by (t ∷ ts) (Some a) = omega arith
      by ts None = omega arith

  one_mark : (e : ℕ) (m : Mark) → IsFair b (a_mark e m) (a_mark e m)
  one_mark e m = one_token e (place_if (is_mark m))

  one_key : (e : ℕ) (m : Key) → IsFair b (a_key e m) (a_key e m)
  one_key e m = one_token e (place_if (is_key m))

  one_sign : (e : ℕ) (o : Op) → IsFair b (a_sign e o) (a_sign e o)
  one_sign e o = one_token e (place_if (is_sign o))

  one_word : (e : ℕ) → IsFair b (a_word e) (a_word e)
  one_word e = one_token e word_of

  one_title : (e : ℕ) (w : Word) → IsFair b (a_title e w) (a_title e w)
  one_title e w = one_token e (place_if (is_title w))

-- ---- within a bound

pub rest_is : {A : Type 0} (o : Out A) → rest o ≡ rest_of o
rest_is (Ok x) = refl
rest_is (Err s) = refl

deepens : {m : Bound} → Shortens m → Shortens (deeper m)
deepens s k f h e ts = s (suc k) f h e ts

-- without one, expressions leave no more tokens than there were
pub any_shortens : Shortens unbounded
any_shortens k f h e ts = subst (λ (g : ℕ → Reader Phrase). length (rest (g e ts)) ≤ length ts) (same_Some read f h) (rw (rest_is (read e ts)) (((fair_same true (4 * length ts) None).expr e free).less ts))

module _ {A : Type 0} {b : ℕ} where
  fair_room : {p q : Reader A} (o : Option (ℕ → Reader Phrase)) → IsFair b p q → IsFair b (if_room o p) (if_room o q)
  fair_room (Some f) h = h
  fair_room None h = fair_deep

  fair_opening : {p : Reader A} (m : Bound) → IsFair b p p → IsFair b (opening m p) (opening m p)
  fair_opening {p} m h = by (m 1)
    where
      less : (ts : List Token) (o : Out A) → length (rest_of o) ≤ length ts → length (rest_of (then_read o (λ a us. too_deep {A = A} ts))) ≤ length ts
      less ts (Ok x) l = omega arith
      less ts (Err s) l = l

      by : (o : Option (ℕ → Reader Phrase)) → IsFair b (token_by o p) (token_by o p)
      by (Some x) = h
      by None = record { less = λ ts. less ts (p ts) (h.less ts); same = λ ts n. refl }

module _ {b : ℕ} where
  phrase : {m : Bound} → Shortens m → (e : ℕ) → IsFair b (a_phrase m e) (a_phrase m e)
  phrase {m} s e = by (m 0) refl
    where
      by : (o : Option (ℕ → Reader Phrase)) → m 0 ≡ o → IsFair b (phrase_by o e) (phrase_by o e)
      by (Some f) h = record { less = λ ts. subst (λ (us : List Token). length us ≤ length ts) (rest_is (f e ts)) (s 0 f h e ts); same = λ ts n. refl }
      by None h = fair_deep

  operand : {m : Bound} → Shortens m → (e : ℕ) → IsFair b (an_operand m e) (an_operand m e)
  operand s e = fair_bind (phrase s e) (λ a. by (is_primary (head a)) a)
    where
      by : (p : Bool) (a : Phrase) → IsFair b (operand_if p a) (operand_if p a)
      by true a = fair_gives
      by false a = fair_refuses

-- ---- names with commas

fair_names_by : {b : ℕ} {p q : Reader Names} → IsFair b p q → (x : Place) (w : Word) (y : Place) (k : TokenView) → IsFair b (names_by p x w y k) (names_by q x w y k)
fair_names_by h x w y (mark tk.comma) = fair_skip (omega arith) (fair_bind h (λ ns. fair_gives))
fair_names_by h x w y k = fair_gives

fair_names_step : {b n : ℕ} {p q : Reader Names} → b ≤ n + 4 → (e : ℕ) → IsFair n p q → IsFair b (names_step e p) (names_step e q)
fair_names_step l e h = fair_take l (λ x. fair_peek e (fair_names_by h x.0 x.1)) e word_of

names_end : (n e : ℕ) → some_names n e [] ≡ Err (Syntax, [])
names_end zero e = refl
names_end (suc n) e = refl

-- which is said of no tokens
only_none : {A : Type 0} {b : ℕ} {p q : Reader A} → b ≤ 3 → ((ts : List Token) → length (rest_of (p ts)) ≤ length ts) → p [] ≡ q [] → IsFair b p q
only_none {A} {b} {p} {q} l h e = record { less = h; same = here }
  where
    here : (ts : List Token) → 4 * length ts ≤ b → p ts ≡ q ts
    here [] m = e
    here (t ∷ ts) m = absurd (omega (arith, l, m))

names_self : (n e : ℕ) → IsFair (4 * n) (some_names n e) (some_names n e)
names_self zero e = fair_refuses
names_self (suc n) e = fair_names_step (omega arith) e (names_self n e)

names_pair : (j n m e : ℕ) → j ≤ n → j ≤ m → IsFair (4 * j) (some_names n e) (some_names m e)
names_pair zero n m e i k = only_none (omega arith) (names_self n e).less (names_end n e ∙ sym (names_end m e))
names_pair (suc j) zero m e i k = absurd (omega (arith, i))
names_pair (suc j) (suc n) zero e i k = absurd (omega (arith, k))
names_pair (suc j) (suc n) (suc m) e i k = fair_names_step (omega arith) e (names_pair j n m e (omega (arith, i)) (omega (arith, k)))

names_whole : (n e : ℕ) → IsFair (4 * n) (some_names n e) (names_in e)
names_whole n e = record { less = (names_self n e).less; same = λ ts m. (names_pair (length ts) n (length ts) e (omega (arith, m)) (omega arith)).same ts (omega arith) }

-- names are a name, and names
pub names_are : (e : ℕ) (ts : List Token) → names_in e ts ≡ names_step e (names_in e) ts
names_are e ts =
    let n = length ts in
    let step : IsFair (4 * n) (some_names (suc n) e) (names_step e (names_in e)) = fair_names_step (omega arith) e (names_whole n e) in
    (names_pair n n (suc n) e (omega arith) (omega arith)).same ts (omega arith) ∙ step.same ts (omega arith)

module _ {b : ℕ} where
  all_names : (e : ℕ) → IsFair b (names_in e) (names_in e)
  all_names e = record { less = λ ts. (names_self (length ts) e).less ts; same = λ ts m. refl }

-- ---- lists of forms, each after its bullet

module _ {A : Type 0} (o : Op) (f : ℕ → Reader A) (h : (b e : ℕ) → IsFair b (f e) (f e)) (c : ℕ) where
  fair_bulleted_if : {b : ℕ} {p q : Reader (List (Place × A))} → IsFair b p q → (t : Bool) (x : Place) (a : A) → IsFair b (bulleted_if t p x a) (bulleted_if t q x a)
  fair_bulleted_if h true x a = fair_bind h (λ xs. fair_gives)
  fair_bulleted_if h false x a = fair_gives

  fair_bulleted_step : {b n : ℕ} {p q : Reader (List (Place × A))} → b ≤ n + 4 → IsFair n p q → IsFair b (bulleted_step o f c p) (bulleted_step o f c q)
  fair_bulleted_step {b} {n} l g = fair_take l (λ x. fair_bind (h n c) (λ a. fair_peek 1 (λ y k. fair_bulleted_if g (is_bullet_in o c y k) x a))) 1 (bullet_of o c)

  bulleted_end : (n : ℕ) → bulleted n o f c [] ≡ Err (Syntax, [])
  bulleted_end zero = refl
  bulleted_end (suc n) = refl

  bulleted_self : (n : ℕ) → IsFair (4 * n) (bulleted n o f c) (bulleted n o f c)
  bulleted_self zero = fair_refuses
  bulleted_self (suc n) = fair_bulleted_step (omega arith) (bulleted_self n)

  bulleted_pair : (j n m : ℕ) → j ≤ n → j ≤ m → IsFair (4 * j) (bulleted n o f c) (bulleted m o f c)
  bulleted_pair zero n m i k = only_none (omega arith) (bulleted_self n).less (bulleted_end n ∙ sym (bulleted_end m))
  bulleted_pair (suc j) zero m i k = absurd (omega (arith, i))
  bulleted_pair (suc j) (suc n) zero i k = absurd (omega (arith, k))
  bulleted_pair (suc j) (suc n) (suc m) i k = fair_bulleted_step (omega arith) (bulleted_pair j n m (omega (arith, i)) (omega (arith, k)))

  bulleted_whole : (n : ℕ) → IsFair (4 * n) (bulleted n o f c) (bulleted_from o f c)
  bulleted_whole n = record { less = (bulleted_self n).less; same = λ ts m. (bulleted_pair (length ts) n (length ts) (omega (arith, m)) (omega arith)).same ts (omega arith) }

  -- they are one, and the others
  pub bulleted_are : (ts : List Token) → bulleted_from o f c ts ≡ bulleted_step o f c (bulleted_from o f c) ts
  bulleted_are ts =
      let n = length ts in
      let step : IsFair (4 * n) (bulleted (suc n) o f c) (bulleted_step o f c (bulleted_from o f c)) = fair_bulleted_step (omega arith) (bulleted_whole n) in
      (bulleted_pair n n (suc n) (omega arith) (omega arith)).same ts (omega arith) ∙ step.same ts (omega arith)

-- ---- calls, ways and conjuncts of Spec

over_shortens : {m : Bound} → Shortens m → (o : Option un.OverForm) → Shortens (behind_over m o)
over_shortens s (Some f) = deepens s
over_shortens s None = s

guard_shortens : {m : Bound} → Shortens m → (o : Option un.GuardForm) → Shortens (behind_guard m o)
guard_shortens s (Some f) = deepens s
guard_shortens s None = s

module _ {b : ℕ} where
  call_rest : {m : Bound} → Shortens m → (e : ℕ) (p : Place) (x : Word) (q : Place) → IsFair b (call_from m e p x q) (call_from m e p x q)
  call_rest s e p x q = fair_bind (phrase s e) (λ a. fair_bind (one_mark e tk.close_bracket) (λ t. fair_gives))

  fair_call_by : {m : Bound} → Shortens m → (e : ℕ) (p : Place) (x : Word) (q : Place) (k : TokenView) → IsFair b (call_by m e p x q k) (call_by m e p x q k)
  fair_call_by {m} s e p x q (mark tk.open_bracket) = fair_room (m 1) (fair_skip (omega arith) (call_rest (deepens s) e p x q))
  fair_call_by s e p x q k = fair_gives

  fair_call : {m : Bound} → Shortens m → (e : ℕ) → IsFair b (call_in m e) (call_in m e)
  fair_call s e = fair_bind (one_word e) (λ x. fair_peek e (fair_call_by s e x.0 x.1))

  one_call : {m : Bound} → Shortens m → (e : ℕ) → IsFair b (call_in m e >>= λ u. gives (gr.one_form u)) (call_in m e >>= λ u. gives (gr.one_form u))
  one_call s e = fair_bind (fair_call s e) (λ u. fair_gives)

  some_call : {m : Bound} → Shortens m → (e : ℕ) (p : Place) → IsFair b (some_way_from m e p) (some_way_from m e p)
  some_call s e p = fair_bind (one_word e) (λ x. fair_bind (one_sign e op.In) (λ y. fair_bind (phrase s e) (λ a. fair_bind (one_mark e tk.colon) (λ t. fair_bind (fair_call s e) (λ u. fair_gives)))))

  fair_way_by : {m : Bound} → Shortens m → (e : ℕ) (p : Place) (k : TokenView) → IsFair b (way_by m e p k) (way_by m e p k)
  fair_way_by {m} s e p (key tk.exists_key) = fair_room (m 1) (fair_skip (omega arith) (some_call (deepens s) e p))
  fair_way_by s e p k = one_call s e

  fair_way : {m : Bound} → Shortens m → (e : ℕ) → IsFair b (way_in m e) (way_in m e)
  fair_way s e = fair_peek e (fair_way_by s e)

  over_rest : {m : Bound} → Shortens m → (e : ℕ) (p : Place) → IsFair b (over_from m e p) (over_from m e p)
  over_rest s e p = fair_bind (one_word e) (λ x. fair_bind (one_sign e op.In) (λ y. fair_bind (phrase s e) (λ a. fair_bind (one_mark e tk.colon) (λ t. fair_gives))))

  fair_over_by : {m : Bound} → Shortens m → (e : ℕ) (p : Place) (k : TokenView) → IsFair b (over_by m e p k) (over_by m e p k)
  fair_over_by {m} s e p (key tk.for_all_key) = fair_room (m 1) (fair_skip (omega arith) (over_rest (deepens s) e p))
  fair_over_by s e p k = fair_gives

  guard_rest : (m : Bound) {n : Bound} → Shortens n → (e : ℕ) (p : Place) → IsFair b (guard_from m n e p) (guard_from m n e p)
  guard_rest m s e p = fair_bind (phrase s e) (λ a. fair_bind (one_mark e tk.close_bracket) (λ q. fair_bind (fair_opening m (one_sign e op.And)) (λ y. fair_gives)))

  fair_guard_by : {m : Bound} → Shortens m → (e : ℕ) (p : Place) (k : TokenView) → IsFair b (guard_by m e p k) (guard_by m e p k)
  fair_guard_by {m} s e p (mark tk.open_bracket) = fair_room (m 1) (fair_skip (omega arith) (guard_rest m (deepens s) e p))
  fair_guard_by s e p k = fair_gives

  fair_fair_end : {m : Bound} → Shortens m → (e : ℕ) (o : Option un.OverForm) (x : Place × Bool) (p : Place) (g : Option un.GuardForm) → IsFair b (fair_end m e o x p g) (fair_end m e o x p g)
  fair_fair_end s e o x p g = fair_bind (fair_call s e) (λ u. fair_bind (one_mark e tk.close_bracket) (λ q. fair_gives))

  fair_fair_with : {m : Bound} → Shortens m → (e : ℕ) (o : Option un.OverForm) (x : Place × Bool) (p : Place) → IsFair b (fair_with m e o x p) (fair_with m e o x p)
  fair_fair_with s e o x p = fair_bind (fair_peek e (fair_guard_by s e)) (λ g. fair_fair_end (guard_shortens s g) e o x p g)

  fair_fair_from : {m : Bound} → Shortens m → (e : ℕ) (o : Option un.OverForm) → IsFair b (fair_from m e o) (fair_from m e o)
  fair_fair_from {m} s e o = fair_bind (one_token e strong_of) (λ x. fair_bind (fair_opening m (one_mark e tk.open_bracket)) (λ p. fair_fair_with (deepens s) e o x p))

  fair_fair : {m : Bound} → Shortens m → (e : ℕ) → IsFair b (fair_in m e) (fair_in m e)
  fair_fair s e = fair_bind (fair_peek e (fair_over_by s e)) (λ o. fair_fair_from (over_shortens s o) e o)

  fair_line : {m : Bound} → Shortens m → (e : ℕ) → IsFair b (fair_in m e >>= λ f. gives (un.fair_line f)) (fair_in m e >>= λ f. gives (un.fair_line f))
  fair_line s e = fair_bind (fair_fair s e) (λ f. fair_gives)

  fair_start : (t : Bool) (p : Place) → IsFair b (start_if t p) (start_if t p)
  fair_start true p = fair_skip {n = b} (omega arith) fair_gives
  fair_start false p = fair_refuses

  steps_rest : (m : Bound) (e : ℕ) (p : Place) → IsFair b (steps_from m e p) (steps_from m e p)
  steps_rest m e p =
      fair_bind (fair_opening m (one_mark e tk.open_square)) (λ q. fair_bind (one_title e (codes "Next")) (λ s. fair_bind (one_mark e tk.close_square) (λ t. fair_bind (one_title e (codes "_vars")) (λ u. fair_gives))))

  fair_spec_by : {m : Bound} → Shortens m → (e : ℕ) (p : Place) (k : TokenView) → IsFair b (spec_by m e p k) (spec_by m e p k)
  fair_spec_by s e p (tk.word x) = fair_start (bytes_eq x (codes "Init")) p
  fair_spec_by {m} s e p (mark tk.box) = fair_room (m 1) (fair_skip (omega arith) (steps_rest (deeper m) e p))
  fair_spec_by s e p k = fair_line s e

  fair_spec : {m : Bound} → Shortens m → (e : ℕ) → IsFair b (spec_in m e) (spec_in m e)
  fair_spec s e = fair_peek e (fair_spec_by s e)

-- the forms of Init, Next and Spec
module _ (m : Bound) (s : Shortens m) (c : ℕ) (ts : List Token) where
  pub phrases_are : bulleted_from op.And (a_phrase m) c ts ≡ bulleted_step op.And (a_phrase m) c (bulleted_from op.And (a_phrase m) c) ts
  phrases_are = bulleted_are op.And (a_phrase m) (λ b e. phrase s e) c ts

  pub ways_are : bulleted_from op.Or (way_in m) c ts ≡ bulleted_step op.Or (way_in m) c (bulleted_from op.Or (way_in m) c) ts
  ways_are = bulleted_are op.Or (way_in m) (λ b e. fair_way s e) c ts

  pub specs_are : bulleted_from op.And (spec_in m) c ts ≡ bulleted_step op.And (spec_in m) c (bulleted_from op.And (spec_in m) c) ts
  specs_are = bulleted_are op.And (spec_in m) (λ b e. fair_spec s e) c ts

-- ---- items

-- with j steps and more: two for each token, and lists in a column with one less
record AreFair (j : ℕ) (r q : ItemReaders) : Type 0 where
  item : (m : Bound) → Shortens m → (e : ℕ) → IsFair (2 * j) (r.item m e) (q.item m e)
  list : (m : Bound) → Shortens m → (e : ℕ) → IsFair (2 * j) (r.list m e) (q.list m e)
  items : (m : Bound) → Shortens m → (e c : ℕ) → IsFair (2 * j + 2) (r.items m e c) (q.items m e c)
  branches : (m : Bound) → Shortens m → (e c : ℕ) → IsFair (2 * j + 2) (r.branches m e c) (q.branches m e c)

module _ (j : ℕ) (r q : ItemReaders) (h : AreFair j r q) where
  module _ (m : Bound) (s : Shortens m) where
    test_rest : (e : ℕ) (p : Place) → IsFair (2 * j) (test_from m e p) (test_from m e p)
    test_rest e p = fair_bind (phrase s e) (λ a. fair_bind (one_mark e tk.close_bracket) (λ y. fair_gives))

    setting_rest : (e : ℕ) (p : Place) (x : Word) → IsFair (2 * j) (setting_from m e p x) (setting_from m e p x)
    setting_rest e p x = fair_bind (one_mark e tk.prime) (λ q. fair_bind (fair_opening m (one_sign e op.Equal)) (λ y. fair_bind (operand (deepens s) e) (λ a. fair_gives)))

    unchanged_rest : (e : ℕ) (p : Place) → IsFair (2 * j) (unchanged_from m e p) (unchanged_from m e p)
    unchanged_rest e p = fair_bind (fair_opening m (one_mark e tk.open_tuple)) (λ q. fair_bind (all_names e) (λ ns. fair_bind (one_mark e tk.close_tuple) (λ y. fair_gives)))

    exists_rest : (e : ℕ) (p : Place) → IsFair (2 * j) (exists_from m r e p) (exists_from m q e p)
    exists_rest e p = fair_bind (one_word e) (λ x. fair_bind (one_sign e op.In) (λ y. fair_bind (phrase s e) (λ a. fair_bind (one_mark e tk.colon) (λ t. fair_bind (h.list m s e) (λ is. fair_gives)))))

    local_rest : (e : ℕ) (p : Place) → IsFair (2 * j) (local_from m r e p) (local_from m q e p)
    local_rest e p = fair_bind (one_word e) (λ x. fair_bind (one_mark e tk.defines) (λ y. fair_bind (phrase s e) (λ a. fair_bind (one_key e tk.in_key) (λ t. fair_bind (h.list m s e) (λ is. fair_gives)))))

    choice_rest : (e : ℕ) (p : Place) → IsFair (2 * j) (choice_from m r e p) (choice_from m q e p)
    choice_rest e p = fair_bind (phrase s e) (λ a. fair_bind (one_key e tk.then_key) (λ t. fair_bind (h.list m s e) (λ is. fair_bind (one_key e tk.else_key) (λ y. fair_bind (h.list m s e) (λ js. fair_gives)))))

  fair_unchanged : (t : Bool) (m : Bound) → Shortens m → (e : ℕ) (p : Place) → IsFair (2 * suc j) (unchanged_if t m e p) (unchanged_if t m e p)
  fair_unchanged true m s e p = fair_room (m 1) (fair_skip (omega arith) (unchanged_rest (deeper m) (deepens s) e p))
  fair_unchanged false m s e p = fair_refuses

  fair_item_by : (m : Bound) → Shortens m → (e : ℕ) (p : Place) (k : TokenView) → IsFair (2 * suc j) (item_by m r e p k) (item_by m q e p k)
  fair_item_by m s e p (mark tk.open_bracket) = fair_room (m 1) (fair_skip (omega arith) (test_rest (deeper m) (deepens s) e p))
  fair_item_by m s e p (tk.word x) = fair_skip (omega arith) (setting_rest m s e p x)
  fair_item_by m s e p (tk.other w) = fair_unchanged (bytes_eq w (codes "UNCHANGED")) m s e p
  fair_item_by m s e p (key tk.exists_key) = fair_room (m 1) (fair_skip (omega arith) (exists_rest (deeper m) (deepens s) e p))
  fair_item_by m s e p (key tk.let_key) = fair_room (m 1) (fair_skip (omega arith) (local_rest (deeper m) (deepens s) e p))
  fair_item_by m s e p (key tk.if_key) = fair_room (m 1) (fair_skip (omega arith) (choice_rest (deeper m) (deepens s) e p))
  fair_item_by m s e p (sign op.Or) = fair_room (m 1) (fair_bind (weaker (omega arith) (h.branches (deeper m) (deepens s) e p.col)) (λ bs. fair_gives))
  fair_item_by m s e p k = fair_refuses

  fair_list_by : (m : Bound) → Shortens m → (e : ℕ) (p : Place) (k : TokenView) → IsFair (2 * suc j) (list_by m r e p k) (list_by m q e p k)
  fair_list_by m s e p (sign op.And) = fair_room (m 1) (weaker (omega arith) (h.items (deeper m) (deepens s) e p.col))
  fair_list_by m s e p k = fair_refuses

  fair_items_if : (t : Bool) (m : Bound) → Shortens m → (e c : ℕ) (p : Place) (i : ItemForm) → IsFair (2 * j) (items_if t m r e c p i) (items_if t m q e c p i)
  fair_items_if true m s e c p i = fair_bind (weaker (omega arith) (h.items m s e c)) (λ is. fair_gives)
  fair_items_if false m s e c p i = fair_gives

  fair_branches_if : (t : Bool) (m : Bound) → Shortens m → (e c : ℕ) (p : Place) (is : ListForm) → IsFair (2 * j) (branches_if t m r e c p is) (branches_if t m q e c p is)
  fair_branches_if true m s e c p is = fair_bind (weaker (omega arith) (h.branches m s e c)) (λ bs. fair_gives)
  fair_branches_if false m s e c p is = fair_gives

  fair_step : AreFair (suc j) (item_step r) (item_step q)
  fair_step = record {
    item = λ m s e. fair_peek e (fair_item_by m s e);
    list = λ m s e. fair_peek e (fair_list_by m s e);
    items = λ m s e c. fair_take {n = 2 * j} (omega arith) (λ p. fair_bind (h.item m s c) (λ i. fair_peek e (λ y k. fair_items_if (is_bullet_in op.And c y k) m s e c p i))) e (bullet_of op.And c);
    branches = λ m s e c. fair_take {n = 2 * j} (omega arith) (λ p. fair_bind (h.list m s c) (λ is. fair_peek e (λ y k. fair_branches_if (is_bullet_in op.Or c y k) m s e c p is))) e (bullet_of op.Or c);
  }

fair_self : (n : ℕ) → AreFair n (item_readers n) (item_readers n)
unfolding item_readers
fair_self zero = record { item = λ m s e. fair_refuses; list = λ m s e. fair_refuses; items = λ m s e c. fair_refuses; branches = λ m s e c. fair_refuses }
fair_self (suc n) = fair_step n (item_readers n) (item_readers n) (fair_self n)

-- at the end of the tokens each refuses
record Ended (r : ItemReaders) : Type 0 where
  item : (m : Bound) (e : ℕ) → r.item m e [] ≡ Err (Syntax, [])
  list : (m : Bound) (e : ℕ) → r.list m e [] ≡ Err (Syntax, [])
  items : (m : Bound) (e c : ℕ) → r.items m e c [] ≡ Err (Syntax, [])
  branches : (m : Bound) (e c : ℕ) → r.branches m e c [] ≡ Err (Syntax, [])

all_ended : (n : ℕ) → Ended (item_readers n)
unfolding item_readers
all_ended zero = record { item = λ m e. refl; list = λ m e. refl; items = λ m e c. refl; branches = λ m e c. refl }
all_ended (suc n) = record { item = λ m e. refl; list = λ m e. refl; items = λ m e c. refl; branches = λ m e c. refl }

fair_pair : (j n m : ℕ) → j ≤ n → j ≤ m → AreFair j (item_readers n) (item_readers m)
unfolding item_readers
fair_pair zero n m i k = (let h = fair_self n in let x = all_ended n in let y = all_ended m in record {
  item = λ b s e. only_none (omega arith) (h.item b s e).less (x.item b e ∙ sym (y.item b e));
  list = λ b s e. only_none (omega arith) (h.list b s e).less (x.list b e ∙ sym (y.list b e));
  items = λ b s e c. only_none (omega arith) (h.items b s e c).less (x.items b e c ∙ sym (y.items b e c));
  branches = λ b s e c. only_none (omega arith) (h.branches b s e c).less (x.branches b e c ∙ sym (y.branches b e c));
})
fair_pair (suc j) zero m i k = absurd (omega (arith, i))
fair_pair (suc j) (suc n) zero i k = absurd (omega (arith, k))
fair_pair (suc j) (suc n) (suc m) i k = fair_step j (item_readers n) (item_readers m) (fair_pair j n m (omega (arith, i)) (omega (arith, k)))

fair_whole : (n : ℕ) → AreFair n (item_readers n) whole_items
fair_whole n = (let h = fair_self n in record {
  item = λ b s e. record { less = (h.item b s e).less; same = λ ts l. ((fair_pair (min n (2 * length ts)) n (2 * length ts) (omega arith) (omega arith)).item b s e).same ts (omega (arith, l)) };
  list = λ b s e. record { less = (h.list b s e).less; same = λ ts l. ((fair_pair (min n (2 * length ts)) n (2 * length ts) (omega arith) (omega arith)).list b s e).same ts (omega (arith, l)) };
  items = λ b s e c. record { less = (h.items b s e c).less; same = λ ts l. ((fair_pair (min n (2 * length ts)) n (2 * length ts) (omega arith) (omega arith)).items b s e c).same ts (omega (arith, l)) };
  branches = λ b s e c. record { less = (h.branches b s e c).less; same = λ ts l. ((fair_pair (min n (2 * length ts)) n (2 * length ts) (omega arith) (omega arith)).branches b s e c).same ts (omega (arith, l)) };
})

fair_over : (n : ℕ) → AreFair (suc n) (item_readers (suc n)) (item_step whole_items)
unfolding item_readers
fair_over n = fair_step n (item_readers n) whole_items (fair_whole n)

-- one step over themselves
module _ (m : Bound) (s : Shortens m) (ts : List Token) where
  abbrev enough : ℕ
  enough = 2 * length ts

  pub item_is : (e : ℕ) → whole_items.item m e ts ≡ (item_step whole_items).item m e ts
  item_is e = ((fair_pair enough enough (suc enough) (omega arith) (omega arith)).item m s e).same ts (omega arith) ∙ ((fair_over enough).item m s e).same ts (omega arith)

  pub list_is : (e : ℕ) → whole_items.list m e ts ≡ (item_step whole_items).list m e ts
  list_is e = ((fair_pair enough enough (suc enough) (omega arith) (omega arith)).list m s e).same ts (omega arith) ∙ ((fair_over enough).list m s e).same ts (omega arith)

  pub items_are : (e c : ℕ) → whole_items.items m e c ts ≡ (item_step whole_items).items m e c ts
  items_are e c = ((fair_pair enough enough (suc enough) (omega arith) (omega arith)).items m s e c).same ts (omega arith) ∙ ((fair_over enough).items m s e c).same ts (omega arith)

  pub branches_are : (e c : ℕ) → whole_items.branches m e c ts ≡ (item_step whole_items).branches m e c ts
  branches_are e c = ((fair_pair enough enough (suc enough) (omega arith) (omega arith)).branches m s e c).same ts (omega arith) ∙ ((fair_over enough).branches m s e c).same ts (omega arith)
