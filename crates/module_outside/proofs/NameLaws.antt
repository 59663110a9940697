-- Names with commas between them, and parameters, token by token.
use Rattle.std.proofs.Common.{◌≡◌, ℕ, ◌+◌, ◌<◌, ◌≤◌, Bool, true, false, ◌&&◌, List, [], ◌∷◌, ◌++◌, length, Option, Some, None, refl, sym, ap, ◌∙◌, arith, append_assoc}
use Rattle.std.specs.Prelude.{if◌then◌else◌}
use Rattle.tla_token.specs.declared.token.Tokens.{Tokens}
use Rattle.tla_tree.specs.Tree.{Word, Name}
use Rattle.tla_tree.specs.Lexical.{Token}
use Rattle.tla_tree.specs.Lexical as tk
use Rattle.tla_tree.specs.Reader.{is_mark, tail}
use Rattle.expr_nodes.specs.Ahead.{ahead}
use Rattle.expr_nodes.proofs.AheadLemmas.{ahead_tail}
use Rattle.outside_reading.specs.PlainUnits.{is_right, name_in, only_name, one_more, names_in, all_names, named_in, closed_in, parameters_in, behind_sign, head_in}
use Rattle.module_outside.proofs.FrontLaws.{ahead_end}
use Rattle.module_outside.proofs.UnitLaws.{ahead_length}
use Rattle.module_outside.specs.Fronts.{front_name, front_mark, front_right, front_keyword, front_placed, names_before}

-- ---- names, by the front

front_none : (ts : List Token) → front_name ts ≡ None → names_in ts ≡ None
front_none [] h = refl
front_none (t ∷ []) h = ap (only_name []) h
front_none (t ∷ u ∷ ts) h = by (is_mark tk.comma u.kind)
  where
    by : (b : Bool) → (if b then one_more (name_in t) (is_right u) (names_in ts) else only_name (u ∷ ts) (name_in t)) ≡ None
    by true = ap (λ (o : Option Name). one_more o (is_right u) (names_in ts)) h
    by false = ap (only_name (u ∷ ts)) h

front_last : (ts : List Token) (x : Name) → front_name ts ≡ Some x → front_mark tk.comma (tail ts) ≡ false → names_in ts ≡ Some (x ∷ [], tail ts)
front_last [] x h c = absurd cc
front_last (t ∷ []) x h c = ap (only_name []) h
front_last (t ∷ u ∷ ts) x h c = rw c (ap (only_name (u ∷ ts)) h)

front_stopped : (ts : List Token) (x : Name) → front_name ts ≡ Some x → front_mark tk.comma (tail ts) ≡ true → front_right (tail ts) ≡ false → names_in ts ≡ None
front_stopped [] x h c r = absurd cc
front_stopped (t ∷ []) x h c r = absurd cc
front_stopped (t ∷ u ∷ ts) x h c r = rw c (λ i. one_more (h i) (r i) (names_in ts))

front_more : (ts : List Token) (x : Name) → front_name ts ≡ Some x → front_mark tk.comma (tail ts) ≡ true → front_right (tail ts) ≡ true → names_in ts ≡ names_before (x ∷ []) (names_in (tail (tail ts)))
front_more [] x h c r = absurd cc
front_more (t ∷ []) x h c r = absurd cc
front_more (t ∷ u ∷ ts) x h c r = rw c ((λ i. one_more (h i) (r i) (names_in ts)) ∙ by (names_in ts))
  where
    by : (o : Option (List Name × List Token)) → one_more (Some x) true o ≡ names_before (x ∷ []) o
    by (Some (ns, r)) = refl
    by None = refl

before_more : (xs ys : List Name) (o : Option (List Name × List Token)) → names_before xs (names_before ys o) ≡ names_before (xs ++ ys) o
before_more xs ys None = refl
before_more xs ys (Some (ns, r)) = ap (λ (l : List Name). Some (l, r)) (sym (append_assoc xs ys ns))

-- ---- in the loop

pub names_start : (o : Option (List Name × List Token)) → names_before [] o ≡ o
names_start None = refl
names_start (Some (ns, r)) = refl

module _ (v : Tokens) (i : ℕ) (done : List Name) (whole : Option (List Name × List Token)) (inv : names_before done (names_in (ahead v i)) ≡ whole) where
  further : (i : ℕ) → ahead v (i + 1 + 1) ≡ tail (tail (ahead v i))
  further i = ahead_tail v (i + 1) ∙ ap tail (ahead_tail v i)

  pub names_none : (o : Option Name) → o ≡ None → o ≡ front_name (ahead v i) → None ≡ whole
  names_none o n h = ap (names_before done) (sym (front_none (ahead v i) (sym h ∙ n))) ∙ inv

  pub names_last : (o : Option Name) (x : Name) (b : Bool) (new : List Name) → o ≡ Some x → o ≡ front_name (ahead v i) → b ≡ front_mark tk.comma (ahead v (i + 1)) → b ≡ false → new ≡ done ++ x ∷ [] → Some (new, ahead v (i + 1)) ≡ whole
  names_last o x b new n h c f e =
      (λ j. Some (e j, ahead_tail v i j)) ∙ ap (names_before done) (sym (front_last (ahead v i) x (sym h ∙ n) (ap (front_mark tk.comma) (sym (ahead_tail v i)) ∙ sym c ∙ f))) ∙ inv

  pub names_stopped : (o : Option Name) (x : Name) (b r : Bool) → o ≡ Some x → o ≡ front_name (ahead v i) → b ≡ front_mark tk.comma (ahead v (i + 1)) → b ≡ true → r ≡ front_right (ahead v (i + 1)) → r ≡ false → None ≡ whole
  names_stopped o x b r n h c f d e =
      ap (names_before done) (sym (front_stopped (ahead v i) x (sym h ∙ n) (ap (front_mark tk.comma) (sym (ahead_tail v i)) ∙ sym c ∙ f) (ap front_right (sym (ahead_tail v i)) ∙ sym d ∙ e))) ∙ inv

  pub names_further : (o : Option Name) (x : Name) (b r : Bool) (new : List Name) (k : ℕ) → o ≡ Some x → o ≡ front_name (ahead v i) → b ≡ front_mark tk.comma (ahead v (i + 1)) → b ≡ true
      → r ≡ front_right (ahead v (i + 1)) → r ≡ true → new ≡ done ++ x ∷ [] → k ≡ i + 1 + 1 → names_before new (names_in (ahead v k)) ≡ whole
  names_further o x b r new k n h c f d e g p =
      (λ j. names_before (g j) (names_in ((ap (ahead v) p ∙ further i) j))) ∙ sym (before_more done (x ∷ []) (names_in (tail (tail (ahead v i)))))
      ∙ ap (names_before done) (sym (front_more (ahead v i) x (sym h ∙ n) (ap (front_mark tk.comma) (sym (ahead_tail v i)) ∙ sym c ∙ f) (ap front_right (sym (ahead_tail v i)) ∙ sym d ∙ e))) ∙ inv

pub names_over : (v : Tokens) (i : ℕ) (done : List Name) (whole : Option (List Name × List Token)) → length v.items.items ≤ i → names_before done (names_in (ahead v i)) ≡ whole → None ≡ whole
names_over v i done whole l inv = ap (λ (ts : List Token). names_before done (names_in ts)) (sym (ahead_end v i l)) ∙ inv

-- ---- the names of a unit

pub not_named : (w : Word) (ts : List Token) → front_keyword w ts ≡ false → None ≡ named_in w ts
not_named w [] h = refl
not_named w (t ∷ ts) h = rw h refl

is_named : (w : Word) (ts : List Token) → front_keyword w ts ≡ true → named_in w ts ≡ all_names (names_in (tail ts))
is_named w [] h = absurd cc
is_named w (t ∷ ts) h = rw h refl

some_ahead : (v : Tokens) (i : ℕ) → i < length v.items.items → 0 < length (ahead v i)
some_ahead v i l = (let n = ahead_length v i (omega (arith, l)) in omega (arith, n, l))

module _ (v : Tokens) (w : Word) (k : front_keyword w (ahead v 0) ≡ true) where
  pub named_none : None ≡ names_in (ahead v 1) → None ≡ named_in w (ahead v 0)
  named_none h = ap all_names h ∙ sym (is_named w (ahead v 0) k ∙ ap (λ (ts : List Token). all_names (names_in ts)) (sym (ahead_tail v 0)))

  pub named_all : (ns : List Name) (end : ℕ) → Some (ns, ahead v end) ≡ names_in (ahead v 1) → end ≡ length v.items.items → Some ns ≡ named_in w (ahead v 0)
  named_all ns end h e =
      ap (λ (ts : List Token). all_names (Some (ns, ts))) (sym (ahead_end v end (omega (arith, e)))) ∙ ap all_names h
      ∙ sym (is_named w (ahead v 0) k ∙ ap (λ (ts : List Token). all_names (names_in ts)) (sym (ahead_tail v 0)))

  pub named_more : (ns : List Name) (end : ℕ) → Some (ns, ahead v end) ≡ names_in (ahead v 1) → end < length v.items.items → None ≡ named_in w (ahead v 0)
  named_more ns end h l =
      more (ahead v end) (some_ahead v end l) ∙ ap all_names h
      ∙ sym (is_named w (ahead v 0) k ∙ ap (λ (ts : List Token). all_names (names_in ts)) (sym (ahead_tail v 0)))
    where
      more : (ts : List Token) → 0 < length ts → None ≡ all_names (Some (ns, ts))
      more [] l = absurd (omega (arith, l))
      more (t ∷ ts) l = refl

-- ---- parameters

abbrev some_read : List Name → List Token → Option (List Name × List Token)
some_read ns r = Some (ns, r)

closed_by : Bool → Option (List Name × List Token) → Option (List Name × List Token)
closed_by r (Some (ns, us)) = if r && front_placed tk.close_bracket us then Some (ns, tail us) else None
closed_by r None = None

closed_same : (t : Token) (o : Option (List Name × List Token)) → closed_in t o ≡ closed_by (is_right t) o
unfolding closed_by
closed_same t None = refl
closed_same t (Some (ns, [])) = by (is_right t)
  where
    by : (b : Bool) → None ≡ (if b && false then some_read ns [] else None)
    by true = refl
    by false = refl
closed_same t (Some (ns, u ∷ r)) = refl

some_parameters : (ts : List Token) → front_mark tk.open_bracket ts ≡ true → parameters_in ts ≡ closed_by (front_right ts) (names_in (tail ts))
some_parameters [] h = absurd cc
some_parameters (t ∷ ts) h = rw h (closed_same t (names_in ts))

pub no_parameters : (v : Tokens) (from : ℕ) (ns : List Name) → from < length v.items.items → front_mark tk.open_bracket (ahead v from) ≡ false → ns ≡ [] → Some (ns, ahead v from) ≡ parameters_in (ahead v from)
no_parameters v from ns l h e = ap (λ (xs : List Name). Some (xs, ahead v from)) e ∙ by (ahead v from) (some_ahead v from l) h
  where
    by : (ts : List Token) → 0 < length ts → front_mark tk.open_bracket ts ≡ false → Some ([], ts) ≡ parameters_in ts
    by [] l h = absurd (omega (arith, l))
    by (t ∷ ts) l h = rw h refl

module _ (v : Tokens) (from : ℕ) (k : front_mark tk.open_bracket (ahead v from) ≡ true) where
  params_are : (o : Option (List Name × List Token)) → o ≡ names_in (ahead v (from + 1)) → closed_by (front_right (ahead v from)) o ≡ parameters_in (ahead v from)
  params_are o h = ap (closed_by (front_right (ahead v from))) (h ∙ ap names_in (ahead_tail v from)) ∙ sym (some_parameters (ahead v from) k)

  pub params_unnamed : None ≡ names_in (ahead v (from + 1)) → None ≡ parameters_in (ahead v from)
  unfolding closed_by
  params_unnamed h = params_are None h

  pub params_closed : (ns : List Name) (end : ℕ) (b : Bool) → Some (ns, ahead v end) ≡ names_in (ahead v (from + 1)) → b ≡ (front_right (ahead v from) && front_placed tk.close_bracket (ahead v end)) → b ≡ true
      → Some (ns, ahead v (end + 1)) ≡ parameters_in (ahead v from)
  unfolding closed_by
  params_closed ns end b h e t = (λ i. if (sym t ∙ e) i then some_read ns (ahead_tail v end i) else None) ∙ params_are (Some (ns, ahead v end)) h

  pub params_open : (ns : List Name) (end : ℕ) (b : Bool) → Some (ns, ahead v end) ≡ names_in (ahead v (from + 1)) → b ≡ (front_right (ahead v from) && front_placed tk.close_bracket (ahead v end)) → b ≡ false
      → None ≡ parameters_in (ahead v from)
  unfolding closed_by
  params_open ns end b h e t = (λ i. if (sym t ∙ e) i then some_read ns (tail (ahead v end)) else None) ∙ params_are (Some (ns, ahead v end)) h

-- ---- the head of a definition

behind_if : (ns : List Name) (ts : List Token) → behind_sign (Some (ns, ts)) ≡ (if front_placed tk.defines ts then Some (ns, tail ts) else None)
behind_if ns [] = refl
behind_if ns (u ∷ r) = refl

pub head_none : (v : Tokens) (from : ℕ) → None ≡ parameters_in (ahead v from) → None ≡ head_in (ahead v from)
head_none v from h = ap behind_sign h

pub head_some : (v : Tokens) (from at : ℕ) (ns : List Name) (b : Bool) → Some (ns, ahead v at) ≡ parameters_in (ahead v from) → b ≡ front_placed tk.defines (ahead v at) → b ≡ true → Some (ns, ahead v (at + 1)) ≡ head_in (ahead v from)
head_some v from at ns b h e t = (λ i. if (sym t ∙ e) i then some_read ns (ahead_tail v at i) else None) ∙ sym (behind_if ns (ahead v at)) ∙ ap behind_sign h

pub head_unsigned : (v : Tokens) (from at : ℕ) (ns : List Name) (b : Bool) → Some (ns, ahead v at) ≡ parameters_in (ahead v from) → b ≡ front_placed tk.defines (ahead v at) → b ≡ false → None ≡ head_in (ahead v from)
head_unsigned v from at ns b h e t = (λ i. if (sym t ∙ e) i then some_read ns (tail (ahead v at)) else None) ∙ sym (behind_if ns (ahead v at)) ∙ ap behind_sign h
