-- That names are added part by part.
use Rattle.std.proofs.Common.{◌≡◌, ◌⊎◌, inl, inr, Vec, Global, ℕ, zero, suc, ◌+◌, ◌<◌, ◌≤◌, List, [], ◌∷◌, ◌++◌, length, take, get_or, slice_index_or, set, Bool, true, false, ◌&&◌, ◌||◌, bytes_eq, refl, sym, ap, subst, ◌∙◌, arith}
use Rattle.std.specs.List.{flat_map}
use Rattle.std.proofs.lemmas.Bool.{cases_lt}
use Rattle.std.proofs.lemmas.List.{take_all, length-set}
use Rattle.std.proofs.lemmas.List.Folds.{list_any-append}
use Rattle.tla_token.specs.Signs.{is_among}
use Rattle.tla_tree.specs.Tree.{Word, Tree}
use Rattle.tla_tree.specs.Pool.{at}
use Rattle.pcal_tree.proofs.SetLaws.{or_both}
use Rattle.algorithm_limits.specs.DepthsIn.{Hides}
use Rattle.declared_rules.specs.declared.met.Met.{Met}
use Rattle.declared_rules.specs.Met.{binds, bound_by, holds, Adds, expr_words}
use Rattle.written_names.proofs.Steps.{has_is}
use Rattle.declared_rules.proofs.ListLaws.{more_of, item_of}

pub among_both : (xs ys : List Word) (w : Word) → is_among (xs ++ ys) w ≡ (is_among xs w || is_among ys w)
among_both xs ys w = list_any-append (λ v. bytes_eq v w) xs ys

pub or_nothing : (a : Bool) → a ≡ (a || false)
or_nothing true = refl
or_nothing false = refl

pub adds_none : (ts : List Tree) (k : Met) → Adds ts k k []
adds_none ts k = record { many = refl; names = λ w. or_nothing (holds ts k w) }

pub adds_then : (ts : List Tree) (j k l : Met) (xs ys : List Word) → Adds ts j k xs → Adds ts k l ys → Adds ts j l (xs ++ ys)
adds_then ts j k l xs ys g h = record {
  many = h.many ∙ g.many;
  names = λ w.
      h.names w ∙ ap (λ b. b || is_among ys w) (g.names w) ∙ or_both (holds ts j w) (is_among xs w) (is_among ys w)
      ∙ ap (λ b. holds ts j w || b) (sym (among_both xs ys w));
}

pub adds_as : (ts : List Tree) (j k : Met) (xs ys : List Word) → xs ≡ ys → Adds ts j k xs → Adds ts j k ys
adds_as ts j k xs ys e g = subst (λ l. Adds ts j k l) e g

-- ---- one part

pub adds_hidden : (ts : List Tree) (j k : Met) (xs : List Word) → Hides j.names k.names xs → j.marks ≡ k.marks → Adds ts j k xs
adds_hidden ts j k xs h e = record {
  many = ap (λ (v : Vec Bool Global). length v.items) (sym e);
  names = λ w.
      (λ i. among w i || bound_by ts (sym e i).items w)
      ∙ turned (is_among j.names w) (is_among xs w) (bound_by ts j.marks.items w);
}
  where
    among : (w : Word) → is_among k.names w ≡ (is_among j.names w || is_among xs w)
    among w = sym (has_is k.names w) ∙ h.has w ∙ has_is (j.names ++ xs) w ∙ among_both j.names xs w

    turned : (a b c : Bool) → ((a || b) || c) ≡ ((a || c) || b)
    turned true b c = refl
    turned false true true = refl
    turned false true false = refl
    turned false false true = refl
    turned false false false = refl

bound_marked : (ts : List Tree) (ms : List Bool) (e : ℕ) (w : Word) → e < length ms → bound_by ts (set ms e true) w ≡ (bound_by ts ms w || binds (at ts e) w)
bound_marked [] ms e w l = refl
bound_marked (t ∷ ts) [] e w l = absurd (omega (arith, l))
bound_marked (t ∷ ts) (m ∷ ms) zero w l = by m (binds t w) (bound_by ts ms w)
  where
    by : (m b c : Bool) → ((true && b) || c) ≡ (((m && b) || c) || b)
    by true true c = refl
    by true false true = refl
    by true false false = refl
    by false true true = refl
    by false true false = refl
    by false false true = refl
    by false false false = refl
bound_marked (t ∷ ts) (m ∷ ms) (suc e) w l =
    ap (λ b. (m && binds t w) || b) (bound_marked ts ms e w (omega (arith, l))) ∙ sym (or_both (m && binds t w) (bound_by ts ms w) (binds (at ts e) w))

pub adds_marked : (ts : List Tree) (j k : Met) (e : ℕ) → e < length j.marks.items → k.names ≡ j.names → k.marks.items ≡ set j.marks.items e true → Adds ts j k (expr_words ts e)
adds_marked ts j k e l n m = record {
  many = ap (λ (bs : List Bool). length bs) m ∙ length-set j.marks.items e true;
  names = λ w.
      (λ i. is_among (n i) w || bound_by ts (m i) w)
      ∙ ap (λ b. is_among j.names w || b) (bound_marked ts j.marks.items e w l)
      ∙ sym (or_both (is_among j.names w) (bound_by ts j.marks.items w) (binds (at ts e) w));
}

-- a number past the pool is an expression without names
past_pool : (ts : List Tree) (e : ℕ) → length ts ≤ e → expr_words ts e ≡ []
past_pool [] e l = refl
past_pool (t ∷ ts) zero l = absurd (omega (arith, l))
past_pool (t ∷ ts) (suc e) l = past_pool ts e (omega (arith, l))

-- where the pool has no more than there are marks
pub marked_within : (ts : List Tree) (j k : Met) (e : ℕ) → (e < length j.marks.items → (us : List Tree) → Adds us j k (expr_words us e)) → (length j.marks.items ≤ e → k ≡ j) → length ts ≤ length j.marks.items → Adds ts j k (expr_words ts e)
marked_within ts j k e g p less = by (cases_lt e (length j.marks.items))
  where
    by : (e < length j.marks.items) ⊎ (length j.marks.items ≤ e) → Adds ts j k (expr_words ts e)
    by (inl h) = g h ts
    by (inr h) = subst (λ (z : Met). Adds ts j z (expr_words ts e)) (sym (p h)) (adds_as ts j j _ _ (sym (past_pool ts e (omega (arith, h, less)))) (adds_none ts j))

-- as many marks, whether there is one for the number or not
pub many_marked : (j k : Met) (e : ℕ) → (e < length j.marks.items → (us : List Tree) → Adds us j k (expr_words us e)) → (length j.marks.items ≤ e → k ≡ j) → length k.marks.items ≡ length j.marks.items
many_marked j k e g p = by (cases_lt e (length j.marks.items))
  where
    by : (e < length j.marks.items) ⊎ (length j.marks.items ≤ e) → length k.marks.items ≡ length j.marks.items
    by (inl h) = (g h []).many
    by (inr h) = ap (λ (z : Met). length z.marks.items) (p h)

-- ---- one more in a loop

module _ (ts : List Tree) {A : Type 0} (f : A → List Word) (xs : List A) where
  pub adds_more : (j k l : Met) (i : ℕ) (x : A) → x ≡ get_or xs i x → i < length xs → Adds ts j k (flat_map f (take i xs)) → Adds ts k l (f x) → Adds ts j l (flat_map f (take (i + 1) xs))
  adds_more j k l i x e less g h = adds_as ts j l _ _ (more_of f xs i x e less) (adds_then ts j k l (flat_map f (take i xs)) (f x) g h)

  pub adds_all : (j k : Met) (i : ℕ) → length xs ≤ i → Adds ts j k (flat_map f (take i xs)) → Adds ts j k (flat_map f xs)
  adds_all j k i less g = adds_as ts j k _ _ (ap (flat_map f) (take_all i xs less)) g

  pub adds_item : (j k l : Met) (i : ℕ) (d : A) → i < length xs → Adds ts j k (flat_map f (take i xs)) → Adds ts k l (f (slice_index_or xs i d)) → Adds ts j l (flat_map f (take (i + 1) xs))
  adds_item j k l i d less g h = adds_as ts j l _ _ (item_of f xs i d less) (adds_then ts j k l (flat_map f (take i xs)) (f (slice_index_or xs i d)) g h)
