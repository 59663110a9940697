-- A text with no mark of a comment, that ends with no first byte of one, opens and closes comments only within itself.
use Rattle.std.proofs.Common.{◌≡◌, ℕ, zero, Bool, true, false, ◌&&◌, ◌||◌, nat_eq, List, [], ◌∷◌, ◌++◌, refl, sym, ap, ◌∙◌, codes}
use Rattle.std.specs.List.{starts_with}
use Rattle.std.proofs.lemmas.Bool.{or_parts, both_ways, eqb-true, eq-eqb, ne_eqb}
use Rattle.tla_token.specs.Tokens.{holds_mark, is_pair}
use Rattle.module_tree.specs.laws.Swaps.{is_paired}
use Rattle.printed_text.proofs.WholeText.{is_calm_byte, Ends}

turned : (a b : ℕ) → nat_eq a b ≡ nat_eq b a
turned a b = by (nat_eq a b) refl
  where
    by : (k : Bool) → nat_eq a b ≡ k → nat_eq a b ≡ nat_eq b a
    by true e = e ∙ sym (eq-eqb b a (sym (eqb-true a b e)))
    by false e = e ∙ sym (ne_eqb b a (λ d. both_ways (nat_eq a b) e (eq-eqb a b (sym d))))

no_pair : (x y a b : ℕ) → (nat_eq x a && (nat_eq y b && true)) ≡ false → is_pair x y a b ≡ false
no_pair x y a b h = rw (turned a x, turned b y) (by (nat_eq x a) (nat_eq y b) h)
  where
    by : (p q : Bool) → (p && (q && true)) ≡ false → (p && q) ≡ false
    by true true h = h
    by true false h = refl
    by false q h = refl

two_bytes : (a b : ℕ) (s : List ℕ) → holds_mark (a ∷ b ∷ s) ≡ false → (holds_mark (b ∷ s) ≡ false → is_paired zero (b ∷ s) ≡ true) → is_paired zero (a ∷ b ∷ s) ≡ true
two_bytes a b s h f =
    let p = or_parts (starts_with nat_eq (a ∷ b ∷ s) (codes "(*") || starts_with nat_eq (a ∷ b ∷ s) (codes "*)")) (holds_mark (b ∷ s)) h in
    let q = or_parts (starts_with nat_eq (a ∷ b ∷ s) (codes "(*")) (starts_with nat_eq (a ∷ b ∷ s) (codes "*)")) p.0 in
    let i : is_pair 40 42 a b ≡ false = no_pair 40 42 a b q.0 in
    let j : is_pair 42 41 a b ≡ false = no_pair 42 41 a b q.1 in
    rw (i, j) (f p.1)

paired_with : (w : List ℕ) (c : ℕ) → is_calm_byte c ≡ true → holds_mark (w ++ c ∷ []) ≡ false → is_paired zero (w ++ c ∷ []) ≡ true
paired_with [] c k h = k
paired_with (a ∷ []) c k h = two_bytes a c [] h (λ g. k)
paired_with (a ∷ b ∷ w) c k h = two_bytes a b (w ++ c ∷ []) h (paired_with (b ∷ w) c k)

pub paired_of : (w : List ℕ) → Ends w → holds_mark w ≡ false → is_paired zero w ≡ true
paired_of w e h = ap (is_paired zero) e.is ∙ paired_with e.before e.byte e.calm (ap holds_mark (sym e.is) ∙ h)
