-- The first part of a module's text, by the tests that code makes.
use Rattle.std.proofs.Common.{◌≡◌, ℕ, Bool, true, false, nat_eq, List, [], ◌∷◌, take, drop, Some, None, codes, refl, sym, ap, subst, ◌∙◌, arith}
use Rattle.tla_token.specs.Lexemes.{is_blank}
use Rattle.tla_token.specs.Offences.{Part, part_bytes}
use Rattle.tla_token.specs.Cut.{part_at, lexeme_part}
use Rattle.tla_token.specs.Scan.{part_class, part_of, outline, front_by, front, lexeme_front, IsWordless}
use Rattle.tla_token.proofs.Signed.{to_lexeme}
use Rattle.tla_token.proofs.Found.{found}
use Rattle.module_tree.specs.TextFront.{Text, begins}
use Rattle.module_tree.specs.Beginnings.{is_rule, begins_bar}
use Rattle.module_tree.specs.ModuleParts.{barred, module_part}
use Rattle.module_tree.proofs.WalkWhole.{alone}

-- ---- bars

lexeme_is : (b : ℕ) (s : Text) → lexeme_front (b ∷ s) ≡ Some (outline (lexeme_part b s))
unfolding lexeme_front
lexeme_is b s = refl

lexeme_none : lexeme_front [] ≡ None
unfolding lexeme_front
lexeme_none = refl

pub byte_front : (t : Text) → is_rule t ≡ false → begins_bar (drop 1 t) ≡ true → lexeme_front (take 1 t) ≡ front_by barred t
byte_front [] k m = absurd cc
byte_front (b ∷ s) k m = lexeme_is b [] ∙ by k m
  where
    by : is_rule (b ∷ s) ≡ false → begins_bar s ≡ true → Some (outline (lexeme_part b [])) ≡ front_by barred (b ∷ s)
    by k m = rw (k, m) refl

pub unbarred_front : (t : Text) → is_rule t ≡ false → begins_bar (drop 1 t) ≡ false → lexeme_front t ≡ front_by barred t
unbarred_front [] k m = lexeme_none
unbarred_front (b ∷ s) k m = lexeme_is b s ∙ by k m
  where
    by : is_rule (b ∷ s) ≡ false → begins_bar s ≡ false → Some (outline (lexeme_part b s)) ≡ front_by barred (b ∷ s)
    by k m = rw (k, m) refl

pub none_known : (t : Text) → IsWordless 0 t
none_known t = (omega arith, λ l. absurd (omega arith))

-- ---- parts by their outlines

-- a part is made up by its class and its bytes
abbrev pub IsMade : Part → Type 0
IsMade p = part_of (part_class p) (part_bytes p) ≡ p

front_is : (b : ℕ) (s : Text) → Some (outline (part_at b s)) ≡ front (b ∷ s)
unfolding front
front_is b s = refl

first_same : (p q : Part) (ps qs : List Part) → p ∷ ps ≡ q ∷ qs → p ≡ q
first_same p q ps qs e = cc

part_made : (b : ℕ) (s : Text) → IsMade (part_at b s)
part_made b s =
    let f = found (b ∷ s) (outline (part_at b s)) (front_is b s) in
    let same : part_at b s ≡ f.part = first_same (part_at b s) f.part _ _ f.cut in
    ap (part_of (part_class (part_at b s))) (ap part_bytes same ∙ f.bytes) ∙ f.is ∙ sym same

pub module_made : (b : ℕ) (s : Text) → IsMade (module_part b s)
module_made b s = by (is_blank b) refl (nat_eq b 34) refl (begins (b ∷ s) (codes "(*")) refl (begins (b ∷ s) (codes "\\*")) refl (is_rule (b ∷ s)) refl (begins_bar s) refl
  where
    as_at : part_at b s ≡ module_part b s → IsMade (module_part b s)
    as_at e = subst IsMade e (part_made b s)

    by : (i : Bool) → is_blank b ≡ i → (j : Bool) → nat_eq b 34 ≡ j → (k : Bool) → begins (b ∷ s) (codes "(*") ≡ k → (l : Bool) → begins (b ∷ s) (codes "\\*") ≡ l
        → (m : Bool) → is_rule (b ∷ s) ≡ m → (n : Bool) → begins_bar s ≡ n → IsMade (module_part b s)
    by true i j jj k kk l ll m mm n nn = as_at (rw i refl)
    by false i true j k kk l ll m mm n nn = as_at (rw (i, j) refl)
    by false i false j true k l ll m mm n nn = as_at (rw (i, j, k) refl)
    by false i false j false k true l m mm n nn = as_at (rw (i, j, k, l) refl)
    by false i false j false k false l true m n nn = rw (i, j, k, l, m) refl
    by false i false j false k false l false m true n =
        let single : IsMade (lexeme_part b []) = subst IsMade (to_lexeme b [] i j (alone b)) (part_made b []) in
        rw (i, j, k, l, m, n) single
    by false i false j false k false l false m false n = as_at (rw (i, j, k, l, m, n) refl)
