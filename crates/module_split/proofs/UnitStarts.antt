-- Which tokens begin a unit, by their words.
use Rattle.std.proofs.Common.{◌≡◌, ℕ, Bool, true, false, not, ◌&&◌, ◌||◌, nat_eq, List, [], ◌∷◌, map, drop, Some, refl, sym, ap, ◌∙◌, codes}
use Rattle.std.specs.Option.{unwrap_or}
use Rattle.std.specs.Str.{bytes_eq}
use Rattle.std.specs.List.{list_all}
use Rattle.std.proofs.lemmas.Bool.{and_parts, eqb-true, not-true, eq-eqb}
use Rattle.std.proofs.lemmas.Option.{same_Some}
use Rattle.tla_token.specs.declared.place.Place.{Place}
use Rattle.tla_token.specs.declared.sign.Sign.{Sign}
use Rattle.tla_token.specs.declared.sign.Sign.TheVariants as sign
use Rattle.tla_token.specs.declared.part.Class.{Class}
use Rattle.tla_token.specs.declared.part.Class.TheVariants as class
use Rattle.tla_token.specs.Signs.{is_among}
use Rattle.tla_token.specs.Words.{is_pluscal_word, is_tla_word}
use Rattle.tla_token.specs.Lexemes.{Kind, name, number, string, one, other, number_of, unquoted}
use Rattle.tla_token.specs.Scan.{part_of, inner}
use Rattle.tla_token.proofs.Spelled.{same_bytes}
use Rattle.tla_token.proofs.Fronts.{other_byte}
use Rattle.tla_tree.specs.Tree.{Word}
use Rattle.tla_tree.specs.Lexical.{TokenView}
use Rattle.tla_tree.specs.Lexical as tk
use Rattle.tla_tree.specs.TokenViews.{kind_of, sign_kind, word_kind, word_kinds, kind_among}
use Rattle.module_tree.specs.Beginnings.{is_rule}
use Rattle.module_tree.specs.ModuleParts.{kind_in}
use Rattle.module_tree.specs.FileUnits.{unit_words, is_starter, is_bar}

among_starts : (ps : List (Word × TokenView)) (w : Word) (k : TokenView) → list_all (λ p. not (is_starter p.1)) ps ≡ true → is_starter (kind_among ps w k) ≡ (not (is_among (map (λ p. p.0) ps) w) && is_starter k)
among_starts [] w k h = refl
among_starts (p ∷ ps) w k h = by (bytes_eq p.0 w) refl (among_starts ps w k)
  where
    parts : (not (is_starter p.1) ≡ true) × (list_all (λ p. not (is_starter p.1)) ps ≡ true)
    parts = and_parts (not (is_starter p.1)) (list_all (λ p. not (is_starter p.1)) ps) h

    by : (b : Bool) → bytes_eq p.0 w ≡ b → (list_all (λ p. not (is_starter p.1)) ps ≡ true → is_starter (kind_among ps w k) ≡ (not (is_among (map (λ p. p.0) ps) w) && is_starter k)) → is_starter (kind_among (p ∷ ps) w k) ≡ (not (is_among (map (λ p. p.0) (p ∷ ps)) w) && is_starter k)
    by true b deeper = rw b (not-true (is_starter p.1) parts.0)
    by false b deeper = rw b (deeper parts.1)

pub starter_is : (w : Word) → (is_pluscal_word w || (not (is_among (map (λ p. p.0) word_kinds) w) && (not (is_tla_word w) || is_among unit_words w))) ≡ is_starter (word_kind w)
starter_is w = by (is_pluscal_word w) refl (is_tla_word w) refl
  where
    names : List Word
    names = map (λ p. p.0) word_kinds

    by : (a : Bool) → is_pluscal_word w ≡ a → (b : Bool) → is_tla_word w ≡ b → (is_pluscal_word w || (not (is_among (map (λ p. p.0) word_kinds) w) && (not (is_tla_word w) || is_among unit_words w))) ≡ is_starter (word_kind w)
    by true a b e = rw a refl
    by false a true b = rw (a, b) (sym (among_starts word_kinds w (tk.other w) refl))
    by false a false b = rw (a, b) (sym (among_starts word_kinds w (tk.word w) refl))

-- by four tests
by_tests : (a b c d e : Bool) → (a || (not b && (not c || d))) ≡ e → (a ≡ true → true ≡ e) × (a ≡ false → b ≡ true → false ≡ e) × (a ≡ false → b ≡ false → c ≡ false → true ≡ e) × (a ≡ false → b ≡ false → c ≡ true → d ≡ e)
by_tests a b c d e h = (
  (λ p. ap (λ (x : Bool). x || (not b && (not c || d))) (sym p) ∙ h),
  (λ p q. (λ i. sym p i || (not (sym q i) && (not c || d))) ∙ h),
  (λ p q r. (λ i. sym p i || (not (sym q i) && (not (sym r i) || d))) ∙ h),
  (λ p q r. (λ i. sym p i || (not (sym q i) && (not (sym r i) || d))) ∙ h),
)

tests : (w : Word) → (is_pluscal_word w ≡ true → true ≡ is_starter (word_kind w)) × (is_pluscal_word w ≡ false → is_among (map (λ p. p.0) word_kinds) w ≡ true → false ≡ is_starter (word_kind w))
    × (is_pluscal_word w ≡ false → is_among (map (λ p. p.0) word_kinds) w ≡ false → is_tla_word w ≡ false → true ≡ is_starter (word_kind w))
    × (is_pluscal_word w ≡ false → is_among (map (λ p. p.0) word_kinds) w ≡ false → is_tla_word w ≡ true → is_among unit_words w ≡ is_starter (word_kind w))
tests w = by_tests (is_pluscal_word w) (is_among (map (λ p. p.0) word_kinds) w) (is_tla_word w) (is_among unit_words w) (is_starter (word_kind w)) (starter_is w)

pub starts_pluscal : (w : Word) → is_pluscal_word w ≡ true → true ≡ is_starter (word_kind w)
starts_pluscal w = (tests w).0

pub starts_expression : (w : Word) → is_pluscal_word w ≡ false → is_among (map (λ p. p.0) word_kinds) w ≡ true → false ≡ is_starter (word_kind w)
starts_expression w = (tests w).1

pub starts_name : (w : Word) → is_pluscal_word w ≡ false → is_among (map (λ p. p.0) word_kinds) w ≡ false → is_tla_word w ≡ false → true ≡ is_starter (word_kind w)
starts_name w = (tests w).2

pub starts_unit : (w : Word) → is_pluscal_word w ≡ false → is_among (map (λ p. p.0) word_kinds) w ≡ false → is_tla_word w ≡ true → is_among unit_words w ≡ is_starter (word_kind w)
starts_unit w = (tests w).3

-- ---- bars

among_bars : (ps : List (Word × TokenView)) (w : Word) (k : TokenView) → list_all (λ p. not (is_bar p.1)) ps ≡ true → is_bar k ≡ false → is_bar (kind_among ps w k) ≡ false
among_bars [] w k h n = n
among_bars (p ∷ ps) w k h n = by (bytes_eq p.0 w) refl (among_bars ps w k)
  where
    parts : (not (is_bar p.1) ≡ true) × (list_all (λ p. not (is_bar p.1)) ps ≡ true)
    parts = and_parts (not (is_bar p.1)) (list_all (λ p. not (is_bar p.1)) ps) h

    by : (b : Bool) → bytes_eq p.0 w ≡ b → (list_all (λ p. not (is_bar p.1)) ps ≡ true → is_bar k ≡ false → is_bar (kind_among ps w k) ≡ false) → is_bar (kind_among (p ∷ ps) w k) ≡ false
    by true b deeper = rw b (not-true (is_bar p.1) parts.0)
    by false b deeper = rw b (deeper parts.1 n)

no_bar : (w : Word) → is_bar (word_kind w) ≡ false
no_bar [] = refl
no_bar (c ∷ w) = by (nat_eq 45 c) refl
  where
    word_bar : (v : Word) → is_rule v ≡ false → is_bar (word_kind v) ≡ false
    word_bar v n = on (is_pluscal_word v) refl (is_tla_word v) refl
      where
        on : (a : Bool) → is_pluscal_word v ≡ a → (b : Bool) → is_tla_word v ≡ b → is_bar (word_kind v) ≡ false
        on true a b e = rw a refl
        on false a true b = rw (a, b) (among_bars word_kinds v (tk.other v) refl n)
        on false a false b = rw (a, b) (among_bars word_kinds v (tk.word v) refl refl)

    by : (b : Bool) → nat_eq 45 c ≡ b → is_bar (word_kind (c ∷ w)) ≡ false
    by true b = (let e : c ≡ 45 = sym (eqb-true 45 c b) in ap (λ (d : ℕ). is_bar (word_kind (d ∷ w))) e)
    by false b = word_bar (c ∷ w) (rw b refl)

-- ---- tokens

or_false : (b : Bool) → b ≡ (b || false)
or_false true = refl
or_false false = refl

and_no : (a : Bool) → (a && false) ≡ false
and_no true = refl
and_no false = refl

name_begins : (p : Place) (w : Word) (k : Kind) (b : Bool) → Some (name w) ≡ Some k → b ≡ (nat_eq p.col 1 && is_starter (word_kind w)) → b ≡ ((nat_eq p.col 1 && is_starter (kind_of k)) || is_bar (kind_of k))
name_begins p w k b e h =
    let same : name w ≡ k = same_Some (name w) k e in
    h ∙ or_false (nat_eq p.col 1 && is_starter (word_kind w))
    ∙ ap (λ (c : Bool). (nat_eq p.col 1 && is_starter (word_kind w)) || c) (sym (no_bar w))
    ∙ ap (λ (k : Kind). (nat_eq p.col 1 && is_starter (kind_of k)) || is_bar (kind_of k)) same

sign_begins : (p : Place) (w : Word) (k : Kind) (b : Bool) → Some (other w) ≡ Some k → b ≡ ((nat_eq p.col 1 && is_among unit_words w) || is_rule w) → b ≡ ((nat_eq p.col 1 && is_starter (kind_of k)) || is_bar (kind_of k))
sign_begins p w k b e h =
    let same : other w ≡ k = same_Some (other w) k e in
    h ∙ by (bytes_eq w (codes "'")) refl ∙ ap (λ (k : Kind). (nat_eq p.col 1 && is_starter (kind_of k)) || is_bar (kind_of k)) same
  where
    by : (c : Bool) → bytes_eq w (codes "'") ≡ c → ((nat_eq p.col 1 && is_among unit_words w) || is_rule w) ≡ ((nat_eq p.col 1 && is_starter (kind_of (other w))) || is_bar (kind_of (other w)))
    by false c = rw c refl
    by true c =
        let q : w ≡ codes "'" = same_bytes w (codes "'") c in
        rw c (ap (λ (v : Word). (nat_eq p.col 1 && is_among unit_words v) || is_rule v) q)

sign_plain : (s : Sign) → (is_starter (sign_kind s) ≡ false) × (is_bar (sign_kind s) ≡ false)
sign_plain sign.MapsTo = (refl, refl)
sign_plain s = (refl, refl)

-- neither a word nor a sign that is left out
pub none_begins : (p : Place) (c : Class) (bytes : Word) (k : Kind) → (c ≡ class.Name → ⊥) → (c ≡ class.Other → ⊥) → kind_in (part_of c bytes) ≡ Some k → false ≡ ((nat_eq p.col 1 && is_starter (kind_of k)) || is_bar (kind_of k))
none_begins p c bytes k m n e = by c m n e
  where
    goes : (k l : Kind) → is_starter (kind_of l) ≡ false → is_bar (kind_of l) ≡ false → Some l ≡ Some k → false ≡ ((nat_eq p.col 1 && is_starter (kind_of k)) || is_bar (kind_of k))
    goes k l s b e =
        sym (rw (s, b) (sym (or_false (nat_eq p.col 1 && false)) ∙ and_no (nat_eq p.col 1)))
        ∙ ap (λ (k : Kind). (nat_eq p.col 1 && is_starter (kind_of k)) || is_bar (kind_of k)) (same_Some l k e)

    by : (c : Class) → (c ≡ class.Name → ⊥) → (c ≡ class.Other → ⊥) → kind_in (part_of c bytes) ≡ Some k → false ≡ ((nat_eq p.col 1 && is_starter (kind_of k)) || is_bar (kind_of k))
    by class.Name m n e = absurd (m refl)
    by class.Other m n e = absurd (n refl)
    by class.Blank m n e = absurd cc
    by class.Block m n e = absurd cc
    by class.Line m n e = absurd cc
    by class.Stray m n e = absurd cc
    by class.OpenBlock m n e = absurd cc
    by class.Number m n e = goes k (number (number_of bytes)) refl refl e
    by class.Text m n e = goes k (string (unwrap_or (unquoted (inner bytes)) [])) refl refl e
    by (class.Sign s) m n e = (let p = sign_plain s in goes k (one s) p.0 p.1 e)
    by class.BadText m n e = goes k (string (inner bytes)) refl refl e
    by class.OpenText m n e = goes k (string (drop 1 bytes)) refl refl e

-- ---- as code finds it

abbrev begins : Place → Kind → Bool
begins p k = (nat_eq p.col 1 && is_starter (kind_of k)) || is_bar (kind_of k)

of_name : (c : Class) (w : Word) (k : Kind) → c ≡ class.Name → kind_in (part_of c w) ≡ Some k → Some (name w) ≡ Some k
of_name c w k e h = ap (λ (c : Class). kind_in (part_of c w)) (sym e) ∙ h

of_sign : (c : Class) (w : Word) (k : Kind) → c ≡ class.Other → kind_in (part_of c w) ≡ Some k → Some (other w) ≡ Some k
of_sign c w k e h = ap (λ (c : Class). kind_in (part_of c w)) (sym e) ∙ h

pub name_first : (p : Place) (c : Class) (w : Word) (k : Kind) (b : Bool) → c ≡ class.Name → kind_in (part_of c w) ≡ Some k → p.col ≡ 1 → b ≡ is_starter (word_kind w) → b ≡ ((nat_eq p.col 1 && is_starter (kind_of k)) || is_bar (kind_of k))
name_first p c w k b e h f g = (let t : nat_eq p.col 1 ≡ true = eq-eqb p.col 1 f in name_begins p w k b (of_name c w k e h) (g ∙ ap (λ (x : Bool). x && is_starter (word_kind w)) (sym t)))

pub name_away : (p : Place) (c : Class) (w : Word) (k : Kind) → c ≡ class.Name → kind_in (part_of c w) ≡ Some k → (p.col ≡ 1 → ⊥) → false ≡ ((nat_eq p.col 1 && is_starter (kind_of k)) || is_bar (kind_of k))
name_away p c w k e h f = (let t : nat_eq p.col 1 ≡ false = other_byte p.col 1 f in name_begins p w k false (of_name c w k e h) (ap (λ (x : Bool). x && is_starter (word_kind w)) (sym t)))

pub sign_here : (p : Place) (c : Class) (w : Word) (k : Kind) (b : Bool) → c ≡ class.Other → kind_in (part_of c w) ≡ Some k → b ≡ ((nat_eq p.col 1 && is_among unit_words w) || is_rule w) → b ≡ ((nat_eq p.col 1 && is_starter (kind_of k)) || is_bar (kind_of k))
sign_here p c w k b e h g = sign_begins p w k b (of_sign c w k e h) g
