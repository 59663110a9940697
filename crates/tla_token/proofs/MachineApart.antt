-- Words, alone or behind a backslash, are cut apart from what comes behind them.
use Rattle.std.proofs.Common.{◌≡◌, ℕ, ◌≤◌, true, false, not, ◌&&◌, nat_eq, List, [], ◌∷◌, ◌++◌, length, drop, map, refl, sym, ap, subst, ◌∙◌, arith, append-nil}
use Rattle.std.specs.List.{list_all}
use Rattle.std.proofs.lemmas.List.{map-append}
use Rattle.std.proofs.lemmas.List.Folds.{list_all-append}
use Rattle.std.proofs.lemmas.Bool.{and_parts, both_ways}
use Rattle.tla_token.specs.Lexemes.{is_word, is_printed}
use Rattle.tla_token.specs.Tokens.{opens_comment}
use Rattle.tla_token.specs.Offences.{Part, part_bytes, parts_text, PartsFit}
use Rattle.tla_token.specs.Cut.{run, parts}
use Rattle.tla_token.specs.Scan.{outline}
use Rattle.tla_token.specs.laws.Machine.{outlines}
use Rattle.tla_token.proofs.Words.{run_over, word_at, at_word}
use Rattle.tla_token.proofs.Spelled.{is_mark}
use Rattle.tla_token.proofs.Signed.{not_true}
use Rattle.tla_token.proofs.Parted.{some_part}
use Rattle.tla_token.proofs.Cutting.{cut_fits}
use Rattle.tla_token.proofs.MachineStays.{Unpassed, begins_quoted, unpassed_fits}
use Rattle.tla_token.proofs.MachineFeeding.{goes_before}

whole_run : (u t : List ℕ) → list_all is_word u ≡ true → run is_word t ≡ [] → length (run is_word (u ++ t)) ≤ length u
whole_run u t all none = (let e = ap length (run_over is_word u t all ∙ ap (λ (r : List ℕ). u ++ r) none ∙ append-nil u) in omega arith)

mark_no_word : (b : ℕ) → is_mark b ≡ true → is_word b ≡ true → ⊥
mark_no_word b m w = (let p = and_parts (is_printed b && not (nat_eq b 34)) (not (is_word b)) m in both_ways (is_word b) (not_true (is_word b) p.1) w)

-- what is asked of bytes so that what comes doesn't change their parts
abbrev pub IsApart : List ℕ → List ℕ → Type 0
IsApart u t = (opens_comment u ≡ false) × (begins_quoted u ≡ false) × Unpassed u t

pub word_apart : (u t : List ℕ) → list_all is_word u ≡ true → run is_word t ≡ [] → IsApart u t
word_apart [] t all none = (refl, refl, tt)
word_apart (b ∷ bs) t all none =
    let w = (and_parts (is_word b) (list_all is_word bs) all).0 in
    let opens : (v : List ℕ) → opens_comment (b ∷ v) ≡ false = λ v. rw (at_word 40 b w refl, at_word 92 b w refl) refl in (
      opens bs,
      word_at b 34 w refl,
      (
        λ o. opens (bs ++ t),
        record {
          word = whole_run (b ∷ bs) t all none;
          back = λ e. absurd (both_ways (nat_eq b 92) (word_at b 92 w refl) e);
          sign = λ m. absurd (mark_no_word b m w);
        },
      ),
    )

pub back_apart : (c : ℕ) (v t : List ℕ) → list_all is_word (c ∷ v) ≡ true → run is_word t ≡ [] → IsApart (92 ∷ c ∷ v) t
back_apart c v t all none =
    let w = (and_parts (is_word c) (list_all is_word v) all).0 in
    let opens : (u : List ℕ) → opens_comment (92 ∷ c ∷ u) ≡ false = λ u. rw (at_word 42 c w refl) refl in
    (opens v, refl, (λ o. opens (v ++ t), record { word = omega arith; back = λ e. whole_run (c ∷ v) t all none; sign = λ m. omega arith }))

pub drop_all : (u : List ℕ) → list_all is_word u ≡ true → list_all is_word (drop 1 u) ≡ true
drop_all [] h = refl
drop_all (b ∷ u) h = (and_parts (is_word b) (list_all is_word u) h).1

tail_all : (m r : List ℕ) → (m ≡ [] → ⊥) → list_all is_word (drop 1 (m ++ r)) ≡ true → list_all is_word r ≡ true
tail_all [] r some h = absurd (some refl)
tail_all (b ∷ m) r some h = (and_parts (list_all is_word m) (list_all is_word r) (sym (list_all-append is_word m r) ∙ h)).1

apart_from : (ps : List Part) (t : List ℕ) → PartsFit ps → IsApart (parts_text ps) t → list_all is_word (drop 1 (parts_text ps)) ≡ true → run is_word t ≡ [] → parts (parts_text ps ++ t) ≡ ps ++ parts t
apart_from [] t h a all none = refl
apart_from (x ∷ ps) t (f, h) (o, q, u) all none =
    let rest = tail_all (part_bytes x) (parts_text ps) (some_part x (parts_text ps) f) all in
    goes_before x (parts_text ps) t (unpassed_fits x (parts_text ps) t f o q u)
    ∙ ap (λ (qs : List Part). x ∷ qs) (apart_from ps t h (word_apart (parts_text ps) t rest none) (drop_all (parts_text ps) rest) none)

-- a word, or a backslash with one, before a byte of no word
pub apart : (u t : List ℕ) → IsApart u t → list_all is_word (drop 1 u) ≡ true → run is_word t ≡ [] → outlines (u ++ t) ≡ outlines u ++ outlines t
apart u t a all none =
    let c = cut_fits u in
    let A : List ℕ → Type 0 = λ v. IsApart v t in
    ap (λ (v : List ℕ). outlines (v ++ t)) (sym c.0)
    ∙ ap (map outline) (apart_from (parts u) t c.1 (subst A (sym c.0) a) (ap (λ (v : List ℕ). list_all is_word (drop 1 v)) c.0 ∙ all) none)
    ∙ map-append outline (parts u) (parts t)
