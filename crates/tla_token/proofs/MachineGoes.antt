-- A byte more, where a word, a comment, a string or a sign is open.
use Rattle.std.proofs.Common.{◌≡◌, ℕ, suc, Bool, true, false, ◌&&◌, nat_eq, List, [], ◌∷◌, ◌++◌, length, Option, Some, None, if◌then◌else◌, refl, sym, ap, ◌∙◌, inl, inr, arith, codes, length-append}
use Rattle.std.specs.List.{list_all, list_any}
use Rattle.std.proofs.lemmas.Bool.{and_parts, and_from, or_cases, or_left, or_right, eqb-true, eq-eqb, false_from_ne_true, both_ways}
use Rattle.tla_token.specs.declared.part.Class.TheVariants as class
use Rattle.tla_token.specs.Lexemes.{name, is_word, is_letter}
use Rattle.tla_token.specs.Tokens.{lexeme, is_pair, opens_comment}
use Rattle.tla_token.specs.Offences.{sound}
use Rattle.tla_token.specs.Cut.{run, plus, comment_len}
use Rattle.tla_token.specs.laws.Machine.{outlines, mark, wordless, word, back, block as comment, line as rest_of_line, only, marks, Step, on, given, one_part, begun, behind, next}
use Rattle.tla_token.proofs.Words.{all_append, any_append}
use Rattle.tla_token.proofs.Spelled.{begins}
use Rattle.tla_token.proofs.Before.{word_before}
use Rattle.tla_token.proofs.MachineApart.{apart, word_apart, back_apart, drop_all}
use Rattle.tla_token.proofs.MachineStands.{Holds, Blocks, Lines, Goes, waits, first_off, letter_word, then_begun}

pub choice : (w : List ℕ) (c : Bool) (x y : Step) → (c ≡ true → Goes w x) → (c ≡ false → Goes w y) → Goes w (if c then x else y)
choice w true x y f g = f refl
choice w false x y f g = g refl

-- ---- words

none_here : (b : ℕ) (t : List ℕ) → is_word b ≡ false → run is_word (b ∷ t) ≡ []
none_here b t k = rw k refl

any_last : (w : List ℕ) (b : ℕ) → is_letter b ≡ true → list_any is_letter (w ++ b ∷ []) ≡ true
any_last [] b h = or_left (is_letter b) false h
any_last (c ∷ w) b h = or_right (is_letter c) (list_any is_letter (w ++ b ∷ [])) (any_last w b h)

all_last : (w : List ℕ) (b : ℕ) → list_all is_word w ≡ true → is_word b ≡ true → list_all is_word (w ++ b ∷ []) ≡ true
all_last w b h k = all_append is_word w (b ∷ []) h (and_from (is_word b) true k refl)

pub last_len : (w : List ℕ) (b : ℕ) → suc (length w) ≡ length (w ++ b ∷ [])
last_len w b = omega (arith, length-append w (b ∷ []))

pub wordless_goes : (v : List ℕ) (b : ℕ) → list_all is_word v ≡ true → Goes (v ++ b ∷ []) (next (wordless v) b)
wordless_goes v b all =
    choice (v ++ b ∷ []) (is_letter b) (on (word (suc (length v)))) (if is_word b then on (wordless (v ++ b ∷ [])) else given (outlines v) (begun b))
    (λ j. waits (v ++ b ∷ []) (only (word (suc (length v)))) (last_len v b, all_last v b all (letter_word b j), any_last v b j)) (λ j.
    choice (v ++ b ∷ []) (is_word b) (on (wordless (v ++ b ∷ []))) (given (outlines v) (begun b))
    (λ k. waits (v ++ b ∷ []) (only (wordless (v ++ b ∷ []))) (refl, all_last v b all k))
    (λ k. then_begun v b (outlines v) (λ t. apart v (b ∷ t) (word_apart v (b ∷ t) all (none_here b t k)) (drop_all v all) (none_here b t k))))

name_off : (w : List ℕ) (b : ℕ) (t : List ℕ) → list_all is_word w ≡ true → list_any is_letter w ≡ true → is_word b ≡ false → outlines (w ++ b ∷ t) ≡ one_part class.Name (length w) ++ outlines (b ∷ t)
name_off [] b t all any k = absurd cc
name_off (c ∷ l) b t all any k =
    let a = word_apart (c ∷ l) (b ∷ t) all (none_here b t k) in
    first_off (sound (lexeme (name (c ∷ l)) (c ∷ l))) (b ∷ t) (a.2.0 a.0, (refl, (all, any)), word_before c l (b ∷ t) all (none_here b t k))

pub word_goes : (n : ℕ) (w : List ℕ) (b : ℕ) → Holds (word n) w → Goes (w ++ b ∷ []) (next (word n) b)
word_goes n w b (size, all, any) =
    choice (w ++ b ∷ []) (is_word b) (on (word (suc n))) (given (one_part class.Name n) (begun b))
    (λ k. waits (w ++ b ∷ []) (only (word (suc n))) (ap suc size ∙ last_len w b, all_last w b all k, any_append is_letter w (b ∷ []) any))
    (λ k. then_begun w b (one_part class.Name n) (λ t. name_off w b t all any k ∙ ap (λ (m : ℕ). one_part class.Name m ++ outlines (b ∷ t)) (sym size)))

-- ---- signs and openers of comments

pair_at : (x y a b : ℕ) → begins (a ∷ b ∷ []) (x ∷ y ∷ []) ≡ true → is_pair x y a b ≡ true
pair_at x y a b h =
    let p = and_parts (nat_eq x a) (nat_eq y b && true) h in
    let q = and_parts (nat_eq y b) true p.1 in
    and_from (nat_eq a x) (nat_eq b y) (eq-eqb a x (sym (eqb-true x a p.0))) (eq-eqb b y (sym (eqb-true y b q.0)))

no_opener : (a b : ℕ) → is_pair 40 42 a b ≡ false → is_pair 92 42 a b ≡ false → opens_comment (a ∷ b ∷ []) ≡ false
no_opener a b f g =
    false_from_ne_true (opens_comment (a ∷ b ∷ [])) (λ t.
    elim (or_cases (begins (a ∷ b ∷ []) (codes "(*")) (begins (a ∷ b ∷ []) (codes "\\*")) t) [
      | inl e ↦ both_ways (is_pair 40 42 a b) f (pair_at 40 42 a b e)
      | inr e ↦ both_ways (is_pair 92 42 a b) g (pair_at 92 42 a b e)
    ])

pair_is : (x y a b : ℕ) → is_pair x y a b ≡ true → a ∷ b ∷ [] ≡ x ∷ y ∷ []
pair_is x y a b h =
    let p = and_parts (nat_eq a x) (nat_eq b y) h in
    (λ i. eqb-true a x p.0 i ∷ eqb-true b y p.1 i ∷ [])

pub plus_none : (o : Option ℕ) → o ≡ plus 0 o
plus_none None = refl
plus_none (Some k) = ap Some (omega arith)

opened : (a b : ℕ) → is_pair 40 42 a b ≡ true → Blocks 2 0 None (a ∷ b ∷ [])
opened a b k = record { body = []; is = pair_is 40 42 a b k; size = refl; done = 0; split = refl; len = λ t. plus_none (comment_len 1 t) }

pub mark_goes : (a b : ℕ) → nat_eq a 34 ≡ false → is_word a ≡ false → nat_eq a 92 ≡ false → Goes (a ∷ b ∷ []) (next (mark a) b)
mark_goes a b quote w slash =
    choice (a ∷ b ∷ []) (is_pair 40 42 a b) (on (comment 2 0 None)) ([], marks a b)
    (λ k. waits (a ∷ b ∷ []) (only (comment 2 0 None)) (opened a b k))
    (λ k. waits (a ∷ b ∷ []) (marks a b) (refl, quote, no_opener a b k no_line, λ c. rw (w, slash) refl))
  where
    no_line : is_pair 92 42 a b ≡ false
    no_line = rw slash refl

-- ---- behind a backslash

line_begins : (b : ℕ) → nat_eq b 42 ≡ true → Lines 2 (92 ∷ b ∷ [])
line_begins b k = record { body = []; is = ap (λ (c : ℕ). 92 ∷ c ∷ []) (eqb-true b 42 k); size = refl; all = refl }

behind_goes : (v : List ℕ) (b : ℕ) → list_all is_word v ≡ true → is_word b ≡ false → Goes ((92 ∷ v) ++ b ∷ []) (behind v b)
behind_goes [] b all k =
    choice (92 ∷ b ∷ []) (nat_eq b 42) (on (rest_of_line 2)) ([], marks 92 b)
    (λ j. waits (92 ∷ b ∷ []) (only (rest_of_line 2)) (line_begins b j))
    (λ j. waits (92 ∷ b ∷ []) (marks 92 b) (refl, refl, no_opener 92 b refl j, λ c. rw k refl))
behind_goes (c ∷ v) b all k =
    then_begun (92 ∷ c ∷ v) b (outlines (92 ∷ c ∷ v)) (λ t. apart (92 ∷ c ∷ v) (b ∷ t) (back_apart c v (b ∷ t) all (none_here b t k)) all (none_here b t k))

pub back_goes : (v : List ℕ) (b : ℕ) → list_all is_word v ≡ true → Goes ((92 ∷ v) ++ b ∷ []) (next (back v) b)
back_goes v b all =
    choice ((92 ∷ v) ++ b ∷ []) (is_word b) (on (back (v ++ b ∷ []))) (behind v b)
    (λ k. waits ((92 ∷ v) ++ b ∷ []) (only (back (v ++ b ∷ []))) (refl, all_last v b all k))
    (behind_goes v b all)
