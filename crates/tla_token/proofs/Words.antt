-- Names and numbers that are longest are found at the front of a text.
use Rattle.std.proofs.Common.{◌≡◌, ℕ, suc, ◌+◌, ◌<◌, ◌≤◌, Bool, true, false, nat_eq, nat_le, ◌||◌, ◌&&◌, List, [], ◌∷◌, ◌++◌, length, refl, sym, ap, ◌∙◌, inl, inr, arith, append_assoc}
use Rattle.std.specs.List.{list_all, list_any}
use Rattle.std.proofs.lemmas.Bool.{and_parts, and_from, or_cases, or_left, or_right, eqb-true, leb-true, false_from_ne_true, both_ways}
use Rattle.tla_token.specs.Lexemes.{name, number, is_word, is_letter, is_digit, number_of, IsLongest}
use Rattle.tla_token.specs.Tokens.{lexeme}
use Rattle.tla_token.specs.Offences.{sound}
use Rattle.tla_token.specs.Cut.{run, part_at, lexeme_part}

pub one_plus : (n : ℕ) → 1 + n ≡ suc n
one_plus n = omega arith

-- ---- runs
pub run_over : (p : ℕ → Bool) (m rest : List ℕ) → list_all p m ≡ true → run p (m ++ rest) ≡ m ++ run p rest
run_over p [] rest h = refl
run_over p (b ∷ m) rest h =
    let w = and_parts (p b) (list_all p m) h in
    rw (w.0, one_plus) (ap (λ (bs : List ℕ). b ∷ bs) (run_over p m rest w.1))

pub run_passes : (p : ℕ → Bool) (bs : List ℕ) → list_all p (run p bs) ≡ true
run_passes p [] = refl
run_passes p (b ∷ bs) = by (p b) refl (run_passes p bs)
  where
    by : (k : Bool) → p b ≡ k → list_all p (run p bs) ≡ true → list_all p (run p (b ∷ bs)) ≡ true
    by true e h = rw (e, one_plus) (and_from (p b) (list_all p (run p bs)) e h)
    by false e h = rw e refl

pub run_splits : (p : ℕ → Bool) (bs : List ℕ) → (rest : List ℕ) × (bs ≡ run p bs ++ rest)
run_splits p [] = ([], refl)
run_splits p (b ∷ bs) = by (p b) refl (run_splits p bs)
  where
    by : (k : Bool) → p b ≡ k → ((rest : List ℕ) × (bs ≡ run p bs ++ rest)) → (rest : List ℕ) × (b ∷ bs ≡ run p (b ∷ bs) ++ rest)
    by true e (rest, h) = (rest, rw (e, one_plus) (ap (λ (u : List ℕ). b ∷ u) h))
    by false e h = (b ∷ bs, rw e refl)

pub all_append : (p : ℕ → Bool) (l r : List ℕ) → list_all p l ≡ true → list_all p r ≡ true → list_all p (l ++ r) ≡ true
all_append p [] r h k = k
all_append p (b ∷ l) r h k = (let w = and_parts (p b) (list_all p l) h in and_from (p b) (list_all p (l ++ r)) w.0 (all_append p l r w.1 k))

pub any_append : (q : ℕ → Bool) (l r : List ℕ) → list_any q l ≡ true → list_any q (l ++ r) ≡ true
any_append q [] r h = absurd cc
any_append q (b ∷ l) r h =
    elim (or_cases (q b) (list_any q l) h) [
      | inl e ↦ or_left (q b) (list_any q (l ++ r)) e
      | inr e ↦ or_right (q b) (list_any q (l ++ r)) (any_append q l r e)
    ]

pub no_more : (l r : List ℕ) → length (l ++ r) ≤ length l → l ++ r ≡ l
no_more [] [] h = refl
no_more [] (b ∷ r) h = absurd (omega arith)
no_more (b ∷ l) r h = ap (λ (u : List ℕ). b ∷ u) (no_more l r (omega arith))

-- a longest name is the whole run
name_run : (l rest : List ℕ) → list_all is_word l ≡ true → list_any is_letter l ≡ true → IsLongest l rest → run is_word (l ++ rest) ≡ l
name_run l rest all any longest =
    let r = run is_word rest in
    let s = run_splits is_word rest in
    let whole : l ++ rest ≡ (l ++ r) ++ s.0 = ap (λ (u : List ℕ). l ++ u) s.1 ∙ sym (append_assoc l r s.0) in
    let short : length (l ++ r) ≤ length l = longest (name (l ++ r)) (l ++ r) s.0 (refl, (all_append is_word l r all (run_passes is_word rest), any_append is_letter l r any)) whole in
    run_over is_word l rest all ∙ no_more l r short

-- ---- a word is no blank, no string and no comment
pub word_at : (b k : ℕ) → is_word b ≡ true → is_word k ≡ false → nat_eq b k ≡ false
word_at b k t f = false_from_ne_true (nat_eq b k) (λ e. (let d : b ≡ k = eqb-true b k e in let g : is_word k ≡ true = rw d at t in both_ways (is_word k) f g))

pub at_word : (k b : ℕ) → is_word b ≡ true → is_word k ≡ false → nat_eq k b ≡ false
at_word k b t f = false_from_ne_true (nat_eq k b) (λ e. (let d : k ≡ b = eqb-true k b e in let g : is_word k ≡ true = rw (← d) at t in both_ways (is_word k) f g))

pub word_front : (b : ℕ) (bs : List ℕ) → is_word b ≡ true → part_at b bs ≡ lexeme_part b bs
word_front b bs t = rw (word_at b 32 t refl, word_at b 9 t refl, word_at b 10 t refl, word_at b 13 t refl, word_at b 34 t refl, at_word 40 b t refl, at_word 92 b t refl) refl

pub name_front : (b : ℕ) (l rest : List ℕ) → list_all is_word (b ∷ l) ≡ true → list_any is_letter (b ∷ l) ≡ true → IsLongest (b ∷ l) rest
    → part_at b (l ++ rest) ≡ sound (lexeme (name (b ∷ l)) (b ∷ l))
name_front b l rest all any longest =
    let w = and_parts (is_word b) (list_all is_word l) all in
    word_front b (l ++ rest) w.0 ∙ picked (run is_word (b ∷ (l ++ rest))) (name_run (b ∷ l) rest all any longest)
  where
    picked : (u : List ℕ) → run is_word (b ∷ (l ++ rest)) ≡ b ∷ l → lexeme_part b (l ++ rest) ≡ sound (lexeme (name (b ∷ l)) (b ∷ l))
    picked u e = rw (e, any) refl

-- ---- numbers
pub digit_word : (b : ℕ) → is_digit b ≡ true → is_word b ≡ true
digit_word b h = or_left (is_letter b || is_digit b) (nat_eq b 95) (or_right (is_letter b) (is_digit b) h)

pub digits_words : (l : List ℕ) → list_all is_digit l ≡ true → list_all is_word l ≡ true
digits_words [] h = refl
digits_words (b ∷ l) h = (let w = and_parts (is_digit b) (list_all is_digit l) h in and_from (is_word b) (list_all is_word l) (digit_word b w.0) (digits_words l w.1))

pub digit_letter : (b : ℕ) → is_digit b ≡ true → is_letter b ≡ true → ⊥
digit_letter b h k =
    let d = and_parts (nat_le 48 b) (nat_le b 57) h in
    let high : b ≤ 57 = leb-true b 57 d.1 in
    elim (or_cases (nat_le 97 b && nat_le b 122) (nat_le 65 b && nat_le b 90) k) [
      | inl e ↦ (let x = leb-true 97 b (and_parts (nat_le 97 b) (nat_le b 122) e).0 in omega arith)
      | inr e ↦ (let x = leb-true 65 b (and_parts (nat_le 65 b) (nat_le b 90) e).0 in omega arith)
    ]

pub no_letters : (l : List ℕ) → list_all is_digit l ≡ true → list_any is_letter l ≡ true → ⊥
no_letters [] h k = cc
no_letters (b ∷ l) h k =
    let w = and_parts (is_digit b) (list_all is_digit l) h in
    elim (or_cases (is_letter b) (list_any is_letter l) k) [ inl e ↦ digit_letter b w.0 e | inr e ↦ no_letters l w.1 e ]

some_bytes : (b : ℕ) (l r : List ℕ) → 0 < length ((b ∷ l) ++ r)
some_bytes b l r = omega arith

-- a longest number is the whole run of digits, and no name
number_run : (b : ℕ) (l rest : List ℕ) → list_all is_digit (b ∷ l) ≡ true → IsLongest (b ∷ l) rest → run is_digit ((b ∷ l) ++ rest) ≡ b ∷ l
number_run b l rest all longest =
    let r = run is_digit rest in
    let m = (b ∷ l) ++ r in
    let s = run_splits is_digit rest in
    let whole : (b ∷ l) ++ rest ≡ m ++ s.0 = ap (λ (u : List ℕ). (b ∷ l) ++ u) s.1 ∙ sym (append_assoc (b ∷ l) r s.0) in
    let short : length m ≤ length (b ∷ l) = longest (number (number_of m)) m s.0 (some_bytes b l r, all_append is_digit (b ∷ l) r all (run_passes is_digit rest), refl) whole in
    run_over is_digit (b ∷ l) rest all ∙ no_more (b ∷ l) r short

no_name : (l rest : List ℕ) → list_all is_digit l ≡ true → IsLongest l rest → list_any is_letter (run is_word (l ++ rest)) ≡ false
no_name l rest all longest =
    let r = run is_word rest in
    let words = digits_words l all in
    let over : run is_word (l ++ rest) ≡ l ++ r = run_over is_word l rest words in
    let s = run_splits is_word rest in
    let whole : l ++ rest ≡ (l ++ r) ++ s.0 = ap (λ (u : List ℕ). l ++ u) s.1 ∙ sym (append_assoc l r s.0) in
    false_from_ne_true (list_any is_letter (run is_word (l ++ rest))) (λ k.
    (let any : list_any is_letter (l ++ r) ≡ true = ap (list_any is_letter) (sym over) ∙ k in
    let short : length (l ++ r) ≤ length l = longest (name (l ++ r)) (l ++ r) s.0 (refl, (all_append is_word l r words (run_passes is_word rest), any)) whole in
    no_letters l all (ap (list_any is_letter) (sym (no_more l r short)) ∙ any)))

pub number_front : (b : ℕ) (l rest : List ℕ) → list_all is_digit (b ∷ l) ≡ true → IsLongest (b ∷ l) rest
    → part_at b (l ++ rest) ≡ sound (lexeme (number (number_of (b ∷ l))) (b ∷ l))
number_front b l rest all longest =
    let w = and_parts (is_digit b) (list_all is_digit l) all in
    word_front b (l ++ rest) (digit_word b w.0) ∙ picked w.0 (number_run b l rest all longest) (no_name (b ∷ l) rest all longest)
  where
    picked : is_digit b ≡ true → run is_digit (b ∷ (l ++ rest)) ≡ b ∷ l → list_any is_letter (run is_word (b ∷ (l ++ rest))) ≡ false
        → lexeme_part b (l ++ rest) ≡ sound (lexeme (number (number_of (b ∷ l))) (b ∷ l))
    picked d e none = rw (none, e, d) refl
