-- A name with a number after it is no reserved, own or standard name: none of these ends with a digit.
use Rattle.std.proofs.Common.{◌≡◌, ℕ, ◌+◌, ◌<◌, ◌≤◌, ◌^◌, length, drop, get_or, List, [], ◌∷◌, ◌++◌, Bool, true, false, ◌||◌, not, cond, bytes_eq, codes, refl, sym, ◌∙◌, ap, subst, decimal, arith}
use Rattle.std.specs.List.{list_all, AllByRecursion}
use Rattle.std.specs.Str.Parse.{AllDigits, IsNumeral}
use Rattle.std.proofs.lemmas.Slice.Eq.{bytes_eq-Decides}
use Rattle.std.proofs.lemmas.Bool.{and_parts, and_from, or_left, or_right, false_from_ne_true, not-true, le-leb, or_from, and_right}
use Rattle.std.proofs.lemmas.Fmt.{decimal_is_IsNumeral}
use Rattle.std.proofs.lemmas.Str.Parse.{digit_from_value}
use Rattle.tla_token.specs.Lexemes.{is_digit}
use Rattle.tla_token.specs.Signs.{is_among}
use Rattle.tla_token.specs.Words.{pluscal_words, tla_words, begins_fairness, is_reserved, own_names, is_own, standard_names, sequence_names, tlc_names, is_standard}
use Rattle.tla_token.proofs.Spelled.{begins, begins_is, begins_from}
use Rattle.tla_tree.specs.Tree.{Word}
use Rattle.pcal_tree.specs.Names.{is_taken, joint, with_number, free_from, first_free, Want, give}
use Rattle.pcal_tree.proofs.FreeNames.{free_is, free_untaken, every_map}

-- whether the last byte is a digit, where b tells it of the byte before these
abbrev digit_last : Bool → Word → Bool
digit_last b [] = b
digit_last b (c ∷ w) = digit_last (is_digit c) w

last_of_both : (b : Bool) (x y : Word) → digit_last b (x ++ y) ≡ digit_last (digit_last b x) y
last_of_both b [] y = refl
last_of_both b (c ∷ x) y = last_of_both (is_digit c) x y

last_of_digits : (ds : Word) → AllDigits 10 ds → digit_last true ds ≡ true
last_of_digits [] h = refl
last_of_digits (c ∷ ds) h =
    let r = digit_from_value c h.0 in
    ap (λ b. digit_last b ds) (and_from _ _ (le-leb 48 c (omega arith)) (le-leb c 57 (omega arith))) ∙ last_of_digits ds h.1

last_of_numeral : (b : Bool) (ds : Word) → IsNumeral 10 ds → digit_last b ds ≡ true
last_of_numeral b [] h = absurd (omega (arith, h.0))
last_of_numeral b (c ∷ ds) h = last_of_digits (c ∷ ds) h.1

last_of_numbered : (x : Word) (n : ℕ) → n < 2 ^ 64 → digit_last false (with_number x n) ≡ true
last_of_numbered x n p =
    last_of_both false x (joint x ++ decimal n) ∙ last_of_both (digit_last false x) (joint x) (decimal n)
    ∙ last_of_numeral (digit_last (digit_last false x) (joint x)) (decimal n) (decimal_is_IsNumeral n p).0

-- ---- lists of words

abbrev plain_ends : List Word → Bool
plain_ends ws = list_all (λ w. not (digit_last false w)) ws

not_there : (w : Word) (ws : List Word) → digit_last false w ≡ true → plain_ends ws ≡ true → is_among ws w ≡ false
not_there w [] d h = refl
not_there w (v ∷ vs) d h = by (bytes_eq v w) refl (not_there w vs d (and_parts (not (digit_last false v)) (plain_ends vs) h).1)
  where
    clash : true ≡ false → ⊥
    clash e = cc

    by : (b : Bool) → bytes_eq v w ≡ b → is_among vs w ≡ false → (b || is_among vs w) ≡ false
    by true e ih =
        absurd (clash
        (sym d ∙ ap (digit_last false) (sym ((bytes_eq-Decides v w).0 e)) ∙ not-true (digit_last false v)
        (and_parts (not (digit_last false v)) (plain_ends vs) h).0))
    by false e ih = ih

pluscal_plain : plain_ends pluscal_words ≡ true
pluscal_plain = refl

tla_plain : plain_ends tla_words ≡ true
tla_plain = refl

own_plain : plain_ends own_names ≡ true
own_plain = refl

standard_plain : plain_ends standard_names ≡ true
standard_plain = refl

sequence_plain : plain_ends sequence_names ≡ true
sequence_plain = refl

tlc_plain : plain_ends tlc_names ≡ true
tlc_plain = refl

-- ---- fairness

-- c_F_, for W or S
abbrev opening : ℕ → Word
opening c = c ∷ 70 ∷ 95 ∷ []

digits_no_line : (ds r : Word) → IsNumeral 10 ds → ds ≡ 95 ∷ r → ⊥
digits_no_line ds r h e = omega (arith, digit_from_value 95 (subst (AllDigits 10) e h.1).0)

one_byte : (b : ℕ) → joint (b ∷ []) ≡ 95 ∷ []
one_byte b = by (bytes_eq (codes "WF") (b ∷ [])) refl (bytes_eq (codes "SF") (b ∷ [])) refl
  where
    by : (k : Bool) → bytes_eq (codes "WF") (b ∷ []) ≡ k → (l : Bool) → bytes_eq (codes "SF") (b ∷ []) ≡ l → cond (k || l) [] (codes "_") ≡ 95 ∷ []
    by true e l f = let s = (bytes_eq-Decides (codes "WF") (b ∷ [])).0 e in cc
    by false e true f = let s = (bytes_eq-Decides (codes "SF") (b ∷ [])).0 f in cc
    by false e false f = refl

abbrev head : Word → ℕ
head w = get_or w 0 0

abbrev second : Word → ℕ
second w = get_or w 1 0

abbrev third : Word → ℕ
third w = get_or w 2 0

differ : ◌≡◌ {A = ℕ} 95 70 → ⊥
differ e = omega arith

opens_no : (c : ℕ) (x ds : Word) → joint (c ∷ 70 ∷ []) ≡ [] → (95 ≡ c → ⊥) → IsNumeral 10 ds → begins x (opening c) ≡ false
    → begins (x ++ (joint x ++ ds)) (opening c) ≡ false
opens_no c x ds bare other numeral shut =
    false_from_ne_true (begins (x ++ (joint x ++ ds)) (opening c)) (λ h. by x shut (begins_is (x ++ (joint x ++ ds)) (opening c) h))
  where
    -- what is after it is left as it is
    by : (y : Word) → begins y (opening c) ≡ false → {r : Word} → y ++ (joint y ++ ds) ≡ c ∷ 70 ∷ 95 ∷ r → ⊥
    by [] q {r = r} e = other (ap head e)
    by (b ∷ []) q {r = r} e = differ (ap (λ j. second (b ∷ (j ++ ds))) (sym (one_byte b)) ∙ ap second e)
    by (b ∷ d ∷ []) q {r = r} e =
        let y : b ∷ d ∷ [] ≡ c ∷ 70 ∷ [] = (λ i. head (e i) ∷ second (e i) ∷ []) in
        let k : joint (b ∷ d ∷ []) ++ ds ≡ 95 ∷ r = ap (drop 2) e in
        digits_no_line ds r numeral (ap (λ j. j ++ ds) (sym (ap joint y ∙ bare)) ∙ k)
    by (b ∷ d ∷ f ∷ y) q {r = r} e =
        clash (sym (begins_from (b ∷ d ∷ f ∷ y) (opening c) y (λ i. head (e i) ∷ second (e i) ∷ third (e i) ∷ y)) ∙ q)
      where
        clash : true ≡ false → ⊥
        clash e = cc

no_fairness : (x : Word) (n : ℕ) → n < 2 ^ 64 → begins_fairness x ≡ false → begins_fairness (with_number x n) ≡ false
no_fairness x n p e =
    let numeral = (decimal_is_IsNumeral n p).0 in
    or_from _ _
    (opens_no 87 x (decimal n) refl (λ s. omega arith) numeral (false_from_ne_true (begins x (opening 87)) (λ h. clash (sym (or_left _ _ h) ∙ e))))
    (opens_no 83 x (decimal n) refl (λ s. omega arith) numeral
    (false_from_ne_true (begins x (opening 83)) (λ h. clash (sym (or_right (begins x (opening 87)) (begins x (opening 83)) h) ∙ e))))
  where
    clash : true ≡ false → ⊥
    clash e = cc

-- ---- all of them

none_of_reserved : (x : Word) (n : ℕ) → n < 2 ^ 64 → begins_fairness x ≡ false → is_reserved (with_number x n) ≡ false
none_of_reserved x n p e =
    let d = last_of_numbered x n p in
    or_from (is_among pluscal_words (with_number x n)) (is_among tla_words (with_number x n) || begins_fairness (with_number x n))
    (not_there (with_number x n) pluscal_words d pluscal_plain)
    (or_from (is_among tla_words (with_number x n)) (begins_fairness (with_number x n)) (not_there (with_number x n) tla_words d tla_plain)
    (no_fairness x n p e))

none_of_standard : (extended : List Word) (x : Word) (n : ℕ) → n < 2 ^ 64 → is_standard extended (with_number x n) ≡ false
none_of_standard extended x n p =
    let d = last_of_numbered x n p in
    or_from _ _
    (or_from _ _ (not_there (with_number x n) standard_names d standard_plain)
    (and_right (is_among extended (codes "Sequences")) (is_among sequence_names (with_number x n))
    (not_there (with_number x n) sequence_names d sequence_plain)))
    (and_right (is_among extended (codes "TLC")) (is_among tlc_names (with_number x n)) (not_there (with_number x n) tlc_names d tlc_plain))

number_free : (extended taken : List Word) (x : Word) (n : ℕ) → n < 2 ^ 64 → begins_fairness x ≡ false → is_among taken (with_number x n) ≡ false
    → is_taken extended taken (with_number x n) ≡ false
number_free extended taken x n p e q =
    or_from (is_reserved (with_number x n) || is_own (with_number x n) || is_standard extended (with_number x n)) (is_among taken (with_number x n))
    (or_from (is_reserved (with_number x n) || is_own (with_number x n)) (is_standard extended (with_number x n))
    (or_from (is_reserved (with_number x n)) (is_own (with_number x n)) (none_of_reserved x n p e)
    (not_there (with_number x n) own_names (last_of_numbered x n p) own_plain))
    (none_of_standard extended x n p)) q

first_free_free : (extended taken : List Word) (x : Word) → length taken + 1 < 2 ^ 64 → begins_fairness x ≡ false
    → is_taken extended taken (first_free extended taken x) ≡ false
first_free_free extended taken x few fair =
    by (is_taken extended taken x) refl (free_is (length taken) taken x 1) (free_untaken (length taken) taken x 1 (omega arith) (omega arith))
  where
    by : (b : Bool) → is_taken extended taken x ≡ b
        → ((m : ℕ) × (1 ≤ m) × (m ≤ 1 + length taken) × (free_from (length taken) taken x 1 ≡ with_number x m))
        → is_among taken (free_from (length taken) taken x 1) ≡ false
        → is_taken extended taken (cond b (free_from (length taken) taken x 1) x) ≡ false
    by true e q h =
        subst (λ w. is_taken extended taken w ≡ false) (sym q.3)
        (number_free extended taken x q.0 (omega (arith, q.2)) fair (sym (ap (is_among taken) q.3) ∙ h))
    by false e q h = e

-- what is taken stays so where more is taken
fewer_taken : (extended taken : List Word) (f w : Word) → is_taken extended (f ∷ taken) w ≡ false → is_taken extended taken w ≡ false
fewer_taken extended taken f w e = by (is_reserved w || is_own w || is_standard extended w) e
  where
    by : (b : Bool) → (b || (bytes_eq f w || is_among taken w)) ≡ false → (b || is_among taken w) ≡ false
    by true e = cc
    by false e = by_name (bytes_eq f w) e
      where
        by_name : (c : Bool) → (c || is_among taken w) ≡ false → is_among taken w ≡ false
        by_name true e = cc
        by_name false e = e

pub given_free : (extended taken : List Word) (ws : List Want) → length taken + length ws < 2 ^ 64
    → AllByRecursion (λ w. begins_fairness w.word ≡ false) ws → AllByRecursion (λ g. is_taken extended taken g.written ≡ false) (give extended taken ws)
given_free extended taken [] few fair = tt
given_free extended taken (w ∷ ws) few fair =
    let name : Word = first_free extended taken w.word in (
      first_free_free extended taken w.word (omega arith) fair.0,
      every_map (λ g. is_taken extended (name ∷ taken) g.written ≡ false) (λ g. is_taken extended taken g.written ≡ false)
          (λ g h. fewer_taken extended taken name g.written h)
          (give extended (name ∷ taken) ws) (given_free extended (name ∷ taken) ws (omega arith) fair.1),
    )
