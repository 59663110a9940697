-- Which lexemes are the longest where they are, by what is after them.
use Rattle.std.proofs.Common.{◌≡◌, ℕ, ◌≤◌, ◌<◌, Bool, true, false, not, ◌&&◌, nat_eq, List, [], ◌∷◌, ◌++◌, length, Some, find, refl, sym, ap, ◌∙◌, inl, inr, arith, append_assoc, append-nil, length-append}
use Rattle.std.specs.List.{list_all, list_any}
use Rattle.std.specs.Str.{bytes_eq}
use Rattle.std.proofs.lemmas.Bool.{and_parts, and_from, or_cases, or_left, or_right, cases_lt, both_ways}
use Rattle.tla_token.specs.Signs.{spellings, is_among, all_signs}
use Rattle.tla_token.specs.Lexemes.{is_word, is_letter, is_digit, is_printed, unquoted, IsLongest}
use Rattle.tla_token.specs.Offences.{string_len}
use Rattle.tla_token.specs.Cut.{run}
use Rattle.tla_token.proofs.Front.{string_closes}
use Rattle.tla_token.proofs.Words.{run_over}
use Rattle.tla_token.proofs.Spelled.{begins, begins_from, begins_same, same_bytes, is_mark, stands_at}
use Rattle.tla_token.proofs.Signed.{tells_apart, not_true, word_digit, no_word}
use Rattle.tla_token.proofs.Longest.{Sort, a_name, a_number, a_quote, a_single, a_worded, some_marks, sort_of, same_first, spelling_found}

-- ---- at the end of a text
pub end_before : (w : List ℕ) → IsLongest w []
end_before w k m more l e = (let n = ap length e in omega (arith, n, length-append w [], length-append m more))

-- ---- marks are of no word
mark_word : (c : ℕ) → is_mark c ≡ true → is_word c ≡ false
mark_word c h = not_true (is_word c) (and_parts (is_printed c && not (nat_eq c 34)) (not (is_word c)) h).1

mark_quote : (c : ℕ) → is_mark c ≡ true → nat_eq c 34 ≡ false
mark_quote c h = not_true (nat_eq c 34) (and_parts (is_printed c) (not (nat_eq c 34)) (and_parts (is_printed c && not (nat_eq c 34)) (not (is_word c)) h).0).1

-- marks at the front of a word are none
no_marks : (b : ℕ) (bs m more : List ℕ) → is_word b ≡ true → list_all is_mark m ≡ true → b ∷ bs ≡ m ++ more → length m ≤ 0
no_marks b bs [] more w marks e = omega arith
no_marks b bs (c ∷ m) more w marks e =
    let k : is_word c ≡ true = ap is_word (sym (same_first b c bs (m ++ more) e).0) ∙ w in
    absurd (both_ways (is_word c) (mark_word c (and_parts (is_mark c) (list_all is_mark m) marks).0) k)

-- ---- words
pub word_before : (b : ℕ) (w rest : List ℕ) → list_all is_word (b ∷ w) ≡ true → run is_word rest ≡ [] → IsLongest (b ∷ w) rest
word_before b w rest all none k m more l e = by (sort_of k m more b (w ++ rest) l e)
  where
    first : is_word b ≡ true
    first = (and_parts (is_word b) (list_all is_word w) all).0

    long : length (run is_word (b ∷ (w ++ rest))) ≡ length (b ∷ w)
    long = ap length (run_over is_word (b ∷ w) rest all ∙ ap (λ (u : List ℕ). (b ∷ w) ++ u) none ∙ append-nil (b ∷ w))

    by : Sort b (w ++ rest) m → length m ≤ length (b ∷ w)
    by (a_name h any) = omega (arith, h, long)
    by (a_number h i d) = omega (arith, i, long)
    by (a_quote raw v f u q) = absurd (both_ways (nat_eq b 34) (tells_apart is_word b 34 first refl) q)
    by (a_single h) = omega (arith, h)
    by (a_worded q any h) = absurd (both_ways (nat_eq b 92) (tells_apart is_word b 92 first refl) q)
    by (some_marks s marks at spelled r f) = (let n = no_marks b (w ++ rest) m more first marks e in omega (arith, n))

-- a sign that is a backslash with a word
pub worded_before : (c : ℕ) (v rest : List ℕ) → list_all is_word (c ∷ v) ≡ true → run is_word rest ≡ [] → IsLongest (92 ∷ c ∷ v) rest
worded_before c v rest all none k m more l e = by (sort_of k m more 92 ((c ∷ v) ++ rest) l e)
  where
    long : length (run is_word ((c ∷ v) ++ rest)) ≡ length (c ∷ v)
    long = ap length (run_over is_word (c ∷ v) rest all ∙ ap (λ (u : List ℕ). (c ∷ v) ++ u) none ∙ append-nil (c ∷ v))

    behind : (m : List ℕ) → list_all is_mark m ≡ true → 92 ∷ c ∷ (v ++ rest) ≡ m ++ more → length m ≤ 1
    behind [] marks f = omega arith
    behind (d ∷ m) marks f =
        let n = no_marks c (v ++ rest) m more (and_parts (is_word c) (list_all is_word v) all).0 (and_parts (is_mark d) (list_all is_mark m) marks).1 (same_first 92 d (c ∷ (v ++ rest)) (m ++ more) f).1 in
        omega (arith, n)

    by : Sort 92 ((c ∷ v) ++ rest) m → length m ≤ length (92 ∷ c ∷ v)
    by (a_name h any) = (let f : false ≡ true = any in absurd cc)
    by (a_number h i d) = (let f : false ≡ true = d in absurd cc)
    by (a_quote raw w f u q) = (let g : false ≡ true = q in absurd cc)
    by (a_single h) = omega (arith, h)
    by (a_worded q any h) = omega (arith, h, long)
    by (some_marks s marks at spelled r f) = (let n = behind m marks e in omega (arith, n))

-- ---- marks

-- some sign begins with these bytes
abbrev pub begins_sign : List ℕ → Bool
begins_sign w = list_any (λ s. list_any (λ v. begins v w) (spellings s)) all_signs

found_any : {X : Type 0} (p q : X → Bool) (xs : List X) (x : X) → find p xs ≡ Some x → q x ≡ true → list_any q xs ≡ true
found_any p q [] x e h = absurd cc
found_any p q (y ∷ xs) x e h = by (p y) refl (found_any p q xs x)
  where
    by : (k : Bool) → p y ≡ k → (find p xs ≡ Some x → q x ≡ true → list_any q xs ≡ true) → list_any q (y ∷ xs) ≡ true
    by true k r = (let d : Some y ≡ Some x = rw k at e in let same : y ≡ x = cc in or_left (q y) (list_any q xs) (ap q same ∙ h))
    by false k r = or_right (q y) (list_any q xs) (r (rw k at e) h)

among_any : (p : List ℕ → Bool) (ws : List (List ℕ)) (w : List ℕ) → is_among ws w ≡ true → p w ≡ true → list_any p ws ≡ true
among_any p [] w i h = absurd cc
among_any p (v ∷ ws) w i h =
    elim (or_cases (bytes_eq v w) (is_among ws w) i) [
      | inl e ↦ or_left (p v) (list_any p ws) (ap p (same_bytes v w e) ∙ h)
      | inr j ↦ or_right (p v) (list_any p ws) (among_any p ws w j h)
    ]

-- marks before a byte with which they begin no sign
pub marks_before : (b c : ℕ) (w rest : List ℕ) → is_mark b ≡ true → begins_sign (b ∷ (w ++ c ∷ [])) ≡ false → (nat_eq b 92 && list_any is_letter (run is_word (w ++ c ∷ rest))) ≡ false → IsLongest (b ∷ w) (c ∷ rest)
marks_before b c w rest mark none back k m more l e = by (sort_of k m more b (w ++ c ∷ rest) l e)
  where
    u : List ℕ
    u = b ∷ (w ++ c ∷ [])

    cut : m ++ more ≡ u ++ rest
    cut = sym e ∙ ap (λ (x : List ℕ). b ∷ x) (sym (append_assoc w (c ∷ []) rest))

    longer : length (b ∷ w) < length m → begins m u ≡ true
    longer less = sym (begins_same m more u (λ h. omega (arith, less, length-append w (c ∷ [])))) ∙ begins_from (m ++ more) u rest cut

    by : Sort b (w ++ c ∷ rest) m → length m ≤ length (b ∷ w)
    by (a_name h any) = absurd (both_ways (list_any is_letter (run is_word (b ∷ (w ++ c ∷ rest)))) (no_word b (w ++ c ∷ rest) (mark_word b mark)) any)
    by (a_number h i d) = absurd (both_ways (is_digit b) (word_digit b (mark_word b mark)) d)
    by (a_quote raw v f x q) = absurd (both_ways (nat_eq b 34) (mark_quote b mark) q)
    by (a_single h) = omega (arith, h)
    by (a_worded q any h) = absurd (both_ways (nat_eq b 92 && list_any is_letter (run is_word (w ++ c ∷ rest))) back (and_from (nat_eq b 92) (list_any is_letter (run is_word (w ++ c ∷ rest))) q any))
    by (some_marks s marks at spelled r f) =
        elim (cases_lt (length (b ∷ w)) (length m)) [
          | inr le ↦ le
          | inl less ↦ (let i = (spelling_found (spellings s) m m spelled).0 in
              absurd (both_ways (begins_sign u) none (found_any (stands_at m) (λ s. list_any (λ v. begins v u) (spellings s)) all_signs s at (among_any (λ v. begins v u) (spellings s) m i (longer less)))))
        ]

-- marks that begin no longer sign, before anything
pub marks_alone : (b : ℕ) (w : List ℕ) → is_mark b ≡ true → nat_eq b 92 ≡ false → ((c : ℕ) → begins_sign (b ∷ (w ++ c ∷ [])) ≡ false) → (rest : List ℕ) → IsLongest (b ∷ w) rest
marks_alone b w mark back none [] = end_before (b ∷ w)
marks_alone b w mark back none (c ∷ rest) = marks_before b c w rest mark (none c) (rw back refl)

-- ---- strings
pub string_before : (raw w rest : List ℕ) → unquoted raw ≡ Some w → IsLongest (34 ∷ (raw ++ 34 ∷ [])) rest
string_before raw w rest u k m more l e = by m (sort_of k m more 34 ((raw ++ 34 ∷ []) ++ rest) l e) e
  where
    whole : (raw ++ 34 ∷ []) ++ rest ≡ raw ++ 34 ∷ rest
    whole = append_assoc raw (34 ∷ []) rest

    by : (m : List ℕ) → Sort 34 ((raw ++ 34 ∷ []) ++ rest) m → 34 ∷ ((raw ++ 34 ∷ []) ++ rest) ≡ m ++ more → length m ≤ length (34 ∷ (raw ++ 34 ∷ []))
    by m (a_name h any) e = (let f : false ≡ true = any in absurd cc)
    by m (a_number h i d) e = (let f : false ≡ true = d in absurd cc)
    by m (a_quote raw2 w2 f u2 q) e =
        let x : 34 ∷ ((raw ++ 34 ∷ []) ++ rest) ≡ 34 ∷ (raw2 ++ 34 ∷ more) = e ∙ ap (λ (v : List ℕ). v ++ more) f ∙ ap (λ (v : List ℕ). 34 ∷ v) (append_assoc raw2 (34 ∷ []) more) in
        let y : raw ++ 34 ∷ rest ≡ raw2 ++ 34 ∷ more = sym whole ∙ (same_first 34 34 ((raw ++ 34 ∷ []) ++ rest) (raw2 ++ 34 ∷ more) x).1 in
        let z : length raw ≡ length raw2 = sym (string_closes raw rest w u) ∙ ap string_len y ∙ string_closes raw2 more w2 u2 in
        let n = ap length f in omega (arith, z, n, length-append raw (34 ∷ []), length-append raw2 (34 ∷ []))
    by m (a_single h) e = omega (arith, h)
    by m (a_worded b any h) e = (let f : false ≡ true = b in absurd cc)
    by [] (some_marks s marks at spelled r f) e = omega arith
    by (c ∷ m) (some_marks s marks at spelled r f) e =
        let t : nat_eq c 34 ≡ true = ap (λ (d : ℕ). nat_eq d 34) (sym (same_first 34 c ((raw ++ 34 ∷ []) ++ rest) (m ++ more) e).0) in
        absurd (both_ways (nat_eq c 34) (mark_quote c (and_parts (is_mark c) (list_all is_mark m) marks).0) t)
