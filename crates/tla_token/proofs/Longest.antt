-- What lexemes can be at the front of a text, and which of them is the longest.
use Rattle.std.proofs.Common.{◌≡◌, ℕ, suc, ◌<◌, ◌≤◌, Bool, true, false, not, ◌&&◌, nat_eq, List, [], ◌∷◌, ◌++◌, length, drop, Some, None, refl, sym, ap, ◌∙◌, inl, inr, arith, find, append_assoc, length-append}
use Rattle.std.specs.List.{list_all, list_any}
use Rattle.std.specs.Str.{bytes_eq}
use Rattle.std.proofs.lemmas.Bool.{and_parts, or_cases, or_left, or_right, cases_lt, eq-eqb, false_from_ne_true, both_ways}
use Rattle.tla_token.specs.declared.sign.Sign.{Sign}
use Rattle.tla_token.specs.Signs.{spellings, is_among, all_signs, is_sign}
use Rattle.tla_token.specs.Lexemes.{Kind, name, number, string, one, other, is_word, is_letter, is_digit, is_other, unquoted, IsLexeme}
use Rattle.tla_token.specs.Cut.{run, sign_at, spelling_at}
use Rattle.tla_token.proofs.Words.{run_over, digits_words, any_append}
use Rattle.tla_token.proofs.Spelled.{begins, begins_is, begins_from, begins_same, same_bytes, among_head, stands_at, any_some, is_worded, is_mark, Row, row_of, no_empty}

-- ---- searches
find_narrow : {X : Type 0} (p q : X → Bool) (xs : List X) (x : X) → find p xs ≡ Some x → ((y : X) → q y ≡ true → p y ≡ true) → q x ≡ true → find q xs ≡ Some x
find_narrow p q [] x e less h = absurd cc
find_narrow p q (y ∷ xs) x e less h = by (p y) refl (λ d. find_narrow p q xs x d less h)
  where
    by : (k : Bool) → p y ≡ k → (find p xs ≡ Some x → find q xs ≡ Some x) → find q (y ∷ xs) ≡ Some x
    by true k rest =
        let d : Some y ≡ Some x = rw k at e in
        let same : y ≡ x = cc in
        let g : q y ≡ true = ap q same ∙ h in
        rw g d
    by false k rest =
        let g : q y ≡ false = false_from_ne_true (q y) (λ t. both_ways (p y) k (less y t)) in
        rw g (rest (rw k at e))

pub find_passes : {X : Type 0} (p : X → Bool) (xs : List X) (x : X) → find p xs ≡ Some x → p x ≡ true
find_passes p [] x e = absurd cc
find_passes p (y ∷ xs) x e = by (p y) refl (find_passes p xs x)
  where
    by : (k : Bool) → p y ≡ k → (find p xs ≡ Some x → p x ≡ true) → p x ≡ true
    by true k rest = (let d : Some y ≡ Some x = rw k at e in let same : y ≡ x = cc in ap p (sym same) ∙ k)
    by false k rest = rest (rw k at e)

find_wider : {X : Type 0} (p q : X → Bool) (xs : List X) (x : X) → find q xs ≡ Some x → ((y : X) → q y ≡ true → p y ≡ true) → find p xs ≡ None → ⊥
find_wider p q [] x e more n = cc
find_wider p q (y ∷ xs) x e more n = by (p y) refl (q y) refl (λ d m. find_wider p q xs x d more m)
  where
    by : (k : Bool) → p y ≡ k → (j : Bool) → q y ≡ j → (find q xs ≡ Some x → find p xs ≡ None → ⊥) → ⊥
    by true k j f rest = (let d : Some y ≡ None = rw k at n in cc)
    by false k true f rest = both_ways (p y) k (more y f)
    by false k false f rest = rest (rw f at e) (rw k at n)

pub spelling_found : (ws : List (List ℕ)) (x w : List ℕ) → spelling_at ws x ≡ Some w → (is_among ws w ≡ true) × (begins x w ≡ true)
spelling_found [] x w e = absurd cc
spelling_found (v ∷ ws) x w e = by (begins x v) refl (spelling_found ws x w)
  where
    by : (k : Bool) → begins x v ≡ k → (spelling_at ws x ≡ Some w → (is_among ws w ≡ true) × (begins x w ≡ true)) → (is_among (v ∷ ws) w ≡ true) × (begins x w ≡ true)
    by true k rest =
        let d : Some v ≡ Some w = rw k at e in
        let same : v ≡ w = cc in
        (ap (is_among (v ∷ ws)) (sym same) ∙ among_head v ws, ap (begins x) (sym same) ∙ k)
    by false k rest = (let r = rest (rw k at e) in (or_right (bytes_eq v w) (is_among ws w) r.0, r.1))

pub any_from : (x : List ℕ) (ws : List (List ℕ)) (u : List ℕ) → is_among ws u ≡ true → begins x u ≡ true → list_any (λ w. begins x w) ws ≡ true
any_from x [] u i h = absurd cc
any_from x (v ∷ ws) u i h =
    elim (or_cases (bytes_eq v u) (is_among ws u) i) [
      | inl e ↦ or_left (begins x v) (list_any (λ w. begins x w) ws) (ap (begins x) (same_bytes v u e) ∙ h)
      | inr j ↦ or_right (begins x v) (list_any (λ w. begins x w) ws) (any_from x ws u j h)
    ]

pub some_spelling : (s : Sign) (x : List ℕ) → stands_at x s ≡ true → (w : List ℕ) × (spelling_at (spellings s) x ≡ Some w)
some_spelling s x h = go (spellings s) h
  where
    go : (ws : List (List ℕ)) → list_any (λ w. begins x w) ws ≡ true → (w : List ℕ) × (spelling_at ws x ≡ Some w)
    go [] h = absurd cc
    go (v ∷ ws) h = by (begins x v) refl (go ws)
      where
        by : (k : Bool) → begins x v ≡ k → (list_any (λ w. begins x w) ws ≡ true → (w : List ℕ) × (spelling_at ws x ≡ Some w)) → (w : List ℕ) × (spelling_at (v ∷ ws) x ≡ Some w)
        by true k rest = (v, rw k refl)
        by false k rest = (let r = rest (rw k at h) in (r.0, rw k r.1))

begins_more : (m more u : List ℕ) → begins m u ≡ true → begins (m ++ more) u ≡ true
begins_more m more u h =
    let d = drop (length u) m in
    begins_from (m ++ more) u (d ++ more) (ap (λ (x : List ℕ). x ++ more) (begins_is m u h) ∙ append_assoc u d more)

stands_more : (m more : List ℕ) (s : Sign) → stands_at m s ≡ true → stands_at (m ++ more) s ≡ true
stands_more m more s h = (let r = any_some m (spellings s) h in any_from (m ++ more) (spellings s) r.0 r.1 (begins_more m more r.0 r.2))

-- the marks of a sign that are at the front are no longer than those that are found
pub marks_longest : (s r : Sign) (w u more : List ℕ) → sign_at (u ++ more) ≡ Some s → spelling_at (spellings s) (u ++ more) ≡ Some w
    → sign_at u ≡ Some r → spelling_at (spellings r) u ≡ Some u → length u ≤ length w
marks_longest s r w u more at spelled own whole =
    elim (cases_lt (length w) (length u)) [ inr le ↦ le | inl less ↦ absurd (by less) ]
  where
    by : length w < length u → ⊥
    by less =
        let t = u ++ more in
        let f = spelling_found (spellings s) t w spelled in
        let here : begins u w ≡ true = sym (begins_same u more w (λ x. omega arith)) ∙ f.1 in
        let first : sign_at u ≡ Some s = find_narrow (stands_at t) (stands_at u) all_signs s at (stands_more u more) (any_from u (spellings s) w f.0 here) in
        let second : spelling_at (spellings s) u ≡ Some w = find_narrow (begins t) (begins u) (spellings s) w spelled (begins_more u more) here in
        let d : Some r ≡ Some s = sym own ∙ first in
        let same : r ≡ s = cc in
        let g : Some u ≡ Some w = sym whole ∙ ap (λ (x : Sign). spelling_at (spellings x) u) same ∙ second in
        let e : u ≡ w = cc in
        let l = ap length e in omega arith

-- where no sign is found, none is there
pub none_marks : (r : Sign) (u more : List ℕ) → sign_at (u ++ more) ≡ None → sign_at u ≡ Some r → ⊥
none_marks r u more at own = find_wider (stands_at (u ++ more)) (stands_at u) all_signs r own (stands_more u more) at

pub sign_stands : (s : Sign) (x : List ℕ) → sign_at x ≡ Some s → stands_at x s ≡ true
sign_stands s x e = find_passes (stands_at x) all_signs s e

-- ---- lexemes at the front of a text

-- what a lexeme m at the front of b ∷ bs tells of the text
pub data Sort (b : ℕ) (bs m : List ℕ) : Type 0 where
  a_name : length m ≤ length (run is_word (b ∷ bs)) → list_any is_letter (run is_word (b ∷ bs)) ≡ true → Sort b bs m
  a_number : length m ≤ length (run is_digit (b ∷ bs)) → length m ≤ length (run is_word (b ∷ bs)) → is_digit b ≡ true → Sort b bs m
  a_quote : (raw w : List ℕ) → m ≡ 34 ∷ (raw ++ 34 ∷ []) → unquoted raw ≡ Some w → nat_eq b 34 ≡ true → Sort b bs m
  a_single : length m ≤ 1 → Sort b bs m
  a_worded : nat_eq b 92 ≡ true → list_any is_letter (run is_word bs) ≡ true → length m ≤ suc (length (run is_word bs)) → Sort b bs m
  some_marks : (s : Sign) → list_all is_mark m ≡ true → sign_at m ≡ Some s → spelling_at (spellings s) m ≡ Some m → (more : List ℕ) → b ∷ bs ≡ m ++ more → Sort b bs m

pub run_least : (p : ℕ → Bool) (t m more : List ℕ) → t ≡ m ++ more → list_all p m ≡ true → length m ≤ length (run p t)
run_least p t m more e all = (let r : run p t ≡ m ++ run p more = ap (run p) e ∙ run_over p m more all in let l = ap length r in omega (arith, length-append m (run p more)))

pub run_letter : (t m more : List ℕ) → t ≡ m ++ more → list_all is_word m ≡ true → list_any is_letter m ≡ true → list_any is_letter (run is_word t) ≡ true
run_letter t m more e all any =
    ap (list_any is_letter) (ap (run is_word) e ∙ run_over is_word m more all) ∙ any_append is_letter m (run is_word more) any

abbrev first_of_all : List ℕ → ℕ
first_of_all [] = 0
first_of_all (b ∷ bs) = b

abbrev others : List ℕ → List ℕ
others [] = []
others (b ∷ bs) = bs

pub same_first : (b c : ℕ) (bs cs : List ℕ) → b ∷ bs ≡ c ∷ cs → (b ≡ c) × (bs ≡ cs)
same_first b c bs cs e = (ap first_of_all e, ap others e)

a_backslash : (b c : ℕ) (bs v more : List ℕ) → nat_eq c 92 ≡ true → list_all is_word v ≡ true → list_any is_letter v ≡ true → b ∷ bs ≡ (c ∷ v) ++ more → Sort b bs (c ∷ v)
a_backslash b c bs v more back all any e =
    let s = same_first b c bs (v ++ more) e in
    a_worded (ap (λ (d : ℕ). nat_eq d 92) s.0 ∙ back) (run_letter bs v more s.1 all any) (omega (arith, run_least is_word bs v more s.1 all))

pub sort_of : (k : Kind) (m more : List ℕ) (b : ℕ) (bs : List ℕ) → IsLexeme k m → b ∷ bs ≡ m ++ more → Sort b bs m
sort_of (name w) m more b bs (same, (all, any)) e =
    let x : list_all is_word m ≡ true = ap (list_all is_word) same ∙ all in
    let y : list_any is_letter m ≡ true = ap (list_any is_letter) same ∙ any in
    a_name (run_least is_word (b ∷ bs) m more e x) (run_letter (b ∷ bs) m more e x y)
sort_of (number n) [] more b bs (some, all, is) e = absurd (omega arith)
sort_of (number n) (c ∷ m) more b bs (some, all, is) e =
    let p = and_parts (is_digit c) (list_all is_digit m) all in
    a_number (run_least is_digit (b ∷ bs) (c ∷ m) more e all) (run_least is_word (b ∷ bs) (c ∷ m) more e (digits_words (c ∷ m) all)) (ap is_digit (same_first b c bs (m ++ more) e).0 ∙ p.0)
sort_of (string w) m more b bs (raw, f, u) e =
    let s = same_first b 34 bs ((raw ++ 34 ∷ []) ++ more) (e ∙ ap (λ (x : List ℕ). x ++ more) f) in
    a_quote raw w f u (eq-eqb b 34 s.0)
sort_of (one s) [] more b bs i e = absurd (no_empty s i)
sort_of (one s) (c ∷ v) more b bs i e = by (is_worded (c ∷ v)) refl (row_of s (c ∷ v) i)
  where
    by : (k : Bool) → is_worded (c ∷ v) ≡ k → Row s (c ∷ v) → Sort b bs (c ∷ v)
    by true w r =
        let p = and_parts (nat_eq c 92 && list_all is_word v) (list_any is_letter v) w in
        let q = and_parts (nat_eq c 92) (list_all is_word v) p.0 in
        a_backslash b c bs v more q.0 q.1 p.1 e
    by false w r =
        let m : (list_all is_mark (c ∷ v) ≡ true) × (sign_at (c ∷ v) ≡ Some s) × (spelling_at (spellings s) (c ∷ v) ≡ Some (c ∷ v)) = rw w at r in
        some_marks s m.0 m.1 m.2 more e
sort_of (other w) [] more b bs (same, is) e = (let f : false ≡ true = ap is_other same ∙ is in absurd cc)
sort_of (other w) (c ∷ []) more b bs (same, is) e = a_single (omega arith)
sort_of (other w) (c ∷ d ∷ v) more b bs (same, is) e =
    let h : is_other (c ∷ d ∷ v) ≡ true = ap is_other same ∙ is in
    let p = and_parts (nat_eq c 92 && list_all is_word (d ∷ v) && list_any is_letter (d ∷ v)) (not (is_sign (c ∷ d ∷ v))) h in
    let q = and_parts (nat_eq c 92 && list_all is_word (d ∷ v)) (list_any is_letter (d ∷ v)) p.0 in
    let r = and_parts (nat_eq c 92) (list_all is_word (d ∷ v)) q.0 in
    a_backslash b c bs (d ∷ v) more r.0 r.1 q.1 e
