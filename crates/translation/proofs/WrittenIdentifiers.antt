-- The written names that are given are names, no reserved words and none of the translation's own; each routine's are among these, and different ones differ.
use Rattle.std.proofs.Common.{◌≡◌, ℕ, ◌+◌, ◌<◌, ◌≤◌, ◌^◌, length, List, [], ◌∷◌, ◌++◌, Bool, true, false, not, ◌||◌, ◌&&◌, cond, bytes_eq, nat_eq, codes, refl, sym, ◌∙◌, ap, subst, decimal, inl, inr, arith}
use Rattle.std.specs.List.{list_all, list_any, AllByRecursion}
use Rattle.std.specs.Str.Parse.{AllDigits}
use Rattle.std.proofs.lemmas.Slice.Eq.{bytes_eq-Decides}
use Rattle.std.proofs.lemmas.Bool.{and_parts, and_from, or_parts, or_left, or_right, not-true, le-leb, eq-eqb, eqb-true}
use Rattle.std.proofs.lemmas.Fmt.{decimal_is_IsNumeral}
use Rattle.std.proofs.lemmas.Str.Parse.{digit_from_value}
use Rattle.tla_token.specs.Lexemes.{is_letter, is_digit, is_word, IsName}
use Rattle.tla_token.specs.Words.{is_reserved, is_own, is_standard, is_tla_word, is_pluscal_word, tla_words, begins_fairness}
use Rattle.tla_token.specs.Signs.{is_among}
use Rattle.tla_tree.specs.Tree.{Word}
use Rattle.tla_tree.specs.laws.Writable.{IsIdentifier}
use Rattle.pcal_tree.specs.Names.{is_taken, joint, with_number, free_from, first_free, Role, title, variable, label, Want, same_role, is_for, Given, give, written_for, title_for}
use Rattle.pcal_tree.specs.Processes.{OneOf}
use Rattle.pcal_tree.specs.laws.Apart.{Apart}
use Rattle.pcal_tree.proofs.FreeNames.{free_is, every_map}
use Rattle.pcal_tree.proofs.FreeWords.{given_free}
use Rattle.pcal_tree.proofs.RoutineNames.{every_one}
pub use Rattle.pcal_tree.proofs.RoutineNames.{one_given}

clash : true ≡ false → ⊥
clash e = cc

-- ---- a name with a number is a name

digits_word : (ds : Word) → AllDigits 10 ds → list_all is_word ds ≡ true
digits_word [] h = refl
digits_word (c ∷ ds) h =
    let r = digit_from_value c h.0 in
    let d : is_digit c ≡ true = and_from _ _ (le-leb 48 c (omega arith)) (le-leb c 57 (omega arith)) in
    and_from (is_word c) (list_all is_word ds) (or_left (is_letter c || is_digit c) (nat_eq c 95) (or_right (is_letter c) (is_digit c) d)) (digits_word ds h.1)

words_both : (x y : Word) → list_all is_word x ≡ true → list_all is_word y ≡ true → list_all is_word (x ++ y) ≡ true
words_both [] y h k = k
words_both (c ∷ x) y h k = (let p = and_parts (is_word c) (list_all is_word x) h in and_from (is_word c) (list_all is_word (x ++ y)) p.0 (words_both x y p.1 k))

letter_before : (x y : Word) → list_any is_letter x ≡ true → list_any is_letter (x ++ y) ≡ true
letter_before [] y h = absurd (clash (sym h))
letter_before (c ∷ x) y h = by (letter_before x y) (is_letter c) h
  where
    by : (list_any is_letter x ≡ true → list_any is_letter (x ++ y) ≡ true) → (b : Bool) → (b || list_any is_letter x) ≡ true → (b || list_any is_letter (x ++ y)) ≡ true
    by f true e = refl
    by f false e = f e

joint_word : (x : Word) → list_all is_word (joint x) ≡ true
joint_word x = by (bytes_eq (codes "WF") x || bytes_eq (codes "SF") x)
  where
    by : (b : Bool) → list_all is_word (cond b [] (codes "_")) ≡ true
    by true = refl
    by false = refl

numbered_name : (x : Word) (n : ℕ) → n < 2 ^ 64 → IsName x → IsName (with_number x n)
numbered_name x n p h = (
  words_both x (joint x ++ decimal n) h.0 (words_both (joint x) (decimal n) (joint_word x) (digits_word (decimal n) (decimal_is_IsNumeral n p).0.1)),
  letter_before x (joint x ++ decimal n) h.1,
)

first_free_name : (extended taken : List Word) (x : Word) → length taken + 1 < 2 ^ 64 → IsName x → IsName (first_free extended taken x)
first_free_name extended taken x few h = by (is_taken extended taken x) (free_is (length taken) taken x 1)
  where
    by : (b : Bool) → ((m : ℕ) × (1 ≤ m) × (m ≤ 1 + length taken) × (free_from (length taken) taken x 1 ≡ with_number x m)) → IsName (cond b (free_from (length taken) taken x 1) x)
    by true q = subst IsName (sym q.3) (numbered_name x q.0 (omega (arith, q.2)) h)
    by false q = h

-- ---- the names given

-- an identifier that is none of the translation's own names
abbrev pub IsFree : Word → Type 0
IsFree w = IsIdentifier w × (is_own w ≡ false)

given_names : (extended taken : List Word) (ws : List Want) → length taken + length ws < 2 ^ 64 → AllByRecursion (λ w. IsIdentifier w.word) ws → AllByRecursion (λ g. IsName g.written) (give extended taken ws)
given_names extended taken [] few h = tt
given_names extended taken (w ∷ ws) few h =
    (first_free_name extended taken w.word (omega arith) h.0.0, given_names extended (first_free extended taken w.word ∷ taken) ws (omega arith) h.1)

pub no_fairness : (w : Word) → IsIdentifier w → begins_fairness w ≡ false
no_fairness w h =
    (or_parts (is_among tla_words w) (begins_fairness w) (or_parts (is_pluscal_word w) (is_tla_word w) (not-true (is_reserved w) h.1)).1).1

both : (gs : List Given) (Q R : Given → Type 0) → AllByRecursion Q gs → AllByRecursion R gs → AllByRecursion (λ g. Q g × R g) gs
both [] Q R h k = tt
both (g ∷ gs) Q R h k = ((h.0, k.0), both gs Q R h.1 k.1)

free_if : (extended taken : List Word) (g : Given) → IsName g.written × (is_taken extended taken g.written ≡ false) → IsFree g.written
free_if extended taken g h =
    let p = or_parts (is_reserved g.written || is_own g.written || is_standard extended g.written) (is_among taken g.written) h.1 in
    let q = or_parts (is_reserved g.written || is_own g.written) (is_standard extended g.written) p.0 in
    let r = or_parts (is_reserved g.written) (is_own g.written) q.0 in
    ((h.0, ap not r.0), r.1)

pub given_identifiers : (extended taken : List Word) (ws : List Want) → length taken + length ws < 2 ^ 64 → AllByRecursion (λ w. IsIdentifier w.word) ws
    → AllByRecursion (λ g. IsFree g.written) (give extended taken ws)
given_identifiers extended taken ws few h =
    every_map (λ g. IsName g.written × (is_taken extended taken g.written ≡ false)) (λ g. IsFree g.written) (free_if extended taken) (give extended taken ws)
    (both (give extended taken ws) (λ g. IsName g.written) (λ g. is_taken extended taken g.written ≡ false) (given_names extended taken ws few h)
    (given_free extended taken ws few (wants_map ws h)))
  where
    wants_map : (vs : List Want) → AllByRecursion (λ w. IsIdentifier w.word) vs → AllByRecursion (λ w. begins_fairness w.word ≡ false) vs
    wants_map [] k = tt
    wants_map (v ∷ vs) k = (no_fairness v.word k.0, wants_map vs k.1)

-- ---- looked up

abbrev pub want_of : ℕ → Role → Word → Want
want_of n r x = record { unit = n; role = r; word = x }

same_role_refl : (r : Role) → same_role r r ≡ true
same_role_refl title = refl
same_role_refl variable = refl
same_role_refl label = refl

role_is : (q r : Role) → same_role q r ≡ true → q ≡ r
role_is title title e = refl
role_is variable variable e = refl
role_is label label e = refl
role_is title variable e = cc
role_is title label e = cc
role_is variable title e = cc
role_is variable label e = cc
role_is label title e = cc
role_is label variable e = cc

is_for_it : (n : ℕ) (r : Role) (x : Word) (w : Want) → want_of n r x ≡ w → is_for n r w ≡ true
is_for_it n r x w e = subst (λ v. is_for n r v ≡ true) e (and_from (nat_eq n n) (same_role r r) (eq-eqb n n refl) (same_role_refl r))

wanted_it : (n : ℕ) (r : Role) (x : Word) (w : Want) → want_of n r x ≡ w → (is_for n r w && bytes_eq w.word x) ≡ true
wanted_it n r x w e = and_from (is_for n r w) (bytes_eq w.word x) (is_for_it n r x w e) ((bytes_eq-Decides w.word x).1 (ap (λ v. v.word) (sym e)))

-- what holds of all that are given, and of a word, holds of what is written for it
pub written_any : (Q : Word → Type 0) (gs : List Given) (n : ℕ) (r : Role) (x : Word) → Q x → AllByRecursion (λ g. Q g.written) gs → Q (written_for gs n r x)
written_any Q [] n r x h k = h
written_any Q (g ∷ gs) n r x h k = by (is_for n r g.want && bytes_eq g.want.word x) (written_any Q gs n r x h k.1)
  where
    by : (b : Bool) → Q (written_for gs n r x) → Q (cond b g.written (written_for gs n r x))
    by true f = k.0
    by false f = f

pub record Looked (gs : List Given) (n : ℕ) (r : Role) (x : Word) : Type 0 where
  pub found : Given
  pub listed : OneOf found gs
  pub is : found.want ≡ want_of n r x
  pub written : written_for gs n r x ≡ found.written

want_is : (w : Want) (n : ℕ) (r : Role) (x : Word) → (is_for n r w && bytes_eq w.word x) ≡ true → w ≡ want_of n r x
want_is w n r x e =
    let p = and_parts (is_for n r w) (bytes_eq w.word x) e in
    let q = and_parts (nat_eq w.unit n) (same_role w.role r) p.0 in
    λ i. record { unit = eqb-true w.unit n q.0 i; role = role_is w.role r q.1 i; word = (bytes_eq-Decides w.word x).0 p.1 i }

pub looked : (extended taken : List Word) (ws : List Want) (n : ℕ) (r : Role) (x : Word) → OneOf (want_of n r x) ws → Looked (give extended taken ws) n r x
looked extended taken [] n r x h = absurd h
looked extended taken (w ∷ ws) n r x h = by (looked extended (first_free extended taken w.word ∷ taken) ws n r x) (is_for n r w && bytes_eq w.word x) refl h
  where
    name : Word
    name = first_free extended taken w.word

    rest : List Given
    rest = give extended (name ∷ taken) ws

    by : (OneOf (want_of n r x) ws → Looked rest n r x) → (b : Bool) → (is_for n r w && bytes_eq w.word x) ≡ b → OneOf (want_of n r x) (w ∷ ws) → Looked (give extended taken (w ∷ ws)) n r x
    by f true e k =
        record { found = record { want = w; written = name }; listed = inl refl; is = want_is w n r x e; written = ap (λ b. cond b name (written_for rest n r x)) e }
    by f false e (inl k) = absurd (clash (sym (wanted_it n r x w k) ∙ e))
    by f false e (inr k) =
        let l = f k in
        record { found = l.found; listed = inr l.listed; is = l.is; written = ap (λ b. cond b name (written_for rest n r x)) e ∙ l.written }

-- what holds of all that are given holds of what is written for a name that is wanted
pub written_one : (Q : Word → Type 0) (extended taken : List Word) (ws : List Want) (n : ℕ) (r : Role) (x : Word) → OneOf (want_of n r x) ws
    → AllByRecursion (λ g. Q g.written) (give extended taken ws) → Q (written_for (give extended taken ws) n r x)
written_one Q extended taken ws n r x h k =
    let l = looked extended taken ws n r x h in
    subst Q (sym l.written) (every_one (λ g. Q g.written) l.found (give extended taken ws) k l.listed)

pub title_one : (Q : Word → Type 0) (extended taken : List Word) (ws : List Want) (n : ℕ) (x : Word) → OneOf (want_of n title x) ws
    → AllByRecursion (λ g. Q g.written) (give extended taken ws) → Q (title_for (give extended taken ws) n)
title_one Q extended taken [] n x h k = absurd h
title_one Q extended taken (w ∷ ws) n x h k = by (λ l. title_one Q extended (first_free extended taken w.word ∷ taken) ws n x l k.1) (is_for n title w) refl h
  where
    name : Word
    name = first_free extended taken w.word

    by : (OneOf (want_of n title x) ws → Q (title_for (give extended (name ∷ taken) ws) n)) → (b : Bool) → is_for n title w ≡ b → OneOf (want_of n title x) (w ∷ ws) → Q (cond b name (title_for (give extended (name ∷ taken) ws) n))
    by f true e l = k.0
    by f false e (inl l) = absurd (clash (sym (is_for_it n title x w l) ∙ e))
    by f false e (inr l) = f l

pub title_any : (Q : Word → Type 0) (gs : List Given) (n : ℕ) → Q [] → AllByRecursion (λ g. Q g.written) gs → Q (title_for gs n)
title_any Q [] n h k = h
title_any Q (g ∷ gs) n h k = by (is_for n title g.want) (title_any Q gs n h k.1)
  where
    by : (b : Bool) → Q (title_for gs n) → Q (cond b g.written (title_for gs n))
    by true f = k.0
    by false f = f

-- different names of one role and unit are written apart
pub one_written : (extended taken : List Word) (ws : List Want) (n : ℕ) (r : Role) (x y : Word) → Apart (give extended taken ws)
    → OneOf (want_of n r x) ws → OneOf (want_of n r y) ws → written_for (give extended taken ws) n r x ≡ written_for (give extended taken ws) n r y → x ≡ y
one_written extended taken ws n r x y a h k e =
    let f = looked extended taken ws n r x h in
    let g = looked extended taken ws n r y k in
    let same : f.found ≡ g.found = one_given (give extended taken ws) f.found g.found a f.listed g.listed (sym f.written ∙ e ∙ g.written) in
    ap (λ w. w.word) (sym f.is ∙ ap (λ u. u.want) same ∙ g.is)
