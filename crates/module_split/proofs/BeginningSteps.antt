-- How far code comes in a text, and what begins at each place of it.
use Rattle.std.proofs.Common.{◌≡◌, ℕ, zero, suc, ◌+◌, ◌-◌, ◌<◌, ◌≤◌, Bool, true, false, nat_eq, nat_le, List, [], ◌∷◌, ◌++◌, length, take, drop, Option, Some, None, codes, refl, sym, ap, ◌∙◌, arith, append_assoc, length-append, length-drop}
use Rattle.std.specs.Prelude.{is_some}
use Rattle.std.specs.List.{list_any}
use Rattle.std.proofs.lemmas.List.{drop_all, drop-take, length-take-le}
use Rattle.std.proofs.lemmas.Bool.{leb-true, leb-false}
use Rattle.tla_token.specs.declared.rule.Rule.{Rule}
use Rattle.tla_token.specs.Lexemes.{is_blank, is_word, is_letter}
use Rattle.tla_token.specs.Tokens.{stretch}
use Rattle.tla_token.specs.Offences.{Offence, least}
use Rattle.tla_token.specs.Cut.{run}
use Rattle.tla_token.specs.Readings.{joined}
use Rattle.tla_token.proofs.Words.{one_plus}
use Rattle.tla_token.proofs.Spelled.{begins_is}
use Rattle.tla_token.proofs.Scans.{drop_more}
use Rattle.tla_token.proofs.Faults.{joined_assoc}
use Rattle.module_tree.specs.TextFront.{Text, begins, past_all, first_is, past_word, past_blanks, past_name, on_some}
use Rattle.module_tree.specs.Beginnings.{is_fair, past_opening, begins_algorithm, is_options, index_if, all_at}
use Rattle.module_tree.specs.FileOffences.{offences_at}
use Rattle.module_split.specs.BeginningsSeen.{IsPast}

-- ---- blanks, words and names

pub past_is_drop : (p : ℕ → Bool) (s : Text) → past_all p s ≡ drop (length (run p s)) s
past_is_drop p [] = refl
past_is_drop p (b ∷ s) = by (p b) refl (past_is_drop p s)
  where
    by : (k : Bool) → p b ≡ k → past_all p s ≡ drop (length (run p s)) s → past_all p (b ∷ s) ≡ drop (length (run p (b ∷ s))) (b ∷ s)
    by true k deeper = rw (k, one_plus) deeper
    by false k deeper = rw k refl

some_blank : (p : ℕ → Bool) (s : Text) → 0 < length (run p s) → first_is p s ≡ true
some_blank p [] l = absurd (omega arith)
some_blank p (b ∷ s) l = by (p b) refl
  where
    by : (k : Bool) → p b ≡ k → p b ≡ true
    by true k = k
    by false k = (let none : 0 < 0 = rw k at l in absurd (omega arith))

no_blank : (p : ℕ → Bool) (s : Text) → length (run p s) ≤ 0 → first_is p s ≡ false
no_blank p [] l = refl
no_blank p (b ∷ s) l = by (p b) refl
  where
    by : (k : Bool) → p b ≡ k → p b ≡ false
    by true k = (let some : suc (length (run p s)) ≤ 0 = rw (k, one_plus) at l in absurd (omega arith))
    by false k = k

pub within : (w s : Text) → begins s w ≡ true → length w ≤ length s
within w s h = (let e = ap length (begins_is s w h) in omega (arith, length-append w (drop (length w) s)))

-- where blanks are passed
blanks_passed : (s : Text) (m n : ℕ) → n ≡ length (run is_blank (drop m s)) → past_all is_blank (drop m s) ≡ drop (m + n) s
blanks_passed s m n e = past_is_drop is_blank (drop m s) ∙ ap (λ (k : ℕ). drop k (drop m s)) (sym e) ∙ drop_more m n s

-- ---- first words

pub fair_no : (s : Text) → begins s (codes "--fair") ≡ false → false ≡ is_fair s
fair_no s h = rw h refl

pub fair_blankless : (s : Text) (n : ℕ) → begins s (codes "--fair") ≡ true → n ≡ length (run is_blank (drop 6 s)) → n ≤ 0 → false ≡ is_fair s
fair_blankless s n h e l = (let f : first_is is_blank (drop 6 s) ≡ false = no_blank is_blank (drop 6 s) (omega arith) in rw (h, f) refl)

pub fair_wordless : (s : Text) (n : ℕ) → begins s (codes "--fair") ≡ true → n ≡ length (run is_blank (drop 6 s)) → 0 < n → begins (drop (6 + n) s) (codes "algorithm") ≡ false → false ≡ is_fair s
fair_wordless s n h e l g =
    let f : first_is is_blank (drop 6 s) ≡ true = some_blank is_blank (drop 6 s) (omega arith) in
    let p = blanks_passed s 6 n e in
    rw (h, f, p, g) refl

pub fair_yes : (s : Text) (n : ℕ) → begins s (codes "--fair") ≡ true → n ≡ length (run is_blank (drop 6 s)) → 0 < n → begins (drop (6 + n) s) (codes "algorithm") ≡ true → true ≡ is_fair s
fair_yes s n h e l g =
    let f : first_is is_blank (drop 6 s) ≡ true = some_blank is_blank (drop 6 s) (omega arith) in
    let p = blanks_passed s 6 n e in
    rw (h, f, p, g) refl

pub fair_past : (s : Text) (n : ℕ) → n ≡ length (run is_blank (drop 6 s)) → begins (drop (6 + n) s) (codes "algorithm") ≡ true
    → ((6 + n) + 9 ≤ length s) × (past_word (codes "algorithm") (past_all is_blank (drop 6 s)) ≡ Some (drop ((6 + n) + 9) s))
fair_past s n e g =
    let l : 9 ≤ length (drop (6 + n) s) = within (codes "algorithm") (drop (6 + n) s) g in
    let p = blanks_passed s 6 n e in
    (omega (arith, length-drop (6 + n) s), rw (p, g) (ap Some (drop_more (6 + n) 9 s)))

pub opened_fair : (s : Text) (n : ℕ) → true ≡ is_fair s → n ≤ length s → past_word (codes "algorithm") (past_all is_blank (drop 6 s)) ≡ Some (drop n s) → IsPast (Some n) s (past_opening s)
opened_fair s n f l e = (l, (let g : is_fair s ≡ true = sym f in rw g e))

pub opened_plain : (s : Text) → false ≡ is_fair s → begins s (codes "--algorithm") ≡ true → IsPast (Some 11) s (past_opening s)
opened_plain s f h = (within (codes "--algorithm") s h, (let g : is_fair s ≡ false = sym f in rw (g, h) refl))

pub opened_not : (s : Text) → false ≡ is_fair s → begins s (codes "--algorithm") ≡ false → IsPast None s (past_opening s)
opened_not s f h = (let g : is_fair s ≡ false = sym f in rw (g, h) refl)

-- ---- names

pub named_yes : (s : Text) (n : ℕ) → n ≡ length (run is_blank s) → 0 < n → is_some (past_name (drop n s)) ≡ is_some (on_some (past_blanks is_blank s) past_name)
named_yes s n e l =
    let f : first_is is_blank s ≡ true = some_blank is_blank s (omega arith) in
    let p : past_all is_blank s ≡ drop n s = past_is_drop is_blank s ∙ ap (λ (k : ℕ). drop k s) (sym e) in
    rw (f, p) refl

pub named_no : (s : Text) (n : ℕ) → n ≡ length (run is_blank s) → n ≤ 0 → false ≡ is_some (on_some (past_blanks is_blank s) past_name)
named_no s n e l = (let f : first_is is_blank s ≡ false = no_blank is_blank s (omega arith) in rw f refl)

pub name_is : (s : Text) (k : Bool) → k ≡ list_any is_letter (run is_word s) → k ≡ is_some (past_name s)
name_is s true e = (let f : list_any is_letter (run is_word s) ≡ true = sym e in rw f refl)
name_is s false e = (let f : list_any is_letter (run is_word s) ≡ false = sym e in rw f refl)

pub begun : (s : Text) (n : ℕ) (k : Bool) → IsPast (Some n) s (past_opening s) → k ≡ is_some (on_some (past_blanks is_blank (drop n s)) past_name) → k ≡ begins_algorithm s
begun s n k (l, e) h = h ∙ ap (λ (o : Option Text). is_some (on_some o (λ r. on_some (past_blanks is_blank r) past_name))) (sym e)

pub not_begun : (s : Text) → past_opening s ≡ None → false ≡ begins_algorithm s
not_begun s e = ap (λ (o : Option Text). is_some (on_some o (λ r. on_some (past_blanks is_blank r) past_name))) (sym e)

-- what begins with a byte is not where another byte is, or none
first_byte : (c : ℕ) (s w : Text) → begins s (c ∷ []) ≡ false → begins s (c ∷ w) ≡ false
first_byte c [] w h = refl
first_byte c (b ∷ s) w h = by (nat_eq c b) refl
  where
    by : (k : Bool) → nat_eq c b ≡ k → begins (b ∷ s) (c ∷ w) ≡ false
    by true e = (let g : true ≡ false = rw e at h in cc)
    by false e = rw e refl

pub unbegun : (s : Text) → begins s (45 ∷ []) ≡ false → false ≡ begins_algorithm s
unbegun s h =
    let f : begins s (codes "--fair") ≡ false = first_byte 45 s (codes "-fair") h in
    let a : begins s (codes "--algorithm") ≡ false = first_byte 45 s (codes "-algorithm") h in
    rw (f, a) refl

-- ---- options

pub options_unbegun : (s : Text) → begins s (80 ∷ []) ≡ false → false ≡ is_options s
options_unbegun s h = (let p : begins s (codes "PlusCal") ≡ false = first_byte 80 s (codes "lusCal") h in rw p refl)

abbrev opens : Text → Option Text
opens r = on_some (past_word (codes "options") r) (λ r. past_word (codes "(") (past_all is_blank r))

pub options_no : (s : Text) → begins s (codes "PlusCal") ≡ false → false ≡ is_options s
options_no s h = rw h refl

pub options_blankless : (s : Text) (n : ℕ) → begins s (codes "PlusCal") ≡ true → n ≡ length (run is_blank (drop 7 s)) → n ≤ 0 → false ≡ is_options s
options_blankless s n h e l = (let f : first_is is_blank (drop 7 s) ≡ false = no_blank is_blank (drop 7 s) (omega arith) in rw (h, f) refl)

pub options_yes : (s : Text) (n : ℕ) (k : Bool) → begins s (codes "PlusCal") ≡ true → n ≡ length (run is_blank (drop 7 s)) → 0 < n
    → k ≡ is_some (on_some (past_word (codes "options") (drop n (drop 7 s))) (λ r. past_word (codes "(") (past_all is_blank r))) → k ≡ is_options s
options_yes s n k h e l g =
    let f : first_is is_blank (drop 7 s) ≡ true = some_blank is_blank (drop 7 s) (omega arith) in
    let p : past_all is_blank (drop 7 s) ≡ drop n (drop 7 s) = past_is_drop is_blank (drop 7 s) ∙ ap (λ (k : ℕ). drop k (drop 7 s)) (sym e) in
    g ∙ rw (h, f, p) refl

pub opens_no : (s : Text) → begins s (codes "options") ≡ false → false ≡ is_some (opens s)
opens_no s h = rw h refl

pub opens_yes : (s : Text) (n : ℕ) (k : Bool) → begins s (codes "options") ≡ true → n ≡ length (run is_blank (drop 7 s)) → k ≡ begins (drop n (drop 7 s)) (codes "(") → k ≡ is_some (opens s)
opens_yes s n k h e g =
    let p : past_all is_blank (drop 7 s) ≡ drop n (drop 7 s) = past_is_drop is_blank (drop 7 s) ∙ ap (λ (k : ℕ). drop k (drop 7 s)) (sym e) in
    by k g
  where
    by : (k : Bool) → k ≡ begins (drop n (drop 7 s)) (codes "(") → k ≡ is_some (opens s)
    by true g = (let q : past_all is_blank (drop 7 s) ≡ drop n (drop 7 s) = past_is_drop is_blank (drop 7 s) ∙ ap (λ (k : ℕ). drop k (drop 7 s)) (sym e) in let t : begins (drop n (drop 7 s)) (codes "(") ≡ true = sym g in rw (h, q, t) refl)
    by false g = (let q : past_all is_blank (drop 7 s) ≡ drop n (drop 7 s) = past_is_drop is_blank (drop 7 s) ∙ ap (λ (k : ℕ). drop k (drop 7 s)) (sym e) in let t : begins (drop n (drop 7 s)) (codes "(") ≡ false = sym g in rw (h, q, t) refl)

-- ---- all places

-- a text at one of its places
pub here_is : (i : ℕ) (s : Text) → i < length s → (b : ℕ) × (drop i s ≡ b ∷ drop (i + 1) s)
here_is zero [] l = absurd (omega arith)
here_is zero (b ∷ s) l = (b, refl)
here_is (suc i) [] l = absurd (omega arith)
here_is (suc i) (b ∷ s) l = (let e : suc i + 1 ≡ suc (i + 1) = omega arith in let d = here_is i s (omega arith) in (d.0, rw e d.1))

places_on : (p : Text → Bool) (i : ℕ) (s : Text) → i < length s → all_at p i (drop i s) ≡ index_if (p (drop i s)) i (all_at p (i + 1) (drop (i + 1) s))
places_on p i s l =
    let d = here_is i s l in
    let f : suc i ≡ i + 1 = omega arith in
    ap (all_at p i) d.1 ∙ (λ j. index_if (p (sym d.1 j)) i (all_at p (f j) (drop (i + 1) s)))

pub place_yes : (p : Text → Bool) (i : ℕ) (s : Text) → i < length s → p (drop i s) ≡ true → all_at p i (drop i s) ≡ i ∷ all_at p (i + 1) (drop (i + 1) s)
place_yes p i s l h = places_on p i s l ∙ ap (λ (k : Bool). index_if k i (all_at p (i + 1) (drop (i + 1) s))) h

pub place_no : (p : Text → Bool) (i : ℕ) (s : Text) → i < length s → p (drop i s) ≡ false → all_at p i (drop i s) ≡ all_at p (i + 1) (drop (i + 1) s)
place_no p i s l h = places_on p i s l ∙ ap (λ (k : Bool). index_if k i (all_at p (i + 1) (drop (i + 1) s))) h

pub places_done : (p : Text → Bool) (i : ℕ) (s : Text) → length s ≤ i → all_at p i (drop i s) ≡ []
places_done p i s l = ap (all_at p i) (drop_all i s l)

-- a stretch, as the end of what is looked at
pub stretch_is : (s : Text) (from to : ℕ) → to ≤ length s → drop from (take to s) ≡ stretch s from to
stretch_is s from to l = by (nat_le from to) refl
  where
    size : length (take to s) ≡ to
    size = length-take-le to s l

    by : (k : Bool) → nat_le from to ≡ k → drop from (take to s) ≡ stretch s from to
    by true k =
        let m : from ≤ to = leb-true from to k in
        let e : to ≡ from + (to - from) = omega arith in
        ap (λ (n : ℕ). drop from (take n s)) e ∙ drop-take from (to - from) s
    by false k =
        let m : to < from = leb-false from to k in
        let e : to - from ≡ 0 = omega arith in
        drop_all from (take to s) (omega (arith, size)) ∙ ap (λ (n : ℕ). take n (drop from s)) (sym e)

-- one more is added
pub added : (xs ys : List ℕ) (n : ℕ) → (xs ++ n ∷ []) ++ ys ≡ xs ++ n ∷ ys
added xs ys n = append_assoc xs (n ∷ []) ys

pub fault_on : (f : Option Offence) (r : Rule) (n : ℕ) (ns : List ℕ) → joined (joined f (Some (r, n))) (least (offences_at r ns)) ≡ joined f (least (offences_at r (n ∷ ns)))
fault_on f r n ns = joined_assoc f (Some (r, n)) (least (offences_at r ns))

-- ---- all places of a stretch

-- at a place of a text up to `to`
abbrev from_place : (Text → Bool) → Text → ℕ → ℕ → List ℕ
from_place p x to at = all_at p at (drop at (take to x))

pub on_yes : (p : Text → Bool) (x : Text) (to at : ℕ) → to ≤ length x → at < to → p (drop at (take to x)) ≡ true → all_at p at (drop at (take to x)) ≡ at ∷ all_at p (at + 1) (drop (at + 1) (take to x))
on_yes p x to at l m h = place_yes p at (take to x) (omega (arith, length-take-le to x l)) h

pub on_no : (p : Text → Bool) (x : Text) (to at : ℕ) → to ≤ length x → at < to → p (drop at (take to x)) ≡ false → all_at p at (drop at (take to x)) ≡ all_at p (at + 1) (drop (at + 1) (take to x))
on_no p x to at l m h = place_no p at (take to x) (omega (arith, length-take-le to x l)) h

pub on_end : (p : Text → Bool) (x : Text) (to at : ℕ) → to ≤ length x → to ≤ at → all_at p at (drop at (take to x)) ≡ []
on_end p x to at l m = places_done p at (take to x) (omega (arith, length-take-le to x l))

pub all_stretch : (p : Text → Bool) (x : Text) (from to : ℕ) → to ≤ length x → all_at p from (drop from (take to x)) ≡ all_at p from (stretch x from to)
all_stretch p x from to l = ap (all_at p from) (stretch_is x from to l)
