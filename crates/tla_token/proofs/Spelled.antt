-- Signs by their table: the longest spelling at the front of a text is the one that is found first there.
use Rattle.std.proofs.Common.{◌≡◌, ℕ, ◌≤◌, Bool, true, false, not, ◌&&◌, nat_eq, List, [], ◌∷◌, ◌++◌, length, drop, Some, None, refl, sym, ap, subst, cond, ◌∙◌, inl, inr, arith, find, MatchBool}
use Rattle.std.specs.List.{list_all, list_any, starts_with}
use Rattle.std.specs.Str.{bytes_eq}
use Rattle.std.proofs.lemmas.Slice.Eq.{bytes_eq-Decides, starts_is}
use Rattle.std.proofs.lemmas.Bool.{and_parts, or_cases, or_parts, or_left, or_right, eqb-true, false_from_ne_true, both_ways}
use Rattle.std.proofs.lemmas.Bool.Decides.{Decides-eqb}
use Rattle.tla_token.specs.declared.sign.Sign.{Sign}
use Rattle.tla_token.specs.declared.sign.Sign.TheVariants as sign
use Rattle.tla_token.specs.Signs.{spellings, is_among, all_signs, spelled_by, is_sign}
use Rattle.tla_token.specs.Lexemes.{one, is_letter, is_word, is_printed, IsLongest}
use Rattle.tla_token.specs.Cut.{spelling_at, sign_at, sign_of}

abbrev pub begins : List ℕ → List ℕ → Bool
begins bytes w = starts_with nat_eq bytes w

pub begins_is : (bytes w : List ℕ) → begins bytes w ≡ true → bytes ≡ w ++ drop (length w) bytes
begins_is bytes w h = (starts_is Decides-eqb bytes w (begins bytes w) refl).0 h

pub begins_from : (bytes w rest : List ℕ) → bytes ≡ w ++ rest → begins bytes w ≡ true
begins_from bytes w rest e = (starts_is Decides-eqb bytes w (begins bytes w) refl).1 rest e

pub same_bytes : (v w : List ℕ) → bytes_eq v w ≡ true → v ≡ w
same_bytes v w h = (bytes_eq-Decides v w).0 h

-- ---- what holds of each spelling of each sign

-- a backslash with a word
abbrev pub is_worded : List ℕ → Bool
is_worded [] = false
is_worded (b ∷ v) = nat_eq b 92 && list_all is_word v && list_any is_letter v

abbrev pub is_mark : ℕ → Bool
is_mark b = is_printed b && not (nat_eq b 34) && not (is_word b)

-- a spelling of s is a word that is looked up, or marks of which the longest is found first
abbrev pub Row : Sign → List ℕ → Type 0
Row s w = MatchBool (is_worded w) (sign_of w ≡ Some s) ((list_all is_mark w ≡ true) × (sign_at w ≡ Some s) × (spelling_at (spellings s) w ≡ Some w))

abbrev pub Rows : Sign → List (List ℕ) → Type 0
Rows s [] = Unit {0}
Rows s (w ∷ ws) = Row s w × Rows s ws

rows : (s : Sign) → Rows s (spellings s)
rows sign.MapsTo = ((refl, refl, refl), tt)
rows sign.Equivalent = ((refl, refl, refl), (refl, tt))
rows sign.Assign = ((refl, refl, refl), tt)
rows sign.Parallel = ((refl, refl, refl), tt)
rows sign.Pair = ((refl, refl, refl), tt)
rows sign.Override = ((refl, refl, refl), tt)
rows sign.Range = ((refl, refl, refl), tt)
rows sign.And = ((refl, refl, refl), (refl, tt))
rows sign.Or = ((refl, refl, refl), (refl, tt))
rows sign.Implies = ((refl, refl, refl), tt)
rows sign.Arrow = ((refl, refl, refl), tt)
rows sign.Defined = ((refl, refl, refl), tt)
rows sign.OpenTuple = ((refl, refl, refl), tt)
rows sign.CloseTuple = ((refl, refl, refl), tt)
rows sign.AtMost = ((refl, refl, refl), ((refl, refl, refl), (refl, tt)))
rows sign.AtLeast = ((refl, refl, refl), (refl, tt))
rows sign.NotEqual = ((refl, refl, refl), ((refl, refl, refl), tt))
rows sign.Box = ((refl, refl, refl), tt)
rows sign.Colon = ((refl, refl, refl), tt)
rows sign.Semicolon = ((refl, refl, refl), tt)
rows sign.Comma = ((refl, refl, refl), tt)
rows sign.Dot = ((refl, refl, refl), tt)
rows sign.OpenRound = ((refl, refl, refl), tt)
rows sign.CloseRound = ((refl, refl, refl), tt)
rows sign.OpenSquare = ((refl, refl, refl), tt)
rows sign.CloseSquare = ((refl, refl, refl), tt)
rows sign.OpenCurly = ((refl, refl, refl), tt)
rows sign.CloseCurly = ((refl, refl, refl), tt)
rows sign.Equal = ((refl, refl, refl), tt)
rows sign.Less = ((refl, refl, refl), tt)
rows sign.Greater = ((refl, refl, refl), tt)
rows sign.Plus = ((refl, refl, refl), tt)
rows sign.Minus = ((refl, refl, refl), tt)
rows sign.Times = ((refl, refl, refl), tt)
rows sign.Percent = ((refl, refl, refl), tt)
rows sign.Not = ((refl, refl, refl), (refl, (refl, tt)))
rows sign.Bang = ((refl, refl, refl), tt)
rows sign.Without = ((refl, refl, refl), tt)
rows sign.In = (refl, tt)
rows sign.NotIn = (refl, tt)
rows sign.SubsetEq = (refl, tt)
rows sign.Cup = (refl, (refl, tt))
rows sign.Cap = (refl, (refl, tt))
rows sign.Divide = (refl, tt)
rows sign.Concat = (refl, (refl, tt))
rows sign.ForAll = (refl, tt)
rows sign.Exists = (refl, tt)

pub row_at : (s : Sign) (ws : List (List ℕ)) (w : List ℕ) → Rows s ws → is_among ws w ≡ true → Row s w
row_at s [] w h i = absurd cc
row_at s (v ∷ ws) w (r, h) i =
    elim (or_cases (bytes_eq v w) (is_among ws w) i) [
      | inl e ↦ (let R : List ℕ → Type 0 = λ u. Row s u in subst R (same_bytes v w e) r)
      | inr j ↦ row_at s ws w h j
    ]

pub row_of : (s : Sign) (w : List ℕ) → is_among (spellings s) w ≡ true → Row s w
row_of s w i = row_at s (spellings s) w (rows s) i

pub no_empty : (s : Sign) → is_among (spellings s) [] ≡ true → ⊥
no_empty s i = (let r = row_of s [] i in let e : None ≡ Some s = r.1 in cc)

-- ---- what begins before a longest lexeme

pub begins_same : (w rest u : List ℕ) → (begins (w ++ rest) u ≡ true → length u ≤ length w) → begins (w ++ rest) u ≡ begins w u
begins_same w rest [] h = refl
begins_same [] rest (c ∷ u) h = false_from_ne_true (begins rest (c ∷ u)) (λ t. omega (arith, h t))
begins_same (a ∷ w) rest (c ∷ u) h = by (nat_eq c a) refl (λ l. begins_same w rest u l)
  where
    by : (k : Bool) → nat_eq c a ≡ k → ((begins (w ++ rest) u ≡ true → length u ≤ length w) → begins (w ++ rest) u ≡ begins w u) → begins (a ∷ (w ++ rest)) (c ∷ u) ≡ begins (a ∷ w) (c ∷ u)
    by true k same = rw k (same (λ t. (let e : begins (a ∷ (w ++ rest)) (c ∷ u) ≡ true = rw k t in omega (arith, h e))))
    by false k same = rw k refl

pub among_head : (v : List ℕ) (ws : List (List ℕ)) → is_among (v ∷ ws) v ≡ true
among_head v ws = or_left (bytes_eq v v) (is_among ws v) ((bytes_eq-Decides v v).1 refl)

any_same : (x y : List ℕ) (ws : List (List ℕ)) → ((u : List ℕ) → is_among ws u ≡ true → begins x u ≡ begins y u) → list_any (λ w. begins x w) ws ≡ list_any (λ w. begins y w) ws
any_same x y [] h = refl
any_same x y (v ∷ ws) h = rw (h v (among_head v ws), any_same x y ws (λ u i. h u (or_right (bytes_eq v u) (is_among ws u) i))) refl

pub spelling_same : (x y : List ℕ) (ws : List (List ℕ)) → ((u : List ℕ) → is_among ws u ≡ true → begins x u ≡ begins y u) → spelling_at ws x ≡ spelling_at ws y
spelling_same x y [] h = refl
spelling_same x y (v ∷ ws) h = rw (h v (among_head v ws), spelling_same x y ws (λ u i. h u (or_right (bytes_eq v u) (is_among ws u) i))) refl

abbrev pub stands_at : List ℕ → Sign → Bool
stands_at x s = list_any (λ w. begins x w) (spellings s)

signs_same : (x y : List ℕ) (ss : List Sign) → ((s : Sign) (u : List ℕ) → is_among (spellings s) u ≡ true → begins x u ≡ begins y u) → find (stands_at x) ss ≡ find (stands_at y) ss
signs_same x y [] h = refl
signs_same x y (s ∷ ss) h = by (stands_at x s) (stands_at y s) (any_same x y (spellings s) (h s)) (signs_same x y ss h)
  where
    by : (a b : Bool) → a ≡ b → find (stands_at x) ss ≡ find (stands_at y) ss → cond a (Some s) (find (stands_at x) ss) ≡ cond b (Some s) (find (stands_at y) ss)
    by a b e f = rw (e, f) refl

pub begun : (w rest : List ℕ) → IsLongest w rest → (s : Sign) (u : List ℕ) → is_among (spellings s) u ≡ true → begins (w ++ rest) u ≡ begins w u
begun w rest longest s u i = begins_same w rest u (λ t. longest (one s) u (drop (length u) (w ++ rest)) i (begins_is (w ++ rest) u t))

pub sign_before : (w rest : List ℕ) → IsLongest w rest → sign_at (w ++ rest) ≡ sign_at w
sign_before w rest longest = signs_same (w ++ rest) w all_signs (begun w rest longest)

pub spelling_before : (s : Sign) (w rest : List ℕ) → IsLongest w rest → spelling_at (spellings s) (w ++ rest) ≡ spelling_at (spellings s) w
spelling_before s w rest longest = spelling_same (w ++ rest) w (spellings s) (begun w rest longest s)

-- ---- what is no sign

pub none_spelled : (w : List ℕ) (ss : List Sign) → spelled_by ss w ≡ false → find (λ s. is_among (spellings s) w) ss ≡ None
none_spelled w [] h = refl
none_spelled w (s ∷ ss) h = (let p = or_parts (is_among (spellings s) w) (spelled_by ss w) h in rw (p.0, none_spelled w ss p.1) refl)

pub spelled_some : (w : List ℕ) (ss : List Sign) → spelled_by ss w ≡ true → (s : Sign) × (is_among (spellings s) w ≡ true)
spelled_some w [] h = absurd cc
spelled_some w (s ∷ ss) h = elim (or_cases (is_among (spellings s) w) (spelled_by ss w) h) [ inl e ↦ (s, e) | inr e ↦ spelled_some w ss e ]

pub any_some : (x : List ℕ) (ws : List (List ℕ)) → list_any (λ w. begins x w) ws ≡ true → (u : List ℕ) × (is_among ws u ≡ true) × (begins x u ≡ true)
any_some x [] h = absurd cc
any_some x (v ∷ ws) h =
    elim (or_cases (begins x v) (list_any (λ w. begins x w) ws) h) [
      | inl e ↦ (v, among_head v ws, e)
      | inr e ↦ (let r = any_some x ws e in (r.0, or_right (bytes_eq v r.0) (is_among ws r.0) r.1, r.2))
    ]

pub one_byte : (s : Sign) (b : ℕ) (u : List ℕ) → is_among (spellings s) u ≡ true → begins (b ∷ []) u ≡ true → is_among (spellings s) (b ∷ []) ≡ true
one_byte s b [] i h = absurd (no_empty s i)
one_byte s b (c ∷ []) i h = (let e : c ≡ b = eqb-true c b (and_parts (nat_eq c b) true h).0 in rw e at i)
one_byte s b (c ∷ d ∷ u) i h = (let f : false ≡ true = (and_parts (nat_eq c b) false h).1 in absurd cc)

none_stands : (b : ℕ) (ss : List Sign) → spelled_by ss (b ∷ []) ≡ false → find (stands_at (b ∷ [])) ss ≡ None
none_stands b [] h = refl
none_stands b (s ∷ ss) h =
    let p = or_parts (is_among (spellings s) (b ∷ [])) (spelled_by ss (b ∷ [])) h in
    let none : stands_at (b ∷ []) s ≡ false = false_from_ne_true (stands_at (b ∷ []) s) (λ t. (let r = any_some (b ∷ []) (spellings s) t in both_ways (is_among (spellings s) (b ∷ [])) p.0 (one_byte s b r.0 r.1 r.2))) in
    rw (none, none_stands b ss p.1) refl

pub no_sign_at : (b : ℕ) → is_sign (b ∷ []) ≡ false → sign_at (b ∷ []) ≡ None
no_sign_at b h = none_stands b all_signs h

-- ---- a byte that is not printable begins no sign

pub find_none : {A : Type 0} (p : A → Bool) (xs : List A) → ((x : A) → p x ≡ false) → find p xs ≡ None
find_none p [] h = refl
find_none p (x ∷ xs) h = rw (h x, find_none p xs h) refl

first_printed : (s : Sign) (c : ℕ) (u : List ℕ) → is_among (spellings s) (c ∷ u) ≡ true → is_printed c ≡ true
first_printed s c u i = by (is_worded (c ∷ u)) refl (row_of s (c ∷ u) i)
  where
    by : (k : Bool) → is_worded (c ∷ u) ≡ k → Row s (c ∷ u) → is_printed c ≡ true
    by true e r =
        let q = and_parts (nat_eq c 92) (list_all is_word u) (and_parts (nat_eq c 92 && list_all is_word u) (list_any is_letter u) e).0 in
        ap is_printed (eqb-true c 92 q.0)
    by false e r =
        let m : (list_all is_mark (c ∷ u) ≡ true) × (sign_at (c ∷ u) ≡ Some s) × (spelling_at (spellings s) (c ∷ u) ≡ Some (c ∷ u)) = rw e at r in
        let p = and_parts (is_printed c && not (nat_eq c 34)) (not (is_word c)) (and_parts (is_mark c) (list_all is_mark u) m.0).0 in
        (and_parts (is_printed c) (not (nat_eq c 34)) p.0).0

pub no_sign_unprinted : (b : ℕ) (bs : List ℕ) → is_printed b ≡ false → sign_at (b ∷ bs) ≡ None
no_sign_unprinted b bs h =
    find_none (stands_at (b ∷ bs)) all_signs (λ s. false_from_ne_true (stands_at (b ∷ bs) s) (λ t. (let r = any_some (b ∷ bs) (spellings s) t in by s r.0 r.1 r.2)))
  where
    by : (s : Sign) (u : List ℕ) → is_among (spellings s) u ≡ true → begins (b ∷ bs) u ≡ true → ⊥
    by s [] i t = no_empty s i
    by s (c ∷ u) i t =
        let e : c ≡ b = eqb-true c b (and_parts (nat_eq c b) (begins bs u) t).0 in
        both_ways (is_printed b) h (ap is_printed (sym e) ∙ first_printed s c u i)
