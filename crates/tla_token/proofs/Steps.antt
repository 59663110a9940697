-- Steps of loops over bytes: comments, strings, numbers.
use Rattle.std.proofs.Common.{◌≡◌, ℕ, zero, suc, ◌+◌, ◌-◌, ◌*◌, ◌/◌, ◌^◌, ◌<◌, ◌≤◌, Bool, true, false, nat_eq, nat_lt, List, [], ◌∷◌, length, get_or, drop, find, Option, Some, None, is_some, fold, refl, ap, arith, add-one, drop-cons, length-drop}
use Rattle.std.proofs.lemmas.Bool.{le-ltb}
use Rattle.std.specs.Option.{option_map}
use Rattle.std.specs.List.{list_any}
use Rattle.tla_token.specs.Lexemes.{number_of}
use Rattle.tla_token.specs.Tokens.{is_pair, holds_mark}
use Rattle.tla_token.specs.Scan.{in_128_bits}
use Rattle.tla_token.specs.Cut.{plus, comment_len}

pub some_found : {A : Type 0} {B : Type 0} (f : A → B) (p : A → Bool) (xs : List A) → is_some (option_map f (find p xs)) ≡ list_any p xs
some_found f p [] = refl
some_found f p (x ∷ xs) = by (p x) refl (some_found f p xs)
  where
    by : (k : Bool) → p x ≡ k → is_some (option_map f (find p xs)) ≡ list_any p xs → is_some (option_map f (find p (x ∷ xs))) ≡ list_any p (x ∷ xs)
    by true e h = rw e refl
    by false e h = rw e h

-- ---- comments

pub byte_there : (at : ℕ) (text : List ℕ) → at < length text → drop at text ≡ get_or text at 0 ∷ drop (at + 1) text
byte_there at text l = rw add-one (drop-cons text at 0 l)

pub two_there : (at : ℕ) (text : List ℕ) → at + 1 < length text → drop at text ≡ get_or text at 0 ∷ get_or text (at + 1) 0 ∷ drop (at + 2) text
two_there at text l =
    let a : drop at text ≡ get_or text at 0 ∷ drop (at + 1) text = byte_there at text (omega arith) in
    let b : drop (at + 1) text ≡ get_or text (at + 1) 0 ∷ drop (at + 2) text =
    (let c : drop (at + 1) text ≡ get_or text (at + 1) 0 ∷ drop (suc (at + 1)) text = drop-cons text (at + 1) 0 l in
    let e : suc (at + 1) ≡ at + 2 = omega arith in rw e at c) in
    rw (a, b) refl

plus_plus : (a b : ℕ) (o : Option ℕ) → plus a (plus b o) ≡ plus (a + b) o
plus_plus a b None = refl
plus_plus a b (Some k) = ap Some (omega arith)

pub opened : (d at : ℕ) (text : List ℕ) → 0 < d → at + 1 < length text → is_pair 40 42 (get_or text at 0) (get_or text (at + 1) 0) ≡ true
    → plus at (comment_len d (drop at text)) ≡ plus (at + 2) (comment_len (d + 1) (drop (at + 2) text))
opened zero at text p l t = absurd (omega arith)
opened (suc d) at text p l t =
    let e : suc d + 1 ≡ suc (suc d) = omega arith in
    rw (two_there at text l, t, e) (plus_plus at 2 (comment_len (suc (suc d)) (drop (at + 2) text)))

pub closed : (d at : ℕ) (text : List ℕ) → 0 < d → at + 1 < length text → is_pair 40 42 (get_or text at 0) (get_or text (at + 1) 0) ≡ false → is_pair 42 41 (get_or text at 0) (get_or text (at + 1) 0) ≡ true
    → plus at (comment_len d (drop at text)) ≡ plus (at + 2) (comment_len (d - 1) (drop (at + 2) text))
closed zero at text p l t u = absurd (omega arith)
closed (suc d) at text p l t u =
    let e : suc d - 1 ≡ d = omega arith in
    rw (two_there at text l, t, u, e) (plus_plus at 2 (comment_len d (drop (at + 2) text)))

pub passed : (d at : ℕ) (text : List ℕ) → 0 < d → at + 1 < length text → is_pair 40 42 (get_or text at 0) (get_or text (at + 1) 0) ≡ false → is_pair 42 41 (get_or text at 0) (get_or text (at + 1) 0) ≡ false
    → plus at (comment_len d (drop at text)) ≡ plus (at + 1) (comment_len d (drop (at + 1) text))
passed zero at text p l t u = absurd (omega arith)
passed (suc d) at text p l t u =
    let b : drop (at + 1) text ≡ get_or text (at + 1) 0 ∷ drop (at + 2) text =
    (let c : drop (at + 1) text ≡ get_or text (at + 1) 0 ∷ drop (suc (at + 1)) text = drop-cons text (at + 1) 0 l in
    let e : suc (at + 1) ≡ at + 2 = omega arith in rw e at c) in
    rw (b, two_there at text l, t, u) (plus_plus at 1 (comment_len (suc d) (get_or text (at + 1) 0 ∷ drop (at + 2) text)))

pub too_short : (d at : ℕ) (text : List ℕ) → 0 < d → length text ≤ at + 1 → comment_len d (drop at text) ≡ None
too_short zero at text p l = absurd (omega arith)
too_short (suc d) at text p l = short d (drop at text) (rw length-drop (omega arith))
  where
    short : (d : ℕ) (bs : List ℕ) → length bs ≤ 1 → comment_len (suc d) bs ≡ None
    short d [] l = refl
    short d (a ∷ []) l = refl
    short d (a ∷ b ∷ bs) l = absurd (omega arith)

-- ---- marks of comments

pub short_mark : (at : ℕ) (bs : List ℕ) → length bs ≤ at → false ≡ holds_mark (drop (at - 1) bs)
short_mark at bs l = short (drop (at - 1) bs) (rw length-drop (omega arith))
  where
    one : (b : ℕ) → false ≡ holds_mark (b ∷ [])
    one b = by (nat_eq 40 b) refl (nat_eq 42 b) refl
      where
        by : (k : Bool) → nat_eq 40 b ≡ k → (j : Bool) → nat_eq 42 b ≡ j → false ≡ holds_mark (b ∷ [])
        by true k true j = rw (k, j) refl
        by true k false j = rw (k, j) refl
        by false k true j = rw (k, j) refl
        by false k false j = rw (k, j) refl

    short : (bs : List ℕ) → length bs ≤ 1 → false ≡ holds_mark bs
    short [] l = refl
    short (a ∷ []) l = one a
    short (a ∷ b ∷ bs) l = absurd (omega arith)

-- ---- numbers

abbrev digit_on : ℕ → ℕ → ℕ
digit_on n b = 10 * n + (b - 48)

number_grows : (v : ℕ) (ds : List ℕ) → v ≤ fold (λ n b. 10 * n + (b - 48)) v ds
number_grows v [] = omega arith
number_grows v (d ∷ ds) = (let h = number_grows (10 * v + (d - 48)) ds in omega arith)

pub too_big : (v i : ℕ) (ds : List ℕ) → i < length ds → fold (λ n b. 10 * n + (b - 48)) v (drop i ds) ≡ number_of ds → (2 ^ 128 - 1 - (get_or ds i 0 - 48)) / 10 < v → None ≡ in_128_bits (number_of ds)
too_big v i ds l e h =
    let next : fold (λ n b. 10 * n + (b - 48)) v (drop i ds) ≡ fold (λ n b. 10 * n + (b - 48)) (10 * v + (get_or ds i 0 - 48)) (drop (i + 1) ds) = rw byte_there refl in
    let grown = number_grows (10 * v + (get_or ds i 0 - 48)) (drop (i + 1) ds) in
    let big : 2 ^ 128 ≤ number_of ds = omega arith in
    past (number_of ds) big
  where
    past : (n : ℕ) → 2 ^ 128 ≤ n → None ≡ in_128_bits n
    past n big = (let k : nat_lt n (2 ^ 128) ≡ false = le-ltb n (2 ^ 128) big in rw k refl)
