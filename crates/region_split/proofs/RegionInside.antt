-- What is between the lines of a translation is walked as it is in the text before the second line.
use Rattle.std.proofs.Common.{◌≡◌, ℕ, zero, suc, ◌+◌, ◌-◌, ◌≤◌, Bool, true, false, nat_eq, List, [], ◌∷◌, length, take, drop, refl, sym, ap, ◌∙◌, arith}
use Rattle.std.specs.Prelude.{All, IfOk, Result, Ok, Err}
use Rattle.std.proofs.lemmas.List.{drop-take, take-take, drop-drop}
use Rattle.tla_token.specs.declared.place.Place.{Place}
use Rattle.tla_token.specs.Places.{start, place_at, after}
use Rattle.tla_token.specs.Tokens.{stretch}
use Rattle.module_tree.specs.TextFront.{Text, whole_line}
use Rattle.module_tree.specs.Walk.{State, walk_from}
use Rattle.module_tree.specs.FileParts.{inside_region}
use Rattle.module_split.specs.declared.stand.Shape.TheVariants as shape
use Rattle.module_split.specs.declared.stand.Stand.{Stand}
use Rattle.module_split.specs.StandsSeen.{segment_of, located_seen, stands_seen, IsSolid}
use Rattle.region_split.specs.Parted.{IsPlaced}

-- ---- the front of a text

-- a stretch of it is one of the text
front_stretch : (x : Text) (n a l : ℕ) → a + l ≤ n → stretch (take n x) a (a + l) ≡ stretch x a (a + l)
front_stretch x n a l h =
    let m : n ≡ a + (n - a) = omega (arith, h) in
    let size : a + l - a ≤ n - a = omega (arith, h) in
    ap (λ (k : ℕ). take (a + l - a) (drop a (take k x))) m ∙ ap (take (a + l - a)) (drop-take a (n - a) x) ∙ take-take (a + l - a) (n - a) (drop a x) size

front_size : (n : ℕ) (x : Text) → (length (take n x) ≤ n) × (length (take n x) ≤ length x)
front_size zero x = (omega arith, omega arith)
front_size (suc n) [] = (omega arith, omega arith)
front_size (suc n) (b ∷ x) = (let m = front_size n x in (omega (arith, m.0), omega (arith, m.1)))

seen_alike : (x : Text) (n : ℕ) (d : Stand) → IsSolid (take n x) d → located_seen (take n x) d ≡ located_seen x d
seen_alike x n d s =
    ap (λ (w : Text). record { at = d.at; place = d.place; is = segment_of d.shape w }) (front_stretch x n d.at d.len (omega (arith, s.within, (front_size n x).0)))

-- segments in it are segments in the text
pub seen_within : (x : Text) (n : ℕ) (ds : List Stand) → All (IsSolid (take n x)) ds → stands_seen (take n x) ds ≡ stands_seen x ds
seen_within x n [] h = refl
seen_within x n (d ∷ ds) h =
    λ i. seen_alike x n d (h 0 d (omega arith)) i ∷ seen_within x n ds (λ k e l. h (suc k) e (omega (arith, l))) i

solid_one : (x : Text) (n : ℕ) (d : Stand) → IsSolid (take n x) d → IsSolid x d
solid_one x n d s = record { within = omega (arith, s.within, (front_size n x).1); ended = s.ended; some = s.some; quoted = s.quoted }

pub solid_within : (x : Text) (n : ℕ) (ds : List Stand) → All (IsSolid (take n x)) ds → All (IsSolid x) ds
solid_within x n ds h = λ k e l. solid_one x n _ (h k e l)

-- ---- the first line

line_size : (t : Text) → length (whole_line t) ≤ length t
line_size [] = omega arith
line_size (b ∷ s) = by (nat_eq b 10) refl (line_size s)
  where
    by : (k : Bool) → nat_eq b 10 ≡ k → length (whole_line s) ≤ length s → length (whole_line (b ∷ s)) ≤ length (b ∷ s)
    by true k l = rw k (omega arith)
    by false k l = rw k (omega (arith, l))

line_taken : (t : Text) → take (length (whole_line t)) t ≡ whole_line t
line_taken [] = refl
line_taken (b ∷ s) = by (nat_eq b 10) refl (line_taken s)
  where
    by : (k : Bool) → nat_eq b 10 ≡ k → take (length (whole_line s)) s ≡ whole_line s → take (length (whole_line (b ∷ s))) (b ∷ s) ≡ whole_line (b ∷ s)
    by true k e = rw k refl
    by false k e = rw k (ap (λ (u : Text). b ∷ u) e)

-- ---- between the lines

-- what is in a translation of n bytes before its second line, and the first line
abbrev pub body_of : Text → Stand → ℕ → Text
body_of x d n = take n (stretch x d.at (d.at + d.len))

abbrev pub line_of : Text → Stand → ℕ → Text
line_of x d n = whole_line (body_of x d n)

-- where the walk between the lines begins
abbrev pub begun_at : Text → Stand → ℕ → State
begun_at x d n = record { at = d.at + length (line_of x d n); place = after d.place (line_of x d n); headed = true; marked = true }

pub inside_of : (x : Text) (d : Stand) (n : ℕ) → d.shape ≡ shape.Region n → inside_region (located_seen x d) ≡ walk_from (begun_at x d n) 0 (drop (length (line_of x d n)) (body_of x d n))
inside_of x d n is = rw is refl

module _ (x : Text) (d : Stand) (n : ℕ) (is : d.shape ≡ shape.Region n) (solid : IsSolid x d) (placed : IsPlaced x d) where
  -- up to the second line
  abbrev front : Text
  front = take (d.at + n) x

  abbrev body : Text
  body = body_of x d n

  abbrev line : Text
  line = line_of x d n

  fits : n ≤ d.len
  fits = rw is at solid.ended

  body_is : drop d.at front ≡ body
  body_is =
      let size : d.at + d.len - d.at ≡ d.len = omega arith in
      let less : n ≤ d.at + d.len - d.at = omega (arith, fits) in
      drop-take d.at n x ∙ sym (take-take n (d.at + d.len - d.at) (drop d.at x) less)

  body_size : length body ≤ n
  body_size = (front_size n (stretch x d.at (d.at + d.len))).0

  rest_is : drop (d.at + length line) front ≡ drop (length line) body
  rest_is = sym (drop-drop (length line) d.at front) ∙ ap (drop (length line)) body_is

  line_fits : length line ≤ n
  line_fits = omega (arith, line_size body, body_size)

  place_is : place_at front (d.at + length line) ≡ after d.place line
  place_is =
      let far : d.at + length line ≤ d.at + n = omega (arith, line_fits) in
      let near : length line ≤ d.len = omega (arith, line_fits, fits) in
      ap (after start) (take-take (d.at + length line) (d.at + n) x far)
      ∙ placed (length line) near
      ∙ ap (after d.place) (sym (take-take (length line) n (stretch x d.at (d.at + d.len)) line_fits) ∙ line_taken (body_of x d n))

  -- it goes over what is between
  pub inside_walked : (ds : List Stand) (st : State)
      → ((k : ℕ) → k ≡ d.at + length (whole_line (drop d.at (take (d.at + n) x))) → st ≡ record { at = k; place = place_at (take (d.at + n) x) k; headed = true; marked = true })
      → All (IsSolid (take (d.at + n) x)) ds
      → stands_seen (take (d.at + n) x) ds ≡ walk_from st 0 (drop st.at (take (d.at + n) x))
      → stands_seen x ds ≡ inside_region (located_seen x d)
  inside_walked ds st state all walked =
      let same : d.at + length line ≡ d.at + length (whole_line (drop d.at front)) = ap (λ (u : Text). d.at + length (whole_line u)) (sym body_is) in
      let here : st ≡ begun_at x d n = state (d.at + length line) same ∙ ap (λ (p : Place). record { at = d.at + length line; place = p; headed = true; marked = true }) place_is in
      sym (seen_within x (d.at + n) ds all) ∙ walked ∙ ap (λ (s : State). walk_from s 0 (drop s.at front)) here ∙ ap (walk_from (begun_at x d n) 0) rest_is ∙ sym (inside_of x d n is)

  pub inside_read : {V E : Type 0} (items : V → List Stand) (r : Result V E) (st : State)
      → ((k : ℕ) → k ≡ d.at + length (whole_line (drop d.at (take (d.at + n) x))) → st ≡ record { at = k; place = place_at (take (d.at + n) x) k; headed = true; marked = true })
      → IfOk r (λ v. All (IsSolid (take (d.at + n) x)) (items v))
      → IfOk r (λ v. stands_seen (take (d.at + n) x) (items v) ≡ walk_from st 0 (drop st.at (take (d.at + n) x)))
      → IfOk r (λ v. stands_seen x (items v) ≡ inside_region (located_seen x d))
  inside_read items (Ok v) st state all walked = inside_walked (items v) st state all walked
  inside_read items (Err e) st state all walked = tt
