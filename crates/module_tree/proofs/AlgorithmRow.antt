-- The parts of an algorithm are in a row within its comment; so which indexes are in its tokens is the same in a file with a translation, but moved.
use Rattle.std.proofs.Common.{◌≡◌, ℕ, zero, suc, ◌+◌, ◌-◌, ◌<◌, ◌≤◌, Bool, true, false, ◌&&◌, nat_eq, nat_le, nat_lt, List, [], ◌∷◌, ◌++◌, length, map, take, refl, sym, ap, subst, ◌∙◌, arith, length-append}
use Rattle.std.specs.Prelude.{if◌then◌else◌, is_some}
use Rattle.std.specs.List.{flat_map, list_any}
use Rattle.std.proofs.lemmas.Bool.{and_parts, leb-true, le-leb, ltb-true, lt-ltb}
use Rattle.tla_token.specs.Tokens.{Piece, bytes_of, text_of as pieces_text}
use Rattle.tla_token.specs.Offences.{Part, sound, part_bytes, part_offences}
use Rattle.module_tree.specs.TextFront.{Text}
use Rattle.module_tree.specs.Beginnings.{is_fair, opening}
use Rattle.module_tree.specs.ModuleParts.{kind_in}
use Rattle.module_tree.specs.Walk.{Located}
use Rattle.module_tree.specs.FileParts.{within}
use Rattle.module_tree.specs.AlgorithmText.{Stage, head, is_past, after_part, IndexedPart, Inside, with_part, inner_part, inside, AlgorithmText}
use Rattle.module_tree.proofs.WalkPlace.{both_empty}
use Rattle.module_tree.proofs.WalkSame.{part_anywhere}
use Rattle.module_tree.proofs.AlgorithmTokens.{Ends, are_plain, large_parts, plain_first, sound_of, part_found, found_first}
use Rattle.module_tree.proofs.AlgorithmFound.{opened, made_there}
use Rattle.module_tree.proofs.AlgorithmIsCut.{Placed}
use Rattle.module_tree.proofs.AlgorithmSame.{opened_at, at_comment}
use Rattle.std.specs.Cmp.{both_ways}

-- each from where the one before it ends, up to an end
abbrev pub InRow : ℕ → ℕ → List IndexedPart → Type 0
InRow n e [] = n ≤ e
InRow n e (p ∷ ps) = (p.0 ≡ n) × InRow (n + length (part_bytes p.1)) e ps

pub row_bound : (n e : ℕ) (ps : List IndexedPart) → InRow n e ps → n ≤ e
row_bound n e [] h = h
row_bound n e (p ∷ ps) h = (let m = row_bound (n + length (part_bytes p.1)) e ps h.1 in omega (arith, m))

row_within : (fuel : ℕ) (st : Stage) (n : ℕ) (v r : Text) → length v < fuel → Ends r → are_plain (inside st n 0 (length v) (v ++ r)).parts ≡ true
    → InRow n (n + length v) (inside st n 0 (length v) (v ++ r)).parts
row_within zero st n v r l h e = absurd (omega arith)
row_within (suc fuel) st n [] r l h e = none n
  where
    none : (n : ℕ) → n ≤ n + 0
    none n = omega arith
row_within (suc fuel) st n (b ∷ v) r l h e = by (is_past st) refl (λ st n v. row_within fuel st n v r)
  where
    first : Part
    first = inner_part (length v) b (v ++ r)

    cut_by : Part → Inside
    cut_by q = with_part (n, q) (inside (after_part st (kind_in q)) (suc n) (length (part_bytes q) - 1) (length v) (v ++ r))

    opened_by : (k : Bool) → is_past st ≡ k → inside st n 0 (suc (length v)) (b ∷ (v ++ r)) ≡ (if k then record { parts = []; stage = st; to = n } else cut_by first)
    opened_by k e = ap (λ (k : Bool). if k then record { parts = []; stage = st; to = n } else cut_by first) e

    by : (k : Bool) → is_past st ≡ k
        → ((st : Stage) (n : ℕ) (v : Text) → length v < fuel → Ends r → are_plain (inside st n 0 (length v) (v ++ r)).parts ≡ true → InRow n (n + length v) (inside st n 0 (length v) (v ++ r)).parts)
        → InRow n (n + suc (length v)) (inside st n 0 (suc (length v)) (b ∷ (v ++ r))).parts
    by true k deeper = subst (λ (i : Inside). InRow n (n + suc (length v)) i.parts) (sym (opened_by true k)) (omega arith)
    by false k deeper =
        let plain : are_plain (cut_by first).parts ≡ true = ap (λ (i : Inside). are_plain i.parts) (sym (opened_by false k)) ∙ e in
        let both = large_parts (part_offences true n first) _ plain in
        let q = sound_of first (plain_first n b (if nat_eq b 34 then v ++ r else take (length v) (v ++ r)) both.0) in
        let here = part_found b v r q.0 h q.1 q.2 in
        let f = found_first q.0 b v here in
        let next = after_part st (kind_in (sound q.0)) in
        let mine = opened_at st n b v r q.0 f k here in
        let plain_rest : are_plain (inside next (n + length (bytes_of q.0)) 0 (length f.rest) (f.rest ++ r)).parts ≡ true =
        (large_parts (part_offences true n (sound q.0)) _ (ap (λ (i : Inside). are_plain i.parts) (sym mine) ∙ e)).1 in
        let size = ap length f.split ∙ length-append f.m f.rest in
        let more = deeper next (n + length (bytes_of q.0)) f.rest (omega (arith, l, size)) h plain_rest in
        let end : n + length (bytes_of q.0) + length f.rest ≡ n + suc (length v) = sum n (length (bytes_of q.0)) (length f.m) (length f.rest) (length v) (ap length f.is) size in
        let row : InRow n (n + suc (length v)) (with_part (n, sound q.0) (inside next (n + length (bytes_of q.0)) 0 (length f.rest) (f.rest ++ r))).parts =
        (refl, subst (λ (e : ℕ). InRow (n + length (bytes_of q.0)) e (inside next (n + length (bytes_of q.0)) 0 (length f.rest) (f.rest ++ r)).parts) end more) in
        subst (λ (i : Inside). InRow n (n + suc (length v)) i.parts) (sym mine) row
      where
        sum : (n k m r v : ℕ) → k ≡ suc m → v ≡ m + r → n + k + r ≡ n + suc v
        sum n k m r v e f = omega arith

-- the parts of an algorithm in its comment
pub row_of : (x : Text) (d : Located) (n : ℕ) (q : Placed x d n) → are_plain (at_comment x d n).rest.parts ≡ true
    → InRow (n + length (at_comment x d n).opening) (n + length q.v) (at_comment x d n).rest.parts
row_of x d n q plain =
    let o = opened q.v q.here in
    let is = made_there x q.p q.v q.r n (d.at + 2 + length (within d.is) - n) q.text q.from q.left o in
    let w = opening q.v in
    let st = head (if is_fair q.v then 1 else 0) in
    let row = row_within (suc (length o.rest)) st (n + length w) o.rest q.r (omega arith) q.ends (ap (λ (a : AlgorithmText). are_plain a.rest.parts) (sym is) ∙ plain) in
    let end : n + length w + length o.rest ≡ n + length q.v = sum n (length w) (length o.rest) (length q.v) (ap length o.is ∙ length-append w o.rest) in
    subst (λ (a : AlgorithmText). InRow (n + length a.opening) (n + length q.v) a.rest.parts) (sym is)
    (subst (λ (e : ℕ). InRow (n + length w) e (inside st (n + length w) 0 (length o.rest) (o.rest ++ q.r)).parts) end row)
  where
    sum : (n w r v : ℕ) → v ≡ w + r → n + w + r ≡ n + v
    sum n w r v e = omega arith

-- ---- which indexes are in tokens

abbrev is_in : IndexedPart → ℕ → Bool
is_in p k = is_some (kind_in p.1) && (nat_le p.0 k && nat_lt k (p.0 + length (part_bytes p.1)))

abbrev pub are_in : List IndexedPart → ℕ → Bool
are_in ps k = list_any (λ p. is_in p k) ps

pub in_before : (n e : ℕ) (ps : List IndexedPart) (k : ℕ) → InRow n e ps → are_in ps k ≡ true → k < e
in_before n e [] k h i = absurd cc
in_before n e (p ∷ ps) k h i = by (is_in p k) refl (in_before (n + length (part_bytes p.1)) e ps k h.1)
  where
    by : (b : Bool) → is_in p k ≡ b → (are_in ps k ≡ true → k < e) → k < e
    by true b deeper =
        let c = and_parts (is_some (kind_in p.1)) (nat_le p.0 k && nat_lt k (p.0 + length (part_bytes p.1))) b in
        let d = and_parts (nat_le p.0 k) (nat_lt k (p.0 + length (part_bytes p.1))) c.1 in
        bound p.0 (length (part_bytes p.1)) (ltb-true k (p.0 + length (part_bytes p.1)) d.1) h.0 (row_bound (n + length (part_bytes p.1)) e ps h.1)
      where
        bound : (a l : ℕ) → k < a + l → a ≡ n → n + l ≤ e → k < e
        bound a l f g m = omega arith
    by false b deeper = (let more : are_in ps k ≡ true = rw b at i in deeper more)

-- they end with their last byte
pub row_ends : (n e : ℕ) (ps : List IndexedPart) (qs : List Piece) → InRow n e ps → map (λ p. p.1) ps ≡ map sound qs → InRow n (n + length (pieces_text qs)) ps
row_ends n e [] [] h s = none n
  where
    none : (n : ℕ) → n ≤ n + 0
    none n = omega arith
row_ends n e [] (q ∷ qs) h s = absurd cc
row_ends n e (p ∷ ps) [] h s = absurd cc
row_ends n e (p ∷ ps) (q ∷ qs) h s =
    let first : p.1 ≡ sound q = cc in
    let more : map (λ p. p.1) ps ≡ map sound qs = cc in
    let size : length (part_bytes p.1) ≡ length (bytes_of q) = ap (λ (p : Part). length (part_bytes p)) first in
    let end : n + length (part_bytes p.1) + length (pieces_text qs) ≡ n + length (pieces_text (q ∷ qs)) = sum (length (part_bytes p.1)) (length (bytes_of q)) (length (pieces_text qs)) (length (pieces_text (q ∷ qs))) size (length-append (bytes_of q) (pieces_text qs)) in
    (h.0, subst (λ (e : ℕ). InRow (n + length (part_bytes p.1)) e ps) end (row_ends (n + length (part_bytes p.1)) e ps qs h.1 more))
  where
    sum : (a b c d : ℕ) → a ≡ b → d ≡ b + c → n + a + c ≡ n + d
    sum a b c d e f = omega arith

same_le : (a b k l n m : ℕ) → a + m ≡ b + n → k + m ≡ l + n → nat_le a k ≡ nat_le b l
same_le a b k l n m e f =
    both_ways (nat_le a k) (nat_le b l)
    (λ h. (let g = leb-true a k h in le-leb b l (omega (arith, e, f, g))))
    (λ h. (let g = leb-true b l h in le-leb a k (omega (arith, e, f, g))))

same_lt : (a b k l n m : ℕ) → a + m ≡ b + n → k + m ≡ l + n → nat_lt k a ≡ nat_lt l b
same_lt a b k l n m e f =
    both_ways (nat_lt k a) (nat_lt l b)
    (λ h. (let g = ltb-true k a h in lt-ltb l b (omega (arith, e, f, g))))
    (λ h. (let g = ltb-true l b h in lt-ltb k a (omega (arith, e, f, g))))

first_part : (p q : IndexedPart) (ps qs : List IndexedPart) → map (λ p. p.1) (p ∷ ps) ≡ map (λ p. p.1) (q ∷ qs) → p.1 ≡ q.1
first_part p q ps qs e = cc

more_parts : (p q : IndexedPart) (ps qs : List IndexedPart) → map (λ p. p.1) (p ∷ ps) ≡ map (λ p. p.1) (q ∷ qs) → map (λ p. p.1) ps ≡ map (λ p. p.1) qs
more_parts p q ps qs e = cc

pub in_moved : (n m e f : ℕ) (ps qs : List IndexedPart) (k l : ℕ) → InRow n e ps → InRow m f qs → map (λ p. p.1) ps ≡ map (λ p. p.1) qs → k + m ≡ l + n → are_in ps k ≡ are_in qs l
in_moved n m e f [] [] k l h i s d = refl
in_moved n m e f [] (q ∷ qs) k l h i s d = absurd cc
in_moved n m e f (p ∷ ps) [] k l h i s d = absurd cc
in_moved n m e f (p ∷ ps) (q ∷ qs) k l h i s d =
    let same = first_part p q ps qs s in
    let size : length (part_bytes p.1) ≡ length (part_bytes q.1) = ap (λ (p : Part). length (part_bytes p)) same in
    let from = same_le p.0 q.0 k l n m (start p.0 q.0 h.0 i.0) d in
    let to = same_lt (p.0 + length (part_bytes p.1)) (q.0 + length (part_bytes q.1)) k l n m (end p.0 q.0 (length (part_bytes p.1)) (length (part_bytes q.1)) h.0 i.0 size) d in
    let here : is_in p k ≡ is_in q l = λ j. is_some (kind_in (same j)) && (from j && to j) in
    let deeper = in_moved (n + length (part_bytes p.1)) (m + length (part_bytes q.1)) e f ps qs k l h.1 i.1 (more_parts p q ps qs s) (further (length (part_bytes p.1)) (length (part_bytes q.1)) size) in
    rw (here, deeper) refl
  where
    start : (a b : ℕ) → a ≡ n → b ≡ m → a + m ≡ b + n
    start a b e f = omega arith

    end : (a b v w : ℕ) → a ≡ n → b ≡ m → v ≡ w → a + v + m ≡ b + w + n
    end a b v w e f g = omega arith

    further : (v w : ℕ) → v ≡ w → k + (m + w) ≡ l + (n + v)
    further v w e = omega (arith, d)

-- ---- offences of the parts don't go by where they are

pub parts_anywhere : (ps qs : List IndexedPart) → map (λ p. p.1) ps ≡ map (λ p. p.1) qs → flat_map (λ p. part_offences true p.0 p.1) ps ≡ [] → flat_map (λ p. part_offences true p.0 p.1) qs ≡ []
parts_anywhere [] [] s e = refl
parts_anywhere [] (q ∷ qs) s e = absurd cc
parts_anywhere (p ∷ ps) [] s e = refl
parts_anywhere (p ∷ ps) (q ∷ qs) s e =
    let o = both_empty (part_offences true p.0 p.1) (flat_map (λ p. part_offences true p.0 p.1) ps) e in
    let here : part_offences true q.0 q.1 ≡ [] = ap (part_offences true q.0) (sym (first_part p q ps qs s)) ∙ part_anywhere true p.0 q.0 p.1 o.0 in
    rw here (parts_anywhere ps qs (more_parts p q ps qs s) o.1)
