-- One segment of a file further.
use Rattle.std.proofs.Common.{◌≡◌, ℕ, suc, ◌+◌, ◌-◌, ◌*◌, ◌<◌, ◌≤◌, ◌||◌, ◌&&◌, Bool, true, false, nat_eq, List, [], ◌∷◌, ◌++◌, length, take, drop, Option, Some, None, refl, sym, ap, subst, ◌∙◌, arith, length-append, length-drop, append_assoc}
use Rattle.std.proofs.Math.Seq.{take-append_seam, drop-append_seam}
use Rattle.std.proofs.lemmas.List.{length-take-le, map-append}
use Rattle.std.specs.Prelude.{if◌then◌else◌}
use Rattle.tla_token.specs.declared.place.Place.{Place}
use Rattle.tla_token.specs.Places.{after}
use Rattle.tla_token.specs.Tokens.{stretch}
use Rattle.tla_token.specs.Scan.{IsWordless}
use Rattle.tla_token.proofs.Scans.{drop_more, wordless_on}
use Rattle.module_split.specs.declared.walk.Front.{Front}
use Rattle.module_split.specs.declared.walk.Known.{Known}
use Rattle.module_split.specs.declared.walk.Walker.{Walker}
use Rattle.module_tree.specs.TextFront.{Text}
use Rattle.module_tree.specs.HeaderAndRegion.{is_header, is_begin, is_end}
use Rattle.module_tree.specs.Beginnings.{ends_module}
use Rattle.module_tree.specs.Walk.{Segment, free, header, part, region, mark, inner, tail, bytes, State, at_end_line, opened, in_module, segment_at, is_header_line, is_region, after_segment, Located, walk_from}
use Rattle.module_split.specs.declared.stand.Stand.{Stand}
use Rattle.module_split.specs.StandsSeen.{segment_of, before_end, is_string, located_seen, stands_seen}
use Rattle.module_split.proofs.QuotedSegments.{segment_quoted}
use Rattle.module_split.specs.Walking.{shape_of, outline, front_of, end_at, IsKnown, state_of, IsAt, GoesOn}
use Rattle.module_split.proofs.BarFronts.{module_made}
use Rattle.module_split.proofs.EndLine.{none_later}
use Rattle.module_tree.proofs.WalkWhole.{segment_front, walk_over}

-- ---- segments by their outlines

-- a segment is made up by its shape and its bytes
abbrev IsSeen : Segment → Type 0
IsSeen g = segment_of (shape_of g) (bytes g) ≡ g

region_seen : (v w : Text) → IsSeen (region v w)
region_seen v w =
    let front : take (length v) (v ++ w) ≡ v = take-append_seam v w in
    let rest : drop (length v) (v ++ w) ≡ w = drop-append_seam v w in
    (λ i. region (front i) (rest i))

module_seen : (marked first : Bool) (b : ℕ) (s : Text) → IsSeen (in_module marked first b s)
module_seen marked first b s =
    by (first && is_begin (b ∷ s)) refl (first && is_end (b ∷ s)) refl (first && is_header (b ∷ s)) refl (ends_module (b ∷ s)) refl
  where
    at_begin : (o : Option (Text × Text)) → IsSeen (opened o (b ∷ s))
    at_begin None = refl
    at_begin (Some (v, w)) = region_seen v w

    by : (i : Bool) → (first && is_begin (b ∷ s)) ≡ i → (j : Bool) → (first && is_end (b ∷ s)) ≡ j → (k : Bool) → (first && is_header (b ∷ s)) ≡ k → (l : Bool) → ends_module (b ∷ s) ≡ l → IsSeen (in_module marked first b s)
    by true i j jj k kk l ll = rw i (at_begin (if marked then None else at_end_line false (b ∷ s)))
    by false i true j k kk l ll = rw (i, j) refl
    by false i false j true k l ll = rw (i, j, k) refl
    by false i false j false k true l = rw (i, j, k, l) refl
    by false i false j false k false l = rw (i, j, k, l) (ap part (module_made b s))

segment_made : (st : State) (b : ℕ) (s : Text) → IsSeen (segment_at st b s)
segment_made st b s = by st.headed refl (is_header (b ∷ s)) refl
  where
    by : (h : Bool) → st.headed ≡ h → (k : Bool) → is_header (b ∷ s) ≡ k → IsSeen (segment_at st b s)
    by true h k kk = rw h (module_seen st.marked (nat_eq st.place.col 1) b s)
    by false h true k = rw (h, k) refl
    by false h false k = rw (h, k) refl

end_within : (g : Segment) → before_end (shape_of g) ≤ length (bytes g)
end_within (free w) = omega arith
end_within (header w) = omega arith
end_within (part p) = omega arith
end_within (region v w) = omega (arith, length-append v w)
end_within (mark w) = omega arith
end_within (inner w) = omega arith
end_within (tail w) = omega arith

-- ---- the walk over one segment

walk_further : (st : State) (b : ℕ) (s : Text) → let g = segment_at st b s in
    walk_from st 0 (b ∷ s) ≡ record { at = st.at; place = st.place; is = g } ∷ walk_from (after_segment st g) 0 (drop (length (bytes g)) (b ∷ s))
walk_further st b s = by (bytes g) refl front.1 front.2
  where
    g : Segment
    g = segment_at st b s

    next : State
    next = after_segment st g

    front : (rest : Text) × (b ∷ s ≡ bytes g ++ rest) × (bytes g ≡ [] → ⊥)
    front = segment_front st b s

    less : (n : ℕ) → suc n - 1 ≡ n
    less n = omega arith

    by : (w : Text) → bytes g ≡ w → b ∷ s ≡ bytes g ++ front.0 → (bytes g ≡ [] → ⊥)
        → walk_from st 0 (b ∷ s) ≡ record { at = st.at; place = st.place; is = g } ∷ walk_from next 0 (drop (length (bytes g)) (b ∷ s))
    by [] x e some = absurd (some x)
    by (c ∷ m) x e some =
        let split : b ∷ s ≡ c ∷ (m ++ front.0) = e ∙ ap (λ (u : Text). u ++ front.0) x in
        let rest : s ≡ m ++ front.0 = ap (λ (u : Text). drop 1 u) split in
        let count : length (bytes g) - 1 ≡ length m = ap (λ (u : Text). length u - 1) x ∙ less (length m) in
        let dropped : drop (length (bytes g)) (b ∷ s) ≡ front.0 = ap (drop (length (bytes g))) e ∙ drop-append_seam (bytes g) front.0 in
        let step : walk_from next (length (bytes g) - 1) s ≡ walk_from next 0 (drop (length (bytes g)) (b ∷ s)) =
        ap (λ (n : ℕ). walk_from next n s) count ∙ ap (λ (u : Text). walk_from next (length m) u) rest ∙ walk_over next m front.0 ∙ ap (walk_from next 0) (sym dropped) in
        ap (λ (ds : List Located). record { at = st.at; place = st.place; is = g } ∷ ds) step

-- a segment is in front of this text, and is found so
record Ahead (st : State) (t : Text) (f : Front) : Type 0 where
  segment : Segment
  seen : segment_of f.shape (take f.len t) ≡ segment
  bytes_are : bytes segment ≡ take f.len t
  some : 0 < f.len
  within : f.len ≤ length t
  ended : before_end f.shape ≤ f.len
  quoted : is_string f.shape ≡ true → 2 ≤ f.len
  walked : walk_from st 0 t ≡ record { at = st.at; place = st.place; is = segment } ∷ walk_from (after_segment st segment) 0 (drop f.len t)

bytes_some : (xs : Text) → (xs ≡ [] → ⊥) → 0 < length xs
bytes_some [] h = absurd (h refl)
bytes_some (x ∷ xs) h = omega arith

ahead_outline : (st : State) (b : ℕ) (s : Text) → Ahead st (b ∷ s) (outline (segment_at st b s))
ahead_outline st b s =
    let g = segment_at st b s in
    let front = segment_front st b s in
    let taken : take (length (bytes g)) (b ∷ s) ≡ bytes g = ap (take (length (bytes g))) front.1 ∙ take-append_seam (bytes g) front.0 in
    let size = ap length front.1 in
    record {
      segment = g;
      seen = ap (segment_of (shape_of g)) taken ∙ segment_made st b s;
      bytes_are = sym taken;
      some = bytes_some (bytes g) front.2;
      within = omega (arith, length-append (bytes g) front.0);
      ended = end_within g;
      quoted = segment_quoted st b s;
      walked = walk_further st b s;
    }

same_front : (f h : Front) → Some f ≡ Some h → f ≡ h
same_front f h e = cc

ahead : (st : State) (t : Text) (f : Front) → Some f ≡ front_of (segment_at st) t → Ahead st t f
ahead st [] f e = absurd cc
ahead st (b ∷ s) f e = (let P : Front → Type 0 = λ h. Ahead st (b ∷ s) h in subst P (sym (same_front f (outline (segment_at st b s)) e)) (ahead_outline st b s))

-- ---- one segment further

pub front_within : (st : State) (t : Text) (f : Front) → Some f ≡ front_of (segment_at st) t → f.len ≤ length t
front_within st t f e = (ahead st t f e).within

pub goes_past : (x : Text) (w : Walker) (f : Front) (k : Known) (piece : Text) (place : Place) (h m : Bool) (n : ℕ)
    → IsAt x w
    → Some f ≡ front_of (segment_at (state_of w)) (drop w.at x)
    → IsKnown k (drop w.at x)
    → piece ≡ take f.len (drop w.at x)
    → place ≡ after w.place piece
    → place.line ≤ w.place.line + length piece
    → place.col ≤ w.place.col + 8 * length piece
    → ((u : Text) → h ≡ (w.headed || is_header_line (segment_of f.shape u)))
    → ((u : Text) → m ≡ (w.marked || is_region (segment_of f.shape u)))
    → n ≡ k.wordless - f.len
    → GoesOn x w (record { at = w.at; len = f.len; place = w.place; shape = f.shape })
    (record { at = w.at + f.len; place = place; headed = h; marked = m; known = record { endless = k.endless; wordless = n } })
goes_past x w f k piece place h m n at e known is moved line col heads ends fewer =
    let t = drop w.at x in
    let a = ahead (state_of w) t f e in
    let size : length piece ≡ f.len = ap length is ∙ length-take-le f.len t a.within in
    let left : length t ≡ length x - w.at = length-drop w.at x in
    let in_text : w.at ≤ length x = at.within in
    let in_rest : f.len ≤ length t = a.within in
    let low : w.place.line ≤ 1 + w.at = at.line in
    let right : w.place.col ≤ 1 + 8 * w.at = at.col in
    let some : 0 < f.len = a.some in
    let dropped : drop f.len t ≡ drop (w.at + f.len) x = drop_more w.at f.len x in
    let less : w.at + f.len - w.at ≡ f.len = omega arith in
    let seen : a.segment ≡ segment_of f.shape (stretch x w.at (w.at + f.len)) = sym a.seen ∙ ap (λ (l : ℕ). segment_of f.shape (take l t)) (sym less) in
    let bytes_len : length (bytes a.segment) ≡ f.len = ap length a.bytes_are ∙ length-take-le f.len t a.within in
    let further : w.at + length (bytes a.segment) ≡ w.at + f.len = ap (λ (l : ℕ). w.at + l) bytes_len in
    let place_is : after w.place (bytes a.segment) ≡ place = ap (after w.place) (a.bytes_are ∙ sym is) ∙ sym moved in
    let headed_is : (w.headed || is_header_line a.segment) ≡ h = ap (λ (g : Segment). w.headed || is_header_line g) (sym a.seen) ∙ sym (heads (take f.len t)) in
    let marked_is : (w.marked || is_region a.segment) ≡ m = ap (λ (g : Segment). w.marked || is_region g) (sym a.seen) ∙ sym (ends (take f.len t)) in
    let endless : k.endless ≡ true → end_at false (drop (w.at + f.len) x) ≡ None = (λ j. ap (end_at false) (sym dropped) ∙ none_later f.len t (known.0 j)) in
    let P : ℕ → Type 0 = λ l. IsWordless l (drop (w.at + f.len) x) in
    let wordless : IsWordless n (drop (w.at + f.len) x) = subst P (sym fewer) (wordless_on k.wordless f.len w.at x known.1) in
    let same : record { at = w.at; place = w.place; is = a.segment } ∷ walk_from (after_segment (state_of w) a.segment) 0 (drop f.len t)
    ≡ record { at = w.at; place = w.place; is = segment_of f.shape (stretch x w.at (w.at + f.len)) }
    ∷ walk_from (record { at = w.at + f.len; place = place; headed = h; marked = m }) 0 (drop (w.at + f.len) x) =
    (λ i. record { at = w.at; place = w.place; is = seen i } ∷ walk_from (record { at = further i; place = place_is i; headed = headed_is i; marked = marked_is i }) 0 (dropped i)) in
    record {
      further = omega arith;
      at = record { within = omega arith; line = omega arith; col = omega arith; known = (endless, wordless) };
      solid = record { within = omega arith; ended = a.ended; some = some; quoted = a.quoted };
      same = a.walked ∙ same;
    }

-- ---- the segments so far

-- with one more, those so far and those that are left are as they were
pub one_more : (x : Text) (xs ys : List Stand) (d : Stand) (w v : Walker) (whole : List Located) → ys ≡ xs ++ d ∷ [] → GoesOn x w d v
    → stands_seen x xs ++ walk_from (state_of w) 0 (drop w.at x) ≡ whole
    → stands_seen x ys ++ walk_from (state_of v) 0 (drop v.at x) ≡ whole
one_more x xs ys d w v whole e g h =
    ap (λ (ds : List Stand). stands_seen x ds ++ left) e ∙ ap (λ (ds : List Located). ds ++ left) (map-append (located_seen x) xs (d ∷ []))
    ∙ append_assoc (stands_seen x xs) (located_seen x d ∷ []) left ∙ ap (λ (ds : List Located). stands_seen x xs ++ ds) (sym g.same) ∙ h
  where
    left : List Located
    left = walk_from (state_of v) 0 (drop v.at x)
