-- A file with another algorithm is walked as before, but for the algorithm's comment, where both algorithms open and close comments only within themselves.
use Rattle.std.proofs.Common.{◌≡◌, inl, append-nil, codes, ℕ, zero, ◌+◌, ◌-◌, ◌<◌, ◌≤◌, Bool, true, false, nat_eq, nat_lt, List, [], ◌∷◌, ◌++◌, length, map, take, drop, Option, Some, None, refl, sym, ap, subst, ◌∙◌, arith, append_assoc, length-append, find}
use Rattle.std.specs.Prelude.{if◌then◌else◌, is_some}
use Rattle.std.specs.List.{flat_map, list_all}
use Rattle.std.proofs.lemmas.Bool.{both_ways, and_from, lt-ltb}
use Rattle.std.proofs.lemmas.Option.{none-some, same_Some}
use Rattle.std.proofs.Math.Seq.{take-append_seam, drop-append_seam}
use Rattle.tla_token.specs.declared.place.Place.{Place}
use Rattle.tla_token.specs.Places.{start, after}
use Rattle.tla_token.specs.Tokens.{block, Closes, stretch, text_of as pieces_text}
use Rattle.tla_token.specs.Offences.{Part, sound}
use Rattle.tla_token.proofs.Front.{block_front}
use Rattle.module_tree.specs.TextFront.{Text, whole_line}
use Rattle.module_tree.specs.HeaderAndRegion.{is_header}
use Rattle.module_tree.specs.Beginnings.{is_fair, opening, begins_algorithm, all_at}
use Rattle.module_tree.specs.ModuleParts.{module_part}
use Rattle.module_tree.specs.Walk.{Segment, free, header, part, bytes, is_region, is_tail, State, in_module, segment_at, after_segment, Located, walk_from, walk, at_start}
use Rattle.module_tree.specs.FileParts.{before_first, after_first, within, beginnings_in, beginnings, first_of, holds_algorithm, is_newline}
use Rattle.module_tree.specs.FileUnits.{kind_of_segment}
use Rattle.module_tree.specs.AlgorithmText.{head, AlgorithmText, algorithm_in, in_token}
use Rattle.module_tree.specs.FileOffences.{segment_offences, offences_of, algorithm_offences, placements, outside_region, options_in}
use Rattle.module_tree.specs.WithTranslation.{Swapped}
use Rattle.module_tree.specs.laws.Walks.{text_of, are_calm, after_all, located}
use Rattle.module_tree.specs.laws.Kept.{IsFine, only_large}
use Rattle.module_tree.specs.laws.Swaps.{is_paired, segments, AddsNoOptions, SwapsComment, BeginsThere}
use Rattle.module_tree.proofs.WalkAround.{suffixed}
use Rattle.module_tree.proofs.WalkPlace.{both_empty, before_whole, text_append, after_append, offences_append, fine_calm, before_tail, walk_tails, tails_last, met, after_both, places_after}
use Rattle.module_tree.proofs.WalkKept.{all_fine_in, at_is}
use Rattle.module_tree.proofs.WalkSame.{segment_anywhere}
use Rattle.module_tree.proofs.WalkBefore.{walk_before, walk_step}
use Rattle.module_tree.proofs.WalkAlike.{begins_after, some_after, shown, shown_alike, same_segments}
use Rattle.module_tree.proofs.PairedMarks.{stays_closed}
use Rattle.module_tree.proofs.AlgorithmTokens.{are_plain, cut_inside}
use Rattle.module_tree.proofs.AlgorithmFound.{stretch_is, opened, made_there}
use Rattle.module_tree.proofs.AlgorithmIsCut.{block_segment, block_closed, closes_end, part_there, within_mark, Placed}
use Rattle.module_tree.proofs.AlgorithmSame.{at_comment}
use Rattle.module_tree.proofs.AlgorithmKept.{placed_at, algorithm_at_first, all_parts, first_fine}
use Rattle.module_tree.proofs.AlgorithmRow.{row_of, row_ends, in_before}
use Rattle.module_tree.proofs.BeginningsKept.{found_back, none_held, begun_in, beginnings_append, comment_size}
use Rattle.module_tree.proofs.OnlyBeginnings.{none_anywhere, over_front, none_past, all_before, none_there, none_after}
use Rattle.module_tree.proofs.OptionsSwapped.{SwapsSegment, swapped_options}
use Rattle.module_tree.proofs.PlacesAlike.{Like, is_space, like_self, like_both, like_shown, placed_alike}
use Rattle.module_tree.proofs.FirstSwapped.{first_swapped, begins_more}

-- ---- a comment in a module

module_comment : (marked first : Bool) (y : Text) → in_module marked first 40 (42 ∷ y) ≡ part (module_part 40 (42 ∷ y))
module_comment marked true y = refl
module_comment marked false y = refl

part_headed : (st : State) (b : ℕ) (s : Text) (q : Part) → segment_at st b s ≡ part q → st.headed ≡ true
part_headed st b s q e = by st.headed refl (is_header (b ∷ s)) refl
  where
    is_part : Segment → Bool
    is_part (part p) = true
    is_part g = false

    by : (h : Bool) → st.headed ≡ h → (k : Bool) → is_header (b ∷ s) ≡ k → st.headed ≡ true
    by true h k kk = h
    by false h true k = (let is : segment_at st b s ≡ header (whole_line (b ∷ s)) = rw (h, k) refl in absurd (both_ways (is_part (segment_at st b s)) (ap is_part is) (ap is_part e)))
    by false h false k = (let is : segment_at st b s ≡ free (whole_line (b ∷ s)) = rw (h, k) refl in absurd (both_ways (is_part (segment_at st b s)) (ap is_part is) (ap is_part e)))

comment_there : (st : State) (body y : Text) → st.headed ≡ true → Closes 1 body → segment_at st 40 (42 ∷ (body ++ y)) ≡ part (sound (block body))
comment_there st body y h c =
    let here : segment_at st 40 (42 ∷ (body ++ y)) ≡ in_module st.marked (nat_eq st.place.col 1) 40 (42 ∷ (body ++ y)) = rw h refl in
    here ∙ module_comment st.marked (nat_eq st.place.col 1) (body ++ y) ∙ ap part (block_front body y c)

-- ---- segments that are the same

fine_segments : (ds es : List Located) → segments ds ≡ segments es → offences_of ds ≡ [] → offences_of es ≡ []
fine_segments [] [] s e = refl
fine_segments [] (d ∷ es) s e = absurd cc
fine_segments (c ∷ ds) [] s e = refl
fine_segments (c ∷ ds) (d ∷ es) s e =
    let o = both_empty (segment_offences c.at c.is) (offences_of ds) e in
    let first : c.is ≡ d.is = cc in
    let more : segments ds ≡ segments es = cc in
    let here : segment_offences d.at d.is ≡ [] = ap (segment_offences d.at) (sym first) ∙ segment_anywhere c.at d.at c.is o.0 in
    λ i. here i ++ fine_segments ds es more o.1 i

-- ---- where the algorithm is in its comment

record Held (x : Text) (d : Located) (a : AlgorithmText) : Type 0 where
  front : Text
  back : Text
  at : a.from ≡ d.at + 2 + length front
  inner : within d.is ≡ front ++ (stretch x a.from a.rest.to ++ back)
  to : a.rest.to ≡ a.from + length (stretch x a.from a.rest.to)
  rest : Text
  dash : stretch x a.from a.rest.to ≡ 45 ∷ 45 ∷ rest
  before_end : (k : ℕ) → in_token a k ≡ true → k < a.rest.to

held : (x : Text) (d : Located) (n : ℕ) → Placed x d n → are_plain (at_comment x d n).rest.parts ≡ true → Held x d (at_comment x d n)
held x d n q plain =
    let o = opened q.v q.here in
    let is = made_there x q.p q.v q.r n (d.at + 2 + length (within d.is) - n) q.text q.from q.left o in
    let w = opening q.v in
    let st = head (if is_fair q.v then 1 else 0) in
    let c = cut_inside st (n + length w) o.rest q.r q.ends (ap (λ (a : AlgorithmText). are_plain a.rest.parts) (sym is) ∙ plain) in
    let text = w ++ pieces_text c.pieces in
    let split : q.v ≡ text ++ c.more = o.is ∙ ap (λ (u : Text). w ++ u) c.split ∙ sym (append_assoc w (pieces_text c.pieces) c.more) in
    let to : (at_comment x d n).rest.to ≡ n + length text =
    ap (λ (a : AlgorithmText). a.rest.to) is ∙ c.to ∙ sum n (length w) (length (pieces_text c.pieces)) (length text) (length-append w (pieces_text c.pieces)) in
    let cut : stretch x n (at_comment x d n).rest.to ≡ text =
    stretch_is x q.p text (c.more ++ q.r) n (at_comment x d n).rest.to (q.text ∙ ap (λ (u : Text). q.p ++ (u ++ q.r)) split ∙ ap (λ (u : Text). q.p ++ u) (append_assoc text c.more q.r)) q.from
    (to ∙ ap (λ (k : ℕ). k + length text) q.from) in
    let first = dashed (is_fair q.v) in
    let before = (at_comment x d n).rest.parts in
    let parts : map (λ p. p.1) before ≡ map sound c.pieces = ap (λ (a : AlgorithmText). map (λ p. p.1) a.rest.parts) is ∙ c.parts in
    let name = n + length (at_comment x d n).opening in
    let row = row_ends name (n + length q.v) before c.pieces (row_of x d n q plain) parts in
    let ends : name + length (pieces_text c.pieces) ≡ (at_comment x d n).rest.to = ap (λ (a : AlgorithmText). n + length a.opening + length (pieces_text c.pieces)) is ∙ sym c.to ∙ sym (ap (λ (a : AlgorithmText). a.rest.to) is) in
    record {
      before_end = λ k h. subst (λ (e : ℕ). k < e) ends (in_before name (name + length (pieces_text c.pieces)) before k row h);
      front = q.u;
      back = c.more;
      at = q.at;
      inner = q.inner ∙ ap (λ (u : Text). q.u ++ u) (split ∙ ap (λ (u : Text). u ++ c.more) (sym cut));
      to = to ∙ ap (λ (u : Text). n + length u) (sym cut);
      rest = first.0 ++ pieces_text c.pieces;
      dash = cut ∙ ap (λ (u : Text). u ++ pieces_text c.pieces) first.1;
    }
  where
    sum : (n w p t : ℕ) → t ≡ w + p → n + w + p ≡ n + t
    sum n w p t e = omega arith

    dashed : (k : Bool) → (v : Text) × ((if k then codes "--fair" else codes "--algorithm") ≡ 45 ∷ 45 ∷ v)
    dashed true = (codes "fair", refl)
    dashed false = (codes "algorithm", refl)

-- ---- the file

-- after a bracket no line begins
no_line : (p : Place) (v : Text) → 1 ≤ p.col → nat_eq (after p (v ++ 42 ∷ 41 ∷ [])).col 1 ≡ false
no_line p v l =
    ap (λ (q : Place). nat_eq q.col 1) (ap (after p) (in_front v) ∙ after_both p (v ++ 42 ∷ []) (41 ∷ []))
    ∙ begins_after (after p (v ++ 42 ∷ [])) 41 (some_after p (v ++ 42 ∷ []) l)
  where
    in_front : (v : Text) → v ++ 42 ∷ 41 ∷ [] ≡ (v ++ 42 ∷ []) ++ 41 ∷ []
    in_front v = sym (append_assoc v (42 ∷ []) (41 ∷ []))

-- no comment before the first one with a beginning has one
none_before : (ds : List Located) → find holds_algorithm (before_first holds_algorithm ds) ≡ None
none_before [] = refl
none_before (d ∷ ds) = by (holds_algorithm d) refl (none_before ds)
  where
    by : (k : Bool) → holds_algorithm d ≡ k → find holds_algorithm (before_first holds_algorithm ds) ≡ None → find holds_algorithm (before_first holds_algorithm (d ∷ ds)) ≡ None
    by true k e = rw k refl
    by false k e = rw k (next (before_first holds_algorithm ds) k e)
      where
        next : (es : List Located) → holds_algorithm d ≡ false → find holds_algorithm es ≡ None → find holds_algorithm (d ∷ es) ≡ None
        next es k e = rw k e

module _ (x u w : Text) (a : AlgorithmText) (fine : IsFine x) (s : Swapped x (45 ∷ u) w) (is_algorithm : algorithm_in x ≡ Some a)
    (old_paired : is_paired 0 (stretch x a.from a.rest.to) ≡ true) (new_paired : is_paired 0 (45 ∷ u) ≡ true)
    (d : Located) (found : find holds_algorithm (walk x) ≡ Some d) (n : ℕ) (first : first_of (beginnings_in d) ≡ Some n) (same : at_comment x d n ≡ a) where
  abbrev ds : List Located
  ds = before_first holds_algorithm (walk x)

  abbrev es : List Located
  es = after_first holds_algorithm (walk x)

  split : walk x ≡ ds ++ d ∷ es
  split = before_whole holds_algorithm (walk x) d found

  offences : (offences_of ds ≡ []) × (offences_of (d ∷ es) ≡ [])
  offences = both_empty (offences_of ds) (offences_of (d ∷ es)) (sym (offences_append ds (d ∷ es)) ∙ ap offences_of (sym split) ∙ (all_fine_in x fine).parts.fine)

  here : (segment_offences d.at d.is ≡ []) × (offences_of es ≡ [])
  here = both_empty (segment_offences d.at d.is) (offences_of es) offences.1

  block_is : (body : Text) × (d.is ≡ part (sound (block body)))
  block_is = block_segment d.at n d.is here.0 first

  abbrev st : State
  st = after_all at_start ds

  met_here : (b : ℕ) × (t : Text) × (segment_at st b t ≡ part (sound (block block_is.0)))
  met_here = (let m = met ds d es at_start x split in (m.b, m.s, ap (λ (d : Located). d.is) m.is ∙ block_is.1))

  headed : st.headed ≡ true
  headed = part_headed st met_here.0 met_here.1 (sound (block block_is.0)) met_here.2

  closes : Closes 1 block_is.0
  closes = block_closed met_here.0 met_here.1 block_is.0 (part_there st met_here.0 met_here.1 (sound (block block_is.0)) met_here.2)

  holding : Held x d a
  holding = subst (Held x d) same (held x d n (placed_at x d n (all_fine_in x fine).parts.fine found first) (ap only_large plain))
    where
      plain : algorithm_offences (Some (at_comment x d n)) ≡ []
      plain = ap (λ (a : AlgorithmText). algorithm_offences (Some a)) same ∙ ap algorithm_offences (sym is_algorithm) ∙ (all_fine_in x fine).algorithm

  abbrev ending : Text
  ending = holding.back ++ 42 ∷ 41 ∷ []

  -- the comment is its text and its end
  body_is : block_is.0 ≡ holding.front ++ (stretch x a.from a.rest.to ++ ending)
  body_is =
      let e = closes_end zero block_is.0 closes in
      let inner : within d.is ≡ e.0 = ap within block_is.1 ∙ ap (λ (body : Text). take (length body - 2) body) e.1 ∙ within_mark e.0 in
      e.1 ∙ ap (λ (v : Text). v ++ 42 ∷ 41 ∷ []) (sym inner ∙ holding.inner) ∙ in_order holding.front (stretch x a.from a.rest.to) holding.back (42 ∷ 41 ∷ [])
    where
      in_order : (p v q m : Text) → (p ++ (v ++ q)) ++ m ≡ p ++ (v ++ (q ++ m))
      in_order p v q m = simp append_assoc refl

  abbrev new_body : Text
  new_body = holding.front ++ ((45 ∷ u) ++ ending)

  new_closes : Closes 1 new_body
  new_closes =
      stays_closed holding.front (45 ∷ holding.rest) u ending (ap (is_paired 0) (sym holding.dash) ∙ old_paired) new_paired
      (subst (Closes 1) (body_is ∙ ap (λ (v : Text). holding.front ++ (v ++ ending)) holding.dash) closes)

  abbrev new : Segment
  new = part (sound (block new_body))

  -- after the comment
  behind : (c : Text) × (x ≡ text_of (ds ++ d ∷ []) ++ c) × (walk_from (after_all at_start (ds ++ d ∷ [])) 0 c ≡ es)
  behind = suffixed (ds ++ d ∷ []) es at_start x (split ∙ sym (append_assoc ds (d ∷ []) es))

  abbrev c : Text
  c = behind.0

  text_here : x ≡ text_of ds ++ 40 ∷ 42 ∷ (block_is.0 ++ c)
  text_here =
      behind.1 ∙ ap (λ (v : Text). v ++ c) (text_append ds (d ∷ []) ∙ ap (λ (g : Segment). text_of ds ++ (bytes g ++ [])) block_is.1) ∙ in_order (text_of ds) (40 ∷ 42 ∷ []) block_is.0 c
    where
      in_order : (t m b c : Text) → (t ++ ((m ++ b) ++ [])) ++ c ≡ t ++ (m ++ (b ++ c))
      in_order t m b c = simp (append_assoc, append-nil) refl

  -- the algorithm's own text, between what is before it and after it
  parts_here : x ≡ (text_of ds ++ 40 ∷ 42 ∷ holding.front) ++ (stretch x a.from a.rest.to ++ (ending ++ c))
  parts_here =
      text_here ∙ ap (λ (b : Text). text_of ds ++ 40 ∷ 42 ∷ (b ++ c)) body_is ∙ in_order (text_of ds) (40 ∷ 42 ∷ []) holding.front (stretch x a.from a.rest.to) ending c
    where
      in_order : (t m p v e c : Text) → t ++ (m ++ ((p ++ (v ++ e)) ++ c)) ≡ (t ++ (m ++ p)) ++ (v ++ (e ++ c))
      in_order t m p v e c = simp append_assoc refl

  front_size : a.from ≡ length (text_of ds ++ 40 ∷ 42 ∷ holding.front)
  front_size =
      let size = at_is ds es d x split in
      let at = holding.at in
      omega (arith, size, at, length-append (text_of ds) (40 ∷ 42 ∷ holding.front))

  text_there : w ≡ text_of ds ++ 40 ∷ 42 ∷ (new_body ++ c)
  text_there =
      let pre = text_of ds ++ 40 ∷ 42 ∷ holding.front in
      let old = stretch x a.from a.rest.to in
      let old_same : s.old ≡ a = same_Some s.old a (sym s.is_old ∙ is_algorithm) in
      let front : take a.from x ≡ pre = ap (λ (n : ℕ). take n x) front_size ∙ ap (take (length pre)) parts_here ∙ take-append_seam pre (old ++ (ending ++ c)) in
      let size : a.rest.to ≡ length (pre ++ old) = holding.to ∙ ap (λ (n : ℕ). n + length old) front_size ∙ sym (length-append pre old) in
      let back : drop a.rest.to x ≡ ending ++ c =
      ap (λ (n : ℕ). drop n x) size ∙ ap (drop (length (pre ++ old))) (parts_here ∙ sym (append_assoc pre old (ending ++ c))) ∙ drop-append_seam (pre ++ old) (ending ++ c) in
      s.is ∙ ap (λ (a : AlgorithmText). take a.from x ++ ((45 ∷ u) ++ drop a.rest.to x)) old_same ∙ (λ i. front i ++ ((45 ∷ u) ++ back i))
      ∙ in_order (text_of ds) (40 ∷ 42 ∷ []) holding.front (45 ∷ u) ending c
    where
      in_order : (t m p v e c : Text) → (t ++ (m ++ p)) ++ (v ++ (e ++ c)) ≡ t ++ (m ++ ((p ++ (v ++ e)) ++ c))
      in_order t m p v e c = simp append_assoc refl

  calm : are_calm ds ≡ true
  calm = fine_calm ds offences.0 (before_tail ds d es (ap tails_last (sym split) ∙ walk_tails x))

  abbrev after_there : List Located
  after_there = walk_from (after_segment st new) 0 c

  walked_there : walk w ≡ ds ++ located st new ∷ after_there
  walked_there =
      ap walk text_there ∙ walk_before ds (d ∷ es) at_start (block_is.0 ++ c) (new_body ++ c) (ap walk (sym text_here) ∙ split) calm offences.0
      ∙ ap (λ (fs : List Located). ds ++ fs) (walk_step st 40 (42 ∷ (new_body ++ c)) c new (comment_there st new_body c headed new_closes) refl)

  some_place : 1 ≤ st.place.col
  some_place = subst (λ (p : Place). 1 ≤ p.col) (sym (places_after at_start ds)) (some_after start (text_of ds) (omega arith))

  ended : (v : Text) → nat_eq (after st.place (40 ∷ 42 ∷ (holding.front ++ (v ++ ending)))).col 1 ≡ false
  ended v =
      ap (λ (t : Text). nat_eq (after st.place (40 ∷ 42 ∷ t)).col 1) (in_order holding.front v holding.back (42 ∷ 41 ∷ []))
      ∙ no_line st.place (40 ∷ 42 ∷ (holding.front ++ (v ++ holding.back))) some_place
    where
      in_order : (p v q m : Text) → p ++ (v ++ (q ++ m)) ≡ (p ++ (v ++ q)) ++ m
      in_order p v q m = simp append_assoc refl

  shown_after : shown es ≡ shown after_there
  shown_after =
      let old : Segment = part (sound (block block_is.0)) in
      let from : after_all at_start (ds ++ d ∷ []) ≡ after_segment st old = after_append at_start ds (d ∷ []) ∙ ap (after_segment st) block_is.1 in
      let walked_old : walk_from (after_segment st old) 0 c ≡ es = ap (λ (st : State). walk_from st 0 c) (sym from) ∙ behind.2 in
      let line_old : nat_eq (after_segment st old).place.col 1 ≡ false = ap (λ (b : Text). nat_eq (after st.place (40 ∷ 42 ∷ b)).col 1) body_is ∙ ended (stretch x a.from a.rest.to) in
      ap shown (sym walked_old)
      ∙ shown_alike (after_segment st old) (after_segment st new) c (rw headed refl) (rw headed refl) (some_after st.place (bytes old) some_place) (some_after st.place (bytes new) some_place)
      (line_old ∙ sym (ended (45 ∷ u))) (inl refl)

  same_after : segments es ≡ segments after_there
  same_after = same_segments es after_there shown_after

  -- nothing else begins an algorithm in the file that was read
  abbrev before : List ℕ
  before = beginnings_in d ++ beginnings es

  all_in : list_all (λ k. nat_lt k a.rest.to) before ≡ true
  all_in =
      let b = begun_in (walk x) d found in
      let same_first : b.n ≡ n = same_Some b.n n (sym b.first ∙ first) in
      let all : beginnings (walk x) ≡ n ∷ b.others = b.all ∙ ap (λ (k : ℕ). k ∷ b.others) same_first in
      let mine = first_fine x d n b.others fine found first all in
      let within_tokens : list_all (in_token a) b.others ≡ true = subst (λ (a : AlgorithmText). list_all (in_token a) b.others ≡ true) same mine.within_tokens in
      let whole : before ≡ n ∷ b.others = sym (ap beginnings split ∙ beginnings_append ds (d ∷ es) ∙ ap (λ (ns : List ℕ). ns ++ before) (none_held ds (none_before (walk x)))) ∙ all in
      let from_is : a.from ≡ n = ap (λ (a : AlgorithmText). a.from) (sym same) in
      let to = holding.to in
      let size = ap length holding.dash in
      ap (list_all (λ k. nat_lt k a.rest.to)) whole
      ∙ and_from (nat_lt n a.rest.to) (list_all (λ k. nat_lt k a.rest.to) b.others) (lt-ltb n a.rest.to (omega (arith, to, size, from_is))) (all_before (in_token a) a.rest.to b.others holding.before_end within_tokens)

  none_behind : all_at begins_algorithm a.rest.to holding.back ≡ []
  none_behind =
      let parts = all_parts (λ k. nat_lt k a.rest.to) (beginnings_in d) (beginnings es) all_in in
      let text : within d.is ≡ (holding.front ++ stretch x a.from a.rest.to) ++ holding.back = holding.inner ∙ sym (append_assoc holding.front (stretch x a.from a.rest.to) holding.back) in
      let at = holding.at in
      let to = holding.to in
      let size = length-append holding.front (stretch x a.from a.rest.to) in
      none_past begins_algorithm a.rest.to (d.at + 2) (holding.front ++ stretch x a.from a.rest.to) holding.back (omega (arith, at, to, size))
      (ap (λ (t : Text). list_all (λ k. nat_lt k a.rest.to) (all_at begins_algorithm (d.at + 2) t)) (sym text) ∙ parts.0)

  none_after_there : beginnings after_there ≡ []
  none_after_there =
      let parts = all_parts (λ k. nat_lt k a.rest.to) (beginnings_in d) (beginnings es) all_in in
      let at = holding.at in
      let to = holding.to in
      let inner = ap length holding.inner ∙ length-append holding.front (stretch x a.from a.rest.to ++ holding.back) in
      let size = length-append (stretch x a.from a.rest.to) holding.back in
      let marks = comment_size d.is n (d.at + 2) first in
      none_there es after_there same_after (none_after x ds es d a.rest.to split (omega (arith, at, to, inner, size, marks)) parts.1)

  in_segment : SwapsSegment x w (45 ∷ holding.rest) u
  in_segment =
      let is = block_is.1 in
      record {
        front = ds;
        old = d;
        new = located st new;
        back = es;
        back_there = after_there;
        here = split;
        there = walked_there;
        same = same_after;
        opened = 40 ∷ 42 ∷ holding.front;
        closed = ending;
        bytes_here = ap bytes is ∙ ap (λ (b : Text). 40 ∷ 42 ∷ b) (body_is ∙ ap (λ (t : Text). holding.front ++ (t ++ ending)) holding.dash);
        bytes_there = refl;
        headed = headed;
        no_region = ap is_region is;
        no_tail = ap is_tail is;
        no_region_there = refl;
        no_tail_there = refl;
      }

  no_options : AddsNoOptions (45 ∷ u) → flat_map (options_in w) (outside_region w (walk w)) ≡ []
  no_options adds = (let all = all_fine_in x fine in swapped_options x w (45 ∷ holding.rest) u in_segment adds all.parts.ends all.options)

  swaps_comment : SwapsComment x (45 ∷ u) w a
  swaps_comment = record {
    before = ds;
    comment = d;
    after = es;
    walked = split;
    there = new;
    after_there = after_there;
    walked_there = walked_there;
    same_after = same_after;
    front = holding.front;
    back = holding.back;
    at = holding.at;
    held = holding.inner;
    holds = ap (λ (b : Text). take (length b - 2) b) (in_order holding.front (45 ∷ u) holding.back (42 ∷ 41 ∷ [])) ∙ within_mark (holding.front ++ ((45 ∷ u) ++ holding.back));
    sound = ap offences_of walked_there ∙ offences_append ds (located st new ∷ after_there) ∙ (λ i. offences.0 i ++ fine_segments es after_there same_after here.1 i);
  }
    where
      in_order : (p v q m : Text) → p ++ (v ++ (q ++ m)) ≡ (p ++ (v ++ q)) ++ m
      in_order p v q m = simp append_assoc refl

  comment_alike : holds_algorithm (located st new) ≡ true → Like d (located st new)
  comment_alike there =
      let is = block_is.1 in
      let here : Located = record { at = d.at; place = d.place; is = part (sound (block block_is.0)) } in
      record {
        region = ap is_region is;
        algorithm = ap (λ (o : Option ℕ). is_some o) first ∙ sym there;
        newline = ap (λ (g : Segment). is_newline (record { at = d.at; place = d.place; is = g })) is;
        space = ap is_space is;
        kind = ap kind_of_segment is;
        line = ap (λ (d : Located). nat_eq d.place.col 1) (sym (met ds d es at_start x split).is);
      }

  placed_there : holds_algorithm (located st new) ≡ true → placements (walk w) ≡ []
  placed_there there =
      let alike = like_both ds ds (d ∷ es) (located st new ∷ after_there) (like_self ds) (comment_alike there, like_shown es after_there shown_after) in
      ap placements walked_there ∙ placed_alike (ds ++ d ∷ es) (ds ++ located st new ∷ after_there) alike (ap placements (sym split) ∙ (all_fine_in x fine).parts.placed)

  -- the algorithm that is there now begins where the old one did
  begins_there : (v : Text) → u ≡ 45 ∷ v → begins_algorithm (45 ∷ u) ≡ true → BeginsThere (45 ∷ u) w a
  begins_there v e begun =
      let front = holding.front in
      let back = holding.back in
      let there = located st new in
      let m = st.at + 2 + length front in
      let from_is : a.from ≡ n = ap (λ (a : AlgorithmText). a.from) (sym same) in
      let at_is_there : st.at ≡ d.at = ap (λ (d : Located). d.at) (met ds d es at_start x split).is in
      let old_text : within d.is ≡ front ++ 45 ∷ 45 ∷ (holding.rest ++ back) = holding.inner ∙ ap (λ (t : Text). front ++ (t ++ back)) holding.dash in
      let new_text : within new ≡ front ++ 45 ∷ 45 ∷ (v ++ back) =
      ap (λ (b : Text). take (length b - 2) b) (in_order front (45 ∷ u) back (42 ∷ 41 ∷ [])) ∙ within_mark (front ++ ((45 ∷ u) ++ back)) ∙ ap (λ (t : Text). front ++ 45 ∷ (t ++ back)) e in
      let old_first : first_of (all_at begins_algorithm (d.at + 2) (front ++ 45 ∷ 45 ∷ (holding.rest ++ back))) ≡ Some (d.at + 2 + length front) =
      ap (λ (t : Text). first_of (all_at begins_algorithm (d.at + 2) t)) (sym old_text) ∙ first ∙ ap Some (sym from_is ∙ holding.at) in
      let begun_word : begins_algorithm (45 ∷ 45 ∷ v) ≡ true = ap (λ (t : Text). begins_algorithm (45 ∷ t)) (sym e) ∙ begun in
      let new_first : first_of (beginnings_in there) ≡ Some m =
      ap (λ (t : Text). first_of (all_at begins_algorithm (st.at + 2) t)) new_text
      ∙ ap (λ (k : ℕ). first_of (all_at begins_algorithm (k + 2) (front ++ 45 ∷ 45 ∷ (v ++ back)))) at_is_there
      ∙ first_swapped front (holding.rest ++ back) (v ++ back) (d.at + 2) old_first (begins_more (45 ∷ 45 ∷ v) back begun_word)
      ∙ ap (λ (k : ℕ). Some (k + 2 + length front)) (sym at_is_there) in
      let holds_it : holds_algorithm there ≡ true = ap (λ (o : Option ℕ). is_some o) new_first in
      let found_it : find holds_algorithm (walk w) ≡ Some there = ap (find holds_algorithm) walked_there ∙ found_back ds (there ∷ after_there) (none_before (walk x)) ∙ held_first there after_there holds_it in
      let count : m ≡ a.from = (let at = holding.at in omega (arith, at, at_is_there)) in
      let pre = text_of ds ++ 40 ∷ 42 ∷ front in
      let text : w ≡ pre ++ ((45 ∷ u) ++ (ending ++ c)) = text_there ∙ in_pieces (text_of ds) (40 ∷ 42 ∷ []) front (45 ∷ u) ending c in
      let after_it : drop m w ≡ (45 ∷ u) ++ (ending ++ c) = ap (λ (k : ℕ). drop k w) (count ∙ front_size) ∙ ap (drop (length pre)) text ∙ drop-append_seam pre ((45 ∷ u) ++ (ending ++ c)) in
      let word : opening ((45 ∷ u) ++ (ending ++ c)) ≡ opening (45 ∷ u) = ap (λ (k : Bool). if k then codes "--fair" else codes "--algorithm") ((opened (45 ∷ u) begun).more (ending ++ c)) in
      let there_begins : beginnings_in there ≡ all_at begins_algorithm a.from ((45 ∷ u) ++ back) =
      ap (all_at begins_algorithm (st.at + 2)) new_text
      ∙ over_front begins_algorithm (st.at + 2) front (45 ∷ 45 ∷ (v ++ back)) (ap (λ (t : Text). first_of (all_at begins_algorithm (st.at + 2) t)) (sym new_text) ∙ new_first)
      ∙ (λ i. all_at begins_algorithm (count i) (45 ∷ (sym e i ++ back))) in
      record {
        algorithm = at_comment w there m;
        is_algorithm = algorithm_at_first w there m found_it new_first;
        from = count;
        opening = ap opening after_it ∙ word;
        behind = back;
        begun = ap beginnings walked_there ∙ beginnings_append ds (there ∷ after_there)
            ∙ (λ i. none_held ds (none_before (walk x)) i ++ (there_begins i ++ none_after_there i)) ∙ append-nil (all_at begins_algorithm a.from ((45 ∷ u) ++ back));
        none_behind = none_anywhere begins_algorithm a.rest.to (a.from + length (45 ∷ u)) back none_behind;
        placed = placed_there holds_it;
      }
    where
      in_order : (p v q m : Text) → p ++ (v ++ (q ++ m)) ≡ (p ++ (v ++ q)) ++ m
      in_order p v q m = simp append_assoc refl

      in_pieces : (t m p v e c : Text) → t ++ (m ++ ((p ++ (v ++ e)) ++ c)) ≡ (t ++ (m ++ p)) ++ (v ++ (e ++ c))
      in_pieces t m p v e c = simp append_assoc refl

      held_first : (b : Located) (es : List Located) → holds_algorithm b ≡ true → find holds_algorithm (b ∷ es) ≡ Some b
      held_first b es t = rw t refl

pub swapped_comment : (x u w : Text) (a : AlgorithmText) → IsFine x → Swapped x (45 ∷ u) w → algorithm_in x ≡ Some a → is_paired 0 (stretch x a.from a.rest.to) ≡ true → is_paired 0 (45 ∷ u) ≡ true
    → SwapsComment x (45 ∷ u) w a
swapped_comment x u w a fine s is old_paired new_paired = by (find holds_algorithm (walk x)) refl
  where
    begun : (d : Located) → find holds_algorithm (walk x) ≡ Some d → (o : Option ℕ) → first_of (beginnings_in d) ≡ o → SwapsComment x (45 ∷ u) w a
    begun d f None o = (let g : None ≡ Some a = rw (f, o) at is in absurd (none-some a g))
    begun d f (Some n) o =
        let g : Some (at_comment x d n) ≡ Some a = rw (f, o) at is in
        swaps_comment x u w a fine s is old_paired new_paired d f n o (same_Some (at_comment x d n) a g)

    by : (o : Option Located) → find holds_algorithm (walk x) ≡ o → SwapsComment x (45 ∷ u) w a
    by None f = (let g : None ≡ Some a = rw f at is in absurd (none-some a g))
    by (Some d) f = begun d f (first_of (beginnings_in d)) refl

pub swapped_begins : (x u w : Text) (a : AlgorithmText) → IsFine x → Swapped x (45 ∷ 45 ∷ u) w → algorithm_in x ≡ Some a → is_paired 0 (stretch x a.from a.rest.to) ≡ true → is_paired 0 (45 ∷ 45 ∷ u) ≡ true
    → begins_algorithm (45 ∷ 45 ∷ u) ≡ true → BeginsThere (45 ∷ 45 ∷ u) w a
swapped_begins x u w a fine s is old_paired new_paired start_there = by (find holds_algorithm (walk x)) refl
  where
    begun : (d : Located) → find holds_algorithm (walk x) ≡ Some d → (o : Option ℕ) → first_of (beginnings_in d) ≡ o → BeginsThere (45 ∷ 45 ∷ u) w a
    begun d f None o = (let g : None ≡ Some a = rw (f, o) at is in absurd (none-some a g))
    begun d f (Some n) o =
        let g : Some (at_comment x d n) ≡ Some a = rw (f, o) at is in
        begins_there x (45 ∷ u) w a fine s is old_paired new_paired d f n o (same_Some (at_comment x d n) a g) u refl start_there

    by : (o : Option Located) → find holds_algorithm (walk x) ≡ o → BeginsThere (45 ∷ 45 ∷ u) w a
    by None f = (let g : None ≡ Some a = rw f at is in absurd (none-some a g))
    by (Some d) f = begun d f (first_of (beginnings_in d)) refl

pub swapped_without : (x u w : Text) (a : AlgorithmText) → IsFine x → Swapped x (45 ∷ u) w → algorithm_in x ≡ Some a → is_paired 0 (stretch x a.from a.rest.to) ≡ true → is_paired 0 (45 ∷ u) ≡ true
    → AddsNoOptions (45 ∷ u) → flat_map (options_in w) (outside_region w (walk w)) ≡ []
swapped_without x u w a fine s is old_paired new_paired adds = by (find holds_algorithm (walk x)) refl
  where
    begun : (d : Located) → find holds_algorithm (walk x) ≡ Some d → (o : Option ℕ) → first_of (beginnings_in d) ≡ o → flat_map (options_in w) (outside_region w (walk w)) ≡ []
    begun d f None o = (let g : None ≡ Some a = rw (f, o) at is in absurd (none-some a g))
    begun d f (Some n) o =
        let g : Some (at_comment x d n) ≡ Some a = rw (f, o) at is in
        no_options x u w a fine s is old_paired new_paired d f n o (same_Some (at_comment x d n) a g) adds

    by : (o : Option Located) → find holds_algorithm (walk x) ≡ o → flat_map (options_in w) (outside_region w (walk w)) ≡ []
    by None f = (let g : None ≡ Some a = rw f at is in absurd (none-some a g))
    by (Some d) f = begun d f (first_of (beginnings_in d)) refl
