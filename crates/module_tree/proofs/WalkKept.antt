-- A file that is not refused has a place for a translation, and with one it keeps its title, its units before and after, and breaks no rule by a segment.
use Rattle.std.proofs.Common.{◌≡◌, ◌⊎◌, inl, inr, ℕ, ◌+◌, Bool, true, false, not, nat_eq, List, [], ◌∷◌, ◌++◌, length, take, drop, Option, Some, None, refl, sym, ap, subst, ◌∙◌, arith, codes, append_assoc, length-append, find}
use Rattle.std.specs.Prelude.{if◌then◌else◌, is_some}
use Rattle.std.specs.List.{list_any, flat_map}
use Rattle.std.proofs.lemmas.Bool.{and_parts, and_from, not-true, eqb-true, both_ways, or_right}
use Rattle.std.proofs.lemmas.Option.{none-some, same_Some}
use Rattle.std.proofs.Math.Seq.{take-append_seam, drop-append_seam}
use Rattle.tla_token.specs.declared.rule.Rule.TheVariants.{Placement}
use Rattle.tla_token.specs.Tokens.{blank}
use Rattle.tla_token.specs.Offences.{sound}
use Rattle.module_tree.specs.TextFront.{Text, on_some}
use Rattle.module_tree.specs.Beginnings.{begins_algorithm, all_at}
use Rattle.module_tree.specs.Walk.{Segment, free, header, part, region, mark, inner, tail, bytes, is_region, is_tail, State, after_segment, Located, walk, at_start}
use Rattle.module_tree.specs.FileParts.{up_to_first, after_first, before_first, first_that, module_end, within, beginnings_in, beginnings, first_of, holds_algorithm, after_comment, Span, span_of, region_of, is_newline, spot, before_spot, after_spot}
use Rattle.module_tree.specs.FileUnits.{tokens_in}
use Rattle.module_tree.specs.AlgorithmText.{algorithm_of}
use Rattle.module_tree.specs.FileOffences.{segment_offences, offences_of, algorithm_offences, no_module, no_algorithm, second_algorithms, rest_of_line, no_unit, placements, outside_region, options_in}
use Rattle.module_tree.specs.WithTranslation.{begin_line, end_line, WithTranslation}
use Rattle.module_tree.specs.laws.Walks.{text_of, is_lined, are_calm, after_all, IsOpen, IsInside, newline_segment, are_common, Put}
use Rattle.module_tree.specs.laws.Kept.{IsFine}
use Rattle.module_tree.proofs.WalkAround.{suffixed, after_region, inserted, replaced}
use Rattle.module_tree.proofs.WalkAgain.{at_after}
use Rattle.module_tree.proofs.WalkPlace.{both_empty, up_to_whole, before_whole, none_such, before_none, none_found, none_parts, text_append, after_append, offences_append, fine_calm, fine_common, tails_last, walk_tails, has_tail, before_tail, tail_after, is_part, part_headed, none_marked, met, region_met, open_lined}

-- ---- what a file that is not refused has

pub record Sound (x : Text) : Type 0 where
  pub fine : offences_of (walk x) ≡ []
  pub ends : has_tail (walk x) ≡ true
  pub begun : beginnings (walk x) ≡ [] → ⊥
  pub placed : placements (walk x) ≡ []

-- where these have no offences
pub sound_parts : (x : Text) → offences_of (walk x) ≡ [] → no_module x (module_end (walk x)) ≡ [] → no_algorithm (module_end (walk x)) (beginnings (walk x)) ≡ [] → placements (walk x) ≡ [] → Sound x
sound_parts x fine ended missing placed =
    let ds = walk x in
    let ends = some_end (first_that is_tail ds) ended in
    record { fine = fine; ends = ends; begun = some_begin (first_that is_tail ds) (beginnings ds) ends missing; placed = placed }
  where
    some_end : (e : Option Located) → no_module x (on_some e (λ d. Some d.at)) ≡ [] → is_some e ≡ true
    some_end (Some d) h = refl
    some_end None h = absurd cc

    some_begin : (e : Option Located) (ns : List ℕ) → is_some e ≡ true → no_algorithm (on_some e (λ d. Some d.at)) ns ≡ [] → ns ≡ [] → ⊥
    some_begin (Some d) [] t h e = cc
    some_begin (Some d) (n ∷ ns) t h e = cc
    some_begin None ns t h e = (let f : false ≡ true = t in cc)

sound_file : (x : Text) → IsFine x → Sound x
sound_file x f =
    let ds = walk x in
    let a = algorithm_of x ds in
    let o = both_empty (offences_of ds) _ f in
    let p = both_empty (algorithm_offences a) _ o.1 in
    let q = both_empty (no_module x (module_end ds)) _ p.1 in
    let r = both_empty (no_algorithm (module_end ds) (beginnings ds)) _ q.1 in
    let s = both_empty (second_algorithms a (beginnings ds)) _ r.1 in
    let t = both_empty (placements ds) _ s.1 in
    sound_parts x o.0 q.0 r.0 t.0

-- ---- the comment of the algorithm

holding_part : (at : ℕ) (g : Segment) → is_some (first_of (all_at begins_algorithm (at + 2) (within g))) ≡ true → (is_part g ≡ true) × (is_tail g ≡ false)
holding_part at (free w) h = absurd cc
holding_part at (header w) h = absurd cc
holding_part at (part p) h = (refl, refl)
holding_part at (region v w) h = absurd cc
holding_part at (mark w) h = absurd cc
holding_part at (inner w) h = absurd cc
holding_part at (tail w) h = absurd cc

none_first : (ns : List ℕ) → is_some (first_of ns) ≡ false → ns ≡ []
none_first [] h = refl
none_first (n ∷ ns) h = absurd cc

-- up to the comment, and after it
pub record Commented (ds : List Located) : Type 0 where
  pub no_tail : none_such is_tail (up_to_first holds_algorithm ds) ≡ true
  pub ends : has_tail (after_comment ds) ≡ true
  pub parts : list_any (λ d. is_part d.is) (up_to_first holds_algorithm ds) ≡ true

pub commented : (ds : List Located) → tails_last ds ≡ true → has_tail ds ≡ true → (beginnings ds ≡ [] → ⊥) → Commented ds
commented [] t e b = absurd (b refl)
commented (d ∷ ds) t e b = by (holds_algorithm d) refl (commented ds)
  where
    rest_tails : tails_last ds ≡ true
    rest_tails = (and_parts _ (tails_last ds) t).1

    by : (k : Bool) → holds_algorithm d ≡ k → (tails_last ds ≡ true → has_tail ds ≡ true → (beginnings ds ≡ [] → ⊥) → Commented ds) → Commented (d ∷ ds)
    by true k deeper =
        let p = holding_part d.at d.is k in
        let more : has_tail ds ≡ true = (let other = p.1 in rw other at e) in
        record {
          no_tail = rw (k, p.1) refl;
          ends = rw k more;
          parts = rw (k, p.0) refl;
        }
    by false k deeper = on (is_tail d.is) refl
      where
        none : beginnings_in d ≡ []
        none = none_first (beginnings_in d) k

        others : beginnings ds ≡ [] → ⊥
        others n = b (ap (λ (ns : List ℕ). ns ++ beginnings ds) none ∙ n)

        last : (es : List Located) → is_tail d.is ≡ true → tails_last (d ∷ es) ≡ true → (beginnings es ≡ [] → ⊥) → ⊥
        last [] k t o = o refl
        last (c ∷ es) k t o =
            let f : not (is_tail d.is) ≡ true = (and_parts (not (is_tail d.is)) (tails_last (c ∷ es)) t).0 in
            both_ways (is_tail d.is) (not-true (is_tail d.is) f) k

        on : (l : Bool) → is_tail d.is ≡ l → Commented (d ∷ ds)
        on true l = absurd (last ds l t others)
        on false l =
            let more : has_tail ds ≡ true = rw l at e in
            let r = deeper rest_tails more others in
            record { no_tail = rw (k, l) r.no_tail; ends = rw k r.ends; parts = rw k (or_right (is_part d.is) _ r.parts) }

-- ---- each part of what a file that is not refused has

pub record AllFine (x : Text) : Type 0 where
  pub parts : Sound x
  pub algorithm : algorithm_offences (algorithm_of x (walk x)) ≡ []
  pub second : second_algorithms (algorithm_of x (walk x)) (beginnings (walk x)) ≡ []
  pub options : flat_map (options_in x) (outside_region x (walk x)) ≡ []

pub all_fine_in : (x : Text) → IsFine x → AllFine x
all_fine_in x f =
    let ds = walk x in
    let a = algorithm_of x ds in
    let o = both_empty (offences_of ds) _ f in
    let p = both_empty (algorithm_offences a) _ o.1 in
    let q = both_empty (no_module x (module_end ds)) _ p.1 in
    let r = both_empty (no_algorithm (module_end ds) (beginnings ds)) _ q.1 in
    let s = both_empty (second_algorithms a (beginnings ds)) _ r.1 in
    let t = both_empty (placements ds) _ s.1 in
    record { parts = sound_file x f; algorithm = p.0; second = s.0; options = t.1 }

-- ---- the newline after it

pub newline_is : (d : Located) → is_newline d ≡ true → d.is ≡ newline_segment
newline_is d h = by d.is refl
  where
    by : (g : Segment) → d.is ≡ g → d.is ≡ newline_segment
    by (part (sound (blank b))) e = (let k : nat_eq b 10 ≡ true = rw e at h in e ∙ ap (λ (b : ℕ). part (sound (blank b))) (eqb-true b 10 k))
    by g e = (let f : false ≡ true = rw e at h in absurd cc)

-- blanks up to a newline
pub record LineEnd (ds : List Located) : Type 0 where
  pub blanks : List Located
  pub end : Located
  pub is : up_to_first is_newline ds ≡ blanks ++ end ∷ []
  pub is_end : end.is ≡ newline_segment
  pub found : find is_newline ds ≡ Some end
  pub no_tail : none_such is_tail (up_to_first is_newline ds) ≡ true
  pub ends : has_tail (after_first is_newline ds) ≡ true

line_ends : (ds : List Located) → rest_of_line ds ≡ [] → has_tail ds ≡ true → LineEnd ds
line_ends [] h e = absurd cc
line_ends (d ∷ ds) h e = by (is_newline d) refl (line_ends ds)
  where
    by : (k : Bool) → is_newline d ≡ k → (rest_of_line ds ≡ [] → has_tail ds ≡ true → LineEnd ds) → LineEnd (d ∷ ds)
    by true k deeper =
        let is = newline_is d k in
        let other : is_tail d.is ≡ false = ap is_tail is in
        let more : has_tail ds ≡ true = rw other at e in
        record {
          blanks = [];
          end = d;
          is = rw k refl;
          is_end = is;
          found = rw k refl;
          no_tail = rw (k, other) refl;
          ends = rw k more;
        }
    by false k deeper = on (goes_on d.is refl)
      where
        goes_on : (g : Segment) → d.is ≡ g → (rest_of_line ds ≡ []) × (is_tail d.is ≡ false)
        goes_on (part (sound (blank b))) g = (let r : rest_of_line ds ≡ [] = rw (k, g) at h in (r, ap is_tail g))
        goes_on s g = (let f : (Placement, d.at) ∷ [] ≡ [] = rw (k, g) at h in absurd cc)

        on : (rest_of_line ds ≡ []) × (is_tail d.is ≡ false) → LineEnd (d ∷ ds)
        on (r, other) =
            let more : has_tail ds ≡ true = rw other at e in
            let l = deeper r more in
            record {
              blanks = d ∷ l.blanks;
              end = l.end;
              is = rw k (ap (λ (es : List Located). d ∷ es) l.is);
              is_end = l.is_end;
              found = rw k l.found;
              no_tail = rw (k, other) l.no_tail;
              ends = rw k l.ends;
            }

-- ---- the place

abbrev pub IsWritten : List Located → List Located → Text → Text → Text → Type 0
IsWritten front back c t w = (w ≡ text_of front ++ (begin_line ++ (t ++ (end_line ++ 10 ∷ c)))) × Put front back t (10 ∷ c)

-- what is between the segments before it and after it: nothing, or the old region and its newline
abbrev pub Shape : Text → List Located → List Located → Type 0
Shape x front back =
    ((region_of (walk x) ≡ None) × (walk x ≡ front ++ back))
    ⊎ ((old : Located) × (here : Located) × (region_of (walk x) ≡ Some old) × (is_tail old.is ≡ false) × (here.is ≡ newline_segment) × (walk x ≡ front ++ old ∷ here ∷ back))

-- the segments before it and after it, and the text with a translation there
pub record HasPlace (x : Text) : Type 0 where
  pub front : List Located
  pub back : List Located
  pub is_front : before_spot (walk x) ≡ front
  pub is_back : tokens_in (after_spot (walk x)) ≡ tokens_in back
  pub opened : IsOpen (after_all at_start front)
  pub no_region : none_such is_region front ≡ true
  pub fine_front : offences_of front ≡ []
  pub fine_back : offences_of back ≡ []
  pub ends : has_tail back ≡ true
  pub rest : List Located
  pub whole : walk x ≡ front ++ rest
  pub found : find holds_algorithm rest ≡ find holds_algorithm back
  pub shape : Shape x front back
  pub rest_text : Text
  pub written : (t w : Text) → IsInside t → WithTranslation x t w → IsWritten front back rest_text t w

-- the index of a segment is the number of bytes before it
pub at_is : (ds es : List Located) (d : Located) (x : Text) → walk x ≡ ds ++ d ∷ es → d.at ≡ length (text_of ds)
at_is ds es d x w =
    let m = met ds d es at_start x w in
    ap (λ (d : Located). d.at) (sym m.is) ∙ at_after at_start ds ∙ none (length (text_of ds))
  where
    none : (n : ℕ) → 0 + n ≡ n
    none n = omega arith

abbrev filled : Text → Text → Text → Option Located → Span → Text
filled x t u o r = take r.from x ++ (begin_line ++ (t ++ (end_line ++ ((if is_some o then [] else codes "\n") ++ drop r.to x))))

-- where none was
new_place : (x : Text) → Sound x → region_of (walk x) ≡ None → HasPlace x
new_place x f none =
    record {
      front = front;
      back = back;
      is_front = rw none refl;
      is_back = ap tokens_in back_is;
      opened = opened;
      no_region = regions.0;
      fine_front = fine.0;
      fine_back = fine.1;
      ends = line.ends;
      rest = back;
      whole = sym whole;
      found = refl;
      shape = inl (none, sym whole);
      rest_text = drop (line.end.at + 1) x;
      written = λ t w i a.
          (let p = inserted x t front back (sym whole) lined calm opened i common in
          let size : line.end.at + 1 ≡ length (text_of front) = end_at in
          let front_bytes : take (line.end.at + 1) x ≡ text_of front = ap (λ (n : ℕ). take n x) size ∙ ap (take (length (text_of front))) p.1 ∙ take-append_seam (text_of front) p.0 in
          let back_bytes : drop (line.end.at + 1) x ≡ p.0 = ap (λ (n : ℕ). drop n x) size ∙ ap (drop (length (text_of front))) p.1 ∙ drop-append_seam (text_of front) p.0 in
          subst (λ (c : Text). IsWritten front back c t w) (sym back_bytes) (
            a.is ∙ ap (λ (o : Option Located). filled x t w o a.at) none ∙ ap (λ (r : Span). filled x t w None r) (same_Some a.at place (sym a.is_spot ∙ spot_here))
                ∙ ap (λ (u : Text). u ++ (begin_line ++ (t ++ (end_line ++ (10 ∷ drop (line.end.at + 1) x))))) front_bytes
                ∙ ap (λ (u : Text). text_of front ++ (begin_line ++ (t ++ (end_line ++ (10 ∷ u))))) back_bytes,
            p.2,
          ));
    }
  where
    comment : Commented (walk x)
    comment = commented (walk x) (walk_tails x) f.ends f.begun

    placed : rest_of_line (after_comment (walk x)) ++ no_unit (after_first is_newline (after_comment (walk x))) ≡ []
    placed = (let p = f.placed in rw none at p)

    line : LineEnd (after_comment (walk x))
    line = line_ends (after_comment (walk x)) (both_empty (rest_of_line (after_comment (walk x))) (no_unit (after_first is_newline (after_comment (walk x)))) placed).0 comment.ends

    upper : List Located
    upper = up_to_first holds_algorithm (walk x)

    lower : List Located
    lower = up_to_first is_newline (after_comment (walk x))

    front : List Located
    front = upper ++ lower

    back : List Located
    back = after_first is_newline (after_comment (walk x))

    back_is : after_spot (walk x) ≡ back
    back_is = rw none refl

    whole : front ++ back ≡ walk x
    whole = list_order upper lower back ∙ ap (λ (ds : List Located). upper ++ ds) (up_to_whole is_newline (after_comment (walk x))) ∙ up_to_whole holds_algorithm (walk x)
      where
        list_order : (a b c : List Located) → (a ++ b) ++ c ≡ a ++ (b ++ c)
        list_order a b c = append_assoc a b c

    blanks_first : front ≡ (upper ++ line.blanks) ++ line.end ∷ []
    blanks_first = ap (λ (ds : List Located). upper ++ ds) line.is ∙ sym (append_assoc upper line.blanks (line.end ∷ []))

    fine : (offences_of front ≡ []) × (offences_of back ≡ [])
    fine = both_empty (offences_of front) (offences_of back) (sym (offences_append front back) ∙ ap offences_of whole ∙ f.fine)

    regions : (none_such is_region front ≡ true) × (none_such is_region back ≡ true)
    regions = none_parts is_region front back (ap (none_such is_region) whole ∙ none_found is_region (walk x) none)

    common : are_common back ≡ true
    common = fine_common back fine.1 regions.1

    no_tail : none_such is_tail front ≡ true
    no_tail = both_none upper lower comment.no_tail line.no_tail
      where
        both_none : (ds es : List Located) → none_such is_tail ds ≡ true → none_such is_tail es ≡ true → none_such is_tail (ds ++ es) ≡ true
        both_none [] es h k = k
        both_none (d ∷ ds) es h k =
            (let p = and_parts (not (is_tail d.is)) (none_such is_tail ds) h in and_from (not (is_tail d.is)) (none_such is_tail (ds ++ es)) p.0 (both_none ds es p.1 k))

    calm : are_calm front ≡ true
    calm = fine_calm front fine.0 no_tail

    last_line : after_all at_start front ≡ after_segment (after_all at_start (upper ++ line.blanks)) newline_segment
    last_line =
        ap (after_all at_start) blanks_first ∙ after_append at_start (upper ++ line.blanks) (line.end ∷ [])
        ∙ ap (λ (g : Segment). after_segment (after_all at_start (upper ++ line.blanks)) g) line.is_end

    parts : list_any (λ d. is_part d.is) front ≡ true
    parts = any_more upper lower comment.parts
      where
        any_more : (ds es : List Located) → list_any (λ d. is_part d.is) ds ≡ true → list_any (λ d. is_part d.is) (ds ++ es) ≡ true
        any_more [] es h = absurd cc
        any_more (d ∷ ds) es h = on (is_part d.is) refl (any_more ds es)
          where
            on : (k : Bool) → is_part d.is ≡ k → (list_any (λ d. is_part d.is) ds ≡ true → list_any (λ d. is_part d.is) (ds ++ es) ≡ true) → list_any (λ d. is_part d.is) (d ∷ (ds ++ es)) ≡ true
            on true k deeper = rw k refl
            on false k deeper = (let more : list_any (λ d. is_part d.is) ds ≡ true = rw k at h in rw k (deeper more))

    opened : IsOpen (after_all at_start front)
    opened = (
      part_headed front back at_start x (sym whole) parts,
      none_marked at_start front refl regions.0,
      ap (λ (st : State). nat_eq st.place.col 1) last_line,
    )

    lined : is_lined (text_of front) ≡ true
    lined = open_lined front opened

    end_at : line.end.at + 1 ≡ length (text_of front)
    end_at =
        let there : walk x ≡ (upper ++ line.blanks) ++ line.end ∷ back =
        sym whole ∙ ap (λ (ds : List Located). ds ++ back) blanks_first ∙ append_assoc (upper ++ line.blanks) (line.end ∷ []) back in
        let n = at_is (upper ++ line.blanks) back line.end x there in
        let size : text_of front ≡ text_of (upper ++ line.blanks) ++ 10 ∷ [] =
        ap text_of blanks_first ∙ text_append (upper ++ line.blanks) (line.end ∷ []) ∙ ap (λ (g : Segment). text_of (upper ++ line.blanks) ++ (bytes g ++ [])) line.is_end in
        let m = ap length size ∙ length-append (text_of (upper ++ line.blanks)) (10 ∷ []) in
        ap (λ (n : ℕ). n + 1) n ∙ sym m

    place : Span
    place = record { from = line.end.at + 1; to = line.end.at + 1 }

    spot_here : spot (walk x) ≡ Some place
    spot_here = rw (none, line.found) refl

-- after a region is a newline
newline_after : (x v w : Text) (front es : List Located) (old here : Located) → walk x ≡ front ++ old ∷ here ∷ es → old.is ≡ region v w → IsOpen (after_all at_start front)
    → here.is ≡ newline_segment
newline_after x v w front es old here walked is o =
    let s = suffixed front (old ∷ here ∷ es) at_start x walked in
    (after_region (after_all at_start front) s.0 v w old here es o.0 o.1 s.2 is).3

-- in the place of another
old_place : (x : Text) → Sound x → (old : Located) → region_of (walk x) ≡ Some old → HasPlace x
old_place x f old some = by (after_first (λ d. is_region d.is) (walk x)) refl (old.is) refl
  where
    front : List Located
    front = before_first (λ d. is_region d.is) (walk x)

    behind : List Located
    behind = after_first (λ d. is_region d.is) (walk x)

    split : walk x ≡ front ++ old ∷ behind
    split = before_whole (λ d. is_region d.is) (walk x) old some

    no_region : none_such is_region front ≡ true
    no_region = before_none is_region (walk x)

    is_old : (ds : List Located) → find (λ d. is_region d.is) ds ≡ Some old → is_region old.is ≡ true
    is_old [] e = absurd (none-some old e)
    is_old (d ∷ ds) e = on (is_region d.is) refl (is_old ds)
      where
        on : (k : Bool) → is_region d.is ≡ k → (find (λ d. is_region d.is) ds ≡ Some old → is_region old.is ≡ true) → is_region old.is ≡ true
        on true k deeper = (let same : d ≡ old = same_Some d old (rw k at e) in ap (λ (d : Located). is_region d.is) (sym same) ∙ k)
        on false k deeper = (let more : find (λ d. is_region d.is) ds ≡ Some old = rw k at e in deeper more)

    fine : (offences_of front ≡ []) × (offences_of (old ∷ behind) ≡ [])
    fine = both_empty (offences_of front) (offences_of (old ∷ behind)) (sym (offences_append front (old ∷ behind)) ∙ ap offences_of (sym split) ∙ f.fine)

    no_tail : none_such is_tail front ≡ true
    no_tail = before_tail front old behind (ap tails_last (sym split) ∙ walk_tails x)

    ends : has_tail (old ∷ behind) ≡ true
    ends = tail_after front (old ∷ behind) no_tail (ap has_tail (sym split) ∙ f.ends)

    calm : are_calm front ≡ true
    calm = fine_calm front fine.0 no_tail

    is_front : before_spot (walk x) ≡ front
    is_front = rw some refl

    back_of : (es : List Located) → behind ≡ es → after_spot (walk x) ≡ es
    back_of es e = rw some e

    spot_here : spot (walk x) ≡ Some (span_of old)
    spot_here = rw some refl

    by : (es : List Located) → behind ≡ es → (g : Segment) → old.is ≡ g → HasPlace x
    by [] e g is = absurd (both_ways (is_tail old.is) (on g is) (alone (ap has_tail (ap (λ (es : List Located). old ∷ es) (sym e)) ∙ ends)))
      where
        on : (g : Segment) → old.is ≡ g → is_tail old.is ≡ false
        on (region v w) is = ap is_tail is
        on g is = (let f : false ≡ true = sym (ap is_region is) ∙ is_old (walk x) some in absurd cc)

        alone : has_tail (old ∷ []) ≡ true → is_tail old.is ≡ true
        alone h = last (is_tail old.is) refl
          where
            last : (k : Bool) → is_tail old.is ≡ k → k ≡ true
            last true k = refl
            last false k = (let f : false ≡ true = rw k at h in f)
    by (here ∷ es) e (region v w) is =
        let walked : walk x ≡ front ++ old ∷ here ∷ es = split ∙ ap (λ (es : List Located). front ++ old ∷ es) e in
        let m = met front old (here ∷ es) at_start x walked in
        let opened : IsOpen (after_all at_start front) = region_met (after_all at_start front) old v w is m in
        let lined = open_lined front opened in
        let old_tail : is_tail old.is ≡ false = ap is_tail is in
        let rest_fine = both_empty (segment_offences old.at old.is) (offences_of behind) fine.1 in
        let here_fine = both_empty (segment_offences here.at here.is) (offences_of es) (ap offences_of (sym e) ∙ rest_fine.1) in
        let new = newline_after x v w front es old here walked is opened in
        let here_tail : is_tail here.is ≡ false = ap is_tail new in
        record {
          front = front;
          back = es;
          is_front = is_front;
          is_back = ap tokens_in (back_of (here ∷ es) e) ∙ no_token here es new;
          opened = opened;
          no_region = no_region;
          fine_front = fine.0;
          fine_back = here_fine.1;
          ends = tail_after (here ∷ []) es (rw here_tail refl) (tail_after (old ∷ []) (here ∷ es) (rw old_tail refl) (ap (λ (es : List Located). has_tail (old ∷ es)) (sym e) ∙ ends));
          rest = old ∷ here ∷ es;
          whole = walked;
          found = none_held old here es (ap (within) is) (ap (within) new);
          shape = inr (old, here, some, old_tail, new, walked);
          rest_text = drop 1 (drop (old.at + length (bytes old.is)) x);
          written = λ t u i a.
              (let p = replaced x t v w front es old here walked is lined calm opened i in
              let n : old.at ≡ length (text_of front) = at_is front (here ∷ es) old x walked in
              let front_bytes : take old.at x ≡ text_of front = ap (λ (n : ℕ). take n x) n ∙ ap (take (length (text_of front))) p.1 ∙ take-append_seam (text_of front) ((v ++ w) ++ 10 ∷ p.0) in
              let size : old.at + length (bytes old.is) ≡ length (text_of front ++ (v ++ w)) =
              ap (λ (g : Segment). old.at + length (bytes g)) is ∙ ap (λ (n : ℕ). n + length (v ++ w)) n ∙ sym (length-append (text_of front) (v ++ w)) in
              let back_bytes : drop (old.at + length (bytes old.is)) x ≡ 10 ∷ p.0 =
              ap (λ (n : ℕ). drop n x) size ∙ ap (drop (length (text_of front ++ (v ++ w)))) (p.1 ∙ sym (append_assoc (text_of front) (v ++ w) (10 ∷ p.0)))
              ∙ drop-append_seam (text_of front ++ (v ++ w)) (10 ∷ p.0) in
              subst (λ (c : Text). IsWritten front es c t u) (sym (ap (drop 1) back_bytes)) (
                a.is ∙ ap (λ (o : Option Located). filled x t u o a.at) some ∙ ap (λ (r : Span). filled x t u (Some old) r) (same_Some a.at (span_of old) (sym a.is_spot ∙ spot_here))
                    ∙ ap (λ (u : Text). u ++ (begin_line ++ (t ++ (end_line ++ drop (old.at + length (bytes old.is)) x)))) front_bytes
                    ∙ ap (λ (u : Text). text_of front ++ (begin_line ++ (t ++ (end_line ++ u)))) back_bytes,
                p.2,
              ));
        }
      where
        no_token : (d : Located) (es : List Located) → d.is ≡ newline_segment → tokens_in (d ∷ es) ≡ tokens_in es
        no_token d es n = rw n refl

        none_held : (c d : Located) (es : List Located) → within c.is ≡ [] → within d.is ≡ [] → find holds_algorithm (c ∷ d ∷ es) ≡ find holds_algorithm es
        none_held c d es n m = rw (n, m) refl
    by (here ∷ es) e g is = (let f : false ≡ true = sym (ap is_region is) ∙ is_old (walk x) some in absurd cc)

pub has_place : (x : Text) → IsFine x → HasPlace x
has_place x f = by (region_of (walk x)) refl
  where
    by : (o : Option Located) → region_of (walk x) ≡ o → HasPlace x
    by None e = new_place x (sound_file x f) e
    by (Some old) e = old_place x (sound_file x f) old e

-- where a translation goes
pub spot_of : (x : Text) → Sound x → (at : Span) × (spot (walk x) ≡ Some at)
spot_of x s = by (region_of (walk x)) refl
  where
    by : (o : Option Located) → region_of (walk x) ≡ o → (at : Span) × (spot (walk x) ≡ Some at)
    by None e =
        let comment = commented (walk x) (walk_tails x) s.ends s.begun in
        let rest = rest_of_line (after_comment (walk x)) in
        let placed : rest ++ no_unit (after_first is_newline (after_comment (walk x))) ≡ [] = (let p = s.placed in rw e at p) in
        let line = line_ends (after_comment (walk x)) (both_empty rest (no_unit (after_first is_newline (after_comment (walk x)))) placed).0 comment.ends in
        (record { from = line.end.at + 1; to = line.end.at + 1 }, rw (e, line.found) refl)
    by (Some old) e = (span_of old, rw e refl)

pub has_spot : (x : Text) → IsFine x → (at : Span) × (spot (walk x) ≡ Some at)
has_spot x f = spot_of x (sound_file x f)
