-- What of a file stays as it was where a translation is put into it.
use Rattle.std.proofs.Common.{◌≡◌, ℕ, ◌+◌, Bool, true, false, not, ◌&&◌, ◌||◌, List, [], ◌∷◌, ◌++◌, Option, Some, None, refl, sym, ap, subst, ◌∙◌}
use Rattle.std.specs.Prelude.{if◌then◌else◌, is_some, option_map, nat_le}
use Rattle.std.proofs.lemmas.Bool.{and_parts, not-true}
use Rattle.tla_token.specs.declared.rule.Rule.{Rule}
use Rattle.tla_token.specs.declared.rule.Rule.TheVariants.{NotAscii, BadToken, OpenString, NumberTooBig}
use Rattle.tla_token.specs.Limits.{past_numbers}
use Rattle.tla_token.specs.Lexemes.{Kind, number, string}
use Rattle.tla_token.specs.Tokens.{lexeme, holds_mark}
use Rattle.tla_token.specs.Offences.{Part, sound, stray, bad_string, open_string, open_block, is_stray, has_bad_escape, breaks_string, offence_if, byte_offences, kind_offences, part_offences}
use Rattle.std.specs.List.{list_any}
use Rattle.module_tree.specs.TextFront.{Text, on_some}
use Rattle.module_tree.specs.HeaderAndRegion.{header_title}
use Rattle.module_tree.specs.Walk.{Segment, free, header, part, region, mark, inner, tail, bytes, is_header_line, is_region, is_tail, Located, walk, at_start}
use Rattle.module_tree.specs.FileParts.{before_first, after_first, first_that, title, module_end, region_of, before_spot, after_spot}
use Rattle.module_tree.specs.FileUnits.{kind_of_segment, with_token, tokens_in}
use Rattle.module_tree.specs.FileOffences.{segment_offences, offences_of}
use Rattle.module_tree.specs.WithTranslation.{WithTranslation}
use Rattle.module_tree.specs.laws.Walks.{text_of, after_all, IsInside, made, located, newline_segment, Moved, Put}
use Rattle.module_tree.specs.laws.Kept.{IsFine, looks, KeepsFile, IsPut}
use Rattle.module_tree.proofs.WalkAgain.{found_after, again}
use Rattle.module_tree.proofs.WalkPlace.{both_empty, none_such, offences_append, headed_title, has_tail}
use Rattle.module_tree.proofs.WalkKept.{HasPlace, has_place}

-- ---- lists

-- what is found among the first is found
pub first_kept : (q : Segment → Bool) (ds es : List Located) → is_some (first_that q ds) ≡ true → first_that q (ds ++ es) ≡ first_that q ds
first_kept q [] es h = absurd cc
first_kept q (d ∷ ds) es h = by (q d.is) refl (first_kept q ds es)
  where
    by : (k : Bool) → q d.is ≡ k → (is_some (first_that q ds) ≡ true → first_that q (ds ++ es) ≡ first_that q ds) → first_that q (d ∷ (ds ++ es)) ≡ first_that q (d ∷ ds)
    by true k deeper = rw k refl
    by false k deeper = (let more : is_some (first_that q ds) ≡ true = rw k at h in rw k (deeper more))

before_is : (q : Segment → Bool) (ds : List Located) (d : Located) (es : List Located) → none_such q ds ≡ true → q d.is ≡ true → before_first (λ d. q d.is) (ds ++ d ∷ es) ≡ ds
before_is q [] d es n h = rw h refl
before_is q (c ∷ ds) d es n h =
    let k = and_parts (not (q c.is)) (none_such q ds) n in
    rw (not-true (q c.is) k.0) (ap (λ (es : List Located). c ∷ es) (before_is q ds d es k.1 h))

after_is : (q : Segment → Bool) (ds : List Located) (d : Located) (es : List Located) → none_such q ds ≡ true → q d.is ≡ true → after_first (λ d. q d.is) (ds ++ d ∷ es) ≡ es
after_is q [] d es n h = rw h refl
after_is q (c ∷ ds) d es n h =
    let k = and_parts (not (q c.is)) (none_such q ds) n in
    rw (not-true (q c.is) k.0) (after_is q ds d es k.1 h)

tail_more : (ds es : List Located) → has_tail es ≡ true → has_tail (ds ++ es) ≡ true
tail_more [] es h = h
tail_more (d ∷ ds) es h = by (is_tail d.is) refl (tail_more ds es h)
  where
    by : (k : Bool) → is_tail d.is ≡ k → has_tail (ds ++ es) ≡ true → has_tail (d ∷ (ds ++ es)) ≡ true
    by true k more = rw k refl
    by false k more = rw k more

-- ---- segments that are moved

-- their tokens are the same in the same columns
moved_looks : (i j m n : ℕ) (ds es : List Located) → Moved i j m n ds es → looks (tokens_in ds) ≡ looks (tokens_in es)
moved_looks i j m n [] [] h = refl
moved_looks i j m n [] (e ∷ es) h = absurd h
moved_looks i j m n (d ∷ ds) [] h = absurd h
moved_looks i j m n (d ∷ ds) (e ∷ es) h = by (kind_of_segment d.is) (moved_looks i j m n ds es h.2) ∙ ap others (ap kind_of_segment h.0)
  where
    others : Option Kind → List (Kind × ℕ)
    others o = looks (with_token (option_map (λ k. record { kind = k; at = e.at; place = e.place }) o) (tokens_in es))

    by : (o : Option Kind) → looks (tokens_in ds) ≡ looks (tokens_in es)
        → looks (with_token (option_map (λ k. record { kind = k; at = d.at; place = d.place }) o) (tokens_in ds)) ≡ others o
    by None more = more
    by (Some k) more = λ l. (k, h.1.2 l) ∷ more l

pub if_anywhere : (k : Bool) (r : Rule) (at to : ℕ) → offence_if k r at ≡ [] → offence_if k r to ≡ []
if_anywhere true r at to e = absurd cc
if_anywhere false r at to e = refl

bytes_anywhere : (at to : ℕ) (raw : Text) → byte_offences at raw ≡ [] → byte_offences to raw ≡ []
bytes_anywhere at to [] e = refl
bytes_anywhere at to (b ∷ bs) e =
    let r = if nat_le 128 b then NotAscii else BadToken in
    let o = both_empty (offence_if (is_stray b) r at) (byte_offences (at + 1) bs) e in
    rw (if_anywhere (is_stray b) r at to o.0) (bytes_anywhere (at + 1) (to + 1) bs o.1)

pub kind_anywhere : (in_algorithm : Bool) (at to : ℕ) (k : Kind) → kind_offences in_algorithm at k ≡ [] → kind_offences in_algorithm to k ≡ []
kind_anywhere a at to (number n) e = if_anywhere (a && nat_le past_numbers n) NumberTooBig at to e
kind_anywhere a at to (string w) e = if_anywhere (a && holds_mark w) BadToken at to e
kind_anywhere a at to k e = refl

pub part_anywhere : (in_algorithm : Bool) (at to : ℕ) (p : Part) → part_offences in_algorithm at p ≡ [] → part_offences in_algorithm to p ≡ []
part_anywhere a at to (sound (lexeme k bytes)) e = kind_anywhere a at to k e
part_anywhere a at to (sound p) e = refl
part_anywhere a at to (stray b) e = bytes_anywhere at to (b ∷ []) e
part_anywhere a at to (bad_string raw) e =
    let k = has_bad_escape raw || (a && holds_mark raw) in
    let o = both_empty (offence_if k BadToken at) (offence_if (list_any breaks_string raw) OpenString at ++ byte_offences (at + 1) raw) e in
    let p = both_empty (offence_if (list_any breaks_string raw) OpenString at) (byte_offences (at + 1) raw) o.1 in
    rw (if_anywhere k BadToken at to o.0, if_anywhere (list_any breaks_string raw) OpenString at to p.0) (bytes_anywhere (at + 1) (to + 1) raw p.1)
part_anywhere a at to (open_string raw) e = absurd cc
part_anywhere a at to (open_block body) e = absurd cc

pub segment_anywhere : (at to : ℕ) (g : Segment) → segment_offences at g ≡ [] → segment_offences to g ≡ []
segment_anywhere at to (free w) e = refl
segment_anywhere at to (header w) e = refl
segment_anywhere at to (part p) e = part_anywhere false at to p e
segment_anywhere at to (region v w) e = refl
segment_anywhere at to (mark w) e = absurd cc
segment_anywhere at to (inner w) e = absurd cc
segment_anywhere at to (tail w) e = refl

moved_fine : (i j m n : ℕ) (ds es : List Located) → Moved i j m n ds es → offences_of ds ≡ [] → offences_of es ≡ []
moved_fine i j m n [] [] h e = refl
moved_fine i j m n [] (d ∷ es) h e = absurd h
moved_fine i j m n (d ∷ ds) [] h e = absurd h
moved_fine i j m n (d ∷ ds) (c ∷ es) h e =
    let o = both_empty (segment_offences d.at d.is) (offences_of ds) e in
    let here : segment_offences c.at c.is ≡ [] = ap (segment_offences c.at) (sym h.0) ∙ segment_anywhere d.at c.at d.is o.0 in
    rw here (moved_fine i j m n ds es h.2 o.1)

pub moved_tail : (i j m n : ℕ) (ds es : List Located) → Moved i j m n ds es → has_tail ds ≡ true → has_tail es ≡ true
moved_tail i j m n [] [] h e = e
moved_tail i j m n [] (d ∷ es) h e = absurd h
moved_tail i j m n (d ∷ ds) [] h e = absurd h
moved_tail i j m n (d ∷ ds) (c ∷ es) h e = by (is_tail d.is) refl (moved_tail i j m n ds es h.2)
  where
    by : (k : Bool) → is_tail d.is ≡ k → (has_tail ds ≡ true → has_tail es ≡ true) → has_tail (c ∷ es) ≡ true
    by true k deeper = (let there : is_tail c.is ≡ true = ap is_tail (sym h.0) ∙ k in rw there refl)
    by false k deeper =
        let there : is_tail c.is ≡ false = ap is_tail (sym h.0) ∙ k in
        let more : has_tail ds ≡ true = rw k at e in
        rw there (deeper more)

-- ---- the file with a translation

-- the segments of the text with the translation t
module _ (x t w : Text) (h : HasPlace x) (i : IsInside t) (a : WithTranslation x t w) where
  abbrev put : Put h.front h.back t (10 ∷ h.rest_text)
  put = (h.written t w i a).1

  abbrev new : Located
  new = located (after_all at_start h.front) (made t)

  abbrev segments : List Located
  segments = h.front ++ new ∷ put.here ∷ put.us

  walked : walk w ≡ segments
  walked = ap walk (h.written t w i a).0 ∙ put.walked

  region_found : region_of segments ≡ Some new
  region_found = found_after h.front (put.here ∷ put.us) new h.no_region refl

  kept : KeepsFile x t w
  kept = record {
    title =
        let has = headed_title at_start h.front refl h.opened.0 in
        let from_front : (es : List Located) → title (h.front ++ es) ≡ title h.front =
        λ es. ap (λ (o : Option Located). on_some o (λ d. header_title (bytes d.is))) (first_kept is_header_line h.front es has) in
        ap title walked ∙ from_front (new ∷ put.here ∷ put.us) ∙ sym (from_front h.rest) ∙ ap title (sym h.whole);
    before = ap before_spot walked ∙ by_region (before_first (λ d. is_region d.is) segments) region_found
        ∙ before_is is_region h.front new (put.here ∷ put.us) h.no_region refl ∙ sym h.is_front;
    region = ap region_of walked ∙ region_found ∙ ap (λ (ds : List Located). Some (located (after_all at_start ds) (made t))) (sym h.is_front);
    after = ap (λ (ds : List Located). looks (tokens_in (after_spot ds))) walked
        ∙ ap (λ (ds : List Located). looks (tokens_in ds)) (after_by_region region_found ∙ after_is is_region h.front new (put.here ∷ put.us) h.no_region refl)
        ∙ ap looks (no_token put.here put.us put.is_newline)
        ∙ sym (moved_looks put.bytes_here put.bytes_there put.lines_here put.lines_there h.back put.us put.are_moved)
        ∙ ap looks (sym h.is_back);
    sound = ap offences_of walked ∙ offences_append h.front (new ∷ put.here ∷ put.us) ∙ all_fine
        (moved_fine put.bytes_here put.bytes_there put.lines_here put.lines_there h.back put.us put.are_moved h.fine_back);
    ended = ap (λ (ds : List Located). is_some (module_end ds)) walked
        ∙ end_some (first_that is_tail segments) (tail_more h.front (new ∷ put.here ∷ put.us) (new_tail
        (moved_tail put.bytes_here put.bytes_there put.lines_here put.lines_there h.back put.us put.are_moved h.ends)));
  }
    where
      by_region : (es : List Located) → region_of segments ≡ Some new → before_spot segments ≡ before_first (λ d. is_region d.is) segments
      by_region es e = rw e refl

      after_by_region : region_of segments ≡ Some new → after_spot segments ≡ after_first (λ d. is_region d.is) segments
      after_by_region e = rw e refl

      no_token : (d : Located) (es : List Located) → d.is ≡ newline_segment → tokens_in (d ∷ es) ≡ tokens_in es
      no_token d es n = rw n refl

      all_fine : offences_of put.us ≡ [] → offences_of h.front ++ offences_of (new ∷ put.here ∷ put.us) ≡ []
      all_fine e = rw (h.fine_front, put.is_newline) e

      new_tail : has_tail put.us ≡ true → has_tail (new ∷ put.here ∷ put.us) ≡ true
      new_tail e = rw put.is_newline e

      end_some : (o : Option Located) → is_some o ≡ true → is_some (on_some o (λ d. Some d.at)) ≡ true
      end_some (Some d) e = refl
      end_some None e = e

pub keeps_file : (x t w : Text) → IsFine x → IsInside t → WithTranslation x t w → KeepsFile x t w
keeps_file x t w f i a = kept x t w (has_place x f) i a

pub is_put : (x t w : Text) → IsFine x → IsInside t → WithTranslation x t w → IsPut x t w
is_put x t w f i a =
    let h = has_place x f in
    let p = h.written t w i a in
    record { front = h.front; back = h.back; rest = h.rest_text; is_front = h.is_front; bytes = p.0; put = p.1 }

-- another translation of the written file is one of the file that was read
pub put_again : (x t w v u : Text) → IsFine x → IsInside t → IsInside v → WithTranslation x t w → WithTranslation w v u → WithTranslation x v u
put_again x t w v u f i j a b =
    let h = has_place x f in
    let p = h.written t w i a in
    let there = again (text_of h.front) t (10 ∷ h.rest_text) v u h.front (p.1.here ∷ p.1.us) p.1.walked refl h.opened.1 (subst (λ (w : Text). WithTranslation w v u) p.0 b) in
    let other : WithTranslation x v _ = record { at = a.at; is_spot = a.is_spot; is = refl } in
    record { at = a.at; is_spot = a.is_spot; is = there ∙ sym (h.written v _ j other).0 }
