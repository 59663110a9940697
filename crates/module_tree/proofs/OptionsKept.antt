-- No options for PlusCal are outside the region of a file with a translation where there were none before: the text there is the same.
use Rattle.std.proofs.Common.{◌≡◌, ℕ, suc, ◌+◌, Bool, true, false, not, List, [], ◌∷◌, ◌++◌, length, drop, Option, Some, None, refl, sym, ap, ◌∙◌, codes, append_assoc, append-nil, length-append}
use Rattle.std.specs.Prelude.{is_some, option_and_then}
use Rattle.std.specs.List.{flat_map}
use Rattle.std.proofs.lemmas.Bool.{and_parts, not-true, both_ways}
use Rattle.std.proofs.lemmas.Option.{none-some, same_Some}
use Rattle.std.proofs.Math.Seq.{drop-append_seam}
use Rattle.tla_token.specs.declared.rule.Rule.TheVariants.{Options}
use Rattle.tla_token.specs.Lexemes.{is_blank}
use Rattle.tla_token.specs.Tokens.{stretch}
use Rattle.tla_token.proofs.Spelled.{begins_is, begins_from}
use Rattle.module_tree.specs.TextFront.{Text, begins, past_all, past_word, past_blanks, on_some}
use Rattle.module_tree.specs.Beginnings.{is_options, index_if, all_at}
use Rattle.module_tree.specs.Walk.{Segment, bytes, is_header_line, is_tail, Located, walk}
use Rattle.module_tree.specs.FileParts.{first_that, before_first, after_first, module_end, region_of}
use Rattle.module_tree.specs.FileOffences.{offences_at, outside_region, options_in}
use Rattle.module_tree.specs.laws.Walks.{text_of, Moved, newline_segment}
use Rattle.module_tree.proofs.WalkWhole.{whole}
use Rattle.module_tree.proofs.WalkPlace.{both_empty, before_whole, none_such, text_append}
use Rattle.module_tree.proofs.WalkKept.{at_is}
use Rattle.module_tree.proofs.WalkSame.{first_kept}
use Rattle.module_tree.proofs.AlgorithmFound.{past_all_more, stretch_is}

-- ---- what begins with options does so before more

pub some_step : {A B : Type 0} (o : Option A) (f : A → Option B) → is_some (option_and_then f o) ≡ true → (m : A) × (o ≡ Some m) × (is_some (f m) ≡ true)
some_step (Some m) f h = (m, refl, h)
some_step None f h = absurd cc

pub word_more : (w s r m : Text) → past_word w s ≡ Some m → past_word w (s ++ r) ≡ Some (m ++ r)
word_more w s r m e = by (begins s w) refl
  where
    by : (k : Bool) → begins s w ≡ k → past_word w (s ++ r) ≡ Some (m ++ r)
    by false k = (let f : None ≡ Some m = rw k at e in absurd (none-some m f))
    by true k =
        let f : Some (drop (length w) s) ≡ Some m = rw k at e in
        let split : s ≡ w ++ m = begins_is s w k ∙ ap (λ (u : Text). w ++ u) (same_Some (drop (length w) s) m f) in
        let longer : s ++ r ≡ w ++ (m ++ r) = ap (λ (u : Text). u ++ r) split ∙ append_assoc w m r in
        let there = begins_from (s ++ r) w (m ++ r) longer in
        let past : past_word w (s ++ r) ≡ Some (drop (length w) (s ++ r)) = rw there refl in
        past ∙ ap (λ (u : Text). Some (drop (length w) u)) longer ∙ ap (λ (u : Text). Some u) (drop-append_seam w (m ++ r))

-- a text that begins with a word isn't empty
abbrev pub IsMore : Text → Type 0
IsMore m = (b : ℕ) × (u : Text) × (m ≡ b ∷ u)

pub blanks_more : (s r m : Text) → IsMore m → past_blanks is_blank s ≡ Some m → past_blanks is_blank (s ++ r) ≡ Some (m ++ r)
blanks_more [] r m i e = absurd cc
blanks_more (c ∷ s) r m (b, u, i) e = by (is_blank c) refl
  where
    by : (k : Bool) → is_blank c ≡ k → past_blanks is_blank (c ∷ (s ++ r)) ≡ Some (m ++ r)
    by false k = (let f : None ≡ Some m = rw k at e in absurd (none-some m f))
    by true k =
        let f : Some (past_all is_blank s) ≡ Some m = rw k at e in
        let all : past_all is_blank s ≡ b ∷ u = same_Some (past_all is_blank s) m f ∙ i in
        rw k (ap (λ (u : Text). Some u) (past_all_more is_blank s r b u all ∙ ap (λ (u : Text). u ++ r) (sym i)))

abbrev pub bracket_after : Text → Option Text
bracket_after r = past_word (codes "(") (past_all is_blank r)

abbrev pub options_after : Text → Option Text
options_after r = on_some (past_word (codes "options") r) bracket_after

abbrev pub blanks_after : Text → Option Text
blanks_after r = on_some (past_blanks is_blank r) options_after

some_word : (m : Text) → is_some (options_after m) ≡ true → IsMore m
some_word [] h = absurd cc
some_word (b ∷ u) h = (b, u, refl)

bracket_more : (s r : Text) → is_some (bracket_after s) ≡ true → is_some (bracket_after (s ++ r)) ≡ true
bracket_more s r h = by (past_all is_blank s) refl h
  where
    by : (m : Text) → past_all is_blank s ≡ m → is_some (past_word (codes "(") m) ≡ true → is_some (bracket_after (s ++ r)) ≡ true
    by [] e k = absurd cc
    by (b ∷ m) e k =
        let w = some_step (past_word (codes "(") (b ∷ m)) (λ n. Some n) (some_same (past_word (codes "(") (b ∷ m)) k) in
        ap (λ (u : Text). is_some (past_word (codes "(") u)) (past_all_more is_blank s r b m e) ∙ ap (λ (o : Option Text). is_some o) (word_more (codes "(") (b ∷ m) r w.0 w.1)
      where
        some_same : (o : Option Text) → is_some o ≡ true → is_some (option_and_then (λ n. Some n) o) ≡ true
        some_same (Some n) h = refl
        some_same None h = h

options_more : (s r : Text) → is_options s ≡ true → is_options (s ++ r) ≡ true
options_more s r h =
    let a = some_step (past_word (codes "PlusCal") s) blanks_after h in
    let b = some_step (past_blanks is_blank a.0) options_after a.2 in
    let c = some_step (past_word (codes "options") b.0) bracket_after b.2 in
    ap (λ (o : Option Text). is_some (on_some o blanks_after)) (word_more (codes "PlusCal") s r a.0 a.1)
    ∙ ap (λ (o : Option Text). is_some (on_some o options_after)) (blanks_more a.0 r b.0 (some_word b.0 b.2) b.1)
    ∙ ap (λ (o : Option Text). is_some (on_some o bracket_after)) (word_more (codes "options") b.0 r c.0 c.1)
    ∙ bracket_more c.0 r c.2

-- ---- none in a text: none in its parts

pub index_parts : (k : Bool) (n : ℕ) (ns : List ℕ) → index_if k n ns ≡ [] → (k ≡ false) × (ns ≡ [])
index_parts true n ns e = absurd cc
index_parts false n ns e = (refl, e)

pub none_in_front : (n m : ℕ) (u v : Text) → all_at is_options n (u ++ v) ≡ [] → all_at is_options m u ≡ []
none_in_front n m [] v e = refl
none_in_front n m (b ∷ u) v e = by (is_options (b ∷ u)) refl (none_in_front (suc n) (suc m) u v)
  where
    parts : (is_options (b ∷ (u ++ v)) ≡ false) × (all_at is_options (suc n) (u ++ v) ≡ [])
    parts = index_parts (is_options (b ∷ (u ++ v))) n (all_at is_options (suc n) (u ++ v)) e

    by : (k : Bool) → is_options (b ∷ u) ≡ k → (all_at is_options (suc n) (u ++ v) ≡ [] → all_at is_options (suc m) u ≡ []) → all_at is_options m (b ∷ u) ≡ []
    by true k deeper = absurd (both_ways (is_options (b ∷ (u ++ v))) parts.0 (options_more (b ∷ u) v k))
    by false k deeper = rw k (deeper parts.1)

pub none_elsewhere : (n m : ℕ) (u : Text) → all_at is_options n u ≡ [] → all_at is_options m u ≡ []
none_elsewhere n m u e = none_in_front n m u [] (ap (all_at is_options n) (append-nil u) ∙ e)

pub none_behind : (n m : ℕ) (u v : Text) → all_at is_options n (u ++ v) ≡ [] → all_at is_options m v ≡ []
none_behind n m [] v e = none_elsewhere n m v e
none_behind n m (b ∷ u) v e = none_behind (suc n) m u v (index_parts (is_options (b ∷ (u ++ v))) n (all_at is_options (suc n) (u ++ v)) e).1

abbrev pub NoOptions : Text → Type 0
NoOptions u = all_at is_options 0 u ≡ []

pub no_offence : (ns : List ℕ) → offences_at Options ns ≡ [] → ns ≡ []
no_offence [] e = refl
no_offence (n ∷ ns) e = absurd cc

-- ---- the text between two segments

between : (x : Text) (ds es more : List Located) (d e : Located) → walk x ≡ ds ++ d ∷ (es ++ e ∷ more) → stretch x d.at e.at ≡ text_of (d ∷ es)
between x ds es more d e w =
    let there : walk x ≡ (ds ++ d ∷ es) ++ e ∷ more = w ∙ sym (append_assoc ds (d ∷ es) (e ∷ more)) in
    let from = at_is ds (es ++ e ∷ more) d x w in
    let to = at_is (ds ++ d ∷ es) more e x there in
    stretch_is x (text_of ds) (text_of (d ∷ es)) (text_of (e ∷ more)) d.at e.at
    (sym (whole x) ∙ ap text_of w ∙ text_append ds (d ∷ (es ++ e ∷ more)) ∙ ap (λ (u : Text). text_of ds ++ u) (text_append (d ∷ es) (e ∷ more)))
    from (to ∙ ap length (text_append ds (d ∷ es)) ∙ length-append (text_of ds) (text_of (d ∷ es)))

beyond : (x : Text) (ds es more : List Located) (d e : Located) → walk x ≡ ds ++ d ∷ (es ++ e ∷ more) → stretch x (d.at + length (bytes d.is)) e.at ≡ text_of es
beyond x ds es more d e w =
    let there : walk x ≡ (ds ++ d ∷ es) ++ e ∷ more = w ∙ sym (append_assoc ds (d ∷ es) (e ∷ more)) in
    let from = at_is ds (es ++ e ∷ more) d x w in
    let to = at_is (ds ++ d ∷ es) more e x there in
    let start : d.at + length (bytes d.is) ≡ length (text_of ds ++ bytes d.is) = ap (λ (n : ℕ). n + length (bytes d.is)) from ∙ sym (length-append (text_of ds) (bytes d.is)) in
    let text : text_of (ds ++ d ∷ es) ≡ (text_of ds ++ bytes d.is) ++ text_of es = text_append ds (d ∷ es) ∙ sym (append_assoc (text_of ds) (bytes d.is) (text_of es)) in
    stretch_is x (text_of ds ++ bytes d.is) (text_of es) (text_of (e ∷ more)) (d.at + length (bytes d.is)) e.at
    (sym (whole x) ∙ ap text_of there ∙ text_append (ds ++ d ∷ es) (e ∷ more) ∙ ap (λ (u : Text). u ++ text_of (e ∷ more)) text ∙ append_assoc (text_of ds ++ bytes d.is) (text_of es) (text_of (e ∷ more)))
    start (to ∙ ap length text ∙ length-append (text_of ds ++ bytes d.is) (text_of es))

-- ---- where options are looked for

abbrev pub is_line : Located → Bool
is_line d = is_header_line d.is

abbrev pub is_end : Located → Bool
is_end d = is_tail d.is

-- from the header on
abbrev pub from_header : Located → List Located → Text
from_header hd front = text_of (hd ∷ after_first is_line front)

-- up to the module's end
abbrev pub to_end : List Located → Text
to_end back = text_of (before_first is_end back)

pub first_skipped : (q : Segment → Bool) (ds es : List Located) → none_such q ds ≡ true → first_that q (ds ++ es) ≡ first_that q es
first_skipped q [] es n = refl
first_skipped q (d ∷ ds) es n =
    let k = and_parts (not (q d.is)) (none_such q ds) n in
    rw (not-true (q d.is) k.0) (first_skipped q ds es k.1)

-- in front is the header, and behind the module's end
pub record HasEnds (front back : List Located) : Type 0 where
  pub hd : Located
  pub tl : Located
  pub found : first_that is_header_line front ≡ Some hd
  pub ended : first_that is_tail back ≡ Some tl
  pub endless : none_such is_tail front ≡ true

pub one_stretch : (y : Text) (front back : List Located) (h : HasEnds front back) → walk y ≡ front ++ back → region_of (walk y) ≡ None
    → flat_map (options_in y) (outside_region y (walk y)) ≡ offences_at Options (all_at is_options h.hd.at (from_header h.hd front ++ to_end back)) ++ []
one_stretch y front back h w none =
    ap (flat_map (options_in y)) spans ∙ ap (λ (u : Text). offences_at Options (all_at is_options h.hd.at u) ++ [])
    (between y (before_first is_line front) (after_first is_line front ++ before_first is_end back) (after_first is_end back) h.hd h.tl split
    ∙ text_append (h.hd ∷ after_first is_line front) (before_first is_end back))
  where
    header_here : first_that is_header_line (walk y) ≡ Some h.hd
    header_here = ap (first_that is_header_line) w ∙ first_kept is_header_line front back (ap (λ (o : Option Located). is_some o) h.found) ∙ h.found

    end_here : module_end (walk y) ≡ Some h.tl.at
    end_here = ap (λ (o : Option Located). on_some o (λ d. Some d.at)) (ap (first_that is_tail) w ∙ first_skipped is_tail front back h.endless ∙ h.ended)

    spans : outside_region y (walk y) ≡ record { from = h.hd.at; to = h.tl.at } ∷ []
    spans = rw (header_here, end_here, none) refl

    split : walk y ≡ before_first is_line front ++ h.hd ∷ ((after_first is_line front ++ before_first is_end back) ++ h.tl ∷ after_first is_end back)
    split =
        w ∙ (λ i. before_whole is_line front h.hd h.found i ++ before_whole is_end back h.tl h.ended i)
        ∙ in_order (before_first is_line front) (h.hd ∷ after_first is_line front) (before_first is_end back) (h.tl ∷ after_first is_end back)
      where
        in_order : (a b c d : List Located) → (a ++ b) ++ (c ++ d) ≡ a ++ ((b ++ c) ++ d)
        in_order a b c d = simp append_assoc refl

pub two_parts : (y : Text) (front back : List Located) (h : HasEnds front back) (old : Located) → walk y ≡ front ++ old ∷ back → region_of (walk y) ≡ Some old → is_tail old.is ≡ false
    → flat_map (options_in y) (outside_region y (walk y))
    ≡ offences_at Options (all_at is_options h.hd.at (from_header h.hd front)) ++ (offences_at Options (all_at is_options (old.at + length (bytes old.is)) (to_end back)) ++ [])
two_parts y front back h old w some other =
    ap (flat_map (options_in y)) spans
    ∙ (λ i. offences_at Options (all_at is_options h.hd.at (first i)) ++ (offences_at Options (all_at is_options (old.at + length (bytes old.is)) (second i)) ++ []))
  where
    header_here : first_that is_header_line (walk y) ≡ Some h.hd
    header_here = ap (first_that is_header_line) w ∙ first_kept is_header_line front (old ∷ back) (ap (λ (o : Option Located). is_some o) h.found) ∙ h.found

    over_one : first_that is_tail (old ∷ back) ≡ first_that is_tail back
    over_one = rw other refl

    end_here : module_end (walk y) ≡ Some h.tl.at
    end_here = ap (λ (o : Option Located). on_some o (λ d. Some d.at)) (ap (first_that is_tail) w ∙ first_skipped is_tail front (old ∷ back) h.endless ∙ over_one ∙ h.ended)

    spans : outside_region y (walk y) ≡ record { from = h.hd.at; to = old.at } ∷ record { from = old.at + length (bytes old.is); to = h.tl.at } ∷ []
    spans = rw (header_here, end_here, some) refl

    first : stretch y h.hd.at old.at ≡ from_header h.hd front
    first =
        between y (before_first is_line front) (after_first is_line front) back h.hd old
        (w ∙ ap (λ (ds : List Located). ds ++ old ∷ back) (before_whole is_line front h.hd h.found) ∙ append_assoc (before_first is_line front) (h.hd ∷ after_first is_line front) (old ∷ back))

    second : stretch y (old.at + length (bytes old.is)) h.tl.at ≡ to_end back
    second = beyond y front (before_first is_end back) (after_first is_end back) old h.tl (w ∙ ap (λ (ds : List Located). front ++ old ∷ ds) (before_whole is_end back h.tl h.ended))

-- where a newline is after the region
two_stretches : (y : Text) (front back : List Located) (h : HasEnds front back) (old here : Located) → walk y ≡ front ++ old ∷ here ∷ back → region_of (walk y) ≡ Some old
    → is_tail old.is ≡ false → here.is ≡ newline_segment
    → flat_map (options_in y) (outside_region y (walk y))
    ≡ offences_at Options (all_at is_options h.hd.at (from_header h.hd front)) ++ (offences_at Options (all_at is_options (old.at + length (bytes old.is)) (10 ∷ to_end back)) ++ [])
two_stretches y front back h old here w some other newline =
    let over : first_that is_tail (here ∷ back) ≡ first_that is_tail back = rw newline refl in
    let text : to_end (here ∷ back) ≡ 10 ∷ to_end back = rw newline refl in
    two_parts y front (here ∷ back) (record { hd = h.hd; tl = h.tl; found = h.found; ended = over ∙ h.ended; endless = h.endless }) old w some other
    ∙ ap (λ (u : Text). offences_at Options (all_at is_options h.hd.at (from_header h.hd front)) ++ (offences_at Options (all_at is_options (old.at + length (bytes old.is)) u) ++ [])) text

-- ---- segments that are moved

pub moved_to_end : (i j m n : ℕ) (ds es : List Located) → Moved i j m n ds es → to_end ds ≡ to_end es
moved_to_end i j m n [] [] h = refl
moved_to_end i j m n [] (e ∷ es) h = absurd h
moved_to_end i j m n (d ∷ ds) [] h = absurd h
moved_to_end i j m n (d ∷ ds) (e ∷ es) h = by (is_tail d.is) refl (moved_to_end i j m n ds es h.2)
  where
    by : (k : Bool) → is_tail d.is ≡ k → to_end ds ≡ to_end es → to_end (d ∷ ds) ≡ to_end (e ∷ es)
    by true k f = (let there : is_tail e.is ≡ true = ap is_tail (sym h.0) ∙ k in rw (k, there) refl)
    by false k f = (let there : is_tail e.is ≡ false = ap is_tail (sym h.0) ∙ k in rw (k, there) (λ i. bytes (h.0 i) ++ f i))

-- ---- so a file has none with its translation where it had none before

pub free_without : (x : Text) (front back : List Located) (h : HasEnds front back) → walk x ≡ front ++ back → region_of (walk x) ≡ None → flat_map (options_in x) (outside_region x (walk x)) ≡ []
    → NoOptions (from_header h.hd front) × NoOptions (to_end back)
free_without x front back h walked none fine =
    let os = (both_empty (offences_at Options (all_at is_options h.hd.at (from_header h.hd front ++ to_end back))) [] (sym (one_stretch x front back h walked none) ∙ fine)).0 in
    let all = no_offence (all_at is_options h.hd.at (from_header h.hd front ++ to_end back)) os in
    (none_in_front h.hd.at 0 (from_header h.hd front) (to_end back) all, none_behind h.hd.at 0 (from_header h.hd front) (to_end back) all)

pub free_with : (x : Text) (front back : List Located) (h : HasEnds front back) (old here : Located) → walk x ≡ front ++ old ∷ here ∷ back → region_of (walk x) ≡ Some old → is_tail old.is ≡ false
    → here.is ≡ newline_segment → flat_map (options_in x) (outside_region x (walk x)) ≡ [] → NoOptions (from_header h.hd front) × NoOptions (to_end back)
free_with x front back h old here walked some other newline fine =
    let os = both_empty (offences_at Options (all_at is_options h.hd.at (from_header h.hd front))) (offences_at Options (all_at is_options (old.at + length (bytes old.is)) (10 ∷ to_end back)) ++ [])
    (sym (two_stretches x front back h old here walked some other newline) ∙ fine) in
    let second = no_offence (all_at is_options (old.at + length (bytes old.is)) (10 ∷ to_end back)) (both_empty (offences_at Options (all_at is_options (old.at + length (bytes old.is)) (10 ∷ to_end back))) [] os.1).0 in
    let first = no_offence (all_at is_options h.hd.at (from_header h.hd front)) os.0 in
    (none_elsewhere h.hd.at 0 (from_header h.hd front) first, none_behind (old.at + length (bytes old.is)) 0 (10 ∷ []) (to_end back) second)

pub both_free : (w : Text) (front us : List Located) (k : HasEnds front us) → NoOptions (from_header k.hd front) → NoOptions (to_end us) → (new here : Located)
    → walk w ≡ front ++ new ∷ here ∷ us → region_of (walk w) ≡ Some new → is_tail new.is ≡ false → here.is ≡ newline_segment → flat_map (options_in w) (outside_region w (walk w)) ≡ []
both_free w front us k a b new here walked some other newline =
    let first : all_at is_options k.hd.at (from_header k.hd front) ≡ [] = none_elsewhere 0 k.hd.at (from_header k.hd front) a in
    let second : all_at is_options (new.at + length (bytes new.is)) (10 ∷ to_end us) ≡ [] = none_elsewhere 0 (suc (new.at + length (bytes new.is))) (to_end us) b in
    two_stretches w front us k new here walked some other newline ∙ (λ i. offences_at Options (first i) ++ (offences_at Options (second i) ++ []))
