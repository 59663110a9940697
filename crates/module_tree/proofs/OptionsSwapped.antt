-- No options for PlusCal are in a file with another algorithm where there were none before and none are in the text that was put there.
use Rattle.std.proofs.Common.{◌≡◌, ℕ, suc, ◌+◌, nat_eq, Bool, true, false, not, List, [], ◌∷◌, ◌++◌, length, Option, Some, None, refl, sym, ap, ◌∙◌, codes, append_assoc}
use Rattle.std.specs.Prelude.{is_some}
use Rattle.std.specs.List.{flat_map}
use Rattle.std.proofs.lemmas.Bool.{and_parts, not-true}
use Rattle.std.proofs.lemmas.Option.{none-some}
use Rattle.tla_token.specs.declared.rule.Rule.TheVariants.{Options}
use Rattle.tla_token.specs.Lexemes.{is_blank}
use Rattle.tla_token.specs.Offences.{Offence}
use Rattle.module_tree.specs.TextFront.{Text, past_all, past_word, past_blanks, on_some}
use Rattle.module_tree.specs.Beginnings.{is_options, all_at}
use Rattle.module_tree.specs.Walk.{Segment, region, bytes, is_header_line, is_region, is_tail, Located, walk, at_start}
use Rattle.module_tree.specs.FileParts.{first_that, before_first, after_first, region_of}
use Rattle.module_tree.specs.FileOffences.{offences_at, outside_region, options_in}
use Rattle.module_tree.specs.laws.Walks.{text_of, after_all}
use Rattle.module_tree.specs.laws.Swaps.{segments, AddsNoOptions}
use Rattle.module_tree.proofs.WalkPlace.{both_empty, before_whole, none_such, none_found, before_none, none_parts, text_append, met, region_met, headed_title, before_tail, walk_tails, tails_last, has_tail, tail_after}
use Rattle.module_tree.proofs.EdgeAlike.{lacks, past_word_alike, past_all_alike, past_blanks_alike, on_both, both_at, some_alike}
use Rattle.module_tree.proofs.ModuleKept.{found_so}
use Rattle.module_tree.proofs.WalkSame.{first_kept}
use Rattle.module_tree.proofs.OptionsKept.{bracket_after, options_after, blanks_after, index_parts, none_elsewhere, none_behind, NoOptions, no_offence, is_line, is_end, from_header, to_end, first_skipped, one_stretch, two_parts}

-- ---- what begins before a byte that is in no options

pub record Apart (c : ℕ) : Type 0 where
  pub blank : is_blank c ≡ false
  pub first : lacks c (codes "PlusCal") ≡ true
  pub second : lacks c (codes "options") ≡ true
  pub bracket : lacks c (codes "(") ≡ true

options_alike : (c : ℕ) → Apart c → (p q l : Text) → is_options (l ++ c ∷ p) ≡ is_options (l ++ c ∷ q)
options_alike c h p q l =
    some_alike c p q (on_some (past_word (codes "PlusCal") (l ++ c ∷ p)) blanks_after) (on_some (past_word (codes "PlusCal") (l ++ c ∷ q)) blanks_after)
    (on_both c p q (past_word (codes "PlusCal") (l ++ c ∷ p)) (past_word (codes "PlusCal") (l ++ c ∷ q)) (past_word_alike c p q l (codes "PlusCal") h.first) blanks_after blanks_after
    (λ m. on_both c p q (past_blanks is_blank (m ++ c ∷ p)) (past_blanks is_blank (m ++ c ∷ q)) (past_blanks_alike c is_blank h.blank p q m) options_after options_after
    (λ n. on_both c p q (past_word (codes "options") (n ++ c ∷ p)) (past_word (codes "options") (n ++ c ∷ q)) (past_word_alike c p q n (codes "options") h.second) bracket_after bracket_after
    (λ k. both_at c p q (past_all is_blank (k ++ c ∷ p)) (past_all is_blank (k ++ c ∷ q)) (past_all_alike c is_blank h.blank p q k) (past_word (codes "(")) (past_word (codes "("))
    (λ j. past_word_alike c p q j (codes "(") h.bracket)))))

pub free_edge : (c : ℕ) → Apart c → (n m k : ℕ) (l p q : Text) → all_at is_options n (l ++ c ∷ p) ≡ [] → all_at is_options m (c ∷ q) ≡ [] → all_at is_options k (l ++ c ∷ q) ≡ []
free_edge c h n m k [] p q e f = none_elsewhere m k (c ∷ q) f
free_edge c h n m k (b ∷ l) p q e f =
    let parts = index_parts (is_options (b ∷ (l ++ c ∷ p))) n (all_at is_options (suc n) (l ++ c ∷ p)) e in
    let there : is_options (b ∷ (l ++ c ∷ q)) ≡ false = sym (options_alike c h p q (b ∷ l)) ∙ parts.0 in
    rw there (free_edge c h (suc n) m (suc k) l p q parts.1 f)

dash : Apart 45
dash = record { blank = refl; first = refl; second = refl; bracket = refl }

-- it begins none itself
pub apart_none : (c : ℕ) → Apart c → (y : Text) → is_options (c ∷ y) ≡ false
apart_none c h y = (let k : nat_eq 80 c ≡ false = not-true (nat_eq 80 c) (and_parts (not (nat_eq 80 c)) (lacks c (codes "lusCal")) h.first).0 in rw k refl)

swapped_free : (p v u q : Text) → AddsNoOptions (45 ∷ u) → NoOptions (p ++ ((45 ∷ v) ++ q)) → NoOptions (p ++ ((45 ∷ u) ++ q))
swapped_free p v u q keeps e = free_edge 45 dash 0 0 0 p (v ++ q) (u ++ q) e (keeps q (none_behind 0 0 (p ++ 45 ∷ v) q (ap NoOptionsIn (append_assoc p (45 ∷ v) q) ∙ e)))
  where
    NoOptionsIn : Text → List ℕ
    NoOptionsIn u = all_at is_options 0 u

-- ---- texts of segments

end_over : (ds es : List Located) → none_such is_tail ds ≡ true → to_end (ds ++ es) ≡ text_of ds ++ to_end es
end_over [] es n = refl
end_over (d ∷ ds) es n =
    let k = and_parts (not (is_tail d.is)) (none_such is_tail ds) n in
    let other : is_tail d.is ≡ false = not-true (is_tail d.is) k.0 in
    rw other (ap (λ (u : Text). bytes d.is ++ u) (end_over ds es k.1) ∙ sym (append_assoc (bytes d.is) (text_of ds) (to_end es)))

end_step : (d : Located) (es : List Located) → is_tail d.is ≡ false → to_end (d ∷ es) ≡ bytes d.is ++ to_end es
end_step d es n = rw n refl

header_over : (ds es : List Located) (hd : Located) → first_that is_header_line ds ≡ Some hd → from_header hd (ds ++ es) ≡ from_header hd ds ++ text_of es
header_over ds es hd f = ap (λ (fs : List Located). text_of (hd ∷ fs)) (after_over ds f) ∙ text_append (hd ∷ after_first is_line ds) es
  where
    after_over : (ds : List Located) → first_that is_header_line ds ≡ Some hd → after_first is_line (ds ++ es) ≡ after_first is_line ds ++ es
    after_over [] f = absurd (none-some hd f)
    after_over (d ∷ ds) f = by (is_header_line d.is) refl (after_over ds)
      where
        by : (k : Bool) → is_header_line d.is ≡ k → (first_that is_header_line ds ≡ Some hd → after_first is_line (ds ++ es) ≡ after_first is_line ds ++ es) → after_first is_line (d ∷ (ds ++ es)) ≡ after_first is_line (d ∷ ds) ++ es
        by true k deeper = rw k refl
        by false k deeper = (let g : first_that is_header_line ds ≡ Some hd = rw k at f in rw k (deeper g))

-- ---- one stretch, or two

free_two : (os : List Offence) (i j : ℕ) (u v : Text) → os ≡ offences_at Options (all_at is_options i u) ++ (offences_at Options (all_at is_options j v) ++ []) → os ≡ [] → NoOptions u × NoOptions v
free_two os i j u v e f =
    let parts = both_empty (offences_at Options (all_at is_options i u)) (offences_at Options (all_at is_options j v) ++ []) (sym e ∙ f) in
    let last = both_empty (offences_at Options (all_at is_options j v)) [] parts.1 in
    (none_elsewhere i 0 u (no_offence (all_at is_options i u) parts.0), none_elsewhere j 0 v (no_offence (all_at is_options j v) last.0))

two_free : (os : List Offence) (i j : ℕ) (u v : Text) → os ≡ offences_at Options (all_at is_options i u) ++ (offences_at Options (all_at is_options j v) ++ []) → NoOptions u → NoOptions v → os ≡ []
two_free os i j u v e f g =
    let a : all_at is_options i u ≡ [] = none_elsewhere 0 i u f in
    let b : all_at is_options j v ≡ [] = none_elsewhere 0 j v g in
    e ∙ (λ k. offences_at Options (a k) ++ (offences_at Options (b k) ++ []))

abbrev is_old : Located → Bool
is_old d = is_region d.is

region_no_tail : (g : Segment) → is_region g ≡ true → is_tail g ≡ false
region_no_tail (region v w) h = refl
region_no_tail g h = absurd cc

-- a file around a segment d that is no region and no end: its header is in front
record Sides (y : Text) (front back : List Located) (d hd tl : Located) : Type 0 where
  walked : walk y ≡ front ++ d ∷ back
  found : first_that is_header_line front ≡ Some hd
  ended : first_that is_tail back ≡ Some tl
  endless : none_such is_tail front ≡ true
  no_region : is_region d.is ≡ false
  no_tail : is_tail d.is ≡ false

module _ (y : Text) (front back : List Located) (d hd tl : Located) (s : Sides y front back d hd tl) where
  abbrev all : List Offence
  all = flat_map (options_in y) (outside_region y (walk y))

  over_d : first_that is_tail (d ∷ back) ≡ Some tl
  over_d = (let n = s.no_tail in rw n s.ended)

  region_behind : first_that is_region front ≡ None → region_of (walk y) ≡ first_that is_region back
  region_behind o = ap region_of s.walked ∙ first_skipped is_region front (d ∷ back) (none_found is_region front o) ∙ step
    where
      step : first_that is_region (d ∷ back) ≡ first_that is_region back
      step = (let n = s.no_region in rw n refl)

  without : first_that is_region front ≡ None → first_that is_region back ≡ None
      → all ≡ offences_at Options (all_at is_options hd.at (from_header hd front ++ (bytes d.is ++ to_end back))) ++ []
  without o n =
      one_stretch y front (d ∷ back) (record { hd = hd; tl = tl; found = s.found; ended = over_d; endless = s.endless }) s.walked (region_behind o ∙ n)
      ∙ ap (λ (u : Text). offences_at Options (all_at is_options hd.at (from_header hd front ++ u)) ++ []) (end_step d back s.no_tail)

  region_after : (r : Located) → first_that is_region front ≡ None → first_that is_region back ≡ Some r
      → all ≡ offences_at Options (all_at is_options hd.at (from_header hd front ++ (bytes d.is ++ text_of (before_first is_old back)))) ++ (offences_at Options (all_at is_options (r.at + length (bytes r.is)) (to_end (after_first is_old back))) ++ [])
  region_after r o n =
      let before = before_first is_old back in
      let behind = after_first is_old back in
      let whole : back ≡ before ++ r ∷ behind = before_whole is_old back r n in
      let walked : walk y ≡ (front ++ d ∷ before) ++ r ∷ behind = s.walked ∙ ap (λ (es : List Located). front ++ d ∷ es) whole ∙ sym (append_assoc front (d ∷ before) (r ∷ behind)) in
      let endless = before_tail (front ++ d ∷ before) r behind (ap tails_last (sym walked) ∙ walk_tails y) in
      let none_in = (and_parts (not (is_tail d.is)) (none_such is_tail before) (none_parts is_tail front (d ∷ before) endless).1).1 in
      let other : is_tail r.is ≡ false = region_no_tail r.is (found_so is_region back r n) in
      let over_r : first_that is_tail (r ∷ behind) ≡ first_that is_tail behind = rw other refl in
      let ended : first_that is_tail behind ≡ Some tl = sym (ap (first_that is_tail) whole ∙ first_skipped is_tail before (r ∷ behind) none_in ∙ over_r) ∙ s.ended in
      let found : first_that is_header_line (front ++ d ∷ before) ≡ Some hd = first_kept is_header_line front (d ∷ before) (ap (λ (o : Option Located). is_some o) s.found) ∙ s.found in
      two_parts y (front ++ d ∷ before) behind (record { hd = hd; tl = tl; found = found; ended = ended; endless = endless }) r walked (region_behind o ∙ n) other
      ∙ ap (λ (u : Text). offences_at Options (all_at is_options hd.at u) ++ (offences_at Options (all_at is_options (r.at + length (bytes r.is)) (to_end behind)) ++ [])) (header_over front (d ∷ before) hd s.found)

  region_before : (r first : Located) → first_that is_region front ≡ Some r → first_that is_header_line (before_first is_old front) ≡ Some first
      → all ≡ offences_at Options (all_at is_options first.at (from_header first (before_first is_old front)))
      ++ (offences_at Options (all_at is_options (r.at + length (bytes r.is)) (text_of (after_first is_old front) ++ (bytes d.is ++ to_end back))) ++ [])
  region_before r first o f =
      let before = before_first is_old front in
      let behind = after_first is_old front in
      let whole : front ≡ before ++ r ∷ behind = before_whole is_old front r o in
      let walked : walk y ≡ before ++ r ∷ (behind ++ d ∷ back) = s.walked ∙ ap (λ (es : List Located). es ++ d ∷ back) whole ∙ append_assoc before (r ∷ behind) (d ∷ back) in
      let endless = none_parts is_tail before (r ∷ behind) (ap (none_such is_tail) (sym whole) ∙ s.endless) in
      let none_in = (and_parts (not (is_tail r.is)) (none_such is_tail behind) endless.1).1 in
      let is : is_region r.is ≡ true = found_so is_region front r o in
      let here : first_that is_region (r ∷ (behind ++ d ∷ back)) ≡ Some r = rw is refl in
      let some : region_of (walk y) ≡ Some r = ap region_of walked ∙ first_skipped is_region before (r ∷ (behind ++ d ∷ back)) (before_none is_region front) ∙ here in
      let ended : first_that is_tail (behind ++ d ∷ back) ≡ Some tl = first_skipped is_tail behind (d ∷ back) none_in ∙ over_d in
      two_parts y before (behind ++ d ∷ back) (record { hd = first; tl = tl; found = f; ended = ended; endless = endless.0 }) r walked some (region_no_tail r.is is)
      ∙ ap (λ (u : Text). offences_at Options (all_at is_options first.at (from_header first before)) ++ (offences_at Options (all_at is_options (r.at + length (bytes r.is)) u) ++ []))
      (end_over behind (d ∷ back) none_in ∙ ap (λ (u : Text). text_of behind ++ u) (end_step d back s.no_tail))

-- ---- the same segments elsewhere

text_same : (ds es : List Located) → segments ds ≡ segments es → text_of ds ≡ text_of es
text_same [] [] s = refl
text_same [] (e ∷ es) s = absurd cc
text_same (d ∷ ds) [] s = absurd cc
text_same (d ∷ ds) (e ∷ es) s =
    let first : d.is ≡ e.is = cc in
    let more : segments ds ≡ segments es = cc in
    λ i. bytes (first i) ++ text_same ds es more i

-- what is so is found in both or in neither, and what is before it and after it is the same
record SameFirst (q : Segment → Bool) (ds es : List Located) : Type 0 where
  found : is_some (first_that q ds) ≡ is_some (first_that q es)
  before : segments (before_first (λ d. q d.is) ds) ≡ segments (before_first (λ d. q d.is) es)
  behind : segments (after_first (λ d. q d.is) ds) ≡ segments (after_first (λ d. q d.is) es)

same_first_that : (q : Segment → Bool) (ds es : List Located) → segments ds ≡ segments es → SameFirst q ds es
same_first_that q [] [] s = record { found = refl; before = refl; behind = refl }
same_first_that q [] (e ∷ es) s = absurd cc
same_first_that q (d ∷ ds) [] s = absurd cc
same_first_that q (d ∷ ds) (e ∷ es) s = by (q e.is) refl (same_first_that q ds es more)
  where
    first : d.is ≡ e.is
    first = cc

    more : segments ds ≡ segments es
    more = cc

    by : (k : Bool) → q e.is ≡ k → SameFirst q ds es → SameFirst q (d ∷ ds) (e ∷ es)
    by true k deeper = (let m : q d.is ≡ true = ap q first ∙ k in record { found = rw (k, m) refl; before = rw (k, m) refl; behind = rw (k, m) more })
    by false k deeper =
        let m : q d.is ≡ false = ap q first ∙ k in
        record { found = rw (k, m) deeper.found; before = rw (k, m) (λ i. first i ∷ deeper.before i); behind = rw (k, m) deeper.behind }

end_same : (ds es : List Located) → segments ds ≡ segments es → to_end ds ≡ to_end es
end_same ds es s = text_same (before_first is_end ds) (before_first is_end es) (same_first_that is_tail ds es s).before

-- ---- the file with another algorithm

some_is : {A : Type 0} (o : Option A) → is_some o ≡ true → (a : A) × (o ≡ Some a)
some_is (Some a) e = (a, refl)
some_is None e = absurd cc

region_is : (g : Segment) → is_region g ≡ true → (v : Text) × (w : Text) × (g ≡ region v w)
region_is (region v w) h = (v, w, refl)
region_is g h = absurd cc

-- the header is in front of a region
header_before : (y : Text) (front back : List Located) (d r : Located) → walk y ≡ front ++ d ∷ back → first_that is_region front ≡ Some r → is_some (first_that is_header_line (before_first is_old front)) ≡ true
header_before y front back d r w o =
    let before = before_first is_old front in
    let behind = after_first is_old front in
    let walked : walk y ≡ before ++ r ∷ (behind ++ d ∷ back) = w ∙ ap (λ (es : List Located). es ++ d ∷ back) (before_whole is_old front r o) ∙ append_assoc before (r ∷ behind) (d ∷ back) in
    let g = region_is r.is (found_so is_region front r o) in
    headed_title at_start before refl (region_met (after_all at_start before) r g.0 g.1 g.2 (met before r (behind ++ d ∷ back) at_start y walked)).0

-- in x the algorithm 45 ∷ v is within d, and in w 45 ∷ u is there, within e
pub record SwapsSegment (x w v u : Text) : Type 0 where
  pub front : List Located
  pub old : Located
  pub new : Located
  pub back : List Located
  pub back_there : List Located
  pub here : walk x ≡ front ++ old ∷ back
  pub there : walk w ≡ front ++ new ∷ back_there
  pub same : segments back ≡ segments back_there
  pub opened : Text
  pub closed : Text
  pub bytes_here : bytes old.is ≡ opened ++ ((45 ∷ v) ++ closed)
  pub bytes_there : bytes new.is ≡ opened ++ ((45 ∷ u) ++ closed)
  pub headed : (after_all at_start front).headed ≡ true
  pub no_region : is_region old.is ≡ false
  pub no_tail : is_tail old.is ≡ false
  pub no_region_there : is_region new.is ≡ false
  pub no_tail_there : is_tail new.is ≡ false

module _ (x w v u : Text) (s : SwapsSegment x w v u) (keeps : AddsNoOptions (45 ∷ u)) (ends : has_tail (walk x) ≡ true) (none : flat_map (options_in x) (outside_region x (walk x)) ≡ []) where
  swap : (f e : Text) → NoOptions (f ++ (bytes s.old.is ++ e)) → NoOptions (f ++ (bytes s.new.is ++ e))
  swap f e h =
      ap (all_at is_options 0) (ap (λ (b : Text). f ++ (b ++ e)) s.bytes_there ∙ in_order f s.opened (45 ∷ u) s.closed e)
      ∙ swapped_free (f ++ s.opened) v u (s.closed ++ e) keeps (ap (all_at is_options 0) (sym (ap (λ (b : Text). f ++ (b ++ e)) s.bytes_here ∙ in_order f s.opened (45 ∷ v) s.closed e)) ∙ h)
    where
      in_order : (f o m c e : Text) → f ++ ((o ++ (m ++ c)) ++ e) ≡ (f ++ o) ++ (m ++ (c ++ e))
      in_order f o m c e = simp append_assoc refl

  endless : none_such is_tail s.front ≡ true
  endless = before_tail s.front s.old s.back (ap tails_last (sym s.here) ∙ walk_tails x)

  ends_here : is_some (first_that is_tail s.back) ≡ true
  ends_here =
      let all = tail_after s.front (s.old ∷ s.back) endless (ap has_tail (sym s.here) ∙ ends) in
      let step : first_that is_tail (s.old ∷ s.back) ≡ first_that is_tail s.back = (let n = s.no_tail in rw n refl) in
      ap (λ (o : Option Located). is_some o) (sym step) ∙ all

  tl : (t : Located) × (first_that is_tail s.back ≡ Some t)
  tl = some_is (first_that is_tail s.back) ends_here

  tl_there : (t : Located) × (first_that is_tail s.back_there ≡ Some t)
  tl_there = some_is (first_that is_tail s.back_there) (sym (same_first_that is_tail s.back s.back_there s.same).found ∙ ends_here)

  hd : (t : Located) × (first_that is_header_line s.front ≡ Some t)
  hd = some_is (first_that is_header_line s.front) (headed_title at_start s.front refl s.headed)

  sides : Sides x s.front s.back s.old hd.0 tl.0
  sides = record { walked = s.here; found = hd.1; ended = tl.1; endless = endless; no_region = s.no_region; no_tail = s.no_tail }

  sides_there : Sides w s.front s.back_there s.new hd.0 tl_there.0
  sides_there = record { walked = s.there; found = hd.1; ended = tl_there.1; endless = endless; no_region = s.no_region_there; no_tail = s.no_tail_there }

  -- the region is in front of the comment
  in_front : (r : Located) → first_that is_region s.front ≡ Some r → flat_map (options_in w) (outside_region w (walk w)) ≡ []
  in_front r o =
      let h = some_is (first_that is_header_line (before_first is_old s.front)) (header_before x s.front s.back s.old r s.here o) in
      let behind = text_of (after_first is_old s.front) in
      let first = from_header h.0 (before_first is_old s.front) in
      let to = r.at + length (bytes r.is) in
      let free = free_two (flat_map (options_in x) (outside_region x (walk x))) h.0.at to first (behind ++ (bytes s.old.is ++ to_end s.back)) (region_before x s.front s.back s.old hd.0 tl.0 sides r h.0 o h.1) none in
      let there : NoOptions (behind ++ (bytes s.new.is ++ to_end s.back_there)) =
      ap (λ (e : Text). all_at is_options 0 (behind ++ (bytes s.new.is ++ e))) (sym (end_same s.back s.back_there s.same)) ∙ swap behind (to_end s.back) free.1 in
      two_free (flat_map (options_in w) (outside_region w (walk w))) h.0.at to first (behind ++ (bytes s.new.is ++ to_end s.back_there)) (region_before w s.front s.back_there s.new hd.0 tl_there.0 sides_there r h.0 o h.1) free.0 there

  -- it is behind the comment
  is_behind : (r q : Located) → first_that is_region s.front ≡ None → first_that is_region s.back ≡ Some r → first_that is_region s.back_there ≡ Some q → flat_map (options_in w) (outside_region w (walk w)) ≡ []
  is_behind r q o here there =
      let same = same_first_that is_region s.back s.back_there s.same in
      let front = from_header hd.0 s.front in
      let free = free_two (flat_map (options_in x) (outside_region x (walk x))) hd.0.at (r.at + length (bytes r.is)) (front ++ (bytes s.old.is ++ text_of (before_first is_old s.back))) (to_end (after_first is_old s.back))
      (region_after x s.front s.back s.old hd.0 tl.0 sides r o here) none in
      let text = text_same (before_first is_old s.back) (before_first is_old s.back_there) same.before in
      let first : NoOptions (front ++ (bytes s.new.is ++ text_of (before_first is_old s.back_there))) =
      ap (λ (e : Text). all_at is_options 0 (front ++ (bytes s.new.is ++ e))) (sym text) ∙ swap front (text_of (before_first is_old s.back)) free.0 in
      let second : NoOptions (to_end (after_first is_old s.back_there)) = ap (all_at is_options 0) (sym (end_same (after_first is_old s.back) (after_first is_old s.back_there) same.behind)) ∙ free.1 in
      two_free (flat_map (options_in w) (outside_region w (walk w))) hd.0.at (q.at + length (bytes q.is)) (front ++ (bytes s.new.is ++ text_of (before_first is_old s.back_there))) (to_end (after_first is_old s.back_there))
      (region_after w s.front s.back_there s.new hd.0 tl_there.0 sides_there q o there) first second

  -- there is none
  is_nowhere : first_that is_region s.front ≡ None → first_that is_region s.back ≡ None → first_that is_region s.back_there ≡ None → flat_map (options_in w) (outside_region w (walk w)) ≡ []
  is_nowhere o here there =
      let front = from_header hd.0 s.front in
      let old = front ++ (bytes s.old.is ++ to_end s.back) in
      let new = front ++ (bytes s.new.is ++ to_end s.back_there) in
      let os = both_empty (offences_at Options (all_at is_options hd.0.at old)) [] (sym (without x s.front s.back s.old hd.0 tl.0 sides o here) ∙ none) in
      let free : NoOptions old = none_elsewhere hd.0.at 0 old (no_offence (all_at is_options hd.0.at old) os.0) in
      let all : NoOptions new = ap (λ (e : Text). all_at is_options 0 (front ++ (bytes s.new.is ++ e))) (sym (end_same s.back s.back_there s.same)) ∙ swap front (to_end s.back) free in
      without w s.front s.back_there s.new hd.0 tl_there.0 sides_there o there ∙ ap (λ (ns : List ℕ). offences_at Options ns ++ []) (none_elsewhere 0 hd.0.at new all)

  pub swapped_options : flat_map (options_in w) (outside_region w (walk w)) ≡ []
  swapped_options = by (first_that is_region s.front) refl (first_that is_region s.back) refl (first_that is_region s.back_there) refl
    where
      found : is_some (first_that is_region s.back) ≡ is_some (first_that is_region s.back_there)
      found = (same_first_that is_region s.back s.back_there s.same).found

      by : (o : Option Located) → first_that is_region s.front ≡ o → (n : Option Located) → first_that is_region s.back ≡ n → (m : Option Located) → first_that is_region s.back_there ≡ m
          → flat_map (options_in w) (outside_region w (walk w)) ≡ []
      by (Some r) o n nn m mm = in_front r o
      by None o (Some r) n (Some q) m = is_behind r q o n m
      by None o None n None m = is_nowhere o n m
      by None o (Some r) n None m = (let e : true ≡ false = ap (λ (o : Option Located). is_some o) (sym n) ∙ found ∙ ap (λ (o : Option Located). is_some o) m in absurd cc)
      by None o None n (Some q) m = (let e : false ≡ true = ap (λ (o : Option Located). is_some o) (sym n) ∙ found ∙ ap (λ (o : Option Located). is_some o) m in absurd cc)
