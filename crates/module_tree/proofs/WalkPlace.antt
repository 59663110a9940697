-- Where a translation goes in a file that is not refused: after whole lines that are calm, outside any region.
use Rattle.std.proofs.Common.{◌≡◌, ℕ, zero, suc, ◌+◌, ◌*◌, ◌/◌, ◌-◌, ◌<◌, ◌≤◌, Bool, true, false, not, ◌&&◌, nat_eq, List, [], ◌∷◌, ◌++◌, length, Option, Some, None, refl, sym, ap, ◌∙◌, arith, append_assoc, length-append, find}
use Rattle.std.specs.Prelude.{if◌then◌else◌, is_some}
use Rattle.std.specs.List.{list_all, list_any}
use Rattle.std.proofs.lemmas.Bool.{and_parts, and_from, not-true, eqb-true, both_ways}
use Rattle.std.proofs.lemmas.Option.{none-some, same_Some}
use Rattle.tla_token.specs.declared.place.Place.{Place}
use Rattle.tla_token.specs.Places.{start, step as place_step, after}
use Rattle.tla_token.specs.Offences.{sound, stray, bad_string, open_string, open_block, Offence}
use Rattle.module_tree.specs.TextFront.{Text, line_here, whole_line}
use Rattle.module_tree.specs.HeaderAndRegion.{is_header, is_begin, is_end}
use Rattle.module_tree.specs.Beginnings.{ends_module}
use Rattle.module_tree.specs.ModuleParts.{module_part}
use Rattle.module_tree.specs.Walk.{Segment, free, header, part, region, mark, inner, tail, bytes, is_header_line, is_region, is_tail, State, opened, at_end_line, in_module, segment_at, after_segment, Located, walk_from, walk, at_start}
use Rattle.module_tree.specs.FileParts.{up_to_first, after_first, before_first, first_that}
use Rattle.module_tree.specs.FileOffences.{segment_offences, offences_of}
use Rattle.module_tree.specs.laws.Walks.{text_of, is_lined, is_calm, are_calm, after_all, IsOpen, located, is_common, are_common}
use Rattle.module_tree.proofs.WalkResumed.{Step, step}
use Rattle.module_tree.proofs.WalkAround.{suffixed}
use Rattle.module_tree.proofs.WalkParted.{first_is, rest_is, no_stand}

-- ---- lists

pub both_empty : {A : Type 0} (xs ys : List A) → xs ++ ys ≡ [] → (xs ≡ []) × (ys ≡ [])
both_empty [] ys e = (refl, e)
both_empty (x ∷ xs) ys e = absurd cc

pub up_to_whole : (p : Located → Bool) (ds : List Located) → up_to_first p ds ++ after_first p ds ≡ ds
up_to_whole p [] = refl
up_to_whole p (d ∷ ds) = by (p d) refl (up_to_whole p ds)
  where
    by : (k : Bool) → p d ≡ k → up_to_first p ds ++ after_first p ds ≡ ds → up_to_first p (d ∷ ds) ++ after_first p (d ∷ ds) ≡ d ∷ ds
    by true k e = rw k refl
    by false k e = rw k (ap (λ (es : List Located). d ∷ es) e)

pub before_whole : (p : Located → Bool) (ds : List Located) (e : Located) → find p ds ≡ Some e → ds ≡ before_first p ds ++ e ∷ after_first p ds
before_whole p [] e f = absurd (none-some e f)
before_whole p (d ∷ ds) e f = by (p d) refl (before_whole p ds e)
  where
    by : (k : Bool) → p d ≡ k → (find p ds ≡ Some e → ds ≡ before_first p ds ++ e ∷ after_first p ds) → d ∷ ds ≡ before_first p (d ∷ ds) ++ e ∷ after_first p (d ∷ ds)
    by true k deeper = (let same : d ≡ e = same_Some d e (rw k at f) in rw k (ap (λ (d : Located). d ∷ ds) same))
    by false k deeper = (let more : find p ds ≡ Some e = rw k at f in rw k (ap (λ (es : List Located). d ∷ es) (deeper more)))

abbrev pub none_such : (Segment → Bool) → List Located → Bool
none_such q ds = list_all (λ d. not (q d.is)) ds

pub before_none : (q : Segment → Bool) (ds : List Located) → none_such q (before_first (λ d. q d.is) ds) ≡ true
before_none q [] = refl
before_none q (d ∷ ds) = by (q d.is) refl (before_none q ds)
  where
    by : (k : Bool) → q d.is ≡ k → none_such q (before_first (λ d. q d.is) ds) ≡ true → none_such q (before_first (λ d. q d.is) (d ∷ ds)) ≡ true
    by true k h = rw k refl
    by false k h = rw (k, k) h

pub none_found : (q : Segment → Bool) (ds : List Located) → first_that q ds ≡ None → none_such q ds ≡ true
none_found q [] e = refl
none_found q (d ∷ ds) e = by (q d.is) refl (none_found q ds)
  where
    by : (k : Bool) → q d.is ≡ k → (first_that q ds ≡ None → none_such q ds ≡ true) → none_such q (d ∷ ds) ≡ true
    by true k deeper = (let f : Some d ≡ None = rw k at e in absurd (none-some d (sym f)))
    by false k deeper = (let f : first_that q ds ≡ None = rw k at e in rw k (deeper f))

pub none_parts : (q : Segment → Bool) (ds es : List Located) → none_such q (ds ++ es) ≡ true → (none_such q ds ≡ true) × (none_such q es ≡ true)
none_parts q [] es h = (refl, h)
none_parts q (d ∷ ds) es h =
    let k = and_parts (not (q d.is)) (none_such q (ds ++ es)) h in
    let m = none_parts q ds es k.1 in
    (and_from (not (q d.is)) (none_such q ds) k.0 m.0, m.1)

pub text_append : (ds es : List Located) → text_of (ds ++ es) ≡ text_of ds ++ text_of es
text_append [] es = refl
text_append (d ∷ ds) es = ap (λ (u : Text). bytes d.is ++ u) (text_append ds es) ∙ sym (append_assoc (bytes d.is) (text_of ds) (text_of es))

pub after_append : (st : State) (ds es : List Located) → after_all st (ds ++ es) ≡ after_all (after_all st ds) es
after_append st [] es = refl
after_append st (d ∷ ds) es = after_append (after_segment st d.is) ds es

pub offences_append : (ds es : List Located) → offences_of (ds ++ es) ≡ offences_of ds ++ offences_of es
offences_append [] es = refl
offences_append (d ∷ ds) es =
    ap (λ (os : List Offence). segment_offences d.at d.is ++ os) (offences_append ds es) ∙ sym (append_assoc (segment_offences d.at d.is) (offences_of ds) (offences_of es))

-- ---- calm and common segments

calm_segment : (at : ℕ) (g : Segment) → segment_offences at g ≡ [] → is_tail g ≡ false → is_calm g ≡ true
calm_segment at (free w) e n = refl
calm_segment at (header w) e n = refl
calm_segment at (part (sound p)) e n = refl
calm_segment at (part (stray b)) e n = refl
calm_segment at (part (bad_string raw)) e n = refl
calm_segment at (part (open_string raw)) e n = refl
calm_segment at (part (open_block body)) e n = absurd cc
calm_segment at (region v w) e n = refl
calm_segment at (mark w) e n = absurd cc
calm_segment at (inner w) e n = refl
calm_segment at (tail w) e n = absurd cc

pub fine_calm : (ds : List Located) → offences_of ds ≡ [] → none_such is_tail ds ≡ true → are_calm ds ≡ true
fine_calm [] e n = refl
fine_calm (d ∷ ds) e n =
    let o = both_empty (segment_offences d.at d.is) (offences_of ds) e in
    let k = and_parts (not (is_tail d.is)) (none_such is_tail ds) n in
    and_from (is_calm d.is) (are_calm ds) (calm_segment d.at d.is o.0 (not-true (is_tail d.is) k.0)) (fine_calm ds o.1 k.1)

common_segment : (at : ℕ) (g : Segment) → segment_offences at g ≡ [] → is_region g ≡ false → is_common g ≡ true
common_segment at (free w) e n = refl
common_segment at (header w) e n = refl
common_segment at (part p) e n = refl
common_segment at (region v w) e n = absurd cc
common_segment at (mark w) e n = absurd cc
common_segment at (inner w) e n = refl
common_segment at (tail w) e n = refl

pub fine_common : (ds : List Located) → offences_of ds ≡ [] → none_such is_region ds ≡ true → are_common ds ≡ true
fine_common [] e n = refl
fine_common (d ∷ ds) e n =
    let o = both_empty (segment_offences d.at d.is) (offences_of ds) e in
    let k = and_parts (not (is_region d.is)) (none_such is_region ds) n in
    and_from (is_common d.is) (are_common ds) (common_segment d.at d.is o.0 (not-true (is_region d.is) k.0)) (fine_common ds o.1 k.1)

-- ---- nothing is after a tail

abbrev is_end_of : Located → List Located → Bool
is_end_of d [] = true
is_end_of d (e ∷ es) = not (is_tail d.is)

abbrev pub tails_last : List Located → Bool
tails_last [] = true
tails_last (d ∷ ds) = is_end_of d ds && tails_last ds

no_tail_opened : (o : Option (Text × Text)) (s : Text) → is_tail (opened o s) ≡ false
no_tail_opened None s = refl
no_tail_opened (Some (v, w)) s = refl

module_tail : (marked first : Bool) (b : ℕ) (s : Text) → is_tail (in_module marked first b s) ≡ true → in_module marked first b s ≡ tail (b ∷ s)
module_tail marked first b s e =
    by (first && is_begin (b ∷ s)) refl (first && is_end (b ∷ s)) refl (first && is_header (b ∷ s)) refl (ends_module (b ∷ s)) refl
  where
    never : (g : Segment) → in_module marked first b s ≡ g → is_tail g ≡ false → ⊥
    never g is unlike = both_ways (is_tail (in_module marked first b s)) (ap is_tail is ∙ unlike) e

    by : (i : Bool) → (first && is_begin (b ∷ s)) ≡ i → (j : Bool) → (first && is_end (b ∷ s)) ≡ j → (k : Bool) → (first && is_header (b ∷ s)) ≡ k → (l : Bool) → ends_module (b ∷ s) ≡ l
        → in_module marked first b s ≡ tail (b ∷ s)
    by true i j jj k kk l ll =
        let o : Option (Text × Text) = if marked then None else at_end_line false (b ∷ s) in
        absurd (never (opened o (b ∷ s)) (rw i refl) (no_tail_opened o (b ∷ s)))
    by false i true j k kk l ll = absurd (never (mark (line_here (b ∷ s))) (rw (i, j) refl) refl)
    by false i false j true k l ll = absurd (never (inner (line_here (b ∷ s))) (rw (i, j, k) refl) refl)
    by false i false j false k true l = rw (i, j, k, l) refl
    by false i false j false k false l = absurd (never (part (module_part b s)) (rw (i, j, k, l) refl) refl)

tail_bytes : (st : State) (b : ℕ) (s : Text) → is_tail (segment_at st b s) ≡ true → bytes (segment_at st b s) ≡ b ∷ s
tail_bytes st b s e = by st.headed refl (is_header (b ∷ s)) refl
  where
    by : (h : Bool) → st.headed ≡ h → (k : Bool) → is_header (b ∷ s) ≡ k → bytes (segment_at st b s) ≡ b ∷ s
    by true h k kk =
        let is : segment_at st b s ≡ in_module st.marked (nat_eq st.place.col 1) b s = rw h refl in
        ap bytes (is ∙ module_tail st.marked (nat_eq st.place.col 1) b s (ap is_tail (sym is) ∙ e))
    by false h true k = (let is : segment_at st b s ≡ header (whole_line (b ∷ s)) = rw (h, k) refl in absurd (both_ways (is_tail (segment_at st b s)) (ap is_tail is) e))
    by false h false k = (let is : segment_at st b s ≡ free (whole_line (b ∷ s)) = rw (h, k) refl in absurd (both_ways (is_tail (segment_at st b s)) (ap is_tail is) e))

tails_within : (fuel : ℕ) (st : State) (t : Text) → length t < fuel → tails_last (walk_from st 0 t) ≡ true
tails_within zero st t l = absurd (omega arith)
tails_within (suc fuel) st [] l = refl
tails_within (suc fuel) st (b ∷ s) l =
    let g = segment_at st b s in
    let next = after_segment st g in
    let f = step st b s in
    let deeper : tails_last (walk_from next 0 f.rest) ≡ true = tails_within fuel next f.rest (let n = f.shorter in omega (arith, l)) in
    ap (λ (ds : List Located). tails_last (located st g ∷ ds)) (f.over next)
    ∙ and_from (is_end_of (located st g) (walk_from next 0 f.rest)) (tails_last (walk_from next 0 f.rest)) (last f.rest (is_tail g) refl f.split) deeper
  where
    last : (rest : Text) (k : Bool) → is_tail (segment_at st b s) ≡ k → b ∷ s ≡ bytes (segment_at st b s) ++ rest
        → is_end_of (located st (segment_at st b s)) (walk_from (after_segment st (segment_at st b s)) 0 rest) ≡ true
    last [] k e split = refl
    last (c ∷ r) true e split =
        let n = ap length (split ∙ ap (λ (u : Text). u ++ c ∷ r) (tail_bytes st b s e)) in
        absurd (omega (arith, n, length-append (b ∷ s) (c ∷ r)))
    last (c ∷ r) false e split = rw e refl

pub walk_tails : (x : Text) → tails_last (walk x) ≡ true
walk_tails x = tails_within (suc (length x)) at_start x (omega arith)

abbrev pub has_tail : List Located → Bool
has_tail ds = is_some (first_that is_tail ds)

-- what is before another has no tail
pub before_tail : (ds : List Located) (d : Located) (es : List Located) → tails_last (ds ++ d ∷ es) ≡ true → none_such is_tail ds ≡ true
before_tail [] d es h = refl
before_tail (c ∷ []) d es h = and_from (not (is_tail c.is)) true (and_parts (not (is_tail c.is)) (tails_last (d ∷ es)) h).0 refl
before_tail (c ∷ e ∷ ds) d es h =
    let k = and_parts (not (is_tail c.is)) (tails_last ((e ∷ ds) ++ d ∷ es)) h in
    and_from (not (is_tail c.is)) (none_such is_tail (e ∷ ds)) k.0 (before_tail (e ∷ ds) d es k.1)

-- a tail that isn't among the first is among the others
pub tail_after : (ds es : List Located) → none_such is_tail ds ≡ true → has_tail (ds ++ es) ≡ true → has_tail es ≡ true
tail_after [] es n h = h
tail_after (d ∷ ds) es n h =
    let k = and_parts (not (is_tail d.is)) (none_such is_tail ds) n in
    let other : is_tail d.is ≡ false = not-true (is_tail d.is) k.0 in
    let more : has_tail (ds ++ es) ≡ true = rw other at h in
    tail_after ds es k.1 more

-- ---- where the walk is

abbrev pub is_part : Segment → Bool
is_part (part p) = true
is_part g = false

stays_headed : (st : State) (ds : List Located) → st.headed ≡ true → (after_all st ds).headed ≡ true
stays_headed st [] h = h
stays_headed st (d ∷ ds) h = stays_headed (after_segment st d.is) ds (rw h refl)

unheaded_part : (st : State) (b : ℕ) (s : Text) → st.headed ≡ false → is_part (segment_at st b s) ≡ false
unheaded_part st b s h = by (is_header (b ∷ s)) refl
  where
    by : (k : Bool) → is_header (b ∷ s) ≡ k → is_part (segment_at st b s) ≡ false
    by true k = rw (h, k) refl
    by false k = rw (h, k) refl

-- after a part of the module the header came
pub part_headed : (ds es : List Located) (st : State) (t : Text) → walk_from st 0 t ≡ ds ++ es → list_any (λ d. is_part d.is) ds ≡ true → (after_all st ds).headed ≡ true
part_headed [] es st t w h = absurd cc
part_headed (d ∷ ds) es st [] w h = absurd (no_stand d (ds ++ es) w)
part_headed (d ∷ ds) es st (b ∷ s) w h = by st.headed refl (part_headed ds es (after_segment st d.is))
  where
    g : Segment
    g = segment_at st b s

    f : Step st b s
    f = step st b s

    more : List Located
    more = walk_from (after_segment st g) (length (bytes g) - 1) s

    is : located st g ≡ d
    is = first_is (located st g) more d (ds ++ es) w

    segment_is : g ≡ d.is
    segment_is = ap (λ (d : Located). d.is) is

    further : walk_from (after_segment st d.is) 0 f.rest ≡ ds ++ es
    further = ap (λ (g : Segment). walk_from (after_segment st g) 0 f.rest) (sym segment_is) ∙ sym (f.over (after_segment st g)) ∙ rest_is (located st g) more d (ds ++ es) w

    by : (k : Bool) → st.headed ≡ k
        → ((t : Text) → walk_from (after_segment st d.is) 0 t ≡ ds ++ es → list_any (λ d. is_part d.is) ds ≡ true → (after_all (after_segment st d.is) ds).headed ≡ true)
        → (after_all st (d ∷ ds)).headed ≡ true
    by true k deeper = stays_headed st (d ∷ ds) k
    by false k deeper =
        let none : is_part d.is ≡ false = sym (ap is_part segment_is) ∙ unheaded_part st b s k in
        let others : list_any (λ d. is_part d.is) ds ≡ true = rw none at h in
        deeper f.rest further others

-- and so its header is among the segments
pub headed_title : (st : State) (ds : List Located) → st.headed ≡ false → (after_all st ds).headed ≡ true → is_some (first_that is_header_line ds) ≡ true
headed_title st [] u h = absurd (both_ways st.headed u h)
headed_title st (d ∷ ds) u h = by (is_header_line d.is) refl (headed_title (after_segment st d.is) ds)
  where
    by : (k : Bool) → is_header_line d.is ≡ k → ((after_segment st d.is).headed ≡ false → (after_all (after_segment st d.is) ds).headed ≡ true → is_some (first_that is_header_line ds) ≡ true)
        → is_some (first_that is_header_line (d ∷ ds)) ≡ true
    by true k deeper = rw k refl
    by false k deeper = rw k (deeper (rw (u, k) refl) h)

pub none_marked : (st : State) (ds : List Located) → st.marked ≡ false → none_such is_region ds ≡ true → (after_all st ds).marked ≡ false
none_marked st [] u n = u
none_marked st (d ∷ ds) u n =
    let k = and_parts (not (is_region d.is)) (none_such is_region ds) n in
    none_marked (after_segment st d.is) ds (rw (u, not-true (is_region d.is) k.0) refl) k.1

-- the segment after the first ones is where the walk is, and is what is there
pub record Met (st : State) (d : Located) : Type 0 where
  pub b : ℕ
  pub s : Text
  pub is : located st (segment_at st b s) ≡ d

pub met : (ds : List Located) (d : Located) (es : List Located) (st : State) (t : Text) → walk_from st 0 t ≡ ds ++ d ∷ es → Met (after_all st ds) d
met ds d es st t w = by (suffixed ds (d ∷ es) st t w).0 (suffixed ds (d ∷ es) st t w).2
  where
    by : (c : Text) → walk_from (after_all st ds) 0 c ≡ d ∷ es → Met (after_all st ds) d
    by [] e = absurd (no_stand d es e)
    by (b ∷ s) e =
        let g = segment_at (after_all st ds) b s in
        record { b = b; s = s; is = first_is (located (after_all st ds) g) (walk_from (after_segment (after_all st ds) g) (length (bytes g) - 1) s) d es e }

-- a region is found at the start of a line of the module, where none came yet
region_open : (st : State) (b : ℕ) (s v w : Text) → segment_at st b s ≡ region v w → IsOpen st
region_open st b s v w e = by st.headed refl
  where
    wrong : (g : Segment) → segment_at st b s ≡ g → is_region g ≡ false → ⊥
    wrong g is unlike = both_ways (is_region (segment_at st b s)) (ap is_region is ∙ unlike) (ap is_region e)

    on : st.headed ≡ true → segment_at st b s ≡ in_module st.marked (nat_eq st.place.col 1) b s → IsOpen st
    on h is = inside (nat_eq st.place.col 1) refl (is_begin (b ∷ s)) refl st.marked refl
      where
        first : Bool
        first = nat_eq st.place.col 1

        unlined : first ≡ false → IsOpen st
        unlined k = tails (ends_module (b ∷ s)) refl
          where
            tails : (l : Bool) → ends_module (b ∷ s) ≡ l → IsOpen st
            tails true l = absurd (wrong (tail (b ∷ s)) (is ∙ rw (k, l) refl) refl)
            tails false l = absurd (wrong (part (module_part b s)) (is ∙ rw (k, l) refl) refl)

        other : first ≡ true → is_begin (b ∷ s) ≡ false → IsOpen st
        other k n = ends (is_end (b ∷ s)) refl (is_header (b ∷ s)) refl (ends_module (b ∷ s)) refl
          where
            ends : (i : Bool) → is_end (b ∷ s) ≡ i → (j : Bool) → is_header (b ∷ s) ≡ j → (l : Bool) → ends_module (b ∷ s) ≡ l → IsOpen st
            ends true i j jj l ll = absurd (wrong (mark (line_here (b ∷ s))) (is ∙ rw (k, n, i) refl) refl)
            ends false i true j l ll = absurd (wrong (inner (line_here (b ∷ s))) (is ∙ rw (k, n, i, j) refl) refl)
            ends false i false j true l = absurd (wrong (tail (b ∷ s)) (is ∙ rw (k, n, i, j, l) refl) refl)
            ends false i false j false l = absurd (wrong (part (module_part b s)) (is ∙ rw (k, n, i, j, l) refl) refl)

        inside : (k : Bool) → first ≡ k → (n : Bool) → is_begin (b ∷ s) ≡ n → (m : Bool) → st.marked ≡ m → IsOpen st
        inside false k n nn m mm = unlined k
        inside true k false n m mm = other k n
        inside true k true n true m = absurd (wrong (mark (line_here (b ∷ s))) (is ∙ rw (k, n, m) refl) refl)
        inside true k true n false m = (h, m, k)

    by : (h : Bool) → st.headed ≡ h → IsOpen st
    by true h = on h (rw h refl)
    by false h = lines (is_header (b ∷ s)) refl
      where
        lines : (k : Bool) → is_header (b ∷ s) ≡ k → IsOpen st
        lines true k = absurd (wrong (header (whole_line (b ∷ s))) (rw (h, k) refl) refl)
        lines false k = absurd (wrong (free (whole_line (b ∷ s))) (rw (h, k) refl) refl)

pub region_met : (st : State) (d : Located) (v w : Text) → d.is ≡ region v w → Met st d → IsOpen st
region_met st d v w e m = region_open st m.b m.s v w (ap (λ (d : Located). d.is) m.is ∙ e)

-- ---- a line begins where the column is 1

pub some_col : (p : Place) (b : ℕ) → 1 ≤ (place_step p b).col
some_col p b = by (nat_eq b 10) refl (nat_eq b 9) refl
  where
    by : (k : Bool) → nat_eq b 10 ≡ k → (j : Bool) → nat_eq b 9 ≡ j → 1 ≤ (place_step p b).col
    by true k j jj = rw k (omega arith)
    by false k true j = rw (k, j) (omega arith)
    by false k false j = rw (k, j) (omega arith)

pub line_step : (p : Place) (b : ℕ) → 1 ≤ p.col → (place_step p b).col ≡ 1 → nat_eq b 10 ≡ true
line_step p b l e = by (nat_eq b 10) refl (nat_eq b 9) refl
  where
    tabbed : (c : ℕ) → 1 ≤ c → 8 * ((c + 7) / 8) + 1 ≡ 1 → ⊥
    tabbed c l e = omega (arith, l, e)

    by : (k : Bool) → nat_eq b 10 ≡ k → (j : Bool) → nat_eq b 9 ≡ j → k ≡ true
    by true k j jj = refl
    by false k true j = (let x : 8 * ((p.col + 7) / 8) + 1 ≡ 1 = rw (k, j) at e in absurd (tabbed p.col l x))
    by false k false j = (let x : p.col + 1 ≡ 1 = rw (k, j) at e in absurd (omega (arith, l, x)))

line_text : (p : Place) (u : Text) → 1 ≤ p.col → (after p u).col ≡ 1 → is_lined u ≡ true
line_text p [] l e = refl
line_text p (b ∷ []) l e = line_step p b l e
line_text p (b ∷ c ∷ u) l e = line_text (place_step p b) (c ∷ u) (some_col p b) e

pub after_both : (p : Place) (v w : Text) → after p (v ++ w) ≡ after (after p v) w
after_both p [] w = refl
after_both p (b ∷ v) w = after_both (place_step p b) v w

pub places_after : (st : State) (ds : List Located) → (after_all st ds).place ≡ after st.place (text_of ds)
places_after st [] = refl
places_after st (d ∷ ds) = places_after (after_segment st d.is) ds ∙ sym (after_both st.place (bytes d.is) (text_of ds))

pub open_lined : (ds : List Located) → IsOpen (after_all at_start ds) → is_lined (text_of ds) ≡ true
open_lined ds (h, m, c) =
    line_text start (text_of ds) (omega arith) (ap (λ (p : Place). p.col) (sym (places_after at_start ds)) ∙ eqb-true (after_all at_start ds).place.col 1 c)
