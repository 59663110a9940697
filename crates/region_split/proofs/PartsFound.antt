-- What the parts of a module's text are, and where a text is no module.
use Rattle.std.proofs.Common.{◌≡◌, ℕ, ◌+◌, Bool, true, false, not, ◌&&◌, List, [], ◌∷◌, ◌++◌, length, take, drop, Option, Some, None, refl, sym, ap, ◌∙◌, arith, append-nil}
use Rattle.std.specs.Prelude.{find, filter, is_some, All}
use Rattle.std.specs.List.{position_or_len}
use Rattle.std.specs.Option.{option_map, is_none}
use Rattle.std.proofs.lemmas.Bool.{and_parts}
use Rattle.std.proofs.lemmas.List.{take-append-drop, take-map, drop-map}
use Rattle.tla_token.specs.Places.{after}
use Rattle.tla_token.specs.Tokens.{stretch}
use Rattle.tla_token.specs.TokensSeen.{tokens_seen}
use Rattle.tla_token.specs.Offences.{Offence, least}
use Rattle.tla_value.specs.Outside.{Outside}
use Rattle.module_tree.specs.TextFront.{Text}
use Rattle.module_tree.specs.Walk.{bytes, is_region, Located, walk}
use Rattle.module_tree.specs.FileParts.{title, module_end, region_of, before_spot, after_spot, inside_region}
use Rattle.module_tree.specs.FileUnits.{tokens_in, units_in}
use Rattle.module_tree.specs.FileOffences.{offences_of, is_splitting}
use Rattle.module_split.specs.declared.stand.Shape.{Shape}
use Rattle.module_split.specs.declared.stand.Shape.TheVariants as shape
use Rattle.module_split.specs.declared.stand.Stand.{Stand}
use Rattle.module_split.specs.StandsSeen.{segment_of, segment_seen, located_seen, stands_seen, IsSolid}
use Rattle.module_split.specs.SplitSeen.{is_region_stand, is_tail_stand, plain_tokens}
use Rattle.module_split.proofs.StandSteps.{before_is, after_is}
use Rattle.module_split.proofs.Gaps.{region_seen, region_bytes, first_region}
use Rattle.module_split.proofs.SplitParts.{region_found, end_found, found_one}
use Rattle.module_split.proofs.SplitFine.{stands_kept, none_least}
use Rattle.module_split.proofs.SplitTokens.{tokens_before, tokens_after, plain_all}
use Rattle.region_reading.specs.Bound.{Bound}
use Rattle.region_reading.specs.ModuleReader.{is_nothing, are_small, is_sound_region, translation_in, translation_of, is_sound_file, module_of, outside_of_file, module_of_file}
use Rattle.region_split.specs.declared.parts.RegionParts.{RegionParts}
use Rattle.region_split.specs.Parted.{IsPlaced, IsParted, IsNoModule}
use Rattle.region_split.proofs.RegionInside.{body_of, line_of, begun_at, inside_of}
use Rattle.region_split.proofs.RegionPlaces.{found_place, region_titled}

-- ---- no module

nothing_is : {A : Type 0} (xs : List A) → is_nothing xs ≡ true → xs ≡ []
nothing_is [] h = refl
nothing_is (x ∷ xs) h = absurd cc

no_part : (t : Option Text) (o : Outside) → module_of t o None ≡ None
no_part (Some t) o = refl
no_part None o = refl

-- a text whose segments are sound has no translation
none_by : (x : Text) → (is_sound_file (walk x) ≡ true → (m : Bound) → translation_of m (region_of (walk x)) ≡ None) → IsNoModule x
none_by x h m = by (is_sound_file (walk x)) refl
  where
    ds : List Located
    ds = walk x

    by : (k : Bool) → is_sound_file ds ≡ k → module_of_file m ds ≡ None
    by true k = rw k (ap (module_of (title ds) (outside_of_file ds)) (h k m) ∙ no_part (title ds) (outside_of_file ds))
    by false k = rw k refl

sound_file : (ds : List Located) → is_sound_file ds ≡ true → (is_some (module_end ds) ≡ true) × (offences_of ds ≡ [])
sound_file ds h =
    let a = and_parts (is_some (module_end ds)) (is_nothing (offences_of ds) && is_nothing (units_in (after_spot ds)).front) h in
    let b = and_parts (is_nothing (offences_of ds)) (is_nothing (units_in (after_spot ds)).front) a.1 in
    (a.0, nothing_is (offences_of ds) b.0)

pub no_sound : (x : Text) (ds : List Stand) → stands_seen x ds ≡ walk x → (offences_of (stands_seen x ds) ≡ [] → ⊥) → IsNoModule x
no_sound x ds seen h = none_by x (λ k. absurd (h (ap offences_of seen ∙ (sound_file (walk x) k).1)))

none_ends : (x : Text) (ds : List Stand) → None ≡ find is_tail_stand ds → module_end (stands_seen x ds) ≡ None
none_ends x ds e = end_found x ds None e

pub no_end : (x : Text) (ds : List Stand) → stands_seen x ds ≡ walk x → None ≡ find is_tail_stand ds → IsNoModule x
no_end x ds seen e = none_by x (λ k. absurd (wrong (sound_file (walk x) k).0))
  where
    wrong : is_some (module_end (walk x)) ≡ true → ⊥
    wrong s =
        let none : module_end (walk x) ≡ None = ap module_end (sym seen) ∙ none_ends x ds e in
        let f : false ≡ true = rw none at s in
        absurd cc

pub none_end : (x : Text) (ds : List Stand) (o : Option Stand) (b : Bool) → stands_seen x ds ≡ walk x → o ≡ find is_tail_stand ds → is_some o ≡ not b → b ≡ true → IsNoModule x
none_end x ds None b seen e f h = no_end x ds seen e
none_end x ds (Some d) b seen e f h = absurd cc

pub some_end : (x : Text) (ds : List Stand) (o : Option Stand) (b : Bool) → stands_seen x ds ≡ walk x → o ≡ find is_tail_stand ds → is_some o ≡ not b → b ≡ false → is_some (module_end (walk x)) ≡ true
some_end x ds (Some d) b seen e f h = ap is_some (ap module_end (sym seen) ∙ end_found x ds (Some d) e)
some_end x ds None b seen e f h = absurd cc

-- no tail
pub none_there : (ds : List Stand) (o : Option Stand) (b : Bool) → o ≡ find is_tail_stand ds → b ≡ is_some o → b ≡ false → None ≡ find is_tail_stand ds
none_there ds None b e f h = e
none_there ds (Some d) b e f h = absurd cc

pub no_region : (x : Text) (ds : List Stand) → stands_seen x ds ≡ walk x → None ≡ find is_region_stand ds → IsNoModule x
no_region x ds seen e =
    let none : region_of (walk x) ≡ None = ap region_of (sym seen) ∙ region_found x ds ∙ ap (option_map (located_seen x)) (sym e) in
    none_by x (λ k m. ap (translation_of m) none)

-- the translation is none
unsound_region : (ds : List Located) → (is_sound_region ds ≡ true → ⊥) → (m : Bound) → translation_in m ds ≡ None
unsound_region ds h m = by (is_sound_region ds) refl
  where
    by : (k : Bool) → is_sound_region ds ≡ k → translation_in m ds ≡ None
    by true k = absurd (h k)
    by false k = rw k refl

sound_inside : (ds : List Located) → is_sound_region ds ≡ true → (offences_of ds ≡ []) × (not (is_some (module_end ds)) ≡ true)
sound_inside ds h =
    let a = and_parts (is_nothing (offences_of ds)) (not (is_some (module_end ds)) && (are_small (tokens_in ds) && is_nothing (units_in ds).front)) h in
    let b = and_parts (not (is_some (module_end ds))) (are_small (tokens_in ds) && is_nothing (units_in ds).front) a.1 in
    (nothing_is (offences_of ds) a.0, b.0)

region_there : (x : Text) (ds : List Stand) (d : Stand) → stands_seen x ds ≡ walk x → find is_region_stand ds ≡ Some d → region_of (walk x) ≡ Some (located_seen x d)
region_there x ds d seen e = ap region_of (sym seen) ∙ region_found x ds ∙ ap (option_map (located_seen x)) e

no_translation : (x : Text) (ds : List Stand) (d : Stand) → stands_seen x ds ≡ walk x → find is_region_stand ds ≡ Some d → (is_sound_region (inside_region (located_seen x d)) ≡ true → ⊥) → IsNoModule x
no_translation x ds d seen e h = none_by x (λ k m. ap (translation_of m) (region_there x ds d seen e) ∙ unsound_region (inside_region (located_seen x d)) h m)

pub unsound_inside : (x : Text) (ds : List Stand) (d : Stand) (es : List Stand) → stands_seen x ds ≡ walk x → find is_region_stand ds ≡ Some d → stands_seen x es ≡ inside_region (located_seen x d)
    → (offences_of (stands_seen x es) ≡ [] → ⊥) → IsNoModule x
unsound_inside x ds d es seen e walked h = no_translation x ds d seen e (λ k. h (ap offences_of walked ∙ (sound_inside (inside_region (located_seen x d)) k).0))

ended_there : (x : Text) (ds : List Stand) (d : Stand) (es : List Stand) (t : Stand) → stands_seen x ds ≡ walk x → find is_region_stand ds ≡ Some d → stands_seen x es ≡ inside_region (located_seen x d)
    → Some t ≡ find is_tail_stand es → IsNoModule x
ended_there x ds d es t seen e walked f = no_translation x ds d seen e (λ k. wrong (sound_inside (inside_region (located_seen x d)) k).1)
  where
    wrong : not (is_some (module_end (inside_region (located_seen x d)))) ≡ true → ⊥
    wrong s =
        let there : module_end (inside_region (located_seen x d)) ≡ Some t.at = ap module_end (sym walked) ∙ end_found x es (Some t) f in
        let g : false ≡ true = rw there at s in
        absurd cc

pub ended_inside : (x : Text) (ds : List Stand) (d : Stand) (es : List Stand) (o : Option Stand) (b : Bool) → stands_seen x ds ≡ walk x → find is_region_stand ds ≡ Some d → stands_seen x es ≡ inside_region (located_seen x d)
    → o ≡ find is_tail_stand es → b ≡ is_some o → b ≡ true → IsNoModule x
ended_inside x ds d es (Some t) b seen e walked f g h = ended_there x ds d es t seen e walked f
ended_inside x ds d es None b seen e walked f g h = absurd cc

-- ---- whether segments are sound

pub sound_is : (x : Text) (ds : List Stand) (o : Option Offence) → o ≡ least (filter is_splitting (offences_of (stands_seen x ds))) → is_none o ≡ true → offences_of (stands_seen x ds) ≡ []
sound_is x ds None e h = sym (stands_kept x ds) ∙ none_least (filter is_splitting (offences_of (stands_seen x ds))) (sym e)
sound_is x ds (Some o) e h = absurd cc

pub sound_seen : (x : Text) (ds : List Stand) (o : Option Offence) → o ≡ least (filter is_splitting (offences_of (stands_seen x ds))) → offences_of (stands_seen x ds) ≡ [] → is_none o ≡ true
sound_seen x ds o e h = ap (λ (o : Option Offence). is_none o) (e ∙ ap (λ (os : List Offence). least (filter is_splitting os)) h)

-- ---- a translation is where its segment says

pub region_placed : (x : Text) (ds : List Stand) (d : Stand) → stands_seen x ds ≡ walk x → All (IsSolid x) ds → find is_region_stand ds ≡ Some d → IsPlaced x d
region_placed x ds d seen solid e k l =
    let one = found_one is_region_stand (IsSolid x) ds d solid e in
    let size = region_bytes x d one.0 one.1 in
    found_place x (λ d. is_region d.is) (located_seen x d) k (region_there x ds d seen e) (omega (arith, size, l)) ∙ ap (λ (u : Text). after d.place (take k u)) (region_text x d one.1)
  where
    region_text : (x : Text) (d : Stand) → is_region_stand d ≡ true → bytes (segment_seen x d) ≡ stretch x d.at (d.at + d.len)
    region_text x d r = by d.shape r
      where
        by : (s : Shape) → is_region_stand (record { at = d.at; len = d.len; place = d.place; shape = s }) ≡ true → bytes (segment_of s (stretch x d.at (d.at + d.len))) ≡ stretch x d.at (d.at + d.len)
        by (shape.Region n) r = take-append-drop n (stretch x d.at (d.at + d.len))
        by shape.Free r = absurd cc
        by shape.Header r = absurd cc
        by (shape.Part c) r = absurd cc
        by shape.Mark r = absurd cc
        by shape.Inner r = absurd cc
        by shape.Tail r = absurd cc

pub region_solid : (x : Text) (ds : List Stand) (d : Stand) → All (IsSolid x) ds → find is_region_stand ds ≡ Some d → IsSolid x d
region_solid x ds d solid e = (found_one is_region_stand (IsSolid x) ds d solid e).0

pub titled : (x : Text) (ds : List Stand) (d : Stand) → stands_seen x ds ≡ walk x → All (IsSolid x) ds → find is_region_stand ds ≡ Some d → is_some (title (stands_seen x ds)) ≡ true
titled x ds d seen solid e =
    let one = found_one is_region_stand (IsSolid x) ds d solid e in
    ap (λ (es : List Located). is_some (title es)) seen ∙ region_titled x (located_seen x d) (region_there x ds d seen e) (region_seen x d ∙ one.1)

-- ---- the tokens of the parts

before_seen : (x : Text) (ds : List Stand) (d : Stand) (i : ℕ) → stands_seen x ds ≡ walk x → find is_region_stand ds ≡ Some d → i ≡ position_or_len is_region_stand ds → before_spot (walk x) ≡ stands_seen x (take i ds)
before_seen x ds d i seen e h =
    let S = stands_seen x ds in
    let some : is_some (region_of S) ≡ true = ap is_some (region_found x ds ∙ ap (option_map (located_seen x)) e) in
    ap before_spot (sym seen) ∙ rw some (before_is (λ d. is_region d.is) S ∙ ap (λ (n : ℕ). take n S) (first_region x ds ∙ sym h) ∙ take-map (located_seen x) i ds)

after_seen : (x : Text) (ds : List Stand) (d : Stand) (i : ℕ) → stands_seen x ds ≡ walk x → find is_region_stand ds ≡ Some d → i ≡ position_or_len is_region_stand ds → after_spot (walk x) ≡ stands_seen x (drop (1 + i) ds)
after_seen x ds d i seen e h =
    let S = stands_seen x ds in
    let some : is_some (region_of S) ≡ true = ap is_some (region_found x ds ∙ ap (option_map (located_seen x)) e) in
    ap after_spot (sym seen) ∙ rw some (after_is (λ d. is_region d.is) S ∙ ap (λ (n : ℕ). drop (1 + n) S) (first_region x ds ∙ sym h) ∙ drop-map (located_seen x) (1 + i) ds)

region_shape : (d : Stand) → is_region_stand d ≡ true → (n : ℕ) × (d.shape ≡ shape.Region n)
region_shape d r = by d.shape refl r
  where
    by : (s : Shape) → d.shape ≡ s → is_region_stand (record { at = d.at; len = d.len; place = d.place; shape = s }) ≡ true → (n : ℕ) × (d.shape ≡ shape.Region n)
    by (shape.Region n) k r = (n, k)
    by shape.Free k r = absurd cc
    by shape.Header k r = absurd cc
    by (shape.Part c) k r = absurd cc
    by shape.Mark k r = absurd cc
    by shape.Inner k r = absurd cc
    by shape.Tail k r = absurd cc

-- the tokens in a translation without offence are its sound parts
inside_tokens : (x : Text) (d : Stand) → is_region_stand d ≡ true → offences_of (inside_region (located_seen x d)) ≡ [] → tokens_in (inside_region (located_seen x d)) ≡ plain_tokens (inside_region (located_seen x d))
inside_tokens x d r h =
    let n = region_shape d r in
    plain_all (begun_at x d n.0) (drop (length (line_of x d n.0)) (body_of x d n.0)) [] (inside_region (located_seen x d)) [] (sym (inside_of x d n.0 n.1) ∙ sym (append-nil (inside_region (located_seen x d)))) h

pub parted : (x : Text) (ds es : List Stand) (d : Stand) (i : ℕ) (p : RegionParts) → stands_seen x ds ≡ walk x → All (IsSolid x) ds → find is_region_stand ds ≡ Some d
    → offences_of (walk x) ≡ [] → is_some (module_end (walk x)) ≡ true
    → stands_seen x es ≡ inside_region (located_seen x d) → offences_of (stands_seen x es) ≡ [] → None ≡ find is_tail_stand es
    → i ≡ position_or_len is_region_stand ds
    → title (stands_seen x ds) ≡ Some (stretch x p.title.from p.title.to)
    → tokens_seen p.before ≡ plain_tokens (stands_seen x (take i ds)) ++ []
    → tokens_seen p.inside ≡ plain_tokens (stands_seen x es) ++ []
    → tokens_seen p.after ≡ plain_tokens (stands_seen x (drop (1 + i) ds)) ++ []
    → IsParted x p
parted x ds es d i p seen solid e sound ended walked fine unended h name before inside after =
    let is = (found_one is_region_stand (IsSolid x) ds d solid e).1 in
    let fine_there : offences_of (inside_region (located_seen x d)) ≡ [] = ap offences_of (sym walked) ∙ fine in
    record {
      ended = ended;
      sound = sound;
      title = ap title (sym seen) ∙ name;
      region = located_seen x d;
      is_region = region_there x ds d seen e;
      sound_inside = fine_there;
      open_ended = ap module_end (sym walked) ∙ none_ends x es unended;
      before = before ∙ append-nil _ ∙ ap plain_tokens (sym (before_seen x ds d i seen e h)) ∙ sym (tokens_before x sound);
      inside = inside ∙ append-nil _ ∙ ap plain_tokens walked ∙ sym (inside_tokens x d is fine_there);
      after = after ∙ append-nil _ ∙ ap plain_tokens (sym (after_seen x ds d i seen e h)) ∙ sym (tokens_after x sound);
    }
