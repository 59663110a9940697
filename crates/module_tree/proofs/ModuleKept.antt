-- A file that is not refused is a module with each translation: it keeps its title, and its units are read as they were.
use Rattle.std.proofs.Common.{◌≡◌, ◌⊎◌, inl, inr, ℕ, Bool, true, false, ◌&&◌, nat_eq, List, [], ◌∷◌, ◌++◌, Option, Some, None, refl, sym, ap, subst, ◌∙◌}
use Rattle.std.specs.Prelude.{if◌then◌else◌, is_some}
use Rattle.std.specs.List.{list_any}
use Rattle.std.proofs.lemmas.Bool.{eqb-true, both_ways}
use Rattle.std.proofs.lemmas.Option.{none-some, same_Some}
use Rattle.tla_token.specs.declared.rule.Rule.TheVariants.{Placement}
use Rattle.tla_token.specs.Tokens as text
use Rattle.tla_token.specs.Offences.{Offence}
use Rattle.tla_tree.specs.Tree.{Word}
use Rattle.tla_tree.specs.Lexical.{Token}
use Rattle.tla_tree.specs.TokenViews.{view, views}
use Rattle.tla_tree.specs.FirstStop.{looks}
use Rattle.tla_value.specs.Outside.{Outside}
use Rattle.module_tree.specs.Module.{Module, OutsideUnit, outside_of}
use Rattle.module_tree.specs.TextFront.{Text, whole_line}
use Rattle.module_tree.specs.HeaderAndRegion.{header_title, is_header, is_begin, is_end}
use Rattle.module_tree.specs.Beginnings.{ends_module}
use Rattle.module_tree.specs.Walk.{Segment, free, header, bytes, opened, at_end_line, in_module, segment_at, is_header_line, State, Located, walk, at_start}
use Rattle.module_tree.specs.FileParts.{first_that, before_first, after_first, title, before_spot, after_spot}
use Rattle.module_tree.specs.FileUnits.{token_in, tokens_in, begins_unit, units_in}
use Rattle.module_tree.specs.FileOffences.{no_unit}
use Rattle.module_tree.specs.Outside.{Sight, AllOutside}
use Rattle.module_tree.specs.Reading.{sight_in, ReadsRegion}
use Rattle.module_tree.specs.Ways.{is_terminating}
use Rattle.module_tree.specs.laws.Walks.{after_all, made, located}
use Rattle.module_tree.specs.laws.Kept.{IsFine, KeepsFile}
use Rattle.module_tree.specs.laws.Outsides.{HasOutside, AllAlike, SameOutside, IsModuleOf}
use Rattle.module_tree.proofs.WalkLines.{header_title_alike}
use Rattle.module_tree.proofs.WalkPlace.{both_empty, before_whole, headed_title, met}
use Rattle.module_tree.proofs.WalkKept.{all_fine_in, HasPlace, has_place}
use Rattle.module_tree.proofs.WalkSame.{first_kept}
use Rattle.module_tree.proofs.OutsideAlike.{same_views, same_front, same_units, units_there, alike_after, same_outside}

-- ---- the title

-- a line without its end, or one with it
abbrev pub Lined : Text → Type 0
Lined s = ((l : Text) × (p : Text) × (s ≡ l ++ 10 ∷ p) × (whole_line s ≡ l ++ 10 ∷ [])) ⊎ (whole_line s ≡ s)

pub lined : (s : Text) → Lined s
lined [] = inr refl
lined (b ∷ s) = by (nat_eq b 10) refl (lined s)
  where
    by : (k : Bool) → nat_eq b 10 ≡ k → Lined s → Lined (b ∷ s)
    by true k h = (let e = eqb-true b 10 k in inl ([], s, ap (λ (b : ℕ). b ∷ s) e, rw k (ap (λ (b : ℕ). b ∷ []) e)))
    by false k (inl (l, p, e, f)) = inl (b ∷ l, p, ap (λ (u : Text). b ∷ u) e, rw k (ap (λ (u : Text). b ∷ u) f))
    by false k (inr f) = inr (rw k (ap (λ (u : Text). b ∷ u) f))

header_whole : (s : Text) → is_header s ≡ true → is_header (whole_line s) ≡ true
header_whole s h = by (lined s)
  where
    by : Lined s → is_header (whole_line s) ≡ true
    by (inl (l, p, e, f)) = ap is_header f ∙ ap (λ (o : Option Text). is_some o) (header_title_alike [] p l) ∙ ap is_header (sym e) ∙ h
    by (inr f) = ap is_header f ∙ h

no_header_opened : (o : Option (Text × Text)) (s : Text) → is_header_line (opened o s) ≡ false
no_header_opened None s = refl
no_header_opened (Some (v, w)) s = refl

no_header_in : (marked first : Bool) (b : ℕ) (s : Text) → is_header_line (in_module marked first b s) ≡ false
no_header_in marked first b s = by (first && is_begin (b ∷ s)) refl (first && is_end (b ∷ s)) refl (first && is_header (b ∷ s)) refl (ends_module (b ∷ s)) refl
  where
    by : (i : Bool) → (first && is_begin (b ∷ s)) ≡ i → (j : Bool) → (first && is_end (b ∷ s)) ≡ j → (k : Bool) → (first && is_header (b ∷ s)) ≡ k → (l : Bool) → ends_module (b ∷ s) ≡ l
        → is_header_line (in_module marked first b s) ≡ false
    by true i j jj k kk l ll = rw i (no_header_opened (if marked then None else at_end_line false (b ∷ s)) (b ∷ s))
    by false i true j k kk l ll = rw (i, j) refl
    by false i false j true k l ll = rw (i, j, k) refl
    by false i false j false k true l = rw (i, j, k, l) refl
    by false i false j false k false l = rw (i, j, k, l) refl

header_found : (st : State) (b : ℕ) (s : Text) → is_header_line (segment_at st b s) ≡ true → is_some (header_title (bytes (segment_at st b s))) ≡ true
header_found st b s e = by st.headed refl (is_header (b ∷ s)) refl
  where
    by : (h : Bool) → st.headed ≡ h → (k : Bool) → is_header (b ∷ s) ≡ k → is_some (header_title (bytes (segment_at st b s))) ≡ true
    by true h k kk =
        let is : segment_at st b s ≡ in_module st.marked (nat_eq st.place.col 1) b s = rw h refl in
        absurd (both_ways (is_header_line (segment_at st b s)) (ap is_header_line is ∙ no_header_in st.marked (nat_eq st.place.col 1) b s) e)
    by false h true k =
        let is : segment_at st b s ≡ header (whole_line (b ∷ s)) = rw (h, k) refl in
        ap (λ (g : Segment). is_some (header_title (bytes g))) is ∙ header_whole (b ∷ s) k
    by false h false k =
        let is : segment_at st b s ≡ free (whole_line (b ∷ s)) = rw (h, k) refl in
        absurd (both_ways (is_header_line (segment_at st b s)) (ap is_header_line is) e)

pub found_so : (q : Segment → Bool) (ds : List Located) (d : Located) → first_that q ds ≡ Some d → q d.is ≡ true
found_so q [] d e = absurd (none-some d e)
found_so q (c ∷ ds) d e = by (q c.is) refl (found_so q ds d)
  where
    by : (k : Bool) → q c.is ≡ k → (first_that q ds ≡ Some d → q d.is ≡ true) → q d.is ≡ true
    by true k deeper = (let f : c ≡ d = same_Some c d (rw k at e) in ap (λ (d : Located). q d.is) (sym f) ∙ k)
    by false k deeper = (let f : first_that q ds ≡ Some d = rw k at e in deeper f)

-- the header has a name
pub named : (x : Text) (d : Located) → first_that is_header_line (walk x) ≡ Some d → is_some (header_title (bytes d.is)) ≡ true
named x d f =
    let is_line : Located → Bool = λ d. is_header_line d.is in
    let m = met (before_first is_line (walk x)) d (after_first is_line (walk x)) at_start x (before_whole is_line (walk x) d f) in
    let g = segment_at (after_all at_start (before_first is_line (walk x))) m.b m.s in
    let same : g ≡ d.is = ap (λ (d : Located). d.is) m.is in
    let yes : is_header_line g ≡ true = ap is_header_line same ∙ found_so is_header_line (walk x) d f in
    ap (λ (g : Segment). is_some (header_title (bytes g))) (sym same) ∙ header_found (after_all at_start (before_first is_line (walk x))) m.b m.s yes

some_title : (x : Text) → HasPlace x → (n : Word) × (title (walk x) ≡ Some n)
some_title x h = on (first_that is_header_line (walk x)) refl
  where
    there : is_some (first_that is_header_line (walk x)) ≡ true
    there =
        let has = headed_title at_start h.front refl h.opened.0 in
        ap (λ (ds : List Located). is_some (first_that is_header_line ds)) h.whole ∙ ap (λ (o : Option Located). is_some o) (first_kept is_header_line h.front h.rest has) ∙ has

    told : (d : Located) → first_that is_header_line (walk x) ≡ Some d → (o : Option Word) → header_title (bytes d.is) ≡ o → (n : Word) × (title (walk x) ≡ Some n)
    told d f (Some n) o = (n, rw f o)
    told d f None o = (let g = named x d f in let e : false ≡ true = rw o at g in absurd cc)

    on : (o : Option Located) → first_that is_header_line (walk x) ≡ o → (n : Word) × (title (walk x) ≡ Some n)
    on None f = (let e : false ≡ true = rw f at there in absurd cc)
    on (Some d) f = told d f (header_title (bytes d.is)) refl

-- ---- the first token after the place of a translation

begun : (ds : List Located) → no_unit ds ≡ [] → (units_in ds).front ≡ []
begun [] e = refl
begun (d ∷ ds) e = by (token_in d) refl (begun ds)
  where
    by : (o : Option text.Token) → token_in d ≡ o → (no_unit ds ≡ [] → (units_in ds).front ≡ []) → (units_in (d ∷ ds)).front ≡ []
    by None o deeper = (let f : no_unit ds ≡ [] = rw o at e in rw o (deeper f))
    by (Some t) o deeper = on (begins_unit (view t)) refl
      where
        on : (k : Bool) → begins_unit (view t) ≡ k → (units_in (d ∷ ds)).front ≡ []
        on true k = rw (o, k) refl
        on false k = (let f : ◌≡◌ {A = List Offence} ((Placement, d.at) ∷ []) [] = rw (o, k) at e in absurd cc)

pub no_front_in : (x : Text) → IsFine x → (units_in (after_spot (walk x))).front ≡ []
no_front_in x f = begun (after_spot (walk x)) (both_empty _ (no_unit (after_spot (walk x))) (all_fine_in x f).parts.placed).1

pub no_looks : (ts : List Token) → looks ts ≡ [] → ts ≡ []
no_looks [] e = refl
no_looks (t ∷ ts) e = absurd cc

-- ---- the units of the file with a translation

module _ (x t w : Text) (o : Outside) (k : KeepsFile x t w) (h : HasOutside (walk x) o) where
  abbrev tokens_there : List Located → List Token
  tokens_there ds = views (tokens_in ds)

  same_after : looks (tokens_there (after_spot (walk x))) ≡ looks (tokens_there (after_spot (walk w)))
  same_after = same_views (tokens_in (after_spot (walk x))) (tokens_in (after_spot (walk w))) (sym k.after)

  abbrev Kept : Type 0
  Kept = (q : Outside) × (there : HasOutside (walk w) q) × (there.before ≡ h.before) × AllAlike h.after there.after

  outside_there : Kept
  outside_there =
      let units = units_there (sight_in o) (sight_in o) (units_in (after_spot (walk x))).units (units_in (after_spot (walk w))).units
      (same_units (tokens_there (after_spot (walk x))) (tokens_there (after_spot (walk w))) same_after) h.after h.are_after in
      let q = outside_of (h.before ++ units.0) in
      let same = same_outside (h.before ++ h.after) (h.before ++ units.0) (alike_after h.before h.after units.0 units.2) in
      let seen : sight_in o ≡ sight_in q = ap sight_in h.is ∙ (λ i. record { modules = same.extended i; constants = same.constants i; earlier = [] }) in
      let before : AllOutside true (sight_in q) (units_in (before_spot (walk w))).units h.before =
      subst (λ (ds : List Located). AllOutside true (sight_in q) (units_in ds).units h.before) (sym k.before)
      (subst (λ (v : Sight). AllOutside true v (units_in (before_spot (walk x))).units h.before) seen h.are_before) in
      let after : AllOutside false (sight_in q) (units_in (after_spot (walk w))).units units.0 =
      subst (λ (v : Sight). AllOutside false v (units_in (after_spot (walk w))).units units.0) seen units.1 in (
        q,
        record { before = h.before; are_before = before; after = units.0; are_after = after; is = refl },
        refl,
        units.2,
      )

pub outside_kept : (x t w : Text) (o : Outside) → KeepsFile x t w → (h : HasOutside (walk x) o)
    → (q : Outside) × (there : HasOutside (walk w) q) × (there.before ≡ h.before) × AllAlike h.after there.after
outside_kept x t w o k h = outside_there x t w o k h

same_of : (x w : Text) (o q : Outside) (h : HasOutside (walk x) o) (k : HasOutside (walk w) q) → k.before ≡ h.before → AllAlike h.after k.after → SameOutside o q
same_of x w o q h k e a =
    let there : SameOutside (outside_of (h.before ++ h.after)) (outside_of (h.before ++ k.after)) = same_outside (h.before ++ h.after) (h.before ++ k.after) (alike_after h.before h.after k.after a) in
    let is : outside_of (h.before ++ k.after) ≡ q = ap (λ (us : List OutsideUnit). outside_of (us ++ k.after)) (sym e) ∙ sym k.is in
    subst (λ (o : Outside). SameOutside o q) (sym h.is) (subst (λ (q : Outside). SameOutside (outside_of (h.before ++ h.after)) q) is there)

-- the same region in a module with another title and other units outside
region_there : (d : Located) (n m : Module) → n.region ≡ m.region → ReadsRegion d n → ReadsRegion d m
region_there d n m e r =
    let there : Module = record { title = m.title; outside = m.outside; region = n.region } in
    let same : there ≡ m = λ i. record { title = m.title; outside = m.outside; region = e i } in
    subst (λ (m : Module). ReadsRegion d m) same (record { sound = r.sound; open_ended = r.open_ended; small = r.small; no_front = r.no_front; units = r.units })

pub is_module : (x t w : Text) (o : Outside) (n : Module) → IsFine x → KeepsFile x t w → HasOutside (walk x) o
    → ReadsRegion (located (after_all at_start (before_spot (walk x))) (made t)) n → is_some n.region.ended ≡ list_any is_terminating n.region.next → IsModuleOf x w o n.region
is_module x t w o n f k h r terminating =
    let name = some_title x (has_place x f) in
    let there = outside_kept x t w o k h in
    let q = there.1 in
    let m : Module = record { title = name.0; outside = there.0; region = n.region } in
    let front : (units_in (after_spot (walk w))).front ≡ [] =
    no_looks (units_in (after_spot (walk w))).front
    (sym (same_front (views (tokens_in (after_spot (walk x)))) (views (tokens_in (after_spot (walk w))))
    (same_views (tokens_in (after_spot (walk x))) (tokens_in (after_spot (walk w))) (sym k.after))) ∙ ap looks (no_front_in x f)) in
    record {
      written = m;
      title = name.1;
      region = refl;
      outside = same_of x w o there.0 h q there.2 there.3;
      reads = record {
        title = k.title ∙ name.1;
        ended = k.ended;
        sound = k.sound;
        before = q.before;
        are_before = q.are_before;
        region = located (after_all at_start (before_spot (walk x))) (made t);
        is_region = k.region;
        reads_region = region_there (located (after_all at_start (before_spot (walk x))) (made t)) n m refl r;
        none_before_after = front;
        after = q.after;
        are_after = q.are_after;
        outside = q.is;
        terminating = terminating;
      };
    }
