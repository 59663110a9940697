-- The module that is read of a text is the module that the text is.
use Rattle.std.proofs.Common.{◌≡◌, Bool, true, false, not, ◌&&◌, List, [], ◌∷◌, Option, Some, None, refl, sym, ap, subst, ◌∙◌}
use Rattle.std.specs.Prelude.{is_some, if◌then◌else◌}
use Rattle.std.specs.Cmp.{booleans_Decides}
use Rattle.std.specs.List.{list_any}
use Rattle.std.proofs.lemmas.Bool.{and_parts, and_from, ltb-true, lt-ltb}
use Rattle.std.proofs.lemmas.Option.{none-some, same_Some}
use Rattle.tla_token.specs.Lexemes.{Kind, number}
use Rattle.tla_token.specs.Limits.{past_numbers}
use Rattle.tla_token.specs.Tokens as text
use Rattle.tla_tree.specs.Lexical.{Token}
use Rattle.tla_tree.specs.laws.Writable.{IsSmall, AreSmall}
use Rattle.tla_value.specs.Outside.{Outside}
use Rattle.module_tree.specs.Module.{RegionUnit, units_of, Region, Module}
use Rattle.module_tree.specs.TextFront.{Text}
use Rattle.module_tree.specs.Walk.{Located, walk}
use Rattle.module_tree.specs.FileParts.{title, module_end, region_of, after_spot, inside_region}
use Rattle.module_tree.specs.FileUnits.{tokens_in, units_in}
use Rattle.module_tree.specs.FileOffences.{offences_of}
use Rattle.module_tree.specs.Units.{IsUnit}
use Rattle.module_tree.specs.Ways.{is_terminating}
use Rattle.module_tree.specs.Reading.{AllAre, AreModule, Reads}
use Rattle.module_tree.specs.laws.Outsides.{HasOutside}
use Rattle.module_tree.proofs.SomeOutside.{one_outside_of}
use Rattle.outside_reading.proofs.OutsideFound.{found_outside}
use Rattle.region_reading.specs.Bound.{unbounded}
use Rattle.region_reading.specs.UnitReader.{unit_in}
use Rattle.region_reading.specs.ModuleReader.{is_nothing, is_small, are_small, one_unit_more, units_are, region_of_units, is_sound_region, translation_in, translation_of, is_sound_file, terminates_alike, module_if, module_of, outside_of_file, module_of_file, module_in}
use Rattle.region_reading.proofs.UnitsRead.{unit_ok, unit_read}
use Rattle.region_reading.proofs.RegionsRead.{region_ok, region_read}

-- ---- tests

nothing_is : {A : Type 0} (xs : List A) → is_nothing xs ≡ true → xs ≡ []
nothing_is [] h = refl
nothing_is (x ∷ xs) h = absurd cc

none_is : {A : Type 0} (o : Option A) → not (is_some o) ≡ true → o ≡ None
none_is (Some x) h = absurd cc
none_is None h = refl

small_is : (k : Kind) → is_small k ≡ true → IsSmall k
small_is (number n) h = ltb-true n past_numbers h
small_is k h = tt

is_small_from : (k : Kind) → IsSmall k → is_small k ≡ true
is_small_from (number n) h = lt-ltb n past_numbers h
is_small_from k h = refl

small_are : (ts : List text.Token) → are_small ts ≡ true → AreSmall ts
small_are [] h = tt
small_are (t ∷ ts) h = (let w = and_parts (is_small t.kind) (are_small ts) h in (small_is t.kind w.0, small_are ts w.1))

are_small_from : (ts : List text.Token) → AreSmall ts → are_small ts ≡ true
are_small_from [] h = refl
are_small_from (t ∷ ts) h = and_from (is_small t.kind) (are_small ts) (is_small_from t.kind h.0) (are_small_from ts h.1)

-- ---- all units

units_ok : (tss : List (List Token)) (us : List RegionUnit) → units_are unbounded tss ≡ Some us → AllAre IsUnit tss us
units_ok [] us h = subst (λ (us : List RegionUnit). AllAre IsUnit [] us) (same_Some [] us h) tt
units_ok (ts ∷ tss) us h = by (unit_in ts) refl (units_are unbounded tss) refl h (units_ok tss)
  where
    by : (o : Option RegionUnit) → unit_in ts ≡ o → (n : Option (List RegionUnit)) → units_are unbounded tss ≡ n → one_unit_more o n ≡ Some us
        → ((us : List RegionUnit) → units_are unbounded tss ≡ Some us → AllAre IsUnit tss us) → AllAre IsUnit (ts ∷ tss) us
    by (Some u) e (Some vs) f h more = subst (λ (us : List RegionUnit). AllAre IsUnit (ts ∷ tss) us) (same_Some (u ∷ vs) us h) (unit_ok ts u e, more vs f)
    by (Some u) e None f h more = absurd (none-some us h)
    by None e n f h more = absurd (none-some us h)

units_read : (tss : List (List Token)) (us : List RegionUnit) → AllAre IsUnit tss us → units_are unbounded tss ≡ Some us
units_read [] [] h = refl
units_read [] (u ∷ us) h = absurd h
units_read (ts ∷ tss) [] h = absurd h
units_read (ts ∷ tss) (u ∷ us) h = λ i. one_unit_more (unit_read ts u h.0 i) (units_read tss us h.1 i)

-- ---- the translation

-- the parts of a region that is sound
pub record SoundRegion (ds : List Located) : Type 0 where
  pub sound : offences_of ds ≡ []
  pub open_ended : module_end ds ≡ None
  pub small : AreSmall (tokens_in ds)
  pub no_front : (units_in ds).front ≡ []

sound_region : (ds : List Located) → is_sound_region ds ≡ true → SoundRegion ds
sound_region ds h =
    let a = and_parts (is_nothing (offences_of ds)) (not (is_some (module_end ds)) && (are_small (tokens_in ds) && is_nothing (units_in ds).front)) h in
    let b = and_parts (not (is_some (module_end ds))) (are_small (tokens_in ds) && is_nothing (units_in ds).front) a.1 in
    let c = and_parts (are_small (tokens_in ds)) (is_nothing (units_in ds).front) b.1 in
    record { sound = nothing_is (offences_of ds) a.0; open_ended = none_is (module_end ds) b.0; small = small_are (tokens_in ds) c.0; no_front = nothing_is (units_in ds).front c.1 }

is_sound_from : (ds : List Located) → SoundRegion ds → is_sound_region ds ≡ true
is_sound_from ds h = and_from (is_nothing (offences_of ds)) (not (is_some (module_end ds)) && (are_small (tokens_in ds) && is_nothing (units_in ds).front)) (ap is_nothing h.sound)
    (and_from (not (is_some (module_end ds))) (are_small (tokens_in ds) && is_nothing (units_in ds).front) (ap (λ o. not (is_some o)) h.open_ended)
    (and_from (are_small (tokens_in ds)) (is_nothing (units_in ds).front) (are_small_from (tokens_in ds) h.small) (ap is_nothing h.no_front)))

-- what is read of it
record Translated (ds : List Located) (r : Region) : Type 0 where
  is_sound : SoundRegion ds
  units : AllAre IsUnit (units_in ds).units (units_of r)

region_of_ok : (o : Option (List RegionUnit)) (r : Region) → region_of_units o ≡ Some r → o ≡ Some (units_of r)
region_of_ok (Some us) r h = ap Some (sym (region_ok us r h))
region_of_ok None r h = absurd (none-some r h)

translation_ok : (ds : List Located) (r : Region) → translation_in unbounded ds ≡ Some r → Translated ds r
translation_ok ds r h = by (is_sound_region ds) refl h
  where
    by : (b : Bool) → is_sound_region ds ≡ b → (if b then region_of_units (units_are unbounded (units_in ds).units) else None) ≡ Some r → Translated ds r
    by true s h = record { is_sound = sound_region ds s; units = units_ok (units_in ds).units (units_of r) (region_of_ok (units_are unbounded (units_in ds).units) r h) }
    by false s h = absurd (none-some r h)

translation_read : (ds : List Located) (r : Region) → Translated ds r → translation_in unbounded ds ≡ Some r
translation_read ds r h =
    ap (λ (b : Bool). if b then region_of_units (units_are unbounded (units_in ds).units) else None) (is_sound_from ds h.is_sound)
    ∙ ap region_of_units (units_read (units_in ds).units (units_of r) h.units) ∙ region_read r

-- ---- the module

-- where there is a region, its translation
found_in : (o : Option Located) (r : Region) → translation_of unbounded o ≡ Some r → (d : Located) × (o ≡ Some d) × Translated (inside_region d) r
found_in (Some d) r h = (d, refl, translation_ok (inside_region d) r h)
found_in None r h = absurd (none-some r h)

-- the parts of a module that is read
record Parts (ds : List Located) (m : Module) : Type 0 where
  title : title ds ≡ Some m.title
  outside : outside_of_file ds ≡ m.outside
  region : translation_of unbounded (region_of ds) ≡ Some m.region
  terminating : terminates_alike m.region ≡ true

module_if_ok : (b : Bool) (t : Text) (o : Outside) (r : Region) (m : Module) → module_if b t o r ≡ Some m → (b ≡ true) × (t ≡ m.title) × (o ≡ m.outside) × (r ≡ m.region)
module_if_ok true t o r m h =
    let e : record { title = t; outside = o; region = r } ≡ m = same_Some (record { title = t; outside = o; region = r }) m h in
    (refl, ap (λ (m : Module). m.title) e, ap (λ (m : Module). m.outside) e, ap (λ (m : Module). m.region) e)
module_if_ok false t o r m h = absurd (none-some m h)

module_parts : (ds : List Located) (m : Module) → module_of (title ds) (outside_of_file ds) (translation_of unbounded (region_of ds)) ≡ Some m → Parts ds m
module_parts ds m h = by (title ds) refl (translation_of unbounded (region_of ds)) refl h
  where
    by : (t : Option Text) → title ds ≡ t → (r : Option Region) → translation_of unbounded (region_of ds) ≡ r → module_of t (outside_of_file ds) r ≡ Some m → Parts ds m
    by (Some t) e (Some r) f h =
        let w = module_if_ok (terminates_alike r) t (outside_of_file ds) r m h in
        record { title = e ∙ ap Some w.1; outside = w.2; region = f ∙ ap Some w.3; terminating = ap terminates_alike (sym w.3) ∙ w.0 }
    by (Some t) e None f h = absurd (none-some m h)
    by None e r f h = absurd (none-some m h)

has_outside : (ds : List Located) (m : Module) → AreModule ds m → HasOutside ds m.outside
has_outside ds m h = record { before = h.before; are_before = h.are_before; after = h.after; are_after = h.are_after; is = h.outside }

pub file_ok : (ds : List Located) (m : Module) → module_of_file unbounded ds ≡ Some m → AreModule ds m
file_ok ds m h = by (is_sound_file ds) refl h
  where
    made : is_sound_file ds ≡ true → Parts ds m → AreModule ds m
    made s p =
        let a = and_parts (is_some (module_end ds)) (is_nothing (offences_of ds) && is_nothing (units_in (after_spot ds)).front) s in
        let b = and_parts (is_nothing (offences_of ds)) (is_nothing (units_in (after_spot ds)).front) a.1 in
        let f = found_in (region_of ds) m.region p.region in
        let t = f.2 in
        let o : HasOutside ds m.outside = subst (λ (o : Outside). HasOutside ds o) p.outside (found_outside ds) in
        record {
          title = p.title;
          ended = a.0;
          sound = nothing_is (offences_of ds) b.0;
          before = o.before;
          are_before = o.are_before;
          region = f.0;
          is_region = f.1;
          reads_region = record { sound = t.is_sound.sound; open_ended = t.is_sound.open_ended; small = t.is_sound.small; no_front = t.is_sound.no_front; units = t.units };
          none_before_after = nothing_is (units_in (after_spot ds)).front b.1;
          after = o.after;
          are_after = o.are_after;
          outside = o.is;
          terminating = (booleans_Decides (is_some m.region.ended) (list_any is_terminating m.region.next)).0 p.terminating;
        }

    by : (b : Bool) → is_sound_file ds ≡ b → (if b then module_of (title ds) (outside_of_file ds) (translation_of unbounded (region_of ds)) else None) ≡ Some m → AreModule ds m
    by true s h = made s (module_parts ds m h)
    by false s h = absurd (none-some m h)

pub file_read : (ds : List Located) (m : Module) → AreModule ds m → module_of_file unbounded ds ≡ Some m
file_read ds m h =
    let s : is_sound_file ds ≡ true = and_from (is_some (module_end ds)) (is_nothing (offences_of ds) && is_nothing (units_in (after_spot ds)).front) h.ended
    (and_from (is_nothing (offences_of ds)) (is_nothing (units_in (after_spot ds)).front) (ap is_nothing h.sound) (ap is_nothing h.none_before_after)) in
    let g = h.reads_region in
    let t : Translated (inside_region h.region) m.region =
    record { is_sound = record { sound = g.sound; open_ended = g.open_ended; small = g.small; no_front = g.no_front }; units = g.units } in
    let region : translation_of unbounded (region_of ds) ≡ Some m.region = ap (translation_of unbounded) h.is_region ∙ translation_read (inside_region h.region) m.region t in
    let outside : outside_of_file ds ≡ m.outside = one_outside_of ds (outside_of_file ds) m.outside (found_outside ds) (has_outside ds m h) in
    let alike : terminates_alike m.region ≡ true = (booleans_Decides (is_some m.region.ended) (list_any is_terminating m.region.next)).1 h.terminating in
    ap (λ (b : Bool). if b then module_of (title ds) (outside_of_file ds) (translation_of unbounded (region_of ds)) else None) s
    ∙ (λ i. module_of (h.title i) (outside i) (region i)) ∙ ap (λ (b : Bool). module_if b m.title m.outside m.region) alike

pub module_ok : (w : Text) (m : Module) → module_in w ≡ Some m → Reads w m
module_ok w m h = file_ok (walk w) m h

pub module_read : (w : Text) (m : Module) → Reads w m → module_in w ≡ Some m
module_read w m h = file_read (walk w) m h
