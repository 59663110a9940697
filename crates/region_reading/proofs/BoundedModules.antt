-- Reading within a bound beside reading without: the module that a text is.
use Rattle.std.proofs.Common.{◌≡◌, ℕ, ◌≤◌, Bool, true, false, if◌then◌else◌, List, [], ◌∷◌, Option, Some, None, refl, sym, ap, subst, ◌∙◌}
use Rattle.std.specs.Prelude.{option_map}
use Rattle.std.proofs.lemmas.Option.{none-some, same_Some}
use Rattle.tla_tree.specs.Lexical.{Token}
use Rattle.tla_tree.specs.Spelling.{Phrase}
use Rattle.tla_tree.specs.Reader.{Reader}
use Rattle.tla_value.specs.Outside.{Outside}
use Rattle.module_tree.specs.Module.{RegionUnit, Region, Module}
use Rattle.module_tree.specs.TextFront.{Text}
use Rattle.module_tree.specs.Walk.{Located, walk}
use Rattle.module_tree.specs.FileParts.{title, region_of, inside_region}
use Rattle.module_tree.specs.FileUnits.{units_in}
use Rattle.module_tree.specs.Units.{UnitForm, unit_of}
use Rattle.region_reading.specs.Bound.{Bound, unbounded, bounded, ReadsWithin}
use Rattle.region_reading.specs.Opens.{unit_opens, UnitsOpen, TextOpens}
use Rattle.region_reading.specs.UnitReader.{form_within, form_in, unit_within}
use Rattle.region_reading.specs.ModuleReader.{one_unit_more, units_are, region_of_units, is_sound_region, translation_of, is_sound_file, module_of, outside_of_file, module_of_file, module_within, module_in}
use Rattle.region_reading.proofs.UnitsRead.{some_mapped}
use Rattle.region_reading.proofs.BoundedUnits.{form_same, form_fits}

-- what one gives the other gives
abbrev Gives : {A : Type 0} → Option A → Option A → Type 0
Gives {A} o q = (a : A) → o ≡ Some a → q ≡ Some a

-- ---- so it goes on from the units to the module

more_gives : (o p : Option RegionUnit) (q r : Option (List RegionUnit)) → Gives o p → Gives q r → Gives (one_unit_more o q) (one_unit_more p r)
more_gives (Some u) p (Some us) r h k a e = (λ i. one_unit_more (h u refl i) (k us refl i)) ∙ e
more_gives (Some u) p None r h k a e = absurd (none-some a e)
more_gives None p q r h k a e = absurd (none-some a e)

region_gives : (o q : Option (List RegionUnit)) → Gives o q → Gives (region_of_units o) (region_of_units q)
region_gives (Some us) q h a e = ap region_of_units (h us refl) ∙ e
region_gives None q h a e = absurd (none-some a e)

module_gives : (t : Option Text) (o : Outside) (q r : Option Region) → Gives q r → Gives (module_of t o q) (module_of t o r)
module_gives (Some t) o (Some g) r h a e = ap (module_of (Some t) o) (h g refl) ∙ e
module_gives (Some t) o None r h a e = absurd (none-some a e)
module_gives None o q r h a e = absurd (none-some a e)

if_gives : {A : Type 0} (b : Bool) (o q : Option A) → Gives o q → Gives (if b then o else None) (if b then q else None)
if_gives true o q h = h
if_gives false o q h = λ a e. e

module _ (m n : Bound) where
  -- what m gives of each of these units n gives
  abbrev Carried : List (List Token) → Type 0
  Carried [] = Unit {0}
  Carried (ts ∷ tss) = Gives (unit_within m ts) (unit_within n ts) × Carried tss

  units_give : (tss : List (List Token)) → Carried tss → Gives (units_are m tss) (units_are n tss)
  units_give [] h = λ a e. e
  units_give (ts ∷ tss) h = more_gives (unit_within m ts) (unit_within n ts) (units_are m tss) (units_are n tss) h.0 (units_give tss h.1)

  translation_gives : (o : Option Located) → ((d : Located) → o ≡ Some d → Carried (units_in (inside_region d)).units) → Gives (translation_of m o) (translation_of n o)
  translation_gives (Some d) h =
      let tss = (units_in (inside_region d)).units in
      if_gives (is_sound_region (inside_region d)) (region_of_units (units_are m tss)) (region_of_units (units_are n tss)) (region_gives (units_are m tss) (units_are n tss) (units_give tss (h d refl)))
  translation_gives None h = λ a e. absurd (none-some a e)

  file_gives : (ds : List Located) → ((d : Located) → region_of ds ≡ Some d → Carried (units_in (inside_region d)).units) → Gives (module_of_file m ds) (module_of_file n ds)
  file_gives ds h =
      let q = translation_of m (region_of ds) in
      let r = translation_of n (region_of ds) in
      if_gives (is_sound_file ds) (module_of (title ds) (outside_of_file ds) q) (module_of (title ds) (outside_of_file ds) r) (module_gives (title ds) (outside_of_file ds) q r (translation_gives (region_of ds) h))

-- ---- the parts of a module that is given

if_some : {A : Type 0} (b : Bool) (o : Option A) (a : A) → (if b then o else None) ≡ Some a → o ≡ Some a
if_some true o a h = h
if_some false o a h = absurd (none-some a h)

region_there : (t : Option Text) (o : Outside) (q : Option Region) (m : Module) → module_of t o q ≡ Some m → (r : Region) × (q ≡ Some r)
region_there (Some t) o (Some r) m h = (r, refl)
region_there (Some t) o None m h = absurd (none-some m h)
region_there None o q m h = absurd (none-some m h)

units_there : (o : Option (List RegionUnit)) (r : Region) → region_of_units o ≡ Some r → (us : List RegionUnit) × (o ≡ Some us)
units_there (Some us) r h = (us, refl)
units_there None r h = absurd (none-some r h)

both_there : (o : Option RegionUnit) (q : Option (List RegionUnit)) (us : List RegionUnit) → one_unit_more o q ≡ Some us → ((u : RegionUnit) × (o ≡ Some u)) × ((vs : List RegionUnit) × (q ≡ Some vs))
both_there (Some u) (Some vs) us h = ((u, refl), (vs, refl))
both_there (Some u) None us h = absurd (none-some us h)
both_there None q us h = absurd (none-some us h)

-- ---- a bound on each unit

module _ (x : ℕ → ℕ → Reader Phrase) (bare : Phrase → ℕ) (w : ReadsWithin x bare) (l : ℕ) where
  unit_same : (ts : List Token) → Gives (unit_within (bounded x l) ts) (unit_within unbounded ts)
  unit_same ts u e =
      let m = some_mapped unit_of (form_within (bounded x l) ts) u e in
      ap (option_map unit_of) (form_same x bare w l ts m.0 m.1).0 ∙ ap Some m.2

  unit_fits : (ts : List Token) → ((f : UnitForm) → form_in ts ≡ Some f → unit_opens bare f ≤ l) → Gives (unit_within unbounded ts) (unit_within (bounded x l) ts)
  unit_fits ts h u e =
      let m = some_mapped unit_of (form_in ts) u e in
      ap (option_map unit_of) (form_fits x bare w l ts m.0 m.1 (h m.0 m.1)) ∙ ap Some m.2

  units_same : (tss : List (List Token)) → Carried (bounded x l) unbounded tss
  units_same [] = tt
  units_same (ts ∷ tss) = (unit_same ts, units_same tss)

  units_fit : (tss : List (List Token)) → UnitsOpen bare l tss → Carried unbounded (bounded x l) tss
  units_fit [] h = tt
  units_fit (ts ∷ tss) h = (unit_fits ts h.0, units_fit tss h.1)

  unit_opens_so : (ts : List Token) (u : RegionUnit) → unit_within (bounded x l) ts ≡ Some u → (f : UnitForm) → form_in ts ≡ Some f → unit_opens bare f ≤ l
  unit_opens_so ts u e f h =
      let m = some_mapped unit_of (form_within (bounded x l) ts) u e in
      let v = form_same x bare w l ts m.0 m.1 in
      subst (λ (g : UnitForm). unit_opens bare g ≤ l) (same_Some m.0 f (sym v.0 ∙ h)) v.1

  units_open_so : (tss : List (List Token)) (us : List RegionUnit) → units_are (bounded x l) tss ≡ Some us → UnitsOpen bare l tss
  units_open_so [] us h = tt
  units_open_so (ts ∷ tss) us h =
      let v = both_there (unit_within (bounded x l) ts) (units_are (bounded x l) tss) us h in
      (unit_opens_so ts v.0.0 v.0.1, units_open_so tss v.1.0 v.1.1)

  translation_opens : (o : Option Located) (r : Region) → translation_of (bounded x l) o ≡ Some r → (d : Located) → o ≡ Some d → UnitsOpen bare l (units_in (inside_region d)).units
  translation_opens o r h d e =
      let tss = (units_in (inside_region d)).units in
      let i = if_some (is_sound_region (inside_region d)) (region_of_units (units_are (bounded x l) tss)) r (ap (translation_of (bounded x l)) (sym e) ∙ h) in
      let v = units_there (units_are (bounded x l) tss) r i in
      units_open_so tss v.0 v.1

  -- the module that is read within a bound is the module that is read without
  pub module_same : (t : Text) (m : Module) → module_within (bounded x l) t ≡ Some m → module_in t ≡ Some m
  module_same t m e = file_gives (bounded x l) unbounded (walk t) (λ d i. units_same (units_in (inside_region d)).units) m e

  -- and no unit of its translation opens more
  pub module_opens : (t : Text) (m : Module) → module_within (bounded x l) t ≡ Some m → TextOpens bare l t
  module_opens t m e =
      let ds = walk t in
      let q = translation_of (bounded x l) (region_of ds) in
      let v = region_there (title ds) (outside_of_file ds) q m (if_some (is_sound_file ds) (module_of (title ds) (outside_of_file ds) q) m e) in
      translation_opens (region_of ds) v.0 v.1

  -- each module whose units open no more is read
  pub module_fits : (t : Text) → TextOpens bare l t → (m : Module) → module_in t ≡ Some m → module_within (bounded x l) t ≡ Some m
  module_fits t h m e = file_gives unbounded (bounded x l) (walk t) (λ d i. units_fit (units_in (inside_region d)).units (h d i)) m e
