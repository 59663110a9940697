-- Which module a text is, as a function of the text: its title, the units of its translation, and what is outside ("Specifying Systems", chapter 17).
use Rattle.std.specs.Prelude.{nat_lt, Bool, true, false, not, ◌&&◌, List, [], ◌∷◌, Option, Some, None, is_some, if◌then◌else◌}
use Rattle.std.specs.Bool.{beq}
use Rattle.std.specs.List.{list_any}
use Rattle.tla_token.specs.Lexemes.{Kind, number}
use Rattle.tla_token.specs.Limits.{past_numbers}
use Rattle.tla_token.specs.Tokens as text
use Rattle.tla_tree.specs.Lexical.{Token}
use Rattle.tla_value.specs.Outside.{Outside}
use Rattle.module_tree.specs.Module.{RegionUnit, Region, Module}
use Rattle.module_tree.specs.TextFront.{Text}
use Rattle.module_tree.specs.Walk.{Located, walk}
use Rattle.module_tree.specs.FileParts.{title, module_end, region_of, before_spot, after_spot, inside_region}
use Rattle.module_tree.specs.FileUnits.{tokens_in, units_in}
use Rattle.module_tree.specs.FileOffences.{offences_of}
use Rattle.module_tree.specs.Ways.{is_terminating}
use Rattle.outside_reading.specs.PlainUnits.{outside_in}
use Rattle.region_reading.specs.Bound.{Bound, unbounded}
use Rattle.region_reading.specs.UnitReader.{unit_within}
use Rattle.region_reading.specs.RegionReader.{region_in}

abbrev pub is_nothing : {A : Type 0} → List A → Bool
is_nothing [] = true
is_nothing (x ∷ xs) = false

-- ---- the translation

-- no number is too large
abbrev pub is_small : Kind → Bool
is_small (number n) = nat_lt n past_numbers
is_small k = true

abbrev pub are_small : List text.Token → Bool
are_small [] = true
are_small (t ∷ ts) = is_small t.kind && are_small ts

abbrev pub one_unit_more : Option RegionUnit → Option (List RegionUnit) → Option (List RegionUnit)
one_unit_more (Some u) (Some us) = Some (u ∷ us)
one_unit_more u us = None

-- all of these, if each is the unit of a translation
abbrev pub units_are : Bound → List (List Token) → Option (List RegionUnit)
units_are m [] = Some []
units_are m (ts ∷ tss) = one_unit_more (unit_within m ts) (units_are m tss)

abbrev pub region_of_units : Option (List RegionUnit) → Option Region
region_of_units (Some us) = region_in us
region_of_units None = None

-- no offence, no end of the module, no number that is too large, and no token before the first unit
abbrev pub is_sound_region : List Located → Bool
is_sound_region ds = is_nothing (offences_of ds) && (not (is_some (module_end ds)) && (are_small (tokens_in ds) && is_nothing (units_in ds).front))

-- the translation in these segments
abbrev pub translation_in : Bound → List Located → Option Region
translation_in m ds = if is_sound_region ds then region_of_units (units_are m (units_in ds).units) else None

abbrev pub translation_of : Bound → Option Located → Option Region
translation_of m (Some d) = translation_in m (inside_region d)
translation_of m None = None

-- ---- the module

-- the module ends, and there is no offence and no token between the translation and the first unit after it
abbrev pub is_sound_file : List Located → Bool
is_sound_file ds = is_some (module_end ds) && (is_nothing (offences_of ds) && is_nothing (units_in (after_spot ds)).front)

-- the unit Terminating and Next's item of its name stand both or neither
abbrev pub terminates_alike : Region → Bool
terminates_alike r = beq (is_some r.ended) (list_any is_terminating r.next)

abbrev pub module_if : Bool → Text → Outside → Region → Option Module
module_if true t o r = Some (record { title = t; outside = o; region = r })
module_if false t o r = None

abbrev pub module_of : Option Text → Outside → Option Region → Option Module
module_of (Some t) o (Some r) = module_if (terminates_alike r) t o r
module_of t o r = None

abbrev pub outside_of_file : List Located → Outside
outside_of_file ds = outside_in (units_in (before_spot ds)).units (units_in (after_spot ds)).units

abbrev pub module_of_file : Bound → List Located → Option Module
module_of_file m ds = if is_sound_file ds then module_of (title ds) (outside_of_file ds) (translation_of m (region_of ds)) else None

-- the module that a text is, within a bound on each unit of its translation
abbrev pub module_within : Bound → Text → Option Module
module_within m w = module_of_file m (walk w)

-- however deep it nests
abbrev pub module_in : Text → Option Module
module_in w = module_within unbounded w
