-- Which module a text is: its header, the units before the translation, the translation, and the units after it ("Specifying Systems", chapter 17).
use Rattle.std.specs.Prelude.{◌≡◌, true, false, List, [], ◌∷◌, ◌++◌, Some, None, is_some}
use Rattle.std.specs.List.{list_any}
use Rattle.tla_tree.specs.Tree.{words}
use Rattle.tla_tree.specs.Lexical.{Token}
use Rattle.tla_tree.specs.laws.Writable.{AreSmall}
use Rattle.tla_value.specs.Outside.{Outside}
use Rattle.module_tree.specs.Module.{units_of, OutsideUnit, Module, outside_of}
use Rattle.module_tree.specs.TextFront.{Text}
use Rattle.module_tree.specs.Walk.{Located, walk}
use Rattle.module_tree.specs.FileParts.{title, module_end, region_of, before_spot, after_spot, inside_region}
use Rattle.module_tree.specs.FileUnits.{tokens_in, units_in}
use Rattle.module_tree.specs.FileOffences.{offences_of}
use Rattle.module_tree.specs.Units.{IsUnit}
use Rattle.module_tree.specs.Outside.{Sight, AllOutside}
use Rattle.module_tree.specs.Ways.{is_terminating}

-- each unit of these tokens is the one beside it
abbrev pub AllAre : {A : Type 0} → (List Token → A → Type 0) → List (List Token) → List A → Type 0
AllAre P [] [] = Unit {0}
AllAre P (ts ∷ more) (u ∷ us) = P ts u × AllAre P more us
AllAre P _ _ = ⊥

-- modules and constants count wherever they are
abbrev pub sight_in : Outside → Sight
sight_in o = record { modules = o.extended; constants = words o.constants; earlier = [] }

abbrev pub sight : Module → Sight
sight m = sight_in m.outside

-- these are the units of the region
pub record ReadsRegion (region : Located) (m : Module) : Type 0 where
  pub sound : offences_of (inside_region region) ≡ []
  pub open_ended : module_end (inside_region region) ≡ None
  pub small : AreSmall (tokens_in (inside_region region))
  pub no_front : (units_in (inside_region region)).front ≡ []
  pub units : AllAre IsUnit (units_in (inside_region region)).units (units_of m.region)

-- a text with these segments is the module m
pub record AreModule (ds : List Located) (m : Module) : Type 0 where
  pub title : title ds ≡ Some m.title
  pub ended : is_some (module_end ds) ≡ true
  pub sound : offences_of ds ≡ []
  pub before : List OutsideUnit
  pub are_before : AllOutside true (sight m) (units_in (before_spot ds)).units before
  pub region : Located
  pub is_region : region_of ds ≡ Some region
  pub reads_region : ReadsRegion region m
  pub none_before_after : (units_in (after_spot ds)).front ≡ []
  pub after : List OutsideUnit
  pub are_after : AllOutside false (sight m) (units_in (after_spot ds)).units after
  pub outside : m.outside ≡ outside_of (before ++ after)
  pub terminating : is_some m.region.ended ≡ list_any is_terminating m.region.next  -- that unit and Next's item of its name stand both or neither

-- the text w is the module m
abbrev pub Reads : Text → Module → Type 0
Reads w m = AreModule (walk w) m
