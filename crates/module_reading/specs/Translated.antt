-- The translation that units are, by the tokens of each, and why there is none.
use Rattle.std.specs.Prelude.{◌≡◌, ◌≤◌, ◌⊎◌, ◌&&◌, Bool, true, List, Option, Some, None}
use Rattle.tla_token.specs.declared.rule.Rule.TheVariants.{TooDeep, Syntax}
use Rattle.tla_token.specs.declared.rule.Stop.{Stop}
use Rattle.tla_token.specs.declared.rule.Stop.TheVariants as stop
use Rattle.tla_tree.specs.Lexical.{Token}
use Rattle.tla_tree.specs.Nesting.{deepest_in_module}
use Rattle.tla_tree.specs.Whole.{read_bounded}
use Rattle.module_tree.specs.FileUnits.{cut}
use Rattle.module_tree.specs.Module.{Region}
use Rattle.expr_nodes.specs.declared.cursor.Halt.{Halt}
use Rattle.expr_nodes.specs.declared.cursor.Halt.TheVariants as halt
use Rattle.outside_reading.specs.SmallNumbers.{all_small}
use Rattle.region_reading.specs.Bound.{Bound, unbounded, bounded}
use Rattle.region_reading.specs.ModuleReader.{is_nothing, units_are, region_of_units, terminates_alike}
use Rattle.region_reading.specs.Nests.{region_nests}
use Rattle.region_reading.specs.ReadAnswer.{beginning}

-- as many forms may be open as in any module
abbrev pub module_bound : Bound
module_bound = bounded read_bounded deepest_in_module

-- no token stands before the first unit in a translation or after it, and no number in it is too large
abbrev pub are_sound : List Token → List Token → Bool
are_sound inside after = is_nothing (cut after).front && (all_small inside && is_nothing (cut inside).front)

-- the translation, within a bound on each unit
abbrev pub translated : Bound → List (List Token) → Option Region
translated m tss = region_of_units (units_are m tss)

-- it may stand in a module
pub record IsFit (q : Region) : Type 0 where
  -- the unit Terminating and Next's item of its name stand both or neither
  pub alike : terminates_alike q ≡ true
  -- its tree doesn't nest too deep
  pub shallow : region_nests q ≤ deepest_in_module

pub record IsTranslation (tss : List (List Token)) (q : Region) : Type 0 where
  pub is : translated module_bound tss ≡ Some q
  pub fit : IsFit q

-- ---- why there is none

-- the refusal of reading is one of the text, at its beginning
abbrev pub stop_of : Halt → Stop
stop_of halt.Memory = stop.Memory
stop_of (halt.Refused r n) = stop.Refused (record { rule = r; place = beginning })

-- by the rule of syntax, one of these is no unit; by that of depth, one is none within the bound
abbrev pub NoUnits : List (List Token) → Halt → Type 0
NoUnits tss halt.Memory = Unit {0}
NoUnits tss (halt.Refused r n) = ((r ≡ Syntax) × (units_are unbounded tss ≡ None)) ⊎ ((r ≡ TooDeep) × (units_are module_bound tss ≡ None))

-- by the rule of syntax, o is no translation that may stand in a module; by that of depth, the tree of q nests too deep, if it is one
abbrev pub NoneFit : Option Region → Option Region → Stop → Type 0
NoneFit o q stop.Memory = Unit {0}
NoneFit o q (stop.Refused r) = (r.place ≡ beginning)
    × (((r.rule ≡ Syntax) × ((g : Region) → o ≡ Some g → terminates_alike g ≡ true → ⊥)) ⊎ ((r.rule ≡ TooDeep) × ((g : Region) → q ≡ Some g → region_nests g ≤ deepest_in_module → ⊥)))

abbrev pub NoTranslation : List (List Token) → Stop → Type 0
NoTranslation tss e = NoneFit (translated unbounded tss) (translated module_bound tss) e
