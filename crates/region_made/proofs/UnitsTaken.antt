-- What the first of some units is of a translation, and that other units are no action and no definition.
use Rattle.std.proofs.Common.{◌≡◌, ℕ, List, [], ◌∷◌, Global, Option, Some, None, is_some, false, true≢false, refl, sym, ap, ◌∙◌, subst}
use Rattle.std.specs.Prelude.{option_map}
use Rattle.std.specs.Vec.Iter.{into_iter_items}
use Rattle.std.specs.declared.vec.IntoIter.{IntoIter}
use Rattle.tla_tree.specs.Tree.{Tree}
use Rattle.tla_value.specs.declared.names.Definition.{Definition}
use Rattle.module_tree.specs.Module.{Region, RegionUnit}
use Rattle.module_write.specs.declared.«module».Action.{Action}
use Rattle.region_reading.specs.RegionReader.{no_definition, no_action, from_terminating, from_actions, from_vars, from_definitions}
use Rattle.region_made.specs.declared.unit.Unit.{Unit as Kept}
use Rattle.region_made.specs.declared.unit.Unit.TheVariants as unit
use Rattle.region_made.specs.UnitsAt.{units_at, UnitIn, UnitsIn}
use Rattle.region_made.specs.Parts.{ahead, Parts}

abbrev pub Units : Type 0
Units = IntoIter Kept Global

pub none_ahead : (us : Units) (o : Option Kept) → is_some o ≡ false → ahead o us ≡ []
none_ahead us None h = refl
none_ahead us (Some u) h = absurd (true≢false h)

-- ---- one unit is a part, and the units behind it are the rest

pub one_part : {from behind : List RegionUnit → Option Region} {part : List Tree → Region → Region} {PartIn : ℕ → Type 0} (u : Kept) (o : Option Kept) (us : Units) (rest : List Kept) → o ≡ Some u → into_iter_items us ≡ rest
    → ((ts : List Tree) (vs : List Kept) → from (units_at ts (u ∷ vs)) ≡ option_map (part ts) (behind (units_at ts vs))) → ((m : ℕ) → UnitIn m u → PartIn m) → Parts from behind part PartIn (ahead o us) rest
one_part {from} {behind} {part} {PartIn} u o us rest i e h k = subst (λ (p : Option Kept). Parts from behind part PartIn (ahead p us) rest) (sym i) (record {
  region = λ ts. ap (λ (vs : List Kept). from (units_at ts (u ∷ vs))) e ∙ h ts rest;
  within = λ m w. (k m w.0, subst (UnitsIn m) e w.1);
})

-- ---- which units are no such part

-- these are read as if the part were not there
abbrev pub Skips : (from behind : List RegionUnit → Option Region) → (Region → Region) → List Kept → Type 0
Skips from behind none us = (ts : List Tree) → from (units_at ts us) ≡ option_map none (behind (units_at ts us))

pub no_action_there : (us : Units) (o : Option Kept) → ((a : Action) → o ≡ Some (unit.Action a) → ⊥) → Skips from_actions from_terminating no_action (ahead o us)
no_action_there us (Some (unit.Action a)) h = absurd (h a refl)
no_action_there us o h = λ ts. refl

pub no_definition_there : (us : Units) (o : Option Kept) → ((d : Definition) → o ≡ Some (unit.Definition d) → ⊥) → Skips from_definitions from_vars no_definition (ahead o us)
no_definition_there us (Some (unit.Definition d)) h = absurd (h d refl)
no_definition_there us o h = λ ts. refl
