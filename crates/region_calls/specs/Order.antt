-- The order of the conjuncts of Spec.
use Rattle.std.specs.Prelude.{◌≡◌, List, ◌∷◌, length, map}
use Rattle.tla_token.specs.declared.place.Place.{Place}
use Rattle.tla_tree.specs.declared.op.Op.TheVariants as op
use Rattle.tla_tree.specs.Tree.{Tree}
use Rattle.tla_tree.specs.Reader.{Reader, ◌>>=◌}
use Rattle.module_tree.specs.Module.{spec_unit}
use Rattle.module_tree.specs.Units.{UnitForm, unit_of}
use Rattle.module_write.specs.InMemory.{fairness_at, AllFairnessIn}
use Rattle.module_write.specs.declared.«module».Fairness.{Fairness}
use Rattle.region_reading.specs.Bound.{Bound}
use Rattle.region_reading.specs.NameReader.{gives_if, bulleted_in}
use Rattle.region_reading.specs.CallReader.{spec_in}
use Rattle.region_reading.specs.UnitReader.{spec_of}
use Rattle.region_calls.specs.declared.fairness.SpecLine.{SpecLine}
use Rattle.region_calls.specs.declared.fairness.SpecLine.TheVariants as line

-- `Init`, `[][Next]_vars`, and formulas of fairness
abbrev pub in_order : List Fairness → List SpecLine
in_order fs = line.Start ∷ line.Steps ∷ map (λ (f : Fairness). line.Fair f) fs

-- behind `Spec ==`, as a unit of a translation
abbrev pub spec_behind : Bound → Place → Place → Reader UnitForm
spec_behind m p q = bulleted_in m op.And spec_in >>= λ xs. gives_if (spec_of p q xs)

pub record IsSpecUnit (ts : List Tree) (fs : List Fairness) (u : UnitForm) : Type 0 where
  pub below : AllFairnessIn (length ts) fs
  pub unit : unit_of u ≡ spec_unit (map (fairness_at ts) fs)
