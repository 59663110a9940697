-- What units in memory stand for, beside the forms that they were read of: they mean the same, and their numbers are of the pool.
use Rattle.std.specs.Prelude.{◌≡◌, List, [], ◌∷◌, length, Option, Some, None}
use Rattle.std.specs.Option.{option_map}
use Rattle.tla_tree.specs.Tree.{Word, Tree}
use Rattle.module_tree.specs.Grammar.{words_of}
use Rattle.module_tree.specs.Units.{ParameterForm, BodyForm, body_of, UnitForm, unit_of}
use Rattle.module_write.specs.declared.«module».Body.{Body}
use Rattle.module_write.specs.InMemory.{body_at, BodyIn}
use Rattle.region_made.specs.declared.unit.Unit.{Unit as Kept}
use Rattle.region_made.specs.UnitsAt.{unit_at, UnitIn}

pub record IsUnitOf (ts : List Tree) (u : Kept) (f : UnitForm) : Type 0 where
  pub below : UnitIn (length ts) u
  pub means : unit_at ts u ≡ unit_of f

-- the body of an action
pub record IsBody (ts : List Tree) (b : Body) (f : BodyForm) : Type 0 where
  pub below : BodyIn (length ts) b
  pub means : body_at ts b ≡ body_of f

-- the names in brackets behind a title, if there are brackets
abbrev pub parameter_names : Option ParameterForm → Option (List Word)
parameter_names f = option_map (λ (f : ParameterForm). words_of f.names) f

-- the only one, if there are brackets; and nothing where they have more
abbrev pub at_most_one : Option (List Word) → Option (Option Word)
at_most_one None = Some None
at_most_one (Some (x ∷ [])) = Some (Some x)
at_most_one (Some xs) = None
