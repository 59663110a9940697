-- What paths have assigned, in memory.
use Rattle.std.specs.Prelude.{◌≡◌, List, ◌++◌, Option, Some, None, cond, option_map}
use Rattle.tla_tree.specs.Tree.{Word}
use Rattle.pcal_tree.specs.Paths as paths
use Rattle.pcal_tree.proofs.SetLaws.{Same}
use Rattle.label_steps.specs.declared.path.Path.{Path}

-- more may have come behind the names
pub record Behind (old new : List Word) : Type 0 where
  pub more : List Word
  pub kept : new ≡ old ++ more

abbrev pub path_of : Path → paths.Path
path_of p = cond p.reached (Some p.names.keys) None

-- these names are there besides, behind the old ones
pub record Grows (old new these : List Word) : Type 0 where
  pub more : List Word
  pub kept : new ≡ old ++ more
  pub names : Same new (old ++ these)

-- behind branches, of which the beginning had assigned the first names
abbrev pub ends_of : List Word → Option Path → paths.Path
ends_of xs o = option_map (λ (e : Path). xs ++ e.names.keys) o
