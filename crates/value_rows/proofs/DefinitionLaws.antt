-- One more definition, whose body is a number of the pool.
use Rattle.std.proofs.Common.{ℕ, ◌<◌, List, [], ◌∷◌, ◌++◌}
use Rattle.tla_value.specs.declared.names.Definition.{Definition as Kept}
use Rattle.tla_value.specs.Defs.{DefinitionsIn}

pub one_more : (m : ℕ) (ds : List Kept) (d : Kept) → DefinitionsIn m ds → d.body < m → DefinitionsIn m (ds ++ d ∷ [])
one_more m [] d h l = (l, tt)
one_more m (e ∷ ds) d h l = (h.0, one_more m ds d h.1 l)
