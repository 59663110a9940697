-- The meanings of expressions of a pool, and of the parts of one.
use Rattle.std.specs.Prelude.{ℕ, List}
use Rattle.tla_tree.specs.Tree.{Tree}
use Rattle.tla_tree.specs.Pool.{at, trees_at}
use Rattle.tla_value.specs.Value.{Value, Outcome}
use Rattle.tla_value.specs.Limits.{bounded}
use Rattle.tla_value.specs.Meaning.{Denotation, Env, eval, evals}

abbrev pub den : List Tree → ℕ → Denotation
den ts e = eval bounded (at ts e)

abbrev pub dens : List Tree → List ℕ → List Denotation
dens ts is = evals bounded (trees_at ts is)

abbrev pub value_at : List Tree → ℕ → Env → Outcome Value
value_at ts e env = (den ts e env).value
