-- Definitions, as the pool grows that their bodies are numbers of.
use Rattle.std.proofs.Common.{◌≡◌, ℕ, ◌<◌, ◌≤◌, List, [], ◌∷◌, length, refl, arith}
use Rattle.tla_tree.specs.Tree.{Tree}
use Rattle.tla_tree.specs.Pool.{Keeps}
use Rattle.tla_value.specs.declared.names.Definition.{Definition as Kept}
use Rattle.tla_value.specs.Defs.{definition_at, definitions_at, DefinitionsIn}

pub definition_at-kept : (ts us : List Tree) (d : Kept) → Keeps ts us → d.body < length ts → definition_at us d ≡ definition_at ts d
definition_at-kept ts us d k h = λ i. record { title = d.name; params = d.params; body = k.same d.body h i; outside = d.outside }

pub definitions_at-kept : (ts us : List Tree) (ds : List Kept) → Keeps ts us → DefinitionsIn (length ts) ds → definitions_at us ds ≡ definitions_at ts ds
definitions_at-kept ts us [] k h = refl
definitions_at-kept ts us (d ∷ ds) k h = λ i. definition_at-kept ts us d k h.0 i ∷ definitions_at-kept ts us ds k h.1 i

pub DefinitionsIn-more : (m n : ℕ) (ds : List Kept) → m ≤ n → DefinitionsIn m ds → DefinitionsIn n ds
DefinitionsIn-more m n [] le h = tt
DefinitionsIn-more m n (d ∷ ds) le h = (omega (arith, h.0), DefinitionsIn-more m n ds le h.1)
