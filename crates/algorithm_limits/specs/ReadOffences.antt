-- What is wrong with an algorithm that code read, or with its tokens where reading stopped.
use Rattle.std.specs.Prelude.{List, [], ◌∷◌, Result, Ok, Err}
use Rattle.tla_token.specs.declared.rule.Refusal.{Refusal}
use Rattle.tla_token.specs.declared.rule.Stop.{Stop}
use Rattle.tla_token.specs.declared.rule.Stop.TheVariants as stop
use Rattle.tla_tree.specs.Tree.{Tree}
use Rattle.pcal_tree.specs.declared.algorithm.Algorithm as code
use Rattle.pcal_tree.specs.InMemory.{algorithm_at}
use Rattle.pcal_tree.specs.OffencesCounts.{count_offences}

-- what is wrong besides with what was read, over these trees
abbrev pub reading_offences : List Tree → Result code.Algorithm Stop → List Refusal
reading_offences ts (Ok a) = count_offences (algorithm_at ts a)
reading_offences ts (Err (stop.Refused r)) = r ∷ []
reading_offences ts (Err stop.Memory) = []
