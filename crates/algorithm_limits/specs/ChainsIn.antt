-- The longest of the chains that end with macros, by a table of the lengths of chains.
use Rattle.std.specs.Prelude.{◌≡◌, ℕ, max, List, [], ◌∷◌}
use Rattle.tla_tree.specs.Tree.{Word}
use Rattle.pcal_tree.specs.OffencesCounts.{Chains, chain_of}
use Rattle.algorithm_limits.specs.Numbers.{Numbers, number_of}

abbrev pub longest_in : Numbers → List Word → ℕ
longest_in es [] = 0
longest_in es (m ∷ ms) = max (number_of es m) (longest_in es ms)

-- the table has the chains of these macros
abbrev pub AreChains : Numbers → Chains → Type 0
AreChains es cs = (m : Word) → number_of es m ≡ chain_of cs m
