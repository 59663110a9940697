-- Algorithms that are too large with their macro calls written out.
use Rattle.std.specs.Prelude.{ℕ, suc, min, nat_lt, Bool, ◌||◌, cond, List}
use Rattle.tla_token.specs.declared.rule.Rule.TheVariants as rule
use Rattle.tla_token.specs.declared.rule.Refusal.{Refusal}
use Rattle.tla_token.specs.Limits.{most_nodes, most_labels, deepest_expression, deepest_statement}
use Rattle.pcal_tree.specs.Algorithm.{Algorithm}
use Rattle.pcal_tree.specs.Offences.{offence_if}
use Rattle.macro_expand.specs.Size.{Size, expanded_size}

abbrev pub is_too_deep : Size → Bool
is_too_deep s = nat_lt deepest_expression s.expressions || nat_lt deepest_statement s.statements

abbrev pub is_too_large : Size → Bool
is_too_large s = nat_lt most_nodes s.nodes || (is_too_deep s || nat_lt most_labels s.labels)

-- of a labelled algorithm, at its name
abbrev pub too_large : Algorithm → List Refusal
too_large a = offence_if (is_too_large (expanded_size a)) rule.TooLarge a.name.place

-- the nodes, counted up to one past the limit, which also stands for what nests too deep
abbrev pub counted : Size → ℕ
counted s = cond (is_too_deep s) (suc most_nodes) (min s.nodes (suc most_nodes))

abbrev pub size_of_expansion : Algorithm → ℕ
size_of_expansion a = counted (expanded_size a)
