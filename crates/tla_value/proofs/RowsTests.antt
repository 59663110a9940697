-- An expression whose tests of values out of order are not those of its value, and which means its value for all others: SUBSET {1}.
use Rattle.std.proofs.Common.{◌≡◌, pos, true, false, Ok, ◌∷◌, [], refl}
use Rattle.tla_token.specs.Places.{start}
use Rattle.tla_tree.specs.declared.op.Op.TheVariants.{Subset}
use Rattle.tla_tree.specs.Tree.{number, strict, operator, set_of, Tree, node, no_trees, tree}
use Rattle.tla_value.specs.Value.{Value, int, set, no_values, and}
use Rattle.tla_value.specs.Stops.{plain}
use Rattle.tla_value.specs.Meaning.{Env, just, eval}
use Rattle.tla_value.specs.laws.CanonicalNames.{MeansAlike}
use Rattle.tla_value.proofs.UntestedSets.{strict_tested}

abbrev subsets : Tree
subsets = node (strict (operator Subset)) start (tree (node (strict set_of) start (tree (node (number 1) start no_trees) no_trees)) no_trees)

abbrev one : Value
one = set (and (int (pos 1)) no_values)

-- 1 twice
abbrev twice : Value
twice = set (and (int (pos 1)) (and (int (pos 1)) no_values))

abbrev both : Value
both = set (and (set no_values) (and one no_values))

says_yes : (e : Env) → (eval plain subsets e).test start twice ≡ Ok true
says_yes e = refl

says_no : (just both).test start twice ≡ Ok false
says_no = refl

means_both : (e : Env) → MeansAlike (eval plain subsets e) (just both)
means_both e = record { value = refl; test = λ p v k. strict_tested (operator Subset) start p v (one ∷ []) k (((tt, tt), (tt, tt)), tt) }
