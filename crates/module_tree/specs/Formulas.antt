-- Formulas that translations are made of, as trees without places ("Specifying Systems", chapter 16; the names, "A PlusCal User's Manual", section 4).
use Rattle.std.specs.Prelude.{List, [], ◌∷◌, Bool, codes}
use Rattle.tla_token.specs.Places.{nowhere}
use Rattle.tla_tree.specs.declared.op.Op.TheVariants.{Equal}
use Rattle.tla_tree.specs.declared.op.Binder.{Binder}
use Rattle.tla_tree.specs.declared.op.Binder.TheVariants.{ForAll, Function}
use Rattle.tla_tree.specs.Tree.{Word, string, name, strict, operator, set_of, tuple, apply, functions, member, binding, Tree, node, no_trees, tree}
use Rattle.tla_tree.specs.TreeOf.{trees_from}

abbrev pub self : Word
self = codes "self"

abbrev pub named : Word → Tree
named x = node (name x) nowhere no_trees

abbrev pub quoted : Word → Tree
quoted w = node (string w) nowhere no_trees

abbrev pub process_set : Tree
process_set = named (codes "ProcSet")

-- what a variable has that is declared without an initial value
abbrev pub unset_value : Tree
unset_value = named (codes "defaultInitValue")

-- <<>>
abbrev pub empty_tuple : Tree
empty_tuple = node (strict tuple) nowhere no_trees

-- a = b
abbrev pub equal : Tree → Tree → Tree
equal a b = node (strict (operator Equal)) nowhere (tree a (tree b no_trees))

-- a \in b; with false, a \notin b
abbrev pub is_in : Bool → Tree → Tree → Tree
is_in b a s = node (member b) nowhere (tree a (tree s no_trees))

-- f[a]
abbrev pub at : Tree → Tree → Tree
at f a = node (strict apply) nowhere (tree f (tree a no_trees))

-- {a, b}
abbrev pub set : List Tree → Tree
set es = node (strict set_of) nowhere (trees_from es)

abbrev pub binds_self : Binder → Tree → Tree → Tree
binds_self b s e = node (binding b ((record { word = self; place = nowhere } ∷ []) ∷ [])) nowhere (tree s (tree e no_trees))

-- [self \in S |-> e]
abbrev pub function_of_self : Tree → Tree → Tree
function_of_self s e = binds_self Function s e

-- \A self \in S : e
abbrev pub for_all_self : Tree → Tree → Tree
for_all_self s e = binds_self ForAll s e

-- [S -> T]
abbrev pub functions_from : Tree → Tree → Tree
functions_from s t = node (strict functions) nowhere (tree s (tree t no_trees))
