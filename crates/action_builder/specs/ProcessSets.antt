-- ProcSet, the set of the identifiers of all processes ("A PlusCal User's Manual", section 3.3, processes).
use Rattle.std.specs.Prelude.{List, [], ◌∷◌, map, Option, Some, None}
use Rattle.tla_token.specs.Places.{nowhere}
use Rattle.tla_tree.specs.declared.op.Op.TheVariants.{Cup}
use Rattle.tla_tree.specs.Tree.{Tree, node, no_trees, tree, strict, operator}
use Rattle.module_tree.specs.Formulas.{set}
use Rattle.pcal_tree.specs.Algorithm.{Process, Main, alone, processes}
use Rattle.pcal_tree.specs.Takers.{Takers, each_of, single, lone, takers_of}

-- the identifiers: a process set as it is, {e} for a single process
abbrev pub set_of_takers : Takers → Tree
set_of_takers (each_of s) = s
set_of_takers (single e) = set (e ∷ [])
set_of_takers lone = set []

-- a chain of \cup, grouped from the left
abbrev pub union_from : Tree → List Tree → Tree
union_from a [] = a
union_from a (b ∷ es) = union_from (node (strict (operator Cup)) nowhere (tree a (tree b no_trees))) es

abbrev pub union : List Tree → Tree
union [] = set []
union (e ∷ es) = union_from e es

abbrev pub sets_of_processes : List Process → List Tree
sets_of_processes ps = map (λ p. set_of_takers (takers_of p)) ps

abbrev pub process_set_of : Main → Option Tree
process_set_of (alone ss) = None
process_set_of (processes ps) = Some (union (sets_of_processes ps))
