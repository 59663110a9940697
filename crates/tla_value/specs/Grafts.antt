-- Trees put in for names: priming, macro arguments, the variables of a process; and the names as what stands for them.
use Rattle.std.specs.Prelude.{Bool, cond, Option, Some, None}
use Rattle.tla_token.specs.declared.place.Place.{Place}
use Rattle.tla_tree.specs.Tree.{Word, strict, apply, name, next, Tree, node, no_trees, tree, Graft}
use Rattle.tla_value.specs.Stops.{Check}
use Rattle.tla_value.specs.Meaning.{Env, Denotation, eval}

-- the names of A primed, each at its place
abbrev pub primes : (Word → Bool) → Graft
primes A x at = cond (A x) (Some (node (next x) at no_trees)) None

-- arguments for parameters, each with its own places
abbrev pub Arguments : Type 0
Arguments = Word → Option Tree

abbrev pub arguments : Arguments → Graft
arguments s x at = s x

-- x[self], all at the place of x
abbrev pub own_part : Word → Word → Place → Tree
own_part self x at = node (strict apply) at (tree (node (name x) at no_trees) (tree (node (name self) at no_trees) no_trees))

-- the variables of a process set or procedure, of which each process has its own
abbrev pub owned : Word → (Word → Bool) → Graft
owned self here x at = cond (here x) (Some (own_part self x at)) None

-- what a name means where a tree may stand for it
abbrev pub read_tree : Check → Option Tree → Word → Place → Denotation
read_tree c (Some t) x at e = eval c t e
read_tree c None x at e = e.now x at

-- names stand for the trees of g, each evaluated in env
abbrev pub through : Check → Graft → Env → Env
through c g env = record env { now = λ x at. read_tree c (g x at) x at env }
