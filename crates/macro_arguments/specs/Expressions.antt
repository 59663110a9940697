-- Lists in memory whose numbers are of the pool, and what they stand for there.
use Rattle.std.specs.Prelude.{◌≡◌, ℕ, ◌≤◌, List, length, map}
use Rattle.tla_tree.specs.Tree.{Tree, node, Trees, Graft, graft, grafts}
use Rattle.tla_tree.specs.Pool.{at, trees_at}
use Rattle.tla_tree.specs.Nesting.{greatest}
use Rattle.pcal_tree.specs.declared.algorithm.Assignment.{Assignment}
use Rattle.pcal_tree.specs.declared.algorithm.Bind.{Bind}
use Rattle.pcal_tree.specs.declared.algorithm.Bind.TheVariants as bind
use Rattle.pcal_tree.specs.declared.algorithm.Simple.{Simple}
use Rattle.pcal_tree.specs.Algorithm.{Assignments, assignment, Binds, one_of, is, Statement}
use Rattle.pcal_tree.specs.Expand.{graft_left}
use Rattle.pcal_tree.specs.InMemory.{assignments_at, binds_at, simple_at, past_numbers, past_assignment, past_binds, past_simple}

-- with trees put in for the names in its parts
abbrev pub over_parts : Graft → Tree → Tree
over_parts g (node m p ts) = node m p (grafts g ts)

pub record StandNumbers (ts : List Tree) (es : List ℕ) (us : Trees) : Type 0 where
  pub within : past_numbers es ≤ length ts
  pub stand : trees_at ts es ≡ us

pub record StandAssignments (ts : List Tree) (ms : List Assignment) (us : Assignments) : Type 0 where
  pub within : greatest (map past_assignment ms) ≤ length ts
  pub stand : assignments_at ts ms ≡ us

pub record StandBinds (ts : List Tree) (bs : List Bind) (us : Binds) : Type 0 where
  pub within : past_binds bs ≤ length ts
  pub stand : binds_at ts bs ≡ us

pub record StandSimple (ts : List Tree) (s : Simple) (u : Statement) : Type 0 where
  pub within : past_simple s ≤ length ts
  pub stand : simple_at ts s ≡ u

-- with trees put in: one of the left and right sides, before others, and what a `with` names once
abbrev pub assignment_put : Graft → List Tree → Assignment → Assignments → Assignments
assignment_put g ts m = assignment (graft_left g (at ts m.left)) (graft g (at ts m.right))

abbrev pub bind_put : Graft → List Tree → Bind → Binds → Binds
bind_put g ts (bind.Among x e) = one_of x (graft g (at ts e))
bind_put g ts (bind.Is x e) = is x (graft g (at ts e))
