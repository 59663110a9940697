-- The assignments of one statement, grouped by their variables.
use Rattle.std.specs.Prelude.{ℕ, List, [], ◌∷◌, Vec, map, cond, bytes_eq}
use Rattle.std.specs.declared.alloc.Global.{Global}
use Rattle.tla_tree.specs.Tree.{Word, Tree}
use Rattle.tla_tree.specs.Nesting.{greatest}
use Rattle.pcal_tree.specs.declared.algorithm.Assignment.{Assignment}
use Rattle.pcal_tree.specs.Algorithm.{Assignments, no_assignments, assignment}
use Rattle.pcal_tree.specs.InMemory.{assignments_at, past_assignment}
use Rattle.action_builder.specs.Assigned.{heads}
use Rattle.action_builder.specs.Written.{own}

-- a variable with its assignments
abbrev pub Group : Type 0
Group = Word × Vec Assignment Global

abbrev pub groups_at : List Tree → List Group → List (Word × Assignments)
groups_at ts gs = map (λ (g : Group). (g.0, assignments_at ts g.1.items)) gs

-- each variable once, in order of first appearance
abbrev pub grouped : Assignments → List (Word × Assignments)
grouped ms = map (λ y. (y, own y ms)) (heads ms)

-- past the numbers of all of them
abbrev pub past_all : List Assignment → ℕ
past_all ms = greatest (map past_assignment ms)

abbrev pub past_groups : List Group → ℕ
past_groups gs = greatest (map (λ (g : Group). past_all g.1.items) gs)

-- ---- one more assignment

abbrev pub with_last : Assignments → Tree → Tree → Assignments
with_last no_assignments l e = assignment l e no_assignments
with_last (assignment k f ms) l e = assignment k f (with_last ms l e)

-- to this variable
abbrev pub with_group : List (Word × Assignments) → Word → Tree → Tree → List (Word × Assignments)
with_group [] x l e = (x, assignment l e no_assignments) ∷ []
with_group (g ∷ gs) x l e = cond (bytes_eq x g.0) ((g.0, with_last g.1 l e) ∷ gs) (g ∷ with_group gs x l e)
