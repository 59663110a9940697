-- What Next's disjuncts call: procedures, processes and Terminating; and the sets of ProcSet, one for each process ("A PlusCal User's Manual", section 3.3).
use Rattle.std.specs.Prelude.{ℕ, zero, suc, List, [], ◌∷◌, filter, length, not, Bool, false, bytes_eq, Option, Some, None, codes}
use Rattle.tla_tree.specs.declared.op.Op.TheVariants.{Cup}
use Rattle.tla_tree.specs.Tree.{Word, name, strict, operator, Tree, node, no_trees, tree}
use Rattle.module_tree.specs.Module.{Call, call, call_with, Way, one_way, some_way}

abbrev pub is_process_set : Tree → Bool
is_process_set (node (name x) at ts) = bytes_eq x (codes "ProcSet")
is_process_set _ = false

-- `\E self \in ProcSet : P(self)`: a procedure's
abbrev pub is_procedure : Way → Bool
is_procedure (some_way x e u) = is_process_set e
is_procedure (one_way u) = false

abbrev pub call_of : Way → Call
call_of (one_way u) = u
call_of (some_way x e u) = u

abbrev pub title_of : Call → Word
title_of (call a) = a
title_of (call_with a e) = a

abbrev pub is_terminating : Way → Bool
is_terminating y = bytes_eq (title_of (call_of y)) (codes "Terminating")

-- all but Terminating
abbrev pub steps_of : List Way → List Way
steps_of ys = filter (λ y. not (is_terminating y)) ys

-- those that aren't a procedure's
abbrev pub own_steps : List Way → List Way
own_steps ys = filter (λ y. not (is_procedure y)) (steps_of ys)

-- ProcSet is S1 \cup S2 \cup .. with a set for each process: so many are split off, from the right, and put before others
abbrev pub split_cup : ℕ → Tree → List Tree → List Tree
split_cup (suc n) (node (strict (operator Cup)) at (tree a (tree b no_trees))) es = split_cup n a (b ∷ es)
split_cup _ e es = e ∷ es

-- as many sets as processes
abbrev pub sets_in : ℕ → Tree → List Tree
sets_in zero e = e ∷ []
sets_in (suc n) e = split_cup n e []

abbrev pub sets_of : ℕ → Option Tree → List Tree
sets_of n None = []
sets_of n (Some e) = sets_in n e

-- how many disjuncts are a process's own: as many as there are processes, in an algorithm with processes
abbrev pub processes_in : List Way → ℕ
processes_in ys = length (own_steps ys)
