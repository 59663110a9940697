-- The measures of the evaluator, and what its loops keep.
use Rattle.std.proofs.Common.{◌≡◌, ◌≤◌, ◌+◌, ◌-◌, suc, true, drop, length}
use Rattle.tla_tree.specs.Pool.{at, trees_at}
use Rattle.tla_value.specs.Meaning.{part_values, local_value, first_arm}
use Rattle.value_forms.proofs.StopLaws.{behind}
use Rattle.tla_eval.specs.Work.{work, works, defs_work}
use Rattle.eval_scopes.specs.Scopes.{seen_of, with_locals}
use Rattle.eval_scopes.specs.Contexts.{env_of}
use Rattle.tla_eval.specs.Parts.{den, dens}
use Rattle.eval_visits.specs.Visits.{visited, from_choice, choice_turns, body_at}
use Rattle.eval_scopes.specs.Choices.{unbound}
use Rattle.eval_visits.specs.GatheredOf.{gathered_of}
use Rattle.tla_eval.proofs.eval.+eval.Given as goal

abbrev pub decreases-valued : goal.decreases-valued
decreases-valued g l = work (at l.cx.now.pool.now l.e) + defs_work l.cx.now.pool.now l.cx.now.defs.now (seen_of l.scope.now)

abbrev pub decreases-of_form : goal.decreases-of_form
decreases-of_form g l = 8 + (works (trees_at l.cx.now.pool.now l.parts.now) + defs_work l.cx.now.pool.now l.cx.now.defs.now (seen_of l.scope.now))

abbrev pub decreases-values : goal.decreases-values
decreases-values g l = 2 + (works (trees_at l.cx.now.pool.now l.parts.now) + defs_work l.cx.now.pool.now l.cx.now.defs.now (seen_of l.scope.now))

abbrev pub decreases-test : goal.decreases-test
decreases-test g l = 1 + (work (at l.cx.now.pool.now l.e) + defs_work l.cx.now.pool.now l.cx.now.defs.now (seen_of l.scope.now))

abbrev pub decreases-connective : goal.decreases-connective
decreases-connective g l = 4 + (works (trees_at l.cx.now.pool.now l.parts.now) + defs_work l.cx.now.pool.now l.cx.now.defs.now (seen_of l.scope.now))

abbrev pub decreases-choice : goal.decreases-choice
decreases-choice g l = 4 + (works (trees_at l.cx.now.pool.now l.parts.now) + defs_work l.cx.now.pool.now l.cx.now.defs.now (seen_of l.scope.now))

abbrev pub decreases-cases : goal.decreases-cases
decreases-cases g l = 4 + (works (trees_at l.cx.now.pool.now l.parts.now) + defs_work l.cx.now.pool.now l.cx.now.defs.now (seen_of l.scope.now))

abbrev pub decreases-membership : goal.decreases-membership
decreases-membership g l = 6 + (works (trees_at l.cx.now.pool.now l.parts.now) + defs_work l.cx.now.pool.now l.cx.now.defs.now (seen_of l.scope.now))

abbrev pub decreases-member : goal.decreases-member
decreases-member g l = 1 + (work (at l.cx.now.pool.now l.e) + defs_work l.cx.now.pool.now l.cx.now.defs.now (seen_of l.scope.now))

abbrev pub decreases-in_form : goal.decreases-in_form
decreases-in_form g l = 9 + (works (trees_at l.cx.now.pool.now l.parts.now) + defs_work l.cx.now.pool.now l.cx.now.defs.now (seen_of l.scope.now))

abbrev pub decreases-bound : goal.decreases-bound
decreases-bound g l = 4 + (works (trees_at l.cx.now.pool.now l.parts.now) + defs_work l.cx.now.pool.now l.cx.now.defs.now (seen_of l.scope.now))

abbrev pub decreases-visit : goal.decreases-visit
decreases-visit g l = 2 + (work (at l.cx.now.pool.now l.body) + defs_work l.cx.now.pool.now l.cx.now.defs.now (seen_of l.scope.now))

abbrev pub decreases-at_choice : goal.decreases-at_choice
decreases-at_choice g l = 1 + (work (at l.cx.now.pool.now l.body) + defs_work l.cx.now.pool.now l.cx.now.defs.now (seen_of l.scope.now))

abbrev pub decreases-locals : goal.decreases-locals
decreases-locals g l = 4 + (works (trees_at l.cx.now.pool.now l.parts.now) + defs_work l.cx.now.pool.now l.cx.now.defs.now (seen_of l.scope.now))

abbrev pub decreases-in_local : goal.decreases-in_local
decreases-in_local g l = 1 + (work (at l.cx.now.pool.now l.e) + defs_work l.cx.now.pool.now l.cx.now.defs.now (seen_of l.scope.now))

abbrev pub decreases-named : goal.decreases-named
decreases-named g l = 1 + defs_work l.cx.now.pool.now l.cx.now.defs.now (seen_of l.scope.now)

abbrev pub decreases-called : goal.decreases-called
decreases-called g l = 4 + (works (trees_at l.cx.now.pool.now l.parts.now) + defs_work l.cx.now.pool.now l.cx.now.defs.now (seen_of l.scope.now))

abbrev pub decreases-used : goal.decreases-used
decreases-used g l = defs_work l.cx.now.pool.now l.cx.now.defs.now (suc l.k)

abbrev pub invariant-values-loop-part : goal.invariant-values-loop-part
invariant-values-loop-part g l =
    behind l.values.items (part_values (dens l.cx.pool.now (drop l.part-index l.parts)) (env_of g.N.Names.look l.cx l.scope)) ≡ part_values (dens l.cx.pool.now l.parts) (env_of g.N.Names.look l.cx l.scope)

abbrev pub invariant-cases-loop-i : goal.invariant-cases-loop-i
invariant-cases-loop-i g l =
    (l.i ≤ length l.parts) × (first_arm l.other l.place (dens l.cx.pool.now (drop l.i l.parts)) (env_of g.N.Names.look l.cx l.scope) ≡ first_arm l.other l.place (dens l.cx.pool.now l.parts) (env_of g.N.Names.look l.cx l.scope))

abbrev pub decreases-cases-loop-i : goal.decreases-cases-loop-i
decreases-cases-loop-i g l = length l.parts - l.i

abbrev pub invariant-locals-loop-i : goal.invariant-locals-loop-i
invariant-locals-loop-i g l =
    (length l.values.items ≡ l.i) × (local_value l.fn.place (drop l.i l.names) (dens l.cx.pool.now (drop l.i l.parts)) (with_locals l.names l.values.items (env_of g.N.Names.look l.cx l.scope)) ≡ local_value l.fn.place l.names (dens l.cx.pool.now l.parts) (env_of g.N.Names.look l.cx l.scope))

abbrev pub invariant-visit-loop-more : goal.invariant-visit-loop-more
invariant-visit-loop-more g l =
    (l.more ≡ true → length l.left.items ≡ length l.names)
    × (from_choice l.more (gathered_of l.gathered) (body_at l.binder l.place (den l.cx.pool.now l.body)) l.names l.left.items (unbound (env_of g.N.Names.look l.cx l.scope)) ≡ visited (gathered_of l.fn.gathered) l.names (body_at l.binder l.place (den l.cx.pool.now l.body)) (unbound (env_of g.N.Names.look l.cx l.scope)))

abbrev pub decreases-visit-loop-more : goal.decreases-visit-loop-more
decreases-visit-loop-more g l = choice_turns l.more l.names l.left.items
