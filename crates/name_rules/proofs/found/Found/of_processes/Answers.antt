-- Proves that the first offence of all is found.
use Rattle.std.proofs.Common.{sym, ◌∙◌}
use Rattle.tla_tree.specs.Pool.{at}
use Rattle.pcal_tree.specs.InMemory.{declarations_at, statements_at, process_at}
use Rattle.pcal_tree.specs.Offences.{first}
use Rattle.pcal_tree.specs.OffencesNames.{in_whole, in_process}
use Rattle.algorithm_answer.specs.Joined.{joined}
use Rattle.algorithm_answer.proofs.Joins.{first_append}
use Rattle.name_rules.specs.Routines.{routine_offences}
use Rattle.name_rules.proofs.RoutineLaws.{each_next, each_done}
use Rattle.name_rules.proofs.found.Found.of_processes.Goals as goal

pub loop-one-preserved : goal.loop-one-preserved
loop-one-preserved c = λ C ps s m h.
    let ts = c.args.pool.now in
    let p = c.one-item.result in
    each_next (in_process C ps s) (process_at ts) _ c.args.list.now c.loop-one.one-index p c.loop-one.found c.least.result c.least-found.result c.one-item.is c.loop-one-test.true
    (c.least.ensures
    ∙ (λ z. joined (c.in_ok-head.ensures s h z) (c.in_ok-rest.ensures C ps s m h z))
    ∙ (λ z. joined (first (in_whole (at ts p.identity) s)) (first (routine_offences C ps (declarations_at ts (c.deref.ensures.value z)) (statements_at ts (c.deref-in-loop-one.ensures.value z)) s)))
    ∙ sym (first_append (in_whole (at ts p.identity) s) (routine_offences C ps (declarations_at ts p.variables.items) (statements_at ts p.body.items) s))) c.least-found.ensures (c.loop-one.invariant C ps s m h)

pub returns : goal.returns
returns c = λ C ps s m h.
    each_done (in_process C ps s) (process_at c.args.pool.now) _ c.args.list.now c.loop-one.one-index c.loop-one.found c.loop-one-test.false (c.loop-one.invariant C ps s m h)
