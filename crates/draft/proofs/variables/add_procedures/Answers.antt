-- Proves that the names of one procedure more are added.
use Rattle.std.proofs.Common.{true, List, map, ◌++◌, ap, ◌∙◌}
use Rattle.pcal_tree.specs.declared.algorithm.Declaration.{Declaration}
use Rattle.pcal_tree.specs.Algorithm.{procedure_routine}
use Rattle.pcal_tree.specs.InMemory.{procedure_at}
use Rattle.written_names.specs.Units.{naming_of}
use Rattle.draft.specs.RoutineNames.{words_of, names_where}
use Rattle.draft.proofs.Behind.{numbered_more}
use Rattle.draft.proofs.NameLaws.{both_lists}
use Rattle.draft.proofs.variables.add_procedures.Goals as goal

pub loop-procedure-preserved : goal.loop-procedure-preserved
loop-procedure-preserved c = λ ts.
    let f = naming_of c.args.naming.now in
    let n = c.loop-procedure.number in
    let p = c.procedure-item.result in
    numbered_more (names_where f true) procedure_routine (procedure_at ts) c.args.list.now
    c.loop-procedure.procedure-index n c.in_ok-number.number p c.procedure-item.is c.loop-procedure-test.true c.in_ok-number.ensures c.loop-procedure.into c.add_locals-in-loop-procedure.new.into _
    (both_lists ts (f.local n) p.params.items p.variables.items c.loop-procedure.into c.add_locals.new.into c.add_locals-in-loop-procedure.new.into
    (c.in_ok-add_locals.ensures ∙ ap (λ (ds : List Declaration). c.loop-procedure.into ++ map (f.local n) (words_of ds)) c.deref.ensures.value)
    (c.in_ok-add_locals-2.ensures ∙ ap (λ (ds : List Declaration). c.add_locals.new.into ++ map (f.local n) (words_of ds)) c.deref-in-loop-procedure.ensures.value))
    (c.loop-procedure.invariant ts)
