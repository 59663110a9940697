-- Proves that the demands of one procedure more are added.
use Rattle.std.proofs.Common.{◌++◌, [], Bool, cond, refl, ap, ◌∙◌}
use Rattle.pcal_tree.specs.declared.algorithm.Procedure.{Procedure}
use Rattle.pcal_tree.specs.InMemory.{statements_at}
use Rattle.written_names.specs.Units.{naming_of}
use Rattle.fairness_lines.specs.Tables.{marked_word}
use Rattle.fairness_lines.specs.Asked.{asked_of}
use Rattle.fairness_lines.specs.DemandsAt.{takers_at, all_asked}
use Rattle.fairness_lines.proofs.AskedLaws.{numbered_more, those, that, those_cons}
use Rattle.fairness_lines.proofs.demands.add_procedures.Goals as goal

pub loop-procedure-preserved : goal.loop-procedure-preserved
loop-procedure-preserved c = (
  λ ts.
      let f = naming_of c.args.draft.now.naming.now in
      let t = takers_at ts c.args.owner in
      let R = marked_word c.args.marks.now.names.now c.args.marks.now.marks.now in
      numbered_more (those f t c.args.owner.number c.args.owner.strong R ts) (that f t c.args.owner.number c.args.owner.strong R ts) (those_cons f t c.args.owner.number c.args.owner.strong R ts) (λ n. refl)
      c.args.procedures.now c.loop-procedure.procedure-index c.loop-procedure.unit c.in_ok-unit.unit c.procedure-item.result c.procedure-item.is c.loop-procedure-test.true c.in_ok-unit.ensures
      (all_asked ts c.loop-procedure.into.items) (all_asked ts c.add_if_reached.new.into.items) _
      (c.in_ok-add_if_reached.ensures.asked ts
      ∙ ap (λ (b : Bool). all_asked ts c.loop-procedure.into.items ++ cond b (asked_of f t c.args.owner.number c.args.owner.strong c.loop-procedure.unit (statements_at ts c.procedure-item.result.body.items)) [])
      (c.is_marked-reached.ensures ∙ ap (λ (p : Procedure). R p.name.word) c.procedure.view_is))
      (c.loop-procedure.invariant.0 ts),
  λ m h l. c.in_ok-add_if_reached.ensures.within m (c.loop-procedure.invariant.1 m h l) l,
)
