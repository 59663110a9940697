-- Proves that a macro's summary is found.
use Rattle.std.proofs.Common.{List, ◌∙◌, subst}
use Rattle.pcal_tree.specs.declared.algorithm.Stmt.{Stmt}
use Rattle.pcal_tree.specs.InMemory.{statements_at}
use Rattle.label_steps.specs.MacrosIn.{IsGathered}
use Rattle.label_steps.proofs.LearnLaws.{none_inside}
use Rattle.label_steps.proofs.around.Around.summary.Goals as goal

pub returns : goal.returns
returns c = λ ms k name own inside.
    let ts = c.args.pool.now in
    let g =
    subst (λ (ss : List Stmt). IsGathered c.args.self.now.known.params.keys c.in_ok-names.field-0 ms (statements_at ts ss)) c.deref.ensures.value
    (c.in_ok-names.ensures ms k name own) in
    record {
      params = c.in_ok-new.ensures ∙ c.deref-2.ensures.value;
      names = g.names;
      pairs = g.pairs;
      inside = none_inside c.args.self.now.known.params.keys c.args.one.now.params.items inside;
    }
