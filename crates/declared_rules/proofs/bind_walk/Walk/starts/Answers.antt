-- Proves that first values are looked at.
use Rattle.std.proofs.Common.{sym, ap, ◌∙◌, subst}
use Rattle.pcal_tree.specs.declared.algorithm.Declaration.{Declaration}
use Rattle.pcal_tree.specs.declared.algorithm.Start.{Start}
use Rattle.pcal_tree.specs.InMemory.{start_at}
use Rattle.pcal_tree.specs.OffencesRebind.{start_rebinds}
use Rattle.declared_rules.specs.declared.bind_walk.Walk.{Walk}
use Rattle.declared_rules.specs.Telling.{Adds}
use Rattle.declared_rules.proofs.TellLaws.{adds_none, adds_as, list_then, list_done}
use Rattle.declared_rules.proofs.BindBodyLaws.{each_start}
use Rattle.declared_rules.proofs.bind_walk.Walk.starts.Goals as goal
use Rattle.declared_rules.proofs.bind_walk.Walk.starts.Goals.{in-Unset, in-Equals+in_ok-expr-in-Equals, in-Among+in_ok-expr-in-Among}

pub loop-i-init : goal.loop-i-init
loop-i-init c = λ K k g. g

pub loop-i-preserved : goal.loop-i-preserved
loop-i-preserved c = λ K k g.
    let s = c.args.sight.now in
    let ts = c.args.pool.now in
    let old = c.loop-i.self in
    let d = c.index-list-i.result in
    let is = ap (λ (e : Declaration). e.start) c.index-list-i.is in
    c.loop-i.invariant K k
    (list_then s K (λ (e : Declaration) ms r. start_rebinds ms K (start_at ts e.start) r) old c.match-list-i.self k c.args.list.now c.loop-i.i d c.index-list-i.is c.loop-i-test.true
    (elim c.match-list-i.branch [
      | in-Unset w ↦
          subst (λ (new : Walk). Adds s K old new (λ ms r. start_rebinds ms K (start_at ts d.start) r)) (sym w.self-is)
          (subst (λ (x : Start). Adds s K old old (λ ms r. start_rebinds ms K (start_at ts x) r)) (sym (is ∙ w.in-Unset.is)) (adds_none s K old))
      | in-Equals+in_ok-expr-in-Equals w ↦
          subst (λ (new : Walk). Adds s K old new (λ ms r. start_rebinds ms K (start_at ts d.start) r)) (sym w.self-is)
          (subst (λ (x : Start). Adds s K old w.expr.new.self (λ ms r. start_rebinds ms K (start_at ts x) r)) (sym (is ∙ w.in-Equals.is)) (w.in_ok-expr-in-Equals.ensures K))
      | in-Among+in_ok-expr-in-Among w ↦
          subst (λ (new : Walk). Adds s K old new (λ ms r. start_rebinds ms K (start_at ts d.start) r)) (sym w.self-is)
          (subst (λ (x : Start). Adds s K old w.expr-in-Among.new.self (λ ms r. start_rebinds ms K (start_at ts x) r)) (sym (is ∙ w.in-Among.is)) (w.in_ok-expr-in-Among.ensures K))
    ]) g)

pub returns : goal.returns
returns c = λ K.
    adds_as c.args.sight.now K c.args.self.now c.loop-i.self _ _ (λ ms r. each_start c.args.pool.now ms K r c.args.list.now)
    (c.loop-i.invariant K c.loop-i.self (list_done c.args.sight.now K (λ (d : Declaration) ms r. start_rebinds ms K (start_at c.args.pool.now d.start) r) c.loop-i.self c.args.list.now c.loop-i.i c.loop-i-test.false))
