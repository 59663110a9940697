-- Proves what is asked of `begin`.
use Rattle.std.proofs.Common.{List, subst}
use Rattle.tla_write.specs.declared.write.Item.{Item}
use Rattle.tla_pool.specs.FormOf.{form_of}
use Rattle.tla_write.specs.Ahead.{PutsAhead}
use Rattle.tla_write.proofs.AheadLemmas.{begun}
use Rattle.tla_write.proofs.write.begin.Goals as goal

pub returns : goal.returns
returns c =
    let t = c.args.of.now in
    begun t c.args.operand (form_of c.form.result.now) c.clear.new.self.items c.put_part.new.plan.items c.len.result c.args.ahead.now.items c.put_ahead.new.ahead.items c.form.ensures c.clear.ensures.items c.len.ensures c.in_ok-put_part.ensures
    (subst (λ (is : List Item). PutsAhead t is c.args.ahead.now.items c.put_ahead.new.ahead.items) c.deref.ensures.value c.in_ok-put_ahead.ensures)
