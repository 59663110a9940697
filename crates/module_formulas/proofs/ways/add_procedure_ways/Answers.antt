-- Proves that the disjunct of one more procedure is added.
use Rattle.std.proofs.Common.{refl}
use Rattle.pcal_tree.specs.Algorithm.{procedure_routine}
use Rattle.pcal_tree.specs.InMemory.{procedure_at}
use Rattle.module_write.specs.InMemory.{ways_at}
use Rattle.action_builder.specs.NextFormula.{own_way}
use Rattle.module_formulas.specs.TakersIn.{taker_at, taken_procedure}
use Rattle.module_formulas.proofs.Behind.{counted_more, counted_all}
use Rattle.module_formulas.proofs.WayLaws.{ways_push, ways_in}
use Rattle.module_formulas.proofs.ways.add_procedure_ways.Goals as goal

pub loop-one-init : goal.loop-one-init
loop-one-init c = (λ ts P this naming. refl, λ m this taker h. h)

pub loop-one-preserved : goal.loop-one-preserved
loop-one-preserved c = (
  λ ts P this naming.
      counted_more (own_way P) (taken_procedure (taker_at ts c.args.caller.taker)) (procedure_at ts) c.args.list.now c.loop-one._one-index c.loop-one.number c.in_ok-number.number c._one-item.result c._one-item.is c.loop-one-test.true c.in_ok-number.ensures
      (ways_at ts c.loop-one.out.items) (ways_at ts c.push.new.self.items) _
      (ways_push ts c.loop-one.out.items c.push.new.self.items c.in_ok-way.way _
      (c.in_ok-way.ensures.made ts P (procedure_routine c.loop-one.number (procedure_at ts c._one-item.result)) this naming refl) c.in_ok-push.ensures.items)
      (c.loop-one.invariant.0 ts P this naming),
  λ m this taker h. ways_in m c.loop-one.out.items c.push.new.self.items c.in_ok-way.way (c.loop-one.invariant.1 m this taker h) (c.in_ok-way.ensures.within m this taker) c.in_ok-push.ensures.items,
)

pub returns-clause-made : goal.returns-clause-made
returns-clause-made c = λ ts P this naming.
    counted_all (own_way P) (taken_procedure (taker_at ts c.args.caller.taker)) (procedure_at ts) c.args.list.now c.loop-one._one-index c.loop-one.number (ways_at ts c.loop-one.out.items) _ c.loop-one-test.false
    (c.loop-one.invariant.0 ts P this naming)

pub returns-clause-within : goal.returns-clause-within
returns-clause-within c = λ m this taker h. c.loop-one.invariant.1 m this taker h
