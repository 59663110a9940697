-- Proves that the disjunct of one more process is added.
use Rattle.std.proofs.Common.{refl, ap, ◌∙◌, arith}
use Rattle.tla_tree.proofs.PoolNumbers.{past_at}
use Rattle.pcal_tree.specs.Algorithm.{process_routine}
use Rattle.pcal_tree.specs.InMemory.{process_at, past_process}
use Rattle.pcal_tree.specs.Takers.{Takers, taken_process}
use Rattle.module_write.specs.InMemory.{ways_at}
use Rattle.action_builder.specs.NextFormula.{own_way}
use Rattle.module_formulas.specs.TakersIn.{taken}
use Rattle.module_formulas.proofs.Behind.{counted_more, counted_all}
use Rattle.module_formulas.proofs.WayLaws.{ways_push, ways_in}
use Rattle.module_formulas.proofs.ways.add_process_ways.Goals as goal

pub loop-one-init : goal.loop-one-init
loop-one-init c = (λ ts P this naming. refl, λ m this past h. h)

pub loop-one-preserved : goal.loop-one-preserved
loop-one-preserved c =
    let p = c.one-item.result in
    let here = past_at past_process c.args.list.now c.loop-one.one-index p c.one-item.is c.loop-one-test.true in (
      λ ts P this naming.
          counted_more (own_way P) taken_process (process_at ts) c.args.list.now c.loop-one.one-index c.loop-one.number c.in_ok-number.number p c.one-item.is c.loop-one-test.true c.in_ok-number.ensures
          (ways_at ts c.loop-one.out.items) (ways_at ts c.push.new.self.items) _
          (ways_push ts c.loop-one.out.items c.push.new.self.items c.in_ok-way.way _
          (c.in_ok-way.ensures.made ts P (process_routine c.loop-one.number (process_at ts p)) this naming refl
          ∙ ap (λ (t : Takers). own_way P (taken t (process_routine c.loop-one.number (process_at ts p)))) (c.taker_of-taker.ensures.stands ts)) c.in_ok-push.ensures.items)
          (c.loop-one.invariant.0 ts P this naming),
      λ m this past h.
          ways_in m c.loop-one.out.items c.push.new.self.items c.in_ok-way.way (c.loop-one.invariant.1 m this past h)
          (c.in_ok-way.ensures.within m this (c.taker_of-taker.ensures.within m (omega (arith, here, past)))) c.in_ok-push.ensures.items,
    )

pub returns-clause-made : goal.returns-clause-made
returns-clause-made c = λ ts P this naming.
    counted_all (own_way P) taken_process (process_at ts) c.args.list.now c.loop-one.one-index c.loop-one.number (ways_at ts c.loop-one.out.items) _ c.loop-one-test.false
    (c.loop-one.invariant.0 ts P this naming)

pub returns-clause-within : goal.returns-clause-within
returns-clause-within c = λ m this past h. c.loop-one.invariant.1 m this past h
