-- Proves that the call of one more label's action is added.
use Rattle.std.proofs.Common.{refl}
use Rattle.draft.proofs.Behind.{map_more, map_all}
use Rattle.module_write.specs.InMemory.{ways_at}
use Rattle.module_formulas.specs.TakersIn.{taker_at, taken}
use Rattle.module_formulas.specs.LabelWays.{label_way}
use Rattle.module_formulas.proofs.WayLaws.{ways_push, ways_in}
use Rattle.module_formulas.proofs.ways.add_calls.Goals as goal

pub loop-label-init : goal.loop-label-init
loop-label-init c = (λ ts P u this naming number. refl, λ m this h. h)

pub loop-label-preserved : goal.loop-label-preserved
loop-label-preserved c = (
  λ ts P u this naming number.
      map_more (label_way P (taken (taker_at ts c.args.caller.taker) u)) c.args.labels.now c.loop-label.label-index c.label-item.result c.label-item.is c.loop-label-test.true
      (ways_at ts c.loop-label.out.items) (ways_at ts c.push.new.self.items) _
      (ways_push ts c.loop-label.out.items c.push.new.self.items c.in_ok-way.way _ (c.in_ok-way.ensures.made ts P u this naming number) c.in_ok-push.ensures.items)
      (c.loop-label.invariant.0 ts P u this naming number),
  λ m this h. ways_in m c.loop-label.out.items c.push.new.self.items c.in_ok-way.way (c.loop-label.invariant.1 m this h) (c.in_ok-way.ensures.within m this) c.in_ok-push.ensures.items,
)

pub returns-clause-made : goal.returns-clause-made
returns-clause-made c = λ ts P u this naming number.
    map_all (label_way P (taken (taker_at ts c.args.caller.taker) u)) c.args.labels.now c.loop-label.label-index (ways_at ts c.loop-label.out.items) _ c.loop-label-test.false
    (c.loop-label.invariant.0 ts P u this naming number)

pub returns-clause-within : goal.returns-clause-within
returns-clause-within c = λ m this h. c.loop-label.invariant.1 m this h
