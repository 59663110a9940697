-- One of these is Terminating, or none is.
use Rattle.std.proofs.Common.{◌+◌, ◌≤◌, ◌||◌, Bool, length, drop, sym, ap, ◌∙◌, arith}
use Rattle.std.specs.List.{list_any}
use Rattle.module_tree.specs.Ways.{is_terminating}
use Rattle.module_write.specs.InMemory.{ways_at}
use Rattle.module_reading.proofs.Fitness.{first_left, none_left}
use Rattle.module_reading.proofs.translation.may_terminate.Goals as goal

pub returns-then-is_terminating : goal.returns-then-is_terminating
returns-then-is_terminating c ts =
    let ys = c.args.ways.now in
    let i = c.loop-way.way-index in
    sym
    (sym (c.loop-way.invariant ts) ∙ first_left ts ys i c.way-item.result c.way-item.is c.loop-way-test.true
    ∙ ap (λ (b : Bool). b || list_any is_terminating (ways_at ts (drop (i + 1) ys))) (sym (c.is_terminating.ensures ts) ∙ c.if-is_terminating.true))

pub loop-way-preserved : goal.loop-way-preserved
loop-way-preserved c ts =
    let ys = c.args.ways.now in
    let i = c.loop-way.way-index in
    sym
    (first_left ts ys i c.way-item.result c.way-item.is c.loop-way-test.true
    ∙ ap (λ (b : Bool). b || list_any is_terminating (ways_at ts (drop (i + 1) ys))) (sym (c.is_terminating.ensures ts) ∙ c.if-is_terminating.false))
    ∙ c.loop-way.invariant ts

pub returns : goal.returns
returns c ts =
    let over : length c.args.ways.now ≤ c.loop-way.way-index = (let h = c.loop-way-test.false in omega (arith, h)) in
    sym (none_left ts c.args.ways.now c.loop-way.way-index over) ∙ c.loop-way.invariant ts
