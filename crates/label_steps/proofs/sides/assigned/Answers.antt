-- Proves that what an assignment assigns is found.
use Rattle.std.proofs.Common.{◌-◌, ◌<◌, length, slice_index_or, refl, arith}
use Rattle.std.proofs.lemmas.List.{get_or_default}
use Rattle.tla_tree.proofs.PoolNumbers.{past_at}
use Rattle.pcal_tree.specs.declared.algorithm.Assignment.{Assignment}
use Rattle.pcal_tree.specs.InMemory.{past_assignment}
use Rattle.label_steps.proofs.SideLaws.{sides_none, sides_first, sides_more, sides_all}
use Rattle.label_steps.proofs.sides.assigned.Goals as goal

abbrev unset : Assignment
unset = record { left = 0; right = 0 }

pub side-requires : goal.side-requires
side-requires c =
    let ms = c.args.list.now in
    let i = length ms - 1 - c.loop-i.i in
    let e = slice_index_or ms i unset in
    let inside : i < length ms = omega (arith, c.loop-i-test.true) in
    let less = past_at past_assignment ms i e (get_or_default ms i unset e inside) inside in
    omega (arith, less, c.requires)

pub loop-i-init : goal.loop-i-init
loop-i-init c = sides_first c.args.pool.now _ c.args.list.now (sides_none _ c.new.ensures.items refl c.new-2.ensures)

pub loop-i-preserved : goal.loop-i-preserved
loop-i-preserved c =
    let ms = c.args.list.now in
    let i = length ms - 1 - c.loop-i.i in
    let e = slice_index_or ms i unset in
    let inside : i < length ms = omega (arith, c.loop-i-test.true) in
    sides_more c.args.pool.now c.loop-i.sides c.side.new.self ms c.loop-i.i e (get_or_default ms i unset e inside) c.loop-i-test.true c.in_ok-side.ensures c.loop-i.invariant

pub returns-clause-names : goal.returns-clause-names
returns-clause-names c = (sides_all c.args.pool.now c.loop-i.sides c.args.list.now c.loop-i.i c.loop-i-test.false c.loop-i.invariant).names

pub returns-clause-twice : goal.returns-clause-twice
returns-clause-twice c = (sides_all c.args.pool.now c.loop-i.sides c.args.list.now c.loop-i.i c.loop-i-test.false c.loop-i.invariant).twice
