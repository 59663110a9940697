-- Units are read one after the other, as the pool grows.
use Rattle.std.proofs.Common.{◌<◌, List, length, refl, sym, ◌∙◌, subst, arith}
use Rattle.std.proofs.lemmas.Result.{err_from_is_err_and}
use Rattle.tla_tree.proofs.PoolNumbers.{Keeps-then}
use Rattle.module_tree.specs.FileUnits.{cut}
use Rattle.expr_nodes.specs.Ahead.{ahead}
use Rattle.region_made.specs.declared.unit.Unit.{Unit as Kept}
use Rattle.region_made.specs.UnitsAt.{UnitsIn}
use Rattle.module_reading.proofs.SmallTokens.{unit_fits}
use Rattle.module_reading.proofs.UnitsGrown.{units_within}
use Rattle.module_reading.proofs.UnitSteps.{so_first, so_more, so_lost}
use Rattle.module_reading.proofs.units.units.Goals as goal

pub loop-at-init : goal.loop-at-init
loop-at-init c = record {
  bytes = c.in_ok-bytes.ensures.items ∙ c.deref.ensures.value;
  inside = c.next_begun-at.ensures.within;
  begins = c.next_begun-at.ensures.begins;
  so_far = so_first c.args.tokens.now c.next_begun-at.result c.args.pool.now c.new-list.result.items c.next_begun-at.ensures.value c.new-list.ensures.items;
  within = subst (λ (us : List Kept). UnitsIn (length c.args.pool.now) us) (sym c.new-list.ensures.items) tt;
  kept = record { longer = omega arith; same = λ i h. refl };
}

pub unit-requires-clause-numbers : goal.unit-requires-clause-numbers
unit-requires-clause-numbers c = unit_fits c.args.tokens.now c.in_ok-one.one c.loop-at.at _ c.requires.small c.in_ok-one.ensures.tokens

pub returns-in_err-unit-clause-none : goal.returns-in_err-unit-clause-none
returns-in_err-unit-clause-none c =
    let inside : c.loop-at.at < length c.args.tokens.now.items.items = (let h = c.loop-at-test.true in let k = c.len.ensures in omega (arith, h, k)) in
    let p = err_from_is_err_and c.from_residual-in_err-unit.result c.from_residual-in_err-unit.ensures.1 in
    rw (p.1, p.2) (so_lost c.args.tokens.now c.loop-at.at c.next_begun-end.result inside (c.loop-at.invariant.begins inside) c.next_begun-end.ensures.value (ahead c.in_ok-one.one 0) c.in_ok-one.ensures.tokens
    (cut (ahead c.args.tokens.now 0)).units c.loop-at.pool c.loop-at.list.items c.in_err-unit.field-0.0 c.loop-at.invariant.so_far c.in_err-unit.ensures.none)

pub loop-at-preserved : goal.loop-at-preserved
loop-at-preserved c =
    let inside : c.loop-at.at < length c.args.tokens.now.items.items = (let h = c.loop-at-test.true in let k = c.len.ensures in omega (arith, h, k)) in
    let inv = c.loop-at.invariant in
    let kept = c.unit.ensures.kept in
    record {
      bytes = c.in_ok-one.ensures.bytes;
      inside = c.next_begun-end.ensures.within;
      begins = c.next_begun-end.ensures.begins;
      so_far = so_more c.args.tokens.now c.loop-at.at c.next_begun-end.result inside (inv.begins inside) c.next_begun-end.ensures.value (ahead c.in_ok-one.one 0) c.in_ok-one.ensures.tokens (cut (ahead c.args.tokens.now 0)).units
          c.loop-at.pool c.unit.new.pool c.loop-at.list.items c.push.new.self.items c.in_ok-unit.field-0 kept inv.within c.in_ok-unit.ensures.read c.in_ok-push.ensures.items inv.so_far;
      within = units_within (length c.loop-at.pool) (length c.unit.new.pool) kept.longer c.loop-at.list.items c.push.new.self.items c.in_ok-unit.field-0 c.in_ok-push.ensures.items inv.within c.in_ok-unit.ensures.within;
      kept = Keeps-then c.args.pool.now c.loop-at.pool c.unit.new.pool inv.kept kept;
    }
