-- Proves that the conjunct of one more variable is added.
use Rattle.std.proofs.Common.{map, refl, ap, ◌∙◌, arith}
use Rattle.tla_tree.specs.Pool.{at}
use Rattle.tla_tree.proofs.PoolNumbers.{past_at}
use Rattle.pcal_tree.specs.InMemory.{declaration_at, past_declaration}
use Rattle.module_formulas.specs.Starts.{global_start}
use Rattle.module_formulas.proofs.Grown.{declaration_at-kept, grows_none, grows_one}
use Rattle.module_formulas.proofs.Behind.{adds_one, mapped_more, mapped_all}
use Rattle.module_formulas.proofs.init.add_globals.Goals as goal

pub loop-one-init : goal.loop-one-init
loop-one-init c = (grows_none c.args.pool.now c.args.out.now.items c.requires.below, refl)

pub global_start-requires : goal.global_start-requires
global_start-requires c =
    let past = past_at past_declaration c.args.list.now c.loop-one.one-index c.one-item.result c.one-item.is c.loop-one-test.true in
    omega (arith, past, c.requires.there, c.loop-one.invariant.0.kept.longer)

pub loop-one-preserved : goal.loop-one-preserved
loop-one-preserved c =
    let ts = c.args.pool.now in
    let now = c.loop-one.pool in
    let new = c.global_start.new.pool in
    let kept = c.loop-one.invariant.0.kept in
    let said = c.in_ok-made.ensures in
    let d = c.one-item.result in
    let past = past_at past_declaration c.args.list.now c.loop-one.one-index d c.one-item.is c.loop-one-test.true in (
      grows_one ts now new c.loop-one.out.items c.push.new.self.items c.in_ok-made.made c.loop-one.invariant.0 said.kept said.within c.in_ok-push.ensures.items,
      mapped_more global_start (declaration_at ts) c.args.list.now c.loop-one.one-index d c.one-item.is c.loop-one-test.true
          (map (at now) c.loop-one.out.items) (map (at new) c.push.new.self.items) _
          (adds_one now new c.loop-one.out.items c.push.new.self.items c.in_ok-made.made _ said.kept c.loop-one.invariant.0.below
          (said.tree ∙ ap global_start (declaration_at-kept ts now kept d (omega (arith, past, c.requires.there)))) c.in_ok-push.ensures.items)
          c.loop-one.invariant.1,
    )

pub returns-clause-made : goal.returns-clause-made
returns-clause-made c =
    mapped_all global_start (declaration_at c.args.pool.now) c.args.list.now c.loop-one.one-index (map (at c.loop-one.pool) c.loop-one.out.items) _ c.loop-one-test.false c.loop-one.invariant.1
