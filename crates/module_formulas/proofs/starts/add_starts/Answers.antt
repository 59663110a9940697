-- Proves that the conjunct of one more variable is added.
use Rattle.std.proofs.Common.{map, refl, ◌∙◌, arith}
use Rattle.tla_tree.specs.Pool.{at}
use Rattle.tla_tree.proofs.PoolNumbers.{past_at}
use Rattle.pcal_tree.specs.InMemory.{declaration_at, past_declaration}
use Rattle.draft.proofs.Grown.{draft_kept}
use Rattle.module_formulas.specs.TakersIn.{taker_at}
use Rattle.module_formulas.specs.Starts.{local_start}
use Rattle.module_formulas.proofs.Grown.{taker_at-kept, taker_in-kept, declaration_at-kept, grows_none, grows_one}
use Rattle.module_formulas.proofs.Behind.{adds_one, mapped_more, mapped_all}
use Rattle.module_formulas.proofs.starts.add_starts.Goals as goal

pub loop-one-init : goal.loop-one-init
loop-one-init c = (grows_none c.args.pool.now c.args.out.now.items c.requires.below, λ P u d l. refl)

pub local_start-requires-clause-there : goal.local_start-requires-clause-there
local_start-requires-clause-there c =
    let past = past_at past_declaration c.args.list.now c.loop-one.one-index c.one-item.result c.one-item.is c.loop-one-test.true in
    omega (arith, past, c.requires.there, c.loop-one.invariant.0.kept.longer)

pub local_start-requires-clause-within : goal.local_start-requires-clause-within
local_start-requires-clause-within c = taker_in-kept c.args.pool.now c.loop-one.pool c.loop-one.invariant.0.kept c.args.taker c.requires.within

pub loop-one-preserved : goal.loop-one-preserved
loop-one-preserved c =
    let ts = c.args.pool.now in
    let now = c.loop-one.pool in
    let new = c.local_start.new.pool in
    let kept = c.loop-one.invariant.0.kept in
    let said = c.in_ok-made.ensures in
    let d = c.one-item.result in
    let past = past_at past_declaration c.args.list.now c.loop-one.one-index d c.one-item.is c.loop-one-test.true in (
      grows_one ts now new c.loop-one.out.items c.push.new.self.items c.in_ok-made.made c.loop-one.invariant.0 said.kept said.within c.in_ok-push.ensures.items,
      λ P u draft local.
          mapped_more (local_start P u (taker_at ts c.args.taker)) (declaration_at ts) c.args.list.now c.loop-one.one-index d c.one-item.is c.loop-one-test.true
          (map (at now) c.loop-one.out.items) (map (at new) c.push.new.self.items) _
          (adds_one now new c.loop-one.out.items c.push.new.self.items c.in_ok-made.made _ said.kept c.loop-one.invariant.0.below
          (said.tree P u (draft_kept ts now kept c.args.draft.now P draft) local
          ∙ (λ j. local_start P u (taker_at-kept ts now kept c.args.taker c.requires.within j) (declaration_at-kept ts now kept d (omega (arith, past, c.requires.there)) j)))
          c.in_ok-push.ensures.items)
          (c.loop-one.invariant.1 P u draft local),
    )

pub returns-clause-made : goal.returns-clause-made
returns-clause-made c = λ P u draft local.
    mapped_all (local_start P u (taker_at c.args.pool.now c.args.taker)) (declaration_at c.args.pool.now) c.args.list.now c.loop-one.one-index
    (map (at c.loop-one.pool) c.loop-one.out.items) _ c.loop-one-test.false (c.loop-one.invariant.1 P u draft local)
