-- Proves that one definition more is made.
use Rattle.std.proofs.Common.{arith}
use Rattle.tla_tree.proofs.PoolNumbers.{past_at}
use Rattle.pcal_tree.specs.InMemory.{past_definition}
use Rattle.module_builder.proofs.DefinitionLaws.{definitions_more, within_more}
use Rattle.module_builder.proofs.definitions.definitions.Goals as goal

pub loop-one-preserved : goal.loop-one-preserved
loop-one-preserved c =
    let ds = c.loop-one.made in
    let new = c.push.new.self in
    let d = c.in_ok-definition.field-0 in
    let xs = c.args.list.now in
    let i = c.loop-one.one-index in
    let x = c.one-item.result in
    let past = past_at past_definition xs i x c.one-item.is c.loop-one-test.true in
    let same = c.in_ok-definition.ensures.within in (
      λ ts. definitions_more ts ds new d xs i x c.one-item.is c.loop-one-test.true c.in_ok-push.ensures.ok (c.in_ok-definition.ensures.made ts) (c.loop-one.invariant.0 ts),
      λ m all. within_more m ds new d c.in_ok-push.ensures.ok (c.loop-one.invariant.1 m all) (omega (arith, past, all, same)),
    )
