-- Proves that what names are or read is there besides.
use Rattle.std.proofs.Common.{subst}
use Rattle.pcal_tree.specs.Algorithm.{Name}
use Rattle.read_rules.specs.Joins.{Joins}
use Rattle.read_rules.specs.ReadsIn.{read_with}
use Rattle.read_rules.proofs.ReadLaws.{reads_more, reads_whole}
use Rattle.read_rules.proofs.definitions.Reads.add_reads.Goals as goal

pub loop-one-preserved : goal.loop-one-preserved
loop-one-preserved c = λ ds a.
    let gs = c.args.globals.now in
    let now = c.loop-one.into in
    let new = c.add_read.new.into in
    reads_more gs ds c.args.into.now now new c.args.names.now c.loop-one.one-index c.one-item.result c.one-item.is c.loop-one-test.true (c.loop-one.invariant ds a)
    (subst (λ (n : Name). Joins now new (read_with gs ds n.word)) c.one.view_is (c.in_ok-add_read.ensures ds a))

pub returns : goal.returns
returns c = λ ds a. reads_whole c.args.globals.now ds c.args.into.now c.loop-one.into c.args.names.now c.loop-one.one-index c.loop-one-test.false (c.loop-one.invariant ds a)
