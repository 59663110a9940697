-- Proves that the uses of several expressions are added.
use Rattle.std.proofs.Common.{slice_index_or, ◌∙◌}
use Rattle.std.proofs.lemmas.List.{get_or_default}
use Rattle.read_rules.proofs.UseLaws.{parts_then, parts_done}
use Rattle.read_rules.specs.UsesIn.{uses_of}
use Rattle.read_rules.proofs.uses.add_all_uses.Goals as goal

pub loop-i-preserved : goal.loop-i-preserved
loop-i-preserved c =
    let e = slice_index_or c.args.es.now c.loop-i.i 0 in
    parts_then c.args.pool.now (uses_of c.loop-i.list.items) (uses_of c.add_uses.new.list.items) c.args.es.now c.loop-i.i e (get_or_default c.args.es.now c.loop-i.i 0 e c.loop-i-test.true) c.loop-i-test.true c.in_ok-add_uses.ensures
    ∙ c.loop-i.invariant

pub returns : goal.returns
returns c = parts_done c.args.pool.now (uses_of c.loop-i.list.items) c.args.es.now c.loop-i.i c.loop-i-test.false ∙ c.loop-i.invariant
