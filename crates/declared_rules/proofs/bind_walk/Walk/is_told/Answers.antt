-- Proves that a name that is kept offends where the same one does that is bound no earlier, and that one of the first is found.
use Rattle.declared_rules.proofs.LeafLaws.{gains_told}
use Rattle.declared_rules.proofs.bind_walk.Walk.is_told.Goals as goal

pub returns-then-is_earlier-clause-tells : goal.returns-then-is_earlier-clause-tells
returns-then-is_earlier-clause-tells c = λ t.
    gains_told c.args.self.now c.as_slice-list.result.now c.loop-i.i c.index-list-i.result c.args.name.now c.as_slice-list.ensures.keys c.index-list-i.is c.loop-i-test.true
    (c.is_earlier.ensures.0 c.if-is_earlier.true)
