-- Proves that a use that is kept offends what the same one does that is no earlier, and that one of the first is found.
use Rattle.name_rules.proofs.CoverLaws.{told_covered}
use Rattle.name_rules.proofs.found.Found.is_told.Goals as goal

pub returns-then-is_earlier-clause-tells : goal.returns-then-is_earlier-clause-tells
returns-then-is_earlier-clause-tells c = λ t s.
    let h = c.is_earlier.ensures.0 c.if-is_earlier.true in
    let f = c.args.self.now in
    told_covered f.first f.free.keys c.as_slice-uses.result.now c.loop-i.i c.index-uses-i.result c.args.kind c.args.name.now c.args.place s c.as_slice-uses.ensures.keys c.index-uses-i.is c.loop-i-test.true h.0 h.1 h.2
