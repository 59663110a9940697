use Rattle.std.proofs.Common.{map, refl}
use Rattle.tla_token.specs.TokensSeen.{token_seen}
use Rattle.tla_token.proofs.Scans.{at_end, goes_known}
use Rattle.tla_token.proofs.scan.next.Goals as goal

pub returns-in-None-clause-goes : goal.returns-in-None-clause-goes
returns-in-None-clause-goes c = (at_end c.args.bytes.now c.args.scan.now.at c.in-None.ensures.part, refl)

pub returns-in_ok-past-in-Some-clause-goes : goal.returns-in_ok-past-in-Some-clause-goes
returns-in_ok-past-in-Some-clause-goes c =
    goes_known c.args.reading c.args.from c.args.bytes.now (map (token_seen c.args.bytes.now) c.args.items.now.items) (map (token_seen c.args.bytes.now) c.past.new.items.items) c.args.scan.now c.part_at.new.wordless c.past.new.scan
    c.in_ok-past-in-Some.ensures.goes
