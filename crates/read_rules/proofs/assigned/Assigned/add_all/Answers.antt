-- Proves that what others have assigned is there too.
use Rattle.read_rules.proofs.SetLaws.{origins_join}
use Rattle.read_rules.proofs.assigned.Assigned.add_all.Goals as goal

pub returns : goal.returns
returns c =
    origins_join c.args.self.now c.args.other.now (record { earlier = c.one_of-self.result; names = c.add_all.new.self }) c.in_ok-add_all.ensures c.one_of-self.ensures
