-- Proves that all definitions are seen.
use Rattle.std.proofs.Common.{length, ap}
use Rattle.start_troubles.proofs.SightLaws.{tests_all}
use Rattle.start_troubles.proofs.plain.member_where.Goals as goal

pub returns : goal.returns
returns g c =
    tests_all c.args.pool.now c.args.defs.now (g.N.Names.look c.args.names.now) c.member.result c.args.e c.args.bound.now c.args.values.now c.args.place c.args.v.now (length c.as_slice.result.now) (ap (λ l. length l) c.as_slice.ensures) c.member.ensures
