-- Proves that the first offence of declarations is found.
use Rattle.pcal_tree.specs.InMemory.{declaration_at}
use Rattle.pcal_tree.specs.OffencesSelf.{selves}
use Rattle.read_rules.proofs.FoundLaws.{found_more}
use Rattle.read_rules.proofs.SelfLaws.{used_by_start, selves_all}
use Rattle.read_rules.proofs.selves.with_starts.Goals as goal

pub loop-i-preserved : goal.loop-i-preserved
loop-i-preserved c =
    found_more (λ d. selves (used_by_start (declaration_at c.args.pool.now d))) c.args.list.now c.loop-i.i c.index-list-i.result c.args.so_far c.loop-i.found c.in_ok-found.found c.index-list-i.is c.loop-i-test.true c.in_ok-found.ensures
    c.loop-i.invariant

pub returns : goal.returns
returns c = selves_all used_by_start (declaration_at c.args.pool.now) c.args.list.now c.loop-i.i c.args.so_far c.loop-i.found c.loop-i-test.false c.loop-i.invariant
