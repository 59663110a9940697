-- Proves that all processes are taken from the map, in its order.
use Rattle.std.proofs.Common.{map, ap, length, arith}
use Rattle.std.proofs.lemmas.Bool.{false≢true}
use Rattle.step_moves.specs.InMemory.{entry_at}
use Rattle.step_moves.proofs.EntryLaws.{moved_one, all_moved}
use Rattle.step_moves.proofs.apart.in_order.Goals as goal

pub loop-identifier-preserved : goal.loop-identifier-preserved
loop-identifier-preserved c = λ ts.
    moved_one ts c.loop-identifier.all.items c.push.new.self.items c.loop-identifier.known.entries c.pop_first.new.self.entries _ _ (map (entry_at ts) c.args.known.entries)
    c.in-Some.ensures.removal c.in_ok-push.ensures.items (c.loop-identifier.invariant ts)

pub loop-identifier-smaller : goal.loop-identifier-smaller
loop-identifier-smaller c = omega (arith, ap length c.in-Some.ensures.removal)

pub returns : goal.returns
returns c = λ ts.
    all_moved ts c.loop-identifier.all.items c.loop-identifier.known.entries (map (entry_at ts) c.args.known.entries) (λ h. false≢true (c.in_default.ensures.variant.1 h)) (c.loop-identifier.invariant ts)
