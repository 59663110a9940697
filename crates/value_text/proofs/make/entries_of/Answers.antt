-- Proves what is asked of `entries_of`.
use Rattle.std.proofs.Common.{◌≡◌, refl, arith, ap, length, length-append, ◌∷◌, []}
use Rattle.value_text.proofs.EntryLemmas.{one_entry}
use Rattle.value_text.proofs.make.entries_of.Goals as goal

pub loop-key-preserved-in-Continue-1 : goal.loop-key-preserved-in-Continue-1
loop-key-preserved-in-Continue-1 c =
    let less : length c.pop.new.self.items ≡ length c.pop-in-Some.new.self.items = omega (arith, c.loop-key.invariant.0, ap length c.in-Some.ensures.items, ap length c.in-Some-pop.ensures.items, length-append c.pop.new.self.items (c.in-Some.key ∷ []), length-append c.pop-in-Some.new.self.items (c.in-Some-pop.value ∷ [])) in
    (less, one_entry c.pop.new.self.items c.pop-in-Some.new.self.items c.loop-key.keys.items c.loop-key.values.items c.in-Some.key c.in-Some-pop.value _ c.loop-key.entries.items c.push.new.self.items _ c.in-Some.ensures.items c.in-Some-pop.ensures.items less c.in_ok-push.ensures.items (refl, refl) c.loop-key.invariant.1)
