-- Where no call is to fail, none does.
use Rattle.std.proofs.Common.{◌≡◌, [], false, refl}
use Rattle.outer_io.specs.declared.memory.Calls.{Calls}
use Rattle.outer_io.specs.Memory.{next_fails}

pub next_fails-none : (c : Calls) → c.to_fail.items ≡ [] → next_fails c ≡ false
next_fails-none c e = rw e refl
