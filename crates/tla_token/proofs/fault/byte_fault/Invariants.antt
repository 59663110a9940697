use Rattle.std.proofs.Common.{◌≡◌, ◌+◌, drop}
use Rattle.tla_token.specs.Offences.{byte_offences, least}
use Rattle.tla_token.specs.Readings.{joined}
use Rattle.tla_token.proofs.fault.byte_fault.Given as goal

abbrev pub invariant-bytes : goal.invariant-bytes
invariant-bytes l = joined l.fault (least (byte_offences (l.fn.at + l.i) (drop l.i l.bytes))) ≡ least (byte_offences l.fn.at l.bytes)
