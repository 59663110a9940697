-- What was written is the front of the bytes.
use Rattle.std.proofs.Common.{◌≡◌, ◌-◌, ◌≤◌, length, take}
use Rattle.outer_io.specs.Outer.{Grows}
use Rattle.outer_io.proofs.writing.put_all.Given as goal

abbrev pub invariant-pieces : goal.invariant-pieces
invariant-pieces g l = record {
  within : l.at ≤ length l.bytes;
  grows : Grows (g.K.Sink.wrote l.initial.sink) (g.K.Sink.wrote l.sink) (take l.at l.bytes);
  faults_stay : g.K.Sink.faults l.sink ≡ g.K.Sink.faults l.initial.sink;
}

abbrev pub decreases-pieces : goal.decreases-pieces
decreases-pieces g l = length l.bytes - l.at
