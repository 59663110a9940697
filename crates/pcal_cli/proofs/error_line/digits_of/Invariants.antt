-- The digits so far are the last ones, and there is room for the others.
use Rattle.std.proofs.Common.{◌≡◌, ◌^◌, ◌<◌, ◌++◌, length, drop}
use Rattle.std.specs.Fmt.{decimal}
use Rattle.pcal_cli.proofs.ErrorLine.{front_digits}
use Rattle.pcal_cli.proofs.error_line.digits_of.Given as goal

abbrev pub invariant-loop-rest : goal.invariant-loop-rest
invariant-loop-rest l = record {
  digits : front_digits l.rest ++ drop l.from l.bytes ≡ decimal l.number;
  room : l.rest < 10 ^ l.from;
  within : l.from < 10;
  size : length l.bytes ≡ 10;
  small : l.rest < 2 ^ 32;
}

abbrev pub decreases-loop-rest : goal.decreases-loop-rest
decreases-loop-rest l = l.rest
