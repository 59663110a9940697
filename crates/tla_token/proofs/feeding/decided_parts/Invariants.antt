use Rattle.std.proofs.Common.{◌≡◌, ◌-◌, ◌++◌, length, drop, map}
use Rattle.tla_token.specs.Cut.{parts}
use Rattle.tla_token.specs.Scan.{outline, IsWordless}
use Rattle.tla_token.specs.Feeding.{decided, undecided, AreDecided}
use Rattle.tla_token.proofs.feeding.decided_parts.Given as goal

abbrev pub invariant-parts : goal.invariant-parts
invariant-parts l = record {
  all : l.parts.items ++ map outline (decided (parts (drop l.at l.text))) ≡ l.fn.parts.items ++ map outline (decided (parts l.text));
  rest : undecided (parts (drop l.at l.text)) ≡ undecided (parts l.text);
  cut : AreDecided l.text l.fn.parts.items l.parts.items l.at;
  known : IsWordless l.wordless (drop l.at l.text);
}

abbrev pub decreases-parts : goal.decreases-parts
decreases-parts l = length l.text - l.at
