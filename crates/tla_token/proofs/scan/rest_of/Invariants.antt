use Rattle.std.proofs.Common.{◌≡◌, ◌-◌, length, drop, map}
use Rattle.tla_token.specs.TokensSeen.{token_seen, AllCanonical}
use Rattle.tla_token.specs.Scanning.{Stands, outcome}
use Rattle.tla_token.proofs.scan.rest_of.Given as goal

abbrev pub invariant-parts : goal.invariant-parts
invariant-parts l = record {
  stands : Stands l.from l.bytes l.scan;
  so_far : outcome l.reading l.from (map (token_seen l.bytes) l.items.items) l.scan (drop l.scan.at l.bytes)
      ≡ outcome l.reading l.from (map (token_seen l.bytes) l.initial.items.items) l.initial.scan (drop l.initial.scan.at l.bytes);
  canonical : AllCanonical l.bytes l.items.items;
}

abbrev pub decreases-parts : goal.decreases-parts
decreases-parts l = length l.bytes - l.scan.at
