use Rattle.std.proofs.Common.{◌≡◌, ◌++◌, drop, map, true}
use Rattle.tla_token.specs.KeptWords.{are_kept}
use Rattle.tla_token.specs.TokensSeen.{token_seen}
use Rattle.module_split.specs.StandsSeen.{stands_seen}
use Rattle.module_split.specs.SplitSeen.{plain_tokens}
use Rattle.module_split.proofs.split.add_tokens.Given as goal

abbrev pub invariant-stands : goal.invariant-stands
invariant-stands l = record {
  so_far : map (token_seen l.text) l.items.items ++ plain_tokens (stands_seen l.text (drop l.stand-index l.stands))
      ≡ map (token_seen l.text) l.initial.items.items ++ plain_tokens (stands_seen l.text l.stands);
  kept : are_kept l.text l.items.items ≡ true;
}
