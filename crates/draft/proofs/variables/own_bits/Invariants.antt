-- What is kept: the names that were passed are in.
use Rattle.std.proofs.Common.{◌≡◌, ◌≤◌, ◌&&◌, length, take}
use Rattle.tla_token.specs.Signs.{is_among}
use Rattle.tla_tree.specs.Tree.{Word}
use Rattle.name_bits.specs.NamesIn.{most, names_in}
use Rattle.draft.proofs.variables.own_bits.Given as goal

abbrev pub invariant-loop-name : goal.invariant-loop-name
invariant-loop-name l = length l.order ≤ most → (x : Word) → is_among (names_in l.order l.bits) x ≡ (is_among (take l.name-index l.names) x && is_among l.order x)
