-- What is kept: the settings of the groups that were passed go behind the items that were there.
use Rattle.std.proofs.Common.{take}
use Rattle.tla_token.specs.Signs.{is_among}
use Rattle.name_bits.specs.NamesIn.{names_in}
use Rattle.right_sides.proofs.StatementLaws.{SetTo}
use Rattle.right_sides.proofs.statement.group_settings.Given as goal

abbrev pub invariant-loop-number : goal.invariant-loop-number
invariant-loop-number l = SetTo l.fn.pool l.pool l.fn.out.items l.out.items (is_among (names_in l.order l.assigned)) l.after (take l.number l.groups.entries)
