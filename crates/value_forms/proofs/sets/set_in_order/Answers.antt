-- Proves what is asked of `set_in_order`.
use Rattle.std.proofs.Common.{arith}
use Rattle.tla_value.specs.Value.{values_in}
use Rattle.tla_value.proofs.ValueLists.{count-values_in}
use Rattle.value_forms.proofs.PartLaws.{set_stored, set_over, set_made}
use Rattle.value_forms.proofs.sets.set_in_order.Goals as goal

pub returns-then-len-gt-MOST_MEMBERS : goal.returns-then-len-gt-MOST_MEMBERS
returns-then-len-gt-MOST_MEMBERS c =
    set_over c.args.at (values_in c.args.members.items) (omega (arith, count-values_in c.args.members.items, c.len.ensures, c.if-len-gt-MOST_MEMBERS.true))

pub invariant_of-result : goal.invariant_of-result
invariant_of-result c =
    set_stored (values_in c.args.members.items) c.requires.ascending c.requires.parts (omega (arith, count-values_in c.args.members.items, c.len.ensures, c.if-len-gt-MOST_MEMBERS.false))

pub returns : goal.returns
returns c =
    set_made c.args.at (values_in c.args.members.items) c.requires.parts (omega (arith, count-values_in c.args.members.items, c.len.ensures, c.if-len-gt-MOST_MEMBERS.false))
