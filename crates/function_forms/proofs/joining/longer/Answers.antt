-- Proves what is asked of `longer`.
use Rattle.std.proofs.Common.{◌∙◌, ◌++◌, sym, ap, subst, arith, Ok}
use Rattle.tla_value.specs.Order.{seq_from}
use Rattle.tla_value.specs.ValueOf.{IsStored}
use Rattle.function_forms.proofs.JoiningLaws.{joined_over, joined_deep, joined_stored, reached}
use Rattle.function_forms.proofs.joining.longer.Goals as goal

pub returns-then-len-more-gt-MOST_MEMBERS : goal.returns-then-len-more-gt-MOST_MEMBERS
returns-then-len-more-gt-MOST_MEMBERS c =
    joined_over c.args.at c.args.elements.items c.args.more.now (omega (arith, c.len.ensures, c.if-len-more-gt-MOST_MEMBERS.true))

pub returns-then-depth_in-ge-DEEPEST : goal.returns-then-depth_in-ge-DEEPEST
returns-then-depth_in-ge-DEEPEST c =
    joined_deep c.args.at c.args.elements.items c.args.more.now (omega (arith, c.depth_in.ensures.depth, c.if-depth_in-ge-DEEPEST.true))

pub whole-requires-clause-stored : goal.whole-requires-clause-stored
whole-requires-clause-stored c =
    subst (λ l. IsStored (seq_from l)) (sym c.in_ok-add_elements.ensures.elements)
    (joined_stored c.args.elements.items c.args.more.now c.requires.stored c.depth_in.ensures.stored (omega (arith, c.depth_in.ensures.depth, c.if-depth_in-ge-DEEPEST.false)) (omega (arith, c.len.ensures, c.if-len-more-gt-MOST_MEMBERS.false)))

pub returns : goal.returns
returns c =
    reached c.args.at (seq_from (c.args.elements.items ++ c.args.more.now))
    (joined_stored c.args.elements.items c.args.more.now c.requires.stored c.depth_in.ensures.stored (omega (arith, c.depth_in.ensures.depth, c.if-depth_in-ge-DEEPEST.false)) (omega (arith, c.len.ensures, c.if-len-more-gt-MOST_MEMBERS.false))) ∙
    ap Ok (ap seq_from (sym c.in_ok-add_elements.ensures.elements) ∙ sym c.whole.ensures)
