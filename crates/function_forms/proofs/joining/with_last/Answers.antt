-- Proves what is asked of `with_last`.
use Rattle.std.proofs.Common.{◌∙◌, ◌∷◌, [], ◌++◌, sym, ap, subst, arith, Ok}
use Rattle.tla_value.specs.Order.{seq_from}
use Rattle.tla_value.specs.ValueOf.{IsStored}
use Rattle.function_forms.proofs.JoiningLaws.{joined_over, joined_deep, last_stored, reached}
use Rattle.function_forms.proofs.joining.with_last.Goals as goal

pub returns-then-len-ge-MOST_MEMBERS : goal.returns-then-len-ge-MOST_MEMBERS
returns-then-len-ge-MOST_MEMBERS c =
    joined_over c.args.at c.args.elements.items (c.args.e ∷ []) (omega (arith, c.len.ensures, c.if-len-ge-MOST_MEMBERS.true))

pub returns-then-depth_of-ge-DEEPEST : goal.returns-then-depth_of-ge-DEEPEST
returns-then-depth_of-ge-DEEPEST c =
    joined_deep c.args.at c.args.elements.items (c.args.e ∷ []) (omega (arith, c.depth_of.ensures.depth, c.if-depth_of-ge-DEEPEST.true))

pub whole-requires-clause-stored : goal.whole-requires-clause-stored
whole-requires-clause-stored c =
    subst (λ l. IsStored (seq_from l)) (sym c.in_ok-add_element.ensures.elements)
    (last_stored c.args.elements.items c.args.e c.requires.stored c.depth_of.ensures.stored (omega (arith, c.depth_of.ensures.depth, c.if-depth_of-ge-DEEPEST.false)) (omega (arith, c.len.ensures, c.if-len-ge-MOST_MEMBERS.false)))

pub returns : goal.returns
returns c =
    reached c.args.at (seq_from (c.args.elements.items ++ c.args.e ∷ []))
    (last_stored c.args.elements.items c.args.e c.requires.stored c.depth_of.ensures.stored (omega (arith, c.depth_of.ensures.depth, c.if-depth_of-ge-DEEPEST.false)) (omega (arith, c.len.ensures, c.if-len-ge-MOST_MEMBERS.false))) ∙
    ap Ok (ap seq_from (sym c.in_ok-add_element.ensures.elements) ∙ sym c.whole.ensures)
