use Rattle.std.proofs.Common.{ap, sym, ◌∙◌, arith, is_some}
use Rattle.module_tree.specs.FileParts.{holds_algorithm}
use Rattle.module_split.proofs.StandSteps.{seen_found, seen_not, seen_none}
use Rattle.module_split.proofs.seek.holder.Goals as goal

pub returns-then-is_some : goal.returns-then-is_some
returns-then-is_some c =
    sym (seen_found holds_algorithm c.args.text.now c.args.stands.now c.loop-i.i _ (omega arith) (ap is_some (sym c.beginning_in.ensures) ∙ sym c.is_some.ensures ∙ c.if-is_some.true)) ∙ c.loop-i.invariant

pub loop-i-preserved : goal.loop-i-preserved
loop-i-preserved c =
    seen_not holds_algorithm c.args.text.now c.args.stands.now c.loop-i.i _ (omega arith) (ap is_some (sym c.beginning_in.ensures) ∙ sym c.is_some.ensures ∙ c.if-is_some.false) ∙ c.loop-i.invariant

pub returns : goal.returns
returns c = sym (seen_none holds_algorithm c.args.text.now c.args.stands.now c.loop-i.i (omega arith)) ∙ c.loop-i.invariant
