use Rattle.std.proofs.Common.{sym, ◌∙◌, arith}
use Rattle.module_tree.specs.FileParts.{is_newline}
use Rattle.module_split.proofs.StandSteps.{seen_found, seen_not, seen_none}
use Rattle.module_split.proofs.seek.newline_index.Goals as goal

pub returns-then-is_newline : goal.returns-then-is_newline
returns-then-is_newline c = sym (seen_found is_newline c.args.text.now c.args.stands.now c.loop-i.i _ (omega arith) (sym c.is_newline.ensures ∙ c.if-is_newline.true)) ∙ c.loop-i.invariant

pub loop-i-preserved : goal.loop-i-preserved
loop-i-preserved c = seen_not is_newline c.args.text.now c.args.stands.now c.loop-i.i _ (omega arith) (sym c.is_newline.ensures ∙ c.if-is_newline.false) ∙ c.loop-i.invariant

pub returns : goal.returns
returns c = sym (seen_none is_newline c.args.text.now c.args.stands.now c.loop-i.i (omega arith)) ∙ c.loop-i.invariant
