-- Proves what is asked of `same_rows`.
use Rattle.std.proofs.Common.{◌∙◌, sym, ap, arith}
use Rattle.std.specs.Ordering.{is_eq}
use Rattle.space_forms.proofs.MemberLaws.{same_step, same_end}
use Rattle.space_forms.proofs.members.same_rows.Goals as goal

pub returns-then-not-is_eq : goal.returns-then-not-is_eq
returns-then-not-is_eq c =
    same_step c.args.a.now c.args.b.now c.loop-i.i c.index-a-i.result c.index-b-i.result _ _ (omega (arith, c.requires)) (omega (arith, c.requires)) c.index-a-i.is c.index-b-i.is (ap is_eq (sym c.compare.ensures) ∙ sym c.is_eq.ensures ∙ c.if-not-is_eq.true) c.loop-i.invariant

pub loop-i-preserved : goal.loop-i-preserved
loop-i-preserved c =
    same_step c.args.a.now c.args.b.now c.loop-i.i c.index-a-i.result c.index-b-i.result _ _ (omega (arith, c.requires)) (omega (arith, c.requires)) c.index-a-i.is c.index-b-i.is (ap is_eq (sym c.compare.ensures) ∙ sym c.is_eq.ensures ∙ c.if-not-is_eq.false) c.loop-i.invariant

pub returns : goal.returns
returns c = same_end c.args.a.now c.args.b.now c.loop-i.i _ (omega arith) (omega (arith, c.requires)) c.loop-i.invariant
