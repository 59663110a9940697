-- Proves what is asked of `same_members`.
use Rattle.std.proofs.Common.{◌∙◌, sym}
use Rattle.space_forms.proofs.MemberLaws.{lengths_differ, lengths_agree}
use Rattle.space_forms.proofs.members.same_members.Goals as goal

pub returns-then-a-b : goal.returns-then-a-b
returns-then-a-b c = sym (lengths_differ c.args.a.now c.args.b.now c.if-a-b.true)

pub returns : goal.returns
returns c = c.same_rows.ensures ∙ sym (lengths_agree c.args.a.now c.args.b.now c.if-a-b.false)
