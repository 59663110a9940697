-- Proves that a left side outside macros is as it was, and that the parts of what is made are older than it.
use Rattle.std.proofs.Common.{length, sym, ap, ◌∙◌, subst, arith}
use Rattle.tla_tree.specs.Tree.{Graft}
use Rattle.tla_tree.specs.Pool.{Entry, at, AllBelow}
use Rattle.tla_tree.proofs.PoolNumbers.{AllBelow-more}
use Rattle.pcal_tree.specs.Expand.{graft_left}
use Rattle.expansion_size.specs.declared.frames.Frames.{Frames}
use Rattle.expansion_size.specs.FramesIn.{put_by}
use Rattle.expansion_size.proofs.FrameLaws.{put_outside}
use Rattle.macro_arguments.proofs.TreeLaws.{left_none}
use Rattle.macro_arguments.proofs.expressions.left_side.Goals as goal

pub returns-in-Outside-clause-tree : goal.returns-in-Outside-clause-tree
returns-in-Outside-clause-tree c =
    let ts = c.args.pool.now in
    let l = at ts c.args.e in
    sym (ap (λ (f : Frames). graft_left (put_by ts f) l) c.in-Outside.is ∙ ap (λ (g : Graft). graft_left g l) (put_outside ts) ∙ left_none l)

pub put-requires-clause-below : goal.put-requires-clause-below
put-requires-clause-below c =
    let whole = c.in_ok-whole-in_default.whole in
    AllBelow-more whole (length c.grafted.new.pool) _ (omega (arith, c.in_ok-whole-in_default.ensures.within))
    (subst (λ (n : Entry). AllBelow whole n.parts) (sym (c.form.view_is ∙ c.in_ok-form-in_default.ensures)) c.node-in_default.ensures.older)
