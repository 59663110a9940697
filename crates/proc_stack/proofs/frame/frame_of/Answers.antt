-- Proves that this is the record of the procedure in the program.
use Rattle.std.proofs.Common.{List, None, ap, ◌∙◌}
use Rattle.std.proofs.lemmas.Result.{IfOk-weaker}
use Rattle.tla_tree.specs.Tree.{Word}
use Rattle.tla_tree.specs.Pool.{at}
use Rattle.written_names.specs.Units.{naming_of}
use Rattle.proc_stack.specs.Pieces.{frame_for}
use Rattle.proc_stack.proofs.CallLaws.{frame_kept}
use Rattle.proc_stack.proofs.frame.frame_of.Goals as goal

pub returns-clause-tree : goal.returns-clause-tree
returns-clause-tree c = λ P d.
    let named = naming_of c.args.draft.now.naming.now in
    let keep = at c.args.pool.now c.args.keep in
    let names = c.as_slice.ensures ∙ c.in_ok-names.ensures in
    IfOk-weaker c.frame_from.result _ _
    (λ r h. h ∙ ap (λ (xs : List Word). frame_for named c.args.callee.now.number xs keep None) names ∙ frame_kept P c.args.callee.now.number c.args.pool.now c.args.callee.now.procedure.now named d.naming keep)
    c.frame_from.ensures.tree
