-- Proves that this is the jump to the label's written name.
use Rattle.std.proofs.Common.{ap, ◌∙◌}
use Rattle.std.proofs.lemmas.Result.{IfOk-weaker}
use Rattle.tla_tree.specs.Tree.{Word}
use Rattle.pcal_tree.specs.Algorithm.{nowhere, Assignments, assign, done, then}
use Rattle.pcal_tree.specs.Variables.{pc}
use Rattle.action_builder.specs.Jumps.{name_at, text_at, one_assignment, spot}
use Rattle.proc_stack.proofs.moves.jump_move.Goals as goal

pub returns-clause-tree : goal.returns-clause-tree
returns-clause-tree c = λ P u d number.
    IfOk-weaker c.to_label.result _ _
    (λ r h. ap (λ (m : Assignments). then (spot nowhere) (assign m) done) (h ∙ ap (λ (l : Word). one_assignment (name_at nowhere pc) (text_at nowhere l)) (c.label_name.ensures P u d.naming number)))
    c.to_label.ensures.made
