-- Proves what is asked of `put_local`.
use Rattle.std.proofs.Common.{◌∷◌, false, ap}
use Rattle.tla_write.specs.Writing.{shown}
use Rattle.tla_tree.specs.Lexical as tk
use Rattle.tla_tree.specs.Written.{Part, blank, token, spaced, definition_pieces}
use Rattle.tla_write.proofs.WritingLemmas.{shown_append, body_at}
use Rattle.tla_write.proofs.write.put_local.Goals as goal

pub returns : goal.returns
returns c = λ xs h ps. rw c.in_ok-extend_from_slice-2.ensures.items
    (simp shown_append (rw (c.in_ok-put_definitions.ensures xs h ps, c.in_ok-extend_from_slice.ensures.items)
    (simp shown_append (ap (λ (a : Part). token (tk.key tk.let_key) ∷ blank ∷ definition_pieces c.args.names.now xs (spaced (tk.key tk.in_key) (a false (shown xs c.args.plan.now.items ps)))) (body_at c.args.names.now xs h)))))
