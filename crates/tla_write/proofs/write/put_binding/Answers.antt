-- Proves what is asked of `put_binding`.
use Rattle.std.proofs.Common.{sym, ap, ◌∙◌, true, false}
use Rattle.tla_write.specs.Writing.{shown}
use Rattle.tla_tree.specs.Lexical as tk
use Rattle.tla_tree.specs.declared.op.Binder.{Binder}
use Rattle.tla_pool.specs.FormOf.{groups_of}
use Rattle.tla_tree.specs.Written.{Part, mark, spaced, colon, bind_pieces, binding_pieces}
use Rattle.tla_write.proofs.WritingLemmas.{shown_append, body_groups}
use Rattle.tla_write.proofs.write.put_binding.Goals as goal

pub returns-in_ok-push-in-Filter : goal.returns-in_ok-push-in-Filter
returns-in_ok-push-in-Filter c = λ xs h ps. rw (c.in_ok-push-in-Filter.ensures.items)
    (simp shown_append (rw (c.in_ok-put_binds-in-Filter.ensures xs h ps, c.in_ok-extend_from_slice-in-Filter.ensures.items)
    (simp shown_append (ap (λ (a : Part). mark tk.open_brace (bind_pieces (groups_of c.args.groups.now) xs (colon (a false (mark tk.close_brace (shown xs c.args.plan.now.items ps)))))) (body_groups c.args.groups.now xs h) ∙ ap (λ (b : Binder). binding_pieces b (groups_of c.args.groups.now) xs (shown xs c.args.plan.now.items ps)) (sym c.in-Filter.is)))))

pub returns-in_ok-extend_from_slice-in-Image : goal.returns-in_ok-extend_from_slice-in-Image
returns-in_ok-extend_from_slice-in-Image c = λ xs h ps. rw c.in_ok-extend_from_slice-in-Image.ensures.items
    (simp shown_append (rw (c.in_ok-put_binds-in-Image.ensures xs h ps, c.in_ok-push-in-Image.ensures.items)
    (simp shown_append (ap (λ (a : Part). mark tk.open_brace (a true (colon (bind_pieces (groups_of c.args.groups.now) xs (mark tk.close_brace (shown xs c.args.plan.now.items ps)))))) (body_groups c.args.groups.now xs h) ∙ ap (λ (b : Binder). binding_pieces b (groups_of c.args.groups.now) xs (shown xs c.args.plan.now.items ps)) (sym c.in-Image.is)))))

pub returns-in_ok-push-in-Function : goal.returns-in_ok-push-in-Function
returns-in_ok-push-in-Function c = λ xs h ps. rw (c.in_ok-push-in-Function.ensures.items)
    (simp shown_append (rw (c.in_ok-put_binds-in-Function.ensures xs h ps, c.in_ok-extend_from_slice-in-Function.ensures.items)
    (simp shown_append (ap (λ (a : Part). mark tk.open_square (bind_pieces (groups_of c.args.groups.now) xs (spaced (tk.mark tk.maps) (a false (mark tk.close_square (shown xs c.args.plan.now.items ps)))))) (body_groups c.args.groups.now xs h) ∙ ap (λ (b : Binder). binding_pieces b (groups_of c.args.groups.now) xs (shown xs c.args.plan.now.items ps)) (sym c.in-Function.is)))))
