-- Proves what is asked of `put_form`.
use Rattle.std.proofs.Common.{◌≡◌, ◌∷◌, arith, sym, ap, subst, ◌∙◌, length, List, Vec}
use Rattle.tla_write.specs.Writing.{shown}
use Rattle.tla_pool.specs.declared.form.Form.{Form}
use Rattle.std.proofs.lemmas.List.{length-map}
use Rattle.std.specs.declared.alloc.Global.{Global}
use Rattle.tla_tree.specs.Tree.{Name}
use Rattle.tla_tree.specs.Lexical.{TokenView}
use Rattle.tla_pool.specs.FormOf.{form_of, groups_of}
use Rattle.tla_tree.specs.Shapes.{Shaped}
use Rattle.tla_tree.specs.Written.{token, form_pieces, binding_pieces}
use Rattle.tla_write.proofs.WritingLemmas.{shown_append, binder_count}
use Rattle.tla_write.proofs.write.put_form.Goals as goal

pub returns-in_ok-push-in-Number : goal.returns-in_ok-push-in-Number
returns-in_ok-push-in-Number c = λ xs h ps. rw c.in_ok-push-in-Number.ensures.items (simp shown_append (ap (λ (m : Form). form_pieces (form_of m) xs (shown xs c.args.plan.now.items ps)) (sym c.in-Number.is)))

pub returns-in_ok-push-in-String : goal.returns-in_ok-push-in-String
returns-in_ok-push-in-String c = λ xs h ps. rw c.in_ok-push-in-String.ensures.items (simp shown_append (ap (λ (m : Form). form_pieces (form_of m) xs (shown xs c.args.plan.now.items ps)) (sym c.in-String.is)))

pub returns-in_ok-push-in-Booleans : goal.returns-in_ok-push-in-Booleans
returns-in_ok-push-in-Booleans c = λ xs h ps. rw c.in_ok-push-in-Booleans.ensures.items (simp shown_append (ap (λ (m : Form). form_pieces (form_of m) xs (shown xs c.args.plan.now.items ps)) (sym c.in-Booleans.is)))

pub returns-in_ok-push-in-Strings : goal.returns-in_ok-push-in-Strings
returns-in_ok-push-in-Strings c = λ xs h ps. rw c.in_ok-push-in-Strings.ensures.items (simp shown_append (ap (λ (m : Form). form_pieces (form_of m) xs (shown xs c.args.plan.now.items ps)) (sym c.in-Strings.is)))

pub returns-in_ok-push-in-Name : goal.returns-in_ok-push-in-Name
returns-in_ok-push-in-Name c = λ xs h ps. rw c.in_ok-push-in-Name.ensures.items (simp shown_append (ap (λ (m : Form). form_pieces (form_of m) xs (shown xs c.args.plan.now.items ps)) (sym c.in-Name.is)))

pub returns-in_ok-push-in-Truth : goal.returns-in_ok-push-in-Truth
returns-in_ok-push-in-Truth c = λ xs h ps. rw c.in_ok-push-in-Truth.ensures.items (simp shown_append (ap (λ (k : TokenView). token k ∷ (shown xs c.args.plan.now.items ps)) c.truth.ensures ∙ ap (λ (m : Form). form_pieces (form_of m) xs (shown xs c.args.plan.now.items ps)) (sym c.in-Truth.is)))

pub returns-in_ok-extend_from_slice-in-Next : goal.returns-in_ok-extend_from_slice-in-Next
returns-in_ok-extend_from_slice-in-Next c = λ xs h ps. rw c.in_ok-extend_from_slice-in-Next.ensures.items (simp shown_append (ap (λ (m : Form). form_pieces (form_of m) xs (shown xs c.args.plan.now.items ps)) (sym c.in-Next.is)))

pub returns-in_ok-extend_from_slice-in-Call : goal.returns-in_ok-extend_from_slice-in-Call
returns-in_ok-extend_from_slice-in-Call c = λ xs h ps. rw c.in_ok-extend_from_slice-in-Call.ensures.items (simp shown_append (rw (c.in_ok-put_listed-in-Call.ensures xs h ps, c.in_ok-push-in-Call.ensures.items) (simp shown_append (ap (λ (m : Form). form_pieces (form_of m) xs (shown xs c.args.plan.now.items ps)) (sym c.in-Call.is)))))

pub returns-in_ok-extend_from_slice-in-Cases : goal.returns-in_ok-extend_from_slice-in-Cases
returns-in_ok-extend_from_slice-in-Cases c = λ xs h ps. rw c.in_ok-extend_from_slice-in-Cases.ensures.items (simp shown_append (rw (c.in_ok-put_arms-in-Cases.ensures xs h ps) (ap (λ (m : Form). form_pieces (form_of m) xs (shown xs c.args.plan.now.items ps)) (sym c.in-Cases.is))))

pub returns-in_ok-put_binding-in-Binding : goal.returns-in_ok-put_binding-in-Binding
returns-in_ok-put_binding-in-Binding c = λ xs h ps.
    let groups = c.in-Binding.groups.items in
    let count = binder_count c.in-Binding.binder (groups_of groups) c.args.n (subst (λ (m : Form). Shaped (form_of m) c.args.n) c.in-Binding.is c.requires) in
    let long : length (groups_of groups) ≡ length groups = length-map groups (λ (g : Vec Name Global). g.items) in
    c.in_ok-put_binding-in-Binding.ensures xs (omega (arith, h, count, long, ap length c.deref.ensures.value)) ps
    ∙ ap (λ (gs : List (Vec Name Global)). binding_pieces c.in-Binding.binder (groups_of gs) xs (shown xs c.args.plan.now.items ps)) c.deref.ensures.value
    ∙ ap (λ (m : Form). form_pieces (form_of m) xs (shown xs c.args.plan.now.items ps)) (sym c.in-Binding.is)
