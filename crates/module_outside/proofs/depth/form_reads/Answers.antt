-- Whether a form reads is told of the names in it, or of what it is.
use Rattle.std.proofs.Common.{length, List, Vec, Global, sym, ap, arith, ◌∙◌}
use Rattle.std.proofs.lemmas.List.{take_all}
use Rattle.std.proofs.lemmas.Result.{IfOk-weaker}
use Rattle.std.specs.List.{flat_map}
use Rattle.tla_tree.specs.Tree.{Name, words}
use Rattle.tla_pool.specs.declared.form.Form.{Form}
use Rattle.tla_pool.specs.FormOf.{form_of, groups_of}
use Rattle.module_tree.specs.Outside as pure
use Rattle.module_outside.proofs.DepthLaws.{name_seen, call_seen}
use Rattle.module_outside.proofs.depth.form_reads.Goals as goal

pub returns-in-Name-clause-value : goal.returns-in-Name-clause-value
returns-in-Name-clause-value c v bs s b = rw c.in-Name.is (c.name_reads.ensures ∙ name_seen c.args.sight.now v c.args.bound.now bs c.args.infinite c.in-Name.name s b)

pub returns-in-Call-clause-value : goal.returns-in-Call-clause-value
returns-in-Call-clause-value c v bs s b = rw c.in-Call.is (c.call_reads.ensures ∙ call_seen c.args.sight.now v bs c.args.infinite c.in-Call.name c.args.parts s)

pub returns-in-Number-clause-value : goal.returns-in-Number-clause-value
returns-in-Number-clause-value c v bs s b = ap (λ (m : Form). pure.form_reads v bs c.args.infinite (form_of m) c.args.parts) (sym c.in-Number.is)

pub returns-in-Number-clause-kept : goal.returns-in-Number-clause-kept
returns-in-Number-clause-kept c = take_all (length c.args.bound.now) c.args.bound.now (omega arith)

pub returns-in-Strings-clause-value : goal.returns-in-Strings-clause-value
returns-in-Strings-clause-value c v bs s b = ap (λ (m : Form). pure.form_reads v bs c.args.infinite (form_of m) c.args.parts) (sym c.in-Strings.is)

pub returns-in-Strings-clause-kept : goal.returns-in-Strings-clause-kept
returns-in-Strings-clause-kept c = take_all (length c.args.bound.now) c.args.bound.now (omega arith)

pub returns-in-Name-clause-kept : goal.returns-in-Name-clause-kept
returns-in-Name-clause-kept c = take_all (length c.args.bound.now) c.args.bound.now (omega arith)

pub returns-in-Next-clause-value : goal.returns-in-Next-clause-value
returns-in-Next-clause-value c v bs s b = ap (λ (m : Form). pure.form_reads v bs c.args.infinite (form_of m) c.args.parts) (sym c.in-Next.is)

pub returns-in-Next-clause-kept : goal.returns-in-Next-clause-kept
returns-in-Next-clause-kept c = take_all (length c.args.bound.now) c.args.bound.now (omega arith)

pub returns-in-Call-clause-kept : goal.returns-in-Call-clause-kept
returns-in-Call-clause-kept c = take_all (length c.args.bound.now) c.args.bound.now (omega arith)

pub returns-in-Strict-Operator-clause-kept : goal.returns-in-Strict-Operator-clause-kept
returns-in-Strict-Operator-clause-kept c = take_all (length c.args.bound.now) c.args.bound.now (omega arith)

pub returns-in-Binding-clause-value : goal.returns-in-Binding-clause-value
returns-in-Binding-clause-value c =
    IfOk-weaker c.groups_fresh.result _ _ (λ r h v bs s b.
    h v bs s b ∙ ap (λ (gs : List (Vec Name Global)). pure.are_fresh v bs (flat_map words (groups_of gs))) c.deref.ensures.value ∙ ap (λ (m : Form). pure.form_reads v bs c.args.infinite (form_of m) c.args.parts) (sym c.in-Binding.is))
    c.groups_fresh.ensures.value

pub returns-in-Binding-clause-kept : goal.returns-in-Binding-clause-kept
returns-in-Binding-clause-kept c = c.groups_fresh.ensures.kept

pub returns-in-Local-clause-value : goal.returns-in-Local-clause-value
returns-in-Local-clause-value c =
    IfOk-weaker c.names_fresh.result _ _ (λ r h v bs s b.
    h v bs s b ∙ ap (λ (xs : List Name). pure.are_fresh v bs (words xs)) c.deref-in-Local.ensures.value ∙ ap (λ (m : Form). pure.form_reads v bs c.args.infinite (form_of m) c.args.parts) (sym c.in-Local.is))
    c.names_fresh.ensures.value

pub returns-in-Local-clause-kept : goal.returns-in-Local-clause-kept
returns-in-Local-clause-kept c = c.names_fresh.ensures.kept
