-- Proves that what a form offends is found.
use Rattle.std.proofs.Common.{false, List, Vec, Global, [], ◌∷◌, sym, ap, subst}
use Rattle.std.proofs.lemmas.Result.{on_ok_weaker}
use Rattle.tla_tree.specs.Tree.{Name}
use Rattle.tla_pool.specs.declared.form.Form.{Form}
use Rattle.tla_pool.specs.FormOf.{groups_of, strict_of, form_of}
use Rattle.pcal_tree.specs.BoundNames.{all_of}
use Rattle.declared_rules.specs.Parts.{bound}
use Rattle.declared_rules.specs.Finding.{Joins, node_offences}
use Rattle.declared_rules.proofs.JoinLaws.{adds_as}
use Rattle.declared_rules.proofs.SweepLaws.{binder_joined, local_joined, sign_joined}
use Rattle.declared_rules.proofs.found.Found.form.Goals as goal

pub returns-in-Binding : goal.returns-in-Binding
returns-in-Binding c =
    on_ok_weaker c.group_list.result
    (λ done ts.
    binder_joined ts c.args.self.now c.group_list.new.self (form_of c.args.form.now) c.in-Binding.field-0 (groups_of c.in-Binding.groups.items) c.args.place (ap form_of c.in-Binding.is)
    (adds_as ts c.args.self.now c.group_list.new.self _ _ (ap (λ (gs : List (Vec Name Global)). bound (all_of (groups_of gs)) ∷ []) c.deref.ensures.value) (done ts))) c.group_list.ensures

pub returns-in-Local : goal.returns-in-Local
returns-in-Local c =
    on_ok_weaker c.list.result
    (λ done ts.
    local_joined ts c.args.self.now c.list.new.self (form_of c.args.form.now) c.in-Local.names.items c.args.place (ap form_of c.in-Local.is)
    (adds_as ts c.args.self.now c.list.new.self _ _ (ap (λ (ns : List Name). bound ns ∷ []) c.deref-in-Local.ensures.value) (done ts))) c.list.ensures

pub returns-in-Strings : goal.returns-in-Strings
returns-in-Strings c = λ ts.
    subst (λ (f : Form). Joins ts c.args.self.now c.offence.new.self (node_offences c.args.self.now.modules false (form_of f) c.args.place)) (sym c.in-Strings.is) (c.offence.ensures.joins ts)

pub returns-in-Strict : goal.returns-in-Strict
returns-in-Strict c = λ ts.
    sign_joined ts c.args.self.now c.sign.new.self (form_of c.args.form.now) (strict_of c.in-Strict.strict) c.args.place (ap form_of c.in-Strict.is) (c.sign.ensures ts)
