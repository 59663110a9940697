-- Proves that the names that a form binds are added.
use Rattle.std.proofs.Common.{List, Vec, Global, refl, sym, ap, ◌∙◌}
use Rattle.std.proofs.lemmas.Result.{on_ok_weaker}
use Rattle.std.specs.List.{flat_map}
use Rattle.tla_tree.specs.Tree.{Name, words}
use Rattle.tla_pool.specs.declared.form.Form.{Form}
use Rattle.tla_pool.specs.FormOf.{groups_of, form_of}
use Rattle.pcal_tree.specs.BoundNames.{lists_of}
use Rattle.declared_rules.specs.Met.{bound_words}
use Rattle.declared_rules.proofs.MetWalks.{adds_hidden, adds_as}
use Rattle.declared_rules.proofs.MetSwept.{binder_words, local_words}
use Rattle.declared_rules.proofs.met.Met.form.Goals as goal

pub returns-in-Binding : goal.returns-in-Binding
returns-in-Binding c =
    on_ok_weaker c.add_groups.result
    (λ done ts.
    adds_as ts c.args.self.now _ _ _
    (ap (λ (gs : List (Vec Name Global)). flat_map words (groups_of gs)) c.deref.ensures.value ∙ binder_words c.in-Binding.field-0 (groups_of c.in-Binding.groups.items)
    ∙ ap (λ (f : Form). bound_words (lists_of (form_of f))) (sym c.in-Binding.is))
    (adds_hidden ts c.args.self.now _ _ done refl)) c.add_groups.ensures

pub returns-in-Local : goal.returns-in-Local
returns-in-Local c =
    on_ok_weaker c.add_all.result
    (λ done ts.
    adds_as ts c.args.self.now _ _ _
    (ap words c.deref-in-Local.ensures.value ∙ local_words c.in-Local.names.items ∙ ap (λ (f : Form). bound_words (lists_of (form_of f))) (sym c.in-Local.is))
    (adds_hidden ts c.args.self.now _ _ done refl)) c.add_all.ensures
