-- Proves that what a form offends without its parts is found.
use Rattle.std.proofs.lemmas.Result.{on_ok_weaker}
use Rattle.std.proofs.Common.{List, Vec, Global, sym, ap, subst}
use Rattle.tla_tree.specs.Tree.{Name}
use Rattle.tla_pool.specs.declared.form.Form.{Form}
use Rattle.tla_pool.specs.FormOf.{groups_of, form_of}
use Rattle.pcal_tree.specs.BoundNames.{all_of}
use Rattle.pcal_tree.specs.OffencesRebind.{rebound_all, form_rebinds}
use Rattle.declared_rules.specs.Telling.{Adds}
use Rattle.declared_rules.proofs.ExprLaws.{binding_adds, local_adds}
use Rattle.declared_rules.proofs.bind_walk.Walk.form.Goals as goal

pub returns-in-Binding : goal.returns-in-Binding
returns-in-Binding c =
    on_ok_weaker c.groups.result
    (λ a K.
    binding_adds c.args.sight.now K c.args.self.now c.groups.new.self (form_of c.args.form.now) c.in-Binding.field-0 (groups_of c.in-Binding.groups.items) (ap form_of c.in-Binding.is)
    (subst (λ (gs : List (Vec Name Global)). Adds c.args.sight.now K c.args.self.now c.groups.new.self (λ ms r. rebound_all ms r (all_of (groups_of gs)))) c.deref.ensures.value (a K))) c.groups.ensures

pub returns-in-Local : goal.returns-in-Local
returns-in-Local c =
    on_ok_weaker c.names.result
    (λ a K.
    local_adds c.args.sight.now K c.args.self.now c.names.new.self (form_of c.args.form.now) c.in-Local.names.items (ap form_of c.in-Local.is)
    (subst (λ (ns : List Name). Adds c.args.sight.now K c.args.self.now c.names.new.self (λ ms r. rebound_all ms r ns)) c.deref-in-Local.ensures.value (a K))) c.names.ensures

pub returns-in-Name : goal.returns-in-Name
returns-in-Name c =
    on_ok_weaker c.standing.result
    (λ a K.
    subst (λ (f : Form). Adds c.args.sight.now K c.args.self.now c.standing.new.self (λ ms r. form_rebinds ms K r (form_of f))) (sym c.in-Name.is) (a K)) c.standing.ensures
