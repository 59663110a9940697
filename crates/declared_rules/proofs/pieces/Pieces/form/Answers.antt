-- Proves that what a form brings without its parts is gathered.
use Rattle.std.proofs.lemmas.Result.{on_ok_weaker}
use Rattle.std.proofs.Common.{List, Vec, Global, map, sym, ap, subst}
use Rattle.tla_tree.specs.Tree.{Name}
use Rattle.tla_pool.specs.declared.form.Form.{Form}
use Rattle.tla_pool.specs.FormOf.{groups_of, form_of}
use Rattle.pcal_tree.specs.BoundNames.{all_of}
use Rattle.pcal_tree.specs.OffencesRebind.{binds}
use Rattle.declared_rules.specs.Gathering.{form_pieces, Gathers}
use Rattle.declared_rules.proofs.PieceLaws.{binding_gathers, local_gathers}
use Rattle.declared_rules.proofs.pieces.Pieces.form.Goals as goal

pub returns-in-Binding : goal.returns-in-Binding
returns-in-Binding c =
    on_ok_weaker c.groups.result
    (λ a.
    binding_gathers c.args.self.now c.groups.new.self (form_of c.args.form.now) c.in-Binding.field-0 (groups_of c.in-Binding.groups.items) (ap form_of c.in-Binding.is)
    (subst (λ (gs : List (Vec Name Global)). Gathers c.args.self.now c.groups.new.self (λ xs. map binds (all_of (groups_of gs)))) c.deref.ensures.value a)) c.groups.ensures

pub returns-in-Local : goal.returns-in-Local
returns-in-Local c =
    on_ok_weaker c.names.result
    (λ a.
    local_gathers c.args.self.now c.names.new.self (form_of c.args.form.now) c.in-Local.names.items (ap form_of c.in-Local.is)
    (subst (λ (ns : List Name). Gathers c.args.self.now c.names.new.self (λ xs. map binds ns)) c.deref-in-Local.ensures.value a)) c.names.ensures

pub returns-in-Name : goal.returns-in-Name
returns-in-Name c =
    on_ok_weaker c.free.result
    (λ a.
    subst (λ (f : Form). Gathers c.args.self.now c.free.new.self (form_pieces (form_of f))) (sym c.in-Name.is) a) c.free.ensures
