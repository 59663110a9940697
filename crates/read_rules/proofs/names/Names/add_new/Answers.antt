-- Proves that a name is there besides.
use Rattle.std.proofs.Common.{List, [], unwrap_or, ◌∙◌, subst}
use Rattle.std.specs.List.{list_any}
use Rattle.std.specs.Option.{option_map}
use Rattle.tla_tree.specs.Tree.{Word}
use Rattle.read_rules.specs.Joins.{Joins}
use Rattle.read_rules.proofs.SetLaws.{joins_after}
use Rattle.read_rules.proofs.names.Names.add_new.Goals as goal

pub returns-in_ok-shared-in-Ok : goal.returns-in_ok-shared-in-Ok
returns-in_ok-shared-in-Ok c = λ f.
    let copy = c.in_ok-set.set.keys in
    let x = c.args.name.now in
    (λ i. list_any f (c.in_ok-shared-in-Ok.ensures i).keys)
    ∙ joins_after c.args.self.now copy c.add_copies.new.set.keys x
    (subst (λ (ws : List Word). Joins [] copy ws) ((λ i. unwrap_or (option_map (λ r. r.value.keys) (c.take-before.ensures.value i)) []) ∙ c.self.view_is) c.in_ok-set.ensures)
    (subst (λ (ws : List Word). Joins copy c.add_copies.new.set.keys ws) c.from_ref.ensures.value c.in-Ok.ensures) f
