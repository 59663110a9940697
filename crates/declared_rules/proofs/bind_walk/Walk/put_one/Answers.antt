-- Proves that what is kept is looked at where arguments are put in.
use Rattle.std.proofs.lemmas.Result.{on_ok_weaker}
use Rattle.std.proofs.Common.{Some, None, sym, subst}
use Rattle.pcal_tree.specs.OffencesRebind.{any_name, putting_in}
use Rattle.pcal_tree.specs.laws.MacroBindings.{offences_where}
use Rattle.declared_rules.specs.declared.binding.Binding.{Binding}
use Rattle.declared_rules.specs.Gathering.{list_of, lists_of}
use Rattle.declared_rules.specs.Telling.{binding_of, Adds}
use Rattle.declared_rules.proofs.TellLaws.{adds_as}
use Rattle.declared_rules.proofs.PutLaws.{bound_put, standing_put, beneath_put}
use Rattle.declared_rules.proofs.bind_walk.Walk.put_one.Goals as goal

pub returns-in-Bound : goal.returns-in-Bound
returns-in-Bound c =
    on_ok_weaker c.name.result
    (λ a ts e.
    subst (λ (b : Binding). Adds c.args.sight.now any_name c.args.self.now c.name.new.self (λ ms r. offences_where ms (putting_in c.args.params.now ts r r) (binding_of b))) (sym c.in-Bound.is)
    (adds_as c.args.sight.now any_name c.args.self.now c.name.new.self _ _ (λ ms r. bound_put ms c.args.params.now ts r c.in-Bound.name) (a any_name))) c.name.ensures

pub returns-in-Some : goal.returns-in-Some
returns-in-Some c =
    on_ok_weaker c.pieces.result
    (λ a ts e.
    subst (λ (b : Binding). Adds c.args.sight.now any_name c.args.self.now c.pieces.new.self (λ ms r. offences_where ms (putting_in c.args.params.now ts r r) (binding_of b))) (sym c.in-Standing.is)
    (adds_as c.args.sight.now any_name c.args.self.now c.pieces.new.self _ _
    (λ ms r. standing_put ms c.args.params.now (lists_of c.args.args.now) ts r c.in-Standing.name (Some (list_of c.in-Some.list.now)) e c.in-Some.ensures.some) a)) c.pieces.ensures

pub returns-in-None : goal.returns-in-None
returns-in-None c =
    on_ok_weaker c.standing.result
    (λ a ts e.
    subst (λ (b : Binding). Adds c.args.sight.now any_name c.args.self.now c.standing.new.self (λ ms r. offences_where ms (putting_in c.args.params.now ts r r) (binding_of b))) (sym c.in-Standing.is)
    (adds_as c.args.sight.now any_name c.args.self.now c.standing.new.self _ _
    (λ ms r. standing_put ms c.args.params.now (lists_of c.args.args.now) ts r c.in-Standing.name None e c.in-None.ensures.none) (a any_name))) c.standing.ensures

pub returns-in-Some-argument : goal.returns-in-Some-argument
returns-in-Some-argument c =
    on_ok_weaker c.pieces_under.result
    (λ a ts e.
    subst (λ (b : Binding). Adds c.args.sight.now any_name c.args.self.now c.pieces_under.new.self (λ ms r. offences_where ms (putting_in c.args.params.now ts r r) (binding_of b))) (sym c.in-Beneath.is)
    (adds_as c.args.sight.now any_name c.args.self.now c.pieces_under.new.self _ _
    (λ ms r. beneath_put ms c.args.params.now (lists_of c.args.args.now) ts r c.in-Beneath.name c.in-Beneath.under (Some (list_of c.in-Some-argument.list.now)) e c.in-Some-argument.ensures.some) a)) c.pieces_under.ensures

pub returns-in-None-argument : goal.returns-in-None-argument
returns-in-None-argument c =
    on_ok_weaker c.beneath.result
    (λ a ts e.
    subst (λ (b : Binding). Adds c.args.sight.now any_name c.args.self.now c.beneath.new.self (λ ms r. offences_where ms (putting_in c.args.params.now ts r r) (binding_of b))) (sym c.in-Beneath.is)
    (adds_as c.args.sight.now any_name c.args.self.now c.beneath.new.self _ _
    (λ ms r. beneath_put ms c.args.params.now (lists_of c.args.args.now) ts r c.in-Beneath.name c.in-Beneath.under None e c.in-None-argument.ensures.none) (a any_name))) c.beneath.ensures
