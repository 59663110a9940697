-- Proves that a use in a macro's body is looked at as its parameter, or where the call is.
use Rattle.std.proofs.Common.{Some, None, sym, ◌∙◌, subst}
use Rattle.std.proofs.lemmas.Result.{on_ok_weaker}
use Rattle.tla_token.specs.declared.place.Place.{Place}
use Rattle.declared_rules.specs.UsesTold.{used}
use Rattle.name_rules.specs.Finding.{Tells}
use Rattle.name_rules.proofs.CallLaws.{called_as}
use Rattle.name_rules.proofs.found.Found.called.Goals as goal

pub returns-in-Some : goal.returns-in-Some
returns-in-Some c =
    on_ok_weaker c.parameter.result
    (λ a. called_as c.args.self.now c.parameter.new.self c.args.pool.now c.args.es.now c.args.params.now c.args.one.now (Some c.in-Some.number) (sym c.in-Some.is ∙ c.parameter_number.ensures) a) c.parameter.ensures

pub returns-in-None : goal.returns-in-None
returns-in-None c =
    let v = c.args.one.now in
    on_ok_weaker c.keep.result
    (λ a. called_as c.args.self.now c.keep.new.self c.args.pool.now c.args.es.now c.args.params.now v None (sym c.in-None.is ∙ c.parameter_number.ensures)
    (subst (λ (p : Place). Tells c.args.self.now c.keep.new.self (used v.kind v.name p)) c.place.ensures a)) c.keep.ensures
