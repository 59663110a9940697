-- Proves that a use of a parameter is looked at as its argument, if it has one.
use Rattle.std.proofs.Common.{slice_index_or, Some, ap, subst}
use Rattle.std.proofs.lemmas.List.{get_or_default}
use Rattle.std.proofs.lemmas.Result.{on_ok_weaker}
use Rattle.tla_token.specs.declared.place.Place.{Place}
use Rattle.tla_tree.specs.Pool.{at}
use Rattle.pcal_tree.specs.NameUses.{Use, variable}
use Rattle.pcal_tree.specs.laws.MacroUses.{offences_as}
use Rattle.declared_rules.specs.UsesTold.{use_as, place_in}
use Rattle.name_rules.specs.Finding.{Tells}
use Rattle.name_rules.specs.Calling.{use_through}
use Rattle.name_rules.proofs.TellLaws.{tells_as}
use Rattle.name_rules.proofs.CallLaws.{through_first, through_none}
use Rattle.name_rules.proofs.found.Found.parameter.Goals as goal

pub returns-then-number-es : goal.returns-then-number-es
returns-then-number-es c =
    let e = slice_index_or c.args.es.now c.args.number 0 in
    let v = c.args.one.now in
    on_ok_weaker c.argument.result
    (λ a. tells_as c.args.self.now c.argument.new.self _ _
    (λ r. ap (λ (u : Use). offences_as (Some u) (use_as v.kind v.name (place_in v))) (through_first c.args.pool.now c.args.es.now c.args.number e r (get_or_default c.args.es.now c.args.number 0 e c.if-number-es.true) c.if-number-es.true))
    (subst (λ (p : Place). Tells c.args.self.now c.argument.new.self (λ r. offences_as (Some (use_through (at c.args.pool.now e) r)) (use_as v.kind v.name p))) c.place.ensures (a v.name)))
    c.argument.ensures

pub returns-else-number-es : goal.returns-else-number-es
returns-else-number-es c =
    let v = c.args.one.now in
    tells_as c.args.self.now c.refuse.new.self _ _
    (λ r. ap (λ (u : Use). offences_as (Some u) (use_as v.kind v.name (place_in v))) (through_none c.args.pool.now c.args.es.now c.args.number r c.if-number-es.false))
    (subst (λ (p : Place). Tells c.args.self.now c.refuse.new.self (λ r. offences_as (Some variable) (use_as v.kind v.name p))) c.place-else-number-es.ensures
    (c.refuse.ensures (offences_as (Some variable) (use_as v.kind v.name c.place-else-number-es.result)) (c.offence_as.ensures v.name)))
