-- Proves that a use of a parameter is looked at as its argument.
use Rattle.std.proofs.Common.{Some}
use Rattle.std.proofs.lemmas.Result.{on_ok_weaker}
use Rattle.tla_tree.specs.Pool.{at}
use Rattle.pcal_tree.specs.NameUses.{variable}
use Rattle.pcal_tree.specs.laws.MacroUses.{offences_as}
use Rattle.declared_rules.specs.UsesTold.{use_as}
use Rattle.name_rules.proofs.TellLaws.{tells_as}
use Rattle.name_rules.proofs.CallLaws.{applied_through, assigned_through, handed_through}
use Rattle.name_rules.proofs.found.Found.argument.Goals as goal

pub returns-in-Applied : goal.returns-in-Applied
returns-in-Applied c = λ x.
    tells_as c.args.self.now c.refuse.new.self _ _
    (λ r. applied_through c.args.kind c.in-Applied.field-0 c.in-Applied.field-1 (at c.args.pool.now c.args.e) r x c.args.place c.in-Applied.is)
    (c.refuse.ensures (offences_as (Some variable) (use_as c.args.kind x c.args.place)) (c.offence_as.ensures x))

pub returns-in-Assigned : goal.returns-in-Assigned
returns-in-Assigned c =
    on_ok_weaker c.handed_whole.result
    (λ a x. tells_as c.args.self.now c.handed_whole.new.self _ _ (λ r. assigned_through c.args.kind (at c.args.pool.now c.args.e) r x c.args.place c.in-Assigned.is) a) c.handed_whole.ensures

pub returns-in-Handed : goal.returns-in-Handed
returns-in-Handed c =
    on_ok_weaker c.handed_whole-in-Handed.result
    (λ a x. tells_as c.args.self.now c.handed_whole-in-Handed.new.self _ _ (λ r. handed_through c.args.kind (at c.args.pool.now c.args.e) r x c.args.place c.in-Handed.is) a) c.handed_whole-in-Handed.ensures
