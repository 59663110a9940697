-- Proves that what runs has its names.
use Rattle.std.proofs.Common.{List, [], ◌∷◌, sym, subst}
use Rattle.pcal_tree.specs.declared.algorithm.Stmt.{Stmt}
use Rattle.pcal_tree.specs.declared.algorithm.Main.{Main}
use Rattle.pcal_tree.specs.InMemory.{statements_at, main_at}
use Rattle.written_names.specs.declared.naming.UnitNames.{UnitNames}
use Rattle.written_names.specs.Units.{asked_alone, asked_main, AddsUnits, NamesUnit}
use Rattle.written_names.proofs.UnitLists.{adds_one}
use Rattle.written_names.proofs.give.add_main.Goals as goal

pub returns-in_ok-push-in-Alone : goal.returns-in_ok-push-in-Alone
returns-in_ok-push-in-Alone c = λ ts.
    subst (λ (m : Main). AddsUnits c.args.giver.now c.alone_names.new.giver c.args.units.now.items c.push.new.self.items (asked_main (main_at ts m))) (sym c.in-Alone.is)
    (subst (λ (us : List UnitNames). AddsUnits c.args.giver.now c.alone_names.new.giver c.args.units.now.items us (asked_alone (statements_at ts c.in-Alone.body.items) ∷ [])) (sym c.in_ok-push-in-Alone.ensures.items)
    (adds_one c.args.giver.now c.alone_names.new.giver c.args.units.now.items (asked_alone (statements_at ts c.in-Alone.body.items)) c.in_ok-names-in-Alone.names
    (subst (λ (ys : List Stmt). NamesUnit c.args.giver.now c.alone_names.new.giver (asked_alone (statements_at ts ys)) c.in_ok-names-in-Alone.names) c.deref.ensures.value (c.in_ok-names-in-Alone.ensures ts))))
