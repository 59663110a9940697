-- Proves that a call is looked at.
use Rattle.std.proofs.lemmas.Result.{on_ok_weaker}
use Rattle.std.proofs.Common.{List, Some, None, subst}
use Rattle.tla_tree.specs.Tree.{Name}
use Rattle.pcal_tree.specs.OffencesRebind.{any_name, putting_in}
use Rattle.declared_rules.specs.Telling.{told, Adds}
use Rattle.declared_rules.proofs.TellLaws.{adds_none}
use Rattle.declared_rules.proofs.PutLaws.{called_adds}
use Rattle.declared_rules.proofs.bind_walk.Walk.called.Goals as goal

pub returns-in-Some : goal.returns-in-Some
returns-in-Some c =
    on_ok_weaker c.put.result
    (λ a C ts h e.
    called_adds c.args.sight.now c.args.keeps.now C c.args.self.now c.put.new.self (Some c.in-Some.kept.now) c.args.name.now ts h c.in-Some.ensures.some
    (subst (λ (ps : List Name). Adds c.args.sight.now any_name c.args.self.now c.put.new.self (λ ms r. told ms c.in-Some.kept.now.found (putting_in ps ts r r))) c.deref.ensures.value (a ts e))) c.put.ensures

pub returns-in-None : goal.returns-in-None
returns-in-None c = λ C ts h e. called_adds c.args.sight.now c.args.keeps.now C c.args.self.now c.args.self.now None c.args.name.now ts h c.in-None.ensures.none (adds_none c.args.sight.now any_name c.args.self.now)
