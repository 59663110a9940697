-- Proves what is seen at a statement with none in it.
use Rattle.std.proofs.Common.{List, ℕ, sym, subst}
use Rattle.std.proofs.lemmas.Result.{on_ok_weaker}
use Rattle.tla_tree.specs.Pool.{trees_at}
use Rattle.pcal_tree.specs.declared.algorithm.Simple.{Simple}
use Rattle.pcal_tree.specs.InMemory.{simple_at}
use Rattle.pcal_tree.specs.laws.MacroSpots.{seen_in_call}
use Rattle.read_rules.specs.declared.steps.Jump.{Jump}
use Rattle.read_rules.specs.BodiesIn.{one}
use Rattle.read_rules.specs.StepsIn.{AreJumps}
use Rattle.read_rules.specs.WaysIn.{Goes}
use Rattle.read_rules.proofs.SeenBodyLaws.{not_call, plain_goes}
use Rattle.read_rules.proofs.known.Known.simple.Goals as goal

pub returns-in-Macro : goal.returns-in-Macro
returns-in-Macro c =
    on_ok_weaker c.call.result
    (λ a ms ps k.
    let ts = c.args.pool.now in
    subst (λ (s : Simple). Goes c.args.ways.now c.call.new.ways (one (seen_in_call ms) ps c.args.place (simple_at ts s))) (sym c.in-Macro.is)
    (subst (λ (es : List ℕ). Goes c.args.ways.now c.call.new.ways (seen_in_call ms c.in-Macro.name (trees_at ts es))) c.deref.ensures.value (a ms k.macros))) c.call.ensures

pub returns-in_ok-step-in_default : goal.returns-in_ok-step-in_default
returns-in_ok-step-in_default c =
    on_ok_weaker c.pass-outcome.result
    (λ a ms ps k.
    plain_goes (seen_in_call ms) ps c.args.pool.now c.args.place c.args.simple.now c.in_ok-step-in_default.step c.args.ways.now c.pass-outcome.new.self
    (not_call c.args.simple.now c.in_default.not-Macro)
    (c.in_ok-step-in_default.ensures ps (subst (λ (js : List Jump). AreJumps js ps) (sym c.deref-in_default.ensures.value) k.jumps)) a) c.pass-outcome.ensures
