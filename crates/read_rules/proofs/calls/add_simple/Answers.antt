-- Proves that the macro that is called is marked.
use Rattle.std.proofs.Common.{◌∷◌, [], sym, ap, ◌∙◌, subst}
use Rattle.std.proofs.lemmas.Result.{on_ok_weaker}
use Rattle.tla_tree.specs.Tree.{Word}
use Rattle.pcal_tree.specs.declared.algorithm.Simple.{Simple}
use Rattle.pcal_tree.specs.InMemory.{simple_at}
use Rattle.pcal_tree.specs.OffencesCounts.{calls_in}
use Rattle.algorithm_limits.specs.Numbers.{Numbers, with_number}
use Rattle.read_rules.specs.Calls.{AddsCalls}
use Rattle.read_rules.proofs.CallLaws.{calls_one}
use Rattle.read_rules.proofs.calls.add_simple.Goals as goal

pub returns-in_ok-copied-in-Macro : goal.returns-in_ok-copied-in-Macro
returns-in_ok-copied-in-Macro c =
    on_ok_weaker c.set.result
    (λ done ts.
    subst (λ (z : Simple). AddsCalls c.args.called.now c.set.new.self (calls_in (simple_at ts z))) (sym c.in-Macro.is)
    (subst (λ (es : Numbers). AddsCalls c.args.called.now es (c.in-Macro.name ∷ [])) (sym (done ∙ ap (λ (x : Word). with_number c.args.called.now x 1) c.in_ok-copied-in-Macro.ensures))
    (calls_one c.args.called.now c.in-Macro.name))) c.set.ensures
