-- Proves that the definition gets its level.
use Rattle.std.proofs.lemmas.Result.{on_ok_weaker}
use Rattle.std.proofs.Common.{List, ap, ◌∙◌}
use Rattle.tla_tree.specs.Tree.{words}
use Rattle.tla_tree.specs.Pool.{at}
use Rattle.pcal_tree.specs.declared.algorithm.Definition.{Definition}
use Rattle.pcal_tree.specs.Algorithm.{Name}
use Rattle.pcal_tree.specs.Reads.{used}
use Rattle.algorithm_limits.specs.Numbers.{with_number}
use Rattle.read_rules.specs.Levels.{furthest}
use Rattle.read_rules.proofs.levels.add_level.Goals as goal

pub returns : goal.returns
returns c =
    on_ok_weaker c.set.result
    (λ done gs ls n h.
    let ts = c.args.pool.now in
    let names =
    c.in_ok-names.ensures ∙ ap (λ (ns : List Name). used (at ts c.definition.inside.0.1.1.0) (words ns)) c.deref.ensures.value ∙ ap (λ (e : Definition). used (at ts e.body) (words e.params.items)) c.definition.view_is in
    let level = c.furthest-level.ensures gs ls n h ∙ ap (furthest gs ls) (c.deref-2.ensures.value ∙ names) in
    done ∙ (λ k. with_number c.args.levels.now ((c.in_ok-copied.ensures ∙ ap (λ (e : Definition). e.name.word) c.definition.view_is) k) (level k))) c.set.ensures
