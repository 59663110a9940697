-- One more definition is seen.
use Rattle.std.proofs.Common.{◌+◌, ◌∙◌, ap, refl}
use Rattle.tla_tree.specs.Tree.{Word}
use Rattle.algorithm_limits.specs.Numbers.{with_number}
use Rattle.module_outside.proofs.SightLaws.{one_defined}
use Rattle.module_outside.proofs.sight.Sight.define.Goals as goal

pub returns : goal.returns
returns c v d s title params depth =
    one_defined c.args.self.now _ v d c.args.title.now c.args.params c.args.depth refl refl
    (c.in_ok-set.ensures ∙ ap (λ (x : Word). with_number c.args.self.now.arities x (c.args.params + 1)) c.in_ok-copied.ensures)
    (c.in_ok-set-2.ensures ∙ ap (λ (x : Word). with_number c.args.self.now.depths x (c.args.depth + 1)) c.in_ok-copied-2.ensures) s title params depth
