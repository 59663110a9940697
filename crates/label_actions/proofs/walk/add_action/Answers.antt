-- Proves that one action more is behind those of before.
use Rattle.std.proofs.Common.{[], ◌∷◌, ◌++◌, length, ap, ◌∙◌}
use Rattle.module_tree.specs.Module as tree
use Rattle.module_write.specs.InMemory.{actions_at}
use Rattle.label_actions.proofs.Grown.{pushed, push_within}
use Rattle.label_actions.proofs.walk.add_action.Goals as goal

pub returns-clause-made : goal.returns-clause-made
returns-clause-made c = λ P t w fits.
    pushed c.args.pool.now c.label_action.new.pool c.in_ok-action.ensures.kept c.args.out.now.items c.push.new.self.items c.in_ok-action.action c.requires.before c.in_ok-push.ensures.items
    ∙ ap (λ (a : tree.Action). actions_at c.args.pool.now c.args.out.now.items ++ a ∷ []) (c.in_ok-action.ensures.made P t w fits.0)

pub returns-clause-within : goal.returns-clause-within
returns-clause-within c =
    push_within (length c.args.pool.now) (length c.label_action.new.pool) c.args.out.now.items c.push.new.self.items c.in_ok-action.action c.in_ok-action.ensures.kept.longer c.requires.before
    c.in_ok-action.ensures.within c.in_ok-push.ensures.items
