-- Proves that the own action is behind those of before.
use Rattle.std.proofs.Common.{◌∷◌, [], ◌++◌, ap, ◌∙◌, arith}
use Rattle.std.proofs.lemmas.List.{map-append}
use Rattle.module_tree.specs.Module as tree
use Rattle.module_write.specs.InMemory.{action_at, actions_at}
use Rattle.action_builder.specs.LabelActions.{own_action}
use Rattle.pcal_tree.specs.Takers.{Takers}
use Rattle.module_formulas.specs.TakersIn.{taken}
use Rattle.label_actions.proofs.Grown.{push_within}
use Rattle.label_actions.proofs.unit.add_own.Goals as goal

pub returns-clause-made : goal.returns-clause-made
returns-clause-made c = λ ts P t b u.
    let old = c.args.out.now.items in
    ap (actions_at ts) c.in_ok-push.ensures.items ∙ map-append (action_at ts) old (c.in_ok-action.action ∷ [])
    ∙ ap (λ (a : tree.Action). actions_at ts old ++ a ∷ [])
    (c.in_ok-action.ensures.made ts P t.routine b.this b.draft.naming u.number u.body ∙ ap (λ (k : Takers). own_action P (taken k t.routine)) u.takers)

pub returns-clause-within : goal.returns-clause-within
returns-clause-within c = λ m b h. push_within m m c.args.out.now.items c.push.new.self.items c.in_ok-action.action (omega arith) h (c.in_ok-action.ensures.within m b.this) c.in_ok-push.ensures.items
