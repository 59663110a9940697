-- Proves that settings are written for the assignments at their process.
use Rattle.std.proofs.Common.{List, length, sym, ap, ◌∙◌, subst, arith}
use Rattle.tla_token.specs.Signs.{is_among}
use Rattle.tla_tree.specs.Tree.{Word}
use Rattle.pcal_tree.specs.Algorithm.{Assignments}
use Rattle.pcal_tree.specs.InMemory.{assignments_at}
use Rattle.pcal_tree.specs.Variables.{vars}
use Rattle.action_builder.specs.laws.Ready.{LeftSides}
use Rattle.action_builder.specs.laws.InParts.{InParts}
use Rattle.right_sides.proofs.AfterLaws.{AfterIn-more}
use Rattle.step_items.proofs.WritesLaws.{both_ok, writes_settings}
use Rattle.step_items.proofs.moves.set.Goals as goal

pub settings-requires-clause-put : goal.settings-requires-clause-put
settings-requires-clause-put c = AfterIn-more (length c.args.pool.now) (length c.own_assignments.new.pool) c.args.after.now c.in_ok-own.ensures.kept.longer c.requires.after

pub returns-clause-made : goal.returns-clause-made
returns-clause-made c = λ P u x h s left parts.
    let ts = c.args.pool.now in
    let us = c.own_assignments.new.pool in
    let vs = c.settings.new.pool in
    let order = h.draft.order in
    let own = ap (assignments_at us) c.deref.ensures.value ∙ c.in_ok-own.ensures.tree P u x h in
    let ms : Assignments = assignments_at us c.deref.result.now in
    let lefts : LeftSides (is_among c.args.desk.now.draft.now.order.now) ms = subst (λ (xs : List Word). LeftSides (is_among xs) ms) (sym order) (subst (LeftSides (is_among (vars P))) (sym own) left) in
    both_ok c.settings.result _ _ _ (c.settings.ensures.items lefts (subst InParts (sym own) parts)) (c.settings.ensures.names lefts (let few = h.few in omega (arith, few, ap length order))) (λ r items names.
    writes_settings P ts us vs c.args.out.now.items c.settings.new.out.items c.args.after.now c.args.before.now r _ s ms _ c.in_ok-own.ensures.kept c.requires.after c.requires.items order own items names)
