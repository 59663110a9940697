-- Proves that a bind is written round the items.
use Rattle.std.proofs.Common.{rules, [], ◌∷◌, ap, sym, ◌∙◌}
use Rattle.tla_token.specs.Signs.{is_among}
use Rattle.tla_tree.specs.Tree.{graft}
use Rattle.tla_tree.specs.Pool.{at}
use Rattle.module_tree.specs.Formulas.{self}
use Rattle.module_write.proofs.InMemoryGrown.{items_at-kept}
use Rattle.pcal_tree.specs.declared.algorithm.Bind.{Bind}
use Rattle.pcal_tree.specs.Variables.{vars}
use Rattle.name_bits.specs.NamesIn.{names_in}
use Rattle.action_builder.specs.Written.{nested_items}
use Rattle.action_builder.specs.WrittenNames.{renames}
use Rattle.right_sides.specs.After.{put_items}
use Rattle.step_items.specs.Branching.{own_binds}
use Rattle.step_items.specs.Writing.{own_of}
use Rattle.step_items.proofs.WithLaws.{exists_bound, local_bound}
use Rattle.step_items.proofs.statements.bound.Goals as goal

pub returns-in_ok-copied-in-Among-clause-made : goal.returns-in_ok-copied-in-Among-clause-made
returns-in_ok-copied-in-Among-clause-made c = λ P u x d b h.
    let o = c.in-Among in
    let ts = c.args.pool.now in
    let us = c.expression.new.pool in
    let said = c.in_ok-set-in-Among.ensures in
    exists_bound x us (is_among (names_in (vars P) c.args.before.now)) o.name c.in_ok-copied-in-Among.field-0 c.in_ok-set-in-Among.set (graft (own_of P) (graft (renames P u) (at ts o.e))) c.args.items b (first_of (cc, search rules))
    (said.tree P u x d) (items_at-kept ts us said.kept c.args.items.items c.requires.items ∙ h)
    ∙ ap (λ (k : Bind). put_items self x (nested_items (is_among (names_in (vars P) c.args.before.now)) (own_binds P u ts (k ∷ [])) b)) (sym o.is)

pub returns-in_ok-copied-in-Is-clause-made : goal.returns-in_ok-copied-in-Is-clause-made
returns-in_ok-copied-in-Is-clause-made c = λ P u x d b h.
    let o = c.in-Is in
    let ts = c.args.pool.now in
    let us = c.expression-in-Is.new.pool in
    let said = c.in_ok-value-in-Is.ensures in
    local_bound x us (is_among (names_in (vars P) c.args.before.now)) o.name c.in_ok-copied-in-Is.field-0 c.in_ok-value-in-Is.value (graft (own_of P) (graft (renames P u) (at ts o.e))) c.args.items b (first_of (cc, search rules))
    (said.tree P u x d) (items_at-kept ts us said.kept c.args.items.items c.requires.items ∙ h)
    ∙ ap (λ (k : Bind). put_items self x (nested_items (is_among (names_in (vars P) c.args.before.now)) (own_binds P u ts (k ∷ [])) b)) (sym o.is)
