-- Proves that binds are written one in another.
use Rattle.std.proofs.Common.{◌<◌, ◌++◌, ◌∷◌, [], List, length, ap, ◌∙◌, arith}
use Rattle.tla_token.specs.Signs.{is_among}
use Rattle.module_write.specs.declared.«module».Item.{Item}
use Rattle.module_write.specs.InMemory.{items_at}
use Rattle.pcal_tree.specs.Variables.{vars}
use Rattle.name_bits.specs.NamesIn.{names_in}
use Rattle.step_items.proofs.DeskLaws.{desk_kept}
use Rattle.step_items.proofs.WithLaws.{nest_more}
use Rattle.step_items.proofs.statements.+nested.Goals as goal

pub returns-clause-made : goal.returns-clause-made
returns-clause-made t c = λ P u x d b h.
    let ts = c.args.pool.now in
    let us = c.nested.new.pool in
    let vs = c.bound.new.pool in
    let k = c.in_ok-inner.ensures.kept in
    let E = is_among (names_in (vars P) c.args.before.now) in
    let less : 0 < length c.args.binds.now = omega arith in
    ap (items_at vs) (◌∙◌ {A = List Item} c.in_ok-push.ensures.items (ap (λ (is : List Item). is ++ c.in_ok-one.one ∷ []) c.new-made.ensures.items))
    ∙ nest_more P u x E ts us vs k c.args.binds.now c.index-binds-0.result c.index-binds-0.is less c.requires.binds b c.in_ok-one.one
    (c.in_ok-one.ensures.made P u x (desk_kept ts us k c.args.desk.now P u x c.requires.desk d) _ (c.in_ok-inner.ensures.made P u x d b h))
