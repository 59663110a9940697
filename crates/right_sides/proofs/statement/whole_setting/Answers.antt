-- Proves that the setting of a whole variable goes behind the items that were there.
use Rattle.std.proofs.Common.{length, refl, sym, ap, ◌∙◌, arith}
use Rattle.tla_token.specs.Signs.{is_among}
use Rattle.tla_tree.specs.Pool.{at}
use Rattle.name_bits.specs.NamesIn.{names_in}
use Rattle.module_write.specs.InMemory.{items_at}
use Rattle.action_builder.specs.Written.{onto, primed}
use Rattle.right_sides.proofs.AfterLaws.{after_setting}
use Rattle.right_sides.proofs.StatementLaws.{setting_added, past_added, Keeps-self}
use Rattle.right_sides.proofs.statement.whole_setting.Goals as goal

pub returns-clause-items : goal.returns-clause-items
returns-clause-items c =
    let ts = c.args.pool.now in
    let A = is_among (names_in c.args.order.now c.args.assigned.now) in
    setting_added ts ts c.written.new.pool (Keeps-self ts) c.in_ok-side.ensures.kept c.args.after.now c.requires.put A c.args.name c.args.name c.args.right
    c.in_ok-side.side (at ts c.args.right) c.args.out.now.items c.push.new.self.items c.requires.before refl refl c.in_ok-side.ensures.tree c.in_ok-push.ensures.items
    ∙ ap (onto (items_at ts c.args.out.now.items)) (sym (after_setting ts c.args.after.now c.args.name (primed A (at ts c.args.right))))

pub returns-clause-within : goal.returns-clause-within
returns-clause-within c =
    let kept = c.in_ok-side.ensures.kept in
    past_added (length c.written.new.pool) c.args.name c.in_ok-side.side c.args.out.now.items c.push.new.self.items (omega (arith, c.requires.before, kept.longer)) c.in_ok-side.ensures.within c.in_ok-push.ensures.items
