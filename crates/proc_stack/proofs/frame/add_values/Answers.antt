-- Proves that a record has its procedure, where it goes back to, and what is kept.
use Rattle.std.proofs.Common.{[], ◌∷◌, map, option_map, Option, ap, ◌∙◌, arith}
use Rattle.std.proofs.lemmas.Result.{on_ok_weaker}
use Rattle.tla_tree.specs.Tree.{Tree}
use Rattle.tla_tree.specs.Pool.{at}
use Rattle.pcal_tree.specs.Algorithm.{nowhere}
use Rattle.pcal_tree.specs.InMemory.{past_number}
use Rattle.written_names.specs.Units.{naming_of}
use Rattle.action_builder.specs.Jumps.{text_at}
use Rattle.proc_stack.specs.Pieces.{value_kept}
use Rattle.proc_stack.proofs.MadeLaws.{trees_grow, adds_one, adds_same, adds_then, maybe_within, maybe_kept}
use Rattle.proc_stack.proofs.frame.add_values.Goals as goal

pub add_kept-requires : goal.add_kept-requires
add_kept-requires c = maybe_within c.args.pool.now c.text.new.pool c.in_ok-title.ensures.kept c.args.from c.requires.from

pub returns-clause-made : goal.returns-clause-made
returns-clause-made c =
    let old = c.args.pool.now in
    let named = naming_of c.args.locals.now.naming.now in
    let local = named.local c.args.locals.now.unit in
    let names = c.args.locals.now.names.now in
    let middle = c.text.new.pool in
    let end = c.add_kept.new.pool in
    let said = c.in_ok-title.ensures in
    let title : Tree = text_at nowhere (named.title c.args.locals.now.unit) in
    let back : Tree = at old c.args.back in
    let values = λ (o : Option Tree). map (λ x. value_kept o (local x)) names in
    on_ok_weaker c.add_kept.result
    (λ kept. adds_then past_number at trees_grow middle end c.add_kept.ensures.kept c.args.out.now.items c.push.new.self.items c.add_kept.new.out.items (title ∷ []) (back ∷ values (option_map (at old) c.args.from))
    (adds_one past_number at middle c.args.out.now.items c.push.new.self.items c.in_ok-title.title title c.in_ok-push.ensures.items (omega (arith, said.within)) (said.tree ∙ ap (text_at nowhere) c.title.ensures))
    (adds_then past_number at trees_grow middle end c.add_kept.ensures.kept c.push.new.self.items c.push-2.new.self.items c.add_kept.new.out.items (back ∷ []) (values (option_map (at old) c.args.from))
    (adds_one past_number at middle c.push.new.self.items c.push-2.new.self.items c.args.back back c.in_ok-push-2.ensures.items (omega (arith, c.requires.back, said.kept.longer)) (said.kept.same c.args.back c.requires.back))
    (adds_same past_number at end c.push-2.new.self.items c.add_kept.new.out.items (values (option_map (at middle) c.args.from)) (values (option_map (at old) c.args.from))
    (ap values (maybe_kept old middle said.kept c.args.from c.requires.from)) kept)))
    c.add_kept.ensures.made
