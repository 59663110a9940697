-- Proves that this is the record: it has a value for each of its fields.
use Rattle.std.proofs.Common.{length, option_map, ap, ◌∙◌, arith}
use Rattle.std.proofs.lemmas.Result.{IfOk-weaker}
use Rattle.std.proofs.lemmas.List.{length-map}
use Rattle.tla_tree.specs.Tree.{strict, fields, node}
use Rattle.tla_tree.specs.TreeOf.{trees_from}
use Rattle.tla_tree.specs.Pool.{at}
use Rattle.pcal_tree.specs.Algorithm.{nowhere}
use Rattle.pcal_tree.specs.InMemory.{past_number}
use Rattle.pcal_tree.proofs.InMemoryEach.{past_all_below}
use Rattle.written_names.specs.Units.{naming_of}
use Rattle.proc_stack.specs.Pieces.{value_kept, parts_for}
use Rattle.proc_stack.proofs.MadeLaws.{made_within, made_stand}
use Rattle.proc_stack.proofs.frame.frame_from.Goals as goal

pub put-requires-clause-below : goal.put-requires-clause-below
put-requires-clause-below c =
    past_all_below (length c.add_values.new.pool) c.add_values.new.out.items (made_within past_number at c.add_values.new.pool c.new-values.result.items c.add_values.new.out.items _ c.new-values.ensures.items c.in_ok-add_values.ensures.made)

pub put-requires-clause-shaped : goal.put-requires-clause-shaped
put-requires-clause-shaped c =
    let named = naming_of c.args.locals.now.naming.now in
    let local = named.local c.args.locals.now.unit in
    let names = c.args.locals.now.names.now in
    let from = option_map (at c.args.pool.now) c.args.from in
    let parts = parts_for named c.args.locals.now.unit names (at c.args.pool.now c.args.back) from in
    let end = c.add_values.new.pool in
    let values = c.add_values.new.out.items in
    let stand = ap length (made_stand past_number at end c.new-values.result.items values parts c.new-values.ensures.items c.in_ok-add_values.ensures.made) in
    let many = length-map values (at end) in
    let each = length-map names (λ x. value_kept from (local x)) in
    let words = ap length c.in_ok-names.ensures in
    let same = length-map names local in
    (omega (arith, stand, many), omega (arith, stand, many, each, words, same))

pub returns-clause-tree : goal.returns-clause-tree
returns-clause-tree c =
    let named = naming_of c.args.locals.now.naming.now in
    let names = c.args.locals.now.names.now in
    let parts = parts_for named c.args.locals.now.unit names (at c.args.pool.now c.args.back) (option_map (at c.args.pool.now) c.args.from) in
    let stand = made_stand past_number at c.add_values.new.pool c.new-values.result.items c.add_values.new.out.items parts c.new-values.ensures.items c.in_ok-add_values.ensures.made in
    IfOk-weaker c.put.result _ _ (λ r h. h ∙ (λ j. node (strict (fields (c.in_ok-names.ensures j))) nowhere (trees_from (stand j)))) c.put.ensures.tree
