-- Proves that a return sets pc, the parameters and variables, and the stack.
use Rattle.std.proofs.Common.{[], ◌∷◌, ◌++◌, map, ◌∙◌}
use Rattle.std.proofs.lemmas.Result.{on_ok_weaker}
use Rattle.tla_tree.specs.Pool.{at}
use Rattle.tla_tree.proofs.PoolNumbers.{Keeps-then}
use Rattle.pcal_tree.specs.Algorithm.{nowhere, assignment}
use Rattle.pcal_tree.specs.InMemory.{past_assignment}
use Rattle.pcal_tree.specs.Variables.{pc, stack}
use Rattle.written_names.specs.Units.{naming_of}
use Rattle.action_builder.specs.Jumps.{name_at, stack_rest}
use Rattle.proc_stack.specs.Made.{Sides, sides_at}
use Rattle.proc_stack.specs.Pieces.{selected, field_sides, restored}
use Rattle.proc_stack.proofs.MadeLaws.{sides_grow, adds_same, adds_then}
use Rattle.proc_stack.proofs.moves.add_return.Goals as goal

pub returns-clause-made : goal.returns-clause-made
returns-clause-made c =
    let local = (naming_of c.args.locals.now.naming.now).local c.args.locals.now.unit in
    let names = c.args.locals.now.names.now in
    let found = c.first_record.new.pool in
    let second = c.add_label_kept.new.pool in
    let third = c.add_fields.new.pool in
    let end = c.add_rest.new.pool in
    let first = c.in_ok-frame.ensures in
    let label = c.in_ok-add_label_kept.ensures in
    let fields = c.in_ok-add_fields.ensures in
    let kept = c.add_rest.ensures.kept in
    let front : Sides = assignment (name_at nowhere pc) (selected (at found c.in_ok-frame.frame) pc) in
    let middle = map (field_sides local (at second c.in_ok-frame.frame)) names in
    let last : Sides = assignment (name_at nowhere stack) (stack_rest nowhere) in
    let later = label.kept.same c.in_ok-frame.frame first.within ∙ first.tree in
    on_ok_weaker c.add_rest.result
    (λ rest. adds_same past_assignment sides_at end c.args.out.now.items c.add_rest.new.out.items (front ∷ (middle ++ last ∷ [])) (restored local names)
    (λ j. assignment (name_at nowhere pc) (selected (first.tree j) pc) ∷ (map (field_sides local (later j)) names ++ last ∷ []))
    (adds_then past_assignment sides_at sides_grow second end (Keeps-then second third end fields.kept kept) c.args.out.now.items c.add_label_kept.new.out.items c.add_rest.new.out.items (front ∷ []) (middle ++ last ∷ []) label.made
    (adds_then past_assignment sides_at sides_grow third end kept c.add_label_kept.new.out.items c.add_fields.new.out.items c.add_rest.new.out.items middle (last ∷ []) fields.made rest)))
    c.add_rest.ensures.made
