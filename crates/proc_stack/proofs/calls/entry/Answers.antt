-- Proves that these are the stack and the parameters.
use Rattle.std.proofs.Common.{List, [], ◌∷◌, length, map, option_map, ap, ◌∙◌}
use Rattle.tla_tree.specs.Tree.{Tree}
use Rattle.tla_tree.specs.Pool.{at}
use Rattle.tla_tree.proofs.PoolNumbers.{map_at-kept}
use Rattle.pcal_tree.specs.Algorithm.{nowhere, no_assignments, assignment}
use Rattle.pcal_tree.specs.InMemory.{past_assignment}
use Rattle.pcal_tree.specs.Variables.{stack}
use Rattle.pcal_tree.proofs.InMemoryEach.{past_all_below}
use Rattle.written_names.specs.Units.{naming_of}
use Rattle.action_builder.specs.Jumps.{name_at}
use Rattle.draft.specs.RoutineNames.{words_of}
use Rattle.proc_stack.specs.Made.{Sides, sides_at}
use Rattle.proc_stack.specs.Pieces.{frame_for, pushed, joined, arguments_sides}
use Rattle.proc_stack.proofs.MadeLaws.{sides_grow, adds_then, made_within, made_stand, sides_joined}
use Rattle.proc_stack.proofs.calls.entry.Goals as goal

pub returns-clause-made : goal.returns-clause-made
returns-clause-made c =
    let old = c.args.pool.now in
    let middle = c.add_pushed.new.pool in
    let end = c.add_arguments.new.pool in
    let sides = c.add_arguments.new.out.items in
    let named = naming_of c.args.locals.now.naming.now in
    let first = c.in_ok-add_pushed.ensures in
    let later = c.in_ok-add_arguments.ensures in
    let front : Sides = assignment (name_at nowhere stack) (pushed (frame_for named c.args.locals.now.unit c.args.locals.now.names.now (at old c.args.saved.back) (option_map (at old) c.args.saved.from)) (at old c.args.saved.rest)) in
    let given = λ (ts : List Tree). arguments_sides (named.local c.args.locals.now.unit) (words_of c.args.params.now) (map (at ts) c.args.arguments.now) in
    let below = past_all_below (length old) c.args.arguments.now c.requires.below in
    let all = adds_then past_assignment sides_at sides_grow middle end later.kept c.new-sides.result.items c.add_pushed.new.out.items sides (front ∷ []) (given middle) first.made later.made in
    sides_joined end sides
    ∙ ap (λ (fs : List Sides). joined fs no_assignments) (made_stand past_assignment sides_at end c.new-sides.result.items sides _ c.new-sides.ensures.items all)
    ∙ (λ j. front (joined (arguments_sides (named.local c.args.locals.now.unit) (words_of c.args.params.now) (map_at-kept old middle c.args.arguments.now first.kept below j)) no_assignments))

pub returns-clause-within : goal.returns-clause-within
returns-clause-within c =
    let later = c.in_ok-add_arguments.ensures in
    let all = adds_then past_assignment sides_at sides_grow c.add_pushed.new.pool c.add_arguments.new.pool later.kept c.new-sides.result.items c.add_pushed.new.out.items c.add_arguments.new.out.items _ _ c.in_ok-add_pushed.ensures.made later.made in
    made_within past_assignment sides_at c.add_arguments.new.pool c.new-sides.result.items c.add_arguments.new.out.items _ c.new-sides.ensures.items all
