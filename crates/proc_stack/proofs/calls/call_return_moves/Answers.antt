-- Proves that these are the assignments of a call with a return.
use Rattle.std.proofs.Common.{◌≡◌, nat_eq, cond, List, [], ◌∷◌, ◌++◌, map, option_map, Some, None, sym, ap, ◌∙◌}
use Rattle.tla_tree.specs.Tree.{Word}
use Rattle.tla_tree.specs.Pool.{at}
use Rattle.pcal_tree.specs.Algorithm.{nowhere, Assignments}
use Rattle.pcal_tree.specs.Calls.{label_name, first_label}
use Rattle.pcal_tree.specs.Variables.{pc, stack}
use Rattle.written_names.specs.Units.{naming_of}
use Rattle.action_builder.specs.Jumps.{name_at, text_at, one_assignment, stack_rest}
use Rattle.draft.specs.RoutineNames.{words_of}
use Rattle.proc_stack.specs.Moves.{move_at, past_move}
use Rattle.proc_stack.specs.Pieces.{first_of, selected, entered}
use Rattle.proc_stack.proofs.MadeLaws.{moves_grow, adds_then, made_within, made_stand}
use Rattle.proc_stack.proofs.CallLaws.{routine, others, pair_is, entered_kept}
use Rattle.proc_stack.proofs.calls.call_return_moves.Goals as goal

pub returns-clause-tree : goal.returns-clause-tree
returns-clause-tree c = λ P u d number variables own.
    let old = c.args.pool.now in
    let middle = c.saved_by_return.new.pool in
    let late = c.add_entry.new.pool in
    let later = c.add_others.new.pool in
    let end = c.add_jump.new.pool in
    let n = c.args.unit in
    let q = c.args.callee.now.number in
    let b = nat_eq n q in
    let procedure = c.args.callee.now.procedure.now in
    let named = naming_of c.args.draft.now.naming.now in
    let es = c.args.arguments.now in
    let xs = c.args.locals.now in
    let said = c.in_ok-saved.ensures in
    let last = c.in_ok-add_jump.ensures in
    let first = entered named q middle procedure (at middle c.in_ok-saved.saved.back) (option_map (at middle) c.in_ok-saved.saved.from) (at middle c.in_ok-saved.saved.rest) (map (at middle) es) in
    let mine : u.number ≡ q → xs ≡ words_of procedure.params.items ++ words_of procedure.variables.items = λ e. own (sym number ∙ e) in
    let other = others P q old procedure named d.naming u xs variables mine n in
    let jump : Word → Assignments = λ l. one_assignment (name_at nowhere pc) (text_at nowhere l) in
    let to : Assignments = jump c.in_ok-label.label in
    let all = adds_then past_move move_at moves_grow later end last.kept c.new-moves.result.items c.add_others.new.out.items c.add_jump.new.out.items (first ++ other ∷ []) (to ∷ [])
    (adds_then past_move move_at moves_grow late later c.in_ok-add_others.ensures.kept c.new-moves.result.items c.add_entry.new.out.items c.add_others.new.out.items first (other ∷ []) c.in_ok-add_entry.ensures.made c.in_ok-add_others.ensures.made)
    last.made in
    let behind = λ (l : Word) (ms : List Assignments). (ms ++ other ∷ []) ++ jump l ∷ [] in
    pair_is P q old procedure named d.naming u xs variables mine n number es _
    (made_stand past_move move_at end c.new-moves.result.items c.add_jump.new.out.items _ c.new-moves.ensures.items all
    ∙ (λ j. behind (c.in_ok-label.ensures P old d.naming j) (entered named q middle procedure (said.saved.back j) (said.saved.from j) (said.saved.rest j) (map (at middle) es)))
    ∙ ap (behind (label_name P (routine P q old procedure named d.naming) (first_label (routine P q old procedure named d.naming)))) (entered_kept named q old middle said.kept procedure c.requires.procedure es c.requires.below (selected (first_of stack) pc) (cond b (Some (first_of stack)) None) (stack_rest nowhere)))

pub returns-clause-within : goal.returns-clause-within
returns-clause-within c =
    let other = c.in_ok-add_others.ensures in
    let last = c.in_ok-add_jump.ensures in
    let all = adds_then past_move move_at moves_grow c.add_others.new.pool c.add_jump.new.pool last.kept c.new-moves.result.items c.add_others.new.out.items c.add_jump.new.out.items _ _
    (adds_then past_move move_at moves_grow c.add_entry.new.pool c.add_others.new.pool other.kept c.new-moves.result.items c.add_entry.new.out.items c.add_others.new.out.items _ _ c.in_ok-add_entry.ensures.made other.made) last.made in
    made_within past_move move_at c.add_jump.new.pool c.new-moves.result.items c.add_jump.new.out.items _ c.new-moves.ensures.items all
