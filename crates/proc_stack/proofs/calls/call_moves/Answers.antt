-- Proves that these are the assignments of a call.
use Rattle.std.proofs.Common.{List, [], ◌∷◌, ◌++◌, map, option_map, None, ap, ◌∙◌}
use Rattle.tla_tree.specs.Tree.{Word}
use Rattle.tla_tree.specs.Pool.{at}
use Rattle.pcal_tree.specs.Algorithm.{nowhere, Assignments}
use Rattle.pcal_tree.specs.Variables.{pc, stack}
use Rattle.written_names.specs.Units.{naming_of}
use Rattle.action_builder.specs.Jumps.{name_at, text_at, one_assignment}
use Rattle.proc_stack.specs.Moves.{move_at, past_move}
use Rattle.proc_stack.specs.Pieces.{entered}
use Rattle.proc_stack.proofs.MadeLaws.{moves_grow, adds_then, made_within, made_stand}
use Rattle.proc_stack.proofs.CallLaws.{jump as jump_of, call_is, entered_kept}
use Rattle.proc_stack.proofs.calls.call_moves.Goals as goal

pub returns-clause-tree : goal.returns-clause-tree
returns-clause-tree c = λ P d.
    let old = c.args.pool.now in
    let middle = c.saved_by_call.new.pool in
    let late = c.add_entry.new.pool in
    let end = c.add_jump.new.pool in
    let q = c.args.callee.now.number in
    let procedure = c.args.callee.now.procedure.now in
    let named = naming_of c.args.draft.now.naming.now in
    let es = c.args.arguments.now in
    let said = c.in_ok-saved.ensures in
    let last = c.in_ok-add_jump.ensures in
    let first = entered named q middle procedure (at middle c.in_ok-saved.saved.back) (option_map (at middle) c.in_ok-saved.saved.from) (at middle c.in_ok-saved.saved.rest) (map (at middle) es) in
    let to : Assignments = one_assignment (name_at nowhere pc) (text_at nowhere c.in_ok-label.label) in
    let jump : Word → Assignments = λ l. one_assignment (name_at nowhere pc) (text_at nowhere l) in
    let all = adds_then past_move move_at moves_grow late end last.kept c.new-moves.result.items c.add_entry.new.out.items c.add_jump.new.out.items first (to ∷ []) c.in_ok-add_entry.ensures.made last.made in
    call_is P q old procedure named d.naming c.args.back.now es _
    (made_stand past_move move_at end c.new-moves.result.items c.add_jump.new.out.items (first ++ to ∷ []) c.new-moves.ensures.items all
    ∙ (λ j. entered named q middle procedure (said.saved.back j) (said.saved.from j) (said.saved.rest j) (map (at middle) es) ++ to ∷ [])
    ∙ (λ j. entered named q middle procedure (text_at nowhere c.args.back.now) None (name_at nowhere stack) (map (at middle) es) ++ jump (c.in_ok-label.ensures P old d.naming j) ∷ [])
    ∙ ap (λ (ms : List Assignments). ms ++ jump_of P q old procedure named d.naming ∷ []) (entered_kept named q old middle said.kept procedure c.requires.procedure es c.requires.below (text_at nowhere c.args.back.now) None (name_at nowhere stack)))

pub returns-clause-within : goal.returns-clause-within
returns-clause-within c =
    let last = c.in_ok-add_jump.ensures in
    let all = adds_then past_move move_at moves_grow c.add_entry.new.pool c.add_jump.new.pool last.kept c.new-moves.result.items c.add_entry.new.out.items c.add_jump.new.out.items _ _ c.in_ok-add_entry.ensures.made last.made in
    made_within past_move move_at c.add_jump.new.pool c.new-moves.result.items c.add_jump.new.out.items _ c.new-moves.ensures.items all
