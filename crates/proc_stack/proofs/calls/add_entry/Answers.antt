-- Proves that the stack and the parameters come first, and then the variables.
use Rattle.std.proofs.Common.{[], ◌∷◌, ◌++◌, map, option_map, ap, ◌∙◌, arith}
use Rattle.std.proofs.lemmas.Result.{on_ok_weaker}
use Rattle.tla_tree.specs.Pool.{at}
use Rattle.pcal_tree.specs.Algorithm.{Declaration, Assignments}
use Rattle.pcal_tree.specs.InMemory.{declaration_at, past_declaration}
use Rattle.pcal_tree.proofs.InMemoryGrown.{each_kept}
use Rattle.written_names.specs.Units.{naming_of}
use Rattle.draft.specs.RoutineNames.{words_of}
use Rattle.proc_stack.specs.Moves.{move_at, past_move}
use Rattle.proc_stack.specs.Pieces.{entry, variable_move}
use Rattle.proc_stack.proofs.MadeLaws.{moves_grow, adds_one, adds_same, adds_then, declaration_kept}
use Rattle.proc_stack.proofs.calls.add_entry.Goals as goal

pub returns-clause-made : goal.returns-clause-made
returns-clause-made c =
    let old = c.args.pool.now in
    let middle = c.entry.new.pool in
    let end = c.add_starts.new.pool in
    let q = c.args.callee.now.number in
    let procedure = c.args.callee.now.procedure.now in
    let named = naming_of c.args.draft.now.naming.now in
    let all = words_of procedure.params.items ++ words_of procedure.variables.items in
    let names = c.as_slice.ensures ∙ c.in_ok-names.ensures in
    let said = c.in_ok-first.ensures in
    let first : Assignments = entry named q all (words_of procedure.params.items) (at old c.args.saved.back) (option_map (at old) c.args.saved.from) (at old c.args.saved.rest) (map (at old) c.args.arguments.now) in
    let set : Declaration → Assignments = variable_move (named.local q) all in
    let starts = map (λ d. set (declaration_at old d)) procedure.variables.items in
    on_ok_weaker c.add_starts.result
    (λ later. adds_then past_move move_at moves_grow middle end c.add_starts.ensures.kept c.args.out.now.items c.push.new.self.items c.add_starts.new.out.items (first ∷ []) starts
    (adds_one past_move move_at middle c.args.out.now.items c.push.new.self.items c.in_ok-first.first first c.in_ok-push.ensures.items said.within
    (said.made ∙ (λ j. entry named q (names j) (words_of (c.deref.ensures.value j)) (at old c.args.saved.back) (option_map (at old) c.args.saved.from) (at old c.args.saved.rest) (map (at old) c.args.arguments.now))))
    (adds_same past_move move_at end c.push.new.self.items c.add_starts.new.out.items _ starts
    ((λ j. map (λ d. variable_move (named.local q) (names j) (declaration_at middle d)) (c.deref-2.ensures.value j))
    ∙ each_kept old middle said.kept (λ d. set (declaration_at middle d)) (λ d. set (declaration_at old d)) past_declaration (λ d m. ap set (declaration_kept old middle said.kept d m)) procedure.variables.items (omega (arith, c.requires.procedure)))
    later))
    c.add_starts.ensures.made
