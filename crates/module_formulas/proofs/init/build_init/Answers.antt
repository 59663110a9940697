-- Proves that the conjuncts are those of Init.
use Rattle.std.proofs.Common.{◌∷◌, ◌++◌, [], List, length, map, sym, ap, subst, ◌∙◌, append_assoc}
use Rattle.std.specs.List.{flat_map}
use Rattle.tla_tree.specs.Tree.{Tree}
use Rattle.tla_tree.specs.Pool.{at, AllBelow}
use Rattle.pcal_tree.specs.declared.algorithm.Declaration.{Declaration}
use Rattle.pcal_tree.specs.Algorithm as pure
use Rattle.pcal_tree.specs.Algorithm.{procedure_routines, first_process}
use Rattle.pcal_tree.specs.InMemory.{declarations_at}
use Rattle.pcal_tree.specs.Takers.{taken_main}
use Rattle.action_builder.specs.InitialFormulas.{globals_start, locals_start, stack_start, pc_start}
use Rattle.action_builder.specs.LabelActions.{taken_procedures}
use Rattle.draft.proofs.Grown.{draft_kept}
use Rattle.module_formulas.proofs.Behind.{adds_then}
use Rattle.module_formulas.proofs.init.build_init.Goals as goal

pub add_globals-requires-clause-below : goal.add_globals-requires-clause-below
add_globals-requires-clause-below c = subst (AllBelow (length c.args.pool.now)) (sym c.new-all.ensures.items) tt

pub returns-clause-made : goal.returns-clause-made
returns-clause-made c = λ P d runs.
    let ts = c.args.pool.now in
    let us = c.add_globals.new.pool in
    let vs = c.add_locals.new.pool in
    let first = c.in_ok-add_globals.ensures in
    let then = c.in_ok-add_locals.ensures in
    let last = c.in_ok-add_control.ensures in
    let number = c.in_ok-number.ensures ts ∙ ap first_process d.algorithm in
    let later = draft_kept ts us first.kept c.args.draft.now P d in
    let latest = draft_kept us vs then.kept c.args.draft.now P later in
    let globals = globals_start P.algorithm.globals in
    let procedures = flat_map (locals_start P) (taken_procedures P.algorithm) in
    let mains = flat_map (locals_start P) (taken_main P.algorithm P.algorithm.main) in
    let control = stack_start P.algorithm.main (procedure_routines P.algorithm) ++ pc_start P ∷ [] in
    let none = c.new-all.result.items in
    let shared = first.made
    ∙ ap (λ (ds : List Declaration). map (at ts) none ++ globals_start (declarations_at ts ds)) c.deref.ensures.value
    ∙ ap (λ (b : pure.Algorithm). map (at ts) none ++ globals_start b.globals) d.algorithm in
    adds_then ts vs c.add_control.new.pool none c.add_locals.new.out.items c.add_control.new.out.items (globals ++ (procedures ++ mains)) control
    (adds_then ts us vs none c.add_globals.new.out.items c.add_locals.new.out.items globals (procedures ++ mains) shared (then.made P later number))
    (last.made P latest runs number)
    ∙ (λ j. map (at ts) (c.new-all.ensures.items j) ++ append_assoc globals (procedures ++ mains) control j)
    ∙ ap (λ (l : List Tree). globals ++ l) (append_assoc procedures mains control)
