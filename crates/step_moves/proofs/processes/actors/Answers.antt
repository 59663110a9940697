-- Proves that the processes are those of the program.
use Rattle.std.proofs.Common.{List, Vec, Global, map, ap, sym, subst, ◌∙◌, arith}
use Rattle.tla_tree.specs.Nesting.{greatest}
use Rattle.pcal_tree.specs.declared.algorithm.Process.{Process}
use Rattle.pcal_tree.specs.declared.algorithm.Stmt.{Stmt}
use Rattle.pcal_tree.specs.Algorithm as tree
use Rattle.pcal_tree.specs.InMemory.{main_at, process_at, statements_at, past_main, past_process}
use Rattle.pcal_tree.specs.Processes.{actors_in}
use Rattle.value_forms.specs.Gives.{Gives}
use Rattle.step_moves.specs.Programs.{program_at}
use Rattle.step_moves.specs.declared.actor.Actor.{Actor}
use Rattle.step_moves.specs.InMemory.{actor_at}
use Rattle.step_moves.proofs.processes.actors.Goals as goal

pub returns-in_ok-alone-in-Alone : goal.returns-in_ok-alone-in-Alone
returns-in_ok-alone-in-Alone c =
    let p = c.args.program.now in
    let ts = p.pool.now in
    ap (actors_in (program_at p)) (ap (main_at ts) c.in-Alone.is ∙ ap (λ (ss : List Stmt). tree.alone (statements_at ts ss)) (sym c.deref.ensures.value)) ∙ c.in_ok-alone-in-Alone.ensures

pub several-requires-clause-within : goal.several-requires-clause-within
several-requires-clause-within c =
    omega (arith, c.requires.within, ap past_main c.in-Processes.is, ap (λ (ps : List Process). greatest (map past_process ps)) c.deref-in-Processes.ensures.value)

pub returns-in-Processes : goal.returns-in-Processes
returns-in-Processes c =
    let p = c.args.program.now in
    let ts = p.pool.now in
    let main = ap (main_at ts) c.in-Processes.is ∙ ap (λ (ps : List Process). tree.processes (map (process_at ts) ps)) (sym c.deref-in-Processes.ensures.value) in
    subst (λ (m : tree.Main). Gives (λ (z : Vec Actor Global). map (actor_at ts) z.items) c.several.result (actors_in (program_at p) m)) (sym main) c.several.ensures
