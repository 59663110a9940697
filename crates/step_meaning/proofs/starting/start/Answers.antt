-- Proves what the parts ask, and that the state is of the program's variables.
use Rattle.std.proofs.Common.{◌≡◌, List, true, length, map, sym, ap, subst, ◌∙◌}
use Rattle.tla_token.specs.Signs.{is_among}
use Rattle.tla_tree.specs.Tree.{Each}
use Rattle.pcal_tree.specs.declared.algorithm.Declaration.{Declaration}
use Rattle.pcal_tree.specs.declared.algorithm.Procedure.{Procedure}
use Rattle.pcal_tree.specs.Algorithm.{first_procedure}
use Rattle.pcal_tree.specs.InMemory.{procedure_at}
use Rattle.pcal_tree.specs.Variables.{vars}
use Rattle.step_moves.specs.InMemory.{actor_at}
use Rattle.step_moves.specs.Programs.{program_at}
use Rattle.step_moves.specs.Prepared.{prepared_procedure}
use Rattle.step_moves.specs.Runners.{names_of}
use Rattle.step_meaning.proofs.ActorLaws.{actors_ascend, ids_anywhere}
use Rattle.step_meaning.proofs.MainLaws.{names_declared}
use Rattle.step_meaning.proofs.OrderedNames.{scene_of}
use Rattle.step_meaning.proofs.RoutineLaws.{globals_among, numbered_many}
use Rattle.step_meaning.proofs.starting.start.Goals as goal

pub globals-requires-clause-known : goal.globals-requires-clause-known
globals-requires-clause-known c =
    let p = c.args.origin.now.program in
    subst (λ (ds : List Declaration). Each (λ x. is_among (vars (program_at p)) x ≡ true) (names_of ds)) (sym c.deref.ensures.value)
    (names_declared p.pool.now (λ x. is_among (vars (program_at p)) x ≡ true) p.algorithm.now.globals.items (globals_among (program_at p)))

pub procedures-requires-clause-many : goal.procedures-requires-clause-many
procedures-requires-clause-many c =
    let p = c.args.origin.now.program in
    numbered_many (procedure_at p.pool.now) (prepared_procedure (program_at p)) (procedure_at p.pool.now) (first_procedure (program_at p).algorithm) c.args.origin.now.procedures.now p.algorithm.now.procedures.items c.requires.origin.procedures
    ∙ ap (λ (l : List Procedure). length l) (sym c.deref-2.ensures.value)

pub procedures-requires-clause-ascending : goal.procedures-requires-clause-ascending
procedures-requires-clause-ascending c =
    let p = c.args.origin.now.program in actors_ascend (program_at p) (program_at p).algorithm.main (map (actor_at p.pool.now) c.args.actors.now) c.requires.actors

pub processes-requires-clause-ascending : goal.processes-requires-clause-ascending
processes-requires-clause-ascending c =
    let p = c.args.origin.now.program in actors_ascend (program_at p) (program_at p).algorithm.main (map (actor_at p.pool.now) c.args.actors.now) c.requires.actors

pub make_ready-requires-clause-ascending : goal.make_ready-requires-clause-ascending
make_ready-requires-clause-ascending c ts =
    let p = c.args.origin.now.program in
    ids_anywhere p.pool.now ts c.args.actors.now (actors_ascend (program_at p) (program_at p).algorithm.main (map (actor_at p.pool.now) c.args.actors.now) c.requires.actors)

pub returns-clause-scene : goal.returns-clause-scene
returns-clause-scene c = scene_of c.args.origin.now.program c.make_ready.new.state c.in_ok-make_ready.ensures.begun
