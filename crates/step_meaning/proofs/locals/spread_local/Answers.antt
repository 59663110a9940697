-- Proves that the state stays one of the program's variables.
use Rattle.std.proofs.Common.{◌≡◌, true, ap, ◌∙◌}
use Rattle.tla_token.specs.Signs.{is_among}
use Rattle.pcal_tree.specs.declared.algorithm.Declaration.{Declaration}
use Rattle.pcal_tree.specs.Program.{written}
use Rattle.pcal_tree.specs.Variables.{vars}
use Rattle.step_spots.specs.InMemory.{routine_at}
use Rattle.step_moves.specs.Programs.{program_at}
use Rattle.step_meaning.proofs.OrderedNames.{scene_of}
use Rattle.step_meaning.proofs.locals.spread_local.Goals as goal

pub spread_value-requires-clause-scene : goal.spread_value-requires-clause-scene
spread_value-requires-clause-scene c = scene_of c.args.origin.now.program c.args.state.now c.requires.begun

pub returns-clause-begun : goal.returns-clause-begun
returns-clause-begun c =
    let p = c.args.origin.now.program in
    let u = routine_at p.pool.now c.args.routine.now in
    let known : is_among (vars (program_at p)) (written (program_at p) u c.args.one.now.name.word) ≡ true = c.requires.known in
    c.in_ok-put_value.ensures.begun p (ap (is_among (vars (program_at p))) (c.local-name.ensures ∙ ap (λ (d : Declaration). written (program_at p) u d.name.word) c.one.view_is) ∙ known) c.requires.begun
