-- Proves that the first offence of a body is found.
use Rattle.std.proofs.Common.{List, map, ap, ◌∙◌}
use Rattle.std.specs.List.{flat_map}
use Rattle.pcal_tree.specs.InMemory.{statements_at}
use Rattle.pcal_tree.specs.Offences.{first}
use Rattle.pcal_tree.specs.OffencesStale.{stale_at}
use Rattle.pcal_tree.specs.laws.MacroSpots.{spot_of}
use Rattle.algorithm_answer.specs.Joined.{joined}
use Rattle.read_rules.specs.declared.walk.Group.{Group}
use Rattle.read_rules.specs.SeenIn.{seen_of}
use Rattle.read_rules.specs.Sets.{trail_of}
use Rattle.read_rules.proofs.RefusalLaws.{nothing_yet, body_stale}
use Rattle.read_rules.proofs.refusals.with_body.Goals as goal

pub returns-in-Ok : goal.returns-in-Ok
returns-in-Ok c = λ ms ps ds k a.
    let ns = c.args.identity.now in
    let new = c.body.new.ways.reached in
    c.with_seen-found.ensures ds a
    ∙ ap (λ (gs : List Group). joined c.args.so_far (first (flat_map (stale_at ds ns) (map spot_of (seen_of gs))))) c.deref.ensures.value
    ∙ ap (joined c.args.so_far)
    (body_stale ms ps ds ns (statements_at c.args.pool.now c.args.body.now) c.new-3.result new c.new-3.ensures.seen c.new-3.ensures.labelled
    (ap trail_of c.new-3.ensures.path ∙ nothing_yet c.new-2.result c.new-2.ensures.before c.new-2.ensures.nothing) (c.in-Ok.ensures ms ps k).1)
