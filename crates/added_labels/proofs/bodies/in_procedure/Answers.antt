-- Proves that a procedure has its labels.
use Rattle.std.proofs.Common.{ap, Some}
use Rattle.tla_tree.specs.Tree.{Name}
use Rattle.added_labels.specs.declared.seen.Where.{Where}
use Rattle.added_labels.proofs.BodyLaws.{procedure_is}
use Rattle.added_labels.proofs.bodies.in_procedure.Goals as goal

pub returns-clause-with : goal.returns-clause-with
returns-clause-with c = λ ms a.
    let here : Where = record { around = record { known = c.args.place.now.around.known; name = Some c.in_ok-copied.field-0; own = c.in_ok-place.field-0 }; silent = c.args.place.now.silent } in
    procedure_is c.args.pool.now here ms c.args.plan.now c.in_body.new.plan c.args.one c.in_ok-with.with c.requires.loud (ap (λ (n : Name). Some n) c.in_ok-copied.ensures) c.in_ok-place.ensures (c.in_ok-with.ensures.with ms a)
