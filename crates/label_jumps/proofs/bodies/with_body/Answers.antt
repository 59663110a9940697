-- Proves that the first of what is misplaced in a body is found.
use Rattle.std.proofs.Common.{refl}
use Rattle.pcal_tree.specs.InMemory.{statements_at}
use Rattle.label_jumps.proofs.JumpLaws.{body_found}
use Rattle.label_jumps.proofs.bodies.with_body.Goals as goal

pub returns : goal.returns
returns c = λ ts.
    body_found c.args.in_macro c.args.in_procedure (statements_at ts c.args.stmts.now) c.new-labels.result c.body.new.self (record { in_macro = c.args.in_macro; in_procedure = c.args.in_procedure; labels = c.body.new.self.met })
    c.args.found c.body-jumps.result c.least.result c.new-labels.ensures.met c.new-labels.ensures.first (c.in_ok-body.ensures ts) refl (λ w s. c.body-jumps.ensures ts w s) c.least.ensures
