-- Proves that all that is misplaced in a body is found.
use Rattle.std.proofs.Common.{◌++◌, List, refl, ap, ◌∙◌}
use Rattle.tla_token.specs.declared.rule.Refusal.{Refusal}
use Rattle.pcal_tree.specs.InMemory.{statements_at}
use Rattle.label_rules.proofs.JumpLaws.{body_found}
use Rattle.label_rules.proofs.bodies.of_body.Goals as goal

pub returns : goal.returns
returns c = λ ts.
    body_found c.args.in_macro c.args.in_procedure (statements_at ts c.args.stmts.now) c.new-labels.result c.body.new.self (record { in_macro = c.args.in_macro; in_procedure = c.args.in_procedure; labels = c.body.new.self.met })
    c.args.found.now.items c.of_statements.new.found.items c.extend_from_slice.new.self.items c.new-labels.ensures.met c.new-labels.ensures.seconds (c.in_ok-body.ensures ts) refl (λ w s. c.in_ok-of_statements.ensures ts w s)
    (c.in_ok-extend_from_slice.ensures.items ∙ ap (λ (rs : List Refusal). c.of_statements.new.found.items ++ rs) c.deref.ensures.value)
