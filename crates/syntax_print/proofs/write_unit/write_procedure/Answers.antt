-- Proves what is asked of `write_procedure`.
use Rattle.std.proofs.Common.{List, ◌++◌, ap, ◌∙◌, subst}
use Rattle.std.specs.Prelude.{codes}
use Rattle.pcal_tree.specs.declared.algorithm.Declaration.{Declaration}
use Rattle.pcal_tree.specs.declared.algorithm.Stmt.{Stmt}
use Rattle.pcal_tree.specs.Printed.{variables, body, declarations_text}
use Rattle.pcal_tree.specs.InMemory.{procedure_at, declarations_at, statements_at}
use Rattle.pcal_tree.specs.Syntaxes.{syntax_of}
use Rattle.syntax_print.specs.Adding.{Adds}
use Rattle.syntax_print.proofs.Lines.{on_ok}
use Rattle.syntax_print.proofs.Units.{procedure_adds}
use Rattle.syntax_print.proofs.write_unit.write_procedure.Goals as goal

pub returns : goal.returns
returns c =
    let s = syntax_of c.args.syntax in
    let ts = c.args.pool.now in
    let p = c.args.unit.now in
    on_ok c.write_body.result _ _ (λ b. procedure_adds s c.args.into.now c.begin_line.new.into c.write_name.new.into c.push.new.self c.write_declarations.new.into c.push-2.new.self c.write_variables.new.into c.write_body.new.into (procedure_at ts p)
    c.in_ok-begin_line.ensures c.in_ok-write_name.ensures c.in_ok-push.ensures.ok
    (c.in_ok-write_declarations.ensures ∙ ap (λ (ds : List Declaration). c.push.new.self ++ declarations_text (declarations_at ts ds)) c.deref.ensures.value)
    c.in_ok-push-2.ensures.ok
    (subst (λ (ds : List Declaration). Adds c.push-2.new.self c.write_variables.new.into (variables (declarations_at ts ds))) c.deref-2.ensures.value c.in_ok-write_variables.ensures)
    (subst (λ (ss : List Stmt). Adds c.write_variables.new.into c.write_body.new.into (body s (codes "procedure") (statements_at ts ss))) c.deref-3.ensures.value b)) c.write_body.ensures
