-- Proves what is asked of `write_rest`.
use Rattle.std.proofs.Common.{List, ◌++◌, map, ap, ◌∙◌, subst}
use Rattle.std.specs.Prelude.{codes}
use Rattle.pcal_tree.specs.declared.algorithm.Declaration.{Declaration}
use Rattle.pcal_tree.specs.declared.algorithm.Definition.{Definition}
use Rattle.pcal_tree.specs.declared.algorithm.Macro.{Macro}
use Rattle.pcal_tree.specs.declared.algorithm.Procedure.{Procedure}
use Rattle.pcal_tree.specs.Printed.{blanks, variables, define, macros, procedures}
use Rattle.pcal_tree.specs.InMemory.{declarations_at, definitions_at, macro_at, procedure_at, algorithm_at}
use Rattle.pcal_tree.specs.Syntaxes.{syntax_of}
use Rattle.syntax_print.specs.Adding.{Adds}
use Rattle.syntax_print.proofs.Lines.{on_ok}
use Rattle.syntax_print.proofs.Units.{rest_adds}
use Rattle.syntax_print.proofs.write_algorithm.write_rest.Goals as goal

pub returns : goal.returns
returns c =
    let s = syntax_of c.args.syntax in
    let ts = c.args.pool.now in
    on_ok c.begin_line.result _ _ (λ e. rest_adds s (algorithm_at ts c.args.algorithm.now) c.args.into.now c.write_variables.new.into c.write_define.new.into c.write_macros.new.into c.write_procedures.new.into c.write_main.new.into c.begin_line.new.into
    (subst (λ (ds : List Declaration). Adds c.args.into.now c.write_variables.new.into (variables (declarations_at ts ds))) c.deref.ensures.value c.in_ok-write_variables.ensures)
    (subst (λ (ds : List Definition). Adds c.write_variables.new.into c.write_define.new.into (define s (definitions_at ts ds))) c.deref-2.ensures.value c.in_ok-write_define.ensures)
    (subst (λ (ms : List Macro). Adds c.write_define.new.into c.write_macros.new.into (macros s (map (macro_at ts) ms))) c.deref-3.ensures.value c.in_ok-write_macros.ensures)
    (subst (λ (ps : List Procedure). Adds c.write_macros.new.into c.write_procedures.new.into (procedures s (map (procedure_at ts) ps))) c.deref-4.ensures.value c.in_ok-write_procedures.ensures)
    c.in_ok-write_main.ensures
    (e ∙ ap (λ w. c.write_main.new.into ++ (codes "\n" ++ (blanks 0 ++ w))) (c.as_bytes.ensures.value ∙ c.last_line_text.ensures))) c.begin_line.ensures
