-- Proves what is asked of `write_define`.
use Rattle.std.proofs.Common.{◌++◌, ap, ◌∙◌, sym, subst, ◌<◌}
use Rattle.std.specs.Prelude.{codes}
use Rattle.std.proofs.lemmas.List.{length-map}
use Rattle.pcal_tree.specs.Printed.{blanks}
use Rattle.pcal_tree.specs.InMemory.{definition_at, definitions_at}
use Rattle.pcal_tree.specs.Syntaxes.{syntax_of}
use Rattle.syntax_print.proofs.Lines.{on_ok, not_empty}
use Rattle.syntax_print.proofs.Units.{define_adds}
use Rattle.syntax_print.proofs.write_unit.write_define.Goals as goal

pub returns : goal.returns
returns c =
    on_ok c.begin_line-2.result _ _ (λ e. define_adds (syntax_of c.args.syntax) c.args.into.now c.begin_line.new.into c.write_opening.new.into c.write_definitions.new.into c.begin_line-2.new.into (definitions_at c.args.pool.now c.args.list.now)
    (subst (λ n. 0 < n) (sym (length-map c.args.list.now (definition_at c.args.pool.now))) (not_empty c.args.list.now c.is_empty.result c.is_empty.ensures c.if-is_empty.false)) c.in_ok-begin_line.ensures c.in_ok-write_opening.ensures c.in_ok-write_definitions.ensures
    (e ∙ ap (λ w. c.write_definitions.new.into ++ (codes "\n" ++ (blanks 0 ++ w))) (c.as_bytes.ensures.value ∙ c.define_end_text.ensures))) c.begin_line-2.ensures
