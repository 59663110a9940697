-- Proves that what a procedure calls is in the row of its name.
use Rattle.std.proofs.Common.{ℕ, List, [], ◌++◌, length, get_or, set, bytes_eq, length-set, sym, ap, ◌∙◌, arith}
use Rattle.std.specs.Prelude.{position}
use Rattle.std.proofs.lemmas.Result.{on_ok_weaker}
use Rattle.name_bits.proofs.NameLaws.{place_is}
use Rattle.pcal_tree.specs.declared.algorithm.Procedure.{Procedure}
use Rattle.pcal_tree.specs.declared.algorithm.Stmt.{Stmt}
use Rattle.pcal_tree.specs.InMemory.{statements_at, procedure_at}
use Rattle.fairness.specs.ReachedProcedures.{calls}
use Rattle.fairness_lines.specs.Numbers.{numbers_in}
use Rattle.fairness_lines.proofs.Reaching.{lists, lists_long}
use Rattle.fairness_lines.proofs.TableRows.{rows_changed, rows_same}
use Rattle.fairness_lines.proofs.table.add_procedure.Goals as goal

pub returns-in-None-clause-rows : goal.returns-in-None-clause-rows
returns-in-None-clause-rows c = λ ts ps e.
    e ∙ sym (rows_same c.args.names.now ps (procedure_at ts c.args.procedure.now)
    (ap (λ (p : Procedure). position (λ v. bytes_eq v p.name.word) c.args.names.now) (sym c.procedure.view_is) ∙ sym c.in-None.ensures))

pub add_to_row-requires : goal.add_to_row-requires
add_to_row-requires c =
    let at = ap (λ (p : Procedure). position (λ v. bytes_eq v p.name.word) c.args.names.now) (sym c.procedure.view_is) ∙ sym c.in-Some.ensures in
    let less = (place_is c.args.procedure.now.name.word c.args.names.now c.in-Some.number at).1 in
    omega (arith, less, c.requires)

pub returns-in-Some-clause-long : goal.returns-in-Some-clause-long
returns-in-Some-clause-long c =
    on_ok_weaker c.add_to_row.result (λ h.
    sym (lists_long c.add_to_row.new.rows.items) ∙ ap length (h []) ∙ length-set (lists c.args.rows.now.items) c.in-Some.number _ ∙ lists_long c.args.rows.now.items)
    c.add_to_row.ensures

pub returns-in-Some-clause-rows : goal.returns-in-Some-clause-rows
returns-in-Some-clause-rows c =
    on_ok_weaker c.add_to_row.result (λ h ts ps e.
    h ts
    ∙ ap (λ (ss : List Stmt). set (lists c.args.rows.now.items) c.in-Some.number (get_or (lists c.args.rows.now.items) c.in-Some.number [] ++ numbers_in c.args.names.now (calls (statements_at ts ss))))
    (c.deref.ensures.value ∙ ap (λ (p : Procedure). p.body.items) c.procedure.view_is)
    ∙ ap (λ (rs : List (List ℕ)). set rs c.in-Some.number (get_or rs c.in-Some.number [] ++ numbers_in c.args.names.now (calls (statements_at ts c.args.procedure.now.body.items)))) e
    ∙ sym (rows_changed c.args.names.now ps (procedure_at ts c.args.procedure.now) c.in-Some.number c.apart.ensures
    (ap (λ (p : Procedure). position (λ v. bytes_eq v p.name.word) c.args.names.now) (sym c.procedure.view_is) ∙ sym c.in-Some.ensures)))
    c.add_to_row.ensures
