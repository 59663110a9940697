-- Proves that the set has what each row assigns.
use Rattle.std.proofs.Common.{List, ◌||◌, take, sym, ap, ◌∙◌}
use Rattle.std.proofs.lemmas.List.{take_all}
use Rattle.std.proofs.lemmas.List.Folds.{list_any_more}
use Rattle.tla_token.specs.Signs.{is_among}
use Rattle.name_bits.specs.NamesIn.{names_in}
use Rattle.step_items.specs.declared.statements.Row.{Row}
use Rattle.step_items.specs.Branching.{rows_assign}
use Rattle.step_items.proofs.ListLaws.{union_names}
use Rattle.step_items.proofs.statements.all_assigned.Goals as goal

pub loop-row-preserved : goal.loop-row-preserved
loop-row-preserved c = λ vs y.
    let rows = c.args.rows.now in
    let i = c.loop-row.row-index in
    let r = c.row-item.result in
    union_names vs c.loop-row.all r.reach.assigned c.union-all.result c.union-all.ensures.numbers y
    ∙ (λ j. c.loop-row.invariant vs y j || is_among (names_in vs r.reach.assigned) y)
    ∙ ap (λ (q : Row). rows_assign vs (take i rows) y || is_among (names_in vs q.reach.assigned) y) c.row-item.is
    ∙ sym (list_any_more (λ (q : Row). is_among (names_in vs q.reach.assigned) y) rows i r c.loop-row-test.true)

pub returns : goal.returns
returns c = λ vs y. c.loop-row.invariant vs y ∙ ap (λ (rs : List Row). rows_assign vs rs y) (take_all c.loop-row.row-index c.args.rows.now c.loop-row-test.false)
