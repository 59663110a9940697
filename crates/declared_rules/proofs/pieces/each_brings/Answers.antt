-- Proves that what each tree brings is gathered.
use Rattle.std.proofs.Common.{List, [], ◌∷◌, ◌++◌, slice_index_or, ap, ◌∙◌}
use Rattle.std.proofs.lemmas.List.{get_or_default, map-append}
use Rattle.pcal_tree.specs.OffencesRebind.{Piece}
use Rattle.declared_rules.specs.Gathering.{list_of, lists_of}
use Rattle.declared_rules.proofs.PieceLaws.{each_then}
use Rattle.declared_rules.proofs.pieces.each_brings.Goals as goal

pub loop-i-preserved : goal.loop-i-preserved
loop-i-preserved c =
    let e = slice_index_or c.args.es.now c.loop-i.i 0 in
    each_then c.args.pool.now c.args.es.now c.loop-i.i e (lists_of c.loop-i.lists.items) _ (get_or_default c.args.es.now c.loop-i.i 0 e c.loop-i-test.true) c.loop-i-test.true
    (ap lists_of c.in_ok-push.ensures.items ∙ map-append (λ l. list_of l.items) c.loop-i.lists.items (c.in_ok-pieces_of.field-0 ∷ [])
    ∙ ap (λ (p : List Piece). lists_of c.loop-i.lists.items ++ p ∷ []) c.in_ok-pieces_of.ensures)
    c.loop-i.invariant
