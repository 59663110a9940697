-- Proves that a body is prepared, with its macro calls written out.
use Rattle.std.proofs.Common.{List, map, ap, ◌∙◌}
use Rattle.pcal_tree.specs.declared.algorithm.Stmt.{Stmt}
use Rattle.pcal_tree.specs.Expand.{graft_all}
use Rattle.pcal_tree.specs.InMemory.{statements_at, macro_at}
use Rattle.running.specs.Prepared.{names_put, own_put}
use Rattle.expansion.proofs.AlgorithmLaws.{outside_written}
use Rattle.running.proofs.PlacesLaws.{statements_prepared}
use Rattle.running.proofs.parts.statements.Goals as goal

pub returns-clause-made : goal.returns-clause-made
returns-clause-made c = λ P u is macros.
    let ts = c.args.pool.now in
    let us = c.body.new.pool in
    let ms = c.args.macros.now in
    let ss = c.args.list.now in
    let g = names_put c.args.places.now.local in
    let h = own_put c.args.places.now.own in
    c.in_ok-made.ensures.tree
    ∙ ap (λ (l : List Stmt). graft_all h (graft_all g (statements_at us l))) c.deref.ensures.value
    ∙ (λ j. graft_all h (graft_all g ((c.in_ok-written.ensures.made.stand ∙ outside_written ts ms ss) j)))
    ∙ statements_prepared g h P u is.names is.own (map (macro_at ts) ms) macros (statements_at ts ss)
