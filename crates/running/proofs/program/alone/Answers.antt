-- Proves that the one body is prepared.
use Rattle.std.proofs.Common.{[], refl, sym}
use Rattle.pcal_tree.specs.Algorithm.{alone_routine}
use Rattle.pcal_tree.specs.InMemory.{statements_at}
use Rattle.running.proofs.RoutineLaws.{keeps_all, names_declared, macros_stand}
use Rattle.running.proofs.program.alone.Goals as goal

pub returns-clause-made : goal.returns-clause-made
returns-clause-made c = λ P d number.
    let ts = c.args.pool.now in
    let u = alone_routine P.algorithm (statements_at ts c.args.list.now) in
    let is = c.places_of-places.ensures P u (sym number) (names_declared ts [] [] _ _ _ refl refl c.in_ok-names.ensures) d.naming d.own d.this in
    c.in_ok-made.ensures.made P u is (macros_stand ts ts (keeps_all ts) c.args.draft.now P d _ c.deref.ensures.value)
