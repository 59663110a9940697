-- Proves that the labels of statements are added in the order of the text.
use Rattle.std.proofs.Common.{◌+◌, List, [], ◌∷◌, ◌++◌, drop, map, Vec, Global, ap, sym, ◌∙◌, arith}
use Rattle.std.proofs.lemmas.Result.{on_ok_weaker}
use Rattle.tla_tree.proofs.PoolNumbers.{past_at}
use Rattle.pcal_tree.specs.declared.algorithm.Stmt.{Stmt}
use Rattle.pcal_tree.specs.InMemory.{statements_at, branches_at, past_stmt, past_statements, past_branches}
use Rattle.pcal_tree.specs.Run.{unlabelled, label_of}
use Rattle.pcal_tree.proofs.InMemoryEach.{past_if, past_either, past_with, past_while}
use Rattle.pcal_tree.proofs.StatementHeights.{height, heights, branch_heights, if_height, either_height, with_height, while_height}
use Rattle.step_spots.specs.Targets.{target_word}
use Rattle.step_spots.specs.Spots.{Spot, spots, spots_some, first_spots}
use Rattle.step_spots.specs.InMemory.{spot_at, here_at}
use Rattle.step_spots.proofs.FirstSpots.{adds_none, adds_one, adds_then, left_then, list_more, slice_rest, label_spots, simple_spots, if_spots, either_spots, with_spots, while_spots, branch_more}
use Rattle.step_spots.proofs.SpotNumbers.{past_rest, past_added}
use Rattle.step_spots.proofs.walk.+spots.Goals as goal

-- ---- lists and branches

pub add_stmts-loop-i-preserved : goal.add_stmts-loop-i-preserved
add_stmts-loop-i-preserved t c = record {
  adds = λ ts.
      let ss = c.args.stmts.now in
      let i = c.loop-i.i in
      let here = target_word c.args.here in
      let x = target_word c.args.exit in
      left_then ts c.args.out.now.items c.loop-i.out.items c.add_stmt.new.out.items (first_spots (target_word c.target_at-label.result) (statements_at ts (drop i ss)) x)
      (spots (here_at ts here x ss i) (statements_at ts (drop i ss)) x) (spots (here_at ts here x ss (i + 1)) (statements_at ts (drop (i + 1) ss)) x) (spots here (statements_at ts ss) x)
      (list_more ts ss i c.loop-i-test.true here (target_word c.target_at-label.result) x (c.target_at-label.ensures ts)) (c.in_ok-add_stmt.ensures.adds ts) (c.loop-i.invariant.adds ts);
  within = omega (arith, c.in_ok-add_stmt.ensures.within, c.loop-i.invariant.within);
}

pub add_branches-add_stmts-requires : goal.add_branches-add_stmts-requires
add_branches-add_stmts-requires t c =
    let less = past_at (λ (b : Vec Stmt Global). heights b.items) c.args.list.now c.loop-i.i c.index-list-i.result c.index-list-i.is c.loop-i-test.true in
    omega (arith, less, ap heights c.deref.ensures.value, c.decreases)

pub add_branches-loop-i-preserved : goal.add_branches-loop-i-preserved
add_branches-loop-i-preserved t c = record {
  adds = λ ts.
      let bs = c.args.list.now in
      let i = c.loop-i.i in
      let x = target_word c.args.exit in
      left_then ts c.args.out.now.items c.loop-i.out.items c.add_stmts.new.out.items (spots unlabelled (statements_at ts c.deref.result.now) x)
      (spots_some (branches_at ts (drop i bs)) x) (spots_some (branches_at ts (drop (i + 1) bs)) x) (spots_some (branches_at ts bs) x)
      (branch_more ts bs i c.index-list-i.result c.index-list-i.is c.loop-i-test.true x
      ∙ ap (λ (zs : List Stmt). spots unlabelled (statements_at ts zs) x ++ spots_some (branches_at ts (drop (i + 1) bs)) x) (sym c.deref.ensures.value)) (c.in_ok-add_stmts.ensures.adds ts) (c.loop-i.invariant.adds ts);
  within =
      let past = past_at (λ (b : Vec Stmt Global). past_statements b.items) c.args.list.now c.loop-i.i c.index-list-i.result c.index-list-i.is c.loop-i-test.true in
      omega (arith, past, ap past_statements c.deref.ensures.value, c.in_ok-add_stmts.ensures.within, c.loop-i.invariant.within);
}

-- ---- each kind of statement

pub add_stmt-add_stmts-requires : goal.add_stmt-add_stmts-requires
add_stmt-add_stmts-requires t c =
    let less = past_at height c.args.stmts.now c.args.number c.index-stmts-number.result c.index-stmts-number.is c.requires in
    let o = c.in-If in omega (arith, less, if_height o.field-0 o.field-1 o.then o.otherwise, ap heights c.deref.ensures.value, ap height o.is, c.decreases)

pub add_stmt-add_stmts-requires-in-If : goal.add_stmt-add_stmts-requires-in-If
add_stmt-add_stmts-requires-in-If t c =
    let less = past_at height c.args.stmts.now c.args.number c.index-stmts-number.result c.index-stmts-number.is c.requires in
    let o = c.in-If in omega (arith, less, if_height o.field-0 o.field-1 o.then o.otherwise, ap heights c.deref-in-If.ensures.value, ap height o.is, c.decreases)

pub add_stmt-add_branches-requires : goal.add_stmt-add_branches-requires
add_stmt-add_branches-requires t c =
    let less = past_at height c.args.stmts.now c.args.number c.index-stmts-number.result c.index-stmts-number.is c.requires in
    let o = c.in-Either in omega (arith, less, either_height o.field-0 o.list, ap branch_heights c.deref-in-Either.ensures.value, ap height o.is, c.decreases)

pub add_stmt-add_stmts-requires-in-With : goal.add_stmt-add_stmts-requires-in-With
add_stmt-add_stmts-requires-in-With t c =
    let less = past_at height c.args.stmts.now c.args.number c.index-stmts-number.result c.index-stmts-number.is c.requires in
    let o = c.in-With in omega (arith, less, with_height o.field-0 o.field-1 o.body, ap heights c.deref-in-With.ensures.value, ap height o.is, c.decreases)

pub add_stmt-add_stmts-requires-in-While : goal.add_stmt-add_stmts-requires-in-While
add_stmt-add_stmts-requires-in-While t c =
    let less = past_at height c.args.stmts.now c.args.number c.index-stmts-number.result c.index-stmts-number.is c.requires in
    let o = c.in-While in omega (arith, less, while_height o.field-0 o.field-1 o.body, ap heights c.deref-in-While.ensures.value, ap height o.is, c.decreases)

pub add_stmt-returns-in_ok-push-in-Label-clause-adds : goal.add_stmt-returns-in_ok-push-in-Label-clause-adds
add_stmt-returns-in_ok-push-in-Label-clause-adds t c = λ ts.
    let ss = c.args.stmts.now in
    let n = c.args.number in
    let x = target_word c.args.exit in
    let s = c.index-stmts-number in
    let o = c.in-Label in
    adds_one ts _ _ _ _ c.in_ok-push-in-Label.ensures.items
    (label_spots ts ss n s.result s.is c.requires (target_word c.args.here) x o.label o.field-1 o.is
    ∙ (λ j. record { name = o.label; begins = record { items = statements_at ts (sym (slice_rest ss (n + 1)) j); exit = x } } ∷ []))

pub add_stmt-returns-in-Simple-clause-adds : goal.add_stmt-returns-in-Simple-clause-adds
add_stmt-returns-in-Simple-clause-adds t c = λ ts.
    let s = c.index-stmts-number in
    adds_none ts c.args.out.now.items _
    (simple_spots ts c.args.stmts.now c.args.number s.result s.is c.requires (target_word c.args.here) (target_word c.args.exit) c.in-Simple.field-0 c.in-Simple.field-1 c.in-Simple.is)

pub add_stmt-returns-in_ok-add_stmts-in-If-clause-adds : goal.add_stmt-returns-in_ok-add_stmts-in-If-clause-adds
add_stmt-returns-in_ok-add_stmts-in-If-clause-adds t c = on_ok_weaker c.add_stmts-in-If.result (λ g ts.
    let ss = c.args.stmts.now in
    let n = c.args.number in
    let x = target_word c.args.exit in
    let s = c.index-stmts-number in
    let o = c.in-If in
    let next = c.next_target-next.ensures ts ∙ ap (λ (zs : List Stmt). label_of (statements_at ts zs) x) (slice_rest ss (n + 1)) in
    adds_then ts c.args.out.now.items c.add_stmts.new.out.items c.add_stmts-in-If.new.out.items _ _ (c.in_ok-add_stmts-in-If.ensures.adds ts) (g ts)
    ∙ ap (λ (zs : List Spot). map (spot_at ts) c.args.out.now.items ++ zs)
    (sym (if_spots ts ss n s.result s.is c.requires (target_word c.args.here) x o.field-0 o.field-1 o.then o.otherwise o.is
    ∙ (λ j. spots unlabelled (statements_at ts (sym c.deref.ensures.value j)) (sym next j) ++ spots unlabelled (statements_at ts (sym c.deref-in-If.ensures.value j)) (sym next j)))))
    c.add_stmts-in-If.ensures.adds

pub add_stmt-returns-in-Either-clause-adds : goal.add_stmt-returns-in-Either-clause-adds
add_stmt-returns-in-Either-clause-adds t c = on_ok_weaker c.add_branches.result (λ g ts.
    let ss = c.args.stmts.now in
    let n = c.args.number in
    let x = target_word c.args.exit in
    let s = c.index-stmts-number in
    let o = c.in-Either in
    let next = c.next_target-next.ensures ts ∙ ap (λ (zs : List Stmt). label_of (statements_at ts zs) x) (slice_rest ss (n + 1)) in
    g ts
    ∙ ap (λ (zs : List Spot). map (spot_at ts) c.args.out.now.items ++ zs)
    (sym (either_spots ts ss n s.result s.is c.requires (target_word c.args.here) x o.field-0 o.list o.is
    ∙ (λ j. spots_some (branches_at ts (sym c.deref-in-Either.ensures.value j)) (sym next j)))))
    c.add_branches.ensures.adds

pub add_stmt-returns-in-With-clause-adds : goal.add_stmt-returns-in-With-clause-adds
add_stmt-returns-in-With-clause-adds t c = on_ok_weaker c.add_stmts-in-With.result (λ g ts.
    let ss = c.args.stmts.now in
    let n = c.args.number in
    let x = target_word c.args.exit in
    let s = c.index-stmts-number in
    let o = c.in-With in
    let next = c.next_target-next.ensures ts ∙ ap (λ (zs : List Stmt). label_of (statements_at ts zs) x) (slice_rest ss (n + 1)) in
    g ts
    ∙ ap (λ (zs : List Spot). map (spot_at ts) c.args.out.now.items ++ zs)
    (sym (with_spots ts ss n s.result s.is c.requires (target_word c.args.here) x o.field-0 o.field-1 o.body o.is
    ∙ (λ j. spots unlabelled (statements_at ts (sym c.deref-in-With.ensures.value j)) (sym next j)))))
    c.add_stmts-in-With.ensures.adds

pub add_stmt-returns-in-While-clause-adds : goal.add_stmt-returns-in-While-clause-adds
add_stmt-returns-in-While-clause-adds t c = on_ok_weaker c.add_stmts-in-While.result (λ g ts.
    let ss = c.args.stmts.now in
    let n = c.args.number in
    let here = target_word c.args.here in
    let s = c.index-stmts-number in
    let o = c.in-While in
    g ts
    ∙ ap (λ (zs : List Spot). map (spot_at ts) c.args.out.now.items ++ zs)
    (sym (while_spots ts ss n s.result s.is c.requires here (target_word c.args.exit) o.field-0 o.field-1 o.body o.is
    ∙ (λ j. spots unlabelled (statements_at ts (sym c.deref-in-While.ensures.value j)) here))))
    c.add_stmts-in-While.ensures.adds

-- ---- past which numbers the statements after them are

pub add_stmt-returns-in_ok-push-in-Label-clause-within : goal.add_stmt-returns-in_ok-push-in-Label-clause-within
add_stmt-returns-in_ok-push-in-Label-clause-within t c =
    let rest = past_rest c.args.stmts.now (c.args.number + 1) in omega (arith, rest, past_added _ _ _ c.in_ok-push-in-Label.ensures.items)

pub add_stmt-returns-in_ok-add_stmts-in-If-clause-within : goal.add_stmt-returns-in_ok-add_stmts-in-If-clause-within
add_stmt-returns-in_ok-add_stmts-in-If-clause-within t c = on_ok_weaker c.add_stmts-in-If.result (λ g.
    let past = past_at past_stmt c.args.stmts.now c.args.number c.index-stmts-number.result c.index-stmts-number.is c.requires in
    let o = c.in-If in
    omega (arith, past, past_if o.field-0 o.field-1 o.then o.otherwise, ap past_statements c.deref.ensures.value, ap past_statements c.deref-in-If.ensures.value, ap past_stmt o.is, c.in_ok-add_stmts-in-If.ensures.within, g))
    c.add_stmts-in-If.ensures.within

pub add_stmt-returns-in-Either-clause-within : goal.add_stmt-returns-in-Either-clause-within
add_stmt-returns-in-Either-clause-within t c = on_ok_weaker c.add_branches.result (λ g.
    let past = past_at past_stmt c.args.stmts.now c.args.number c.index-stmts-number.result c.index-stmts-number.is c.requires in
    let o = c.in-Either in
    omega (arith, past, past_either o.field-0 o.list, ap past_branches c.deref-in-Either.ensures.value, ap past_stmt o.is, g))
    c.add_branches.ensures.within

pub add_stmt-returns-in-With-clause-within : goal.add_stmt-returns-in-With-clause-within
add_stmt-returns-in-With-clause-within t c = on_ok_weaker c.add_stmts-in-With.result (λ g.
    let past = past_at past_stmt c.args.stmts.now c.args.number c.index-stmts-number.result c.index-stmts-number.is c.requires in
    let o = c.in-With in
    omega (arith, past, past_with o.field-0 o.field-1 o.body, ap past_statements c.deref-in-With.ensures.value, ap past_stmt o.is, g))
    c.add_stmts-in-With.ensures.within

pub add_stmt-returns-in-While-clause-within : goal.add_stmt-returns-in-While-clause-within
add_stmt-returns-in-While-clause-within t c = on_ok_weaker c.add_stmts-in-While.result (λ g.
    let past = past_at past_stmt c.args.stmts.now c.args.number c.index-stmts-number.result c.index-stmts-number.is c.requires in
    let o = c.in-While in
    omega (arith, past, past_while o.field-0 o.field-1 o.body, ap past_statements c.deref-in-While.ensures.value, ap past_stmt o.is, g))
    c.add_stmts-in-While.ensures.within
