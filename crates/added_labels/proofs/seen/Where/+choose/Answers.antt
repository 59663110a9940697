-- Proves that it is decided before which statements labels are added.
use Rattle.std.proofs.Common.{◌+◌, List, Vec, Global, drop, refl, sym, ap, ◌∙◌, subst, arith}
use Rattle.tla_tree.proofs.PoolNumbers.{past_at}
use Rattle.pcal_tree.specs.declared.algorithm.Stmt.{Stmt}
use Rattle.pcal_tree.specs.Algorithm.{Branches, Statements}
use Rattle.pcal_tree.specs.InMemory.{past_stmt, past_statements, past_branches, stmt_at, statements_at, branches_at}
use Rattle.pcal_tree.proofs.InMemoryEach.{past_either}
use Rattle.pcal_tree.proofs.StatementHeights.{height, heights, branch_heights, either_height}
use Rattle.label_steps.proofs.WalksLaws.{next_one, next_none, next_branch, next_no_branch, not_label, taken, stays_behind}
use Rattle.pcal_tree.specs.Paths as paths
use Rattle.pcal_tree.proofs.EffectLaws.{Alike}
use Rattle.added_labels.specs.declared.seen.Seen.{Seen}
use Rattle.added_labels.specs.Chosen.{ChoosesBranch, ChoosesList}
use Rattle.added_labels.specs.Sight.{effects_of}
use Rattle.added_labels.proofs.SightLaws.{if_ok_then, is_label, is_statement, kept_begins, kept_passed, none_kept, path_same}
use Rattle.added_labels.proofs.ChooseLaws.{ChoiceOfBranches, ChoiceOfList, simple_chosen, if_chosen, either_chosen, with_chosen, while_chosen, mark_chosen, one_chosen, choice_same, kept_stands, kept_same, branch_chooses, on_path, choice_next, choice_ends, list_chooses}
use Rattle.added_labels.proofs.seen.Where.+choose.Goals as goal

pub choose_inside-choose_branches-requires : goal.choose_inside-choose_branches-requires
choose_inside-choose_branches-requires t c = (
  omega (arith, either_height c.in-Either.field-0 c.in-Either.list, ap branch_heights c.deref-in-Either.ensures.value, ap height c.in-Either.is, c.decreases),
  omega (arith, past_either c.in-Either.field-0 c.in-Either.list, ap past_branches c.deref-in-Either.ensures.value, ap past_stmt c.in-Either.is, c.requires),
)

pub choose_inside-returns-in-Label-clause-chooses : goal.choose_inside-returns-in-Label-clause-chooses
choose_inside-returns-in-Label-clause-chooses t c = λ ms a j n s st e. absurd (not_label c.args.pool.now c.args.stmt.now c.in-Label.field-0 c.in-Label.field-1 c.in-Label.is s st e)

pub choose_branch-returns-clause-chooses : goal.choose_branch-returns-clause-chooses
choose_branch-returns-clause-chooses t c = λ ms a q o.
    branch_chooses _ q (statements_at c.args.pool.now c.args.stmts.now) c.args.path.now c.choose_list.new.path c.args.seen c.end.result c.in_ok-inner.inner c.args.ends c.in_ok-all.all _ _ _ c.end.ensures
    (c.in_ok-inner.ensures.chooses ms a _ (on_path c.end.result c.args.seen c.args.path.now q c.end.ensures o))
    (taken c.args.path.now.names.keys c.choose_list.new.path.names.keys c.len-start.result c.len-start.ensures.len c.in_ok-inner.ensures.kept) c.in_ok-all.ensures.ends

pub choose_branches-choose_branch-requires : goal.choose_branches-choose_branch-requires
choose_branches-choose_branch-requires t c =
    let less = past_at (λ (b : Vec Stmt Global). heights b.items) c.args.list.now c.loop-i.i c.index-list-i.result c.index-list-i.is c.loop-i-test.true in
    let within = past_at (λ (b : Vec Stmt Global). past_statements b.items) c.args.list.now c.loop-i.i c.index-list-i.result c.index-list-i.is c.loop-i-test.true in
    (omega (arith, less, ap heights c.deref.ensures.value, c.decreases), omega (arith, within, ap past_statements c.deref.ensures.value, c.requires))

pub choose_branches-loop-i-preserved : goal.choose_branches-loop-i-preserved
choose_branches-loop-i-preserved t c = record {
  names = c.in_ok-next.ensures.names ∙ c.loop-i.invariant.names;
  reached = c.in_ok-next.ensures.reached ∙ c.loop-i.invariant.reached;
  left = λ ms a q o.
      let ts = c.args.pool.now in
      let b = c.index-list-i.result in
      let E = effects_of c.args.self.now ms in
      let same = path_same c.loop-i.path c.args.path.now c.loop-i.invariant.names c.loop-i.invariant.reached in
      choice_next E q (branches_at ts c.args.list.now) (statements_at ts b.items) (branches_at ts (drop (c.loop-i.i + 1) c.args.list.now)) c.args.path.now c.loop-i.path c.args.seen c.loop-i.so_far c.in_ok-next.next c.loop-i.ends c.in_ok-next.all
      c.args.wanted.now.items c.loop-i.wanted.items c.choose_branch.new.wanted.items c.loop-i.invariant.names
      (subst (λ (z : Branches). ChoiceOfBranches E q (branches_at ts c.args.list.now) z c.args.path.now c.args.seen c.loop-i.so_far c.loop-i.ends c.args.wanted.now.items c.loop-i.wanted.items) (next_branch ts c.args.list.now c.loop-i.i b c.index-list-i.is c.loop-i-test.true) (c.loop-i.invariant.left ms a q o))
      (subst (λ (ss : List Stmt). ChoosesBranch E q (statements_at ts ss) c.loop-i.path c.loop-i.ends c.loop-i.so_far c.in_ok-next.next c.in_ok-next.all c.loop-i.wanted.items c.choose_branch.new.wanted.items) c.deref.ensures.value
      (c.in_ok-next.ensures.chooses ms a q (subst (λ (z : paths.Path). Alike z q) (sym same) o)));
}

pub choose_branches-returns-clause-chooses : goal.choose_branches-returns-clause-chooses
choose_branches-returns-clause-chooses t c = λ ms a q o.
    let ts = c.args.pool.now in
    let E = effects_of c.args.self.now ms in
    choice_ends E q (branches_at ts c.args.list.now) c.args.path.now c.args.seen c.loop-i.so_far c.loop-i.ends c.args.wanted.now.items c.loop-i.wanted.items
    (subst (λ (z : Branches). ChoiceOfBranches E q (branches_at ts c.args.list.now) z c.args.path.now c.args.seen c.loop-i.so_far c.loop-i.ends c.args.wanted.now.items c.loop-i.wanted.items) (next_no_branch ts c.args.list.now c.loop-i.i c.loop-i-test.false) (c.loop-i.invariant.left ms a q o))

pub choose_inside-returns-in-Simple-clause-chooses : goal.choose_inside-returns-in-Simple-clause-chooses
choose_inside-returns-in-Simple-clause-chooses t c =
    if_ok_then _ _ c.simple.result (λ r h ms a j n s st e q o d.
    simple_chosen (effects_of c.args.self.now ms) q c.args.pool.now j c.args.path.now c.simple.new.path c.args.seen r c.args.wanted.now.items c.args.wanted.now.items c.args.stmt.now s st e c.in-Simple.field-0 c.in-Simple.simple c.in-Simple.is refl (h ms a j n) o d)
    c.simple.ensures.sees

pub choose_inside-returns-in_ok-close-in-If-clause-chooses : goal.choose_inside-returns-in_ok-close-in-If-clause-chooses
choose_inside-returns-in_ok-close-in-If-clause-chooses t c = λ ms a j n s st e q o d.
    if_chosen (effects_of c.args.self.now ms) q c.args.pool.now j c.args.path.now c.close.new.self c.args.seen c.out.result c.args.wanted.now.items c.choose_branch-in-If.new.wanted.items c.args.stmt.now s st e
    c.in-If.field-0 c.in-If.field-1 c.in-If.then c.in-If.otherwise c.deref.result.now c.deref-in-If.result.now c.choose_branch.new.path c.choose_branch-in-If.new.path c.into.result c.in_ok-first-in-If.first c.in_ok-second-in-If.second
    c.in_ok-first-in-If.ends c.in_ok-second-in-If.all c.choose_branch.new.wanted.items c.in-If.is c.deref.ensures.value c.deref-in-If.ensures.value c.into.ensures
    (c.in_ok-first-in-If.ensures.chooses ms a q o) c.in_ok-first-in-If.ensures.names
    (c.in_ok-second-in-If.ensures.chooses ms a q (subst (λ (z : paths.Path). Alike z q) (sym (path_same c.choose_branch.new.path c.args.path.now c.in_ok-first-in-If.ensures.names c.in_ok-first-in-If.ensures.reached)) o))
    c.in_ok-second-in-If.ensures.names c.in_ok-close-in-If.ensures.path c.out.ensures

pub choose_inside-returns-in_ok-close-in-Either-clause-chooses : goal.choose_inside-returns-in_ok-close-in-Either-clause-chooses
choose_inside-returns-in_ok-close-in-Either-clause-chooses t c = λ ms a j n s st e q o d.
    either_chosen (effects_of c.args.self.now ms) q c.args.pool.now j c.args.path.now c.close-in-Either.new.self c.args.seen c.out-in-Either.result c.args.wanted.now.items c.choose_branches.new.wanted.items c.args.stmt.now s st e
    c.in-Either.field-0 c.in-Either.list c.deref-in-Either.result.now c.choose_branches.new.path c.into-in-Either.result c.in_ok-inner-in-Either.inner c.in_ok-inner-in-Either.ends c.in-Either.is c.deref-in-Either.ensures.value c.into-in-Either.ensures
    (c.in_ok-inner-in-Either.ensures.chooses ms a q o) c.in_ok-inner-in-Either.ensures.names c.in_ok-close-in-Either.ensures.path c.out-in-Either.ensures

pub choose_inside-returns-in_ok-inner-in-With-clause-chooses : goal.choose_inside-returns-in_ok-inner-in-With-clause-chooses
choose_inside-returns-in_ok-inner-in-With-clause-chooses t c = λ ms a j n s st e q o d.
    with_chosen (effects_of c.args.self.now ms) q c.args.pool.now j c.args.path.now c.list.new.path c.args.seen c.out-in-With.result c.args.wanted.now.items c.args.wanted.now.items c.args.stmt.now s st e
    c.in-With.field-0 c.in-With.field-1 c.in-With.body c.deref-in-With.result.now c.into-in-With.result c.in_ok-inner-in-With.inner c.in-With.is refl c.deref-in-With.ensures.value c.into-in-With.ensures
    (c.in_ok-inner-in-With.ensures.sees ms a) c.out-in-With.ensures o

pub choose_inside-returns-in_ok-inner-in-While-clause-kept : goal.choose_inside-returns-in_ok-inner-in-While-clause-kept
choose_inside-returns-in_ok-inner-in-While-clause-kept t c = stays_behind c.args.path.now.names.keys c.choose_branch-in-While.new.path.names.keys c.in_ok-inner-in-While.ensures.names

pub choose_inside-returns-in_ok-inner-in-While-clause-chooses : goal.choose_inside-returns-in_ok-inner-in-While-clause-chooses
choose_inside-returns-in_ok-inner-in-While-clause-chooses t c = λ ms a j n s st e q o d.
    while_chosen (effects_of c.args.self.now ms) q c.args.pool.now j c.args.path.now c.choose_branch-in-While.new.path c.args.seen c.out-in-While.result c.args.wanted.now.items c.choose_branch-in-While.new.wanted.items c.args.stmt.now s st e
    c.in-While.field-0 c.in-While.field-1 c.in-While.body c.deref-in-While.result.now c.into-in-While.result c.in_ok-inner-in-While.inner _ c.in-While.is c.deref-in-While.ensures.value c.into-in-While.ensures
    (c.in_ok-inner-in-While.ensures.chooses ms a q o) c.in_ok-inner-in-While.ensures.names c.in_ok-inner-in-While.ensures.reached c.out-in-While.ensures o

pub choose_list-needs-requires : goal.choose_list-needs-requires
choose_list-needs-requires t c =
    let within = past_at past_stmt c.args.stmts.now c.loop-i.i c.index-stmts-i.result c.index-stmts-i.is c.loop-i-test.true in
    omega (arith, within, c.requires)

pub choose_list-choose_inside-requires : goal.choose_list-choose_inside-requires
choose_list-choose_inside-requires t c =
    let less = past_at height c.args.stmts.now c.loop-i.i c.index-stmts-i.result c.index-stmts-i.is c.loop-i-test.true in
    let within = past_at past_stmt c.args.stmts.now c.loop-i.i c.index-stmts-i.result c.index-stmts-i.is c.loop-i-test.true in
    (omega (arith, less, c.decreases), omega (arith, within, c.requires))

pub choose_list-loop-i-preserved-then-is_none : goal.choose_list-loop-i-preserved-then-is_none
choose_list-loop-i-preserved-then-is_none t c =
    let ts = c.args.pool.now in
    let b = statements_at ts c.args.stmts.now in
    let now = statements_at ts (drop c.loop-i.i c.args.stmts.now) in
    let rest = statements_at ts (drop (c.loop-i.i + 1) c.args.stmts.now) in
    let f = stmt_at ts c.index-stmts-i.result in
    let is = next_one ts c.args.stmts.now c.loop-i.i c.index-stmts-i.result c.index-stmts-i.is c.loop-i-test.true in
    let k = is_label c.place_of.result c.is_none.result f (c.place_of.ensures ts) c.is_none.ensures c.if-is_none.true in
    record {
      kept = kept_begins c.args.path.now c.loop-i.path c.begin-kept.new.path c.loop-i.kept c.begin-kept.result c.loop-i.invariant.kept c.begin-kept.ensures;
      left = λ ms a p o.
          mark_chosen (effects_of c.args.self.now ms) p b now rest f k.0 k.1 c.loop-i.path c.begin-kept.new.path c.loop-i.kept c.begin-kept.result c.args.seen c.loop-i.so_far c.label-so_far.result c.args.wanted.now.items c.loop-i.wanted.items is k.2
          c.begin-kept.ensures c.label-so_far.ensures (c.loop-i.invariant.left ms a p o);
    }

pub choose_list-loop-i-preserved : goal.choose_list-loop-i-preserved
choose_list-loop-i-preserved t c =
    let ts = c.args.pool.now in
    let b = statements_at ts c.args.stmts.now in
    let now = statements_at ts (drop c.loop-i.i c.args.stmts.now) in
    let rest = statements_at ts (drop (c.loop-i.i + 1) c.args.stmts.now) in
    let f = stmt_at ts c.index-stmts-i.result in
    let is = next_one ts c.args.stmts.now c.loop-i.i c.index-stmts-i.result c.index-stmts-i.is c.loop-i-test.true in
    let k = is_statement c.place_of.result c.is_none.result f (c.place_of.ensures ts) c.is_none.ensures c.if-is_none.false in
    let stood = kept_stands c.in_ok-needs.needs c.args.path.now c.needs.new.path c.stand-first.new.path c.loop-i.kept c.stand-first.result.1 c.loop-i.so_far c.stand-first.result.0
    (kept_same c.args.path.now c.loop-i.path c.needs.new.path c.loop-i.kept c.loop-i.invariant.kept c.in_ok-needs.ensures.names) c.stand-first.ensures in
    record {
      kept = kept_passed c.args.path.now c.stand-first.new.path c.choose_inside.new.path c.stand-first.result.1 stood c.in_ok-so_far.ensures.kept;
      left = λ ms a p o.
          let h = c.loop-i.invariant.left ms a p o in
          one_chosen (effects_of c.args.self.now ms) p b now rest f k.0 k.1 c.needs.new.path c.stand-first.new.path c.choose_inside.new.path c.loop-i.kept c.stand-first.result.1 c.args.seen c.loop-i.so_far c.stand-first.result.0 c.in_ok-so_far.so_far c.in_ok-needs.needs
          c.args.wanted.now.items c.loop-i.wanted.items c.push.new.self.items c.choose_inside.new.wanted.items is k.2
          (choice_same (effects_of c.args.self.now ms) p b now c.loop-i.path c.needs.new.path c.loop-i.kept c.args.seen c.loop-i.so_far c.args.wanted.now.items c.loop-i.wanted.items h c.in_ok-needs.ensures.names c.in_ok-needs.ensures.reached)
          c.in_ok-push.ensures.items (c.in_ok-needs.ensures.needs ms a _ (c.next_of-next.ensures ts) k.0 k.1 k.2 h.at h.on) c.stand-first.ensures
          (λ g d. c.in_ok-so_far.ensures.chooses ms a _ (c.next_of-next.ensures ts) k.0 k.1 k.2 _ g d);
    }

pub choose_list-returns-clause-chooses : goal.choose_list-returns-clause-chooses
choose_list-returns-clause-chooses t c = λ ms a p o.
    let ts = c.args.pool.now in
    let E = effects_of c.args.self.now ms in
    let b = statements_at ts c.args.stmts.now in
    let none = next_none ts c.args.stmts.now c.loop-i.i c.loop-i-test.false in
    subst (λ (z : Seen). ChoosesList E p b c.finish.new.path c.args.seen z c.args.wanted.now.items c.loop-i.wanted.items) (sym c.end.ensures)
    (list_chooses E p b c.loop-i.path c.finish.new.path c.loop-i.kept c.args.seen c.loop-i.so_far c.args.wanted.now.items c.loop-i.wanted.items
    (subst (λ (z : Statements). ChoiceOfList E p b z c.loop-i.path c.loop-i.kept c.args.seen c.loop-i.so_far c.args.wanted.now.items c.loop-i.wanted.items) none (c.loop-i.invariant.left ms a p o))
    (none_kept c.loop-i.path c.finish.new.path c.loop-i.kept c.finish.ensures))
