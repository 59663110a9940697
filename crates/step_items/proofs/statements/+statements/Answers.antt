-- Proves what is asked of the functions that go through statements.
use Rattle.std.proofs.Common.{◌≡◌, [], ◌∷◌, List, Bool, true, ◌||◌, Vec, Global, IfOk, rules, drop, ◌+◌, refl, sym, ap, subst, ◌∙◌, arith}
use Rattle.std.proofs.lemmas.Bool.{or_left, or_right}
use Rattle.tla_token.specs.Signs.{is_among}
use Rattle.tla_tree.specs.Tree.{Word, graft}
use Rattle.tla_tree.specs.Pool.{at}
use Rattle.tla_tree.proofs.PoolNumbers.{Keeps-then, past_at}
use Rattle.module_tree.specs.Formulas.{self}
use Rattle.module_write.specs.declared.«module».Item.TheVariants.{Choice, Either}
use Rattle.module_write.specs.InMemory.{past_item, past_items}
use Rattle.module_write.proofs.InMemoryGrown.{items_at-kept}
use Rattle.module_write.proofs.ItemEquations.{past_choice, past_either}
use Rattle.pcal_tree.specs.declared.algorithm.Stmt.{Stmt}
use Rattle.pcal_tree.specs.Algorithm.{Binds, Statements, branch, either, then, done}
use Rattle.pcal_tree.specs.Expand.{graft_all, graft_binds, graft_some}
use Rattle.pcal_tree.specs.InMemory.{span_of, binds_at, branches_at, past_stmt, past_statements, past_branches}
use Rattle.pcal_tree.specs.Run.{unlabelled}
use Rattle.pcal_tree.specs.Variables.{vars}
use Rattle.pcal_tree.proofs.InMemoryEach.{past_one_more, past_either as past_either_in}
use Rattle.pcal_tree.proofs.InMemoryGrown.{binds_at-kept}
use Rattle.name_bits.specs.NamesIn.{names_in}
use Rattle.action_builder.specs.Settled.{jumps, jumps_some}
use Rattle.action_builder.specs.Written.{filled, write}
use Rattle.action_builder.specs.WrittenNames.{renames}
use Rattle.right_sides.specs.After.{put_items}
use Rattle.step_items.specs.declared.statements.Row.{Row}
use Rattle.step_items.specs.Branching.{to_end, with_items, Side, rows_end, rows_assign, past_rows, PlainBranches, FitBranches, each_branch}
use Rattle.step_items.specs.Writing.{jumps_of, own_of, named, to_write, to_finish, Plain, Fits, Writes}
use Rattle.step_items.proofs.BranchLaws.{choice_written, branch_ended, branch_plain}
use Rattle.step_items.proofs.DeskLaws.{desk_kept, desk_more, order_is}
use Rattle.step_items.proofs.FarLaws.{Far, far_first, far_all}
use Rattle.step_items.proofs.FirstLaws.{by_whole, by_kind, label_is, simple_is, if_is, either_is, with_is, while_is, follow_is, branch_first, either_first, with_first}
use Rattle.step_items.proofs.ListLaws.{union_names, end_plain, write_plain}
use Rattle.step_items.proofs.ListSteps.{keeps_all, named_kept, behind, behind_is, behind_weight, behind_past, drop_past, fits_here, list_more, list_ends}
use Rattle.step_items.proofs.RowLaws.{side_grown, past_rows_more, Halves, halves_first, halves_all, named_branches, rows_end_is, either_written, either_ended}
use Rattle.step_items.proofs.SideLaws.{fit_branches, plain_branches}
use Rattle.step_items.proofs.RowSteps.{behind_nothing, open_more, some_within}
use Rattle.step_items.proofs.WeightLaws.{weight, weights, branch_weights, either_weight, total_at}
use Rattle.step_items.proofs.WithLaws.{with_written, with_plain, with_new}
use Rattle.step_items.proofs.WritesLaws.{filled_put}
use Rattle.step_items.proofs.statements.+statements.Goals as goal

-- ---- lists

pub finished-returns-clause-made : goal.finished-returns-clause-made
finished-returns-clause-made t c = λ P u x d f.
    let a = c.args.around.now in
    let ts = c.args.pool.now in
    let ss = named P u ts c.args.stmts.now in
    let said = c.in_ok-reach.ensures in
    let w = said.made P u x d (record { plain = write_plain P u a.here.now a.exit.now ss f.plain; fresh = f.fresh }) in
    c.finish.ensures.made P u x (desk_kept ts c.list.new.pool said.kept c.args.desk.now P u x c.requires.desk d) ts c.args.out.now.items ss w.0 w.1 f.plain

pub list-loop-i-init : goal.list-loop-i-init
list-loop-i-init t c = (
  keeps_all c.args.pool.now,
  c.requires.items,
  λ P u x d f.
      far_first P u x c.args.pool.now c.args.out.now.items c.args.around.now.before.now c.empty-assigned.result c.args.around.now.here.now c.args.around.now.exit.now (named P u c.args.pool.now c.args.stmts.now)
      (c.empty-assigned.ensures.names (vars P)) f,
)

pub list-stmt-requires : goal.list-stmt-requires
list-stmt-requires t c =
    let ss = c.args.stmts.now in
    let i = c.loop-i.i in
    let s = c.index-stmts-i.result in
    let less = behind_weight ss i s c.index-stmts-i.is c.loop-i-test.true in
    let past = behind_past ss i s c.index-stmts-i.is c.loop-i-test.true in
    let k = c.loop-i.invariant.0 in (
      omega (arith, less, c.decreases),
      (omega (arith, past, c.requires.there, k.longer), (desk_more _ _ c.args.desk.now k.longer c.requires.desk, c.loop-i.invariant.1)),
    )

pub list-returns-then-reach-clause-made : goal.list-returns-then-reach-clause-made
list-returns-then-reach-clause-made t c = λ P u x d f.
    let a = c.args.around.now in
    let ts = c.args.pool.now in
    let us = c.loop-i.pool in
    let vs = c.stmt.new.pool in
    let ss = c.args.stmts.now in
    let i = c.loop-i.i in
    let s = c.index-stmts-i.result in
    let k = c.loop-i.invariant.0 in
    let far = c.loop-i.invariant.2 P u x d f in
    let r = c.in_ok-reach.reach in
    let all = named P u ts ss in
    let w = c.in_ok-reach.ensures.made P u x (desk_kept ts us k c.args.desk.now P u x c.requires.desk d)
    (fits_here P u x ts us vs k ss c.requires.there i s (behind ss i) c.index-stmts-i.is c.loop-i-test.true (behind_is ss i) c.args.out.now.items c.loop-i.out.items a.before.now c.loop-i.assigned a.here.now c.loop-i.here.now a.exit.now all far) in
    list_ends P u x ts us vs k ss c.requires.there i s (behind ss i) c.index-stmts-i.is c.loop-i-test.true (behind_is ss i) c.args.out.now.items c.loop-i.out.items a.before.now c.loop-i.assigned a.here.now c.loop-i.here.now a.exit.now all far
    c.stmt.new.out.items c.union-before.result r.assigned c.union-assigned.result (union_names (vars P) a.before.now c.loop-i.assigned c.union-before.result c.union-before.ensures.numbers)
    (union_names (vars P) c.loop-i.assigned r.assigned c.union-assigned.result c.union-assigned.ensures.numbers) w.0 (sym w.1 ∙ c.if-reach.true)

pub list-loop-i-preserved : goal.list-loop-i-preserved
list-loop-i-preserved t c = (
  Keeps-then _ _ _ c.loop-i.invariant.0 c.in_ok-reach.ensures.kept,
  c.in_ok-reach.ensures.within,
  λ P u x d f.
      let a = c.args.around.now in
      let ts = c.args.pool.now in
      let us = c.loop-i.pool in
      let vs = c.stmt.new.pool in
      let ss = c.args.stmts.now in
      let i = c.loop-i.i in
      let s = c.index-stmts-i.result in
      let k = c.loop-i.invariant.0 in
      let far = c.loop-i.invariant.2 P u x d f in
      let r = c.in_ok-reach.reach in
      let all = named P u ts ss in
      let w = c.in_ok-reach.ensures.made P u x (desk_kept ts us k c.args.desk.now P u x c.requires.desk d)
      (fits_here P u x ts us vs k ss c.requires.there i s (behind ss i) c.index-stmts-i.is c.loop-i-test.true (behind_is ss i) c.args.out.now.items c.loop-i.out.items a.before.now c.loop-i.assigned a.here.now c.loop-i.here.now a.exit.now all far) in
      subst (λ (h : Word). Far P u x ts vs c.args.out.now.items c.stmt.new.out.items a.before.now c.union-assigned.result a.here.now h a.exit.now all (named P u ts (drop (i + 1) ss))) (sym d.empty)
      (list_more P u x ts us vs k ss c.requires.there i s (behind ss i) c.index-stmts-i.is c.loop-i-test.true (behind_is ss i) c.args.out.now.items c.loop-i.out.items a.before.now c.loop-i.assigned a.here.now c.loop-i.here.now a.exit.now all far
      c.stmt.new.out.items c.union-before.result r.assigned c.union-assigned.result (union_names (vars P) a.before.now c.loop-i.assigned c.union-before.result c.union-before.ensures.numbers)
      (union_names (vars P) c.loop-i.assigned r.assigned c.union-assigned.result c.union-assigned.ensures.numbers) w.0 (sym w.1 ∙ c.if-reach.false)),
)

pub list-returns-clause-made : goal.list-returns-clause-made
list-returns-clause-made t c = λ P u x d f.
    let a = c.args.around.now in
    let ts = c.args.pool.now in
    let ss = c.args.stmts.now in
    far_all P u x ts c.loop-i.pool c.args.out.now.items c.loop-i.out.items a.before.now c.loop-i.assigned a.here.now c.loop-i.here.now a.exit.now (named P u ts ss)
    (subst (λ (rest : List Stmt). Far P u x ts c.loop-i.pool c.args.out.now.items c.loop-i.out.items a.before.now c.loop-i.assigned a.here.now c.loop-i.here.now a.exit.now (named P u ts ss) (named P u ts rest))
    (drop_past ss c.loop-i.i c.loop-i-test.false) (c.loop-i.invariant.2 P u x d f))

-- ---- if

pub open_sides-returns-clause-first : goal.open_sides-returns-clause-first
open_sides-returns-clause-first t c = λ P u x d f.
    let n = c.args.inner.now in
    let ss = named P u c.args.pool.now c.args.then.now in
    let S = to_write P u n.here.now n.exit.now ss in
    let w = c.in_ok-first.ensures.made P u x d f in
    side_grown P x n.before.now c.list.new.pool c.list-2.new.pool c.in_ok-second.ensures.kept c.list.new.out.items c.in_ok-first.first S (jumps ss) c.in_ok-first.ensures.within
    (behind_nothing P x c.args.pool.now c.list.new.pool c.args.yes.now.items c.list.new.out.items n.before.now c.in_ok-first.first S (jumps ss) c.requires.yes w.0 w.1)

pub open_sides-returns-clause-second : goal.open_sides-returns-clause-second
open_sides-returns-clause-second t c = λ P u x d f.
    let n = c.args.inner.now in
    let ts = c.args.pool.now in
    let us = c.list.new.pool in
    let k = c.in_ok-first.ensures.kept in
    let e = named_kept P u ts us k c.args.otherwise.now c.requires.otherwise in
    subst (λ (ss : Statements). Fits P (to_write P u n.here.now n.exit.now ss) ss → Side P x c.list-2.new.pool c.list-2.new.out.items n.before.now c.in_ok-second.second (to_write P u n.here.now n.exit.now ss) (jumps ss)) e
    (λ g.
    let w = c.in_ok-second.ensures.made P u x (desk_kept ts us k c.args.desk.now P u x c.requires.desk d) g in
    behind_nothing P x us c.list-2.new.pool c.args.no.now.items c.list-2.new.out.items n.before.now c.in_ok-second.second _ _ c.requires.no w.0 w.1) f

pub choice-returns-clause-made : goal.choice-returns-clause-made
choice-returns-clause-made t c = λ P u x d hu s p f.
    let n = c.args.inner.now in
    let l = n.exit.now in
    let h = n.here.now in
    let ts = c.args.pool.now in
    let p1 = c.expression.new.pool in
    let p2 = c.open_sides.new.pool in
    let p3 = c.finish_sides.new.pool in
    let p4 = c.close_sides.new.pool in
    let k1 = c.in_ok-test.ensures.kept in
    let k2 = Keeps-then ts p1 p2 k1 c.in_ok-open.ensures.kept in
    let k4 = Keeps-then p1 p2 p4 c.in_ok-open.ensures.kept (Keeps-then p2 p3 p4 c.in_ok-both.ensures.kept c.in_ok-close_sides.ensures.kept) in
    let desk = c.args.desk.now in
    let test = graft (renames P u) (at ts c.args.e) in
    let a = named P u ts c.args.then.now in
    let b = named P u ts c.args.otherwise.now in
    let J = jumps a || jumps b in
    let plain = branch_plain P u l s test a b f in
    let plain_a = subst (λ (w : Word). Plain P (to_end P u J w l a)) (sym hu) plain.0 in
    let plain_b = subst (λ (w : Word). Plain P (to_end P u J w l b)) (sym hu) plain.1 in
    let d1 = desk_kept ts p1 k1 desk P u x c.requires.desk d in
    let d2 = desk_kept ts p2 k2 desk P u x c.requires.desk d in
    let first : Side P x p2 c.open_sides.new.yes.items n.before.now c.in_ok-open.open.first (to_write P u h l a) (jumps a) =
    subst (λ (ss : Statements). Fits P (to_write P u h l ss) ss → Side P x p2 c.open_sides.new.yes.items n.before.now c.in_ok-open.open.first (to_write P u h l ss) (jumps ss)) (named_kept P u ts p1 k1 c.args.then.now c.requires.then)
    (c.in_ok-open.ensures.first P u x d1) (record { plain = end_plain P u h l a J (or_left (jumps a) (jumps b)) plain_a; fresh = f.fresh.0.0 }) in
    let second : Side P x p2 c.open_sides.new.no.items n.before.now c.in_ok-open.open.second (to_write P u h l b) (jumps b) =
    subst (λ (ss : Statements). Fits P (to_write P u h l ss) ss → Side P x p2 c.open_sides.new.no.items n.before.now c.in_ok-open.open.second (to_write P u h l ss) (jumps ss)) (named_kept P u ts p1 k1 c.args.otherwise.now c.requires.otherwise)
    (c.in_ok-open.ensures.second P u x d1) (record { plain = end_plain P u h l b J (or_right (jumps a) (jumps b)) plain_b; fresh = f.fresh.0.1 }) in
    let both = c.in_ok-both.ensures.made P u x d2 a b first second plain_a plain_b in
    let q = c.in_ok-both.both in
    let written = choice_written P x ts p3 p4 c.args.out.now.items c.push.new.self.items n.before.now c.union.result desk.draft.now.order.now s c.args.place c.in_ok-test.test (graft (own_of P) test) (to_end P u J h l a) (to_end P u J h l b) J J
    q.first q.second c.finish_sides.new.yes.items c.finish_sides.new.no.items c.close_sides.new.yes c.close_sides.new.no (order_is ts desk P u x d) p (items_at-kept ts p4 (Keeps-then ts p1 p4 k1 k4) c.args.out.now.items c.requires.items)
    c.in_ok-push.ensures.items (k4.same c.in_ok-test.test c.in_ok-test.ensures.within ∙ c.in_ok-test.ensures.tree P u x d) both.0 both.1 c.in_ok-close_sides.ensures.first c.in_ok-close_sides.ensures.second
    (union_names (vars P) q.first.assigned q.second.assigned c.union.result c.union.ensures.numbers) in (
      subst (Writes P (put_items self x) ts p4 c.args.out.now.items c.push.new.self.items n.before.now c.union.result)
          (ap (λ (w : Word). then s (branch (graft (own_of P) test) (to_end P u J w l a) (to_end P u J w l b)) done) hu ∙ sym (branch_ended P u l s test a b)) written,
      both.0.ends,
    )

pub choice-returns-clause-within : goal.choice-returns-clause-within
choice-returns-clause-within t c =
    let i = Choice c.in_ok-test.test c.close_sides.new.yes c.close_sides.new.no in
    let one = past_one_more past_item c.args.out.now.items i in
    let all = ap past_items c.in_ok-push.ensures.items in
    let inner = past_choice c.in_ok-test.test c.close_sides.new.yes c.close_sides.new.no in
    omega (arith, one, all, inner, c.requires.items, c.in_ok-test.ensures.within, c.in_ok-test.ensures.kept.longer, c.in_ok-open.ensures.kept.longer, c.in_ok-both.ensures.kept.longer, c.in_ok-close_sides.ensures.kept.longer, c.in_ok-close_sides.ensures.yes, c.in_ok-close_sides.ensures.no)

-- ---- while

pub turn_sides-returns-clause-first : goal.turn_sides-returns-clause-first
turn_sides-returns-clause-first t c = λ P u x d f.
    let a = c.args.around.now in
    let ss = named P u c.args.pool.now c.args.body.now in
    let w : Writes P (put_items self x) c.args.pool.now c.finished.new.pool c.args.yes.now.items c.finished.new.out.items a.before.now c.in_ok-first.first (to_finish P u unlabelled a.here.now ss) =
    subst (λ (h : Word). Fits P (to_finish P u h a.here.now ss) ss → Writes P (put_items self x) c.args.pool.now c.finished.new.pool c.args.yes.now.items c.finished.new.out.items a.before.now c.in_ok-first.first (to_finish P u h a.here.now ss)) d.empty
    (c.in_ok-first.ensures.made P u x d) f in
    side_grown P x a.before.now c.finished.new.pool c.finished-2.new.pool c.in_ok-second.ensures.kept c.finished.new.out.items (record { assigned = c.in_ok-first.first; ends = true }) _ true c.in_ok-first.ensures.within
    (behind_nothing P x c.args.pool.now c.finished.new.pool c.args.yes.now.items c.finished.new.out.items a.before.now (record { assigned = c.in_ok-first.first; ends = true }) _ true c.requires.yes w refl)

pub turn_sides-returns-clause-second : goal.turn_sides-returns-clause-second
turn_sides-returns-clause-second t c = λ P u x d f.
    let a = c.args.around.now in
    let ts = c.args.pool.now in
    let us = c.finished.new.pool in
    let k = c.in_ok-first.ensures.kept in
    let d1 = desk_kept ts us k c.args.desk.now P u x c.requires.desk d in
    subst (λ (ss : Statements). Fits P (to_finish P u unlabelled a.exit.now ss) ss → Side P x c.finished-2.new.pool c.finished-2.new.out.items a.before.now (record { assigned = c.in_ok-second.second; ends = true }) (to_finish P u unlabelled a.exit.now ss) true)
    (named_kept P u ts us k c.args.rest.now c.requires.rest)
    (λ g.
    let ss = named P u us c.args.rest.now in
    let w : Writes P (put_items self x) us c.finished-2.new.pool c.args.no.now.items c.finished-2.new.out.items a.before.now c.in_ok-second.second (to_finish P u unlabelled a.exit.now ss) =
    subst (λ (h : Word). Fits P (to_finish P u h a.exit.now ss) ss → Writes P (put_items self x) us c.finished-2.new.pool c.args.no.now.items c.finished-2.new.out.items a.before.now c.in_ok-second.second (to_finish P u h a.exit.now ss)) d.empty
    (c.in_ok-second.ensures.made P u x d1) g in
    behind_nothing P x us c.finished-2.new.pool c.args.no.now.items c.finished-2.new.out.items a.before.now (record { assigned = c.in_ok-second.second; ends = true }) _ true c.requires.no w refl) f

pub turn-returns-clause-made : goal.turn-returns-clause-made
turn-returns-clause-made t c = λ P u x d s p f.
    let n = c.args.around.now in
    let ts = c.args.pool.now in
    let p1 = c.expression.new.pool in
    let p2 = c.turn_sides.new.pool in
    let p4 = c.close_sides.new.pool in
    let k1 = c.in_ok-test.ensures.kept in
    let k4 = Keeps-then p1 p2 p4 c.in_ok-both.ensures.kept c.in_ok-close_sides.ensures.kept in
    let desk = c.args.desk.now in
    let test = graft (renames P u) (at ts c.args.e) in
    let a = named P u ts c.args.body.now in
    let b = named P u ts c.args.rest.now in
    let d1 = desk_kept ts p1 k1 desk P u x c.requires.desk d in
    let q = c.in_ok-both.both in
    let first : Side P x p2 c.turn_sides.new.yes.items n.before.now q.first (to_finish P u unlabelled n.here.now a) true =
    subst (λ (ss : Statements). Fits P (to_finish P u unlabelled n.here.now ss) ss → Side P x p2 c.turn_sides.new.yes.items n.before.now q.first (to_finish P u unlabelled n.here.now ss) true) (named_kept P u ts p1 k1 c.args.body.now c.requires.body)
    (c.in_ok-both.ensures.first P u x d1) (record { plain = record { settled = f.plain.settled.0.0; parts = f.plain.parts.0.0 }; fresh = f.fresh.0 }) in
    let second : Side P x p2 c.turn_sides.new.no.items n.before.now q.second (to_finish P u unlabelled n.exit.now b) true =
    subst (λ (ss : Statements). Fits P (to_finish P u unlabelled n.exit.now ss) ss → Side P x p2 c.turn_sides.new.no.items n.before.now q.second (to_finish P u unlabelled n.exit.now ss) true) (named_kept P u ts p1 k1 c.args.rest.now c.requires.rest)
    (c.in_ok-both.ensures.second P u x d1) (record { plain = record { settled = f.plain.settled.0.1; parts = f.plain.parts.0.1 }; fresh = f.fresh.1 }) in (
      choice_written P x ts p2 p4 c.args.out.now.items c.push.new.self.items n.before.now c.union.result desk.draft.now.order.now s c.args.place c.in_ok-test.test (graft (own_of P) test) (to_finish P u unlabelled n.here.now a) (to_finish P u unlabelled n.exit.now b) true true
          q.first q.second c.turn_sides.new.yes.items c.turn_sides.new.no.items c.close_sides.new.yes c.close_sides.new.no (order_is ts desk P u x d) p (items_at-kept ts p4 (Keeps-then ts p1 p4 k1 k4) c.args.out.now.items c.requires.items)
          c.in_ok-push.ensures.items (k4.same c.in_ok-test.test c.in_ok-test.ensures.within ∙ c.in_ok-test.ensures.tree P u x d) first second c.in_ok-close_sides.ensures.first c.in_ok-close_sides.ensures.second
          (union_names (vars P) q.first.assigned q.second.assigned c.union.result c.union.ensures.numbers),
      refl,
    )

pub turn-returns-clause-within : goal.turn-returns-clause-within
turn-returns-clause-within t c =
    let i = Choice c.in_ok-test.test c.close_sides.new.yes c.close_sides.new.no in
    let one = past_one_more past_item c.args.out.now.items i in
    let all = ap past_items c.in_ok-push.ensures.items in
    let inner = past_choice c.in_ok-test.test c.close_sides.new.yes c.close_sides.new.no in
    omega (arith, one, all, inner, c.requires.items, c.in_ok-test.ensures.within, c.in_ok-test.ensures.kept.longer, c.in_ok-both.ensures.kept.longer, c.in_ok-close_sides.ensures.kept.longer, c.in_ok-close_sides.ensures.yes, c.in_ok-close_sides.ensures.no)

-- ---- either

pub open_rows-loop-i-init : goal.open_rows-loop-i-init
open_rows-loop-i-init t c = (
  keeps_all c.args.pool.now,
  (let e = ap past_rows c.new-rows.ensures.items in omega (arith, e)),
  λ P u x d f.
      let n = c.args.inner.now in
      halves_first P x n.before.now c.args.pool.now (to_write P u n.here.now n.exit.now) jumps c.new-rows.result.items _ _ c.new-rows.ensures.items f,
)

pub open_rows-list-requires : goal.open_rows-list-requires
open_rows-list-requires t c =
    let bs = c.args.branches.now in
    let i = c.loop-i.i in
    let b = c.index-branches-i.result in
    let less = total_at (λ (b : Vec Stmt Global). weights b.items) bs i b c.index-branches-i.is c.loop-i-test.true in
    let past = past_at (λ (b : Vec Stmt Global). past_statements b.items) bs i b c.index-branches-i.is c.loop-i-test.true in
    let none = ap past_items c.new-items.ensures.items in
    let k = c.loop-i.invariant.0 in (
      omega (arith, less, ap weights c.deref.ensures.value, c.decreases),
      (omega (arith, past, ap past_statements c.deref.ensures.value, c.requires.there, k.longer), (desk_more _ _ c.args.desk.now k.longer c.requires.desk, omega (arith, none))),
    )

pub open_rows-loop-i-preserved : goal.open_rows-loop-i-preserved
open_rows-loop-i-preserved t c =
    let ts = c.args.pool.now in
    let us = c.loop-i.pool in
    let vs = c.list.new.pool in
    let n = c.args.inner.now in
    let k = c.loop-i.invariant.0 in
    let said = c.in_ok-reach.ensures in
    let bs = c.args.branches.now in
    let i = c.loop-i.i in
    let b = c.index-branches-i.result in
    let past = past_at (λ (b : Vec Stmt Global). past_statements b.items) bs i b c.index-branches-i.is c.loop-i-test.true in
    let row : Row = record { items = c.list.new.out; reach = c.in_ok-reach.reach } in (
      Keeps-then ts us vs k said.kept,
      past_rows_more _ _ c.loop-i.rows.items c.push.new.self.items row c.loop-i.invariant.1 said.kept.longer said.within c.in_ok-push.ensures.items,
      λ P u x d.
          let q = named_kept P u ts us k b.items (omega (arith, past, c.requires.there)) in
          let e = ap (named P u us) c.deref.ensures.value ∙ q in
          open_more P u x ts us vs said.kept n.before.now n.here.now n.exit.now c.loop-i.rows.items c.push.new.self.items bs i b row c.loop-i.invariant.1 c.index-branches-i.is c.loop-i-test.true c.in_ok-push.ensures.items
          (subst (λ (ss : Statements). Fits P (to_write P u n.here.now n.exit.now ss) ss → Side P x vs c.list.new.out.items n.before.now c.in_ok-reach.reach (to_write P u n.here.now n.exit.now ss) (jumps ss)) e
          (λ g.
          let w = said.made P u x (desk_kept ts us k c.args.desk.now P u x c.requires.desk d) g in
          behind_nothing P x us vs c.new-items.result.items c.list.new.out.items n.before.now c.in_ok-reach.reach _ _ c.new-items.ensures.items w.0 w.1)) (c.loop-i.invariant.2 P u x d),
    )

pub open_rows-returns-clause-made : goal.open_rows-returns-clause-made
open_rows-returns-clause-made t c = λ P u x d f.
    let ts = c.args.pool.now in
    let n = c.args.inner.now in
    let bs = c.args.branches.now in
    let g = to_write P u n.here.now n.exit.now in
    halves_all P x n.before.now c.loop-i.pool g jumps c.loop-i.rows.items (FitBranches P g (named_branches P u ts [])) (named_branches P u ts bs)
    (subst (λ (rest : List (Vec Stmt Global)). Halves P x n.before.now c.loop-i.pool g jumps c.loop-i.rows.items (FitBranches P g (named_branches P u ts rest)) (named_branches P u ts bs) (named_branches P u ts rest))
    (drop_past bs c.loop-i.i c.loop-i-test.false) (c.loop-i.invariant.2 P u x d f))

pub either-returns-clause-made : goal.either-returns-clause-made
either-returns-clause-made t c = λ P u x d hu s p f.
    let n = c.args.inner.now in
    let l = n.exit.now in
    let h = n.here.now in
    let ts = c.args.pool.now in
    let p1 = c.open_rows.new.pool in
    let p2 = c.finish_rows.new.pool in
    let p3 = c.close_rows.new.pool in
    let k1 = c.in_ok-open.ensures.kept in
    let k3 = Keeps-then ts p1 p3 k1 (Keeps-then p1 p2 p3 c.in_ok-done.ensures.kept c.in_ok-lists.ensures.kept) in
    let desk = c.args.desk.now in
    let bs = graft_some (renames P u) (branches_at ts c.args.branches.now) in
    let J = jumps_some bs in
    let E = c.some_end-ends.result in
    let plain : Plain P (then s (either (each_branch (to_end P u J unlabelled l) bs)) done) = subst (Plain P) (either_ended P u l s bs) f.plain in
    let each : PlainBranches P (to_end P u J h l) bs = subst (λ (w : Word). PlainBranches P (to_end P u J w l) bs) (sym hu) (plain_branches P (to_end P u J unlabelled l) bs plain.settled.0 plain.parts.0) in
    let begun = c.in_ok-open.ensures.made P u x d (fit_branches P u h l J bs (some_within J bs refl) each f.fresh.0) in
    let ends : E ≡ J = c.some_end-ends.ensures ∙ ap rows_end c.deref.ensures.value ∙ rows_end_is P x p1 n.before.now (to_write P u h l) c.in_ok-open.open.items bs begun in
    let rows = c.in_ok-done.ensures.made P u x (desk_kept ts p1 k1 desk P u x c.requires.desk d) bs begun ends (subst (λ (b : Bool). PlainBranches P (to_end P u b h l) bs) (sym ends) each) in
    let written = either_written P x p2 n.before.now ts p3 c.args.out.now.items c.push.new.self.items c.in_ok-lists.lists (to_end P u E h l) (λ b. E) desk.draft.now.order.now s c.args.place c.all_assigned-assigned.result c.in_ok-done.done.items bs
    (order_is ts desk P u x d) p rows (λ vs y. c.all_assigned-assigned.ensures vs y ∙ ap (λ (rs : List Row). rows_assign vs rs y) c.deref-2.ensures.value) c.in_ok-lists.ensures.made (items_at-kept ts p3 k3 c.args.out.now.items c.requires.items)
    c.in_ok-push.ensures.items in (
      subst (Writes P (put_items self x) ts p3 c.args.out.now.items c.push.new.self.items n.before.now c.all_assigned-assigned.result)
          ((λ i. then s (either (each_branch (to_end P u (ends i) (hu i) l) bs)) done) ∙ sym (either_ended P u l s bs)) written,
      ends,
    )

pub either-returns-clause-within : goal.either-returns-clause-within
either-returns-clause-within t c =
    let one = past_one_more past_item c.args.out.now.items (Either c.in_ok-lists.lists) in
    let all = ap past_items c.in_ok-push.ensures.items in
    let inner = past_either c.in_ok-lists.lists in
    omega (arith, one, all, inner, c.requires.items, c.in_ok-open.ensures.kept.longer, c.in_ok-done.ensures.kept.longer, c.in_ok-lists.ensures.kept.longer, c.in_ok-lists.ensures.within)

-- ---- with

pub with-returns-clause-made : goal.with-returns-clause-made
with-returns-clause-made t c = λ P u x d hu s p f.
    let n = c.args.inner.now in
    let l = n.exit.now in
    let ts = c.args.pool.now in
    let p1 = c.list.new.pool in
    let p2 = c.fill.new.pool in
    let p3 = c.around_all.new.pool in
    let k2 = Keeps-then ts p1 p2 c.in_ok-reach.ensures.kept c.in_ok-fill.ensures.kept in
    let desk = c.args.desk.now in
    let place = c.args.place in
    let r = c.in_ok-reach.reach in
    let bs = graft_binds (renames P u) (binds_at ts c.args.binds.now) in
    let b = named P u ts c.args.body.now in
    let T = to_write P u unlabelled l b in
    let written = write (vars P) (is_among (names_in (vars P) n.before.now)) T in
    let w : Writes P (put_items self x) ts p1 c.new-items.result.items c.list.new.out.items n.before.now r.assigned T × (r.ends ≡ jumps b) =
    subst (λ (h : Word). Fits P (to_write P u h l b) b → Writes P (put_items self x) ts p1 c.new-items.result.items c.list.new.out.items n.before.now r.assigned (to_write P u h l b) × (r.ends ≡ jumps b)) hu
    (c.in_ok-reach.ensures.made P u x d) (with_plain P u l s bs b f) in
    let side = behind_nothing P x ts p1 c.new-items.result.items c.list.new.out.items n.before.now r T (jumps b) c.new-items.ensures.items w.0 w.1 in
    let full = c.in_ok-fill.ensures.items ∙ ap (filled place) side.writes.items ∙ sym (filled_put self x place written) in
    let made = c.in_ok-around_all.ensures.made P u x (desk_kept ts p2 k2 desk P u x c.requires.desk d) (filled place written) full in (
      with_written P x ts p3 c.args.out.now.items c.push.new.self.items n.before.now r.assigned s place (graft_binds (own_of P) bs) T c.in_ok-around_all.field-0 p (with_new P u l s bs b f)
          (items_at-kept ts p3 (Keeps-then ts p2 p3 k2 c.in_ok-around_all.ensures.kept) c.args.out.now.items c.requires.items) c.in_ok-push.ensures.items
          (made ∙ ap (λ (d : Binds). put_items self x (with_items (is_among (names_in (vars P) n.before.now)) (graft_binds (own_of P) (graft_binds (renames P u) d)) (filled place written))) (binds_at-kept ts p2 k2 c.args.binds.now c.requires.binds))
          side.writes.names,
      w.1,
    )

pub with-returns-clause-within : goal.with-returns-clause-within
with-returns-clause-within t c =
    let one = past_one_more past_item c.args.out.now.items c.in_ok-around_all.field-0 in
    let all = ap past_items c.in_ok-push.ensures.items in
    omega (arith, one, all, c.requires.items, c.in_ok-around_all.ensures.within, c.in_ok-reach.ensures.kept.longer, c.in_ok-fill.ensures.kept.longer, c.in_ok-around_all.ensures.kept.longer)

-- ---- statements

pub stmt-either-requires : goal.stmt-either-requires
stmt-either-requires t c = (
  omega (arith, either_weight c.in-Either.span c.in-Either.branches, ap branch_weights c.deref-in-Either.ensures.value, ap weight c.in-Either.is, c.decreases),
  (
    omega (arith, past_either_in c.in-Either.span c.in-Either.branches, ap past_branches c.deref-in-Either.ensures.value, ap past_stmt c.in-Either.is, c.requires.there),
    (c.requires.desk, c.requires.items),
  ),
)

pub stmt-returns-in_ok-assigned-in-Label-clause-made : goal.stmt-returns-in_ok-assigned-in-Label-clause-made
stmt-returns-in_ok-assigned-in-Label-clause-made t c = λ P u x d.
    let a = c.args.around.now in
    let q : c.label.inside.name ≡ c.in-Label.label.word = first_of (cc, search rules, grind arith) in
    let ts = c.args.pool.now in
    by_whole P u a.here.now a.exit.now
    (λ S k. Writes P (put_items self x) ts c.jump.new.pool c.args.out.now.items c.jump.new.out.items a.before.now c.in_ok-assigned-in-Label.assigned S × (true ≡ k)) (named P u ts (c.args.one.now ∷ c.args.rest.now)) _
    (label_is P u ts c.args.rest.now c.args.one.now c.in-Label.label c.in-Label.field-1 c.in-Label.is) (λ f.
    subst (λ (w : Word). Plain P (graft_all (own_of P) ((jumps_of P u).goto w)) → Writes P (put_items self x) ts c.jump.new.pool c.args.out.now.items c.jump.new.out.items a.before.now c.in_ok-assigned-in-Label.assigned (graft_all (own_of P) ((jumps_of P u).goto w)) × (true ≡ true)) q
    (λ g. (c.in_ok-assigned-in-Label.ensures.made P u x d g, refl)) f.plain)

pub stmt-returns-in-Simple-clause-made : goal.stmt-returns-in-Simple-clause-made
stmt-returns-in-Simple-clause-made t c = λ P u x d.
    let a = c.args.around.now in
    let ts = c.args.pool.now in
    by_whole P u a.here.now a.exit.now
    (λ S k. IfOk c.simple.result (λ r. Writes P (put_items self x) ts c.simple.new.pool c.args.out.now.items c.simple.new.out.items a.before.now r.assigned S × (r.ends ≡ k))) (named P u ts (c.args.one.now ∷ c.args.rest.now)) _
    (simple_is P u ts c.args.rest.now c.args.one.now c.in-Simple.span c.in-Simple.one c.in-Simple.is) (c.simple.ensures.made P u x d)

pub stmt-returns-in-If-clause-made : goal.stmt-returns-in-If-clause-made
stmt-returns-in-If-clause-made t c = λ P u x d.
    let a = c.args.around.now in
    let ts = c.args.pool.now in
    let o = c.in-If in
    let w = c.follow.result.now in
    let rest = named P u ts c.args.rest.now in
    by_kind P u a.here.now a.exit.now
    (λ S k. IfOk c.choice.result (λ r. Writes P (put_items self x) ts c.choice.new.pool c.args.out.now.items c.choice.new.out.items a.before.now r.assigned S × (r.ends ≡ k))) (named P u ts (c.args.one.now ∷ c.args.rest.now)) (span_of o.span) _ rest _
    (if_is P u ts c.args.rest.now c.args.one.now o.span o.e o.then o.otherwise c.deref.result.now c.deref-in-If.result.now o.is c.deref.ensures.value c.deref-in-If.ensures.value)
    (branch_first P u a.here.now a.exit.now w (span_of o.span) rest (follow_is P u ts c.args.rest.now a.exit.now w (c.follow.ensures ts d.empty)) (graft (renames P u) (at ts o.e)) (named P u ts c.deref.result.now) (named P u ts c.deref-in-If.result.now))
    (c.choice.ensures.made P u x d d.empty (span_of o.span) refl)

pub stmt-returns-in-Either-clause-made : goal.stmt-returns-in-Either-clause-made
stmt-returns-in-Either-clause-made t c = λ P u x d.
    let a = c.args.around.now in
    let ts = c.args.pool.now in
    let o = c.in-Either in
    let w = c.follow.result.now in
    let rest = named P u ts c.args.rest.now in
    by_kind P u a.here.now a.exit.now
    (λ S k. IfOk c.either.result (λ r. Writes P (put_items self x) ts c.either.new.pool c.args.out.now.items c.either.new.out.items a.before.now r.assigned S × (r.ends ≡ k))) (named P u ts (c.args.one.now ∷ c.args.rest.now)) (span_of o.span) _ rest _
    (either_is P u ts c.args.rest.now c.args.one.now o.span o.branches c.deref-in-Either.result.now o.is c.deref-in-Either.ensures.value)
    (either_first P u a.here.now a.exit.now w (span_of o.span) rest (follow_is P u ts c.args.rest.now a.exit.now w (c.follow.ensures ts d.empty)) (graft_some (renames P u) (branches_at ts c.deref-in-Either.result.now)))
    (c.either.ensures.made P u x d d.empty (span_of o.span) refl)

pub stmt-returns-in-With-clause-made : goal.stmt-returns-in-With-clause-made
stmt-returns-in-With-clause-made t c = λ P u x d.
    let a = c.args.around.now in
    let ts = c.args.pool.now in
    let o = c.in-With in
    let w = c.follow.result.now in
    let rest = named P u ts c.args.rest.now in
    by_kind P u a.here.now a.exit.now
    (λ S k. IfOk c.with.result (λ r. Writes P (put_items self x) ts c.with.new.pool c.args.out.now.items c.with.new.out.items a.before.now r.assigned S × (r.ends ≡ k))) (named P u ts (c.args.one.now ∷ c.args.rest.now)) (span_of o.span) _ rest _
    (with_is P u ts c.args.rest.now c.args.one.now o.span o.binds o.body c.deref-in-With.result.now c.deref-in-With-2.result.now o.is c.deref-in-With.ensures.value c.deref-in-With-2.ensures.value)
    (with_first P u a.here.now a.exit.now w (span_of o.span) rest (follow_is P u ts c.args.rest.now a.exit.now w (c.follow.ensures ts d.empty)) (graft_binds (renames P u) (binds_at ts c.deref-in-With.result.now)) (named P u ts c.deref-in-With-2.result.now))
    (c.with.ensures.made P u x d d.empty (span_of o.span) refl)

pub stmt-returns-in-While-clause-made : goal.stmt-returns-in-While-clause-made
stmt-returns-in-While-clause-made t c = λ P u x d.
    let a = c.args.around.now in
    let ts = c.args.pool.now in
    let o = c.in-While in
    by_whole P u a.here.now a.exit.now
    (λ S k. IfOk c.turn.result (λ r. Writes P (put_items self x) ts c.turn.new.pool c.args.out.now.items c.turn.new.out.items a.before.now r.assigned S × (r.ends ≡ k))) (named P u ts (c.args.one.now ∷ c.args.rest.now)) _
    (while_is P u ts c.args.rest.now c.args.one.now o.span o.e o.body c.deref-in-While.result.now o.is c.deref-in-While.ensures.value) (c.turn.ensures.made P u x d (span_of o.span) refl)
