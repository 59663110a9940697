-- Proves what is seen in statements.
use Rattle.std.proofs.Common.{false, List, [], Vec, Global, sym, ap, subst, ◌∙◌, arith}
use Rattle.std.proofs.lemmas.Result.{on_ok_weaker}
use Rattle.tla_tree.proofs.PoolNumbers.{past_at}
use Rattle.pcal_tree.specs.declared.algorithm.Bind.{Bind}
use Rattle.tla_tree.specs.Pool.{at}
use Rattle.pcal_tree.specs.declared.algorithm.Stmt.{Stmt}
use Rattle.pcal_tree.specs.declared.algorithm.Stmt.TheVariants.{If, Either, With, While}
use Rattle.pcal_tree.specs.Algorithm.{branch, either, with, while}
use Rattle.pcal_tree.specs.InMemory.{binds_at, statements_at, branches_at}
use Rattle.pcal_tree.specs.laws.MacroSpots.{Use, uses_of_binds, Trail, Called, seen_in_call, seen_in_body, unlabelled}
use Rattle.pcal_tree.proofs.InMemoryEach.{if_at, either_at, with_at, while_at}
use Rattle.pcal_tree.proofs.StatementHeights.{height, heights, branch_heights, either_height}
use Rattle.read_rules.specs.declared.uses.Use as memory
use Rattle.read_rules.specs.declared.walk.Group.{Group}
use Rattle.read_rules.specs.declared.ways.Paths.{Paths}
use Rattle.read_rules.specs.BodiesIn.{one, GoesStmt, in_some, together}
use Rattle.read_rules.specs.SeenIn.{stepping, looping}
use Rattle.read_rules.specs.UsesIn.{uses_of}
use Rattle.read_rules.specs.WaysIn.{Goes, Branches}
use Rattle.read_rules.proofs.SeenBodyLaws.{label_goes, simple_goes, standing, if_goes, either_goes, with_goes, is_loop, body_more, body_done, branch_branches, branches_then, branches_more, branches_none}
use Rattle.read_rules.proofs.known.Known.+bodies.Goals as goal

pub body-loop-stmt-init : goal.body-loop-stmt-init
body-loop-stmt-init t c = λ ms ps k w g. g

pub body-stmt-requires : goal.body-stmt-requires
body-stmt-requires t c =
    let less = past_at height c.args.stmts.now c.loop-stmt.stmt-index c.stmt-item.result c.stmt-item.is c.loop-stmt-test.true in
    omega (arith, less, c.decreases)

pub body-loop-stmt-preserved : goal.body-loop-stmt-preserved
body-loop-stmt-preserved t c = λ ms ps k w g.
    c.loop-stmt.invariant ms ps k w
    (body_more (seen_in_call ms) ps c.args.pool.now c.loop-stmt.ways c.stmt.new.ways w c.args.stmts.now c.loop-stmt.stmt-index c.stmt-item.result c.stmt-item.is c.loop-stmt-test.true (c.in_ok-stmt.ensures ms ps k) g)

pub body-returns : goal.body-returns
body-returns t c = λ ms ps k.
    c.loop-stmt.invariant ms ps k c.loop-stmt.ways (body_done (seen_in_call ms) ps c.args.pool.now c.loop-stmt.ways c.args.stmts.now c.loop-stmt.stmt-index c.loop-stmt-test.false)

pub fork-returns : goal.fork-returns
fork-returns t c =
    on_ok_weaker c.join_ends.result
    (λ done ms ps k.
    branch_branches (λ z. seen_in_body (seen_in_call ms) ps (statements_at c.args.pool.now c.args.body.now) z) c.args.ways.now c.restart.new.self c.body.new.ways c.join_ends.new.self c.args.start.now c.args.ends.now c.join_ends.new.ends
    c.in_ok-restart.ensures (c.in_ok-body.ensures ms ps k) done) c.join_ends.ensures

pub stmt-returns-in-Label : goal.stmt-returns-in-Label
stmt-returns-in-Label t c = λ ms ps k.
    subst (λ (z : Stmt). GoesStmt (seen_in_call ms) ps c.args.pool.now z c.args.ways.now c.begin.new.self) (sym c.in-Label.is)
    (label_goes (seen_in_call ms) ps c.args.pool.now c.in-Label.field-0 c.in-Label.field-1 c.args.ways.now c.begin.new.self c.begin.ensures)

pub stmt-returns-in-Simple : goal.stmt-returns-in-Simple
stmt-returns-in-Simple t c =
    on_ok_weaker c.simple.result
    (λ done ms ps k.
    subst (λ (z : Stmt). GoesStmt (seen_in_call ms) ps c.args.pool.now z c.args.ways.now c.simple.new.ways) (sym c.in-Simple.is)
    (simple_goes (seen_in_call ms) ps c.args.pool.now c.in-Simple.span c.in-Simple.simple c.args.ways.now c.simple.new.ways (done ms ps k))) c.simple.ensures

pub stmt-either-requires : goal.stmt-either-requires
stmt-either-requires t c =
    omega (arith, either_height c.in-Either.field-0 c.in-Either.list, ap branch_heights c.deref-in-Either.ensures.value, ap height c.in-Either.is, c.decreases)

pub stmt-returns-in-If : goal.stmt-returns-in-If
stmt-returns-in-If t c =
    on_ok_weaker c.choice.result
    (λ done ms ps k.
    let S = seen_in_call ms in
    let ts = c.args.pool.now in
    let sp = c.in-If.field-0 in
    let e = c.in-If.e in
    let a = c.in-If.then in
    let b = c.in-If.otherwise in
    let Ends : List Stmt → List Stmt → Type 0 = λ ss rs. Goes c.args.ways.now c.choice.new.ways (one S ps sp.first (branch (at ts e) (statements_at ts ss) (statements_at ts rs))) in
    subst (λ (z : Stmt). GoesStmt S ps ts z c.args.ways.now c.choice.new.ways) (sym c.in-If.is)
    (standing S ps ts (If sp e a b) sp (branch (at ts e) (statements_at ts a.items) (statements_at ts b.items)) c.args.ways.now c.choice.new.ways (if_at ts sp e a b)
    (subst (λ (rs : List Stmt). Ends a.items rs) c.deref-in-If.ensures.value (subst (λ (ss : List Stmt). Ends ss c.deref-in-If.result.now) c.deref.ensures.value (done ms ps sp.first k))))) c.choice.ensures

pub stmt-returns-in-Either : goal.stmt-returns-in-Either
stmt-returns-in-Either t c =
    on_ok_weaker c.either.result
    (λ done ms ps k.
    let S = seen_in_call ms in
    let ts = c.args.pool.now in
    let sp = c.in-Either.field-0 in
    let bs = c.in-Either.list in
    subst (λ (z : Stmt). GoesStmt S ps ts z c.args.ways.now c.either.new.ways) (sym c.in-Either.is)
    (standing S ps ts (Either sp bs) sp (either (branches_at ts bs.items)) c.args.ways.now c.either.new.ways (either_at ts sp bs)
    (subst (λ (cs : List (Vec Stmt Global)). Goes c.args.ways.now c.either.new.ways (one S ps sp.first (either (branches_at ts cs)))) c.deref-in-Either.ensures.value (done ms ps sp.first k)))) c.either.ensures

pub stmt-returns-in-With : goal.stmt-returns-in-With
stmt-returns-in-With t c =
    on_ok_weaker c.with.result
    (λ done ms ps k.
    let S = seen_in_call ms in
    let ts = c.args.pool.now in
    let sp = c.in-With.field-0 in
    let bs = c.in-With.binds in
    let b = c.in-With.body in
    let Ends : List Bind → List Stmt → Type 0 = λ xs ss. Goes c.args.ways.now c.with.new.ways (one S ps sp.first (with (binds_at ts xs) (statements_at ts ss))) in
    subst (λ (z : Stmt). GoesStmt S ps ts z c.args.ways.now c.with.new.ways) (sym c.in-With.is)
    (standing S ps ts (With sp bs b) sp (with (binds_at ts bs.items) (statements_at ts b.items)) c.args.ways.now c.with.new.ways (with_at ts sp bs b)
    (subst (λ (ss : List Stmt). Ends bs.items ss) c.deref-in-With-2.ensures.value (subst (λ (xs : List Bind). Ends xs c.deref-in-With-2.result.now) c.deref-in-With.ensures.value (done ms ps sp.first k))))) c.with.ensures

pub stmt-returns-in-While : goal.stmt-returns-in-While
stmt-returns-in-While t c =
    on_ok_weaker c.repeat.result
    (λ done ms ps k.
    let S = seen_in_call ms in
    let ts = c.args.pool.now in
    let sp = c.in-While.field-0 in
    let e = c.in-While.e in
    let b = c.in-While.body in
    subst (λ (z : Stmt). GoesStmt S ps ts z c.args.ways.now c.repeat.new.ways) (sym c.in-While.is)
    (standing S ps ts (While sp e b) sp (while (at ts e) (statements_at ts b.items)) c.args.ways.now c.repeat.new.ways (while_at ts sp e b)
    (subst (λ (ss : List Stmt). Goes c.args.ways.now c.repeat.new.ways (one S ps sp.first (while (at ts e) (statements_at ts ss)))) c.deref-in-While.ensures.value (done ms ps sp.first k)))) c.repeat.ensures

pub choice-returns-in-Ok : goal.choice-returns-in-Ok
choice-returns-in-Ok t c = λ ms ps p k.
    let ts = c.args.pool.now in
    let start = c.take_paths-start.result in
    let f : Trail → Called = λ q. seen_in_body (seen_in_call ms) ps (statements_at ts c.args.then.now) (unlabelled q) in
    let g : Trail → Called = λ q. seen_in_body (seen_in_call ms) ps (statements_at ts c.args.otherwise.now) (unlabelled q) in
    if_goes (seen_in_call ms) ps ts p c.args.e c.args.then.now c.args.otherwise.now c.args.ways.now c.pass_uses.new.self c.take_paths-start.new.self c.both.new.ways c.end.new.self start c.both.new.ends
    (subst (λ (us : List Use). Goes c.args.ways.now c.pass_uses.new.self (stepping us [] false)) c.in_ok-test_uses.ensures c.in_ok-pass_uses.ensures)
    c.take_paths-start.ensures.unreached c.take_paths-start.ensures.reached (ap (λ (v : Vec Group Global). v.items) c.take_paths-start.ensures.seen) (ap (λ (v : Vec Group Global). v.items) c.take_paths-start.ensures.seen_reached)
    (subst (λ (e : Paths). Branches c.take_paths-start.new.self c.both.new.ways start e c.both.new.ends (together f g)) c.none-ends.ensures (c.in-Ok.ensures ms ps k)) c.end.ensures

pub both-returns : goal.both-returns
both-returns t c =
    on_ok_weaker c.fork-2.result
    (λ done ms ps k.
    let ts = c.args.pool.now in
    let f : Trail → Called = λ q. seen_in_body (seen_in_call ms) ps (statements_at ts c.args.then.now) (unlabelled q) in
    let g : Trail → Called = λ q. seen_in_body (seen_in_call ms) ps (statements_at ts c.args.otherwise.now) (unlabelled q) in
    branches_then c.args.ways.now c.fork.new.ways c.fork-2.new.ways c.args.start.now c.args.ends.now c.fork.new.ends c.fork-2.new.ends f g (c.in_ok-fork.ensures ms ps k) (done ms ps k)) c.fork-2.ensures

pub either-returns-in-Ok : goal.either-returns-in-Ok
either-returns-in-Ok t c = λ ms ps p k.
    let start = c.take_paths-start.result in
    either_goes (seen_in_call ms) ps c.args.pool.now p c.args.list.now c.args.ways.now c.pass_uses.new.self c.take_paths-start.new.self c.branches.new.ways c.end.new.self start c.branches.new.ends
    (subst (λ (us : List memory.Use). Goes c.args.ways.now c.pass_uses.new.self (stepping (uses_of us) [] false)) c.new.ensures.items c.in_ok-pass_uses.ensures)
    c.take_paths-start.ensures.unreached c.take_paths-start.ensures.reached
    (ap (λ (v : Vec Group Global). v.items) c.take_paths-start.ensures.seen) (ap (λ (v : Vec Group Global). v.items) c.take_paths-start.ensures.seen_reached)
    (subst (λ (e : Paths). Branches c.take_paths-start.new.self c.branches.new.ways start e c.branches.new.ends (in_some (seen_in_call ms) ps (branches_at c.args.pool.now c.args.list.now))) c.none-ends.ensures (c.in-Ok.ensures ms ps k))
    c.end.ensures

pub with-returns : goal.with-returns
with-returns t c = λ ms ps p k.
    let ts = c.args.pool.now in
    with_goes (uses_of_binds (binds_at ts c.args.binds.now)) (λ z. seen_in_body (seen_in_call ms) ps (statements_at ts c.args.body.now) z) c.args.ways.now c.pass_uses.new.self c.body.new.ways c.unlabel.new.self
    (subst (λ (us : List Use). Goes c.args.ways.now c.pass_uses.new.self (stepping us [] false)) c.in_ok-bind_uses.ensures c.in_ok-pass_uses.ensures) (c.in_ok-body.ensures ms ps k) c.unlabel.ensures

pub repeat-returns : goal.repeat-returns
repeat-returns t c =
    on_ok_weaker c.rounds-outcome.result (λ a ms ps p k. a ms ps p c.new-inner.ensures.unreached c.new-inner.ensures.reached k) c.rounds-outcome.ensures

pub rounds-returns : goal.rounds-returns
rounds-returns t c = λ ms ps p u r k.
    let ts = c.args.pool.now in
    let b = statements_at ts c.args.body.now in
    let g : Trail → Called = λ q. seen_in_body (seen_in_call ms) ps b (unlabelled q) in
    subst (λ (us : List Use). Goes c.args.ways.now c.go_round.new.self (looping us g)) (ap uses_of c.deref.ensures.value ∙ c.in_ok-uses.ensures)
    (c.in_ok-go_round.ensures g (is_loop ms ps b c.args.inner.now c.body.new.ways u r (c.in_ok-body.ensures ms ps k)))

pub branches-fork-requires : goal.branches-fork-requires
branches-fork-requires t c =
    let less = past_at (λ (b : Vec Stmt Global). heights b.items) c.args.list.now c.loop-i.i c.index-list-i.result c.index-list-i.is c.loop-i-test.true in
    omega (arith, less, ap heights c.deref.ensures.value, c.decreases)

pub branches-loop-i-init : goal.branches-loop-i-init
branches-loop-i-init t c = λ ms ps k w e g. g

pub branches-loop-i-preserved : goal.branches-loop-i-preserved
branches-loop-i-preserved t c = λ ms ps k w e g.
    c.loop-i.invariant ms ps k w e
    (branches_more (seen_in_call ms) ps c.args.pool.now c.loop-i.ways c.fork.new.ways w c.args.start.now c.loop-i.ends c.fork.new.ends e c.args.list.now c.loop-i.i c.index-list-i.result c.index-list-i.is c.loop-i-test.true
    (subst (λ (ss : List Stmt). Branches c.loop-i.ways c.fork.new.ways c.args.start.now c.loop-i.ends c.fork.new.ends (λ q. seen_in_body (seen_in_call ms) ps (statements_at c.args.pool.now ss) (unlabelled q))) c.deref.ensures.value
    (c.in_ok-fork.ensures ms ps k)) g)

pub branches-returns : goal.branches-returns
branches-returns t c = λ ms ps k.
    c.loop-i.invariant ms ps k c.loop-i.ways c.loop-i.ends (branches_none (seen_in_call ms) ps c.args.pool.now c.loop-i.ways c.args.start.now c.loop-i.ends c.args.list.now c.loop-i.i c.loop-i-test.false)
