-- Proves what is asked of `row_of`.
use Rattle.std.proofs.Common.{arith}
use Rattle.eval_scopes.specs.Choices.{members_of_choice}
use Rattle.eval_scopes.proofs.ScopeLoops.{row_next, row_stop, row_end}
use Rattle.eval_scopes.proofs.scope.row_of.Goals as goal

pub loop-i-preserved : goal.loop-i-preserved
loop-i-preserved c =
    let os = c.args.names.now in let ks = c.args.left.now in let i = c.loop-i.i in
    row_next os ks i c.index-names-i.result c.loop-i.items.items _ (members_of_choice os ks) (omega arith) (omega arith) c.index-names-i.is c.in_ok-add_picked.ensures c.loop-i.invariant

pub returns-then-i-left : goal.returns-then-i-left
returns-then-i-left c = row_stop c.args.names.now c.args.left.now c.loop-i.i c.loop-i.items.items (members_of_choice c.args.names.now c.args.left.now) (omega arith) c.loop-i.invariant

pub returns : goal.returns
returns c = row_end c.args.names.now c.args.left.now c.loop-i.i c.loop-i.items.items (members_of_choice c.args.names.now c.args.left.now) (omega arith) c.loop-i.invariant
