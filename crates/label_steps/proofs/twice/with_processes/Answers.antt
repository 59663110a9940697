-- Proves that the first variable that is assigned twice in them is found.
use Rattle.std.proofs.Common.{Some, [], List, ap, ◌∙◌, arith}
use Rattle.tla_tree.proofs.PoolNumbers.{past_at}
use Rattle.pcal_tree.specs.declared.algorithm.Stmt.{Stmt}
use Rattle.pcal_tree.specs.declared.algorithm.Process.{Process}
use Rattle.pcal_tree.specs.Algorithm as tree
use Rattle.pcal_tree.specs.InMemory.{statements_at, process_at, past_statements, past_process}
use Rattle.pcal_tree.specs.Offences.{first}
use Rattle.algorithm_answer.specs.Joined.{joined}
use Rattle.label_jumps.proofs.FoundLaws.{found_more, found_mapped}
use Rattle.label_steps.specs.AroundIn.{effects_around}
use Rattle.label_steps.specs.StraightPaths.{straight_twice}
use Rattle.label_steps.proofs.twice.with_processes.Goals as goal

pub with_body-requires : goal.with_body-requires
with_body-requires c =
    let less = past_at past_process c.args.list.now c.loop-i.i c.index-list-i.result c.index-list-i.is c.loop-i-test.true in omega (arith, less, ap past_statements c.deref.ensures.value, c.requires)

pub loop-i-preserved : goal.loop-i-preserved
loop-i-preserved c = λ ms k.
    found_more (λ (d : Process). straight_twice (effects_around c.args.around.now ms) (Some []) (statements_at c.args.pool.now d.body.items)) c.args.list.now c.loop-i.so_far c.in_ok-so_far.so_far c.loop-i.i
    c.index-list-i.result c.index-list-i.is c.loop-i-test.true
    (c.in_ok-so_far.ensures ms k ∙ ap (λ (ys : List Stmt). joined c.loop-i.so_far (first (straight_twice (effects_around c.args.around.now ms) (Some []) (statements_at c.args.pool.now ys)))) c.deref.ensures.value)
    ∙ c.loop-i.invariant ms k

pub returns : goal.returns
returns c = λ ms k.
    found_mapped (λ (d : tree.Process). straight_twice (effects_around c.args.around.now ms) (Some []) d.body) (process_at c.args.pool.now) c.args.list.now c.loop-i.i c.args.found c.loop-i.so_far c.loop-i-test.false
    (c.loop-i.invariant ms k)
