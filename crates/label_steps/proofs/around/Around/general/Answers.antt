-- Proves that what a macro's body assigns is gathered along all paths.
use Rattle.std.proofs.Common.{Some, [], refl}
use Rattle.pcal_tree.specs.InMemory.{statements_at}
use Rattle.label_steps.proofs.LearnLaws.{taken_generally}
use Rattle.label_steps.proofs.around.Around.general.Goals as goal

pub returns : goal.returns
returns c = λ ms k name own.
    taken_generally c.args.self.now.known ms (statements_at c.args.pool.now c.args.stmts.now) c.new.result c.taken.result (Some c.new.result) c.along.new.found c.new.ensures.names c.new.ensures.pairs refl c.taken.ensures
    ((c.in_ok-along.ensures ms k name own).found (Some []) c.new-ways.ensures.reached)
