-- Proves that what a macro's body assigns is gathered where no label is missing.
use Rattle.std.proofs.Common.{None, Some, [], refl}
use Rattle.pcal_tree.specs.InMemory.{statements_at}
use Rattle.pcal_tree.specs.laws.MacroSummaries.{found_here}
use Rattle.label_steps.specs.declared.walk.Met.{Met}
use Rattle.label_steps.specs.Gathered.{assigning}
use Rattle.label_steps.proofs.LearnLaws.{same_variables, taken_gathered}
use Rattle.label_steps.proofs.WalksLaws.{begun}
use Rattle.label_steps.proofs.around.Around.straight.Goals as goal

pub returns : goal.returns
returns c = λ ms k name own due.
    let first : Met = record { first = None; found = Some c.new.result } in
    taken_gathered c.args.self.now ms c.new.result c.taken.result first c.list.new.met (statements_at c.args.pool.now c.args.stmts.now) name own due c.new.ensures.names c.new.ensures.pairs refl c.taken.ensures
    (c.in_ok-list.ensures.passed ms k (assigning (found_here ms)) (same_variables c.args.self.now ms name own) (Some []) (begun c.new-path.result c.new-path.ensures.names c.new-path.ensures.reached)).met
