-- Proves that the parameters of a procedure come before its variables.
use Rattle.std.proofs.Common.{List, [], ap, ◌∙◌}
use Rattle.pcal_tree.specs.declared.algorithm.Declaration.{Declaration}
use Rattle.pcal_tree.specs.InMemory.{declarations_at}
use Rattle.pcal_tree.specs.Offences.{first}
use Rattle.algorithm_limits.proofs.BoundLemmas.{hides_as}
use Rattle.algorithm_answer.specs.Joined.{joined}
use Rattle.read_rules.specs.EarlyReads.{early_in}
use Rattle.read_rules.specs.NumbersIn.{declared_in}
use Rattle.read_rules.specs.Order.{behind}
use Rattle.read_rules.proofs.OrderLaws.{knows_behind}
use Rattle.read_rules.proofs.LocalLaws.{two_lists}
use Rattle.read_rules.proofs.locals.with_procedure.Goals as goal

pub returns-clause-found : goal.returns-clause-found
returns-clause-found c = λ all before k.
    let ts = c.args.pool.now in
    let ds = c.args.procedure.now.params.items in
    let es = c.args.procedure.now.variables.items in
    let ahead = behind (declared_in ds) before in
    two_lists all before c.args.so_far c.in_ok-params.params c.in_ok-found.found ts ds es
    (c.in_ok-params.ensures.found all [] before k ∙ ap (λ (l : List Declaration). joined c.args.so_far (first (early_in all [] before 0 (declarations_at ts l)))) c.deref.ensures.value)
    (c.in_ok-found.ensures.found all [] ahead
    (knows_behind c.args.known.now c.with_declarations.new.known (declared_in ds) all before [] c.in_ok-params.ensures.all c.in_ok-params.ensures.levels
    (hides_as c.args.known.now.before c.with_declarations.new.known.before _ _ (ap declared_in c.deref.ensures.value) c.in_ok-params.ensures.hides) k)
    ∙ ap (λ (l : List Declaration). joined c.in_ok-params.params (first (early_in all [] ahead 0 (declarations_at ts l)))) c.deref-2.ensures.value)
