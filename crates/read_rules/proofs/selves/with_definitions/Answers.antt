-- Proves that the first offence of definitions is found.
use Rattle.std.proofs.Common.{List, ap, ◌∙◌}
use Rattle.tla_tree.specs.Tree.{words}
use Rattle.tla_tree.specs.Pool.{at}
use Rattle.pcal_tree.specs.Algorithm.{Name}
use Rattle.pcal_tree.specs.InMemory.{definition_at}
use Rattle.pcal_tree.specs.Offences.{first}
use Rattle.pcal_tree.specs.OffencesSelf.{selves}
use Rattle.pcal_tree.specs.Reads.{used}
use Rattle.algorithm_answer.specs.Joined.{joined}
use Rattle.read_rules.proofs.FoundLaws.{found_more}
use Rattle.read_rules.proofs.SelfLaws.{used_by_definition, selves_all}
use Rattle.read_rules.proofs.selves.with_definitions.Goals as goal

pub loop-i-preserved : goal.loop-i-preserved
loop-i-preserved c =
    let ts = c.args.pool.now in
    let names = c.in_ok-names.ensures ∙ ap (λ (ns : List Name). used (at ts c.index-list-i.result.body) (words ns)) c.deref.ensures.value in
    found_more (λ d. selves (used_by_definition (definition_at ts d))) c.args.list.now c.loop-i.i c.index-list-i.result c.args.so_far c.loop-i.found c.with_names-found.result c.index-list-i.is c.loop-i-test.true
    (c.with_names-found.ensures ∙ ap (λ (ns : List Name). joined c.loop-i.found (first (selves ns))) (c.deref-in-loop-i.ensures.value ∙ names))
    c.loop-i.invariant

pub returns : goal.returns
returns c = selves_all used_by_definition (definition_at c.args.pool.now) c.args.list.now c.loop-i.i c.args.so_far c.loop-i.found c.loop-i-test.false c.loop-i.invariant
