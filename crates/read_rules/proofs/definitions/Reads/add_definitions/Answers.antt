-- Proves that what definitions read is known besides.
use Rattle.std.proofs.Common.{List, ◌+◌, refl, sym, ap, subst, ◌∙◌, length, take, reverse, filter}
use Rattle.std.proofs.lemmas.List.{take_all}
use Rattle.tla_tree.specs.Tree.{words}
use Rattle.tla_tree.specs.Pool.{at}
use Rattle.pcal_tree.specs.declared.algorithm.Definition.{Definition}
use Rattle.pcal_tree.specs.InMemory.{definitions_at}
use Rattle.pcal_tree.specs.Reads.{Reading, among_looked_at, readings, used}
use Rattle.algorithm_limits.specs.Numbers.{with_number}
use Rattle.read_rules.specs.ReadsIn.{AreReads}
use Rattle.read_rules.proofs.ReadLaws.{reads_with, newest_read, variables_read}
use Rattle.read_rules.proofs.definitions.Reads.add_definitions.Goals as goal

pub loop-definition-init : goal.loop-definition-init
loop-definition-init c = λ gs e n. n

pub loop-definition-preserved : goal.loop-definition-preserved
loop-definition-preserved c = λ gs e n.
    let ts = c.args.pool.now in
    let r = c.loop-definition.self in
    let i = c.loop-definition.definition-index in
    let d = c.definition-item.result in
    let s = c.in_ok-variables.variables in
    let older = reverse (definitions_at ts (take i c.args.definitions.now)) in
    let ds = readings gs older in
    let ns = used (at ts d.body) (words d.params.items) in
    let next = c.add_definition.new.self in
    let h = c.loop-definition.invariant gs e n in
    subst (λ (all : List Reading). AreReads next all) (sym (newest_read ts gs c.args.definitions.now i d c.definition-item.is c.loop-definition-test.true))
    (reads_with r next ds d.name.word (filter (among_looked_at ds ns) gs) s (length r.lists.items + 1) h (variables_read c.args.globals.now gs e older ns s (c.in_ok-variables.ensures ds h)) c.in_ok-add_definition.ensures.lists
    refl (c.in_ok-add_definition.ensures.numbers ∙ ap (λ (z : Definition). with_number r.numbers z.name.word (length r.lists.items + 1)) c.definition.view_is))

pub returns : goal.returns
returns c = λ gs e n.
    subst (λ (ds : List Definition). AreReads c.loop-definition.self (readings gs (reverse (definitions_at c.args.pool.now ds)))) (take_all c.loop-definition.definition-index c.args.definitions.now c.loop-definition-test.false)
    (c.loop-definition.invariant gs e n)
