-- Proves that each definition gets its level.
use Rattle.std.proofs.Common.{◌+◌, List, take, reverse, sym, subst}
use Rattle.std.proofs.lemmas.List.{take_all}
use Rattle.tla_tree.specs.Tree.{words}
use Rattle.tla_tree.specs.Pool.{at}
use Rattle.pcal_tree.specs.declared.algorithm.Definition.{Definition}
use Rattle.pcal_tree.specs.Algorithm as tree
use Rattle.pcal_tree.specs.InMemory.{definitions_at}
use Rattle.pcal_tree.specs.Reads.{used}
use Rattle.algorithm_limits.specs.Numbers.{Numbers, with_number}
use Rattle.read_rules.specs.Levels.{furthest, levels}
use Rattle.read_rules.specs.NumbersIn.{AreLevels}
use Rattle.read_rules.proofs.NumberLaws.{levels_more, newest_first}
use Rattle.read_rules.proofs.levels.levels.Goals as goal

pub loop-definition-preserved : goal.loop-definition-preserved
loop-definition-preserved c gs n =
    let d = c.definition-item.result in
    let ts = c.args.pool.now in
    let ds = c.args.definitions.now in
    let i = c.loop-definition.definition-index in
    let before = levels gs (reverse (definitions_at ts (take i ds))) in
    let h = c.loop-definition.invariant gs n in
    let set = c.in_ok-add_level.ensures gs before n h in
    subst (λ (es : Numbers). AreLevels es (levels gs (reverse (definitions_at ts (take (i + 1) ds))))) (sym set)
    (subst (λ (es : List tree.Definition). AreLevels (with_number c.loop-definition.levels d.name.word (furthest gs before (used (at ts d.body) (words d.params.items)))) (levels gs es)) (sym (newest_first ts ds i d c.definition-item.is c.loop-definition-test.true))
    (levels_more c.loop-definition.levels before d.name.word (furthest gs before (used (at ts d.body) (words d.params.items))) h))

pub returns : goal.returns
returns c gs n =
    subst (λ (ds : List Definition). AreLevels c.loop-definition.levels (levels gs (reverse (definitions_at c.args.pool.now ds)))) (take_all c.loop-definition.definition-index c.args.definitions.now c.loop-definition-test.false) (c.loop-definition.invariant gs n)
