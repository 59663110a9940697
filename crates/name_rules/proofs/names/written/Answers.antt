-- Proves that these are the written names.
use Rattle.std.proofs.Common.{List, ap, ◌∙◌}
use Rattle.std.proofs.lemmas.Result.{IfOk-weaker}
use Rattle.tla_tree.specs.Tree.{Word, words, Name}
use Rattle.pcal_tree.specs.Algorithm as tree
use Rattle.pcal_tree.specs.InMemory.{algorithm_at}
use Rattle.pcal_tree.specs.Names.{taken_at_start, wanted, naming_by, give}
use Rattle.tla_value.specs.Outside as pure
use Rattle.module_outside.specs.WholeAt.{outside_at}
use Rattle.name_rules.proofs.names.written.Goals as goal

pub returns : goal.returns
returns c =
    IfOk-weaker c.name_units.result _ _ (λ r h ts same.
    let a : tree.Algorithm = algorithm_at ts c.args.algorithm.now in
    let o : pure.Outside = outside_at ts c.args.outside.now in
    h ts (taken_at_start a o) same
    ∙ ap (λ (ws : List Word). naming_by (give ws (taken_at_start a o) (wanted a))) (c.deref-2.ensures.value ∙ c.in_ok-extended.ensures ∙ ap (λ (ns : List Name). words ns) c.deref.ensures.value))
    c.name_units.ensures
