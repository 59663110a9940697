-- Proves that the names of all units are bound.
use Rattle.std.proofs.lemmas.Result.{on_ok_weaker}
use Rattle.std.proofs.Common.{ap, ◌∙◌}
use Rattle.tla_tree.specs.Tree.{words}
use Rattle.algorithm_limits.proofs.BoundLemmas.{hides_then, hides_as}
use Rattle.declared_rules.specs.OutsideWords.{read_words, passed_words}
use Rattle.declared_rules.proofs.OutsideLaws.{titles_read, names_passed}
use Rattle.declared_rules.proofs.outside_words.bind_units.Goals as goal

pub returns : goal.returns
returns c =
    on_ok_weaker c.bind_passed.result
    (λ done ts.
    hides_then c.args.bound.now c.add_all.new.self c.bind_passed.new.bound _ _ (hides_as c.args.bound.now c.add_all.new.self _ _ (ap words c.deref.ensures.value) c.in_ok-add_all.ensures)
    (hides_then c.add_all.new.self c.bind_read.new.bound c.bind_passed.new.bound _ _
    (hides_as c.add_all.new.self c.bind_read.new.bound _ _ (ap read_words c.deref-2.ensures.value ∙ titles_read ts c.args.outside.now.definitions.items) c.in_ok-bind_read.ensures)
    (hides_as c.bind_read.new.bound c.bind_passed.new.bound _ _ (ap passed_words c.deref-3.ensures.value ∙ names_passed c.args.outside.now.opaque.items) done))) c.bind_passed.ensures
