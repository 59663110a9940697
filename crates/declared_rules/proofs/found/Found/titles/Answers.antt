-- Proves that all titles are looked at.
use Rattle.std.proofs.Common.{List, subst}
use Rattle.std.proofs.lemmas.Result.{on_ok_weaker}
use Rattle.tla_tree.specs.Tree.{Word}
use Rattle.pcal_tree.specs.Outside.{unit_names}
use Rattle.algorithm_limits.specs.DepthsIn.{Hides}
use Rattle.module_outside.specs.WholeAt.{outside_at}
use Rattle.declared_rules.specs.Titles.{kept_titles, other_titles}
use Rattle.declared_rules.proofs.TitleLaws.{titles_joined}
use Rattle.declared_rules.proofs.found.Found.titles.Goals as goal

pub returns : goal.returns
returns c =
    on_ok_weaker c.kept-2.result
    (λ done.
    titles_joined c.args.self.now c.kept.new.self c.others.new.self c.kept-2.new.self c.truncate.new.self c.bind_units.new.bound (kept_titles c.args.algorithm.now) (other_titles c.args.algorithm.now)
    (λ ts. unit_names (outside_at ts c.args.outside.now)) c.truncate.ensures c.in_ok-kept.ensures c.in_ok-others.ensures
    (λ ts. subst (λ (x : List Word). Hides x c.bind_units.new.bound (unit_names (outside_at ts c.args.outside.now))) c.truncate-2.ensures (c.in_ok-bind_units.ensures ts)) done) c.kept-2.ensures
