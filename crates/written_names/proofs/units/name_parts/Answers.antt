-- Proves that the words of a routine get their names.
use Rattle.std.proofs.Common.{refl, subst}
use Rattle.std.proofs.lemmas.Result.{on_ok_weaker}
use Rattle.tla_tree.specs.Tree.{words}
use Rattle.pcal_tree.specs.InMemory.{statements_at}
use Rattle.algorithm_limits.specs.Counting.{declared_names}
use Rattle.algorithm_limits.specs.LabelNames.{label_names}
use Rattle.written_names.specs.Giving.{Pairs, Gives}
use Rattle.written_names.proofs.UnitWalks.{within_all}
use Rattle.written_names.proofs.units.name_parts.Goals as goal

pub returns : goal.returns
returns c = on_ok_weaker c.name_statements.result (λ h v l. (
  refl,
  λ ts.
      within_all c.args.giver.now c.name_declared.new.giver c.name_declared-2.new.giver c.name_statements.new.giver (declared_names c.args.params.now) (declared_names c.args.variables.now) (label_names (statements_at ts c.args.body.now)) _ c.name_declared.new.into
      (subst (λ (z : Pairs). Gives c.args.giver.now c.name_declared.new.giver z c.name_declared.new.into (words (declared_names c.args.params.now))) v c.in_ok-name_declared.ensures)
      c.in_ok-name_declared-2.ensures
      (subst (λ (z : Pairs). Gives c.name_declared-2.new.giver c.name_statements.new.giver z c.name_statements.new.into (words (label_names (statements_at ts c.args.body.now)))) l (h ts)),
)) c.name_statements.ensures
