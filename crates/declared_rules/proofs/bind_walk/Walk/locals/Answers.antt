-- Proves that the variables of a unit are looked at.
use Rattle.std.proofs.lemmas.Result.{on_ok_weaker}
use Rattle.std.proofs.Common.{refl}
use Rattle.pcal_tree.specs.OffencesRebind.{any_name}
use Rattle.tla_tree.specs.Tree.{words}
use Rattle.algorithm_limits.proofs.BoundLemmas.{hides_then}
use Rattle.declared_rules.specs.declared.bind_walk.Walk.{Walk}
use Rattle.declared_rules.specs.Units.{declared_names}
use Rattle.declared_rules.proofs.UnitLaws.{locals_adds}
use Rattle.declared_rules.proofs.bind_walk.Walk.locals.Goals as goal

pub returns : goal.returns
returns c =
    on_ok_weaker c.starts-2.result
    (λ a.
    let mid : Walk = record { bound = c.add_declared-2.new.bound; first = c.declared-2.new.self.first; free = c.declared-2.new.self.free } in
    locals_adds c.args.sight.now c.args.pool.now c.args.self.now c.declared.new.self c.declared-2.new.self mid c.starts.new.self c.starts-2.new.self c.args.params.now c.args.variables.now c.in_ok-declared.ensures c.in_ok-declared-2.ensures refl refl
    (hides_then c.declared-2.new.self.bound c.add_declared.new.bound c.add_declared-2.new.bound (words (declared_names c.args.params.now)) (words (declared_names c.args.variables.now)) c.in_ok-add_declared.ensures c.in_ok-add_declared-2.ensures)
    (c.in_ok-starts.ensures any_name) (a any_name)) c.starts-2.ensures
