-- Proves that a macro call is looked at.
use Rattle.std.proofs.Common.{ap, ◌∙◌}
use Rattle.std.proofs.lemmas.Result.{on_ok_weaker}
use Rattle.tla_tree.specs.Pool.{trees_at}
use Rattle.pcal_tree.specs.OffencesRebind.{any_name, each_rebinds}
use Rattle.declared_rules.specs.Gathering.{lists_of}
use Rattle.declared_rules.proofs.TellLaws.{adds_then}
use Rattle.declared_rules.proofs.bind_walk.Walk.macro_call.Goals as goal

pub returns : goal.returns
returns c =
    on_ok_weaker c.exprs.result
    (λ a C ps h.
    let ts = trees_at c.args.pool.now c.args.es.now in
    adds_then c.args.sight.now any_name c.args.self.now c.called.new.self c.exprs.new.self (λ ms r. C ms r c.args.name.now ts) (λ ms r. each_rebinds ms ts r)
    (c.in_ok-called.ensures C ts h.macros (ap lists_of c.deref.ensures.value ∙ c.in_ok-args.ensures)) a) c.exprs.ensures
