-- Proves that the first offence of a process is found where it is one of a set.
use Rattle.std.proofs.Common.{Bool, [], cond, sym, ap, ◌∙◌}
use Rattle.std.specs.List.{flat_map}
use Rattle.std.proofs.lemmas.Result.{IfOk-weaker}
use Rattle.pcal_tree.specs.InMemory.{declarations_at, process_at}
use Rattle.pcal_tree.specs.Offences.{first}
use Rattle.algorithm_answer.specs.Joined.{joined}
use Rattle.read_rules.specs.Own.{own_in_declaration}
use Rattle.read_rules.proofs.own.with_process.Goals as goal

pub returns : goal.returns
returns c =
    let ts = c.args.pool.now in
    let own = flat_map (own_in_declaration (process_at ts c.args.process.now)) (declarations_at ts c.args.process.now.variables.items) in
    IfOk-weaker c.with_variables-found.result _ _ (λ r h.
    h c.new-variables.ensures ∙ ap (λ (t : Bool). joined c.args.so_far (first (cond t own []))) (sym c.if-not-process.false))
    c.with_variables-found.ensures
