-- Proves that the first offence of a uniprocess algorithm is found.
use Rattle.std.proofs.Common.{List, ◌++◌, map, reverse, ap, ◌∙◌, subst}
use Rattle.std.specs.List.{flat_map}
use Rattle.std.proofs.lemmas.Result.{IfOk-weaker}
use Rattle.pcal_tree.specs.declared.algorithm.Procedure.{Procedure}
use Rattle.pcal_tree.specs.declared.algorithm.Macro.{Macro}
use Rattle.pcal_tree.specs.InMemory.{statements_at, macro_at, procedure_at, algorithm_at}
use Rattle.pcal_tree.specs.Offences.{first}
use Rattle.pcal_tree.specs.OffencesCounts.{calls_of}
use Rattle.pcal_tree.specs.OffencesSelf.{selves, used_by_procedure, reached}
use Rattle.algorithm_answer.specs.Joined.{joined}
use Rattle.algorithm_limits.specs.Numbers.{Numbers}
use Rattle.read_rules.specs.Calls.{AddsCalls}
use Rattle.read_rules.specs.Selves.{calls_of_procedure}
use Rattle.read_rules.proofs.CallLaws.{calls_then}
use Rattle.read_rules.proofs.SelfLaws.{SelvesIn, called_all, alone_selves}
use Rattle.read_rules.proofs.selves.with_calls.Goals as goal

pub returns : goal.returns
returns c =
    let ts = c.args.pool.now in
    let a = c.args.algorithm.now in
    let body = calls_of (statements_at ts c.args.body.now) in
    let by_procedures = flat_map calls_of_procedure (map (procedure_at ts) a.procedures.items) in
    let first_calls = subst (λ (ps : List Procedure). AddsCalls c.args.called.now c.add_procedures.new.called (flat_map calls_of_procedure (map (procedure_at ts) ps))) c.deref.ensures.value (c.in_ok-add_procedures.ensures ts) in
    let calls = calls_then c.args.called.now c.add_procedures.new.called c.add_calls.new.called by_procedures body first_calls (c.in_ok-add_calls.ensures ts) in
    IfOk-weaker c.with_macros.result _ _ (λ r h e.
    let marked = called_all c.add_calls.new.called (by_procedures ++ body) (subst (λ (es : Numbers). AddsCalls es c.add_calls.new.called (by_procedures ++ body)) e calls) in
    alone_selves c.args.so_far c.in_ok-procedures.procedures c.in_ok-found.found r (algorithm_at ts a) (statements_at ts c.args.body.now)
    (c.in_ok-procedures.ensures ∙ ap (λ (ps : List Procedure). joined c.args.so_far (first (selves (flat_map used_by_procedure (map (procedure_at ts) ps))))) c.deref-2.ensures.value)
    c.in_ok-found.ensures
    (h (by_procedures ++ body) marked ∙ ap (λ (ms : List Macro). joined c.in_ok-found.found (SelvesIn (reached (by_procedures ++ body) (reverse (map (macro_at ts) ms))))) c.deref-3.ensures.value))
    c.with_macros.ensures
