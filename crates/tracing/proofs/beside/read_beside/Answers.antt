-- Proves that the constants and the trace are what the files spell, and that one of them which is refused is answered so.
use Rattle.std.proofs.Common.{◌≡◌, List, ap, refl, subst, sym, Err}
use Rattle.tla_token.specs.declared.rule.Stop.{Stop}
use Rattle.tla_tree.specs.Tree.{Word}
use Rattle.pcal_tree.specs.InMemory.{algorithm_at}
use Rattle.action_builder.specs.WrittenNames.{with_names}
use Rattle.module_outside.specs.WholeAt.{outside_at}
use Rattle.step_runner.specs.Trace.{SpellsTrace, TraceOffends}
use Rattle.running.specs.declared.files.NoRun.{NoRun}
use Rattle.running.specs.Ready.{program_read}
use Rattle.running.proofs.FollowLaws.{read_apart, read_few}
use Rattle.running.proofs.ReadyLaws.{algorithm_kept, run_kept}
use Rattle.tracing.specs.Beside.{variables_read, IsRefusedBeside}
use Rattle.tracing.proofs.BesideLaws.{config_refused, trace_refused}
use Rattle.tracing.proofs.beside.read_beside.Goals as goal

pub returns-in-Err-clause-refused : goal.returns-in-Err-clause-refused
returns-in-Err-clause-refused c =
    let ts = c.args.pool.now in
    let k = c.args.checked.now in
    let f = c.args.files.now in
    subst (λ (e : NoRun). IsRefusedBeside ts k f e) (sym c.no_run.ensures)
    (config_refused ts k f c.in-Err.stop (λ r e. c.in-Err.ensures.refused (outside_at ts k.outside) r (sym c.as_slice.ensures.value) (ap (λ (s : Stop). Err s) e)))

pub returns-in-Ok-read_trace-clause-read : goal.returns-in-Ok-read_trace-clause-read
returns-in-Ok-read_trace-clause-read c =
    let ts = c.args.pool.now in
    let us = c.grounds.new.pool in
    let k = c.args.checked.now in
    let h = c.requires.can in
    let kept = c.in-Ok-grounds.ensures.kept in
    let more = run_kept ts us kept k h in
    let names : c.in-Ok-grounds.made.variables ≡ variables_read ts k = c.in-Ok-grounds.ensures.variables (with_names (outside_at ts k.outside) (algorithm_at ts k.algorithm)) refl h.names in
    record {
      constants = c.in-Ok.ensures.read (outside_at ts k.outside) (sym c.as_slice.ensures.value);
      trace = subst (λ (vs : List Word). SpellsTrace vs c.args.files.now.third.now c.in-Ok-read_trace.trace.items) names c.in-Ok-read_trace.ensures.read;
      kept = kept;
      made = λ es. c.in-Ok-grounds.ensures.made (program_read us k es) (sym (algorithm_kept ts us kept k h)) more.names (read_apart us k more es) (read_few us k more es);
    }

pub returns-in-Err-read_trace-clause-refused : goal.returns-in-Err-read_trace-clause-refused
returns-in-Err-read_trace-clause-refused c =
    let ts = c.args.pool.now in
    let k = c.args.checked.now in
    let f = c.args.files.now in
    let names : c.in-Ok-grounds.made.variables ≡ variables_read ts k = c.in-Ok-grounds.ensures.variables (with_names (outside_at ts k.outside) (algorithm_at ts k.algorithm)) refl c.requires.can.names in
    subst (λ (e : NoRun). IsRefusedBeside ts k f e) (sym c.no_run-in-Err-read_trace.ensures)
    (trace_refused ts k f c.in-Ok.constants (c.in-Ok.ensures.read (outside_at ts k.outside) (sym c.as_slice.ensures.value)) c.in-Err-read_trace.stop
    (λ r e. subst (λ (vs : List Word). TraceOffends vs f.third.now r) names (c.in-Err-read_trace.ensures.refused r (ap (λ (s : Stop). Err s) e))))
