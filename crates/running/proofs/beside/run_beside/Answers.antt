-- Proves that it is the run that the files choose, and that one of them which is refused is answered so.
use Rattle.std.proofs.Common.{ap, subst, sym, Err}
use Rattle.tla_token.specs.declared.rule.Stop.{Stop}
use Rattle.module_outside.specs.WholeAt.{outside_at}
use Rattle.step_runner.specs.Script.{SpellsScript, ScriptOffends}
use Rattle.run_files.specs.Turns.{script_of}
use Rattle.running.specs.declared.files.NoRun.{NoRun}
use Rattle.running.specs.Beside.{IsRefusedBeside}
use Rattle.running.proofs.BesideLaws.{config_refused, script_refused}
use Rattle.running.proofs.beside.run_beside.Goals as goal

pub returns-in-Err-clause-refused : goal.returns-in-Err-clause-refused
returns-in-Err-clause-refused c =
    let ts = c.args.pool.now in
    let k = c.args.checked.now in
    let f = c.args.files.now in
    subst (λ (e : NoRun). IsRefusedBeside ts k f e) (sym c.no_run.ensures)
    (config_refused ts k f c.in-Err.stop (λ r e. c.in-Err.ensures.refused (outside_at ts k.outside) r (sym c.as_slice.ensures.value) (ap (λ (s : Stop). Err s) e)))

pub returns-in-Err-read_script-clause-refused : goal.returns-in-Err-read_script-clause-refused
returns-in-Err-read_script-clause-refused c =
    let ts = c.args.pool.now in
    let k = c.args.checked.now in
    let f = c.args.files.now in
    let named = c.has_identifiers-named.ensures ts in
    subst (λ (e : NoRun). IsRefusedBeside ts k f e) (sym c.no_run-in-Err-read_script.ensures)
    (script_refused ts k f c.in-Ok.constants (c.in-Ok.ensures.read (outside_at ts k.outside) (sym c.as_slice.ensures.value)) c.in-Err-read_script.stop
    (λ r e. subst (λ b. ScriptOffends b f.third.now r) named (c.in-Err-read_script.ensures.refused r (ap (λ (s : Stop). Err s) e))))

pub returns-in-Ok-followed_of-clause-run : goal.returns-in-Ok-followed_of-clause-run
returns-in-Ok-followed_of-clause-run c =
    let ts = c.args.pool.now in
    let k = c.args.checked.now in
    record {
      constants = c.in-Ok.constants;
      spells_constants = c.in-Ok.ensures.read (outside_at ts k.outside) (sym c.as_slice.ensures.value);
      script = script_of c.in-Ok-read_script.script;
      spells_script = subst (λ b. SpellsScript b c.args.files.now.third.now (script_of c.in-Ok-read_script.script)) (c.has_identifiers-named.ensures ts) c.in-Ok-read_script.ensures.read;
      is = c.in-Ok-followed_of.ensures;
    }
