-- The run that is chosen beside a checked algorithm is the one that the files choose, and a file that is refused there is refused so.
use Rattle.std.proofs.Common.{◌≡◌, ◌<◌, Bool, List, length, Option, Some, None, Result, Ok, Err, IfOk, IfErr, subst, ◌∙◌}
use Rattle.tla_token.specs.declared.rule.Stop.{Stop}
use Rattle.tla_token.specs.declared.rule.Stop.TheVariants as stop
use Rattle.tla_token.specs.Limits.{past_text}
use Rattle.tla_tree.specs.Tree.{Tree}
use Rattle.tla_value.specs.Limits.{bounded}
use Rattle.tla_value.specs.Outside.{Outside}
use Rattle.tla_value.specs.States.{Entries}
use Rattle.pcal_tree.specs.Algorithm.{Algorithm}
use Rattle.pcal_tree.specs.InitialStates.{is_multiprocess}
use Rattle.pcal_tree.specs.Labelled.{labelled}
use Rattle.pcal_tree.specs.Programs.{program_in}
use Rattle.file_answer.specs.Checking.{AnswersChecking}
use Rattle.file_answer.specs.Refusals.{IsStop}
use Rattle.module_outside.specs.WholeAt.{outside_at}
use Rattle.checking.specs.CheckedIn.{IsLabelled}
use Rattle.checking.specs.declared.check.Checked.{Checked}
use Rattle.step_runner.specs.Config.{SpellsConfig, ConfigOffends, constants_of}
use Rattle.step_runner.specs.Followed.{followed}
use Rattle.step_runner.specs.Script.{SpellsScript, ScriptOffends}
use Rattle.step_runner.specs.Shown.{run_text}
use Rattle.followed_runs.specs.Stopping.{stop_of}
use Rattle.followed_runs.specs.declared.following.Followed.{Followed}
use Rattle.followed_runs.specs.declared.cause.Stop.{Stop as Stopped}
use Rattle.run_answer.specs.Chosen.{Right, IsRun}
use Rattle.run_answer.specs.Promised.{KeepsRun}
use Rattle.run_answer.proofs.KeptRuns.{keeps_run}
use Rattle.running.specs.declared.files.Files.{Files}
use Rattle.running.specs.declared.files.Which.TheVariants as which
use Rattle.running.specs.declared.files.NoRun.{NoRun}
use Rattle.running.specs.declared.files.NoRun.TheVariants as norun
use Rattle.running.specs.Beside.{no_run_of, IsRunBeside, IsRefusedBeside}
use Rattle.running.specs.InMemory.{files_of, IsRefused}
use Rattle.running.specs.Ready.{program_read}

-- a module that is refused
pub module_refused : (forced : Bool) (f : Files) (s : Stop) → IsStop (λ r. AnswersChecking forced f.source.now (Some r)) s → IsRefused forced (files_of f) (no_run_of which.Module s)
module_refused forced f stop.Memory h = tt
module_refused forced f (stop.Refused r) h = h

-- a module with which nothing is wrong
module _ (forced : Bool) (f : Files) (ts : List Tree) (c : Checked) (h : IsLabelled forced f.source.now ts c) (clean : AnswersChecking forced f.source.now None) where
  abbrev right : Right forced f.source.now
  right = record { clean = clean; typed = h.tree; holds = h.holds; outside = h.outside; has = h.has }

  spells : (es : Entries) → SpellsConfig (outside_at ts c.outside) f.config.now es → SpellsConfig h.outside f.config.now es
  spells es = subst (λ (o : Outside). SpellsConfig o f.config.now es) h.is_outside

  pub none_chosen : (e : NoRun) → IsRefusedBeside ts c f e → IsRefused forced (files_of f) e
  none_chosen norun.Memory k = tt
  none_chosen (norun.Refused which.Module r) k = absurd k
  none_chosen (norun.Refused which.Config r) k = (right, subst (λ (o : Outside). ConfigOffends o f.config.now r) h.is_outside k)
  none_chosen (norun.Refused which.Third r) (es, k, m) = (right, es, spells es k, subst (λ (a : Algorithm). ScriptOffends (is_multiprocess a.main) f.third.now r) h.algorithm m)

  same : (es : Entries) → program_read ts c es ≡ program_in bounded h.outside (labelled forced h.tree) (constants_of es)
  same es = λ i. program_in bounded (h.is_outside i) (h.algorithm i) (constants_of es)

  pub run_chosen : (k : Followed) → IsRunBeside ts c f k → IsRun forced (files_of f) k.text.items (stop_of k.stop)
  run_chosen k m = record {
    chosen = record {
      right = right;
      constants = m.constants;
      spells_constants = spells m.constants m.spells_constants;
      script = m.script;
      spells_script = subst (λ (a : Algorithm). SpellsScript (is_multiprocess a.main) f.third.now m.script) h.algorithm m.spells_script;
    };
    text = m.is.text ∙ (λ i. run_text (same m.constants i) m.script.turns (followed (same m.constants i) m.script).states);
    stopped = m.is.stop ∙ (λ i. (followed (same m.constants i) m.script).stop);
  }

  -- as the code answers
  pub run_told : (r : Result Followed NoRun) → IfOk r (IsRunBeside ts c f) → IfOk r (λ k. IsRun forced (files_of f) k.text.items (stop_of k.stop))
  run_told (Ok k) m = run_chosen k m
  run_told (Err e) m = tt

  pub refused_told : (r : Result Followed NoRun) → IfErr r (IsRefusedBeside ts c f) → IfErr r (IsRefused forced (files_of f))
  refused_told (Ok k) m = tt
  refused_told (Err e) m = none_chosen e m

-- a run that doesn't stop before its end
pub promise_told : (forced : Bool) (f : Files) (r : Result Followed NoRun) → length f.source.now < past_text → IfOk r (λ k. IsRun forced (files_of f) k.text.items (stop_of k.stop))
    → IfOk r (λ k. k.stop ≡ None → KeepsRun forced (files_of f) k.text.items)
promise_told forced f (Ok k) short m = λ e. keeps_run forced (files_of f) k.text.items short (subst (λ (s : Option Stopped). IsRun forced (files_of f) k.text.items (stop_of s)) e m)
promise_told forced f (Err e) short m = tt
