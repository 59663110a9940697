-- What is explained beside a checked algorithm is the trace that the files give, and a file that is refused there is refused so.
use Rattle.std.proofs.Common.{◌≡◌, ◌<◌, Bool, List, [], length, map, Option, Some, None, refl, sym, subst, ◌∙◌}
use Rattle.std.specs.List.{AllByRecursion}
use Rattle.tla_token.specs.Limits.{past_text}
use Rattle.tla_token.specs.declared.rule.Stop.{Stop}
use Rattle.tla_token.specs.declared.rule.Stop.TheVariants as stop
use Rattle.tla_tree.specs.Tree.{Tree, Word}
use Rattle.tla_value.specs.Definitions.{Valuation}
use Rattle.tla_value.specs.Limits.{bounded}
use Rattle.tla_value.specs.Outside.{Outside}
use Rattle.tla_value.specs.States.{Entries}
use Rattle.tla_value.proofs.Places.{bounded_places}
use Rattle.pcal_tree.specs.Algorithm.{Algorithm}
use Rattle.pcal_tree.specs.Labelled.{labelled}
use Rattle.pcal_tree.specs.Program.{Program}
use Rattle.pcal_tree.specs.Programs.{program_in}
use Rattle.pcal_tree.specs.Variables.{vars}
use Rattle.module_tree.specs.Module.{Module}
use Rattle.action_builder.specs.WrittenNames.{with_names}
use Rattle.promise.specs.Options.{Options}
use Rattle.file_answer.specs.Checking.{AnswersChecking}
use Rattle.file_answer.specs.Refusals.{IsStop}
use Rattle.translation.specs.Region.{written_module}
use Rattle.translation.proofs.RegionPlaced.{region_placed}
use Rattle.module_outside.specs.WholeAt.{outside_at}
use Rattle.checking.specs.CheckedIn.{IsLabelled}
use Rattle.checking.specs.declared.check.Checked.{Checked}
use Rattle.step_runner.specs.Config.{SpellsConfig, ConfigOffends, constants_of}
use Rattle.step_runner.specs.Explained.{state_of, explained}
use Rattle.step_runner.specs.Shown.{trace_text}
use Rattle.step_runner.specs.Trace.{SpellsTrace, TraceOffends}
use Rattle.step_moves.specs.StatesOf.{HasJust}
use Rattle.run_answer.specs.Chosen.{Right, algorithm_in}
use Rattle.explained_traces.specs.declared.explaining.Explained.{Explained}
use Rattle.explained_traces.specs.declared.explaining.Halt.{Halt as Halted}
use Rattle.explained_traces.specs.Halts.{halt_of}
use Rattle.running.specs.Beside.{no_run_of}
use Rattle.running.specs.declared.files.Files.{Files}
use Rattle.running.specs.declared.files.Which.TheVariants as which
use Rattle.running.specs.declared.files.NoRun.{NoRun}
use Rattle.running.specs.declared.files.NoRun.TheVariants as norun
use Rattle.running.specs.InMemory.{files_of}
use Rattle.running.specs.Ready.{CanRun, program_read}
use Rattle.running.proofs.ReadyLaws.{can_run, run_kept, algorithm_kept, outside_kept, program_kept}
use Rattle.trace_answer.specs.Traced.{variables_of, Given, IsTrace}
use Rattle.trace_answer.specs.Promised.{KeepsTrace}
use Rattle.trace_answer.proofs.KeptTraces.{keeps_trace}
use Rattle.tracing.specs.declared.beside.ReadBeside.{ReadBeside}
use Rattle.tracing.specs.declared.translated.Translation.{Translation}
use Rattle.tracing.specs.Beside.{variables_read, IsReadBeside, IsRefusedBeside}
use Rattle.tracing.specs.Explained.{IsExplained}
use Rattle.tracing.specs.InMemory.{IsRefusedTrace}
use Rattle.tracing.specs.Translated.{placed_module, StandsFor, IsTranslation}
use Rattle.tracing.proofs.JustLaws.{all_just}
use Rattle.tracing.proofs.TracesAlike.{explained_alike, text_alike}
use Rattle.tracing.proofs.TranslatedLaws.{right_of}

-- a module that is refused
pub module_refused : (forced : Bool) (f : Files) (s : Stop) → IsStop (λ r. AnswersChecking forced f.source.now (Some r)) s → IsRefusedTrace forced (files_of f) (no_run_of which.Module s)
module_refused forced f stop.Memory h = tt
module_refused forced f (stop.Refused r) h = h

-- beside the module with the algorithm's places and beside the written one a trace is explained alike
module _ (no_terminating : Bool) (o : Outside) (g : Algorithm) (values : Valuation) (trace : List Entries) where
  abbrev P : Program
  P = program_in bounded o g values

  abbrev placed : Module
  placed = placed_module no_terminating o g

  abbrev W : Module
  W = written_module no_terminating [] o g

  same_shown : explained P placed values (map state_of trace) ≡ explained P W values (map state_of trace)
  same_shown = explained_alike P bounded_places placed W refl refl (region_placed no_terminating o g) values (map state_of trace)

  explained_written : (e : Explained) → IsExplained P placed trace e → IsExplained P W trace e
  explained_written e k = record {
    text = k.text ∙ text_alike P bounded_places placed W refl refl (region_placed no_terminating o g) values (explained P placed values (map state_of trace)).states
        ∙ (λ i. trace_text P W values (same_shown i).states);
    halt = k.halt ∙ (λ i. (same_shown i).halt);
  }

-- a module with which nothing is wrong
module _ (forced : Bool) (f : Files) (ts : List Tree) (c : Checked) (h : IsLabelled forced f.source.now ts c) (clean : AnswersChecking forced f.source.now None) where
  abbrev right : Right forced f.source.now
  right = right_of forced f.source.now ts c h clean

  spells : (es : Entries) → SpellsConfig (outside_at ts c.outside) f.config.now es → SpellsConfig h.outside f.config.now es
  spells es = subst (λ (o : Outside). SpellsConfig o f.config.now es) h.is_outside

  variables_same : variables_read ts c ≡ variables_of right
  variables_same = λ i. vars (with_names (h.is_outside i) (h.algorithm i))

  pub none_given : (e : NoRun) → IsRefusedBeside ts c f e → IsRefusedTrace forced (files_of f) e
  none_given norun.Memory k = tt
  none_given (norun.Refused which.Module r) k = absurd k
  none_given (norun.Refused which.Config r) k = (right, subst (λ (o : Outside). ConfigOffends o f.config.now r) h.is_outside k)
  none_given (norun.Refused which.Third r) (es, k, m) = (right, es, spells es k, subst (λ (vs : List Word). TraceOffends vs f.third.now r) variables_same m)

  -- what was read beside it, as the pool grew
  module _ (short : length f.source.now < past_text) (us : List Tree) (b : ReadBeside) (r : IsReadBeside ts us c f b) where
    can : CanRun ts c
    can = can_run forced f.source.now ts c h clean short

    pub can_more : CanRun us c
    can_more = run_kept ts us r.kept c can

    pub states_just : AllByRecursion (HasJust (variables_read us c)) b.trace.items
    states_just =
        subst (λ (vs : List Word). AllByRecursion (HasJust vs) b.trace.items)
        (λ i. vars (with_names (sym (outside_kept ts us r.kept c can) i) (sym (algorithm_kept ts us r.kept c can) i)))
        (all_just (variables_read ts c) f.third.now b.trace.items r.trace)

    abbrev given : Given forced (files_of f)
    given = record {
      right = right;
      constants = b.constants;
      spells_constants = spells b.constants r.constants;
      trace = b.trace.items;
      spells_trace = subst (λ (vs : List Word). SpellsTrace vs f.third.now b.trace.items) variables_same r.trace;
    }

    program : program_read us c b.constants ≡ program_in bounded h.outside (labelled forced h.tree) (constants_of b.constants)
    program = program_kept ts us r.kept c can b.constants ∙ (λ i. program_in bounded (h.is_outside i) (h.algorithm i) (constants_of b.constants))

    pub is_trace : (no_terminating : Bool) (t : Translation) → ((m : Right forced f.source.now) → IsTranslation no_terminating m.outside (algorithm_in m) t)
        → (e : Explained) → ((m : Module) → StandsFor t m → IsExplained (program_read us c b.constants) m b.trace.items e)
        → IsTrace (record { label = forced; no_terminating = no_terminating }) (files_of f) e.text.items (halt_of e.halt)
    is_trace no_terminating t is e told =
        let m = placed_module no_terminating h.outside (labelled forced h.tree) in
        let shown = subst (λ (P : Program). IsExplained P m b.trace.items e) program (told m (is right).stands) in
        let w = explained_written no_terminating h.outside (labelled forced h.tree) (constants_of b.constants) b.trace.items e shown in
        record { given = given; title = []; text = w.text; halted = w.halt }

-- a trace all of whose states are shown
pub promise_kept : (options : Options) (f : Files) (e : Explained) → length f.source.now < past_text → IsTrace options (files_of f) e.text.items (halt_of e.halt)
    → e.halt ≡ None → KeepsTrace options (files_of f) e.text.items
promise_kept options f e short k q =
    keeps_trace options (files_of f) e.text.items short (subst (λ (s : Option Halted). IsTrace options (files_of f) e.text.items (halt_of s)) q k)
