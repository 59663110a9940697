-- Worked examples of the lines of answers, and of statuses that no answer of `translate` has, by computation.
use Rattle.std.specs.Prelude.{ℕ, List, [], ◌∷◌, ◌++◌, Option, codes}
use Rattle.std.specs.Fmt.{digits}
use Rattle.std.proofs.Common.{◌≡◌, refl}
use Rattle.outer_io.specs.Outer.{Texts}
use Rattle.tla_token.specs.declared.rule.Refusal.{Refusal}
use Rattle.tla_token.specs.Rules.{refusal_text}
use Rattle.tla_value.specs.declared.fault.FaultKind.TheVariants as kind
use Rattle.command_words.specs.Commands.{Command}
use Rattle.pcal_cli.specs.declared.status.Answer.{Answer}
use Rattle.pcal_cli.specs.declared.status.Answer.TheVariants as answer
use Rattle.run_files.specs.declared.stops.Why.TheVariants as why
use Rattle.run_files.specs.declared.stops.Trouble.TheVariants as trouble
use Rattle.followed_runs.specs.declared.cause.Cause.TheVariants as cause
use Rattle.running.specs.declared.files.Which.TheVariants as which
use Rattle.running.specs.declared.answer.RunAnswer.{RunAnswer}
use Rattle.running.specs.declared.answer.RunAnswer.TheVariants as run
use Rattle.running.specs.Names.{Names}
use Rattle.explained_traces.specs.declared.explaining.Halt.TheVariants as halt
use Rattle.trace_command.specs.declared.answer.TraceAnswer.{TraceAnswer}
use Rattle.trace_command.specs.declared.answer.TraceAnswer.TheVariants as trace
use Rattle.pcal_cli.specs.declared.status.Status.TheVariants.{ScriptStep, Limit}
use Rattle.pcal_cli.specs.Answers.{status_number, status_of, line_of}
use Rattle.pcal_cli.specs.Causes.{ExplainsText}
use Rattle.pcal_cli.specs.Runs.{status_of_run, run_line}
use Rattle.pcal_cli.specs.Traces.{status_of_trace, trace_line}
use Rattle.pcal_cli.specs.Checked.{checked_text}

refused : (r : Refusal) → line_of (answer.Refused r) (codes "M.tla") ≡ codes "pcal: M.tla:" ++ (refusal_text r ++ codes "\n")
refused r = refl

too_long : line_of answer.TooLong (codes "M.tla") ≡ codes "pcal: M.tla is too long\n"
too_long = refl

fine : line_of answer.Fine (codes "M.tla") ≡ []
fine = refl

-- of a module that isn't refused `check` writes a line
ok : checked_text ≡ 111 ∷ 107 ∷ 10 ∷ []
ok = refl

-- ---- runs

abbrev names : Names
names = record { source = codes "M.tla"; config = codes "M.values"; third = codes "M.steps" }

-- each file by its name
refused_values : (r : Refusal) → run_line names (run.Refused which.Config r) ≡ codes "pcal: M.values:" ++ (refusal_text r ++ codes "\n")
refused_values r = refl

script_too_long : run_line names (run.TooLong which.Third) ≡ codes "pcal: M.steps is too long\n"
script_too_long = refl

-- a script stops at a step, or at a place of the module
abbrev at_no_label : RunAnswer
at_no_label = run.Stopped (record { step = 3; cause = cause.Step why.NoLabel })

stops_at_a_step : run_line names at_no_label ≡ codes "pcal: script step 3: no label\n"
unfolding digits
stops_at_a_step = refl

status_of_a_step : status_of_run at_no_label ≡ ScriptStep
status_of_a_step = refl

abbrev past_limits : RunAnswer
past_limits = run.Stopped (record { step = 3; cause = cause.Trouble (trouble.Limit (record { line = 12; col = 3 })) })

stops_at_a_place : run_line names past_limits ≡ codes "pcal: M.tla:12:3: limit\n"
unfolding digits
stops_at_a_place = refl

status_of_a_place : status_of_run past_limits ≡ Limit
status_of_a_place = refl

-- ---- traces

abbrev trace_names : Names
trace_names = record names { third = codes "M.trace" }

refused_trace : (r : Refusal) → trace_line trace_names (trace.Refused which.Third r) ≡ codes "pcal: M.trace:" ++ (refusal_text r ++ codes "\n")
refused_trace r = refl

trace_too_long : trace_line trace_names (trace.TooLong which.Third) ≡ codes "pcal: M.trace is too long\n"
trace_too_long = refl

-- a trace stops at a state, by its number; each reason has a status of its own
abbrev at_state : ℕ → TraceAnswer
at_state n = trace.Halted (halt.Untrue n)

stops_at_the_start : trace_line trace_names (at_state 0) ≡ codes "pcal: state 0 is not initial\n"
stops_at_the_start = refl

stops_at_a_state : trace_line trace_names (at_state 3) ≡ codes "pcal: state 3 is no step\n"
unfolding digits
stops_at_a_state = refl

number_of_a_state : (n : ℕ) → status_number (status_of_trace (at_state n)) ≡ 7
number_of_a_state n = refl

-- or at a place of the module
abbrev at_fault : TraceAnswer
at_fault = trace.Halted (halt.Troubled (trouble.Fault kind.NotInDomain (record { line = 12; col = 3 })))

stops_at_a_fault : trace_line trace_names at_fault ≡ codes "pcal: M.tla:12:3: fault NotInDomain\n"
unfolding digits
stops_at_a_fault = refl

number_of_a_fault : status_number (status_of_trace at_fault) ≡ 8
number_of_a_fault = refl

abbrev at_limit : TraceAnswer
at_limit = trace.Halted (halt.Troubled (trouble.Limit (record { line = 12; col = 3 })))

stops_at_a_limit : trace_line trace_names at_limit ≡ codes "pcal: M.tla:12:3: limit\n"
unfolding digits
stops_at_a_limit = refl

number_of_a_limit : status_number (status_of_trace at_limit) ≡ 9
number_of_a_limit = refl

-- ---- one text

-- what only a run or a trace ends with is explained by nothing where the command has one text
no_script_step : (texts : Option Texts) (command : Option Command) (old new : Option (List ℕ)) (before after : ℕ) → ExplainsText texts command ScriptStep old new before after → ⊥
no_script_step texts command old new before after e = by e.answer e.is
  where
    by : (a : Answer) → status_of a ≡ ScriptStep → ⊥
    by answer.Fine h = absurd cc
    by answer.Memory h = absurd cc
    by answer.Usage h = absurd cc
    by answer.ReadFault h = absurd cc
    by answer.WriteFault h = absurd cc
    by (answer.Refused r) h = absurd cc
    by answer.TooLong h = absurd cc
