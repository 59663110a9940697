-- What holds of the answer to `trace`, which reads three files: its status, its line on the error output, why it comes, and what becomes of the output.
use Rattle.std.specs.Prelude.{◌≡◌, ◌⊎◌, ℕ, ◌<◌, List, [], length, Option, Some}
use Rattle.outer_io.specs.Outer.{Texts, Tells, HasNoText, RoseBy}
use Rattle.tla_token.specs.Limits.{most_bytes}
use Rattle.promise.specs.Options.{Options}
use Rattle.step_runner.specs.Explained as pure
use Rattle.step_runner.specs.Explained.{halt_line}
use Rattle.run_answer.specs.Chosen.{Files}
use Rattle.trace_answer.specs.Traced.{RefusesTrace, IsTrace}
use Rattle.run_files.specs.declared.stops.Trouble.TheVariants as trouble
use Rattle.explained_traces.specs.declared.explaining.Halt.{Halt}
use Rattle.explained_traces.specs.declared.explaining.Halt.TheVariants as halt
use Rattle.explained_traces.specs.Halts.{halt_by, halt_of}
use Rattle.running.specs.InMemory.{which_of}
use Rattle.running.specs.Names.{Names, name_of, OfTexts}
use Rattle.trace_command.specs.declared.answer.TraceAnswer.{TraceAnswer}
use Rattle.trace_command.specs.declared.answer.TraceAnswer.TheVariants as trace
use Rattle.trace_command.specs.Answered.{AnsweredTrace}
use Rattle.pcal_cli.specs.declared.status.Answer.TheVariants as answer
use Rattle.pcal_cli.specs.declared.status.Status.{Status}
use Rattle.pcal_cli.specs.declared.status.Status.TheVariants.{Fine, Memory, ReadFault, WriteFault, Refused, NotAStep, Faulted, Limit, TooLong}
use Rattle.pcal_cli.specs.Answers.{line_of}
use Rattle.pcal_cli.specs.Told.{Told}
use Rattle.pcal_cli.specs.Runs.{AreThere}

-- ---- statuses

-- where a trace stops: a state isn't initial or is no step, evaluation met a fault, or a value past the limits
abbrev pub status_of_halt : Halt → Status
status_of_halt (halt.Untrue n) = NotAStep
status_of_halt (halt.Troubled (trouble.Fault k at)) = Faulted
status_of_halt (halt.Troubled (trouble.Limit at)) = Limit

abbrev pub status_of_trace : TraceAnswer → Status
status_of_trace trace.Fine = Fine
status_of_trace trace.Memory = Memory
status_of_trace (trace.ReadFault w) = ReadFault
status_of_trace trace.WriteFault = WriteFault
status_of_trace (trace.Refused w r) = Refused
status_of_trace (trace.TooLong w) = TooLong
status_of_trace (trace.Halted s) = status_of_halt s

-- ---- lines

-- the line on the error output: that of the file meant; where the trace stops, that of the stop
abbrev pub trace_line : Names → TraceAnswer → List ℕ
trace_line names trace.Fine = line_of answer.Fine []
trace_line names trace.Memory = line_of answer.Memory []
trace_line names (trace.ReadFault w) = line_of answer.ReadFault (name_of names (which_of w))
trace_line names trace.WriteFault = line_of answer.WriteFault []
trace_line names (trace.Refused w r) = line_of (answer.Refused r) (name_of names (which_of w))
trace_line names (trace.TooLong w) = line_of answer.TooLong (name_of names (which_of w))
trace_line names (trace.Halted s) = halt_line names.source (halt_by s)

-- ---- causes

-- the files give a trace that stops so
abbrev pub HasTrace : Options → Option pure.Halt → Files → Type 0
HasTrace options s f = (w : List ℕ) × IsTrace options f w s

-- on this answer: there is no such file, or one call of the shelf failed; the file is too long; it is refused so, and none before it is; the trace stops so
-- failed, failed_after: how many calls of the shelf failed before the answer, and with it
abbrev pub IsTraceCause : Option Texts → ℕ → ℕ → Names → Options → TraceAnswer → Type 0
IsTraceCause texts failed failed_after names options (trace.ReadFault w) = (RoseBy 1 failed failed_after ⊎ HasNoText texts (name_of names (which_of w))) × AreThere texts names (which_of w)
IsTraceCause texts failed failed_after names options (trace.Refused w r) = OfTexts texts names (λ f. RefusesTrace options.label f (which_of w) r)
IsTraceCause texts failed failed_after names options (trace.TooLong w) = Tells texts (name_of names (which_of w)) (λ x. most_bytes < length x) × AreThere texts names (which_of w)
IsTraceCause texts failed failed_after names options (trace.Halted s) = OfTexts texts names (HasTrace options (halt_of (Some s)))
IsTraceCause texts failed failed_after names options a = Unit {0}

-- ---- what holds of the answer

-- the answer of status s to a trace of the files with these names; see `AnsweredTrace`
pub record AnsweredTraced {H K : Type 0} (texts : H → Option Texts) (given faults : H → ℕ) (wrote : K → Option (List ℕ)) (write_faults : K → ℕ)
    (names : Names) (options : Options) (s : Status) (shelf shelf_after : H) (out out_after : K) : Type 0 where
  pub answer : TraceAnswer
  pub is : status_of_trace answer ≡ s
  pub answered : AnsweredTrace texts given faults wrote write_faults names options answer shelf shelf_after out out_after

-- the error output took the line of an answer of this status
pub record ExplainsTrace (texts : Option Texts) (failed failed_after : ℕ) (names : Names) (options : Options) (s : Status) (old new : Option (List ℕ)) (before after : ℕ) : Type 0 where
  pub answer : TraceAnswer
  pub is : status_of_trace answer ≡ s
  pub cause : IsTraceCause texts failed failed_after names options answer
  pub told : Told old new before after (trace_line names answer)
