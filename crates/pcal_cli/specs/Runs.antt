-- What holds of the answer to `run`, which reads three files: its status, its line on the error output, why it comes, and what becomes of the output.
use Rattle.std.specs.Prelude.{◌≡◌, ◌⊎◌, ℕ, ◌<◌, List, [], length, Bool, Option, Some}
use Rattle.outer_io.specs.Outer.{Texts, Tells, HasNoText, RoseBy}
use Rattle.tla_token.specs.Limits.{most_bytes}
use Rattle.step_runner.specs.Followed as runner
use Rattle.run_answer.specs.Chosen.{Files, Which, Refuses, IsRun}
use Rattle.run_answer.specs.Stops.{stop_line}
use Rattle.run_files.specs.declared.stops.Trouble.TheVariants as trouble
use Rattle.followed_runs.specs.declared.cause.Cause.{Cause}
use Rattle.followed_runs.specs.declared.cause.Cause.TheVariants as cause
use Rattle.followed_runs.specs.Stopping.{reply_by, stop_of}
use Rattle.running.specs.InMemory.{which_of}
use Rattle.running.specs.declared.answer.RunAnswer.{RunAnswer}
use Rattle.running.specs.declared.answer.RunAnswer.TheVariants as run
use Rattle.running.specs.Names.{Names, name_of, IsBefore, OfTexts, IsThere}
use Rattle.running.specs.Answered.{AnsweredRun}
use Rattle.pcal_cli.specs.declared.status.Answer.TheVariants as answer
use Rattle.pcal_cli.specs.declared.status.Status.{Status}
use Rattle.pcal_cli.specs.declared.status.Status.TheVariants.{Fine, Memory, ReadFault, WriteFault, Refused, ScriptStep, Faulted, Limit, TooLong}
use Rattle.pcal_cli.specs.Answers.{line_of}
use Rattle.pcal_cli.specs.Told.{Told}

-- ---- statuses

-- where a script stops: a step can't be taken, evaluation met a fault, or a value past the limits
abbrev pub status_by : Cause → Status
status_by (cause.Step w) = ScriptStep
status_by (cause.Trouble (trouble.Fault k at)) = Faulted
status_by (cause.Trouble (trouble.Limit at)) = Limit

abbrev pub status_of_run : RunAnswer → Status
status_of_run run.Fine = Fine
status_of_run run.Memory = Memory
status_of_run (run.ReadFault w) = ReadFault
status_of_run run.WriteFault = WriteFault
status_of_run (run.Refused w r) = Refused
status_of_run (run.TooLong w) = TooLong
status_of_run (run.Stopped s) = status_by s.cause

-- ---- lines

-- the line on the error output: that of the file meant; where the script stops, that of the stop
abbrev pub run_line : Names → RunAnswer → List ℕ
run_line names run.Fine = line_of answer.Fine []
run_line names run.Memory = line_of answer.Memory []
run_line names (run.ReadFault w) = line_of answer.ReadFault (name_of names (which_of w))
run_line names run.WriteFault = line_of answer.WriteFault []
run_line names (run.Refused w r) = line_of (answer.Refused r) (name_of names (which_of w))
run_line names (run.TooLong w) = line_of answer.TooLong (name_of names (which_of w))
run_line names (run.Stopped s) = stop_line names.source (record { step = s.step; reply = reply_by s.cause })

-- ---- causes

-- the files before this one are there, and short
abbrev pub AreThere : Option Texts → Names → Which → Type 0
AreThere texts names w = (v : Which) → IsBefore v w → IsThere texts (name_of names v)

-- the files choose a run that stops so
abbrev pub HasRun : Bool → Option runner.Stop → Files → Type 0
HasRun forced s f = (w : List ℕ) × IsRun forced f w s

-- on this answer: there is no such file, or one call of the shelf failed; the file is too long; it is refused so, and none before it is; the script stops so
-- failed, failed_after: how many calls of the shelf failed before the answer, and with it
abbrev pub IsRunCause : Option Texts → ℕ → ℕ → Names → Bool → RunAnswer → Type 0
IsRunCause texts failed failed_after names forced (run.ReadFault w) = (RoseBy 1 failed failed_after ⊎ HasNoText texts (name_of names (which_of w))) × AreThere texts names (which_of w)
IsRunCause texts failed failed_after names forced (run.Refused w r) = OfTexts texts names (λ f. Refuses forced f (which_of w) r)
IsRunCause texts failed failed_after names forced (run.TooLong w) = Tells texts (name_of names (which_of w)) (λ x. most_bytes < length x) × AreThere texts names (which_of w)
IsRunCause texts failed failed_after names forced (run.Stopped s) = OfTexts texts names (HasRun forced (stop_of (Some s)))
IsRunCause texts failed failed_after names forced a = Unit {0}

-- ---- what holds of the answer

-- the answer of status s to a run of the files with these names; see `AnsweredRun`
pub record AnsweredThree {H K : Type 0} (texts : H → Option Texts) (given faults : H → ℕ) (wrote : K → Option (List ℕ)) (write_faults : K → ℕ)
    (names : Names) (forced : Bool) (s : Status) (shelf shelf_after : H) (out out_after : K) : Type 0 where
  pub answer : RunAnswer
  pub is : status_of_run answer ≡ s
  pub answered : AnsweredRun texts given faults wrote write_faults names forced answer shelf shelf_after out out_after

-- the error output took the line of an answer of this status
pub record ExplainsRun (texts : Option Texts) (failed failed_after : ℕ) (names : Names) (forced : Bool) (s : Status) (old new : Option (List ℕ)) (before after : ℕ) : Type 0 where
  pub answer : RunAnswer
  pub is : status_of_run answer ≡ s
  pub cause : IsRunCause texts failed failed_after names forced answer
  pub told : Told old new before after (run_line names answer)
