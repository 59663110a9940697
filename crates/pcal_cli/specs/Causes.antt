-- Why an answer comes, and what becomes of the two outputs.
use Rattle.std.specs.Prelude.{◌≡◌, ℕ, List, Option, Some, None, option_map}
use Rattle.std.specs.Process.{exit_status}
use Rattle.std.specs.declared.process.ExitCode.{ExitCode}
use Rattle.outer_io.specs.Outer.{Texts, Tells, HasNoText, Grows, GrowsInPart}
use Rattle.tla_token.specs.declared.rule.Refusal.{Refusal}
use Rattle.command_words.specs.Commands.{Command, runs, traces}
use Rattle.running.specs.Names.{OfTexts}
use Rattle.running.specs.Answered as run
use Rattle.trace_command.specs.Answered as traced
use Rattle.pcal_cli.specs.declared.status.Answer.{Answer}
use Rattle.pcal_cli.specs.declared.status.Answer.TheVariants as answer
use Rattle.pcal_cli.specs.declared.status.Status.{Status}
use Rattle.pcal_cli.specs.declared.status.Status.TheVariants.{Fine, Memory, Usage, ReadFault, WriteFault, Refused, TooLong}
use Rattle.pcal_cli.specs.Answers.{status_number, status_of, line_of}
use Rattle.pcal_cli.specs.Words.{Input, from_file, this_text, input_of, file_meant}
use Rattle.pcal_cli.specs.Asked.{Refuses, Makes, Promises, promised}
use Rattle.pcal_cli.specs.Told.{Told}
use Rattle.pcal_cli.specs.Runs.{ExplainsRun}
use Rattle.pcal_cli.specs.Traces.{ExplainsTrace}

-- what holds of a command; where there is none nothing is said
abbrev pub OfCommand : Option Command → (Command → Type 0) → Type 0
OfCommand None P = Unit {0}
OfCommand (Some c) P = P c

-- what holds of a text, where it is told or is this one
abbrev pub OfInput : Option Texts → Input → (List ℕ → Type 0) → Type 0
OfInput texts (from_file f) P = Tells texts f P
OfInput texts (this_text x) P = P x

-- what holds of a command and its text, which comes from there
abbrev pub OfBoth : Option Texts → Option Input → Option Command → (Command → List ℕ → Type 0) → Type 0
OfBoth texts (Some i) (Some c) P = OfInput texts i (P c)
OfBoth texts _ _ P = Unit {0}

abbrev pub OfText : Option Texts → Option Command → (Command → List ℕ → Type 0) → Type 0
OfText texts o P = OfBoth texts (option_map input_of o) o P

-- ---- files

-- what holds of the text of the file that is read, where one is and it is told
abbrev pub OfFile : Option Texts → Option Input → (List ℕ → Type 0) → Type 0
OfFile texts (Some (from_file f)) P = Tells texts f P
OfFile texts _ P = Unit {0}

-- one is read, the texts are told, and none has its name
abbrev pub Lacks : Option Texts → Option Input → Type 0
Lacks texts (Some (from_file f)) = HasNoText texts f
Lacks texts _ = ⊥

-- none is read
abbrev pub IsFree : Option Input → Type 0
IsFree (Some (from_file f)) = ⊥
IsFree _ = Unit {0}

-- ---- answers

-- what a command answers that writes a module
abbrev pub IsAnswer : Status → Type 0
IsAnswer Fine = Unit {0}
IsAnswer Memory = Unit {0}
IsAnswer ReadFault = Unit {0}
IsAnswer WriteFault = Unit {0}
IsAnswer Refused = Unit {0}
IsAnswer TooLong = Unit {0}
IsAnswer s = ⊥

-- on these the whole text of the file was read
abbrev pub IsRead : Status → Type 0
IsRead Fine = Unit {0}
IsRead WriteFault = Unit {0}
IsRead Refused = Unit {0}
IsRead s = ⊥

-- where there is no such file, or it is too long
abbrev pub IsUnread : Status → Type 0
IsUnread Memory = Unit {0}
IsUnread ReadFault = Unit {0}
IsUnread TooLong = Unit {0}
IsUnread s = ⊥

-- where its text has an offence
abbrev pub IsUnwritten : Status → Type 0
IsUnwritten Refused = Unit {0}
IsUnwritten s = IsUnread s

-- where nothing is in the way
abbrev pub IsDone : Status → Type 0
IsDone Fine = Unit {0}
IsDone Memory = Unit {0}
IsDone s = ⊥

-- where no file is read
abbrev pub IsUnasked : Status → Type 0
IsUnasked ReadFault = ⊥
IsUnasked TooLong = ⊥
IsUnasked s = Unit {0}

-- where the words mean no command
abbrev pub IsNoCommand : Status → Type 0
IsNoCommand Memory = Unit {0}
IsNoCommand Usage = Unit {0}
IsNoCommand s = ⊥

-- ---- refusals

-- on this answer: there is this refusal
abbrev pub IsRefusal : (Refusal → Type 0) → Answer → Type 0
IsRefusal R (answer.Refused r) = R r
IsRefusal R a = Unit {0}

-- on this answer: the text that comes from there is refused so
abbrev pub IsCause : Option Texts → Input → (List ℕ → Refusal → Type 0) → Answer → Type 0
IsCause texts i R (answer.Refused r) = OfInput texts i (λ x. R x r)
IsCause texts i R a = Unit {0}

-- ---- exit status

-- the program ended with the number of this answer
abbrev pub Ended : ExitCode → Status → Type 0
Ended e s = exit_status e ≡ status_number s

-- it ended with the number of an answer of this kind
abbrev pub EndedIn : ExitCode → (Status → Type 0) → Type 0
EndedIn e P = (s : Status) × Ended e s × P s

-- ---- outputs

-- on these the output is as it was
abbrev pub LeavesOut : Status → Type 0
LeavesOut Fine = ⊥
LeavesOut WriteFault = ⊥
LeavesOut s = Unit {0}

-- the output went on by what the command writes for the text x
abbrev pub Writes : Option (List ℕ) → Option (List ℕ) → Command → List ℕ → Type 0
Writes old new c x = (w : List ℕ) × Grows old new w × Makes c x w

-- by the first bytes of it, and not by all
abbrev pub WritesInPart : Option (List ℕ) → Option (List ℕ) → Command → List ℕ → Type 0
WritesInPart old new c x = (w : List ℕ) × GrowsInPart old new w × Makes c x w

-- the promise: the output went on by a text which is to the text x as the command promises it
abbrev pub KeepsPromise : Option (List ℕ) → Option (List ℕ) → Command → List ℕ → Type 0
KeepsPromise old new c x = (w : List ℕ) × Grows old new w × Promises c x w

-- ---- any command

-- the promise of the command, by what the output was and is: a run and a trace have three files, any other has one text
abbrev pub Promised : Option Texts → Option Command → Option (List ℕ) → Option (List ℕ) → Type 0
Promised texts (Some (runs file config script options)) old new =
    OfTexts texts (record { source = file; config = config; third = script }) (run.KeepsPromise old new options.forced)
Promised texts (Some (traces file config trace options)) old new =
    OfTexts texts (record { source = file; config = config; third = trace }) (traced.KeepsPromise old new (promised options))
Promised texts command old new = OfText texts command (KeepsPromise old new)

-- the error output took the line of an answer of this status to a command of one text; where its text was refused, that of a refusal which it has by this command
pub record ExplainsText (texts : Option Texts) (command : Option Command) (s : Status) (old new : Option (List ℕ)) (before after : ℕ) : Type 0 where
  pub answer : Answer
  pub is : status_of answer ≡ s
  pub cause : OfCommand command (λ c. IsCause texts (input_of c) (Refuses c) answer)
  pub told : Told old new before after (line_of answer (file_meant command))

-- of any command; failed, failed_after: how many calls of the shelf failed before the answer, and with it
abbrev pub Explains : Option Texts → ℕ → ℕ → Option Command → Status → Option (List ℕ) → Option (List ℕ) → ℕ → ℕ → Type 0
Explains texts failed failed_after (Some (runs file config script options)) s old new before after =
    ExplainsRun texts failed failed_after (record { source = file; config = config; third = script }) options.forced s old new before after
Explains texts failed failed_after (Some (traces file config trace options)) s old new before after =
    ExplainsTrace texts failed failed_after (record { source = file; config = config; third = trace }) (promised options) s old new before after
Explains texts failed failed_after command s old new before after = ExplainsText texts command s old new before after
