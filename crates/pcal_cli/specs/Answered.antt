-- What holds of an answer, however it is seen: why it comes, what becomes of the output, and how the counts rise.
use Rattle.std.specs.Prelude.{◌≡◌, ◌⊎◌, ℕ, ◌+◌, ◌<◌, ◌≤◌, List, length, Option, Some, None, option_map}
use Rattle.outer_io.specs.Outer.{Texts, RoseBy, RoseAbove, piece_bytes}
use Rattle.tla_token.specs.Limits.{most_bytes}
use Rattle.command_words.specs.Commands.{Command, runs, traces}
use Rattle.pcal_cli.specs.declared.status.Status.{Status}
use Rattle.pcal_cli.specs.declared.status.Status.TheVariants.{Usage, ReadFault, WriteFault, Refused, TooLong, Fine}
use Rattle.pcal_cli.specs.Words.{Input, input_of}
use Rattle.pcal_cli.specs.Asked.{HasOffence, Accepts, promised}
use Rattle.pcal_cli.specs.Causes.{OfBoth, OfFile, Lacks, IsFree, IsAnswer, IsUnasked, IsNoCommand, IsUnread, IsUnwritten, IsDone, IsRead, LeavesOut, Writes, WritesInPart}
use Rattle.pcal_cli.specs.Runs.{AnsweredThree}
use Rattle.pcal_cli.specs.Traces.{AnsweredTraced}

-- the answer of status s to a command of one text, which comes from the input, or to words that mean none; the shelf and the output are seen before the call and after it
-- texts, given, faults: what the shelf tells and counts; wrote, write_faults: what the output does
pub record AnsweredFrom {H K : Type 0} (texts : H → Option Texts) (given faults : H → ℕ) (wrote : K → Option (List ℕ)) (write_faults : K → ℕ)
    (input : Option Input) (command : Option Command) (s : Status) (shelf shelf_after : H) (out out_after : K) : Type 0 where
  -- it is one that a command has, or Usage
  pub answer : IsAnswer s ⊎ (s ≡ Usage)
  -- Usage comes only where there is no command
  pub usage : s ≡ Usage → command ≡ None
  -- and where there is none, Usage comes or there was no memory
  pub no_command : command ≡ None → IsNoCommand s
  -- why a file can't be read: one call of the shelf failed, or there is no such file
  pub read_fault : s ≡ ReadFault → RoseBy 1 (faults shelf) (faults shelf_after) ⊎ Lacks (texts shelf) input
  -- why the output can't be written: one call of it failed
  pub write_fault : s ≡ WriteFault → RoseBy 1 (write_faults out) (write_faults out_after)
  -- where a file is too long, more was handed out than a file may have
  pub too_long : s ≡ TooLong → RoseAbove most_bytes (given shelf) (given shelf_after)
  -- and a told text is longer than that
  pub longer : s ≡ TooLong → OfFile (texts shelf) input (λ x. most_bytes < length x)
  -- a text is refused only where it has an offence by the command's rules
  pub refused : s ≡ Refused → OfBoth (texts shelf) input command HasOffence
  -- what is answered where there is no such file
  pub lacking : Lacks (texts shelf) input → IsUnread s
  -- where it is too long
  pub long : OfFile (texts shelf) input (λ x. most_bytes < length x → IsUnread s)
  -- where its text has an offence
  pub offends : OfBoth (texts shelf) input command (λ c x. HasOffence c x → IsUnwritten s)
  -- and where nothing is in the way and no call failed
  pub complete : OfBoth (texts shelf) input command (λ c x. length x ≤ most_bytes → Accepts c x → (RoseBy 1 (faults shelf) (faults shelf_after) → ⊥) → (RoseBy 1 (write_faults out) (write_faults out_after) → ⊥) → IsDone s)
  -- without a command, and where it reads no file, nothing is read: the shelf is the very same
  pub unread : IsFree input → shelf_after ≡ shelf
  -- and no answer is of a file
  pub unasked : IsFree input → IsUnasked s
  -- on all answers but two the output wasn't called: it is the very same
  pub unused : LeavesOut s → out_after ≡ out
  -- on Fine it went on by what the command writes for the text
  pub fine : s ≡ Fine → OfBoth (texts shelf) input command (Writes (wrote out) (wrote out_after))
  -- on WriteFault by the first bytes of that, and not by all
  pub in_part : s ≡ WriteFault → OfBoth (texts shelf) input command (WritesInPart (wrote out) (wrote out_after))
  -- what the shelf tells stays as it is
  pub texts_stay : texts shelf_after ≡ texts shelf
  -- where the text was read, just its bytes were handed out
  pub given_whole : IsRead s → OfFile (texts shelf) input (λ x. RoseBy (length x) (given shelf) (given shelf_after))
  -- where more was handed out than a file may have, it is told to be too long
  pub within : (s ≡ TooLong) ⊎ (given shelf_after ≤ given shelf + most_bytes)
  -- no byte is handed out twice
  pub read_once : OfFile (texts shelf) input (λ x. given shelf_after ≤ given shelf + length x)
  -- and no piece after the first that is too much
  pub read_few : given shelf_after ≤ given shelf + most_bytes + piece_bytes
  -- no count falls
  pub given_grows : given shelf ≤ given shelf_after
  pub read_faults_grow : faults shelf ≤ faults shelf_after
  pub write_faults_grow : write_faults out ≤ write_faults out_after
  -- only ReadFault lets the shelf's count of faults rise, and by one at most
  pub read_counted : (s ≡ ReadFault) ⊎ (faults shelf_after ≡ faults shelf)
  pub one_read_fault : faults shelf_after ≤ faults shelf + 1
  -- only WriteFault the output's, and by one at most
  pub write_counted : (s ≡ WriteFault) ⊎ (write_faults out_after ≡ write_faults out)
  pub one_write_fault : write_faults out_after ≤ write_faults out + 1

-- of any command: a run and a trace have three files; any other has one text, which comes from where it says
abbrev pub Answered : {H K : Type 0} → (H → Option Texts) → (H → ℕ) → (H → ℕ) → (K → Option (List ℕ)) → (K → ℕ) → Option Command → Status → H → H → K → K → Type 0
Answered texts given faults wrote write_faults (Some (runs file config script options)) s shelf shelf_after out out_after =
    AnsweredThree texts given faults wrote write_faults (record { source = file; config = config; third = script }) options.forced s shelf shelf_after out out_after
Answered texts given faults wrote write_faults (Some (traces file config trace options)) s shelf shelf_after out out_after =
    AnsweredTraced texts given faults wrote write_faults (record { source = file; config = config; third = trace }) (promised options) s shelf shelf_after out out_after
Answered texts given faults wrote write_faults command s shelf shelf_after out out_after =
    AnsweredFrom texts given faults wrote write_faults (option_map input_of command) command s shelf shelf_after out out_after
