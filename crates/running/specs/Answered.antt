-- What holds of the answer of a run: why it comes, what becomes of the output, and how the counts rise.
use Rattle.std.specs.Prelude.{◌≡◌, ◌⊎◌, ℕ, ◌+◌, ◌*◌, ◌<◌, ◌≤◌, List, Bool, length, Option, Some, None}
use Rattle.outer_io.specs.Outer.{Texts, Tells, HasNoText, RoseBy, RoseAbove, Grows, GrowsInPart, piece_bytes}
use Rattle.tla_token.specs.Limits.{most_bytes}
use Rattle.tla_token.specs.declared.rule.Refusal.{Refusal}
use Rattle.step_runner.specs.Followed as runner
use Rattle.run_answer.specs.Chosen.{Files, Which, Refuses, IsRun}
use Rattle.run_answer.specs.Promised.{KeepsRun}
use Rattle.followed_runs.specs.Stopping.{stop_of}
use Rattle.followed_runs.specs.declared.cause.Stop.{Stop}
use Rattle.running.specs.InMemory.{which_of}
use Rattle.running.specs.declared.files.Which as code
use Rattle.running.specs.Names.{Names, name_of, IsBefore, OfTexts, IsThere, size_of, AreShort}
use Rattle.running.specs.Answers.{StopsAt, IsReadFault, IsTooLong, IsRead, LeavesOut, IsUnread, IsUnwritten, IsEnd}
use Rattle.running.specs.Answers as answers
use Rattle.running.specs.declared.answer.RunAnswer.{RunAnswer}
use Rattle.running.specs.declared.answer.RunAnswer.TheVariants as answer

-- the output went on by the text of the run, which stops so
abbrev pub Writes : Option (List ℕ) → Option (List ℕ) → Bool → Option runner.Stop → Files → Type 0
Writes old new forced s f = (w : List ℕ) × Grows old new w × IsRun forced f w s

-- by the first bytes of it, and not by all
abbrev pub WritesInPart : Option (List ℕ) → Option (List ℕ) → Bool → Files → Type 0
WritesInPart old new forced f = (w : List ℕ) × (s : Option runner.Stop) × GrowsInPart old new w × IsRun forced f w s

-- the promise: by a text that is a run by the script, of which what is written for the module is true
abbrev pub KeepsPromise : Option (List ℕ) → Option (List ℕ) → Bool → Files → Type 0
KeepsPromise old new forced f = (w : List ℕ) × Grows old new w × KeepsRun forced f w

-- the answer a to a run of the files with these names; the shelf and the output are seen before the call and after it
-- texts, given, faults: what the shelf tells and counts; wrote, write_faults: what the output does
pub record AnsweredRun {H K : Type 0} (texts : H → Option Texts) (given faults : H → ℕ) (wrote : K → Option (List ℕ)) (write_faults : K → ℕ)
    (names : Names) (forced : Bool) (a : RunAnswer) (shelf shelf_after : H) (out out_after : K) : Type 0 where
  -- why a file can't be read: one call of the shelf failed, or there is no such file
  pub read_fault : (w : code.Which) → a ≡ answer.ReadFault w → RoseBy 1 (faults shelf) (faults shelf_after) ⊎ HasNoText (texts shelf) (name_of names (which_of w))
  -- why the output can't be written: one call of it failed
  pub write_fault : a ≡ answer.WriteFault → RoseBy 1 (write_faults out) (write_faults out_after)
  -- where a file is too long, more was handed out than a file may have
  pub too_long : (w : code.Which) → a ≡ answer.TooLong w → RoseAbove most_bytes (given shelf) (given shelf_after)
  -- and its text, where it is told, is longer than that
  pub longer : (w : code.Which) → a ≡ answer.TooLong w → Tells (texts shelf) (name_of names (which_of w)) (λ x. most_bytes < length x)
  -- the files before it are there, and short
  pub earlier : (w v : Which) → StopsAt a w → IsBefore v w → IsThere (texts shelf) (name_of names v)
  -- a file is refused only where it has an offence, and none before it has one
  pub refused : (w : code.Which) (r : Refusal) → a ≡ answer.Refused w r → OfTexts (texts shelf) names (λ f. Refuses forced f (which_of w) r)
  -- what is answered where there is no such file
  pub lacking : (w : Which) → HasNoText (texts shelf) (name_of names w) → IsUnread a
  -- where one is too long
  pub long : (w : Which) → Tells (texts shelf) (name_of names w) (λ x. most_bytes < length x → IsUnread a)
  -- where one has an offence
  pub offends : OfTexts (texts shelf) names (λ f. (w : Which) (r : Refusal) → Refuses forced f w r → IsUnwritten a)
  -- where the files choose a run
  pub runs : OfTexts (texts shelf) names (λ f. (w : List ℕ) (s : Option runner.Stop) → IsRun forced f w s → answers.IsUnrefused s a)
  -- and where nothing is in the way and no call failed
  pub complete : OfTexts (texts shelf) names (λ f. (w : List ℕ) (s : Option runner.Stop) → AreShort f → IsRun forced f w s → (RoseBy 1 (faults shelf) (faults shelf_after) → ⊥) → (RoseBy 1 (write_faults out) (write_faults out_after) → ⊥) → IsEnd s a)
  -- on these answers the output wasn't called: it is the very same
  pub unused : LeavesOut a → out_after ≡ out
  -- on Fine it went on by the states of the whole script
  pub fine : a ≡ answer.Fine → OfTexts (texts shelf) names (Writes (wrote out) (wrote out_after) forced None)
  -- where the script stops, by the states before that
  pub stopped : (s : Stop) → a ≡ answer.Stopped s → OfTexts (texts shelf) names (Writes (wrote out) (wrote out_after) forced (stop_of (Some s)))
  -- on WriteFault by the first bytes of these, and not by all
  pub in_part : a ≡ answer.WriteFault → OfTexts (texts shelf) names (WritesInPart (wrote out) (wrote out_after) forced)
  -- what the shelf tells stays as it is
  pub texts_stay : texts shelf_after ≡ texts shelf
  -- where all texts were read, just their bytes were handed out
  pub given_whole : IsRead a → OfTexts (texts shelf) names (λ f. RoseBy (size_of f) (given shelf) (given shelf_after))
  -- where more was handed out than three files may have, one is told to be too long
  pub within : IsTooLong a ⊎ (given shelf_after ≤ given shelf + 3 * most_bytes)
  -- no byte is handed out twice
  pub read_once : OfTexts (texts shelf) names (λ f. given shelf_after ≤ given shelf + size_of f)
  -- and no piece after the first that is too much
  pub read_few : given shelf_after ≤ given shelf + 3 * most_bytes + piece_bytes
  -- no count falls
  pub given_grows : given shelf ≤ given shelf_after
  pub read_faults_grow : faults shelf ≤ faults shelf_after
  pub write_faults_grow : write_faults out ≤ write_faults out_after
  -- only ReadFault lets the shelf's count of faults rise, and by one at most
  pub read_counted : IsReadFault a ⊎ (faults shelf_after ≡ faults shelf)
  pub one_read_fault : faults shelf_after ≤ faults shelf + 1
  -- only WriteFault the output's, and by one at most
  pub write_counted : (a ≡ answer.WriteFault) ⊎ (write_faults out_after ≡ write_faults out)
  pub one_write_fault : write_faults out_after ≤ write_faults out + 1
