-- What a shelf does while the files of a run are read: one of them, and all.
use Rattle.std.specs.Prelude.{◌≡◌, ◌⊎◌, ℕ, ◌+◌, ◌*◌, ◌<◌, ◌≤◌, length, Option}
use Rattle.outer_io.specs.Outer.{Texts, Tells, HasText, HasNoText, RoseBy, RoseAbove, piece_bytes}
use Rattle.tla_token.specs.Limits.{most_bytes}
use Rattle.tla_tree.specs.Tree.{Word}
use Rattle.run_answer.specs.Chosen.{Files, Which, of_module, of_config, of_third}
use Rattle.running.specs.InMemory.{which_of}
use Rattle.running.specs.declared.files.Which as code
use Rattle.running.specs.Names.{Names, name_of, IsBefore, OfTexts, IsThere, size_of}
use Rattle.running.specs.Answers.{StopsAt, IsReadFault, IsTooLong, IsUnread}
use Rattle.running.specs.declared.answer.RunAnswer.{RunAnswer}
use Rattle.running.specs.declared.answer.RunAnswer.TheVariants as answer
use Rattle.running.specs.declared.reading.Loaded.{Loaded}

abbrev pub files_in : Loaded → Files
files_in t = record { source = t.source.items; config = t.config.items; third = t.third.items }

abbrev pub text_of : Files → Which → Word
text_of f of_module = f.source
text_of f of_config = f.config
text_of f of_third = f.third

-- the answer where this file isn't read
abbrev pub IsAt : code.Which → RunAnswer → Type 0
IsAt w answer.Memory = Unit {0}
IsAt w (answer.ReadFault v) = v ≡ w
IsAt w (answer.TooLong v) = v ≡ w
IsAt w a = ⊥

-- v is the text of the file with this name, and was read
pub record WasRead {H : Type 0} (texts : H → Option Texts) (given faults : H → ℕ) (name v : Word) (shelf after : H) : Type 0 where
  pub text : HasText (texts shelf) name v
  pub short : length v ≤ most_bytes
  pub rose : RoseBy (length v) (given shelf) (given after)
  pub grows : given shelf ≤ given after
  pub same : texts after ≡ texts shelf
  pub kept : faults after ≡ faults shelf

-- the file with this name wasn't read, and this is the answer; each clause is that of the same name in `AnsweredRun`
pub record StopsReading {H : Type 0} (texts : H → Option Texts) (given faults : H → ℕ) (name : Word) (w : code.Which) (a : RunAnswer) (shelf after : H) : Type 0 where
  pub at : IsAt w a
  pub read_fault : IsReadFault a → RoseBy 1 (faults shelf) (faults after) ⊎ HasNoText (texts shelf) name
  pub too_long : IsTooLong a → RoseAbove most_bytes (given shelf) (given after)
  pub longer : IsTooLong a → Tells (texts shelf) name (λ x. most_bytes < length x)
  pub texts_stay : texts after ≡ texts shelf
  pub within : IsTooLong a ⊎ (given after ≤ given shelf + most_bytes)
  pub read_once : Tells (texts shelf) name (λ x. given after ≤ given shelf + length x)
  pub read_few : given after ≤ given shelf + most_bytes + piece_bytes
  pub given_grows : given shelf ≤ given after
  pub read_faults_grow : faults shelf ≤ faults after
  pub read_counted : IsReadFault a ⊎ (faults after ≡ faults shelf)
  pub one_read_fault : faults after ≤ faults shelf + 1

-- the texts of f were read
pub record AllRead {H : Type 0} (texts : H → Option Texts) (given faults : H → ℕ) (names : Names) (f : Files) (shelf after : H) : Type 0 where
  pub text : (w : Which) → HasText (texts shelf) (name_of names w) (text_of f w)
  pub short : (w : Which) → length (text_of f w) ≤ most_bytes
  pub rose : RoseBy (size_of f) (given shelf) (given after)
  pub grows : given shelf ≤ given after
  pub same : texts after ≡ texts shelf
  pub kept : faults after ≡ faults shelf

-- one of them wasn't, and those before it were; each clause is that of the same name in `AnsweredRun`
pub record Unread {H : Type 0} (texts : H → Option Texts) (given faults : H → ℕ) (names : Names) (a : RunAnswer) (shelf after : H) : Type 0 where
  pub unread : IsUnread a
  pub read_fault : (w : code.Which) → a ≡ answer.ReadFault w → RoseBy 1 (faults shelf) (faults after) ⊎ HasNoText (texts shelf) (name_of names (which_of w))
  pub too_long : (w : code.Which) → a ≡ answer.TooLong w → RoseAbove most_bytes (given shelf) (given after)
  pub longer : (w : code.Which) → a ≡ answer.TooLong w → Tells (texts shelf) (name_of names (which_of w)) (λ x. most_bytes < length x)
  pub earlier : (w v : Which) → StopsAt a w → IsBefore v w → IsThere (texts shelf) (name_of names v)
  pub texts_stay : texts after ≡ texts shelf
  pub within : IsTooLong a ⊎ (given after ≤ given shelf + 3 * most_bytes)
  pub read_once : OfTexts (texts shelf) names (λ f. given after ≤ given shelf + size_of f)
  pub read_few : given after ≤ given shelf + 3 * most_bytes + piece_bytes
  pub given_grows : given shelf ≤ given after
  pub read_faults_grow : faults shelf ≤ faults after
  pub read_counted : IsReadFault a ⊎ (faults after ≡ faults shelf)
  pub one_read_fault : faults after ≤ faults shelf + 1
