-- The names of the files of a run, and what holds of their texts where these are told.
use Rattle.std.specs.Prelude.{ℕ, ◌+◌, ◌≤◌, Option, length}
use Rattle.outer_io.specs.Outer.{Texts, Tells, HasNoText}
use Rattle.tla_token.specs.Limits.{most_bytes}
use Rattle.tla_tree.specs.Tree.{Word}
use Rattle.run_answer.specs.Chosen.{Files, Which, of_module, of_config, of_third}
use Rattle.running.specs.declared.answer.Names as code

-- in the order in which they are read
pub record Names : Type 0 where
  pub source : Word
  pub config : Word
  pub third : Word  -- of the script of a run, or of a trace

abbrev pub names_of : code.Names → Names
names_of n = record { source = n.source.now; config = n.config.now; third = n.third.now }

abbrev pub name_of : Names → Which → Word
name_of n of_module = n.source
name_of n of_config = n.config
name_of n of_third = n.third

-- the first is read before the second
abbrev pub IsBefore : Which → Which → Type 0
IsBefore of_module of_config = Unit {0}
IsBefore of_module of_third = Unit {0}
IsBefore of_config of_third = Unit {0}
IsBefore v w = ⊥

-- what holds of the three texts, where all are told
abbrev pub OfTexts : Option Texts → Names → (Files → Type 0) → Type 0
OfTexts texts n P =
    Tells texts n.source (λ x. Tells texts n.config (λ y. Tells texts n.third (λ z. P (record { source = x; config = y; third = z }))))

-- a file isn't told to be missing, and its text isn't told to be too long
pub record IsThere (texts : Option Texts) (name : Word) : Type 0 where
  pub told : HasNoText texts name → ⊥
  pub short : Tells texts name (λ x. length x ≤ most_bytes)

abbrev pub size_of : Files → ℕ
size_of f = length f.source + (length f.config + length f.third)

pub record AreShort (f : Files) : Type 0 where
  pub source : length f.source ≤ most_bytes
  pub config : length f.config ≤ most_bytes
  pub third : length f.third ≤ most_bytes
