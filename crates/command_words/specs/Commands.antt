-- What the words of a command line mean by a table of commands.
use Rattle.std.specs.Prelude.{ℕ, Bool, false, not, nat_eq, nat_le, ◌&&◌, List, [], ◌∷◌, Option, Some, None, option_map, option_and_then, codes, bytes_eq, if◌then◌else◌}
use Rattle.std.specs.List.{list_all}
use Rattle.clap.specs.Walk.{Row, first_of, is_empty}
use Rattle.clap.specs.Simple.{Shape, subcommand_of}
use Rattle.clap.specs.Faults.{fault_of}
use Rattle.tla_token.specs.Lexemes.{is_digit, number_of}
use Rattle.tla_tree.specs.Tree.{Word}
use Rattle.pcal_tree.specs.Grammar.{Syntax, p_syntax, c_syntax}
use Rattle.command_words.specs.Table.{table}

-- whether labels are added everywhere, and whether the translation says that nothing changes when all are done
pub record Options : Type 0 where
  pub forced : Bool
  pub terminating : Bool

pub data Command : Type 0 where
  translates : Word → Options → Command
  checks : Word → Bool → Command  -- true: labels are added everywhere; so of `map`
  rewrites : Word → Syntax → Command
  maps : Word → Bool → Command
  runs : Word → Word → Word → Options → Command  -- FILE, CONFIG, SCRIPT
  traces : Word → Word → Word → Options → Command  -- FILE, CONFIG, TRACE
  makes : ℕ → ℕ → Command  -- SEED, COUNT

infixl 10 ◌>>=◌
abbrev pub ◌>>=◌ : {X Y : Type 0} → Option X → (X → Option Y) → Option Y
o >>= go = option_and_then go o

-- ---- values

-- decimal digits alone, and no zero before others
abbrev pub is_decimal : Word → Bool
is_decimal [] = false
is_decimal (b ∷ []) = is_digit b
is_decimal (b ∷ bs) = not (nat_eq b 48) && list_all is_digit (b ∷ bs)

abbrev pub number_in : Word → Option ℕ
number_in w = if is_decimal w then Some (number_of w) else None

-- a number from the first to the second
abbrev pub between : ℕ → ℕ → Word → Option ℕ
between low high w = option_and_then (λ n. if nat_le low n && nat_le n high then Some n else None) (number_in w)

abbrev pub syntax_in : Word → Option Syntax
syntax_in w = if bytes_eq w (codes "p") then Some p_syntax else (if bytes_eq w (codes "c") then Some c_syntax else None)

-- ---- commands

-- the word or value that was given under a name
abbrev pub given : List Row → Word → Option Word
given rows id = first_of id rows

abbrev pub is_set : List Row → Word → Option Bool
is_set rows id = option_map (λ w. bytes_eq w (codes "true")) (given rows id)

abbrev pub options_in : List Row → Option Options
options_in rows = do
  label ← is_set rows (codes "label")
  without ← is_set rows (codes "no-terminating")
  Some (record { forced = label; terminating = not without })

abbrev pub of_file : (Word → Bool → Command) → List Row → Option Command
of_file f rows = do
  file ← given rows (codes "FILE")
  label ← is_set rows (codes "label")
  Some (f file label)

-- of three files, the third under this name
abbrev pub of_three : (Word → Word → Word → Options → Command) → Word → List Row → Option Command
of_three f id rows = do
  file ← given rows (codes "FILE")
  config ← given rows (codes "CONFIG")
  third ← given rows id
  options ← options_in rows
  Some (f file config third options)

abbrev pub translation_in : List Row → Option Command
translation_in rows = do
  file ← given rows (codes "FILE")
  options ← options_in rows
  Some (translates file options)

abbrev pub rewriting_in : List Row → Option Command
rewriting_in rows = do
  file ← given rows (codes "FILE")
  to ← given rows (codes "to")
  syntax ← syntax_in to
  Some (rewrites file syntax)

-- SEED from 0 to 4294967295, COUNT from 1 to 2000
abbrev pub making_in : List Row → Option Command
making_in rows = do
  seed ← given rows (codes "SEED")
  count ← given rows (codes "COUNT")
  n ← between 0 4294967295 seed
  k ← between 1 2000 count
  Some (makes n k)

-- by the command's name
abbrev pub meaning_in : Word × List Row → Option Command
meaning_in p =
    if bytes_eq p.0 (codes "translate") then translation_in p.1
    else (if bytes_eq p.0 (codes "check") then of_file checks p.1
    else (if bytes_eq p.0 (codes "rewrite") then rewriting_in p.1
    else (if bytes_eq p.0 (codes "map") then of_file maps p.1
    else (if bytes_eq p.0 (codes "run") then of_three runs (codes "SCRIPT") p.1
    else (if bytes_eq p.0 (codes "trace") then of_three traces (codes "TRACE") p.1
    else (if bytes_eq p.0 (codes "make") then making_in p.1 else None))))))

-- what the words mean by a table of these commands; none where they mean no command. The first word is the program's name.
abbrev pub meaning : List Shape → List Word → Option Command
meaning cs words = if is_empty (fault_of (table cs) words) then option_and_then meaning_in (subcommand_of (table cs) words) else None
