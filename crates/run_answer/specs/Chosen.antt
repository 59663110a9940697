-- What is answered to a module, a file of constants and a script: which of them is refused, and how; else the run that the script chooses
-- ("A PlusCal User's Manual", section 3; one order of refusals: the module, then the constants, then the script).
use Rattle.std.specs.Prelude.{◌≡◌, Bool, Option, Some, None}
use Rattle.tla_token.specs.declared.rule.Refusal.{Refusal}
use Rattle.tla_value.specs.Limits.{bounded}
use Rattle.tla_value.specs.Outside.{Outside}
use Rattle.tla_value.specs.States.{Entries}
use Rattle.pcal_tree.specs.Algorithm.{Algorithm}
use Rattle.pcal_tree.specs.InitialStates.{is_multiprocess}
use Rattle.pcal_tree.specs.Labelled.{labelled}
use Rattle.pcal_tree.specs.Program.{Program}
use Rattle.pcal_tree.specs.Programs.{program_in}
use Rattle.module_tree.specs.TextFront.{Text}
use Rattle.module_tree.specs.Walk.{walk}
use Rattle.module_tree.specs.laws.Outsides.{HasOutside}
use Rattle.file_answer.specs.Checking.{AnswersChecking}
use Rattle.file_answer.specs.Holds.{HoldsTree}
use Rattle.step_runner.specs.Config.{SpellsConfig, ConfigOffends, constants_of}
use Rattle.step_runner.specs.Script.{Script, SpellsScript, ScriptOffends}
use Rattle.step_runner.specs.Followed.{Stop, Followed, followed}
use Rattle.step_runner.specs.Shown.{run_text}

-- ---- three files

-- their texts
pub record Files : Type 0 where
  pub source : Text  -- of the module
  pub config : Text
  pub third : Text  -- the script of a run, or a trace

-- one of them
pub data Which : Type 0 where
  of_module : Which
  of_config : Which
  of_third : Which

-- ---- the module

-- with the text x nothing is wrong: this is its algorithm before labels are added, and this is outside
pub record Right (forced : Bool) (x : Text) : Type 0 where
  pub clean : AnswersChecking forced x None
  pub typed : Algorithm
  pub holds : HoldsTree x typed
  pub outside : Outside
  pub has : HasOutside (walk x) outside

abbrev pub algorithm_in : {forced : Bool} {x : Text} → Right forced x → Algorithm
algorithm_in {forced} m = labelled forced m.typed

-- whether the lines of a script name a process
abbrev pub has_identifiers : {forced : Bool} {x : Text} → Right forced x → Bool
has_identifiers m = is_multiprocess (algorithm_in m).main

-- ---- refusals

-- this file is refused so, and none before it is
abbrev pub Refuses : Bool → Files → Which → Refusal → Type 0
Refuses forced f of_module r = AnswersChecking forced f.source (Some r)
Refuses forced f of_config r = (m : Right forced f.source) × ConfigOffends m.outside f.config r
Refuses forced f of_third r =
    (m : Right forced f.source) × (es : Entries) × SpellsConfig m.outside f.config es × ScriptOffends (has_identifiers m) f.third r

-- ---- runs

-- nothing is wrong with the files, and they spell this
pub record Chosen (forced : Bool) (f : Files) : Type 0 where
  pub right : Right forced f.source
  pub constants : Entries
  pub spells_constants : SpellsConfig right.outside f.config constants
  pub script : Script
  pub spells_script : SpellsScript (has_identifiers right) f.third script

-- what runs, within the limits of a run
abbrev pub program_of : {forced : Bool} {f : Files} → Chosen forced f → Program
program_of c = program_in bounded c.right.outside (algorithm_in c.right) (constants_of c.constants)

abbrev pub followed_of : {forced : Bool} {f : Files} → Chosen forced f → Followed
followed_of c = followed (program_of c) c.script

-- the text w is that of the states which the script leads to, and this is why it stops before its end
pub record IsRun (forced : Bool) (f : Files) (w : Text) (stop : Option Stop) : Type 0 where
  pub chosen : Chosen forced f
  pub text : w ≡ run_text (program_of chosen) chosen.script.turns (followed_of chosen).states
  pub stopped : stop ≡ (followed_of chosen).stop
