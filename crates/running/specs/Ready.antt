-- A checked algorithm in memory that can run, the program that it is with some constants, and what following a script of it gives.
use Rattle.std.specs.Prelude.{◌≡◌, ◌≤◌, List, length}
use Rattle.tla_tree.specs.Tree.{Tree}
use Rattle.tla_value.specs.Limits.{bounded}
use Rattle.tla_value.specs.States.{Entries}
use Rattle.pcal_tree.specs.InMemory.{algorithm_at, past_algorithm}
use Rattle.pcal_tree.specs.Names.{naming}
use Rattle.pcal_tree.specs.Program.{Program}
use Rattle.pcal_tree.specs.Programs.{program_in}
use Rattle.pcal_tree.specs.Variables.{vars}
use Rattle.name_bits.specs.NamesIn.{most}
use Rattle.written_names.specs.Units.{naming_of}
use Rattle.action_builder.specs.WrittenNames.{with_names}
use Rattle.translation.specs.laws.AcceptedAlgorithm.{IsAcceptedInFile}
use Rattle.module_outside.specs.FoundAt.{AreHeld}
use Rattle.module_outside.specs.WholeAt.{outside_at}
use Rattle.checking.specs.declared.check.Checked.{Checked}
use Rattle.step_runner.specs.Config.{constants_of}
use Rattle.step_runner.specs.Followed.{followed}
use Rattle.step_runner.specs.Script.{Script}
use Rattle.step_runner.specs.Shown.{run_text}
use Rattle.followed_runs.specs.Stopping.{stop_of}
use Rattle.followed_runs.specs.declared.following.Followed.{Followed}
use Rattle.step_forms.specs.Opened.{IsOpenable}
use Rattle.step_moves.specs.declared.program.Program as code
use Rattle.step_moves.specs.Programs.{program_at, IsWhole}
use Rattle.written_runs.specs.WrittenRuns.{followed_once}
use Rattle.running.specs.declared.made.Grounds.{Grounds}
use Rattle.running.specs.GroundsOf.{AreGrounds}

-- over these trees, it is accepted in its file, has its written names, and not more variables than sets have numbers for
pub record CanRun (ts : List Tree) (c : Checked) : Type 0 where
  pub past : past_algorithm c.algorithm ≤ length ts
  pub held : AreHeld (length ts) c.outside.definitions.items
  pub names : naming_of c.naming ≡ naming (algorithm_at ts c.algorithm) (outside_at ts c.outside)
  pub accepted : IsAcceptedInFile (outside_at ts c.outside) (algorithm_at ts c.algorithm)
  pub few : length (vars (with_names (outside_at ts c.outside) (algorithm_at ts c.algorithm))) ≤ most

-- with these values of the constants
abbrev pub program_read : List Tree → Checked → Entries → Program
program_read ts c es = program_in bounded (outside_at ts c.outside) (algorithm_at ts c.algorithm) (constants_of es)

-- the text of the states that the script leads to, and why it stops before its end
pub record IsFollowed (P : Program) (s : Script) (f : Followed) : Type 0 where
  pub text : f.text.items ≡ run_text P s.turns (followed P s).states
  pub stop : stop_of f.stop ≡ (followed P s).stop

-- ---- a program in memory

-- what is followed can be taken from it, and from what was made of it
pub record CanFollow (p : code.Program) (k : Grounds) : Type 0 where
  pub grounds : AreGrounds p.pool.now k (program_at p)
  pub whole : IsWhole p
  pub opens : IsOpenable (program_at p).algorithm

-- it is followed by the written names
pub record IsFollowedOnce (p : code.Program) (s : Script) (f : Followed) : Type 0 where
  pub text : f.text.items ≡ run_text (program_at p) s.turns (followed_once (program_at p) s).states
  pub stop : stop_of f.stop ≡ (followed_once (program_at p) s).stop
