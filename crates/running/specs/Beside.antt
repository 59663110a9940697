-- What is read beside a module: the run that it chooses, and how one of its files is refused.
use Rattle.std.specs.Prelude.{List}
use Rattle.tla_token.specs.declared.rule.Stop.{Stop}
use Rattle.tla_token.specs.declared.rule.Stop.TheVariants as stop
use Rattle.tla_tree.specs.Tree.{Tree}
use Rattle.tla_value.specs.States.{Entries}
use Rattle.pcal_tree.specs.InitialStates.{is_multiprocess}
use Rattle.pcal_tree.specs.InMemory.{algorithm_at}
use Rattle.module_outside.specs.WholeAt.{outside_at}
use Rattle.checking.specs.declared.check.Checked.{Checked}
use Rattle.step_runner.specs.Config.{SpellsConfig, ConfigOffends}
use Rattle.step_runner.specs.Script.{Script, SpellsScript, ScriptOffends}
use Rattle.followed_runs.specs.declared.following.Followed.{Followed}
use Rattle.running.specs.declared.files.Files.{Files}
use Rattle.running.specs.declared.files.Which.{Which}
use Rattle.running.specs.declared.files.Which.TheVariants as which
use Rattle.running.specs.declared.files.NoRun.{NoRun}
use Rattle.running.specs.declared.files.NoRun.TheVariants as norun
use Rattle.running.specs.Ready.{program_read, IsFollowed}

-- a stop at one of the files
abbrev pub no_run_of : Which → Stop → NoRun
no_run_of w stop.Memory = norun.Memory
no_run_of w (stop.Refused r) = norun.Refused w r

-- beside this algorithm, in memory over these trees, the files spell constants and a script, and this is the run
pub record IsRunBeside (ts : List Tree) (c : Checked) (f : Files) (k : Followed) : Type 0 where
  pub constants : Entries
  pub spells_constants : SpellsConfig (outside_at ts c.outside) f.config.now constants
  pub script : Script
  pub spells_script : SpellsScript (is_multiprocess (algorithm_at ts c.algorithm).main) f.third.now script
  pub is : IsFollowed (program_read ts c constants) script k

-- why there is none: the constants are refused so, or, where they aren't, the script is; the module isn't read here
abbrev pub IsRefusedBeside : List Tree → Checked → Files → NoRun → Type 0
IsRefusedBeside ts c f norun.Memory = Unit {0}
IsRefusedBeside ts c f (norun.Refused which.Module r) = ⊥
IsRefusedBeside ts c f (norun.Refused which.Config r) = ConfigOffends (outside_at ts c.outside) f.config.now r
IsRefusedBeside ts c f (norun.Refused which.Third r) =
    (es : Entries) × SpellsConfig (outside_at ts c.outside) f.config.now es × ScriptOffends (is_multiprocess (algorithm_at ts c.algorithm).main) f.third.now r
