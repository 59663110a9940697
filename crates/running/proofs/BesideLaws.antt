-- How a file that is read beside a module is refused.
use Rattle.std.proofs.Common.{◌≡◌, List, refl}
use Rattle.tla_token.specs.declared.rule.Refusal.{Refusal}
use Rattle.tla_token.specs.declared.rule.Stop.{Stop}
use Rattle.tla_token.specs.declared.rule.Stop.TheVariants as stop
use Rattle.tla_tree.specs.Tree.{Tree}
use Rattle.tla_value.specs.States.{Entries}
use Rattle.pcal_tree.specs.InitialStates.{is_multiprocess}
use Rattle.pcal_tree.specs.InMemory.{algorithm_at}
use Rattle.module_outside.specs.WholeAt.{outside_at}
use Rattle.checking.specs.declared.check.Checked.{Checked}
use Rattle.step_runner.specs.Config.{SpellsConfig, ConfigOffends}
use Rattle.step_runner.specs.Script.{ScriptOffends}
use Rattle.running.specs.declared.files.Files.{Files}
use Rattle.running.specs.declared.files.Which.TheVariants as which
use Rattle.running.specs.Beside.{no_run_of, IsRefusedBeside}

module _ (ts : List Tree) (c : Checked) (f : Files) where
  pub config_refused : (s : Stop) → ((r : Refusal) → s ≡ stop.Refused r → ConfigOffends (outside_at ts c.outside) f.config.now r) → IsRefusedBeside ts c f (no_run_of which.Config s)
  config_refused stop.Memory h = tt
  config_refused (stop.Refused r) h = h r refl

  pub script_refused : (es : Entries) → SpellsConfig (outside_at ts c.outside) f.config.now es
      → (s : Stop) → ((r : Refusal) → s ≡ stop.Refused r → ScriptOffends (is_multiprocess (algorithm_at ts c.algorithm).main) f.third.now r) → IsRefusedBeside ts c f (no_run_of which.Third s)
  script_refused es spells stop.Memory h = tt
  script_refused es spells (stop.Refused r) h = (es, spells, h r refl)
