-- How a file that is read beside a module is refused.
use Rattle.std.proofs.Common.{◌≡◌, List, refl}
use Rattle.tla_token.specs.declared.rule.Refusal.{Refusal}
use Rattle.tla_token.specs.declared.rule.Stop.{Stop}
use Rattle.tla_token.specs.declared.rule.Stop.TheVariants as stop
use Rattle.tla_tree.specs.Tree.{Tree}
use Rattle.tla_value.specs.States.{Entries}
use Rattle.module_outside.specs.WholeAt.{outside_at}
use Rattle.checking.specs.declared.check.Checked.{Checked}
use Rattle.step_runner.specs.Config.{SpellsConfig, ConfigOffends}
use Rattle.step_runner.specs.Trace.{TraceOffends}
use Rattle.running.specs.Beside.{no_run_of}
use Rattle.running.specs.declared.files.Files.{Files}
use Rattle.running.specs.declared.files.Which.TheVariants as which
use Rattle.tracing.specs.Beside.{variables_read, IsRefusedBeside}

module _ (ts : List Tree) (c : Checked) (f : Files) where
  pub config_refused : (s : Stop) → ((r : Refusal) → s ≡ stop.Refused r → ConfigOffends (outside_at ts c.outside) f.config.now r) → IsRefusedBeside ts c f (no_run_of which.Config s)
  config_refused stop.Memory h = tt
  config_refused (stop.Refused r) h = h r refl

  pub trace_refused : (es : Entries) → SpellsConfig (outside_at ts c.outside) f.config.now es
      → (s : Stop) → ((r : Refusal) → s ≡ stop.Refused r → TraceOffends (variables_read ts c) f.third.now r) → IsRefusedBeside ts c f (no_run_of which.Third s)
  trace_refused es spells stop.Memory h = tt
  trace_refused es spells (stop.Refused r) h = (es, spells, h r refl)
