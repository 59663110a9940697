-- What the loop of `with_parts` keeps: the command takes what was gone over.
use Rattle.std.proofs.Common.{◌≡◌, false, take, map}
use Rattle.clap.specs.Simple.{app_of}
use Rattle.clap.specs.declared.builder.command.Command.TheViews.{out-Command}
use Rattle.command_words.specs.Table.{command}
use Rattle.command_words.specs.Meant.{alone}
use Rattle.command_words.specs.TableParts.{rule_of}
use Rattle.command_words.proofs.table.with_parts.Given as goal

abbrev pub invariant-loop-part : goal.invariant-loop-part
invariant-loop-part l =
    record {
      app : app_of l.command ≡ alone (command l.name (map rule_of (take l.part-index l.parts)));
      local : (out-Command l.command).has_globals ≡ false;
    }
