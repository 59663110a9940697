-- What a command in memory takes, as rules.
use Rattle.clap.specs.Walk.{Rule}
use Rattle.command_words.specs.Table as words
use Rattle.command_words.specs.declared.table.Part.{Part}
use Rattle.command_words.specs.declared.table.Part.TheVariants as part

-- a word, or an option
abbrev pub rule_of : Part → Rule
rule_of (part.Word id) = words.word id.now
rule_of (part.Flag id) = words.flag id.now
rule_of (part.Value id) = words.option id.now
