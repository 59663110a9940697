-- What was taken over, and what is still to come, are the words that were given.
use Rattle.std.proofs.Common.{◌≡◌, ◌++◌}
use Rattle.std.specs.Vec.Iter.{into_iter_items}
use Rattle.pcal_cli.specs.Words.{words_given}
use Rattle.pcal_cli.proofs.program.words_of.Given as goal

abbrev pub invariant-loop-word : goal.invariant-loop-word
invariant-loop-word l = l.words.items ++ into_iter_items l.word-iterator ≡ words_given l.fn.given
