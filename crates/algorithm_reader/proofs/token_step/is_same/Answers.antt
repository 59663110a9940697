use Rattle.algorithm_reader.proofs.WordsNext.{numbers_tell}
use Rattle.algorithm_reader.proofs.token_step.is_same.Goals as goal

pub returns : goal.returns
returns c = numbers_tell c.args.one c.args.other c.word_number.result c.word_number-2.result c.word_number.ensures c.word_number-2.ensures
