use Rattle.algorithm_reader.proofs.WordsNext.{reserved_at}
use Rattle.algorithm_reader.proofs.token_step.is_word.Goals as goal

pub returns-in-PluscalWord : goal.returns-in-PluscalWord
returns-in-PluscalWord c bytes h = reserved_at bytes c.args.kind c.in-PluscalWord.field-0 c.args.word c.in-PluscalWord.other c.is_same.result c.in-PluscalWord.is h c.is_same.ensures
