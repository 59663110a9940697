-- Proves the law `what_was_read_stays_as_the_pool_grows`.
use Rattle.pcal_tree.proofs.InMemoryGrown.{algorithm_at-kept}
use Rattle.running.proofs.ReadLaws.{read_kept, held_more, program_read}
use Rattle.running.proofs.laws.what_was_read_stays_as_the_pool_grows.Goals as goal

pub returns-clause-algorithm : goal.returns-clause-algorithm
returns-clause-algorithm c = λ ts us a kept within. algorithm_at-kept ts us kept a within

pub returns-clause-outside : goal.returns-clause-outside
returns-clause-outside c = read_kept

pub returns-clause-held : goal.returns-clause-held
returns-clause-held c = held_more

pub returns-clause-program : goal.returns-clause-program
returns-clause-program c = program_read
