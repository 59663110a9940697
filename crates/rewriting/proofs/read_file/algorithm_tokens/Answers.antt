-- The scanner's tokens are the algorithm's.
use Rattle.tla_expr.proofs.NumbersGiven.{given_fit}
use Rattle.rewriting.proofs.FileRead.{in_order, in_text, found_tokens}
use Rattle.rewriting.proofs.read_file.algorithm_tokens.Goals as goal

pub tokens-requires-clause-begins : goal.tokens-requires-clause-begins
tokens-requires-clause-begins c = in_order c.args.parts.now.text.now c.args.parts.now c.requires.parts c.requires.fine

pub tokens-requires-clause-ends : goal.tokens-requires-clause-ends
tokens-requires-clause-ends c = in_text c.args.parts.now.text.now c.args.parts.now c.requires.parts c.requires.fine

pub returns-in-Ok-clause-found : goal.returns-in-Ok-clause-found
returns-in-Ok-clause-found c = found_tokens c.args.parts.now.text.now c.args.parts.now c.requires.parts c.requires.fine c.in-Ok.found c.in-Ok.ensures.tokens c.in-Ok.ensures.fine c.in-Ok.ensures.end

pub returns-in-Ok-clause-numbers : goal.returns-in-Ok-clause-numbers
returns-in-Ok-clause-numbers c = given_fit c.args.parts.now.text.now c.args.parts.now.algorithm.from c.args.parts.now.algorithm.to c.in-Ok.found c.in-Ok.ensures.tokens c.in-Ok.ensures.fine
