-- What is behind the first word is scanned again, and nothing of it is refused.
use Rattle.std.proofs.Common.{ap, arith, Some, None, Err}
use Rattle.tla_token.specs.declared.rule.Stop.{Stop}
use Rattle.tla_token.specs.TokensSeen.{tokens_seen}
use Rattle.rewriting.proofs.FileRead.{in_text, rest_within, rest_unrefused, first_of_both, memory_alone}
use Rattle.rewriting.proofs.read_file.first_refusal.Goals as goal

pub slice_bounds-opening_len-end : goal.slice_bounds-opening_len-end
slice_bounds-opening_len-end c = in_text c.args.parts.now.text.now c.args.parts.now c.requires.parts c.requires.fine

pub overflow_add-from : goal.overflow_add-from
overflow_add-from c =
    let l = (rest_within c.args.parts.now.text.now c.args.parts.now c.requires.parts c.requires.fine c.opening_len.result c.opening_len.ensures).1 in
    let k = c.requires.small in
    omega (arith, l, k)

pub tokens_as-requires-clause-begins : goal.tokens_as-requires-clause-begins
tokens_as-requires-clause-begins c = (rest_within c.args.parts.now.text.now c.args.parts.now c.requires.parts c.requires.fine c.opening_len.result c.opening_len.ensures).0

pub returns-in-Err-clause-stopped : goal.returns-in-Err-clause-stopped
returns-in-Err-clause-stopped c =
    memory_alone c.in-Err.stop (λ r e. rest_unrefused c.args.parts.now.text.now c.args.parts.now c.requires.parts c.requires.fine c.opening_len.result r c.opening_len.ensures (c.in-Err.ensures.refused r (ap (λ (s : Stop). Err s) e)))

pub returns-in-Some-clause-answer : goal.returns-in-Some-clause-answer
returns-in-Some-clause-answer c =
    first_of_both c.args.parts.now.text.now c.args.parts.now c.requires.parts c.requires.fine c.opening_len.result (tokens_seen c.in-Ok.rest) (Some c.in-Some.word) c.args.number c.opening_len.ensures c.in-Ok.ensures.tokens c.in-Some.ensures c.requires.number

pub returns-clause-answer : goal.returns-clause-answer
returns-clause-answer c =
    first_of_both c.args.parts.now.text.now c.args.parts.now c.requires.parts c.requires.fine c.opening_len.result (tokens_seen c.in-Ok.rest) None c.args.number c.opening_len.ensures c.in-Ok.ensures.tokens c.in-None.ensures c.requires.number
