-- Proves what is asked of `span_between`.
use Rattle.std.proofs.Common.{ap, ◌∙◌}
use Rattle.tla_tree.specs.Lexical.{Token}
use Rattle.algorithm_reader.proofs.Between.{between}
use Rattle.algorithm_reader.proofs.words.span_between.Goals as goal

pub returns : goal.returns
returns c xs e =
    let at = between c.args.tokens.now c.args.from c.args.end xs c.requires.some c.requires.inside e in
    λ j. record { first = (ap (λ (t : Token). t.place) c.next_token.ensures ∙ at.0) j; last = (ap (λ (t : Token). t.place) c.next_token-2.ensures ∙ at.1) j }
