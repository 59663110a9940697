-- Proves what is asked of `is_path_token`.
use Rattle.std.proofs.Common.{[], ◌∷◌, sym, ap, ◌∙◌}
use Rattle.tla_token.specs.declared.token.Kind.{Kind}
use Rattle.tla_token.specs.TokensSeen.{kind_seen}
use Rattle.tla_token.specs.AlgorithmOffences.{begins_path}
use Rattle.algorithm_limits.proofs.tokens.is_path_token.Goals as goal

pub returns-in-Sign : goal.returns-in-Sign
returns-in-Sign c =
    c.is_path_sign.ensures c.args.token.at c.args.token.place
    ∙ ap (λ (k : Kind). begins_path (record { kind = kind_seen c.args.tokens.now.bytes.items k; at = c.args.token.at; place = c.args.token.place } ∷ [])) (sym c.in-Sign.is)
