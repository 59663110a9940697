use Rattle.std.proofs.Common.{◌++◌, ◌∙◌, ◌∷◌, [], ap}
use Rattle.tla_token.specs.declared.token.Kind.TheVariants as kinds
use Rattle.tla_token.specs.Tokens.{stretch}
use Rattle.tla_token.proofs.Given.{opening_within, opening_canonical, algorithm_ok}
use Rattle.tla_token.proofs.scan.algorithm_tokens.Goals as goal

pub rest_of-requires-clause-starts : goal.rest_of-requires-clause-starts
rest_of-requires-clause-starts c = opening_within c.args.text.now c.args.from c.args.to c.args.opening c.requires.begins c.requires.ends c.requires.opening

pub rest_of-requires-clause-canonical : goal.rest_of-requires-clause-canonical
rest_of-requires-clause-canonical c =
    opening_canonical (stretch c.args.text.now c.args.from c.args.to) c.args.opening c.args.from c.place_of.result _ c.requires.opening
    (c.in_ok-push.ensures.items ∙ ap (λ us. us ++ record { kind = kinds.Name (record { from = 0; to = c.args.opening }); at = c.args.from; place = c.place_of.result } ∷ []) c.new-items.ensures.items)

pub returns-clause-tokens : goal.returns-clause-tokens
returns-clause-tokens c =
    algorithm_ok c.rest_of.result c.args.text.now c.args.from c.args.to c.args.opening c.place_of.result _ c.requires.opening c.place_of.ensures.value (c.in_ok-push.ensures.items ∙ ap (λ us. us ++ record { kind = kinds.Name (record { from = 0; to = c.args.opening }); at = c.args.from; place = c.place_of.result } ∷ []) c.new-items.ensures.items)
    c.rest_of.ensures.bytes c.rest_of.ensures.tokens c.rest_of.ensures.fine
