-- What the tokens of an algorithm offend one by one, each offence at the place of its token: words and signs that are left out, and too many tokens.
use Rattle.std.specs.Prelude.{ℕ, List, [], ◌∷◌, ◌++◌, map, drop}
use Rattle.tla_token.specs.declared.rule.Rule.TheVariants.{LeftOutWord, TooMany}
use Rattle.tla_token.specs.declared.rule.Refusal.{Refusal}
use Rattle.tla_token.specs.Places.{place_at}
use Rattle.tla_token.specs.Offences.{Offence}
use Rattle.tla_token.specs.Limits.{most_tokens}
use Rattle.tla_token.specs.Tokens.{Token}
use Rattle.tla_token.specs.AlgorithmOffences.{is_left_out}
use Rattle.pcal_tree.specs.Offences.{offence, offence_if}

abbrev pub left_out_at : List Token → List Refusal
left_out_at [] = []
left_out_at (t ∷ ts) = offence_if (is_left_out t.kind ts) LeftOutWord t.place ++ left_out_at ts

abbrev pub at_first_token : List Token → List Refusal
at_first_token [] = []
at_first_token (t ∷ more) = offence TooMany t.place

-- the first token past the limit
abbrev pub past_tokens_at : List Token → List Refusal
past_tokens_at ts = at_first_token (drop most_tokens ts)

abbrev pub token_refusals : List Token → List Refusal
token_refusals ts = left_out_at ts ++ past_tokens_at ts

-- offences at bytes of a text, each at the place of its byte
abbrev pub placed : List ℕ → List Offence → List Refusal
placed text os = map (λ (o : Offence). record { rule = o.0; place = place_at text o.1 }) os
