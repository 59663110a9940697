-- What the laws of rewritten files speak of: the few rules by which such a file can be refused.
use Rattle.std.specs.Prelude.{Bool, true, false}
use Rattle.tla_token.specs.declared.rule.Rule.{Rule}
use Rattle.tla_token.specs.declared.rule.Rule.TheVariants.{Options, TooMany, TooDeep}

-- too many tokens, variables and the like, or too many forms open in one another
abbrev pub is_too_much : Rule → Bool
is_too_much TooMany = true
is_too_much TooDeep = true
is_too_much r = false

-- that, or options
abbrev pub is_options_or_too_much : Rule → Bool
is_options_or_too_much Options = true
is_options_or_too_much r = is_too_much r
