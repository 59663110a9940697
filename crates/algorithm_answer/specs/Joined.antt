-- Of two offences that may be the one by which an algorithm is refused, that which is.
use Rattle.std.specs.Prelude.{Option, Some, None}
use Rattle.tla_token.specs.declared.rule.Refusal.{Refusal}
use Rattle.pcal_tree.specs.Offences.{sooner}

-- the first one of two lists of offences, by the first one of each
abbrev pub joined : Option Refusal → Option Refusal → Option Refusal
joined None q = q
joined (Some r) q = Some (sooner r q)
