-- Offences against the rules, and the one by which an algorithm is refused.
use Rattle.std.specs.Prelude.{List, [], ◌∷◌, Bool, ◌&&◌, ◌||◌, nat_eq, nat_lt, cond, Option, Some, None}
use Rattle.tla_token.specs.declared.place.Place.{Place}
use Rattle.tla_token.specs.declared.rule.Rule.{Rule}
use Rattle.tla_token.specs.declared.rule.Refusal.{Refusal}
use Rattle.tla_token.specs.Rules.{rule_number}

abbrev pub offence : Rule → Place → List Refusal
offence r at = record { rule = r; place = at } ∷ []

abbrev pub offence_if : Bool → Rule → Place → List Refusal
offence_if b r at = cond b (offence r at) []

abbrev pub is_before : Place → Place → Bool
is_before p q = nat_lt p.line q.line || (nat_eq p.line q.line && nat_lt p.col q.col)

-- of two offences, that of the lesser rule; of one rule, that which comes first in the text
abbrev pub is_sooner : Refusal → Refusal → Bool
is_sooner r q =
    nat_lt (rule_number r.rule) (rule_number q.rule)
    || (nat_eq (rule_number r.rule) (rule_number q.rule) && is_before r.place q.place)

abbrev pub sooner : Refusal → Option Refusal → Refusal
sooner r None = r
sooner r (Some q) = cond (is_sooner q r) q r

-- the one by which an algorithm is refused
abbrev pub first : List Refusal → Option Refusal
first [] = None
first (r ∷ rs) = Some (sooner r (first rs))
