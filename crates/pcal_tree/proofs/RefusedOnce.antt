-- The tokens of an algorithm are refused once.
use Rattle.std.proofs.Common.{◌≡◌, ℕ, List, map, get_or, sym, ap, ◌∙◌}
use Rattle.tla_token.specs.declared.place.Place.{Place}
use Rattle.tla_token.specs.declared.rule.Refusal.{Refusal}
use Rattle.tla_token.specs.Tokens as text
use Rattle.tla_tree.specs.FirstStop.{to_end}
use Rattle.tla_tree.proofs.StopLaws.{stops_once, stops_by_one_rule, passes_or_stops}
use Rattle.pcal_tree.specs.AlgorithmTokens.{views}
use Rattle.pcal_tree.specs.Grammar.{Syntax}
use Rattle.pcal_tree.specs.OffencesSyntax.{algorithms, PassesTokens, RefusesTokens}

pub refused_once : (s : Syntax) (ts : List text.Token) (end : Place) (r q : Refusal) → RefusesTokens s ts end r → RefusesTokens s ts end q → r ≡ q
refused_once s ts end r q a b =
    let n = stops_once (algorithms s) (to_end (views ts)) a.passed b.passed r.rule q.rule a.stops b.stops in
    let k = stops_by_one_rule (algorithms s) (to_end (views ts)) a.passed b.passed r.rule q.rule a.stops b.stops in
    let p = a.place ∙ ap (λ (i : ℕ). get_or (map (λ (t : text.Token). t.place) ts) i end) n ∙ sym b.place in
    λ z. record { rule = k z; place = p z }

pub passes_or_refused : (s : Syntax) (ts : List text.Token) (end : Place) (r : Refusal) → PassesTokens s ts → RefusesTokens s ts end r → ⊥
passes_or_refused s ts end r p a = passes_or_stops (algorithms s) (to_end (views ts)) a.passed r.rule p a.stops
