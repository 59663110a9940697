-- Where an algorithm isn't too large its expansion is within the limits.
use Rattle.std.proofs.Common.{◌≡◌, ℕ, suc, ◌≤◌, Bool, true, false, ◌||◌, cond, min, nat_lt, List, [], refl, sym, ap, ◌∙◌, arith}
use Rattle.std.proofs.lemmas.Bool.{ltb-false}
use Rattle.tla_token.specs.declared.place.Place.{Place}
use Rattle.tla_token.specs.declared.rule.Rule.{Rule}
use Rattle.tla_token.specs.Limits.{most_nodes, most_labels, deepest_expression, deepest_statement}
use Rattle.pcal_tree.specs.Algorithm.{Algorithm}
use Rattle.pcal_tree.specs.Offences.{offence_if}
use Rattle.macro_expand.specs.Size.{Size, expanded_size}
use Rattle.macro_expand.specs.TooLarge.{is_too_deep, is_too_large, too_large, counted, size_of_expansion}

no_offence : (b : Bool) (r : Rule) (at : Place) → offence_if b r at ≡ [] → b ≡ false
no_offence true r at h = absurd cc
no_offence false r at h = refl

neither : (a b : Bool) → (a || b) ≡ false → (a ≡ false) × (b ≡ false)
neither true b h = absurd cc
neither false b h = (refl, h)

abbrev Within : Size → Type 0
Within s = (s.nodes ≤ most_nodes) × (s.expressions ≤ deepest_expression) × (s.statements ≤ deepest_statement) × (s.labels ≤ most_labels) × (is_too_deep s ≡ false)

within : (s : Size) → is_too_large s ≡ false → Within s
within s h =
    let n = neither (nat_lt most_nodes s.nodes) (is_too_deep s || nat_lt most_labels s.labels) h in
    let d = neither (is_too_deep s) (nat_lt most_labels s.labels) n.1 in
    let e = neither (nat_lt deepest_expression s.expressions) (nat_lt deepest_statement s.statements) d.0 in
    (ltb-false most_nodes s.nodes n.0, ltb-false deepest_expression s.expressions e.0, ltb-false deepest_statement s.statements e.1, ltb-false most_labels s.labels d.1, d.0)

pub limits : (a : Algorithm) → too_large a ≡ [] → Within (expanded_size a)
limits a h = within (expanded_size a) (no_offence (is_too_large (expanded_size a)) _ _ h)

below : (n : ℕ) → n ≤ most_nodes → min n (suc most_nodes) ≡ n
below n h = omega arith

pub all_counted : (a : Algorithm) → too_large a ≡ [] → size_of_expansion a ≡ (expanded_size a).nodes
all_counted a h =
    let w = limits a h in
    ap (λ (b : Bool). cond b (suc most_nodes) (min (expanded_size a).nodes (suc most_nodes))) w.4 ∙ below (expanded_size a).nodes w.0
