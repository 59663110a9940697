-- Two sets taken together, a member at a time.
use Rattle.std.specs.Prelude.{ℕ, Bool, true, false, [], ◌∷◌}
use Rattle.std.specs.declared.cmp.Ordering.{Ordering}
use Rattle.std.specs.declared.cmp.Ordering.TheVariants.{Less, Equal, Greater}
use Rattle.tla_token.specs.declared.place.Place.{Place}
use Rattle.tla_value.specs.Value.{Value, Values, set, Outcome, ◌>>=◌}
use Rattle.tla_value.specs.Limits.{bounded}
use Rattle.tla_value.specs.Sets.{cup, cap, without}
use Rattle.tla_value.specs.Strict.{of_sets}
use Rattle.value_forms.specs.declared.sets.Merge.{Merge}
use Rattle.value_forms.specs.declared.sets.Merge.TheVariants.{Either, Both, First}

abbrev pub merged : Merge → Values → Values → Values
merged Either a b = cup a b
merged Both a b = cap a b
merged First a b = without a b

-- whether the first of two members is taken that stand so
abbrev pub takes : Merge → Ordering → Bool
takes Either r = true
takes Both Less = false
takes Both Equal = true
takes Both Greater = false
takes First Less = true
takes First Equal = false
takes First Greater = false

abbrev pub foremost : Ordering → Value → Value → Value
foremost Less v w = v
foremost Equal v w = v
foremost Greater v w = w

-- how many members are done with, on each side
abbrev pub left_step : Ordering → ℕ
left_step Less = 1
left_step Equal = 1
left_step Greater = 0

abbrev pub right_step : Ordering → ℕ
right_step Less = 0
right_step Equal = 1
right_step Greater = 1

abbrev pub merge_value : Merge → Place → Value → Value → Outcome Value
merge_value m at a b = of_sets at (a ∷ b ∷ []) (λ ss ts. set (merged m ss ts)) >>= bounded at
