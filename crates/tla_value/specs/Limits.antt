-- How large a value may get in a run: its integers, the members of its sets and functions, how deep it is nested.
use Rattle.std.specs.Prelude.{ℕ, ℤ, pos, negsuc, Bool, true, if◌then◌else◌, ◌&&◌, nat_lt, nat_le, suc, max, Ok, Err}
use Rattle.tla_token.specs.declared.place.Place.{Place}
use Rattle.tla_token.specs.Limits.{past_numbers, most_members, deepest_value}
use Rattle.tla_value.specs.Value.{Value, Values, truth, int, text, model, set, fun, no_values, and, Outcome, over}
use Rattle.tla_value.specs.Order.{count}

-- an atom is 0 deep, an empty set or function 1, any other one deeper than its deepest part
abbrev mutual
  pub depth : Value → ℕ
  depth (truth b) = 0
  depth (int z) = 0
  depth (text w) = 0
  depth (model w) = 0
  depth (set vs) = suc (depths vs)
  depth (fun ds vs) = suc (max (depths ds) (depths vs))

  pub depths : Values → ℕ
  depths no_values = 0
  depths (and v vs) = max (depth v) (depths vs)

-- from -2^127 to 2^127 - 1
abbrev pub fits_int : ℤ → Bool
fits_int (pos n) = nat_lt n past_numbers
fits_int (negsuc n) = nat_lt n past_numbers

abbrev pub fits_count : Values → Bool
fits_count vs = nat_le (count vs) most_members

-- integers and counts of members, in all parts
abbrev mutual
  pub fits_parts : Value → Bool
  fits_parts (truth b) = true
  fits_parts (int z) = fits_int z
  fits_parts (text w) = true
  fits_parts (model w) = true
  fits_parts (set vs) = fits_count vs && all_fit vs
  fits_parts (fun ds vs) = fits_count ds && (all_fit ds && all_fit vs)

  pub all_fit : Values → Bool
  all_fit no_values = true
  all_fit (and v vs) = fits_parts v && all_fit vs

abbrev pub fits : Value → Bool
fits v = fits_parts v && nat_le (depth v) deepest_value

-- a value that is made at a place in a run
abbrev pub bounded : Place → Value → Outcome Value
bounded at v = if fits v then Ok v else Err (over at)
