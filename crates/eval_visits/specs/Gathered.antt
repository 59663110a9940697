-- What a binder gathers at each choice of members of its names.
use Rattle.std.specs.Prelude.{Bool, true, false, ◌&&◌, ◌||◌, List, [], ◌∷◌, ◌++◌, map, Ok, cond}
use Rattle.tla_token.specs.declared.place.Place.{Place}
use Rattle.tla_tree.specs.declared.op.Binder.{Binder}
use Rattle.tla_tree.specs.declared.op.Binder.TheVariants.{ForAll, Exists, Filter, Image, Function}
use Rattle.tla_value.specs.Value.{Value, Outcome, ◌>>=◌}
use Rattle.tla_value.specs.Meaning.{Row, suited, is_true, all_true, some_true, results}

pub data Gathered : Type 0 where
  all_of : Bool → Gathered
  some_of : Bool → Gathered
  kept : List (List Value) → Gathered
  picked : List Value → Gathered
  tabled : List (List Value) → List Value → Gathered

abbrev pub start : Binder → Gathered
start ForAll = all_of true
start Exists = some_of false
start Filter = kept []
start Image = picked []
start Function = tabled [] []

-- to which members the names are bound where the body is true
abbrev pub rows_true : List Row → List (List Value)
rows_true [] = []
rows_true (r ∷ rs) = cond (is_true r.1) (r.0 ∷ rows_true rs) (rows_true rs)

abbrev pub bound_members : List Row → List (List Value)
bound_members rs = map (λ r. r.0) rs

-- further rows
abbrev pub added : Gathered → List Row → Gathered
added (all_of b) rs = all_of (b && all_true rs)
added (some_of b) rs = some_of (b || some_true rs)
added (kept ks) rs = kept (ks ++ rows_true rs)
added (picked vs) rs = picked (vs ++ results rs)
added (tabled ks vs) rs = tabled (ks ++ bound_members rs) (vs ++ results rs)

-- one row more, where a body gives v
abbrev pub row_added : Binder → Place → Gathered → List Value → Value → Outcome Gathered
row_added b at g ms v = suited b at v >>= λ w. Ok (added g ((ms, w) ∷ []))

-- the same of what the body answers there, which may be no value
abbrev pub row_answered : Binder → Place → Gathered → List Value → Outcome Value → Outcome Gathered
row_answered b at g ms o = o >>= λ v. row_added b at g ms v
