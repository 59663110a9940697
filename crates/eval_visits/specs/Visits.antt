-- The choices of members that a binder visits, the first name slowest, and the value of what is gathered at them.
use Rattle.std.specs.Prelude.{◌≡◌, ◌≤◌, ℕ, suc, Bool, true, false, List, [], ◌∷◌, ◌++◌, map, Ok, drop, length, ◌+◌, ◌-◌, ◌*◌}
use Rattle.tla_token.specs.declared.place.Place.{Place}
use Rattle.tla_tree.specs.declared.op.Binder.{Binder}
use Rattle.tla_tree.specs.Tree.{Word, Name}
use Rattle.tla_value.specs.Value.{Value, Values, truth, set, Outcome, ◌>>=◌, in_order}
use Rattle.tla_value.specs.Order.{listed, set_from, fun_from}
use Rattle.tla_value.specs.Stops.{members_at}
use Rattle.tla_value.specs.Limits.{bounded}
use Rattle.tla_value.specs.Meaning.{Row, Denotation, suited, key}
use Rattle.eval_scopes.specs.Choices.{Over, Spot, stepped, chosen_one}
use Rattle.eval_visits.specs.Gathered.{Gathered, all_of, some_of, kept, picked, tabled, added}

abbrev pub over_group : List Name → Values → Over
over_group [] s = []
over_group (x ∷ xs) s = (x.word, listed s) ∷ over_group xs s

abbrev pub over : List (List Name) → List Values → Over
over (xs ∷ groups) (s ∷ ss) = over_group xs s ++ over groups ss
over _ _ = []

-- the same of the values of the groups' sets, which must be sets
abbrev pub over_sets : Place → List (List Name) → List Value → Outcome Over
over_sets at groups vs = in_order (members_at at) vs >>= λ ss. Ok (over groups ss)

-- ---- rows

abbrev pub Body : Type 0
Body = Spot → Outcome (List Row)

-- at each member, in order
abbrev pub rows_over : Word → List Value → Body → Body
rows_over x [] go s = Ok []
rows_over x (v ∷ vs) go s = go (stepped x v s) >>= λ rows. rows_over x vs go s >>= λ more. Ok (rows ++ more)

-- at each choice of members, the first name slowest
abbrev pub rows_at : Over → Body → Body
rows_at [] go = go
rows_at (o ∷ more) go = rows_over o.0 o.1 (rows_at more go)

-- what the body gives at a spot
abbrev pub body_at : Binder → Place → Denotation → Body
body_at b at body s = (body s.0).value >>= λ v. suited b at v >>= λ w. Ok ((s.1, w) ∷ [])

-- ---- what is gathered of them

-- what is gathered, with that of all choices
abbrev pub visited : Gathered → Over → Body → Spot → Outcome Gathered
visited g names go s = rows_at names go s >>= λ rows. Ok (added g rows)

abbrev pub paired : List (List Value) → List Value → List (Value × Value)
paired [] vs = []
paired (k ∷ ks) [] = []
paired (k ∷ ks) (v ∷ vs) = (key k, v) ∷ paired ks vs

abbrev pub whole : Gathered → Value
whole (all_of b) = truth b
whole (some_of b) = truth b
whole (kept ks) = set (set_from (map key ks))
whole (picked vs) = set (set_from vs)
whole (tabled ks vs) = fun_from (paired ks vs)

-- the keys of rows, as values of a run
abbrev pub bounded_keys : Place → List (List Value) → Outcome (List Value)
bounded_keys at ks = in_order (λ k. bounded at (key k)) ks

-- ---- a walk over the choices without recursion: of the names that are open, which member comes next

abbrev pub at_left : Gathered → Word → List Value → Body → Spot → Outcome Gathered
at_left g x vs go s = rows_over x vs go s >>= λ rows. Ok (added g rows)

-- what `inner` gathers for the names that are not open, then the members that are left of the open ones, the last of them first
abbrev pub under : Body → Over → List ℕ → Spot → (Over → Spot → Outcome Gathered) → Outcome Gathered
under go names [] s inner = inner names s
under go [] (k ∷ left) s inner = inner [] s
under go (o ∷ more) (k ∷ left) s inner = under go more left (chosen_one o.0 o.1 k s) inner >>= λ h. at_left h o.0 (drop k o.1) (rows_at more go) s

abbrev pub here : Gathered → Over → Spot → Outcome Gathered
here g names s = Ok g

-- how many turns there are
abbrev pub turns : Over → ℕ
turns [] = 0
turns (o ∷ more) = suc (length o.1 * suc (turns more))

abbrev pub turns_left : Over → List ℕ → ℕ
turns_left names [] = 0
turns_left [] (k ∷ left) = 0
turns_left (o ∷ more) (k ∷ left) = suc ((length o.1 - k) * suc (turns more)) + turns_left more left

-- ---- the walk from one choice to the next; with `at_choice` all names are open, and the choice is still to be visited

abbrev pub asked : Gathered → Body → Over → Spot → Outcome Gathered
asked g go names s = visited g names go s

abbrev pub from_choice : Bool → Gathered → Body → Over → List ℕ → Spot → Outcome Gathered
from_choice true g go names left s = under go names left s (asked g go)
from_choice false g go names left s = Ok g

abbrev pub choice_turns : Bool → Over → List ℕ → ℕ
choice_turns true names left = suc (turns_left names left)
choice_turns false names left = turns_left names left

-- from `left` on the next choice is `next`, if there is one, and nothing that is ahead is left out
abbrev pub IsNextChoice : Bool → Over → List ℕ → List ℕ → Type 0
IsNextChoice at_choice names left next =
    (at_choice ≡ true → length next ≡ length names)
    × ((choice_turns at_choice names next ≤ turns_left names left)
    × ((g : Gathered) (go : Body) (s : Spot) → from_choice at_choice g go names next s ≡ under go names left s (here g)))

-- the same from the beginning on
abbrev pub IsFirstChoice : Bool → Over → List ℕ → Type 0
IsFirstChoice at_choice names next =
    (at_choice ≡ true → length next ≡ length names)
    × ((g : Gathered) (go : Body) (s : Spot) → from_choice at_choice g go names next s ≡ visited g names go s)
