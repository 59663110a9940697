-- What is needed of a value: of its kind, or of the number of parts; and what becomes of a value that is reached.
use Rattle.std.specs.Prelude.{ℤ, Bool, List, [], ◌∷◌, Ok, Err}
use Rattle.std.specs.Option.{ok_or}
use Rattle.tla_token.specs.declared.place.Place.{Place}
use Rattle.tla_value.specs.declared.fault.FaultKind.TheVariants.{NotBoolean, NotInteger, NotSet, NotFunction, NotSequence}
use Rattle.tla_value.specs.Value.{◌>>=◌, Value, Values, truth, int, set, fun, Outcome, fault, Sense}
use Rattle.tla_value.specs.Order.{holds, sequence_of}

-- what becomes of a value that is reached at a place: itself, or past the limits
abbrev pub Check : Type 0
Check = Place → Value → Outcome Value

-- no limits
abbrev pub plain : Check
plain at v = Ok v

-- ---- a value of a kind

abbrev pub truth_at : Place → Value → Outcome Bool
truth_at at (truth b) = Ok b
truth_at at _ = Err (fault NotBoolean at)

abbrev pub int_at : Place → Value → Outcome ℤ
int_at at (int n) = Ok n
int_at at _ = Err (fault NotInteger at)

-- the members of a set
abbrev pub members_at : Place → Value → Outcome Values
members_at at (set vs) = Ok vs
members_at at _ = Err (fault NotSet at)

-- the domain of a function, and its values
abbrev pub function_at : Place → Value → Outcome (Values × Values)
function_at at (fun ds rs) = Ok (ds, rs)
function_at at _ = Err (fault NotFunction at)

-- the elements of a sequence
abbrev pub sequence_at : Place → Value → Outcome (List Value)
sequence_at at v = ok_or (sequence_of v) (fault NotSequence at)

-- ---- a number of parts

-- no tree of a program has other parts
abbrev pub misshapen : {X : Type 0} → Place → Outcome X
misshapen at = Err (fault NotFunction at)

abbrev pub one_of : {X : Type 0} → Place → List X → Outcome X
one_of at (a ∷ []) = Ok a
one_of at _ = misshapen at

abbrev pub two_of : {X : Type 0} → Place → List X → Outcome (X × X)
two_of at (a ∷ b ∷ []) = Ok (a, b)
two_of at _ = misshapen at

abbrev pub three_of : {X : Type 0} → Place → List X → Outcome (X × X × X)
three_of at (a ∷ b ∷ d ∷ []) = Ok (a, b, d)
three_of at _ = misshapen at

-- ---- membership

-- whether v is a member, at the place of the `\in`
abbrev pub tested : Place → Value → Outcome Value → Outcome Bool
tested p v o = do
  s ← o
  ws ← members_at p s
  Ok (holds v ws)

-- a set is tested by its members
abbrev pub sense_of : Outcome Value → Sense
sense_of o = record { value = o; test = λ p v. tested p v o }
