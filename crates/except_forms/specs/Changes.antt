-- A slot of an EXCEPT: its arguments are taken from the values that are left, and the new value is reached.
use Rattle.std.specs.Prelude.{List, [], ◌∷◌, Ok}
use Rattle.tla_token.specs.declared.place.Place.{Place}
use Rattle.tla_tree.specs.Tree.{PathStep, index, field, Slot}
use Rattle.tla_value.specs.Value.{Value, text, Outcome, ◌>>=◌}
use Rattle.tla_value.specs.Limits.{bounded}
use Rattle.tla_value.specs.Stops.{misshapen}
use Rattle.tla_value.specs.Strict.{changed_at, next_slot}

-- a value with v at the end of a path, reached at a place
abbrev pub reached_change : Place → List Value → Value → Value → Outcome Value
reached_change at path v old = changed_at at path v old >>= bounded at

-- the argument at a step, and the values that are left
abbrev pub next_key : Place → PathStep → List Value → Outcome (Value × List Value)
next_key at index [] = misshapen at
next_key at index (k ∷ vs) = Ok (k, vs)
next_key at (field x) vs = Ok (text x, vs)

-- a value after a slot, and the values that are left
abbrev pub changed_slot : Slot → List Value → Value → Outcome (Value × List Value)
changed_slot n vs old = do
  (path, v, rest) ← next_slot n.place n.path vs
  new ← reached_change n.place path v old
  Ok (new, rest)
