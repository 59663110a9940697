-- Traces, tried by computation.
use Rattle.std.proofs.Common.{◌≡◌, ℕ, pos, true, List, [], ◌∷◌, None, refl, codes, arith, inl, inr}
use Rattle.tla_token.specs.declared.place.Place.{Place}
use Rattle.tla_token.specs.declared.rule.Rule.TheVariants.{BadLine}
use Rattle.tla_tree.specs.Tree.{Word}
use Rattle.tla_value.specs.Value.{Value, int, text}
use Rattle.tla_value.specs.ValueText.{digits, quoted}
use Rattle.tla_value.specs.ValueSeen.{SpellsFrom}
use Rattle.step_runner.specs.Fronts.{Text}
use Rattle.step_runner.specs.Stretches.{states_of}
use Rattle.step_runner.specs.Items.{SpellsValues, OffendsAt, item_begins}
use Rattle.step_runner.specs.Trace.{SpellsTrace, TraceOffends}
use Rattle.step_runner.proofs.Spelled.{value_here}

abbrev at : ℕ → ℕ → Place
at l c = record { line = l; col = c }

abbrev vars : List Word
vars = codes "x" ∷ codes "pc" ∷ []

abbrev an_int : ℕ → Value
an_int k = int (pos k)

-- ---- what begins a state

-- a line, whatever is in its rest, also in an item
abbrev cut_off : Text
cut_off = codes "/\\ x =\nState (* \"1\n/\\ x = 2"

cut_item : states_of cut_off ≡ record { front = record { from = 0; text = codes "/\\ x =\n" }; each = record { from = 19; text = codes "/\\ x = 2" } ∷ [] }
cut_item = refl

-- not behind a blank, nor without one
begins_none : (states_of (codes " State 0\nState\nstate 1\n")).each ≡ []
begins_none = refl

-- ---- what is spelled

abbrev first : Text
first = codes "/\\ x = 0\n/\\ pc = \"A\"\n"

abbrev second : Text
second = codes "/\\ pc = \"Done\" /\\ x = 1"

zero : SpellsFrom first 7 8 (an_int 0)
zero = value_here first 7 8 1 (an_int 0) (omega arith) refl refl refl (search) (search) (digits 0, tt, refl, refl, refl)

label : SpellsFrom first 17 20 (text (codes "A"))
label = value_here first 17 20 1 (text (codes "A")) (omega arith) refl refl refl (search) (search) (quoted (codes "A"), tt, tt, refl, refl)

done : SpellsFrom second 8 14 (text (codes "Done"))
done = value_here second 8 14 1 (text (codes "Done")) (omega arith) refl refl refl (search) (search) (quoted (codes "Done"), tt, tt, refl, refl)

one : SpellsFrom second 22 23 (an_int 1)
one = value_here second 22 23 1 (an_int 1) (omega arith) refl refl refl (search) (search) (digits 1, tt, refl, refl, refl)

at_first : SpellsValues true vars first ((codes "x", an_int 0) ∷ (codes "pc", text (codes "A")) ∷ [])
at_first = (20, (8, (7, refl, zero), (20, (17, refl, label), refl)), refl, refl, refl)

at_second : SpellsValues true vars second ((codes "pc", text (codes "Done")) ∷ (codes "x", an_int 1) ∷ [])
at_second = (23, (14, (8, refl, done), (23, (22, refl, one), refl)), refl, refl, refl)

abbrev trace : Text
trace = codes "\\* two\nState 0\n/\\ x = 0\n/\\ pc = \"A\"\nState 1: A at 7:3\n/\\ pc = \"Done\" /\\ x = 1"

two_states : SpellsTrace vars trace (((codes "x", an_int 0) ∷ (codes "pc", text (codes "A")) ∷ []) ∷ ((codes "pc", text (codes "Done")) ∷ (codes "x", an_int 1) ∷ []) ∷ [])
two_states = (refl, tt, (at_first, (at_second, tt)))

-- ---- offences

-- without a state, at the end
no_state : TraceOffends vars (codes "\\* none\n") (record { rule = BadLine; place = at 2 1 })
no_state = (8, inr (refl, refl), refl)

-- before the first state
before_all : TraceOffends vars (codes "\n/\\ x = 1\nState 0\n") (record { rule = BadLine; place = at 2 1 })
before_all = (1, inl (refl, omega arith), refl)

abbrev half : Text
half = codes "/\\ x = 0\n"

half_zero : SpellsFrom half 7 8 (an_int 0)
half_zero = value_here half 7 8 1 (an_int 0) (omega arith) refl refl refl (search) (search) (digits 0, tt, refl, refl, refl)

half_offends : OffendsAt true vars half 9
half_offends = ((codes "x", an_int 0) ∷ [], 8, (8, (7, refl, half_zero), refl), refl, refl, inr (refl, refl))

-- a missing name, where the next state begins
missing : TraceOffends vars (codes "State 0\n/\\ x = 0\nState 1\n") (record { rule = BadLine; place = at 3 1 })
missing = (17, inr (refl, inl (9, half_offends, refl)), refl)

-- the sign alone is a bullet
no_bullet : item_begins true (codes "\\land x = 1") 0 ≡ None
no_bullet = refl

needs_bullet : item_begins true (codes "x = 1") 0 ≡ None
needs_bullet = refl
