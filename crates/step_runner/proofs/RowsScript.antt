-- Scripts, tried by computation.
use Rattle.std.proofs.Common.{◌≡◌, ℕ, true, false, List, [], ◌∷◌, Some, None, refl, ap, ◌∙◌, codes, arith, inl}
use Rattle.tla_token.specs.declared.place.Place.{Place}
use Rattle.tla_token.specs.declared.rule.Rule.TheVariants.{BadLine}
use Rattle.tla_value.specs.Value.{text}
use Rattle.tla_value.specs.ValueText.{quoted}
use Rattle.tla_value.specs.ValueSeen.{SpellsFrom}
use Rattle.pcal_tree.specs.Script.{Turn}
use Rattle.step_runner.specs.Fronts.{Text}
use Rattle.step_runner.specs.Script.{SpellsScript, ScriptOffends, SpellsTurn, start_choices, step_choices}
use Rattle.step_runner.proofs.Spelled.{value_here}
use Rattle.step_runner.proofs.Offended.{none_some, same_some}

abbrev at : ℕ → ℕ → Place
at l c = record { line = l; col = c }

-- ---- what is spelled

abbrev turn : List ℕ → Turn
turn ns = record { who = None; choices = ns }

two_steps : SpellsScript false (codes "init\nstep :\nstep : 2 1") (record { choices = []; turns = turn [] ∷ turn (2 ∷ 1 ∷ []) ∷ [] })
two_steps = (refl, ((4, 4, refl, (refl, refl), refl), ((4, 4, refl, (refl, refl), refl), tt)))

-- lines of blanks and comments alone are passed over
abbrev a_line : Text
a_line = codes "step \"a\":0 4294967295\n"

who : SpellsFrom a_line 5 8 (text (codes "a"))
who = value_here a_line 5 8 1 (text (codes "a")) (omega arith) refl refl refl (search) (search) (quoted (codes "a"), tt, tt, refl, refl)

of_a_process : SpellsScript true (codes "\ninit 2 1 \\* two\n \\* none\nstep \"a\":0 4294967295\n") (record { choices = 2 ∷ 1 ∷ []; turns = record { who = Some (text (codes "a")); choices = 0 ∷ 4294967295 ∷ [] } ∷ [] })
of_a_process = (refl, ((4, 8, refl, who, refl), tt))

-- ---- numbers that are no choices

past : start_choices (codes "init 4294967296") ≡ None
past = refl

below : start_choices (codes "init -1") ≡ None
below = refl

with_comma : step_choices (codes "step : 1, 2") 4 ≡ None
with_comma = refl

-- ---- offences

no_line : ScriptOffends false (codes "go") (record { rule = BadLine; place = at 1 1 })
no_line = (0, refl, refl)

-- without a line, at the end
empty : ScriptOffends false (codes " \\* none\n") (record { rule = BadLine; place = at 2 1 })
empty = (9, refl, refl)

step_first : ScriptOffends false (codes "\n  step :\n") (record { rule = BadLine; place = at 2 3 })
step_first = (3, refl, refl)

no_turn : (n : Turn) → SpellsTurn false (codes "init\n") n → ⊥
no_turn n s = none_some s.0 s.2

init_twice : ScriptOffends false (codes "init\ninit\n") (record { rule = BadLine; place = at 2 1 })
init_twice = (5, inl (refl, no_turn), refl)

-- in a uniprocess algorithm no value is before the colon
abbrev with_value : Text
with_value = codes "step 1 :\n"

no_who : (n : Turn) → SpellsTurn false with_value n → ⊥
no_who n s =
    let four : 4 ≡ s.0 = same_some 4 s.0 s.2 in
    none_some n.choices (ap (step_choices with_value) (four ∙ s.3.0) ∙ s.4)

value_alone : ScriptOffends false (codes "init\nstep 1 :\n") (record { rule = BadLine; place = at 2 1 })
value_alone = (5, inl (refl, no_who), refl)
