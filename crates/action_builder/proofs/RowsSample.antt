-- The action of the sample step on a pair of states, by computation.
use Rattle.std.proofs.Common.{◌≡◌, pos, List, [], ◌∷◌, true, false, codes, refl, inl, inr, Ok}
use Rattle.tla_token.specs.Signs.{is_among}
use Rattle.std.specs.Prelude.{ℕ}
use Rattle.tla_tree.specs.Tree.{Word}
use Rattle.tla_value.specs.Value.{Value, int, text, fun, no_values, and}
use Rattle.tla_value.specs.Order.{seq_from, record_from}
use Rattle.pcal_tree.specs.Scope.{State, put}
use Rattle.pcal_tree.specs.Variables.{pc}
use Rattle.action_builder.specs.laws.Ready.{Readable, FineTree, holds_on}
use Rattle.action_builder.specs.laws.LabelSteps.{action_of}
use Rattle.action_builder.specs.laws.Sample.{me, larger, variables, env, step}

abbrev of_me : Value → Value
of_me v = fun (and me no_values) (and v no_values)

abbrev num : ℕ → Value
num k = int (pos k)

-- x, y, a and b, with pc and the stack of the process
abbrev state : ℕ → ℕ → ℕ → ℕ → Word → List Value → State
state x y a b l st =
    put (codes "x") (num x) (put (codes "y") (of_me (num y)) (put (codes "a") (of_me (num a)) (put (codes "b") (of_me (num b)) (put pc (of_me (text l)) (λ w. of_me (seq_from st))))))

abbrev frame : Value
frame = record_from (codes "procedure" ∷ pc ∷ codes "a" ∷ codes "b" ∷ []) (text (codes "P") ∷ text (codes "B") ∷ num 0 ∷ num 7 ∷ [])

-- x becomes 1, which is larger than y, so y is 1 then; P is called with it
call_row : holds_on variables env (action_of variables step) (state 0 0 0 7 (codes "A") []) (state 1 1 1 1 (codes "C") (frame ∷ [])) ≡ Ok true
call_row = refl

-- x becomes 2, so the step goes to A
goto_row : holds_on variables env (action_of variables step) (state 1 0 0 7 (codes "A") []) (state 2 2 0 7 (codes "A") []) ≡ Ok true
goto_row = refl

-- not where no i of {2, 3} is larger than x: there the `await` waits
await_row : holds_on variables env (action_of variables step) (state 2 0 0 7 (codes "A") []) (state 3 3 0 7 (codes "A") []) ≡ Ok false
await_row = refl

-- not with another argument
other_row : holds_on variables env (action_of variables step) (state 0 0 0 7 (codes "A") []) (state 1 1 0 1 (codes "C") (frame ∷ [])) ≡ Ok false
other_row = refl

-- ---- names that are not free

-- the variables, and none else, may be read
abbrev of_variables : Readable
of_variables A w = is_among variables w

not_readable : of_variables (is_among (codes "x" ∷ [])) (codes "i") ≡ false
not_readable = refl

-- the expression of the `await` may bind i even so, where x is assigned already
binds_its_own : FineTree of_variables (is_among (codes "x" ∷ [])) larger
binds_its_own = (
  ((refl, tt), ((tt, ((tt, tt), ((tt, tt), tt))), ((tt, ((tt, tt), ((tt, tt), tt))), tt))),
  (tt, ((tt, ((tt, tt), ((tt, tt), tt))), ((tt, ((tt, tt), ((tt, tt), tt))), tt))),
  (tt, ((tt, ((tt, tt), ((tt, tt), tt))), ((tt, ((inl refl, tt), ((inr refl, tt), tt))), tt))),
)
