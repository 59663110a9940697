-- Meanings in a scope with definitions and states, by computation.
use Rattle.std.proofs.Common.{◌≡◌, ℕ, pos, List, [], ◌∷◌, Bool, true, false, cond, bytes_eq, Some, None, inl, inr, refl, Ok, Err}
use Rattle.std.specs.Prelude.{codes, ◌||◌}
use Rattle.tla_token.specs.declared.place.Place.{Place}
use Rattle.tla_tree.specs.declared.op.Op.TheVariants.{Equal, Greater, Plus, Divide}
use Rattle.tla_tree.specs.declared.op.Binder.TheVariants.{Exists}
use Rattle.tla_tree.specs.Tree.{Word, Name, operator, set_of, Form, number, name, if_then_else, binding, Every, next, strict, operator_call, local, Tree, node, Trees, no_trees, tree, graft}
use Rattle.tla_value.specs.declared.fault.FaultKind.TheVariants.{BadDivisor, NotFunction}
use Rattle.tla_value.specs.Value.{Value, truth, int, Outcome, fault}
use Rattle.tla_value.specs.Order.{seq_from}
use Rattle.tla_value.specs.Stops.{plain}
use Rattle.tla_value.specs.Meaning.{eval}
use Rattle.tla_value.specs.Grafts.{Arguments, arguments, primes, owned}
use Rattle.tla_value.specs.laws.Grafting.{NotFreeIn, NoArgument, Settled}
use Rattle.tla_value.specs.laws.FreeNames.{NotFree}
use Rattle.tla_value.specs.Definitions.{Valuation, Definition, no_state, scope_of}

abbrev here : ℕ → Place
here n = record { line = 1; col = n }

abbrev named : Word → Name
named w = record { word = w; place = here 1 }

abbrev list : List Tree → Trees
list [] = no_trees
list (t ∷ ts) = tree t (list ts)

abbrev of : Form → ℕ → List Tree → Tree
of m n ts = node m (here n) (list ts)

abbrev num : ℕ → ℕ → Tree
num n at = of (number n) at []

abbrev at_name : Word → ℕ → Tree
at_name x n = of (name x) n []

abbrev x : Word
x = codes "x"

abbrev y : Word
y = codes "y"

-- broken == 1 \div 0, at columns 11 and 18
abbrev broken : Tree
broken = of (strict (operator Divide)) 11 (num 1 11 ∷ num 0 18 ∷ [])

-- Twice(x) == x + x and Four == Twice(y)
abbrev doubled : Tree
doubled = of (strict (operator Plus)) 31 (at_name x 31 ∷ at_name x 35 ∷ [])

abbrev twice : Definition
twice = record { title = codes "Twice"; params = x ∷ []; body = doubled; outside = false }

abbrev four : Definition
four = record { title = codes "Four"; params = []; body = of (operator_call (codes "Twice")) 41 (at_name y 47 ∷ []); outside = false }

abbrev outer : Definition
outer = record { title = codes "Outer"; params = []; body = broken; outside = true }

abbrev inner : Definition
inner = record { title = codes "Inner"; params = []; body = broken; outside = false }

-- y = 2, and x = <<7, 8>>
abbrev state : Valuation
state w = cond (bytes_eq w y) (Some (int (pos 2))) (cond (bytes_eq w x) (Some (seq_from (int (pos 7) ∷ int (pos 8) ∷ []))) None)

-- y = 5
abbrev later : Valuation
later w = cond (bytes_eq w y) (Some (int (pos 5))) None

abbrev gives : Tree → Outcome Value
gives t = (eval plain t (scope_of plain no_state (outer ∷ inner ∷ twice ∷ four ∷ []) state later)).value

-- an outside definition faults at its use, one of the algorithm in its body
outside_fault : gives (at_name (codes "Outer") 60) ≡ Err (fault BadDivisor (here 60))
outside_fault = refl

inside_fault : gives (at_name (codes "Inner") 60) ≡ Err (fault BadDivisor (here 11))
inside_fault = refl

-- Four, where the names bound around its use don't reach its body: LET y == 9 IN Four
sees_earlier : gives (at_name (codes "Four") 60) ≡ Ok (int (pos 4))
sees_earlier = refl

own_scope : gives (of (local (named y ∷ [])) 60 (num 9 69 ∷ at_name (codes "Four") 74 ∷ [])) ≡ Ok (int (pos 4))
own_scope = refl

-- y + y' over a pair of states
both_states : gives (of (strict (operator Plus)) 1 (at_name y 1 ∷ of (next y) 5 [] ∷ [])) ≡ Ok (int (pos 7))
both_states = refl

-- y + y with y primed
primed_sum : gives (graft (primes (bytes_eq y)) (of (strict (operator Plus)) 1 (at_name y 1 ∷ at_name y 5 ∷ []))) ≡ Ok (int (pos 10))
primed_sum = refl

-- x as a variable of each process, y being the process: x[y] is 8
own_variable : gives (graft (owned y (bytes_eq x)) (at_name x 1)) ≡ Ok (int (pos 8))
own_variable = refl

-- a name that nothing gives a meaning
unknown_name : gives (at_name (codes "z") 3) ≡ Err (fault NotFunction (here 3))
unknown_name = refl

-- ---- names that are not free

-- Max(x, y) == IF x > y THEN x ELSE y, outside, beside the variables x and y: it reads its parameters alone
abbrev larger : Definition
larger = record {
  title = codes "Max";
  params = x ∷ y ∷ [];
  body = of if_then_else 1 (of (strict (operator Greater)) 4 (at_name x 4 ∷ at_name y 8 ∷ []) ∷ at_name x 15 ∷ at_name y 22 ∷ []);
  outside = true;
}

abbrev either : Word → Bool
either w = bytes_eq x w || bytes_eq y w

larger_settled : (U : Word → Type 0) → Settled either U larger
larger_settled U = record {
  title = refl;
  body = (tt, ((tt, ((inr (inl refl), tt), ((inl refl, tt), tt))), ((inr (inl refl), tt), ((inl refl, tt), tt))));
}

-- \E x \in {1} : x = 1 as an argument for a macro whose body has an \E x of its own
abbrev some_one : Tree
some_one = of (binding Exists ((named x ∷ []) ∷ [])) 1 (of (strict set_of) 10 (num 1 11 ∷ []) ∷ of (strict (operator Equal)) 16 (at_name x 16 ∷ num 1 20 ∷ []) ∷ [])

bound_is_not_free : NotFree x some_one
bound_is_not_free = (tt, ((tt, ((tt, tt), tt)), ((tt, ((inl refl, tt), ((tt, tt), tt))), tt)))

abbrev for_p : Arguments
for_p w = cond (bytes_eq (codes "p") w) (Some some_one) None

-- \E x \in {2} : p
abbrev body_of_macro : Tree
body_of_macro = of (binding Exists ((named x ∷ []) ∷ [])) 1 (of (strict set_of) 10 (num 2 11 ∷ []) ∷ at_name (codes "p") 16 ∷ [])

clear_argument : (b : Bool) → NotFreeIn x (cond b (Some some_one) None)
clear_argument true = bound_is_not_free
clear_argument false = tt

no_clash : Every (NoArgument for_p) body_of_macro
no_clash = (((refl, λ w. clear_argument (bytes_eq (codes "p") w)), tt), ((tt, ((tt, tt), tt)), ((tt, tt), tt)))

put_in : gives (graft (arguments for_p) body_of_macro) ≡ Ok (truth true)
put_in = refl
