-- Meanings of small expressions, by computation.
use Rattle.std.proofs.Common.{◌≡◌, ℕ, pos, negsuc, ◌-◌, ◌^◌, List, [], ◌∷◌, true, false, refl, Ok, Err}
use Rattle.std.specs.Prelude.{codes}
use Rattle.tla_token.specs.declared.place.Place.{Place}
use Rattle.tla_tree.specs.declared.op.Op.{Op}
use Rattle.tla_tree.specs.declared.op.Op.TheVariants.{Equal, Plus, Minus, Divide, Modulo, Negate, Range, Subset, Override, MapsTo}
use Rattle.tla_tree.specs.declared.op.Binder.TheVariants.{Exists, Function}
use Rattle.tla_tree.specs.Tree.{Word, Name, index, operator, set_of, tuple, fields, functions, apply, select, except, Form, number, string, truth as literal, name, strict, operator_call, conjunction, member, cases, binding, local, Tree, node, Trees, no_trees, tree}
use Rattle.tla_value.specs.declared.fault.FaultKind.TheVariants.{NotInteger, NotFunction, NotSet, NotInDomain, BadDivisor, NoCase, EmptySequence}
use Rattle.tla_value.specs.Value.{Value, truth, int, Outcome, fault, over}
use Rattle.tla_value.specs.Order.{seq_from}
use Rattle.tla_value.specs.Limits.{bounded}
use Rattle.tla_value.specs.Stops.{plain}
use Rattle.tla_value.specs.Meaning.{eval}
use Rattle.tla_value.specs.Definitions.{no_state, base}

abbrev here : ℕ → Place
here n = record { line = 1; col = n }

abbrev named : Word → Name
named w = record { word = w; place = here 1 }

abbrev list : List Tree → Trees
list [] = no_trees
list (t ∷ ts) = tree t (list ts)

abbrev of : Form → ℕ → List Tree → Tree
of m n ts = node m (here n) (list ts)

abbrev num : ℕ → ℕ → Tree
num n at = of (number n) at []

-- a OP b, at column n
abbrev signed : Op → ℕ → Tree → Tree → Tree
signed o n a b = of (strict (operator o)) n (a ∷ b ∷ [])

abbrev gives : Tree → Outcome Value
gives t = (eval plain t (base plain no_state)).value

-- under the limits of a run
abbrev gives_bounded : Tree → Outcome Value
gives_bounded t = (eval bounded t (base bounded no_state)).value

abbrev x : Word
x = codes "x"

abbrev y : Word
y = codes "y"

-- 1 \div 0
abbrev broken : Tree
broken = signed Divide 5 (num 1 5) (num 0 12)

division : gives broken ≡ Err (fault BadDivisor (here 5))
division = refl

-- (-7) \div 2 and (-7) % 2
rounded_down : gives (signed Divide 1 (of (strict (operator Negate)) 1 (num 7 2 ∷ [])) (num 2 9)) ≡ Ok (int (negsuc 3))
rounded_down = refl

remainder : gives (signed Modulo 1 (of (strict (operator Negate)) 1 (num 7 2 ∷ [])) (num 2 9)) ≡ Ok (int (pos 1))
remainder = refl

-- 170141183460469231731687303715884105727 + 1

past_plain : gives (signed Plus 1 (num (2 ^ 127 - 1) 1) (num 1 43)) ≡ Ok (int (pos (2 ^ 127)))
past_plain = refl

past_bounded : gives_bounded (signed Plus 1 (num (2 ^ 127 - 1) 1) (num 1 43)) ≡ Err (over (here 1))
past_bounded = refl

-- FALSE /\ (1 \div 0 = 1)
stops_left : gives (of conjunction 1 (of (literal false) 1 [] ∷ signed Equal 5 broken (num 1 16) ∷ [])) ≡ Ok (truth false)
stops_left = refl

-- both sides of an operator are evaluated first: TRUE = (1 \div 0)
both_sides : gives (signed Equal 1 (of (literal true) 1 []) broken) ≡ Err (fault BadDivisor (here 5))
both_sides = refl

-- [a EXCEPT ![5] = 1] of <<7, 8, 9>>
abbrev triple : Tree
triple = of (strict tuple) 2 (num 7 4 ∷ num 8 7 ∷ num 9 10 ∷ [])

abbrev nine : Value
nine = seq_from (int (pos 7) ∷ int (pos 8) ∷ int (pos 9) ∷ [])

outside_domain : gives (of (strict (except (record { path = index ∷ []; place = here 1 } ∷ []))) 1 (triple ∷ num 5 22 ∷ num 1 27 ∷ [])) ≡ Ok nine
outside_domain = refl

-- [a EXCEPT ![1] = 5, ![1] = 6]: one after the other
in_order : gives (of (strict (except (record { path = index ∷ []; place = here 1 } ∷ record { path = index ∷ []; place = here 1 } ∷ []))) 1 (triple ∷ num 1 22 ∷ num 5 27 ∷ num 1 31 ∷ num 6 35 ∷ []))
    ≡ Ok (seq_from (int (pos 6) ∷ int (pos 8) ∷ int (pos 9) ∷ []))
in_order = refl

-- {1, 2}
abbrev one_two : Tree
one_two = of (strict set_of) 8 (num 1 9 ∷ num 2 12 ∷ [])

-- \E x \in {1, 2} : 2 \div (2 - x) = 2 is true at 1, and faults at 2
visits_all : gives (of (binding Exists ((named x ∷ []) ∷ [])) 1 (one_two ∷ signed Equal 17 (signed Divide 17 (num 2 17) (signed Minus 25 (num 2 25) (of (name x) 29 []))) (num 2 34) ∷ []))
    ≡ Err (fault BadDivisor (here 17))
visits_all = refl

-- {1, TRUE, "a"} = {"a", TRUE, 1, 1}
kinds_mixed : gives (signed Equal 1
    (of (strict set_of) 1 (num 1 2 ∷ of (literal true) 5 [] ∷ of (string (codes "a")) 11 [] ∷ []))
    (of (strict set_of) 18 (of (string (codes "a")) 19 [] ∷ of (literal true) 24 [] ∷ num 1 30 ∷ num 1 33 ∷ []))) ≡ Ok (truth true)
kinds_mixed = refl

abbrev nat : ℕ → Tree
nat n = of (name (codes "Nat")) n []

abbrev pair : Tree
pair = of (strict tuple) 1 (num 1 3 ∷ num 2 6 ∷ [])

-- 1 \in Nat, and Nat as a value
in_nat : gives (of (member true) 1 (num 1 1 ∷ nat 7 ∷ [])) ≡ Ok (truth true)
in_nat = refl

no_value : gives (signed Equal 1 (nat 1) (num 1 7)) ≡ Err (fault NotSet (here 1))
no_value = refl

-- <<1, 2>> \in [1..2 -> 1..300]: the 90,000 functions are not listed, so no limit is met
abbrev many : Tree
many = of (strict functions) 15 (signed Range 16 (num 1 16) (num 2 19) ∷ signed Range 24 (num 1 24) (num 300 27) ∷ [])

not_listed : gives_bounded (of (member true) 1 (pair ∷ many ∷ [])) ≡ Ok (truth true)
not_listed = refl

-- [1..2 -> 3] right of \in: at that form's place; 1 \in 2: at the \in expression
no_range : gives (of (member true) 1 (pair ∷ of (strict functions) 15 (signed Range 16 (num 1 16) (num 2 19) ∷ num 3 24 ∷ []) ∷ [])) ≡ Err (fault NotSet (here 15))
no_range = refl

no_set : gives (of (member true) 1 (num 1 1 ∷ num 2 7 ∷ [])) ≡ Err (fault NotSet (here 1))
no_set = refl

-- {} \in SUBSET {1, 2}
in_subset : gives (of (member true) 1 (of (strict set_of) 1 [] ∷ of (strict (operator Subset)) 8 (one_two ∷ []) ∷ [])) ≡ Ok (truth true)
in_subset = refl

-- [x \in {1, 2}, y \in {1} |-> x + y][2, 1]
over_pairs : gives (of (strict apply) 1 (of (binding Function ((named x ∷ []) ∷ (named y ∷ []) ∷ [])) 1 (one_two ∷ of (strict set_of) 20 (num 1 21 ∷ []) ∷ signed Plus 29 (of (name x) 29 []) (of (name y) 33 []) ∷ [])
    ∷ of (strict tuple) 36 (num 2 36 ∷ num 1 39 ∷ []) ∷ [])) ≡ Ok (int (pos 3))
over_pairs = refl

-- CASE FALSE -> 1
no_arm : gives (of (cases false) 1 (of (literal false) 6 [] ∷ num 1 15 ∷ [])) ≡ Err (fault NoCase (here 1))
no_arm = refl

-- (1 :> 2 @@ 1 :> 3) = <<2>>
prefers_left : gives (signed Equal 1 (signed Override 2 (signed MapsTo 2 (num 1 2) (num 2 7)) (signed MapsTo 12 (num 1 12) (num 3 17))) (of (strict tuple) 22 (num 2 24 ∷ []))) ≡ Ok (truth true)
prefers_left = refl

-- [a |-> 1, a |-> 2].a
first_field : gives (of (strict (select (codes "a"))) 1 (of (strict (fields ((codes "a") ∷ (codes "a") ∷ []))) 1 (num 1 8 ∷ num 2 17 ∷ []) ∷ [])) ≡ Ok (int (pos 1))
first_field = refl

-- Head(<<>>)
no_head : gives (of (operator_call (codes "Head")) 1 (of (strict tuple) 6 [] ∷ [])) ≡ Err (fault EmptySequence (here 1))
no_head = refl

-- SubSeq(<<7, 8, 9>>, 2, 3), and SubSeq(<<7, 8, 9>>, 1, 70000) in a run
abbrev part : ℕ → ℕ → Tree
part m n = of (operator_call (codes "SubSeq")) 1 (triple ∷ num m 20 ∷ num n 23 ∷ [])

middle : gives (part 2 3) ≡ Ok (seq_from (int (pos 8) ∷ int (pos 9) ∷ []))
middle = refl

past_the_end : gives (part 1 4) ≡ Err (fault NotInDomain (here 1))
past_the_end = refl

-- A and B of [A -> B] and SUBSET A are evaluated, and Nat has no value: <<1, 2>> \in [1..2 -> Nat], {} \in SUBSET Nat
inner_nat : gives (of (member true) 1 (pair ∷ of (strict functions) 15 (signed Range 16 (num 1 16) (num 2 19) ∷ nat 24 ∷ []) ∷ [])) ≡ Err (fault NotSet (here 24))
inner_nat = refl

subset_nat : gives (of (member true) 1 (of (strict set_of) 1 [] ∷ of (strict (operator Subset)) 8 (nat 15 ∷ []) ∷ [])) ≡ Err (fault NotSet (here 15))
subset_nat = refl

-- {x \in 1, y \in (1 \div 0) ..}: all sets are evaluated before any is found to be none
sets_first : gives (of (binding Exists ((named x ∷ []) ∷ (named y ∷ []) ∷ [])) 1 (num 1 7 ∷ broken ∷ of (literal true) 20 [] ∷ [])) ≡ Err (fault BadDivisor (here 5))
sets_first = refl

no_set_then : gives (of (binding Exists ((named x ∷ []) ∷ (named y ∷ []) ∷ [])) 1 (of (strict set_of) 7 [] ∷ num 1 12 ∷ broken ∷ [])) ≡ Err (fault NotSet (here 1))
no_set_then = refl

-- over no members the body is not looked at
no_members : gives (of (binding Exists ((named x ∷ []) ∷ [])) 1 (of (strict set_of) 7 [] ∷ broken ∷ [])) ≡ Ok (truth false)
no_members = refl

-- [a EXCEPT ![5][1 \div 0] = 1]: subscripts are evaluated before the domain is looked at; [a EXCEPT ![5][1] = 1] changes nothing
subscripts_first : gives (of (strict (except (record { path = index ∷ index ∷ []; place = here 1 } ∷ []))) 1 (triple ∷ num 5 22 ∷ broken ∷ num 1 27 ∷ [])) ≡ Err (fault BadDivisor (here 5))
subscripts_first = refl

path_outside : gives (of (strict (except (record { path = index ∷ index ∷ []; place = here 1 } ∷ []))) 1 (triple ∷ num 5 22 ∷ num 1 25 ∷ num 1 30 ∷ [])) ≡ Ok nine
path_outside = refl

-- [a EXCEPT ![1][1] = 1]: a[1] is a number
path_inside : gives (of (strict (except (record { path = index ∷ index ∷ []; place = here 1 } ∷ []))) 1 (triple ∷ num 1 22 ∷ num 1 25 ∷ num 1 30 ∷ [])) ≡ Err (fault NotFunction (here 1))
path_inside = refl

-- TRUE \div 0: kinds come before the divisor
kinds_first : gives (signed Divide 1 (of (literal true) 1 []) (num 0 11)) ≡ Err (fault NotInteger (here 1))
kinds_first = refl

-- -(2^127 - 1) - 1 is within the limits, and one less is not
least_bounded : gives_bounded (signed Minus 1 (of (strict (operator Negate)) 1 (num (2 ^ 127 - 1) 2 ∷ [])) (num 1 50)) ≡ Ok (int (negsuc (2 ^ 127 - 1)))
least_bounded = refl

below_bounded : gives_bounded (signed Minus 1 (of (strict (operator Negate)) 1 (num (2 ^ 127 - 1) 2 ∷ [])) (num 2 50)) ≡ Err (over (here 1))
below_bounded = refl

-- 2..1 is empty
empty_range : gives (signed Equal 1 (signed Range 1 (num 2 1) (num 1 4)) (of (strict set_of) 8 [])) ≡ Ok (truth true)
empty_range = refl

-- {x \in {1, 2}} over a group: [x, y \in {1, 2} |-> x + y][2, 1], and its set is evaluated once, as a fault in it shows
over_group : gives (of (strict apply) 1 (of (binding Function ((named x ∷ named y ∷ []) ∷ [])) 1 (one_two ∷ signed Plus 29 (of (name x) 29 []) (of (name y) 33 []) ∷ [])
    ∷ of (strict tuple) 36 (num 2 36 ∷ num 1 39 ∷ []) ∷ [])) ≡ Ok (int (pos 3))
over_group = refl

group_fault : gives (of (binding Exists ((named x ∷ named y ∷ []) ∷ [])) 1 (broken ∷ of (literal true) 20 [] ∷ [])) ≡ Err (fault BadDivisor (here 5))
group_fault = refl

-- LET x == 2 y == x + 1 IN x + y: y sees x; in LET y == x x == 2 IN y, y doesn't
one_let : gives (of (local (named x ∷ named y ∷ [])) 1 (num 2 10 ∷ signed Plus 17 (of (name x) 17 []) (num 1 21) ∷ signed Plus 26 (of (name x) 26 []) (of (name y) 30 []) ∷ [])) ≡ Ok (int (pos 5))
one_let = refl

let_order : gives (of (local (named y ∷ named x ∷ [])) 1 (of (name x) 10 [] ∷ num 2 17 ∷ of (name y) 22 [] ∷ [])) ≡ Err (fault NotFunction (here 10))
let_order = refl

-- SubSeq(<<7, 8, 9>>, m, m) in a run with m = 170141183460469231731687303715884105727: s[i + (m - 1)] asks for no number past the limits
last_index : gives_bounded (part (2 ^ 127 - 1) (2 ^ 127 - 1)) ≡ Err (fault NotInDomain (here 1))
last_index = refl
