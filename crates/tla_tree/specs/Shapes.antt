-- How many parts a form has, and how large a number is.
use Rattle.std.specs.Prelude.{ℕ, zero, suc, ◌+◌, ◌≡◌, ◌≤◌, ◌<◌, List, [], ◌∷◌, length, Bool, true, false}
use Rattle.tla_token.specs.Limits.{past_numbers}
use Rattle.tla_tree.specs.declared.op.Binder.{Binder}
use Rattle.tla_tree.specs.declared.op.Binder.TheVariants as binder
use Rattle.std.specs.Bool.{IsTrue}
use Rattle.tla_tree.specs.declared.op.Op.{Op}
use Rattle.tla_tree.specs.declared.op.Op.TheVariants as op
use Rattle.tla_tree.specs.Rank.{is_prefix}
use Rattle.tla_tree.specs.Tree.{Name, PathStep, index, field, Slot, Strict, operator, set_of, tuple, fields, records, functions, apply, select, except, Form, number, strict, operator_call, conjunction, disjunction, implication, member, if_then_else, cases, binding, local}

-- the others are forms of their own
abbrev pub is_strict : Op → Bool
is_strict op.And = false
is_strict op.Or = false
is_strict op.Implies = false
is_strict op.In = false
is_strict op.NotIn = false
is_strict o = true

abbrev pub operands : Bool → ℕ
operands true = 1
operands false = 2

-- a part for each subscript
abbrev pub subscripts : List PathStep → ℕ
subscripts [] = 0
subscripts (index ∷ ss) = suc (subscripts ss)
subscripts (field a ∷ ss) = subscripts ss

abbrev pub HasPath : List PathStep → Type 0
HasPath [] = ⊥
HasPath (s ∷ ss) = Unit {0}

-- there is a setting, and each has a path
abbrev pub HavePaths : List Slot → Type 0
HavePaths [] = ⊥
HavePaths (s ∷ []) = HasPath s.path
HavePaths (s ∷ t ∷ ss) = HasPath s.path × HavePaths (t ∷ ss)

-- subscripts and right sides
abbrev pub settings : List Slot → ℕ
settings [] = 0
settings (s ∷ ss) = subscripts s.path + suc (settings ss)

abbrev pub StrictShaped : Strict → ℕ → Type 0
StrictShaped (operator o) n = IsTrue (is_strict o) × (n ≡ operands (is_prefix o))
StrictShaped set_of n = Unit {0}
StrictShaped tuple n = Unit {0}
StrictShaped (fields xs) n = (1 ≤ n) × (n ≡ length xs)
StrictShaped (records xs) n = (1 ≤ n) × (n ≡ length xs)
StrictShaped functions n = n ≡ 2
StrictShaped apply n = n ≡ 2
StrictShaped (select a) n = n ≡ 1
StrictShaped (except slots) n = HavePaths slots × (n ≡ suc (settings slots))

-- a test and a result for each arm, of which there is one at least
abbrev pub IsPaired : ℕ → Type 0
IsPaired zero = ⊥
IsPaired (suc zero) = ⊥
IsPaired (suc (suc zero)) = Unit {0}
IsPaired (suc (suc n)) = IsPaired n

abbrev pub CaseShaped : Bool → ℕ → Type 0
CaseShaped false n = IsPaired n
CaseShaped true zero = ⊥
CaseShaped true (suc n) = IsPaired n

abbrev pub IsOneName : List (List Name) → Type 0
IsOneName ((x ∷ []) ∷ []) = Unit {0}
IsOneName gs = ⊥

-- there is a group, and each has a name
abbrev pub HaveNames : List (List Name) → Type 0
HaveNames [] = ⊥
HaveNames (g ∷ []) = 1 ≤ length g
HaveNames (g ∷ h ∷ gs) = (1 ≤ length g) × HaveNames (h ∷ gs)

-- a filter has one name; a set for each group, and the body
abbrev pub BinderShaped : Binder → List (List Name) → ℕ → Type 0
BinderShaped binder.Filter gs n = IsOneName gs × (n ≡ 2)
BinderShaped b gs n = HaveNames gs × (n ≡ suc (length gs))

-- no number is past 2^127 - 1
abbrev pub Shaped : Form → ℕ → Type 0
Shaped (number k) n = (k < past_numbers) × (n ≡ 0)
Shaped (strict o) n = StrictShaped o n
Shaped (operator_call f) n = 1 ≤ n
Shaped conjunction n = n ≡ 2
Shaped disjunction n = n ≡ 2
Shaped implication n = n ≡ 2
Shaped (member b) n = n ≡ 2
Shaped if_then_else n = n ≡ 3
Shaped (cases b) n = CaseShaped b n
Shaped (binding b gs) n = BinderShaped b gs n
Shaped (local xs) n = (1 ≤ length xs) × (n ≡ suc (length xs))
Shaped _ n = n ≡ 0
