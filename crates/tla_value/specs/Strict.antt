-- What forms make of the values of their parts, which are all evaluated first ("Specifying Systems", sections 16.1.6 to 16.1.10 and 16.2).
use Rattle.std.specs.Prelude.{ℤ, pos, ◌+ℤ◌, ◌-ℤ◌, ◌*ℤ◌, neg_ℤ, int_lt, int_le, Bool, cond, not, List, [], ◌∷◌, ◌++◌, map, Ok, Err}
use Rattle.std.specs.Option.{ok_or}
use Rattle.std.specs.Int.{int_div_euclid, int_rem_euclid}
use Rattle.tla_token.specs.declared.place.Place.{Place}
use Rattle.tla_tree.specs.declared.op.Op.{Op}
use Rattle.tla_tree.specs.declared.op.Op.TheVariants.{Equivalent, Not, Equal, NotEqual, Less, Greater, AtMost, AtLeast, SubsetEq, Override, MapsTo, Cup, Cap, Without, Subset, Union, Range, Domain, Plus, Modulo, Minus, Negate, Times, Concat, Divide}
use Rattle.tla_tree.specs.Tree.{PathStep, index, field, Slot, Strict, operator, set_of, tuple, fields, records, functions, apply, select, except}
use Rattle.tla_value.specs.declared.fault.FaultKind.TheVariants.{NotInDomain, BadDivisor}
use Rattle.tla_value.specs.Value.{Value, Values, truth, int, text, set, fun, no_values, and, Outcome, fault, ◌>>=◌, in_order}
use Rattle.tla_value.specs.Order.{same, found_at, pairs_of, fun_from, seq_from, record_from, set_from}
use Rattle.tla_value.specs.Stops.{Check, truth_at, int_at, members_at, function_at, sequence_at, misshapen, one_of, two_of, tested}
use Rattle.tla_value.specs.Sets.{all_in, cup, cap, without, union_of, subsets, range, repeated, functions_over, is_function_over, is_subset}

-- operands of one kind, looked at from left to right

abbrev pub of_truths : Place → List Value → (Bool → Bool → Value) → Outcome Value
of_truths at vs f = do
  (a, b) ← two_of at vs
  p ← truth_at at a
  q ← truth_at at b
  Ok (f p q)

abbrev pub of_ints : Place → List Value → (ℤ → ℤ → Value) → Outcome Value
of_ints at vs f = do
  (a, b) ← two_of at vs
  m ← int_at at a
  n ← int_at at b
  Ok (f m n)

abbrev pub of_sets : Place → List Value → (Values → Values → Value) → Outcome Value
of_sets at vs f = do
  (a, b) ← two_of at vs
  ss ← members_at at a
  ts ← members_at at b
  Ok (f ss ts)

-- by a number above 0 alone
abbrev pub of_quotient : Place → List Value → (ℤ → ℤ → ℤ) → Outcome Value
of_quotient at vs f = do
  (a, b) ← two_of at vs
  m ← int_at at a
  n ← int_at at b
  cond (int_lt (pos 0) n) (Ok (int (f m n))) (Err (fault BadDivisor at))

abbrev pub same_truth : Bool → Bool → Bool
same_truth p q = cond p q (not q)

-- the quotient is rounded down, so that the remainder is not negative
abbrev pub operated : Op → Place → List Value → Outcome Value
operated Equivalent at vs = of_truths at vs (λ p q. truth (same_truth p q))
operated Not at vs = do
  a ← one_of at vs
  p ← truth_at at a
  Ok (truth (not p))
operated Equal at vs = do
  (a, b) ← two_of at vs
  Ok (truth (same a b))
operated NotEqual at vs = do
  (a, b) ← two_of at vs
  Ok (truth (not (same a b)))
operated Less at vs = of_ints at vs (λ m n. truth (int_lt m n))
operated Greater at vs = of_ints at vs (λ m n. truth (int_lt n m))
operated AtMost at vs = of_ints at vs (λ m n. truth (int_le m n))
operated AtLeast at vs = of_ints at vs (λ m n. truth (int_le n m))
operated SubsetEq at vs = of_sets at vs (λ ss ts. truth (all_in ss ts))
operated Override at vs = do
  (f, g) ← two_of at vs
  (ds, rs) ← function_at at f
  (es, qs) ← function_at at g
  Ok (fun_from (pairs_of ds rs ++ pairs_of es qs))
operated MapsTo at vs = do
  (d, e) ← two_of at vs
  Ok (fun (and d no_values) (and e no_values))
operated Cup at vs = of_sets at vs (λ ss ts. set (cup ss ts))
operated Cap at vs = of_sets at vs (λ ss ts. set (cap ss ts))
operated Without at vs = of_sets at vs (λ ss ts. set (without ss ts))
operated Subset at vs = do
  a ← one_of at vs
  ss ← members_at at a
  Ok (set (subsets ss))
operated Union at vs = do
  a ← one_of at vs
  ss ← members_at at a
  ws ← union_of at ss
  Ok (set (set_from ws))
operated Range at vs = of_ints at vs (λ m n. set (range m n))
operated Domain at vs = do
  f ← one_of at vs
  (ds, rs) ← function_at at f
  Ok (set ds)
operated Plus at vs = of_ints at vs (λ m n. int (m +ℤ n))
operated Minus at vs = of_ints at vs (λ m n. int (m -ℤ n))
operated Times at vs = of_ints at vs (λ m n. int (m *ℤ n))
operated Negate at vs = do
  a ← one_of at vs
  n ← int_at at a
  Ok (int (neg_ℤ n))
operated Divide at vs = of_quotient at vs int_div_euclid
operated Modulo at vs = of_quotient at vs int_rem_euclid
operated Concat at vs = do
  (a, b) ← two_of at vs
  xs ← sequence_at at a
  ys ← sequence_at at b
  Ok (seq_from (xs ++ ys))
operated _ at vs = misshapen at

-- the domain, and the set of values beside each argument, of [A -> B] and of [a : A, b : B]
abbrev pub space_of : Strict → Place → List Value → Outcome (Values × Values)
space_of functions at vs = do
  (a, b) ← two_of at vs
  ds ← members_at at a
  ws ← members_at at b
  Ok (ds, repeated ds (set ws))
space_of (records xs) at vs = do
  ss ← in_order (members_at at) vs
  function_at at (record_from xs (map set ss))
space_of _ at vs = misshapen at

-- the values that a form makes
abbrev pub made : Strict → Place → List Value → Outcome Value
made (operator o) at vs = operated o at vs
made set_of at vs = Ok (set (set_from vs))
made tuple at vs = Ok (seq_from vs)
made (fields xs) at vs = Ok (record_from xs vs)
made (records xs) at vs = do
  (ds, ss) ← space_of (records xs) at vs
  Ok (set (functions_over ds ss))
made functions at vs = do
  (ds, ss) ← space_of functions at vs
  Ok (set (functions_over ds ss))
made _ at vs = misshapen at

abbrev pub applied : Place → Value → Value → Outcome Value
applied at f a = do
  (ds, rs) ← function_at at f
  ok_or (found_at ds rs a) (fault NotInDomain at)

-- ---- EXCEPT

-- the values of a function with g's result in place of the one at k; a k outside the domain changes nothing
abbrev pub changed : Value → (Value → Outcome Value) → Values → Values → Outcome Values
changed k g (and d ds) (and r rs) =
    cond (same k d) (do w ← g r; Ok (and w rs)) (do us ← changed k g ds rs; Ok (and r us))
changed k g _ rs = Ok rs

-- the old value with v at the end of a path
abbrev pub changed_at : Place → List Value → Value → Value → Outcome Value
changed_at at [] v old = Ok v
changed_at at (k ∷ ks) v old = do
  (ds, rs) ← function_at at old
  us ← changed k (changed_at at ks v) ds rs
  Ok (fun ds us)

-- the next slot's path and right side, and the values that are left
abbrev pub next_slot : Place → List PathStep → List Value → Outcome (List Value × Value × List Value)
next_slot at [] (v ∷ vs) = Ok ([], v, vs)
next_slot at (index ∷ ps) (k ∷ vs) = do
  (path, v, rest) ← next_slot at ps vs
  Ok (k ∷ path, v, rest)
next_slot at (field x ∷ ps) vs = do
  (path, v, rest) ← next_slot at ps vs
  Ok (text x ∷ path, v, rest)
next_slot at _ _ = misshapen at

-- one slot after the other; the value after each of them is reached at the slot's place
abbrev pub updated : Check → List Slot → List Value → Value → Outcome Value
updated c [] vs old = Ok old
updated c (n ∷ ns) vs old = do
  (path, v, rest) ← next_slot n.place n.path vs
  new ← changed_at n.place path v old
  reached ← c n.place new
  updated c ns rest reached

abbrev pub excepted : Check → Place → List Slot → List Value → Outcome Value
excepted c at ns [] = misshapen at
excepted c at ns (old ∷ vs) = updated c ns vs old

-- ----

-- a value that the form makes is reached at its place; one that it hands on isn't reached again
abbrev pub strict_value : Check → Strict → Place → List Value → Outcome Value
strict_value c apply at vs = do
  (f, a) ← two_of at vs
  applied at f a
strict_value c (select x) at vs = do
  f ← one_of at vs
  applied at f (text x)
strict_value c (except ns) at vs = excepted c at ns vs
strict_value c o at vs = made o at vs >>= c at

abbrev pub operator_test : Check → Op → Place → Place → Value → List Value → Outcome Bool
operator_test c Subset at p v vs = do
  a ← one_of at vs
  ws ← members_at at a
  Ok (is_subset v ws)
operator_test c o at p v vs = tested p v (strict_value c (operator o) at vs)

-- whether v is a member, asked at p: of [A -> B], [a : A] and SUBSET A without listing them
abbrev pub strict_test : Check → Strict → Place → Place → Value → List Value → Outcome Bool
strict_test c (operator o) at p v vs = operator_test c o at p v vs
strict_test c functions at p v vs = do
  (ds, ss) ← space_of functions at vs
  Ok (is_function_over v ds ss)
strict_test c (records xs) at p v vs = do
  (ds, ss) ← space_of (records xs) at vs
  Ok (is_function_over v ds ss)
strict_test c o at p v vs = tested p v (strict_value c o at vs)
