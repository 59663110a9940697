-- The operators and sets of the standard modules Naturals, Integers, Sequences, FiniteSets and TLC ("Specifying Systems", chapter 18 and section 14.5.3).
use Rattle.std.specs.Prelude.{ℤ, pos, ◌+ℤ◌, ◌-ℤ◌, Bool, true, false, cond, ◌&&◌, bytes_eq, codes, length, List, [], ◌∷◌, ◌++◌, Option, Some, None, Ok, Err}
use Rattle.tla_token.specs.declared.place.Place.{Place}
use Rattle.tla_tree.specs.Tree.{Word}
use Rattle.tla_value.specs.declared.fault.FaultKind.TheVariants.{NotSet, EmptySequence, AssertFailed}
use Rattle.tla_value.specs.Value.{Value, Values, truth, int, set, fun, Outcome, fault, Sense, values_in, ◌>>=◌, in_order}
use Rattle.tla_value.specs.Order.{holds, count, listed, seq_from, sequence_of}
use Rattle.tla_value.specs.Stops.{Check, truth_at, int_at, members_at, sequence_at, misshapen, one_of, two_of, three_of, sense_of}
use Rattle.tla_value.specs.Sets.{range}
use Rattle.tla_value.specs.Strict.{applied}
use Rattle.tla_value.specs.Meaning.{only_tested}

pub data Standard : Type 0 where
  length_of : Standard  -- Len(s)
  appended : Standard  -- Append(s, e)
  first_of : Standard  -- Head(s)
  rest_of : Standard  -- Tail(s)
  part_of : Standard  -- SubSeq(s, m, n)
  sequences : Standard  -- Seq(S)
  size_of : Standard  -- Cardinality(S)
  is_finite : Standard  -- IsFiniteSet(S)
  printed : Standard  -- PrintT(v)
  asserted : Standard  -- Assert(v, m)

-- the operator of a name
abbrev pub standard_of : Word → Option Standard
standard_of w =
    cond (bytes_eq (codes "Len") w) (Some length_of) (
    cond (bytes_eq (codes "Append") w) (Some appended) (
    cond (bytes_eq (codes "Head") w) (Some first_of) (
    cond (bytes_eq (codes "Tail") w) (Some rest_of) (
    cond (bytes_eq (codes "SubSeq") w) (Some part_of) (
    cond (bytes_eq (codes "Seq") w) (Some sequences) (
    cond (bytes_eq (codes "Cardinality") w) (Some size_of) (
    cond (bytes_eq (codes "IsFiniteSet") w) (Some is_finite) (
    cond (bytes_eq (codes "PrintT") w) (Some printed) (
    cond (bytes_eq (codes "Assert") w) (Some asserted) (
    None))))))))))

abbrev pub headed : Place → List Value → Outcome Value
headed at [] = Err (fault EmptySequence at)
headed at (v ∷ vs) = Ok v

abbrev pub tailed : Check → Place → List Value → Outcome Value
tailed c at [] = Err (fault EmptySequence at)
tailed c at (v ∷ vs) = c at (seq_from vs)

-- s[i + m - 1], where `-` binds before `+`
abbrev pub element : Check → Place → Value → ℤ → Value → Outcome Value
element c at s m i = do
  n ← int_at at i
  _ ← c at (int (m -ℤ pos 1))
  k ← c at (int (n +ℤ (m -ℤ pos 1)))
  applied at s k

-- [i \in 1..(n - m + 1) |-> s[i + m - 1]], with all that is reached in it
abbrev pub part_between : Check → Place → Value → ℤ → ℤ → Outcome Value
part_between c at s m n = do
  _ ← c at (int (n -ℤ m))
  _ ← c at (int ((n -ℤ m) +ℤ pos 1))
  domain ← c at (set (range (pos 1) ((n -ℤ m) +ℤ pos 1)))
  is ← members_at at domain
  vs ← in_order (element c at s m) (listed is)
  c at (fun is (values_in vs))

abbrev pub standard_value : Check → Standard → Place → List Value → Outcome Value
standard_value c length_of at vs = do
  s ← one_of at vs
  es ← sequence_at at s
  c at (int (pos (length es)))
standard_value c appended at vs = do
  (s, e) ← two_of at vs
  es ← sequence_at at s
  c at (seq_from (es ++ e ∷ []))
standard_value c first_of at vs = do
  s ← one_of at vs
  es ← sequence_at at s
  headed at es
standard_value c rest_of at vs = do
  s ← one_of at vs
  es ← sequence_at at s
  tailed c at es
standard_value c part_of at vs = do
  (s, a, b) ← three_of at vs
  _ ← sequence_at at s
  m ← int_at at a
  n ← int_at at b
  part_between c at s m n
standard_value c sequences at vs = Err (fault NotSet at)
standard_value c size_of at vs = do
  a ← one_of at vs
  ss ← members_at at a
  c at (int (pos (count ss)))
standard_value c is_finite at vs = do
  a ← one_of at vs
  _ ← members_at at a
  Ok (truth true)
standard_value c printed at vs = do
  v ← one_of at vs
  Ok (truth true)
standard_value c asserted at vs = do
  (v, m) ← two_of at vs
  b ← truth_at at v
  cond b (Ok (truth true)) (Err (fault AssertFailed at))

abbrev pub each_in : List Value → Values → Bool
each_in [] ws = true
each_in (v ∷ vs) ws = holds v ws && each_in vs ws

abbrev pub elements_in : Option (List Value) → Values → Bool
elements_in None ws = false
elements_in (Some vs) ws = each_in vs ws

-- Seq(S) can only be tested
abbrev pub standard_sense : Check → Standard → Place → List Value → Sense
standard_sense c sequences at vs = record {
  value = Err (fault NotSet at);
  test = λ p v. (do a ← one_of at vs; ws ← members_at at a; Ok (elements_in (sequence_of v) ws));
}
standard_sense c o at vs = sense_of (standard_value c o at vs)

abbrev pub standard_called : Check → Option Standard → Option (Place → List Value → Sense)
standard_called c None = None
standard_called c (Some o) = Some (standard_sense c o)

abbrev pub is_int : Value → Bool
is_int (int n) = true
is_int _ = false

abbrev pub is_natural : Value → Bool
is_natural (int (pos n)) = true
is_natural _ = false

-- Nat and Int, which can only be tested; no other name is known
abbrev pub standard_name : Word → Place → Sense
standard_name x at =
    cond (bytes_eq (codes "Nat") x) (only_tested at is_natural) (
    cond (bytes_eq (codes "Int") x) (only_tested at is_int) (
    sense_of (misshapen at)))
