-- The tokens of a value, read from left to right: they are those of one spelling, and end in one place.
use Rattle.std.proofs.Common.{◌≡◌, ◌<◌, ◌≤◌, ◌+◌, ℕ, zero, suc, Bool, true, false, List, [], ◌∷◌, drop, Option, Some, None, refl, sym, ap, ◌∙◌, arith, codes}
use Rattle.std.specs.Prelude.{bytes_eq, option_and_then, if◌then◌else◌, not, ◌&&◌}
use Rattle.std.proofs.lemmas.Bool.{and_parts}
use Rattle.tla_tree.specs.Tree.{Word}
use Rattle.tla_value.specs.Value.{text}
use Rattle.tla_value.specs.Order.{same}
use Rattle.tla_value.specs.ValueText.{Mark, word, number, quote, sign, Spelling, Spellings, Fields, Pairs, truth_word, digits, minus, quoted, named, braces, angles, fields, pairs, no_spellings, spelling, no_fields, field, no_pairs, pair, marks, marks_in, more_marks, field_marks, pair_marks, IsGood, AreGood, AreGoodFields, AreGoodPairs, truth_name, is_identifier}
use Rattle.std.proofs.lemmas.Option.{same_Some}

-- ---- the reader

abbrev on : {X Y : Type 0} → Option X → (X → Option Y) → Option Y
on o go = option_and_then go o

abbrev Read : Type 0 → Type 0
Read X = Option (X × List Mark)

-- the first token is this sign
abbrev begins : Word → List Mark → Bool
begins c (sign w ∷ ts) = bytes_eq c w
begins c _ = false

abbrev past : Word → List Mark → Option (List Mark)
past c ts = if begins c ts then Some (drop 1 ts) else None

abbrev word_read : Word → Spelling
word_read w = if same (text w) (text (codes "TRUE")) then truth_word true else (if same (text w) (text (codes "FALSE")) then truth_word false else named w)

abbrev number_read : List Mark → Read Spelling
number_read (number n ∷ ts) = Some (minus n, ts)
number_read _ = None

abbrev field_read : List Mark → Read Word
field_read (word x ∷ ts) = on (past (codes "|->") ts) (λ r. Some (x, r))
field_read _ = None

-- what closes a set, or a tuple
abbrev pub close : Bool → Word
close true = codes "}"
close false = codes ">>"

abbrev mutual
  pub read : ℕ → List Mark → Read Spelling
  read zero ts = None
  read (suc k) [] = None
  read (suc k) (word w ∷ ts) = Some (word_read w, ts)
  read (suc k) (number n ∷ ts) = Some (digits n, ts)
  read (suc k) (quote w ∷ ts) = Some (quoted w, ts)
  read (suc k) (sign w ∷ ts) =
      if bytes_eq (codes "-") w then number_read ts
      else (if bytes_eq (codes "{") w then on (read_members k true ts) (λ p. Some (braces p.0, p.1))
      else (if bytes_eq (codes "<<") w then on (read_members k false ts) (λ p. Some (angles p.0, p.1))
      else (if bytes_eq (codes "[") w then on (field_read ts) (λ x. on (read k x.1) (λ s. on (read_fields k s.1) (λ p. Some (fields x.0 s.0 p.0, p.1))))
      else (if bytes_eq (codes "(") w then on (read k ts) (λ d. on (past (codes ":>") d.1) (λ q. on (read k q) (λ s. on (read_pairs k s.1) (λ p. Some (pairs d.0 s.0 p.0, p.1))))) else None))))

  read_members : ℕ → Bool → List Mark → Read Spellings
  read_members zero b ts = None
  read_members (suc k) b ts =
      if begins (close b) ts then Some (no_spellings, drop 1 ts) else on (read k ts) (λ s. on (read_more k b s.1) (λ p. Some (spelling s.0 p.0, p.1)))

  read_more : ℕ → Bool → List Mark → Read Spellings
  read_more zero b ts = None
  read_more (suc k) b ts =
      if begins (close b) ts then Some (no_spellings, drop 1 ts)
      else on (past (codes ",") ts) (λ r. on (read k r) (λ s. on (read_more k b s.1) (λ p. Some (spelling s.0 p.0, p.1))))

  read_fields : ℕ → List Mark → Read Fields
  read_fields zero ts = None
  read_fields (suc k) ts =
      if begins (codes "]") ts then Some (no_fields, drop 1 ts)
      else on (past (codes ",") ts) (λ r. on (field_read r) (λ x. on (read k x.1) (λ s. on (read_fields k s.1) (λ p. Some (field x.0 s.0 p.0, p.1)))))

  read_pairs : ℕ → List Mark → Read Pairs
  read_pairs zero ts = None
  read_pairs (suc k) ts =
      if begins (codes ")") ts then Some (no_pairs, drop 1 ts)
      else on (past (codes "@@") ts) (λ r. on (read k r) (λ d. on (past (codes ":>") d.1) (λ q. on (read k q) (λ s. on (read_pairs k s.1) (λ p. Some (pair d.0 s.0 p.0, p.1))))))

-- ---- its steps

abbrev mutual
  pub steps : Spelling → ℕ
  steps (truth_word b) = 1
  steps (digits n) = 1
  steps (minus n) = 1
  steps (quoted w) = 1
  steps (named w) = 1
  steps (braces ss) = suc (member_steps ss)
  steps (angles ss) = suc (member_steps ss)
  steps (fields x s fs) = suc (steps s + field_steps fs)
  steps (pairs d s ps) = suc (steps d + steps s + pair_steps ps)

  pub member_steps : Spellings → ℕ
  member_steps no_spellings = 1
  member_steps (spelling s ss) = suc (steps s + member_steps ss)

  pub field_steps : Fields → ℕ
  field_steps no_fields = 1
  field_steps (field x s fs) = suc (steps s + field_steps fs)

  pub pair_steps : Pairs → ℕ
  pair_steps no_pairs = 1
  pair_steps (pair d s ps) = suc (steps d + steps s + pair_steps ps)

some_steps : (s : Spelling) → 0 < steps s
some_steps (truth_word b) = omega arith
some_steps (digits n) = omega arith
some_steps (minus n) = omega arith
some_steps (quoted w) = omega arith
some_steps (named w) = omega arith
some_steps (braces ss) = omega arith
some_steps (angles ss) = omega arith
some_steps (fields x s fs) = omega arith
some_steps (pairs d s ps) = omega arith

some_members : (ss : Spellings) → 0 < member_steps ss
some_members no_spellings = omega arith
some_members (spelling s ss) = omega arith

some_fields : (fs : Fields) → 0 < field_steps fs
some_fields no_fields = omega arith
some_fields (field x s fs) = omega arith

some_pairs : (ps : Pairs) → 0 < pair_steps ps
some_pairs no_pairs = omega arith
some_pairs (pair d s ps) = omega arith

-- ---- what is spelled is read

-- no value begins with what closes one
no_close : (b : Bool) (s : Spelling) (r : List Mark) → begins (close b) (marks s r) ≡ false
no_close true (truth_word b) r = refl
no_close true (digits n) r = refl
no_close true (minus n) r = refl
no_close true (quoted w) r = refl
no_close true (named w) r = refl
no_close true (braces ss) r = refl
no_close true (angles ss) r = refl
no_close true (fields x s fs) r = refl
no_close true (pairs d s ps) r = refl
no_close false (truth_word b) r = refl
no_close false (digits n) r = refl
no_close false (minus n) r = refl
no_close false (quoted w) r = refl
no_close false (named w) r = refl
no_close false (braces ss) r = refl
no_close false (angles ss) r = refl
no_close false (fields x s fs) r = refl
no_close false (pairs d s ps) r = refl

truth_read : (b : Bool) → word_read (truth_name b) ≡ truth_word b
truth_read true = refl
truth_read false = refl

picked : (a b : Bool) (w : Word) → not a ≡ true → not b ≡ true → (if a then truth_word true else (if b then truth_word false else named w)) ≡ named w
picked false false w h i = refl
picked true b w h i = cc
picked false true w h i = cc

name_read : (w : Word) → IsGood (named w) → word_read w ≡ named w
name_read w g =
    let a = same (text w) (text (codes "TRUE")) in
    let b = same (text w) (text (codes "FALSE")) in
    let h = and_parts (not a) (not b) (and_parts (is_identifier w) (not a && not b) g).1 in
    picked a b w h.0 h.1

mutual
  pub read_marks : (s : Spelling) (k : ℕ) (r : List Mark) → IsGood s → steps s ≤ k → read k (marks s r) ≡ Some (s, r)
  read_marks s zero r g l = absurd (omega (arith, l, some_steps s))
  read_marks (truth_word b) (suc k) r g l = ap (λ (s : Spelling). Some (s, r)) (truth_read b)
  read_marks (digits n) (suc k) r g l = refl
  read_marks (minus n) (suc k) r g l = refl
  read_marks (quoted w) (suc k) r g l = refl
  read_marks (named w) (suc k) r g l = ap (λ (s : Spelling). Some (s, r)) (name_read w g)
  read_marks (braces ss) (suc k) r g l = rw (members_marks true ss k r g (omega (arith, l))) refl
  read_marks (angles ss) (suc k) r g l = rw (members_marks false ss k r g (omega (arith, l))) refl
  read_marks (fields x s fs) (suc k) r g l =
      rw (read_marks s k (field_marks fs (sign (codes "]") ∷ r)) g.1 (omega (arith, l)), fields_marks fs k r g.2 (omega (arith, l))) refl
  read_marks (pairs d s ps) (suc k) r g l =
      rw (read_marks d k (sign (codes ":>") ∷ marks s (pair_marks ps (sign (codes ")") ∷ r))) g.0 (omega (arith, l)), read_marks s k (pair_marks ps (sign (codes ")") ∷ r)) g.1 (omega (arith, l)), pairs_marks ps k r g.2 (omega (arith, l))) refl

  members_marks : (b : Bool) (ss : Spellings) (k : ℕ) (r : List Mark) → AreGood ss → member_steps ss ≤ k → read_members k b (marks_in ss (sign (close b) ∷ r)) ≡ Some (ss, r)
  members_marks b ss zero r g l = absurd (omega (arith, l, some_members ss))
  members_marks true no_spellings (suc k) r g l = refl
  members_marks false no_spellings (suc k) r g l = refl
  members_marks b (spelling s ss) (suc k) r g l =
      rw (no_close b s (more_marks ss (sign (close b) ∷ r)), read_marks s k (more_marks ss (sign (close b) ∷ r)) g.0 (omega (arith, l)), more_marks_read b ss k r g.1 (omega (arith, l))) refl

  more_marks_read : (b : Bool) (ss : Spellings) (k : ℕ) (r : List Mark) → AreGood ss → member_steps ss ≤ k → read_more k b (more_marks ss (sign (close b) ∷ r)) ≡ Some (ss, r)
  more_marks_read b ss zero r g l = absurd (omega (arith, l, some_members ss))
  more_marks_read true no_spellings (suc k) r g l = refl
  more_marks_read false no_spellings (suc k) r g l = refl
  more_marks_read true (spelling s ss) (suc k) r g l =
      rw (read_marks s k (more_marks ss (sign (close true) ∷ r)) g.0 (omega (arith, l)), more_marks_read true ss k r g.1 (omega (arith, l))) refl
  more_marks_read false (spelling s ss) (suc k) r g l =
      rw (read_marks s k (more_marks ss (sign (close false) ∷ r)) g.0 (omega (arith, l)), more_marks_read false ss k r g.1 (omega (arith, l))) refl

  fields_marks : (fs : Fields) (k : ℕ) (r : List Mark) → AreGoodFields fs → field_steps fs ≤ k → read_fields k (field_marks fs (sign (codes "]") ∷ r)) ≡ Some (fs, r)
  fields_marks fs zero r g l = absurd (omega (arith, l, some_fields fs))
  fields_marks no_fields (suc k) r g l = refl
  fields_marks (field x s fs) (suc k) r g l =
      rw (read_marks s k (field_marks fs (sign (codes "]") ∷ r)) g.1 (omega (arith, l)), fields_marks fs k r g.2 (omega (arith, l))) refl

  pairs_marks : (ps : Pairs) (k : ℕ) (r : List Mark) → AreGoodPairs ps → pair_steps ps ≤ k → read_pairs k (pair_marks ps (sign (codes ")") ∷ r)) ≡ Some (ps, r)
  pairs_marks ps zero r g l = absurd (omega (arith, l, some_pairs ps))
  pairs_marks no_pairs (suc k) r g l = refl
  pairs_marks (pair d s ps) (suc k) r g l =
      rw (read_marks d k (sign (codes ":>") ∷ marks s (pair_marks ps (sign (codes ")") ∷ r))) g.0 (omega (arith, l)), read_marks s k (pair_marks ps (sign (codes ")") ∷ r)) g.1 (omega (arith, l)), pairs_marks ps k r g.2 (omega (arith, l))) refl

-- ---- in one way

-- two spellings whose tokens go on in one list are one, and end in one place
pub one_spelling : (s t : Spelling) (r q : List Mark) → IsGood s → IsGood t → marks s r ≡ marks t q → (s ≡ t) × (r ≡ q)
one_spelling s t r q g h e =
    let k = steps s + steps t in
    let p : Spelling × List Mark = (s, r) in
    let o : Spelling × List Mark = (t, q) in
    let same_read : p ≡ o = same_Some p o (sym (read_marks s k r g (omega arith)) ∙ ap (λ (ts : List Mark). read k ts) e ∙ read_marks t k q h (omega arith)) in
    (ap (λ (x : Spelling × List Mark). x.0) same_read, ap (λ (x : Spelling × List Mark). x.1) same_read)
