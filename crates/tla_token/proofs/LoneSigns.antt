-- Bytes that are a sign by themselves, whatever comes after them.
use Rattle.std.proofs.Common.{◌≡◌, ℕ, ◌<◌, ◌≤◌, false, nat_eq, get_or, List, [], ◌∷◌, length, refl, sym, arith}
use Rattle.std.proofs.lemmas.Bool.{eqb-true, false_from_ne_true}
use Rattle.tla_token.specs.declared.part.Class.TheVariants as class
use Rattle.tla_token.specs.declared.part.Part as code
use Rattle.tla_token.specs.declared.sign.Sign.{Sign}
use Rattle.tla_token.specs.declared.sign.Sign.TheVariants as sign
use Rattle.tla_token.specs.Scan.{mark_front}

abbrev pub one_byte : Sign → code.Part
one_byte s = record { class = class.Sign s; len = 1 }

pub is_semicolon : (rest : List ℕ) → mark_front (59 ∷ rest) ≡ one_byte sign.Semicolon
unfolding mark_front
is_semicolon rest = refl

pub is_comma : (rest : List ℕ) → mark_front (44 ∷ rest) ≡ one_byte sign.Comma
unfolding mark_front
is_comma rest = refl

pub is_open_round : (rest : List ℕ) → mark_front (40 ∷ rest) ≡ one_byte sign.OpenRound
unfolding mark_front
is_open_round rest = refl

pub is_close_round : (rest : List ℕ) → mark_front (41 ∷ rest) ≡ one_byte sign.CloseRound
unfolding mark_front
is_close_round rest = refl

pub is_close_square : (rest : List ℕ) → mark_front (93 ∷ rest) ≡ one_byte sign.CloseSquare
unfolding mark_front
is_close_square rest = refl

pub is_open_curly : (rest : List ℕ) → mark_front (123 ∷ rest) ≡ one_byte sign.OpenCurly
unfolding mark_front
is_open_curly rest = refl

pub is_close_curly : (rest : List ℕ) → mark_front (125 ∷ rest) ≡ one_byte sign.CloseCurly
unfolding mark_front
is_close_curly rest = refl

pub is_plus : (rest : List ℕ) → mark_front (43 ∷ rest) ≡ one_byte sign.Plus
unfolding mark_front
is_plus rest = refl

pub is_times : (rest : List ℕ) → mark_front (42 ∷ rest) ≡ one_byte sign.Times
unfolding mark_front
is_times rest = refl

pub is_percent : (rest : List ℕ) → mark_front (37 ∷ rest) ≡ one_byte sign.Percent
unfolding mark_front
is_percent rest = refl

pub is_not : (rest : List ℕ) → mark_front (126 ∷ rest) ≡ one_byte sign.Not
unfolding mark_front
is_not rest = refl

pub is_bang : (rest : List ℕ) → mark_front (33 ∷ rest) ≡ one_byte sign.Bang
unfolding mark_front
is_bang rest = refl

pub is_not_equal : (rest : List ℕ) → mark_front (35 ∷ rest) ≡ one_byte sign.NotEqual
unfolding mark_front
is_not_equal rest = refl

pub lone : (t : List ℕ) (s : Sign) → 0 < length t → ((rest : List ℕ) → mark_front (get_or t 0 0 ∷ rest) ≡ one_byte s) → one_byte s ≡ mark_front t
lone [] s l h = absurd (omega arith)
lone (b ∷ t) s l h = sym (h t)

-- ---- by two bytes

abbrev pub two_bytes : Sign → code.Part
two_bytes s = record { class = class.Sign s; len = 2 }

apart : (k c : ℕ) → (c ≡ k → ⊥) → nat_eq k c ≡ false
apart k c h = false_from_ne_true (nat_eq k c) (λ t. h (sym (eqb-true k c t)))

pub before_assign : (c : ℕ) (rest : List ℕ) → c ≡ 61 → mark_front (58 ∷ c ∷ rest) ≡ two_bytes sign.Assign
unfolding mark_front
before_assign c rest e = rw e refl

pub before_colon : (c : ℕ) (rest : List ℕ) → (c ≡ 61 → ⊥) → (c ≡ 62 → ⊥) → mark_front (58 ∷ c ∷ rest) ≡ one_byte sign.Colon
unfolding mark_front
before_colon c rest h j = rw (apart 61 c h, apart 62 c j) refl

pub before_defined : (c : ℕ) (rest : List ℕ) → c ≡ 61 → mark_front (61 ∷ c ∷ rest) ≡ two_bytes sign.Defined
unfolding mark_front
before_defined c rest e = rw e refl

pub before_implies : (c : ℕ) (rest : List ℕ) → c ≡ 62 → mark_front (61 ∷ c ∷ rest) ≡ two_bytes sign.Implies
unfolding mark_front
before_implies c rest e = rw e refl

pub before_equal : (c : ℕ) (rest : List ℕ) → (c ≡ 61 → ⊥) → (c ≡ 62 → ⊥) → (c ≡ 60 → ⊥) → mark_front (61 ∷ c ∷ rest) ≡ one_byte sign.Equal
unfolding mark_front
before_equal c rest h j k = rw (apart 61 c h, apart 62 c j, apart 60 c k) refl

pub before_range : (c : ℕ) (rest : List ℕ) → c ≡ 46 → mark_front (46 ∷ c ∷ rest) ≡ two_bytes sign.Range
unfolding mark_front
before_range c rest e = rw e refl

pub before_dot : (c : ℕ) (rest : List ℕ) → (c ≡ 46 → ⊥) → mark_front (46 ∷ c ∷ rest) ≡ one_byte sign.Dot
unfolding mark_front
before_dot c rest h = rw (apart 46 c h) refl

pub before_box : (c : ℕ) (rest : List ℕ) → c ≡ 93 → mark_front (91 ∷ c ∷ rest) ≡ two_bytes sign.Box
unfolding mark_front
before_box c rest e = rw e refl

pub before_open_square : (c : ℕ) (rest : List ℕ) → (c ≡ 93 → ⊥) → mark_front (91 ∷ c ∷ rest) ≡ one_byte sign.OpenSquare
unfolding mark_front
before_open_square c rest h = rw (apart 93 c h) refl

pub before_arrow : (c : ℕ) (rest : List ℕ) → c ≡ 62 → mark_front (45 ∷ c ∷ rest) ≡ two_bytes sign.Arrow
unfolding mark_front
before_arrow c rest e = rw e refl

pub before_minus : (c : ℕ) (rest : List ℕ) → (c ≡ 62 → ⊥) → mark_front (45 ∷ c ∷ rest) ≡ one_byte sign.Minus
unfolding mark_front
before_minus c rest h = rw (apart 62 c h) refl

pub near : (t : List ℕ) (p : code.Part) → 2 ≤ length t → ((rest : List ℕ) → mark_front (get_or t 0 0 ∷ get_or t 1 0 ∷ rest) ≡ p) → p ≡ mark_front t
near [] p l h = absurd (omega arith)
near (a ∷ []) p l h = absurd (omega arith)
near (a ∷ b ∷ t) p l h = sym (h t)
