-- Each token that is written is the text of a token.
use Rattle.std.proofs.Common.{◌≡◌, ℕ, ◌+◌, ◌*◌, ◌-◌, ◌/◌, ◌%◌, ◌^◌, ◌<◌, ◌≤◌, Bool, true, false, ◌||◌, ◌&&◌, nat_le, nat_eq, List, [], ◌∷◌, ◌++◌, length, Some, codes, if◌then◌else◌, refl, sym, ap, ◌∙◌, arith, length-append, inl, inr}
use Rattle.std.specs.Str.{bytes_eq}
use Rattle.std.specs.List.{list_all}
use Rattle.std.specs.Fmt.{decimal}
use Rattle.std.proofs.lemmas.Fmt.{decimal_by_steps_wide}
use Rattle.std.proofs.lemmas.List.Sums.{fold-append}
use Rattle.std.proofs.lemmas.Bool.{and_parts, and_from, or_cases, le-leb, eqb-true, both_ways, not-true, or_parts}
use Rattle.tla_token.specs.declared.sign.Sign.TheVariants as sign
use Rattle.tla_token.specs.Signs.{is_among}
use Rattle.tla_token.specs.Words.{is_pluscal_word, is_tla_word, is_reserved, tla_words}
use Rattle.tla_token.specs.Lexemes.{name, number, string, one, number_of, is_digit, unquoted}
use Rattle.tla_token.specs.Lexemes as lexeme
use Rattle.tla_token.proofs.Spelled.{same_bytes}
use Rattle.tla_token.proofs.Words.{all_append}
use Rattle.tla_tree.specs.declared.op.Op.{Op}
use Rattle.tla_tree.specs.declared.op.Op.TheVariants as op
use Rattle.tla_tree.specs.Tree.{Word}
use Rattle.tla_tree.specs.Lexical.{Mark, Key, Constant, TokenView, sign_of, field_kind, escaped, escapes}
use Rattle.tla_tree.specs.Lexical as tk
use Rattle.tla_tree.specs.TokenViews.{kind_among, word_kinds, word_kind}
use Rattle.tla_tree.specs.laws.Writable.{IsIdentifier, IsField, is_spellable, IsString, IsSpelled}

-- ---- signs, marks and words of the language
pub mark_spelled : (m : Mark) → IsSpelled (tk.mark m)
mark_spelled tk.maps = (one sign.MapsTo, refl, refl)
mark_spelled tk.arrow = (one sign.Arrow, refl, refl)
mark_spelled tk.defines = (one sign.Defined, refl, refl)
mark_spelled tk.open_tuple = (one sign.OpenTuple, refl, refl)
mark_spelled tk.close_tuple = (one sign.CloseTuple, refl, refl)
mark_spelled tk.box = (one sign.Box, refl, refl)
mark_spelled tk.colon = (one sign.Colon, refl, refl)
mark_spelled tk.comma = (one sign.Comma, refl, refl)
mark_spelled tk.dot = (one sign.Dot, refl, refl)
mark_spelled tk.open_bracket = (one sign.OpenRound, refl, refl)
mark_spelled tk.close_bracket = (one sign.CloseRound, refl, refl)
mark_spelled tk.open_square = (one sign.OpenSquare, refl, refl)
mark_spelled tk.close_square = (one sign.CloseSquare, refl, refl)
mark_spelled tk.open_brace = (one sign.OpenCurly, refl, refl)
mark_spelled tk.close_brace = (one sign.CloseCurly, refl, refl)
mark_spelled tk.bang = (one sign.Bang, refl, refl)
mark_spelled tk.assigns = (one sign.Assign, refl, refl)
mark_spelled tk.beside = (one sign.Parallel, refl, refl)
mark_spelled tk.semicolon = (one sign.Semicolon, refl, refl)
mark_spelled tk.prime = (lexeme.other (codes "'"), (refl, refl), refl)

pub key_spelled : (k : Key) → IsSpelled (tk.key k)
key_spelled tk.if_key = (name (codes "IF"), (refl, (refl, refl)), refl)
key_spelled tk.then_key = (name (codes "THEN"), (refl, (refl, refl)), refl)
key_spelled tk.else_key = (name (codes "ELSE"), (refl, (refl, refl)), refl)
key_spelled tk.case_key = (name (codes "CASE"), (refl, (refl, refl)), refl)
key_spelled tk.other_key = (name (codes "OTHER"), (refl, (refl, refl)), refl)
key_spelled tk.let_key = (name (codes "LET"), (refl, (refl, refl)), refl)
key_spelled tk.in_key = (name (codes "IN"), (refl, (refl, refl)), refl)
key_spelled tk.except_key = (name (codes "EXCEPT"), (refl, (refl, refl)), refl)
key_spelled tk.for_all_key = (one sign.ForAll, refl, refl)
key_spelled tk.exists_key = (one sign.Exists, refl, refl)

pub constant_spelled : (c : Constant) → IsSpelled (tk.constant c)
constant_spelled (tk.truth true) = (name (codes "TRUE"), (refl, (refl, refl)), refl)
constant_spelled (tk.truth false) = (name (codes "FALSE"), (refl, (refl, refl)), refl)
constant_spelled tk.booleans = (name (codes "BOOLEAN"), (refl, (refl, refl)), refl)
constant_spelled tk.strings = (name (codes "STRING"), (refl, (refl, refl)), refl)

pub sign_spelled : (o : Op) → IsSpelled (sign_of o)
sign_spelled op.Implies = (one sign.Implies, refl, refl)
sign_spelled op.Equivalent = (one sign.Equivalent, refl, refl)
sign_spelled op.And = (one sign.And, refl, refl)
sign_spelled op.Or = (one sign.Or, refl, refl)
sign_spelled op.Not = (one sign.Not, refl, refl)
sign_spelled op.Equal = (one sign.Equal, refl, refl)
sign_spelled op.NotEqual = (one sign.NotEqual, refl, refl)
sign_spelled op.Less = (one sign.Less, refl, refl)
sign_spelled op.Greater = (one sign.Greater, refl, refl)
sign_spelled op.AtMost = (one sign.AtMost, refl, refl)
sign_spelled op.AtLeast = (one sign.AtLeast, refl, refl)
sign_spelled op.In = (one sign.In, refl, refl)
sign_spelled op.NotIn = (one sign.NotIn, refl, refl)
sign_spelled op.SubsetEq = (one sign.SubsetEq, refl, refl)
sign_spelled op.Override = (one sign.Override, refl, refl)
sign_spelled op.MapsTo = (one sign.Pair, refl, refl)
sign_spelled op.Cup = (one sign.Cup, refl, refl)
sign_spelled op.Cap = (one sign.Cap, refl, refl)
sign_spelled op.Without = (one sign.Without, refl, refl)
sign_spelled op.Range = (one sign.Range, refl, refl)
sign_spelled op.Plus = (one sign.Plus, refl, refl)
sign_spelled op.Modulo = (one sign.Percent, refl, refl)
sign_spelled op.Minus = (one sign.Minus, refl, refl)
sign_spelled op.Times = (one sign.Times, refl, refl)
sign_spelled op.Concat = (one sign.Concat, refl, refl)
sign_spelled op.Divide = (one sign.Divide, refl, refl)
sign_spelled op.Negate = (one sign.Minus, refl, refl)
sign_spelled op.Subset = (name (codes "SUBSET"), (refl, (refl, refl)), refl)
sign_spelled op.Union = (name (codes "UNION"), (refl, (refl, refl)), refl)
sign_spelled op.Domain = (name (codes "DOMAIN"), (refl, (refl, refl)), refl)

-- ---- names and fields
no_kind : (ps : List (Word × TokenView)) (w : Word) (k : TokenView) → list_all (λ (p : Word × TokenView). is_among tla_words p.0) ps ≡ true → is_among tla_words w ≡ false → kind_among ps w k ≡ k
no_kind [] w k h n = refl
no_kind (p ∷ ps) w k h n = by (bytes_eq p.0 w) refl (no_kind ps w k a.1 n)
  where
    a : (is_among tla_words p.0 ≡ true) × (list_all (λ (p : Word × TokenView). is_among tla_words p.0) ps ≡ true)
    a = and_parts (is_among tla_words p.0) (list_all (λ (p : Word × TokenView). is_among tla_words p.0) ps) h

    by : (b : Bool) → bytes_eq p.0 w ≡ b → kind_among ps w k ≡ k → (if b then p.1 else kind_among ps w k) ≡ k
    by true e i = (let same : p.0 ≡ w = same_bytes p.0 w e in absurd (both_ways (is_among tla_words w) n (ap (λ v. is_among tla_words v) (sym same) ∙ a.0)))
    by false e i = i

no_tla : (x : Word) → is_tla_word x ≡ false → is_pluscal_word x ≡ false → word_kind x ≡ tk.word x
no_tla x t p = rw (p, t) (no_kind word_kinds x (tk.word x) refl (or_parts (is_among tla_words x) _ t).0)

pub word_spelled : (x : Word) → IsIdentifier x → IsSpelled (tk.word x)
word_spelled x (n, r) =
    let f = not-true (is_reserved x) r in
    (name x, (refl, n), no_tla x (or_parts (is_pluscal_word x) (is_tla_word x) f).1 (or_parts (is_pluscal_word x) (is_tla_word x) f).0)

pub field_spelled : (x : Word) → IsField x → IsSpelled (field_kind (is_pluscal_word x) x)
field_spelled x (n, r) = by (is_pluscal_word x) refl
  where
    by : (b : Bool) → is_pluscal_word x ≡ b → IsSpelled (field_kind b x)
    by true p = (name x, (refl, n), rw p refl)
    by false p = (name x, (refl, n), no_tla x (not-true (is_tla_word x) r) p)

-- ---- strings
-- a character that is none of those with an escape, and is spellable
printed : (b : ℕ) → is_spellable b ≡ true → nat_eq b 9 ≡ false → nat_eq b 10 ≡ false → nat_eq b 12 ≡ false → nat_eq b 13 ≡ false → (nat_le 32 b && nat_le b 126) ≡ true
printed b h t l f r = elim (or_cases (nat_le 32 b && nat_le b 126) (nat_eq b 9 || (nat_eq b 10 || (nat_eq b 12 || nat_eq b 13))) h) [ inl i ↦ i | inr i ↦ absurd (both_ways (nat_eq b 9 || (nat_eq b 10 || (nat_eq b 12 || nat_eq b 13))) (rw (t, l, f, r) refl) i) ]

one_character : (b : ℕ) (bs rest : List ℕ) → is_spellable b ≡ true → unquoted rest ≡ Some bs → unquoted (escaped b ++ rest) ≡ Some (b ∷ bs)
one_character b bs rest h u = quote (nat_eq b 34) refl
  where
    at : (c : ℕ) → nat_eq b c ≡ true → c ≡ b
    at c e = sym (eqb-true b c e)

    return : nat_eq b 34 ≡ false → nat_eq b 92 ≡ false → nat_eq b 9 ≡ false → nat_eq b 10 ≡ false → nat_eq b 12 ≡ false → (c : Bool) → nat_eq b 13 ≡ c → unquoted (escaped b ++ rest) ≡ Some (b ∷ bs)
    return q s t l f true e = rw (sym (at 13 e)) (rw u refl)
    return q s t l f false e = rw (q, s, t, l, f, e) (rw (s, q, printed b h t l f e, u) refl)

    feed : nat_eq b 34 ≡ false → nat_eq b 92 ≡ false → nat_eq b 9 ≡ false → nat_eq b 10 ≡ false → (c : Bool) → nat_eq b 12 ≡ c → unquoted (escaped b ++ rest) ≡ Some (b ∷ bs)
    feed q s t l true e = rw (sym (at 12 e)) (rw u refl)
    feed q s t l false e = return q s t l e (nat_eq b 13) refl

    line : nat_eq b 34 ≡ false → nat_eq b 92 ≡ false → nat_eq b 9 ≡ false → (c : Bool) → nat_eq b 10 ≡ c → unquoted (escaped b ++ rest) ≡ Some (b ∷ bs)
    line q s t true e = rw (sym (at 10 e)) (rw u refl)
    line q s t false e = feed q s t e (nat_eq b 12) refl

    tab : nat_eq b 34 ≡ false → nat_eq b 92 ≡ false → (c : Bool) → nat_eq b 9 ≡ c → unquoted (escaped b ++ rest) ≡ Some (b ∷ bs)
    tab q s true e = rw (sym (at 9 e)) (rw u refl)
    tab q s false e = line q s e (nat_eq b 10) refl

    slash : nat_eq b 34 ≡ false → (c : Bool) → nat_eq b 92 ≡ c → unquoted (escaped b ++ rest) ≡ Some (b ∷ bs)
    slash q true e = rw (sym (at 92 e)) (rw u refl)
    slash q false e = tab q e (nat_eq b 9) refl

    quote : (c : Bool) → nat_eq b 34 ≡ c → unquoted (escaped b ++ rest) ≡ Some (b ∷ bs)
    quote true e = rw (sym (at 34 e)) (rw u refl)
    quote false e = slash e (nat_eq b 92) refl

pub escapes_read : (x : Word) → IsString x → unquoted (escapes x) ≡ Some x
escapes_read [] h = refl
escapes_read (b ∷ bs) h = (let k = and_parts (is_spellable b) (list_all is_spellable bs) h in one_character b bs (escapes bs) k.0 (escapes_read bs k.1))

pub string_spelled : (x : Word) → IsString x → IsSpelled (tk.string x)
string_spelled x h = (string x, (escapes x, refl, escapes_read x h), refl)

-- ---- numbers
-- digits, at least one, that stand for the number
pub record Spelled (n : ℕ) (ds : List ℕ) : Type 0 where
  pub some : 0 < length ds
  pub digits : list_all is_digit ds ≡ true
  pub value : number_of ds ≡ n

a_digit : (m : ℕ) → m < 10 → is_digit (48 + m) ≡ true
a_digit m l = and_from (nat_le 48 (48 + m)) (nat_le (48 + m) 57) (le-leb 48 (48 + m) (omega arith)) (le-leb (48 + m) 57 (omega arith))

one_digit : (m : ℕ) → m < 10 → Spelled m ((48 + m) ∷ [])
one_digit m l = record { some = omega arith; digits = and_from (is_digit (48 + m)) true (a_digit m l) refl; value = omega arith }

more_digits : (m : ℕ) (ds : List ℕ) → 10 ≤ m → Spelled (m / 10) ds → Spelled m (ds ++ ((48 + m % 10) ∷ []))
more_digits m ds l h =
    let d = a_digit (m % 10) (omega arith) in
    record {
      some = omega (arith, length-append ds ((48 + m % 10) ∷ []));
      digits = all_append is_digit ds ((48 + m % 10) ∷ []) h.digits (and_from (is_digit (48 + m % 10)) true d refl);
      value = omega (arith, fold-append (λ n b. 10 * n + (b - 48)) 0 ds ((48 + m % 10) ∷ []), h.value);
    }

pub decimal_spelled : (n : ℕ) → n < 2 ^ 127 → Spelled n (decimal n)
decimal_spelled n l = decimal_by_steps_wide (λ m ds. Spelled m ds) one_digit more_digits n (omega arith)

pub number_spelled : (n : ℕ) → n < 2 ^ 127 → IsSpelled (tk.number n)
number_spelled n l = (let w = decimal_spelled n l in (number n, (w.some, w.digits, w.value), refl))
