-- What is spelled is read: what it takes of steps, and how readers that are made of others do it.
use Rattle.std.proofs.Common.{◌≡◌, ℕ, suc, ◌≤◌, ◌*◌, Bool, true, false, nat_lt, List, [], ◌∷◌, length, None, Ok, if◌then◌else◌, refl, ap, ◌∙◌, arith}
use Rattle.tla_tree.specs.Lexical.{TokenView, Token}
use Rattle.tla_tree.specs.Lexical as tk
use Rattle.tla_tree.specs.Spelling.{Phrase, Phrases, spell, spell_all, IsGood, GoodAll}
use Rattle.tla_tree.specs.Reader.{Out, Reader, then_read, next, readers}
use Rattle.tla_tree.specs.laws.Following.{is_calm}
use Rattle.tla_tree.proofs.Steps.{few, few_all}
use Rattle.tla_tree.proofs.ReadPhrases.{closed, is_end}
use Rattle.tla_tree.proofs.ReadAll as whole
use Rattle.syntax_reading.specs.TokenReaders.{first, Parts, parts_of}

-- ---- steps enough: n for the members of lists, and m for the tokens of expressions
pub record Fits (n m : ℕ) (ts : List Token) : Type 0 where
  pub list : length ts ≤ n
  pub all : length ts ≤ m

pub smaller : {n m : ℕ} {ts us : List Token} → length us ≤ length ts → Fits n m ts → Fits n m us
smaller l f = record { list = omega (arith, l, f.list); all = omega (arith, l, f.all) }

pub less : {n m : ℕ} {ts us : List Token} → suc (length us) ≤ length ts → Fits (suc n) m ts → Fits n m us
less l f = record { list = omega (arith, l, f.list); all = omega (arith, l, f.all) }

-- ---- one after the other
pub then_is : {A B : Type 0} {q : Out A} (f : A → Reader B) {us : List Token} {a : A} {o : Out B} → q ≡ Ok (a, us) → f a us ≡ o → then_read q f ≡ o
then_is {A} f e h = ap (λ (x : Out A). then_read x f) e ∙ h

-- ---- what may follow
-- words alone
abbrev pub is_word_next : TokenView → Bool
is_word_next (tk.reserved w) = true
is_word_next k = false

-- words and `;`
abbrev pub is_after : TokenView → Bool
is_after (tk.reserved w) = true
is_after (tk.mark tk.semicolon) = true
is_after k = false

-- words, separators and `)`
abbrev pub is_divider : TokenView → Bool
is_divider (tk.reserved w) = true
is_divider (tk.mark tk.semicolon) = true
is_divider (tk.mark tk.comma) = true
is_divider (tk.mark tk.close_bracket) = true
is_divider k = false

pub word_after : (k : TokenView) → is_word_next k ≡ true → is_after k ≡ true
word_after (tk.reserved w) h = refl
word_after k h = absurd cc

pub word_divides : (k : TokenView) → is_word_next k ≡ true → is_divider k ≡ true
word_divides (tk.reserved w) h = refl
word_divides k h = absurd cc

pub divider_calm : (k : TokenView) → is_divider k ≡ true → is_calm k ≡ true
divider_calm (tk.reserved w) h = refl
divider_calm (tk.mark tk.semicolon) h = refl
divider_calm (tk.mark tk.comma) h = refl
divider_calm (tk.mark tk.close_bracket) h = refl
divider_calm k h = absurd cc

pub after_calm : (k : TokenView) → is_after k ≡ true → is_calm k ≡ true
after_calm (tk.reserved w) h = refl
after_calm (tk.mark tk.semicolon) h = refl
after_calm k h = absurd cc

-- ---- expressions
at_edge : (f : TokenView → Bool) → f (tk.other []) ≡ true → (ts : List Token) → f (first ts).kind ≡ true → f (next 0 ts).kind ≡ true
at_edge f e [] h = e
at_edge f e (t ∷ ts) h = by (nat_lt 0 t.place.col)
  where
    by : (b : Bool) → f (if b then t else first []).kind ≡ true
    by true = h
    by false = e

-- the readers of expressions, for so many tokens
pub record WholeParts (m : ℕ) (r : Parts) : Type 0 where
  pub room : (d : ℕ) → r.room d ≡ true
  pub expr : (a : Phrase) → IsGood a → (ts : List Token) → is_calm (first ts).kind ≡ true → length (spell a ts) ≤ m → r.expr (spell a ts) ≡ Ok (a, ts)
  pub arguments : (xs : Phrases) → GoodAll 0 xs → (ts : List Token) → is_end (first ts).kind ≡ true → length (spell_all xs ts) ≤ m → r.arguments (spell_all xs ts) ≡ Ok (xs, ts)
  pub subscripts : (xs : Phrases) → GoodAll 0 xs → (ts : List Token) → is_end (first ts).kind ≡ true → length (spell_all xs ts) ≤ m → r.subscripts (spell_all xs ts) ≡ Ok (xs, ts)

pub parts_whole : (m : ℕ) → WholeParts m (parts_of (readers (4 * m) None))
parts_whole m = record {
  room = λ d. refl;
  expr = λ a g ts c l. closed a (whole.reads a) 0 g ts (at_edge is_calm refl ts c) (4 * m) (omega (arith, l, few a ts));
  arguments = λ xs g ts c l. whole.reads_all xs 0 g ts (at_edge is_end refl ts c) (4 * m) (omega (arith, l, few_all xs ts));
  subscripts = λ xs g ts c l. whole.reads_all xs 0 g ts (at_edge is_end refl ts c) (4 * m) (omega (arith, l, few_all xs ts));
}
