-- A printed algorithm, read back: its tokens spell it, and nothing else, in its syntax alone.
use Rattle.std.proofs.Common.{◌≡◌, false, true, List, [], length, Ok, refl, sym, ap, subst, ◌∙◌}
use Rattle.tla_token.specs.Tokens.{TokAlgorithm, holds_mark}
use Rattle.tla_token.specs.Tokens as text
use Rattle.tla_token.proofs.Unique.{one_algorithm}
use Rattle.tla_tree.specs.Lexical.{Token}
use Rattle.pcal_tree.specs.Algorithm.{Algorithm}
use Rattle.pcal_tree.specs.AlgorithmTokens.{views}
use Rattle.pcal_tree.specs.Placeless.{placeless}
use Rattle.pcal_tree.specs.Grammar.{Syntax, p_syntax, c_syntax, Text, spell, algorithm_of, Spells}
use Rattle.pcal_tree.specs.Printed.{PText, CText, printed}
use Rattle.p_reading.specs.ReadAlgorithm as p
use Rattle.p_reading.proofs.WholeAlgorithm as p_whole
use Rattle.c_reading.specs.ReadAlgorithm as c
use Rattle.c_reading.proofs.WholeAlgorithm as c_whole
use Rattle.c_reading.proofs.OneSyntax.{no_tree_in_both}
use Rattle.module_tree.specs.laws.Swaps.{is_paired}
use Rattle.printed_text.specs.laws.Printable.{IsPrintable}
use Rattle.printed_text.proofs.WholeText.{printed_at}
use Rattle.printed_text.proofs.PrintedBare.{same_printed}
use Rattle.printed_text.proofs.Paired.{paired_of}

pub spelled : (s : Syntax) (a : Algorithm) → IsPrintable a → (ts : List text.Token) × (b : Algorithm) × TokAlgorithm (printed s a) 0 (length (printed s a)) ts × Spells s ts b × (placeless b ≡ placeless a)
spelled s a h = (let x = printed_at s a h in (x.tokens, algorithm_of x.form, x.cut, (x.form, x.good, x.spelled, refl), x.same))

-- the tokens that the text has spell it
spelled_so : (s : Syntax) (a : Algorithm) (ts : List text.Token) → IsPrintable a → TokAlgorithm (printed s a) 0 (length (printed s a)) ts → (b : Algorithm) × Spells s ts b × (placeless b ≡ placeless a)
spelled_so s a ts h k =
    let x = spelled s a h in
    (x.1, subst (λ (us : List text.Token). Spells s us x.1) (one_algorithm (printed s a) 0 (length (printed s a)) x.0 ts x.2 k) x.3, x.4)

-- ---- nothing else

pub one_tree : (s : Syntax) (ts : List text.Token) (a b : Algorithm) → Spells s ts a → Spells s ts b → a ≡ b
one_tree p_syntax ts a b h k = p_whole.one_tree ts a b h k
one_tree c_syntax ts a b h k = c_whole.one_tree ts a b h k

pub one_syntax : (s t : Syntax) (ts : List text.Token) (a b : Algorithm) → Spells s ts a → Spells t ts b → t ≡ s
one_syntax p_syntax p_syntax ts a b h k = refl
one_syntax p_syntax c_syntax ts a b h k = absurd (no_tree_in_both ts a b h k)
one_syntax c_syntax p_syntax ts a b h k = absurd (no_tree_in_both ts b a k h)
one_syntax c_syntax c_syntax ts a b h k = refl

pub only : (s t : Syntax) (a b : Algorithm) (ts : List text.Token) → IsPrintable a → TokAlgorithm (printed s a) 0 (length (printed s a)) ts → Spells t ts b → (t ≡ s) × (placeless b ≡ placeless a)
only s t a b ts h k e =
    let x = spelled_so s a ts h k in
    let same = one_syntax s t ts x.0 b x.1 e in
    (same, ap placeless (one_tree s ts b x.0 (subst (λ (s : Syntax). Spells s ts b) same e) x.1) ∙ x.2)

pub one : (s t : Syntax) (a b : Algorithm) → IsPrintable a → IsPrintable b → printed s a ≡ printed t b → (t ≡ s) × (placeless a ≡ placeless b)
one s t a b h k e =
    let x = spelled s a h in
    let y = only t s b x.1 x.0 k (subst (λ w. TokAlgorithm w 0 (length w) x.0) e x.2) x.3 in
    (sym y.0, sym x.4 ∙ y.1)

-- ---- reading

pub read_p : (a : Algorithm) (ts : List text.Token) → IsPrintable a → TokAlgorithm (PText a) 0 (length (PText a)) ts → (x : Text) × (p.read_algorithm (views ts) ≡ Ok (x, [])) × (placeless (algorithm_of x) ≡ placeless a)
read_p a ts h k =
    let r = spelled_so p_syntax a ts h k in
    (r.1.0, ap (λ (us : List Token). p.read_algorithm us) r.1.2 ∙ p_whole.spelled_is_read r.1.0 r.1.1, ap placeless r.1.3 ∙ r.2)

pub read_c : (a : Algorithm) (ts : List text.Token) → IsPrintable a → TokAlgorithm (CText a) 0 (length (CText a)) ts → (x : Text) × (c.read_algorithm (views ts) ≡ Ok (x, [])) × (placeless (algorithm_of x) ≡ placeless a)
read_c a ts h k =
    let r = spelled_so c_syntax a ts h k in
    (r.1.0, ap (λ (us : List Token). c.read_algorithm us) r.1.2 ∙ c_whole.spelled_is_read r.1.0 r.1.1, ap placeless r.1.3 ∙ r.2)

-- ---- printed again

-- what is spelled in the text has the same text
pub again : (s t : Syntax) (a b : Algorithm) (ts : List text.Token) → IsPrintable a → TokAlgorithm (printed s a) 0 (length (printed s a)) ts → Spells s ts b → printed t b ≡ printed t a
again s t a b ts h k e = same_printed t b a (only s s a b ts h k e).1

pub back : (s t : Syntax) (a b c : Algorithm) (ts us : List text.Token) → IsPrintable a → TokAlgorithm (printed s a) 0 (length (printed s a)) ts → Spells s ts b
    → TokAlgorithm (printed t b) 0 (length (printed t b)) us → Spells t us c → (placeless c ≡ placeless a) × (printed s c ≡ printed s a)
back s t a b c us vs h k e there f =
    let same = again s t a b us h k e in
    let x = only t t a c vs h (subst (λ w. TokAlgorithm w 0 (length w) vs) same there) f in
    (x.1, same_printed s c a x.1)

pub some_back : (s t : Syntax) (a b : Algorithm) (ts : List text.Token) → IsPrintable a → TokAlgorithm (printed s a) 0 (length (printed s a)) ts → Spells s ts b
    → (us : List text.Token) × (c : Algorithm) × TokAlgorithm (printed t b) 0 (length (printed t b)) us × Spells t us c
some_back s t a b ts h k e =
    let same = again s t a b ts h k e in
    let x = spelled t a h in
    (x.0, x.1, subst (λ w. TokAlgorithm w 0 (length w) x.0) (sym same) x.2, x.3)

-- ---- comments

pub unmarked : (s : Syntax) (a : Algorithm) → IsPrintable a → holds_mark (printed s a) ≡ false
unmarked s a h = (printed_at s a h).clear

pub paired : (s : Syntax) (a : Algorithm) → IsPrintable a → is_paired 0 (printed s a) ≡ true
paired s a h = (let x = printed_at s a h in paired_of (printed s a) x.ends x.clear)
