-- A printed text begins an algorithm in a file, before anything, and its comments are paired.
use Rattle.std.proofs.Common.{◌≡◌, ℕ, Bool, true, false, ◌&&◌, ◌||◌, nat_eq, [], ◌∷◌, ◌++◌, refl, sym, ap, ◌∙◌, append-nil, codes}
use Rattle.std.specs.Prelude.{if◌then◌else◌, is_some}
use Rattle.std.specs.List.{list_all, list_any, starts_with}
use Rattle.std.proofs.lemmas.Bool.{and_parts, or_parts}
use Rattle.tla_token.specs.Lexemes.{is_blank, is_word, is_letter}
use Rattle.tla_token.specs.Tokens.{holds_mark}
use Rattle.tla_token.proofs.Longest.{run_letter, same_first}
use Rattle.tla_token.proofs.Signed.{tells_apart}
use Rattle.tla_tree.specs.laws.InText.{ends_word}
use Rattle.pcal_tree.specs.Grammar.{Syntax, p_syntax, c_syntax}
use Rattle.pcal_tree.specs.Printed.{algorithm_word, printed}
use Rattle.module_tree.specs.TextFront.{Text, on_some, past_blanks, past_name}
use Rattle.module_tree.specs.Beginnings.{is_fair, opening, begins_algorithm}
use Rattle.module_tree.specs.laws.Swaps.{is_paired}
use Rattle.module_tree.proofs.AlgorithmTokens.{Ends as EndsComment}
use Rattle.printed_text.specs.Rewritten.{gap}
use Rattle.printed_text.proofs.WholeText.{front_word, is_calm_byte, Ends, needs}
use Rattle.printed_text.proofs.Paired.{paired_of}

-- ---- its first words and its name

pub fair_is : (b : Bool) (z : Text) → is_fair (algorithm_word b ++ z) ≡ b
fair_is false z = refl
fair_is true z = refl

pub opening_is : (b : Bool) (z : Text) → opening (algorithm_word b ++ z) ≡ front_word b
opening_is false z = refl
opening_is true z = refl

word_goes_on : (b : ℕ) → is_word b ≡ true → is_blank b ≡ false
word_goes_on b h = rw (tells_apart is_word b 32 h refl, tells_apart is_word b 9 h refl, tells_apart is_word b 10 h refl, tells_apart is_word b 13 h refl) refl

name_there : (x z : Text) → list_all is_word x ≡ true → list_any is_letter x ≡ true → is_some (on_some (past_blanks is_blank (32 ∷ (x ++ z))) past_name) ≡ true
name_there [] z h l = absurd cc
name_there (b ∷ x) z h l =
    let w = word_goes_on b (and_parts (is_word b) (list_all is_word x) h).0 in
    let there = run_letter ((b ∷ x) ++ z) (b ∷ x) z refl h l in
    rw (w, there) refl

pub begins_is : (b : Bool) (x z : Text) → list_all is_word x ≡ true → list_any is_letter x ≡ true → begins_algorithm (algorithm_word b ++ (x ++ z)) ≡ true
begins_is false x z h l = name_there x z h l
begins_is true x z h l = name_there x z h l

-- ---- a blank after it

and_false : (k : Bool) → (k && false) ≡ false
and_false true = refl
and_false false = refl

-- two bytes begin a text that ends in a blank only where they begin it without
before_blank : (a c b : ℕ) (v : Text) → nat_eq c 32 ≡ false → starts_with nat_eq (b ∷ v) (a ∷ c ∷ []) ≡ false → starts_with nat_eq (b ∷ (v ++ 32 ∷ [])) (a ∷ c ∷ []) ≡ false
before_blank a c b [] n h = rw n (and_false (nat_eq a b))
before_blank a c b (d ∷ v) n h = h

no_mark : (p q r : Bool) → p ≡ false → q ≡ false → r ≡ false → (p || q || r) ≡ false
no_mark p q r e f g = rw (e, f, g) refl

blank_clear : (v : Text) → holds_mark v ≡ false → holds_mark (v ++ 32 ∷ []) ≡ false
blank_clear [] h = refl
blank_clear (b ∷ v) h =
    let p = or_parts (starts_with nat_eq (b ∷ v) (codes "(*") || starts_with nat_eq (b ∷ v) (codes "*)")) (holds_mark v) h in
    let q = or_parts (starts_with nat_eq (b ∷ v) (codes "(*")) (starts_with nat_eq (b ∷ v) (codes "*)")) p.0 in
    no_mark (starts_with nat_eq (b ∷ (v ++ 32 ∷ [])) (codes "(*")) (starts_with nat_eq (b ∷ (v ++ 32 ∷ [])) (codes "*)")) (holds_mark (v ++ 32 ∷ []))
    (before_blank 40 42 b v refl q.0) (before_blank 42 41 b v refl q.1) (blank_clear v p.1)

blank_paired : (v : Text) → holds_mark v ≡ false → is_paired 0 (v ++ 32 ∷ []) ≡ true
blank_paired v h = paired_of (v ++ 32 ∷ []) (record { before = v; byte = 32; is = refl; calm = refl }) (blank_clear v h)

pub gap_paired : (s : Syntax) (v rest : Text) → Ends v → holds_mark v ≡ false → is_paired 0 (v ++ gap s rest) ≡ true
gap_paired c_syntax v rest e h = ap (is_paired 0) (append-nil v) ∙ paired_of v e h
gap_paired p_syntax v rest e h = by (ends_word rest)
  where
    by : (k : Bool) → is_paired 0 (v ++ (if k then [] else codes " ")) ≡ true
    by true = ap (is_paired 0) (append-nil v) ∙ paired_of v e h
    by false = blank_paired v h

-- what is needed after the last word
gap_needs : (s : Syntax) (rest : Text) → needs s (gap s rest ++ rest) ≡ true
gap_needs c_syntax rest = refl
gap_needs p_syntax rest = by (ends_word rest) refl
  where
    by : (k : Bool) → ends_word rest ≡ k → ends_word ((if k then [] else codes " ") ++ rest) ≡ true
    by true k = k
    by false k = refl

needs_less : (s : Syntax) (c r : Text) → needs s (c ++ r) ≡ true → needs s c ≡ true
needs_less c_syntax c r h = refl
needs_less p_syntax [] r h = refl
needs_less p_syntax (b ∷ c) r h = h

pub gap_there : (s : Syntax) (rest c r : Text) → gap s rest ++ rest ≡ c ++ r → needs s c ≡ true
gap_there s rest c r e = needs_less s c r (ap (needs s) (sym e) ∙ gap_needs s rest)

-- ---- it ends within its comment

abbrev calm_last : Text → Bool
calm_last [] = true
calm_last (b ∷ []) = is_calm_byte b
calm_last (b ∷ c ∷ s) = calm_last (c ∷ s)

last_calm : (v : Text) (b : ℕ) → is_calm_byte b ≡ true → calm_last (v ++ b ∷ []) ≡ true
last_calm [] b h = h
last_calm (c ∷ []) b h = h
last_calm (c ∷ d ∷ v) b h = last_calm (d ∷ v) b h

calm_rest : (b : ℕ) (p : Text) → calm_last (b ∷ p) ≡ true → calm_last p ≡ true
calm_rest b [] h = refl
calm_rest b (c ∷ p) h = h

-- the comment ends after it
pub record Within (v r p e : Text) : Type 0 where
  pub more : Text
  pub is : v ≡ p ++ more
  pub rest : e ≡ more ++ r

marked_first : (p : Text) (b c : ℕ) → b ≡ 42 → c ≡ 41 → holds_mark (b ∷ c ∷ p) ≡ true
marked_first p b c e f = rw (e, f) refl

within_calm : (v r p e : Text) → EndsComment r → v ++ r ≡ p ++ e → holds_mark p ≡ false → calm_last p ≡ true → Within v r p e
within_calm v r [] e h x m k = record { more = v; is = refl; rest = sym x }
within_calm [] [] (b ∷ p) e h x m k = absurd cc
within_calm [] (a ∷ []) (b ∷ p) e h x m k = absurd h
within_calm [] (a ∷ d ∷ r) (b ∷ []) e h x m k =
    let same : b ≡ 42 = sym (same_first a b (d ∷ r) e x).0 ∙ h.0 in
    let no : is_calm_byte 42 ≡ true = ap is_calm_byte (sym same) ∙ k in
    absurd cc
within_calm [] (a ∷ d ∷ r) (b ∷ c ∷ p) e h x m k =
    let first = same_first a b (d ∷ r) (c ∷ (p ++ e)) x in
    let second = same_first d c r (p ++ e) first.1 in
    let marked = marked_first p b c (sym first.0 ∙ h.0) (sym second.0 ∙ h.1) in
    let no : false ≡ true = sym m ∙ marked in
    absurd cc
within_calm (c ∷ v) r (b ∷ p) e h x m k =
    let first = same_first c b (v ++ r) (p ++ e) x in
    let less = or_parts (starts_with nat_eq (b ∷ p) (codes "(*") || starts_with nat_eq (b ∷ p) (codes "*)")) (holds_mark p) m in
    let deeper = within_calm v r p e h first.1 less.1 (calm_rest b p k) in
    record { more = deeper.more; is = (λ i. first.0 i ∷ deeper.is i); rest = deeper.rest }

pub within : (v r p e : Text) → EndsComment r → v ++ r ≡ p ++ e → holds_mark p ≡ false → Ends p → Within v r p e
within v r p e h x m k = within_calm v r p e h x m (ap calm_last k.is ∙ last_calm k.before k.byte k.calm)
