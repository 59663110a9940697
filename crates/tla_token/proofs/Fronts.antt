-- The part in front of a text, by its first bytes.
use Rattle.std.proofs.Common.{◌≡◌, ℕ, zero, suc, ◌+◌, ◌<◌, Bool, true, false, not, ◌&&◌, nat_eq, List, [], ◌∷◌, length, get_or, take, drop, Option, Some, None, codes, refl, sym, ap, ◌∙◌, arith}
use Rattle.std.specs.List.{list_any, starts_with}
use Rattle.std.specs.Option.{option_map, unwrap_or}
use Rattle.std.proofs.Math.Seq.{take-append_seam}
use Rattle.std.proofs.lemmas.Bool.{eqb-true, false_from_ne_true, both_ways}
use Rattle.tla_token.specs.declared.sign.Sign.{Sign}
use Rattle.tla_token.specs.declared.part.Class.TheVariants as class
use Rattle.tla_token.specs.declared.part.Part as code
use Rattle.tla_token.specs.Signs.{spellings}
use Rattle.tla_token.specs.Lexemes.{name, number, number_of, is_blank, is_word, is_letter, is_digit, is_printed}
use Rattle.tla_token.specs.Tokens.{lexeme}
use Rattle.tla_token.specs.Offences.{Part, sound, string_len}
use Rattle.tla_token.specs.Cut.{run, part_by, lexeme_part, string_part, block_part, comment_len, or_other, sign_of, sign_at, sign_part, sign_bytes, spelling_at}
use Rattle.tla_token.specs.Scan.{outline, front_by, front, lexeme_front, mark_front, worded}
use Rattle.tla_token.proofs.Words.{one_plus, run_splits}
use Rattle.tla_token.proofs.Signed.{to_marks}

run_taken : (p : ℕ → Bool) (bs : List ℕ) → take (length (run p bs)) bs ≡ run p bs
run_taken p bs =
    let s = run_splits p bs in
    ap (take (length (run p bs))) s.1 ∙ take-append_seam (run p bs) s.0

abbrev Lexemes : Type 0
Lexemes = ℕ → List ℕ → Part

pub some_there : (n : ℕ) (k : Bool) → k ≡ nat_eq n 0 → k ≡ false → 0 < n
some_there zero k e f = absurd (both_ways k f e)
some_there (suc n) k e f = omega arith

pub other_byte : (b c : ℕ) → (b ≡ c → ⊥) → nat_eq b c ≡ false
other_byte b c n = false_from_ne_true (nat_eq b c) (λ e. n (eqb-true b c e))

pub front_end : (t : List ℕ) → length t ≡ 0 → (f : Lexemes) → front_by (part_by f) t ≡ front_by f t
front_end [] l f = refl
front_end (b ∷ bs) l f = absurd (omega arith)

pub front_blank : (t : List ℕ) → 0 < length t → is_blank (get_or t 0 0) ≡ true → (f : Lexemes) → front_by (part_by f) t ≡ Some (record { class = class.Blank; len = 1 })
front_blank [] l h f = absurd (omega arith)
front_blank (b ∷ bs) l h f = rw h refl

pub front_string : (t : List ℕ) → 0 < length t → is_blank (get_or t 0 0) ≡ false → get_or t 0 0 ≡ 34 → (f : Lexemes)
    → front_by (part_by f) t ≡ Some (outline (string_part (take (string_len (drop 1 t)) (drop 1 t)) (drop (string_len (drop 1 t)) (drop 1 t))))
front_string [] l h e f = absurd (omega arith)
front_string (b ∷ bs) l h e f = rw e refl

pub front_block : (t : List ℕ) → 0 < length t → is_blank (get_or t 0 0) ≡ false → (get_or t 0 0 ≡ 34 → ⊥) → starts_with nat_eq t (codes "(*") ≡ true → (f : Lexemes)
    → front_by (part_by f) t ≡ Some (outline (block_part (comment_len 1 (drop 2 t)) (drop 2 t)))
front_block [] l h n s f = absurd (omega arith)
front_block (b ∷ bs) l h n s f = (let k = other_byte b 34 n in rw (h, k, s) refl)

pub front_line : (t : List ℕ) → 0 < length t → is_blank (get_or t 0 0) ≡ false → (get_or t 0 0 ≡ 34 → ⊥) → starts_with nat_eq t (codes "(*") ≡ false → starts_with nat_eq t (codes "\\*") ≡ true → (f : Lexemes)
    → front_by (part_by f) t ≡ Some (record { class = class.Line; len = 2 + length (run (λ c. not (nat_eq c 10)) (drop 2 t)) })
front_line [] l h n s r f = absurd (omega arith)
front_line (b ∷ bs) l h n s r f = (let k = other_byte b 34 n in rw (h, k, s, r) (ap (λ (m : ℕ). Some (record { class = class.Line; len = m })) (omega arith)))

pub front_inner : (t : List ℕ) → 0 < length t → is_blank (get_or t 0 0) ≡ false → (get_or t 0 0 ≡ 34 → ⊥) → starts_with nat_eq t (codes "(*") ≡ false → starts_with nat_eq t (codes "\\*") ≡ false → (f : Lexemes)
    → front_by (part_by f) t ≡ front_by f t
front_inner [] l h n s r f = absurd (omega arith)
front_inner (b ∷ bs) l h n s r f = (let k = other_byte b 34 n in rw (h, k, s, r) refl)

pub front_outer : (t : List ℕ) (p : code.Part) → ((f : Lexemes) → front_by (part_by f) t ≡ Some p) → Some p ≡ front t
unfolding front
front_outer t p h = sym (h lexeme_part)

pub front_lexeme : (t : List ℕ) → ((f : Lexemes) → front_by (part_by f) t ≡ front_by f t) → lexeme_front t ≡ front t
unfolding front lexeme_front
front_lexeme t h = sym (h lexeme_part)

-- ---- lexemes

pub lexeme_end : (t : List ℕ) → length t ≡ 0 → None ≡ lexeme_front t
unfolding lexeme_front
lexeme_end [] l = refl
lexeme_end (b ∷ bs) l = absurd (omega arith)

as_front : (b : ℕ) (bs : List ℕ) (p : Part) → lexeme_part b bs ≡ p → Some (outline p) ≡ lexeme_front (b ∷ bs)
unfolding lexeme_front
as_front b bs p e = ap (λ (q : Part). Some (outline q)) (sym e)

to_name : (b : ℕ) (bs : List ℕ) → list_any is_letter (run is_word (b ∷ bs)) ≡ true → lexeme_part b bs ≡ sound (lexeme (name (run is_word (b ∷ bs))) (run is_word (b ∷ bs)))
to_name b bs h = rw h refl

pub front_name : (t : List ℕ) → list_any is_letter (run is_word t) ≡ true → Some (record { class = class.Name; len = length (run is_word t) }) ≡ lexeme_front t
front_name [] h = absurd cc
front_name (b ∷ bs) h = as_front b bs (sound (lexeme (name (run is_word (b ∷ bs))) (run is_word (b ∷ bs)))) (to_name b bs h)

to_number : (b : ℕ) (bs : List ℕ) → list_any is_letter (run is_word (b ∷ bs)) ≡ false → is_digit b ≡ true → lexeme_part b bs ≡ sound (lexeme (number (number_of (run is_digit (b ∷ bs)))) (run is_digit (b ∷ bs)))
to_number b bs h d = rw (h, d) refl

pub front_number : (t : List ℕ) → 0 < length t → list_any is_letter (run is_word t) ≡ false → is_digit (get_or t 0 0) ≡ true → Some (record { class = class.Number; len = length (run is_digit t) }) ≡ lexeme_front t
front_number [] l h d = absurd (omega arith)
front_number (b ∷ bs) l h d = as_front b bs (sound (lexeme (number (number_of (run is_digit (b ∷ bs)))) (run is_digit (b ∷ bs)))) (to_number b bs h d)

to_word : (b : ℕ) (bs : List ℕ) → list_any is_letter (run is_word (b ∷ bs)) ≡ false → is_digit b ≡ false → (nat_eq b 92 && list_any is_letter (run is_word bs)) ≡ true
    → lexeme_part b bs ≡ or_other (sign_of (b ∷ run is_word bs)) (b ∷ run is_word bs)
to_word b bs h d w = rw (h, d, w) refl

word_taken : (b : ℕ) (bs : List ℕ) → take (1 + length (run is_word bs)) (b ∷ bs) ≡ b ∷ run is_word bs
word_taken b bs = rw one_plus (ap (λ (u : List ℕ). b ∷ u) (run_taken is_word bs))

worded_is : (w : List ℕ) → outline (or_other (sign_of w) w) ≡ worded w
unfolding worded
worded_is w = refl

pub front_word : (t : List ℕ) → 0 < length t → list_any is_letter (run is_word t) ≡ false → is_digit (get_or t 0 0) ≡ false → (nat_eq (get_or t 0 0) 92 && list_any is_letter (run is_word (drop 1 t))) ≡ true
    → Some (worded (take (1 + length (run is_word (drop 1 t))) t)) ≡ lexeme_front t
front_word [] l h d w = absurd (omega arith)
front_word (b ∷ bs) l h d w =
    ap (λ (u : List ℕ). Some (worded u)) (word_taken b bs)
    ∙ ap Some (sym (worded_is (b ∷ run is_word bs)))
    ∙ as_front b bs (or_other (sign_of (b ∷ run is_word bs)) (b ∷ run is_word bs)) (to_word b bs h d w)

marks_are : (b : ℕ) (bs : List ℕ) → mark_front (b ∷ bs) ≡ outline (sign_part (sign_at (b ∷ bs)) b (b ∷ bs))
unfolding mark_front
marks_are b bs = refl

pub front_mark : (t : List ℕ) → 0 < length t → list_any is_letter (run is_word t) ≡ false → is_digit (get_or t 0 0) ≡ false → (nat_eq (get_or t 0 0) 92 && list_any is_letter (run is_word (drop 1 t))) ≡ false
    → Some (mark_front t) ≡ lexeme_front t
front_mark [] l h d w = absurd (omega arith)
front_mark (b ∷ bs) l h d w = ap Some (marks_are b bs) ∙ as_front b bs (sign_part (sign_at (b ∷ bs)) b (b ∷ bs)) (to_marks b bs h d w)

-- ---- signs

pub worded_sign : (w : List ℕ) (s : Sign) → Some s ≡ sign_of w → record { class = class.Sign s; len = length w } ≡ worded w
unfolding worded
worded_sign w s e = ap (λ (o : Option Sign). outline (or_other o w)) e

pub worded_other : (w : List ℕ) → None ≡ sign_of w → record { class = class.Other; len = length w } ≡ worded w
unfolding worded
worded_other w e = ap (λ (o : Option Sign). outline (or_other o w)) e

spelled_len : (o : Option (List ℕ)) → unwrap_or (option_map length o) 0 ≡ length (sign_bytes o)
spelled_len None = refl
spelled_len (Some w) = refl

pub mark_sign : (t : List ℕ) (s : Sign) (o : Option ℕ) (n : ℕ) → Some s ≡ sign_at t → o ≡ option_map length (spelling_at (spellings s) t) → n ≡ unwrap_or o 0 → record { class = class.Sign s; len = n } ≡ mark_front t
unfolding mark_front
mark_sign t s o n e f g =
    let l : n ≡ length (sign_bytes (spelling_at (spellings s) t)) = g ∙ ap (λ (p : Option ℕ). unwrap_or p 0) f ∙ spelled_len (spelling_at (spellings s) t) in
    ap (λ (m : ℕ). record { class = class.Sign s; len = m }) l ∙ ap (λ (p : Option Sign). outline (sign_part p (get_or t 0 0) t)) e

pub mark_other : (t : List ℕ) → None ≡ sign_at t → is_printed (get_or t 0 0) ≡ true → record { class = class.Other; len = 1 } ≡ mark_front t
unfolding mark_front
mark_other t e p = single (get_or t 0 0) p ∙ ap (λ (p : Option Sign). outline (sign_part p (get_or t 0 0) t)) e
  where
    single : (b : ℕ) → is_printed b ≡ true → record { class = class.Other; len = 1 } ≡ outline (sign_part None b t)
    single b p = rw p refl

pub mark_stray : (t : List ℕ) → None ≡ sign_at t → is_printed (get_or t 0 0) ≡ false → record { class = class.Stray; len = 1 } ≡ mark_front t
unfolding mark_front
mark_stray t e p = single (get_or t 0 0) p ∙ ap (λ (p : Option Sign). outline (sign_part p (get_or t 0 0) t)) e
  where
    single : (b : ℕ) → is_printed b ≡ false → record { class = class.Stray; len = 1 } ≡ outline (sign_part None b t)
    single b p = rw p refl
