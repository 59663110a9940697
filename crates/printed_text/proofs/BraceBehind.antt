-- An algorithm of a file is taken for one in C-syntax exactly if a brace is behind its name.
use Rattle.std.proofs.Common.{◌≡◌, ℕ, zero, suc, ◌+◌, ◌-◌, nat_le, Bool, true, false, ◌&&◌, List, [], ◌∷◌, length, refl, sym, ap, ◌∙◌, codes}
use Rattle.std.specs.Prelude.{if◌then◌else◌}
use Rattle.tla_token.specs.declared.place.Place.{Place}
use Rattle.tla_token.specs.declared.sign.Sign.{Sign}
use Rattle.tla_token.specs.declared.sign.Sign.TheVariants.{OpenCurly, CloseCurly}
use Rattle.tla_token.specs.Places.{after}
use Rattle.tla_token.specs.Words.{is_pluscal_word, is_tla_word}
use Rattle.tla_token.specs.Lexemes.{Kind, name, number, string, one, other}
use Rattle.tla_token.specs.Tokens.{Piece, blank, block, line, lexeme, bytes_of}
use Rattle.tla_token.specs.Offences.{sound}
use Rattle.tla_tree.specs.Tree.{Word}
use Rattle.tla_tree.specs.Lexical.{TokenView, Token}
use Rattle.tla_tree.specs.Lexical as tk
use Rattle.tla_tree.specs.TokenViews.{kind_among, word_kinds, word_kind}
use Rattle.pcal_tree.specs.AlgorithmTokens.{kind_of}
use Rattle.pcal_tree.specs.Grammar.{Syntax, p_syntax, c_syntax}
use Rattle.module_tree.specs.ModuleParts.{kind_in}
use Rattle.module_tree.specs.AlgorithmText.{Stage, head, titled, open_p, open_c, past_p, past_c, is_word, next_p, next_c, next, is_past, is_c, after_part}
use Rattle.module_tree.proofs.InsidePieces.{inside_pieces}
use Rattle.printed_text.proofs.Chunks.{seen}
use Rattle.printed_text.proofs.Stages.{free_plain, is_plain}
use Rattle.printed_text.proofs.AlgorithmEnds.{begins_brace, in_braces_in}
use Rattle.printed_text.specs.laws.HoldsPrinted.{past_stage}

-- whether it is in C-syntax, by the tokens from here on
abbrev pub taken_for_c : Stage → List Token → Bool
taken_for_c (head zero) [] = false
taken_for_c (head zero) (t ∷ ts) = begins_brace ts
taken_for_c (head (suc n)) [] = false
taken_for_c (head (suc n)) (t ∷ ts) = taken_for_c (head n) ts
taken_for_c (titled e) ts = begins_brace ts
taken_for_c st ts = is_c st

pub at_end : (st : Stage) → is_c st ≡ taken_for_c st []
at_end (head zero) = refl
at_end (head (suc n)) = refl
at_end st = refl

stopped : (st : Stage) (ts : List Token) → is_past st ≡ true → is_c st ≡ taken_for_c st ts
stopped past_p ts h = refl
stopped past_c ts h = refl
stopped st ts h = absurd cc

-- ---- one token

in_p : (e : Bool) (k : Kind) (ts : List Token) → taken_for_c (next_p e k) ts ≡ false
in_p e k ts = by (e && is_word (codes "algorithm") k)
  where
    by : (b : Bool) → taken_for_c (if b then past_p else open_p (is_word (codes "end") k)) ts ≡ false
    by true = refl
    by false = refl

in_c : (d : ℕ) (k : Kind) (ts : List Token) → taken_for_c (next_c d k) ts ≡ true
in_c d (one CloseCurly) ts = by (nat_le d 1)
  where
    by : (b : Bool) → taken_for_c (if b then past_c else open_c (d - 1)) ts ≡ true
    by true = refl
    by false = refl
in_c d (one OpenCurly) ts = refl
in_c d k ts = refl

plain_no_brace : (p : Place) (k : TokenView) (ts : List Token) → is_plain k ≡ true → begins_brace (tk.token p k ∷ ts) ≡ false
plain_no_brace p (tk.mark m) ts h = absurd cc
plain_no_brace p k ts h = refl

word_no_brace : (p : Place) (w : Word) (ts : List Token) → begins_brace (tk.token p (kind_of (name w)) ∷ ts) ≡ false
word_no_brace p w ts = by (is_pluscal_word w) refl
  where
    by : (b : Bool) → is_pluscal_word w ≡ b → begins_brace (tk.token p (kind_of (name w)) ∷ ts) ≡ false
    by true b = ap (λ (j : Bool). begins_brace (tk.token p (if j then tk.reserved w else kind_among word_kinds w (if is_tla_word w then tk.other w else tk.word w)) ∷ ts)) b
    by false b = plain_no_brace p (word_kind w) ts (free_plain w b)

at_title : (p : Place) (e : Bool) (k : Kind) (ts : List Token) → taken_for_c (next (titled e) k) ts ≡ begins_brace (tk.token p (kind_of k) ∷ ts)
at_title p e (name w) ts = in_p e (name w) ts ∙ sym (word_no_brace p w ts)
at_title p e (number n) ts = in_p e (number n) ts
at_title p e (string w) ts = in_p e (string w) ts
at_title p e (other w) ts = in_p e (other w) ts
at_title p e (one s) ts = by s
  where
    by : (s : Sign) → taken_for_c (next (titled e) (one s)) ts ≡ begins_brace (tk.token p (kind_of (one s)) ∷ ts)
    by OpenCurly = refl
    by s = in_p e (one s) ts

pub one_token : (st : Stage) (p : Place) (k : Kind) (ts : List Token) → taken_for_c (next st k) ts ≡ taken_for_c st (tk.token p (kind_of k) ∷ ts)
one_token (head zero) p k ts = refl
one_token (head (suc n)) p k ts = refl
one_token (titled e) p k ts = at_title p e k ts
one_token (open_p e) p k ts = in_p e k ts
one_token (open_c d) p k ts = in_c d k ts
one_token past_p p k ts = refl
one_token past_c p k ts = refl

-- ---- all of them

part_more : (st : Stage) (n : ℕ) (q : Piece) (ps : List Piece) (ts : List Token) → is_c (inside_pieces (after_part st (kind_in (sound q))) (n + length (bytes_of q)) ps).stage ≡ taken_for_c st ts
    → is_c (inside_pieces st n (q ∷ ps)).stage ≡ taken_for_c st ts
part_more st n q ps ts more = by (is_past st) refl
  where
    by : (k : Bool) → is_past st ≡ k → is_c (inside_pieces st n (q ∷ ps)).stage ≡ taken_for_c st ts
    by true k = rw k (stopped st ts k)
    by false k = rw k more

pub stage_c : (st : Stage) (n : ℕ) (p : Place) (ps : List Piece) → is_c (inside_pieces st n ps).stage ≡ taken_for_c st (seen p ps)
stage_c st n p [] = at_end st
stage_c st n p (blank b ∷ ps) = part_more st n (blank b) ps _ (stage_c st (n + 1) (after p (b ∷ [])) ps)
stage_c st n p (block w ∷ ps) = part_more st n (block w) ps _ (stage_c st (n + length (bytes_of (block w))) (after p (bytes_of (block w))) ps)
stage_c st n p (line w ∷ ps) = part_more st n (line w) ps _ (stage_c st (n + length (bytes_of (line w))) (after p (bytes_of (line w))) ps)
stage_c st n p (lexeme k w ∷ ps) =
    part_more st n (lexeme k w) ps (tk.token p (kind_of k) ∷ seen (after p w) ps) (stage_c (next st k) (n + length w) (after p w) ps ∙ one_token st p k (seen (after p w) ps))

-- where its end was found
pub end_stage : (s : Syntax) (st : Stage) → is_past st ≡ true → is_c st ≡ in_braces_in s → st ≡ past_stage s
end_stage p_syntax past_p h e = refl
end_stage p_syntax past_c h e = absurd cc
end_stage c_syntax past_c h e = refl
end_stage c_syntax past_p h e = absurd cc
end_stage s st h e = absurd cc
