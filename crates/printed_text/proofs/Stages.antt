-- A text in pieces whose tokens are an algorithm's is one in a file: its end is found at its last token, and not before.
use Rattle.std.proofs.Common.{◌≡◌, ◌⊎◌, inl, inr, ℕ, zero, suc, ◌+◌, ◌-◌, Bool, true, false, ◌&&◌, List, [], ◌∷◌, ◌++◌, length, map, Option, Some, None, refl, sym, ap, subst, ◌∙◌, arith, length-append, codes}
use Rattle.std.specs.Prelude.{if◌then◌else◌}
use Rattle.std.specs.Str.{bytes_eq}
use Rattle.std.specs.List.{AllByRecursion}
use Rattle.std.proofs.lemmas.Bool.{both_ways}
use Rattle.std.proofs.lemmas.Slice.Eq.{bytes_eq-Decides}
use Rattle.tla_token.specs.declared.place.Place.{Place}
use Rattle.tla_token.specs.declared.sign.Sign.{Sign}
use Rattle.tla_token.specs.declared.sign.Sign.TheVariants.{OpenCurly, CloseCurly}
use Rattle.tla_token.specs.Places.{after}
use Rattle.tla_token.specs.Words.{is_pluscal_word, is_tla_word}
use Rattle.tla_token.specs.Lexemes.{Kind, name, number, string, one, other}
use Rattle.tla_token.specs.Tokens.{Piece, blank, block, line, lexeme, bytes_of, text_of}
use Rattle.tla_token.specs.Offences.{sound}
use Rattle.tla_tree.specs.Tree.{Word}
use Rattle.tla_tree.specs.Lexical.{TokenView, Token}
use Rattle.tla_tree.specs.Lexical as tk
use Rattle.tla_tree.specs.TokenViews.{kind_among, word_kinds, word_kind}
use Rattle.pcal_tree.specs.AlgorithmTokens.{kind_of}
use Rattle.module_tree.specs.ModuleParts.{kind_in}
use Rattle.module_tree.specs.AlgorithmText.{Stage, head, titled, open_p, open_c, past_p, past_c, is_word, next_p, next_c, next, is_past, after_part, Inside, with_part}
use Rattle.module_tree.specs.laws.AlgorithmEnd.{is_open_brace, is_close_brace}
use Rattle.module_tree.proofs.Braces.{opened_c, other_c, closed_last, closed_more, titled_open, titled_other}
use Rattle.module_tree.proofs.InsidePieces.{inside_pieces}
use Rattle.printed_text.proofs.Chunks.{seen}
use Rattle.printed_text.proofs.ExprEnds.{behind_c, behind_p}
use Rattle.printed_text.proofs.AlgorithmEnds.{behind_name}

-- ---- words that are not reserved

abbrev pub is_plain : TokenView → Bool
is_plain (tk.reserved w) = false
is_plain (tk.mark m) = false
is_plain k = true

plain_among : (ws : List (Word × TokenView)) → AllByRecursion (λ p. is_plain p.1 ≡ true) ws → (w : Word) (k : TokenView) → is_plain k ≡ true → is_plain (kind_among ws w k) ≡ true
plain_among [] h w k e = e
plain_among (p ∷ ws) h w k e = by (bytes_eq p.0 w) (plain_among ws h.1 w k e)
  where
    by : (b : Bool) → is_plain (kind_among ws w k) ≡ true → is_plain (if b then p.1 else kind_among ws w k) ≡ true
    by true f = h.0
    by false f = f

all_plain : AllByRecursion (λ p. is_plain p.1 ≡ true) word_kinds
all_plain = (refl, (refl, (refl, (refl, (refl, (refl, (refl, (refl, (refl, (refl, (refl, (refl, (refl, (refl, (refl, tt)))))))))))))))

pub free_plain : (w : Word) → is_pluscal_word w ≡ false → is_plain (word_kind w) ≡ true
free_plain w h = rw h (plain_among word_kinds all_plain w (if is_tla_word w then tk.other w else tk.word w) (by (is_tla_word w)))
  where
    by : (b : Bool) → is_plain (if b then tk.other w else tk.word w) ≡ true
    by true = refl
    by false = refl

-- such a word is none of these
unlike : (u w : Word) → is_pluscal_word u ≡ true → is_pluscal_word w ≡ false → bytes_eq w u ≡ false
unlike u w h f = by (bytes_eq w u) refl
  where
    by : (b : Bool) → bytes_eq w u ≡ b → b ≡ false
    by true e = absurd (both_ways (is_pluscal_word w) f (ap is_pluscal_word ((bytes_eq-Decides w u).0 e) ∙ h))
    by false e = refl

plain_p : (p : Place) (e : Bool) (k : TokenView) (ts : List Token) → is_plain k ≡ true → behind_p e (tk.token p k ∷ ts) ≡ behind_p false ts
plain_p p e (tk.reserved w) ts h = absurd cc
plain_p p e (tk.mark m) ts h = absurd cc
plain_p p e k ts h = refl

plain_c : (p : Place) (d : ℕ) (k : TokenView) (ts : List Token) → is_plain k ≡ true → behind_c d (tk.token p k ∷ ts) ≡ behind_c d ts
plain_c p d (tk.reserved w) ts h = absurd cc
plain_c p d (tk.mark m) ts h = absurd cc
plain_c p d k ts h = refl

plain_name : (p : Place) (k : TokenView) (ts : List Token) → is_plain k ≡ true → behind_name (tk.token p k ∷ ts) ≡ behind_p false ts
plain_name p (tk.reserved w) ts h = absurd cc
plain_name p (tk.mark m) ts h = absurd cc
plain_name p k ts h = refl

-- ---- one token

-- after the algorithm's end, where the tokens so far are these
abbrev pub behind : Stage → List Token → Option (List Token)
behind (head zero) [] = None
behind (head zero) (t ∷ ts) = by t.kind
  where
    by : TokenView → Option (List Token)
    by (tk.word x) = behind_name ts
    by k = None
behind (head (suc n)) [] = None
behind (head (suc n)) (t ∷ ts) = behind (head n) ts
behind (titled false) ts = behind_name ts
behind (titled true) ts = None
behind (open_p e) ts = behind_p e ts
behind (open_c zero) ts = None
behind (open_c (suc d)) ts = behind_c d ts
behind past_p ts = None
behind past_c ts = None

pub live : (st : Stage) (ts us : List Token) → behind st ts ≡ Some us → is_past st ≡ false
live past_p ts us h = absurd cc
live past_c ts us h = absurd cc
live st ts us h = refl

-- the token is the last one, or there are more
abbrev pub Step : Stage → List Token → List Token → Type 0
Step st ts us = ((is_past st ≡ true) × (ts ≡ us)) ⊎ (behind st ts ≡ Some us)

same_some : (ts us : List Token) → Some ts ≡ Some us → ts ≡ us
same_some ts us e = cc

-- ---- in P-syntax

reserved_p : (e : Bool) (w : Word) (ts us : List Token) → (if bytes_eq w (codes "algorithm") && e then Some ts else behind_p (bytes_eq w (codes "end")) ts) ≡ Some us → Step (next_p e (name w)) ts us
reserved_p e w ts us h = by e (bytes_eq w (codes "algorithm")) h
  where
    by : (e b : Bool) → (if b && e then Some ts else behind_p (bytes_eq w (codes "end")) ts) ≡ Some us → Step (if e && b then past_p else open_p (bytes_eq w (codes "end"))) ts us
    by true true h = inl (refl, same_some ts us h)
    by true false h = inr h
    by false true h = inr h
    by false false h = inr h

none_p : (e : Bool) → (if e && false then past_p else open_p false) ≡ open_p false
none_p true = refl
none_p false = refl

step_p : (e : Bool) (p : Place) (k : Kind) (ts us : List Token) → behind_p e (tk.token p (kind_of k) ∷ ts) ≡ Some us → Step (next_p e k) ts us
step_p e p (name w) ts us h = by (is_pluscal_word w) refl
  where
    by : (b : Bool) → is_pluscal_word w ≡ b → Step (next_p e (name w)) ts us
    by true b = reserved_p e w ts us (ap (λ (j : Bool). behind_p e (tk.token p (if j then tk.reserved w else kind_among word_kinds w (if is_tla_word w then tk.other w else tk.word w)) ∷ ts)) (sym b) ∙ h)
    by false b =
        let a = unlike (codes "algorithm") w refl b in
        let n = unlike (codes "end") w refl b in
        let same : next_p e (name w) ≡ open_p false = (λ i. if e && a i then past_p else open_p (n i)) ∙ none_p e in
        rw same (inr (sym (plain_p p e (word_kind w) ts (free_plain w b)) ∙ h))
step_p e p (number n) ts us h = rw (none_p e) (inr h)
step_p e p (string w) ts us h = rw (none_p e) (inr h)
step_p e p (other w) ts us h = rw (none_p e) (inr h)
step_p e p (one s) ts us h = rw (none_p e) (inr (sym (sign_p p e s ts) ∙ h))
  where
    sign_p : (p : Place) (e : Bool) (s : Sign) (ts : List Token) → behind_p e (tk.token p (kind_of (one s)) ∷ ts) ≡ behind_p false ts
    sign_p p e OpenCurly ts = refl
    sign_p p e s ts = refl

-- ---- in C-syntax

other_view : (p : Place) (d : ℕ) (k : Kind) (ts : List Token) → is_open_brace k ≡ false → is_close_brace k ≡ false → behind_c d (tk.token p (kind_of k) ∷ ts) ≡ behind_c d ts
other_view p d (one OpenCurly) ts h f = absurd cc
other_view p d (one CloseCurly) ts h f = absurd cc
other_view p d (one s) ts h f = refl
other_view p d (number n) ts h f = refl
other_view p d (string w) ts h f = refl
other_view p d (other w) ts h f = refl
other_view p d (name w) ts h f = by (is_pluscal_word w) refl
  where
    by : (b : Bool) → is_pluscal_word w ≡ b → behind_c d (tk.token p (word_kind w) ∷ ts) ≡ behind_c d ts
    by true b = rw b refl
    by false b = plain_c p d (word_kind w) ts (free_plain w b)

open_view : (p : Place) (d : ℕ) (k : Kind) (ts : List Token) → is_open_brace k ≡ true → behind_c d (tk.token p (kind_of k) ∷ ts) ≡ behind_c (suc d) ts
open_view p d (one OpenCurly) ts h = refl
open_view p d k ts h = absurd cc

close_view : (p : Place) (d : ℕ) (k : Kind) (ts : List Token) → is_close_brace k ≡ true → (behind_c zero (tk.token p (kind_of k) ∷ ts) ≡ Some ts) × (behind_c (suc d) (tk.token p (kind_of k) ∷ ts) ≡ behind_c d ts)
close_view p d (one CloseCurly) ts h = (refl, refl)
close_view p d k ts h = absurd cc

step_c : (d : ℕ) (p : Place) (k : Kind) (ts us : List Token) → behind_c d (tk.token p (kind_of k) ∷ ts) ≡ Some us → Step (next_c (suc d) k) ts us
step_c d p k ts us h = by (is_open_brace k) refl (is_close_brace k) refl
  where
    more : (d : ℕ) → open_c (suc d + 1) ≡ open_c (suc (suc d))
    more d = ap open_c (omega arith)

    less : (d : ℕ) → open_c (suc (suc d) - 1) ≡ open_c (suc d)
    less d = ap open_c (omega arith)

    closing : (d : ℕ) → is_close_brace k ≡ true → behind_c d (tk.token p (kind_of k) ∷ ts) ≡ Some us → Step (next_c (suc d) k) ts us
    closing zero c h = (let e : past_c ≡ next_c 1 k = closed_last 1 k (sym c) (omega arith) in subst (λ st. Step st ts us) e (inl (refl, same_some ts us (sym (close_view p 0 k ts c).0 ∙ h))))
    closing (suc d) c h = (let e = sym (less d) ∙ closed_more (suc (suc d)) k (sym c) (omega arith) in subst (λ st. Step st ts us) e (inr (sym (close_view p d k ts c).1 ∙ h)))

    by : (a : Bool) → is_open_brace k ≡ a → (b : Bool) → is_close_brace k ≡ b → Step (next_c (suc d) k) ts us
    by true a b bb = (let e = sym (more d) ∙ opened_c (suc d) k (sym a) in subst (λ st. Step st ts us) e (inr (sym (open_view p d k ts a) ∙ h)))
    by false a true b = closing d b h
    by false a false b = subst (λ st. Step st ts us) (other_c (suc d) k (sym a) (sym b)) (inr (sym (other_view p d k ts a b) ∙ h))

-- ---- behind the name, and the name

step_titled : (p : Place) (k : Kind) (ts us : List Token) → behind_name (tk.token p (kind_of k) ∷ ts) ≡ Some us → Step (next (titled false) k) ts us
step_titled p k ts us h = by (is_open_brace k) refl
  where
    brace : (k : Kind) → is_open_brace k ≡ true → behind_name (tk.token p (kind_of k) ∷ ts) ≡ behind_c zero ts
    brace (one OpenCurly) e = refl
    brace k e = absurd cc

    none : (k : Kind) → is_open_brace k ≡ false → behind_name (tk.token p (kind_of k) ∷ ts) ≡ behind_p false (tk.token p (kind_of k) ∷ ts)
    none (one OpenCurly) e = absurd cc
    none (one s) e = refl
    none (number n) e = refl
    none (string w) e = refl
    none (other w) e = refl
    none (name w) e = on (is_pluscal_word w) refl
      where
        on : (b : Bool) → is_pluscal_word w ≡ b → behind_name (tk.token p (word_kind w) ∷ ts) ≡ behind_p false (tk.token p (word_kind w) ∷ ts)
        on true b =
            let e : word_kind w ≡ tk.reserved w = ap (λ (j : Bool). if j then tk.reserved w else kind_among word_kinds w (if is_tla_word w then tk.other w else tk.word w)) b in
            ap (λ (v : TokenView). behind_name (tk.token p v ∷ ts)) e ∙ sym (ap (λ (v : TokenView). behind_p false (tk.token p v ∷ ts)) e)
        on false b = plain_name p (word_kind w) ts (free_plain w b) ∙ sym (plain_p p false (word_kind w) ts (free_plain w b))

    by : (a : Bool) → is_open_brace k ≡ a → Step (next (titled false) k) ts us
    by true a = subst (λ st. Step st ts us) (titled_open false k (sym a)) (inr (sym (brace k a) ∙ h))
    by false a = subst (λ st. Step st ts us) (titled_other false k (sym a)) (step_p false p k ts us (sym (none k a) ∙ h))

step_head : (p : Place) (k : Kind) (ts us : List Token) → behind (head zero) (tk.token p (kind_of k) ∷ ts) ≡ Some us → Step (titled (is_word (codes "end") k)) ts us
step_head p k ts us h = by k (word_only (kind_of k) h) h
  where
    word_only : (v : TokenView) → behind (head zero) (tk.token p v ∷ ts) ≡ Some us → behind_name ts ≡ Some us
    word_only (tk.word x) h = h
    word_only v h = absurd cc

    by : (k : Kind) → behind_name ts ≡ Some us → behind (head zero) (tk.token p (kind_of k) ∷ ts) ≡ Some us → Step (titled (is_word (codes "end") k)) ts us
    by (name w) f h = on (bytes_eq w (codes "end")) refl
      where
        on : (b : Bool) → bytes_eq w (codes "end") ≡ b → Step (titled b) ts us
        on false b = inr f
        on true b =
            let e : ◌≡◌ {A = Option (List Token)} None (Some us) = ap (λ (w : Word). behind (head zero) (tk.token p (word_kind w) ∷ ts)) (sym ((bytes_eq-Decides w (codes "end")).0 b)) ∙ h in
            absurd cc
    by k f h = inr f

pub one_step : (st : Stage) (p : Place) (k : Kind) (ts us : List Token) → behind st (tk.token p (kind_of k) ∷ ts) ≡ Some us → Step (next st k) ts us
one_step (head zero) p k ts us h = step_head p k ts us h
one_step (head (suc n)) p k ts us h = inr h
one_step (titled false) p k ts us h = step_titled p k ts us h
one_step (titled true) p k ts us h = absurd cc
one_step (open_p e) p k ts us h = step_p e p k ts us h
one_step (open_c zero) p k ts us h = absurd cc
one_step (open_c (suc d)) p k ts us h = step_c d p k ts us h
one_step past_p p k ts us h = absurd cc
one_step past_c p k ts us h = absurd cc

-- ---- all of them

-- the last piece is a token
abbrev pub ends_in_token : List Piece → Bool
ends_in_token [] = true
ends_in_token (lexeme k w ∷ []) = true
ends_in_token (p ∷ []) = false
ends_in_token (p ∷ q ∷ ps) = ends_in_token (q ∷ ps)

no_tokens : (ps : List Piece) (p : Place) → seen p ps ≡ [] → ends_in_token ps ≡ true → ps ≡ []
no_tokens [] p h e = refl
no_tokens (lexeme k w ∷ ps) p h e = absurd cc
no_tokens (blank b ∷ []) p h e = absurd cc
no_tokens (block w ∷ []) p h e = absurd cc
no_tokens (line w ∷ []) p h e = absurd cc
no_tokens (blank b ∷ q ∷ ps) p h e = (let f = no_tokens (q ∷ ps) _ h e in absurd cc)
no_tokens (block w ∷ q ∷ ps) p h e = (let f = no_tokens (q ∷ ps) _ h e in absurd cc)
no_tokens (line w ∷ q ∷ ps) p h e = (let f = no_tokens (q ∷ ps) _ h e in absurd cc)

later_token : (p : Piece) (ps : List Piece) → ends_in_token (p ∷ ps) ≡ true → ends_in_token ps ≡ true
later_token p [] e = refl
later_token p (q ∷ ps) e = e

token_behind : (p : Piece) (ps : List Piece) → (ps ≡ [] → ⊥) → ends_in_token ps ≡ true → ends_in_token (p ∷ ps) ≡ true
token_behind p [] n e = absurd (n refl)
token_behind (blank b) (q ∷ ps) n e = e
token_behind (block w) (q ∷ ps) n e = e
token_behind (line w) (q ∷ ps) n e = e
token_behind (lexeme k w) (q ∷ ps) n e = e

pub ends_there : (ps qs : List Piece) → (qs ≡ [] → ⊥) → ends_in_token qs ≡ true → ends_in_token (ps ++ qs) ≡ true
ends_there [] qs n e = e
ends_there (p ∷ ps) qs n e = token_behind p (ps ++ qs) (some ps) (ends_there ps qs n e)
  where
    some : (ps : List Piece) → ps ++ qs ≡ [] → ⊥
    some [] f = n f
    some (q ∷ ps) f = cc

-- all pieces are found, and the end with the last of them
pub record Found (st : Stage) (n : ℕ) (ps : List Piece) : Type 0 where
  pub parts : map (λ p. p.1) (inside_pieces st n ps).parts ≡ map sound ps
  pub to : (inside_pieces st n ps).to ≡ n + length (text_of ps)
  pub past : is_past (inside_pieces st n ps).stage ≡ true

none_more : (st : Stage) (n : ℕ) → is_past st ≡ true → Found st n []
none_more st n h = record { parts = refl; to = none n; past = h }
  where
    none : (n : ℕ) → n ≡ n + 0
    none n = omega arith

one_more : (st : Stage) (n : ℕ) (p : Piece) (ps : List Piece) → is_past st ≡ false → Found (after_part st (kind_in (sound p))) (n + length (bytes_of p)) ps → Found st n (p ∷ ps)
one_more st n p ps live f =
    let rest = inside_pieces (after_part st (kind_in (sound p))) (n + length (bytes_of p)) ps in
    let is : inside_pieces st n (p ∷ ps) ≡ with_part (n, sound p) rest = ap (λ (k : Bool). if k then record { parts = []; stage = st; to = n } else with_part (n, sound p) rest) live in
    record {
      parts = ap (λ (i : Inside). map (λ p. p.1) i.parts) is ∙ ap (λ qs. sound p ∷ qs) f.parts;
      to = ap (λ (i : Inside). i.to) is ∙ f.to ∙ sum n (length (bytes_of p)) (length (text_of ps)) (length (text_of (p ∷ ps))) (length-append (bytes_of p) (text_of ps));
      past = ap (λ (i : Inside). is_past i.stage) is ∙ f.past;
    }
  where
    sum : (n a b c : ℕ) → c ≡ a + b → n + a + b ≡ n + c
    sum n a b c e = omega arith

-- no algorithm ends without tokens
pub nothing_behind : (st : Stage) → behind st [] ≡ Some [] → ⊥
nothing_behind (head zero) h = cc
nothing_behind (head (suc n)) h = cc
nothing_behind (titled true) h = cc
nothing_behind (titled false) h = cc
nothing_behind (open_p e) h = cc
nothing_behind (open_c zero) h = cc
nothing_behind (open_c (suc d)) h = cc
nothing_behind past_p h = cc
nothing_behind past_c h = cc

pub all_found : (st : Stage) (n : ℕ) (p : Place) (ps : List Piece) → behind st (seen p ps) ≡ Some [] → ends_in_token ps ≡ true → Found st n ps
all_found st n p [] h e = absurd (nothing_behind st h)
all_found st n p (blank b ∷ ps) h e = one_more st n (blank b) ps (live st (seen p (blank b ∷ ps)) [] h) (all_found st _ _ ps h (later_token (blank b) ps e))
all_found st n p (block w ∷ ps) h e = one_more st n (block w) ps (live st (seen p (block w ∷ ps)) [] h) (all_found st _ _ ps h (later_token (block w) ps e))
all_found st n p (line w ∷ ps) h e = one_more st n (line w) ps (live st (seen p (line w ∷ ps)) [] h) (all_found st _ _ ps h (later_token (line w) ps e))
all_found st n p (lexeme k w ∷ ps) h e = by (one_step st p k (seen (after p w) ps) [] h) (λ g. all_found (next st k) (n + length w) (after p w) ps g (later_token (lexeme k w) ps e))
  where
    by : Step (next st k) (seen (after p w) ps) [] → (behind (next st k) (seen (after p w) ps) ≡ Some [] → Found (next st k) (n + length w) ps) → Found st n (lexeme k w ∷ ps)
    by (inl f) deeper =
        let none = no_tokens ps (after p w) f.1 (later_token (lexeme k w) ps e) in
        one_more st n (lexeme k w) ps (live st (seen p (lexeme k w ∷ ps)) [] h) (subst (Found (next st k) (n + length w)) (sym none) (none_more (next st k) (n + length w) f.0))
    by (inr g) deeper = one_more st n (lexeme k w) ps (live st (seen p (lexeme k w ∷ ps)) [] h) (deeper g)
