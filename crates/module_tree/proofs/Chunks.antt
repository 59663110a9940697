-- Texts in pieces, before others: how they are cut, which tokens they have, and that no unit begins in them.
use Rattle.std.proofs.Common.{◌≡◌, ℕ, ◌+◌, Bool, true, false, not, ◌&&◌, ◌||◌, nat_eq, List, [], ◌∷◌, ◌++◌, refl, sym, ap, subst, ◌∙◌, arith, append_assoc, codes}
use Rattle.std.specs.List.{list_all}
use Rattle.std.proofs.lemmas.Bool.{and_from, not-true, ltb-true, ne_eqb, eqb-true}
use Rattle.tla_token.specs.declared.place.Place.{Place}
use Rattle.tla_token.specs.Places.{after}
use Rattle.tla_token.specs.Lexemes as lexeme
use Rattle.tla_token.specs.Lexemes.{Kind, IsLexeme, is_other}
use Rattle.tla_token.specs.Tokens.{Piece, blank, block, line, lexeme, bytes_of, text_of, Fits, AllFit, tokens_of}
use Rattle.tla_token.specs.Offences.{sound}
use Rattle.tla_token.proofs.Spelled.{row_of}
use Rattle.tla_token.proofs.Parted.{some_part}
use Rattle.tla_token.proofs.OneLine.{stays, after_right, lexeme_stays}
use Rattle.tla_tree.specs.Tree.{Word}
use Rattle.tla_tree.specs.Lexical.{TokenView, Token, token, token_text}
use Rattle.tla_tree.specs.Lexical as tk
use Rattle.tla_tree.specs.TokenViews.{kind_of, views}
use Rattle.tla_tree.specs.Spelling.{Right}
use Rattle.tla_tree.specs.laws.Writable.{IsSpelled, IsSmall}
use Rattle.tla_tree.proofs.InText.{further}
use Rattle.tla_tree.proofs.FitTokens.{Before, Small, ruled, second, behind}
use Rattle.module_tree.specs.Beginnings.{is_rule, begins_bar}
use Rattle.module_tree.specs.Grammar.{Tokens, see}
use Rattle.module_tree.specs.FileUnits.{is_starter, is_bar, begins_unit, Cut, cut_at, cut}
use Rattle.module_tree.proofs.WalkPieces.{barless, unbarred, are_barless}

-- ---- places: lines, and columns within them
abbrev pub put : ℕ → ℕ → Place
put n c = record { line = n; col = c }

-- ---- pieces that may be cut

-- blanks and lexemes alone, and no large number
abbrev pub Plain : List Piece → Type 0
Plain [] = Unit {0}
Plain (blank b ∷ ps) = Plain ps
Plain (lexeme k bytes ∷ ps) = IsSmall k × Plain ps
Plain (p ∷ ps) = ⊥

pub record Fine (ps : List Piece) : Type 0 where
  pub fit : AllFit ps
  pub barless : are_barless ps ≡ true
  pub bar : begins_bar (text_of ps) ≡ false
  pub plain : Plain ps

pub none_fine : Fine []
none_fine = record { fit = tt; barless = refl; bar = refl; plain = tt }

pub space_fine : {r : List Piece} → Fine r → Fine (blank 32 ∷ r)
space_fine h = record { fit = (refl, h.fit); barless = h.barless; bar = refl; plain = h.plain }

pub newline_fine : {r : List Piece} → Fine r → Fine (blank 10 ∷ r)
newline_fine h = record { fit = (refl, h.fit); barless = h.barless; bar = refl; plain = h.plain }

-- two dashes or three equals signs begin each bar
pub unruled_bar : (s : List ℕ) → ruled s ≡ false → begins_bar s ≡ false
unruled_bar [] h = refl
unruled_bar (a ∷ []) h = by (nat_eq 45 a) (nat_eq 61 a)
  where
    by : (x y : Bool) → ((x && false) || (y && false)) ≡ false
    by true true = refl
    by true false = refl
    by false true = refl
    by false false = refl
unruled_bar (a ∷ b ∷ []) h = by (nat_eq 45 a) (nat_eq 45 b) (nat_eq 61 a) (nat_eq 61 b)
  where
    by : (x y z w : Bool) → ((x && (y && false)) || (z && (w && false))) ≡ false
    by false y false w = refl
    by false y true false = refl
    by false y true true = refl
    by true false false w = refl
    by true false true false = refl
    by true false true true = refl
    by true true false w = refl
    by true true true false = refl
    by true true true true = refl
unruled_bar (a ∷ b ∷ c ∷ s) h = by (nat_eq 45 a) (nat_eq 45 b) (nat_eq 61 a) (nat_eq 61 b) (nat_eq 61 c) _ _ h
  where
    by : (x y z w v u t : Bool) → ((x && (y && true)) || (z && (w && (v && true)))) ≡ false → ((x && (y && u)) || (z && (w && (v && t)))) ≡ false
    by true true z w v u t h = absurd cc
    by true false true true true u t h = absurd cc
    by true false false w v u t h = refl
    by true false true false v u t h = refl
    by true false true true false u t h = refl
    by false y true true true u t h = absurd cc
    by false y false w v u t h = refl
    by false y true false v u t h = refl
    by false y true true false u t h = refl

-- a bar of dashes is no token that is begun by no bar
pub unruled_rule : (w rest : List ℕ) → ruled (w ++ rest) ≡ false → is_rule w ≡ false
unruled_rule [] rest h = refl
unruled_rule (a ∷ []) rest h = by (nat_eq 45 a)
  where
    by : (x : Bool) → (x && false) ≡ false
    by true = refl
    by false = refl
unruled_rule (a ∷ b ∷ w) rest h = by (nat_eq 45 a) (nat_eq 45 b) _ _ h
  where
    by : (x y u t : Bool) → ((x && (y && true)) || t) ≡ false → (x && (y && u)) ≡ false
    by true true u t h = absurd cc
    by true false u t h = refl
    by false y u t h = refl

-- ---- tokens in front

small_of : (l : Kind) (k : TokenView) → kind_of l ≡ k → Small k → IsSmall l
small_of (lexeme.name w) k e h = tt
small_of (lexeme.number n) k e h = subst Small (sym e) h
small_of (lexeme.string w) k e h = tt
small_of (lexeme.one s) k e h = tt
small_of (lexeme.other w) k e h = tt

-- a sign begins with no quote
no_quote : (k : Kind) (v : List ℕ) → ((w : Word) → k ≡ lexeme.name w → ⊥) → ((n : ℕ) → k ≡ lexeme.number n → ⊥) → ((w : Word) → k ≡ lexeme.string w → ⊥) → IsLexeme k (34 ∷ v) → ⊥
no_quote (lexeme.name w) v a b c h = a w refl
no_quote (lexeme.number n) v a b c h = b n refl
no_quote (lexeme.string w) v a b c h = c w refl
no_quote (lexeme.one s) v a b c h = (let e : false ≡ true = (row_of s (34 ∷ v) h).0 in cc)
no_quote (lexeme.other w) v a b c h = other v (subst (λ (u : Word). is_other u ≡ true) (sym h.0) h.1)
  where
    other : (v : List ℕ) → is_other (34 ∷ v) ≡ true → ⊥
    other [] e = cc
    other (x ∷ v) e = cc

-- no bar at a lexeme, nor a byte further
barless_of : (w rest : List ℕ) → (w ≡ [] → ⊥) → ruled (w ++ rest) ≡ false → second w rest ≡ true → begins_bar rest ≡ false → barless (w ++ rest) ≡ true
barless_of [] rest z h s n = absurd (z refl)
barless_of (b ∷ []) rest z h s n = and_from (not (begins_bar (b ∷ rest))) (not (begins_bar rest)) (ap not (unruled_bar (b ∷ rest) h)) (ap not n)
barless_of (b ∷ c ∷ w) rest z h s n =
    let m = unruled_bar ((c ∷ w) ++ rest) (not-true (ruled ((c ∷ w) ++ rest)) s) in
    and_from (not (begins_bar ((b ∷ c ∷ w) ++ rest))) (not (begins_bar ((c ∷ w) ++ rest))) (ap not (unruled_bar ((b ∷ c ∷ w) ++ rest) h)) (ap not m)

sign_second : (l : Kind) (k : TokenView) (rest : List ℕ) → ((w : Word) → l ≡ lexeme.name w → ⊥) → ((n : ℕ) → l ≡ lexeme.number n → ⊥) → ((w : Word) → l ≡ lexeme.string w → ⊥) → IsLexeme l (token_text k) → behind k rest ≡ true → second (token_text k) rest ≡ true
sign_second l (tk.string w) rest a b c h s = absurd (no_quote l _ a b c h)
sign_second l k rest a b c h s = s

unbarred_of : (l : Kind) (k : TokenView) (rest : List ℕ) → Fits (lexeme l (token_text k)) rest → ruled (token_text k ++ rest) ≡ false → behind k rest ≡ true → begins_bar rest ≡ false → unbarred l (token_text k) rest ≡ true
unbarred_of (lexeme.name w) k rest f h s n = ap not n
unbarred_of (lexeme.number i) k rest f h s n = ap not n
unbarred_of (lexeme.string w) k rest f h s n = refl
unbarred_of (lexeme.one o) k rest f h s n = barless_of (token_text k) rest (λ e. some_part (sound (lexeme (lexeme.one o) (token_text k))) rest f e) h (sign_second (lexeme.one o) k rest (λ w e. cc) (λ i e. cc) (λ w e. cc) f.1 s) n
unbarred_of (lexeme.other w) k rest f h s n = barless_of (token_text k) rest (λ e. some_part (sound (lexeme (lexeme.other w) (token_text k))) rest f e) h (sign_second (lexeme.other w) k rest (λ v e. cc) (λ i e. cc) (λ v e. cc) f.1 s) n

pub token_fine : (k : TokenView) (l : Kind) → IsLexeme l (token_text k) → kind_of l ≡ k → {r : List Piece} → Before k (text_of r) → Fine r → Fine (lexeme l (token_text k) ∷ r)
token_fine k l i e {r} b h = record {
  fit = ((b.0, i, b.1), h.fit);
  barless = and_from (unbarred l (token_text k) (text_of r)) (are_barless r) (unbarred_of l k (text_of r) (b.0, i, b.1) b.2 b.3 h.bar) h.barless;
  bar = unruled_bar (token_text k ++ text_of r) b.2;
  plain = (small_of l k e b.4, h.plain);
}

-- ---- the tokens of pieces

abbrev pub seen : Place → List Piece → List Token
seen p [] = []
seen p (lexeme k bytes ∷ ps) = token p (kind_of k) ∷ seen (after p bytes) ps
seen p (x ∷ ps) = seen (after p (bytes_of x)) ps

pub seen_is : (p : Place) (at : ℕ) (ps : List Piece) → views (tokens_of p at ps) ≡ seen p ps
seen_is p at [] = refl
seen_is p at (lexeme k bytes ∷ ps) = ap (λ (ts : List Token). token p (kind_of k) ∷ ts) (seen_is (after p bytes) _ ps)
seen_is p at (blank b ∷ ps) = seen_is _ _ ps
seen_is p at (block w ∷ ps) = seen_is _ _ ps
seen_is p at (line w ∷ ps) = seen_is _ _ ps

-- where pieces end
abbrev pub finish : Place → List Piece → Place
finish p [] = p
finish p (x ∷ ps) = finish (after p (bytes_of x)) ps

pub seen_append : (p : Place) (ps r : List Piece) → seen p (ps ++ r) ≡ seen p ps ++ seen (finish p ps) r
seen_append p [] r = refl
seen_append p (lexeme k bytes ∷ ps) r = ap (λ (ts : List Token). token p (kind_of k) ∷ ts) (seen_append (after p bytes) ps r)
seen_append p (blank b ∷ ps) r = seen_append _ ps r
seen_append p (block w ∷ ps) r = seen_append _ ps r
seen_append p (line w ∷ ps) r = seen_append _ ps r

-- ---- tokens in which no unit begins

abbrev pub onto : Tokens → Cut → Cut
onto s c = record { front = s c.front; units = c.units }

abbrev pub Passes : Tokens → Type 0
Passes s = (r : List Token) → cut (s r) ≡ onto s (cut r)

pub passes_by : (p : Place) (k : TokenView) → begins_unit (token p k) ≡ false → Passes (see p k)
passes_by p k h r = ap (λ (b : Bool). cut_at b (token p k) (cut r)) h

pub passes_sign : (p : Place) (k : TokenView) → is_starter k ≡ false → is_bar k ≡ false → Passes (see p k)
passes_sign p k h g = passes_by p k (by (nat_eq p.col 1) (is_starter k) (is_bar k) h g)
  where
    by : (a b c : Bool) → b ≡ false → c ≡ false → ((a && b) || c) ≡ false
    by true false false h g = refl
    by false b false h g = refl
    by true true c h g = absurd cc
    by true false true h g = absurd cc
    by false b true h g = absurd cc

pub passes_right : (p : Place) (k : TokenView) → Right 1 p → is_bar k ≡ false → Passes (see p k)
passes_right p k h g = passes_by p k (by (nat_eq p.col 1) (is_starter k) (is_bar k) (ne_eqb p.col 1 (λ e. (let l = ltb-true 1 p.col h in omega (arith, e, l)))) g)
  where
    by : (a b c : Bool) → a ≡ false → c ≡ false → ((a && b) || c) ≡ false
    by false b false h g = refl
    by true b c h g = absurd cc
    by false b true h g = absurd cc

-- ---- chunks: a text before others, from place to place, and what it spells

pub record Chunk (need : List ℕ → Bool) (p : Place) (w : List ℕ) (s : Tokens) (q : Place) : Type 0 where
  pub pieces : List Piece → List Piece
  pub bytes : (r : List Piece) → text_of (pieces r) ≡ w ++ text_of r
  pub fine : (r : List Piece) → Fine r → need (text_of r) ≡ true → Fine (pieces r)
  pub seen : (r : List Piece) → seen p (pieces r) ≡ s (seen q r)
  pub passes : Passes s

-- before anything
abbrev pub any : List ℕ → Bool
any x = true

-- before this byte
abbrev pub at_byte : ℕ → List ℕ → Bool
at_byte c [] = false
at_byte c (b ∷ x) = nat_eq b c

pub before_byte : (c : ℕ) (F : List ℕ → Type 0) → ((x : List ℕ) → F (c ∷ x)) → (x : List ℕ) → at_byte c x ≡ true → F x
before_byte c F f [] h = absurd cc
before_byte c F f (b ∷ x) h = subst (λ (d : ℕ). F (d ∷ x)) (sym (eqb-true b c h)) (f x)

pub join : {m n : List ℕ → Bool} {p q t : Place} {v w : List ℕ} {s u : Tokens} → Chunk m p v s q → Chunk n q w u t → ((x : List ℕ) → n x ≡ true → m (w ++ x) ≡ true) → Chunk n p (v ++ w) (λ r. s (u r)) t
join {m} {n} {p} {q} {t} {v} {w} {s} {u} a b f = record {
  pieces = λ r. a.pieces (b.pieces r);
  bytes = λ r. a.bytes (b.pieces r) ∙ ap (λ (x : List ℕ). v ++ x) (b.bytes r) ∙ sym (append_assoc v w (text_of r));
  fine = λ r h e. a.fine (b.pieces r) (b.fine r h e) (ap m (b.bytes r) ∙ f (text_of r) e);
  seen = λ r. a.seen (b.pieces r) ∙ ap s (b.seen r);
  passes = λ r. a.passes (u r) ∙ ap (onto s) (b.passes r);
}

-- ---- one token, and blanks

pub one : (need : List ℕ → Bool) (p : Place) (k : TokenView) → IsSpelled k → ((x : List ℕ) → need x ≡ true → Before k x) → Passes (see p k) → Chunk need p (token_text k) (see p k) (after p (token_text k))
one need p k sp b c = record {
  pieces = λ r. lexeme sp.0 (token_text k) ∷ r;
  bytes = λ r. refl;
  fine = λ r h e. token_fine k sp.0 sp.1 sp.2 (b (text_of r) e) h;
  seen = λ r. ap (λ (j : TokenView). token p j ∷ seen (after p (token_text k)) r) sp.2;
  passes = c;
}

pub space : (p : Place) → Chunk any p (codes " ") (λ r. r) (after p (codes " "))
space p = record { pieces = λ r. blank 32 ∷ r; bytes = λ r. refl; fine = λ r h e. space_fine h; seen = λ r. refl; passes = λ r. refl }

pub newline : (p : Place) → Chunk any p (codes "\n") (λ r. r) (put (p.line + 1) 1)
newline p = record { pieces = λ r. blank 10 ∷ r; bytes = λ r. refl; fine = λ r h e. newline_fine h; seen = λ r. refl; passes = λ r. refl }

pub nothing : (p : Place) → Chunk any p [] (λ r. r) p
nothing p = record { pieces = λ r. r; bytes = λ r. refl; fine = λ r h e. h; seen = λ r. refl; passes = λ r. refl }

-- before less
pub narrowed : {p q : Place} {w : List ℕ} {s : Tokens} (need : List ℕ → Bool) → Chunk any p w s q → Chunk need p w s q
narrowed need c = record { pieces = c.pieces; bytes = c.bytes; fine = λ r h e. c.fine r h refl; seen = c.seen; passes = c.passes }

-- ---- to the right

pub over : (e : ℕ) (p : Place) (w : List ℕ) → Right e p → list_all stays w ≡ true → Right e (after p w)
over e p w h s = further e p.col (after p w).col h (after_right p w s)

pub token_over : (e : ℕ) (p : Place) (k : TokenView) → IsSpelled k → Right e p → Right e (after p (token_text k))
token_over e p k sp h = over e p (token_text k) h (lexeme_stays sp.0 (token_text k) sp.1)
