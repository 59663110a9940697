-- Texts in pieces, before others: how they are cut, and which tokens of an algorithm they have.
use Rattle.std.proofs.Common.{◌≡◌, ℕ, ◌+◌, ◌*◌, ◌/◌, Bool, true, false, not, ◌&&◌, nat_eq, List, [], ◌∷◌, ◌++◌, length, refl, sym, ap, subst, ◌∙◌, arith, append_assoc, codes, if◌then◌else◌}
use Rattle.std.specs.Str.{bytes_eq}
use Rattle.std.specs.List.{list_all}
use Rattle.std.proofs.lemmas.Bool.{and_from, eqb-true, lt-ltb}
use Rattle.tla_token.specs.declared.place.Place.{Place}
use Rattle.tla_token.specs.Places.{step, after}
use Rattle.tla_token.specs.Lexemes as lexeme
use Rattle.tla_token.specs.Lexemes.{Kind, IsLexeme}
use Rattle.tla_token.specs.Tokens.{Piece, blank, block, line, lexeme, bytes_of, text_of, AllFit, tokens_of, holds_mark, unmarked_kind, is_unmarked}
use Rattle.tla_tree.specs.Lexical.{TokenView, Token, token_text}
use Rattle.tla_tree.specs.Lexical as tk
use Rattle.tla_tree.specs.TokenViews as expression
use Rattle.tla_tree.specs.Written as written
use Rattle.tla_tree.specs.Spelling.{Right}
use Rattle.tla_tree.specs.laws.Writable.{IsSpelled, IsSmall}
use Rattle.tla_tree.proofs.FitTokens.{Before, Small}
use Rattle.pcal_tree.specs.AlgorithmTokens.{kind_of, views}
use Rattle.pcal_tree.specs.GrammarParts.{Tokens, token}
use Rattle.module_tree.proofs.Chunks.{before_byte, at_byte}
use Rattle.printed_text.proofs.Calm.{IsCalm}
use Rattle.printed_text.proofs.Clear.{token_clear}

-- ---- places: lines, and columns within them
abbrev pub put : ℕ → ℕ → Place
put n c = record { line = n; col = c }

step_right : (p : Place) (b : ℕ) → Right 0 (step p b)
step_right p b = by (nat_eq b 10) (nat_eq b 9)
  where
    by : (x y : Bool) → Right 0 (if x then record { line = p.line + 1; col = 1 } else (if y then record { line = p.line; col = 8 * ((p.col + 7) / 8) + 1 } else record { line = p.line; col = p.col + 1 }))
    by true y = refl
    by false true = lt-ltb 0 (8 * ((p.col + 7) / 8) + 1) (omega arith)
    by false false = lt-ltb 0 (p.col + 1) (omega arith)

pub later : (p : Place) (w : List ℕ) → Right 0 p → Right 0 (after p w)
later p [] h = h
later p (b ∷ w) h = later (step p b) w (step_right p b)

pub in_line : (n k : ℕ) → Right 0 (put n (1 + k))
in_line n k = lt-ltb 0 (1 + k) (omega arith)

-- ---- pieces that may be cut

-- no string holds a mark of a comment
abbrev pub unmarked : List Piece → Bool
unmarked [] = true
unmarked (lexeme k w ∷ ps) = unmarked_kind k && unmarked ps
unmarked (p ∷ ps) = unmarked ps

-- no number is too large
abbrev pub small : List Piece → Type 0
small [] = Unit {0}
small (lexeme k w ∷ ps) = IsSmall k × small ps
small (p ∷ ps) = small ps

-- no comment is among them
abbrev pub uncommented : List Piece → Bool
uncommented [] = true
uncommented (block w ∷ ps) = false
uncommented (line w ∷ ps) = false
uncommented (p ∷ ps) = uncommented ps

pub record Fine (ps : List Piece) : Type 0 where
  pub fit : AllFit ps
  pub uncommented : uncommented ps ≡ true
  pub clear : holds_mark (text_of ps) ≡ false
  pub unmarked : unmarked ps ≡ true
  pub small : small ps

pub none_fine : Fine []
none_fine = record { fit = tt; uncommented = refl; clear = refl; unmarked = refl; small = tt }

pub space_fine : {r : List Piece} → Fine r → Fine (blank 32 ∷ r)
space_fine h = record { fit = (refl, h.fit); uncommented = h.uncommented; clear = h.clear; unmarked = h.unmarked; small = h.small }

pub newline_fine : {r : List Piece} → Fine r → Fine (blank 10 ∷ r)
newline_fine h = record { fit = (refl, h.fit); uncommented = h.uncommented; clear = h.clear; unmarked = h.unmarked; small = h.small }

pub tokens_unmarked : (p : Place) (at : ℕ) (ps : List Piece) → list_all is_unmarked (tokens_of p at ps) ≡ unmarked ps
tokens_unmarked p at [] = refl
tokens_unmarked p at (lexeme k w ∷ ps) = ap (λ (b : Bool). unmarked_kind k && b) (tokens_unmarked (after p w) (at + length w) ps)
tokens_unmarked p at (blank b ∷ ps) = tokens_unmarked (after p (bytes_of (blank b))) (at + length (bytes_of (blank b))) ps
tokens_unmarked p at (block w ∷ ps) = tokens_unmarked (after p (bytes_of (block w))) (at + length (bytes_of (block w))) ps
tokens_unmarked p at (line w ∷ ps) = tokens_unmarked (after p (bytes_of (line w))) (at + length (bytes_of (line w))) ps

pub unmarked_of : (l : Kind) (k : TokenView) (ps : List written.Piece) → expression.kind_of l ≡ k → IsCalm k ps → unmarked_kind l ≡ true
unmarked_of (lexeme.string w) k ps e c = (let h : holds_mark w ≡ false = subst (λ j. IsCalm j ps) (sym e) c in ap not h)
unmarked_of (lexeme.name w) k ps e c = refl
unmarked_of (lexeme.number n) k ps e c = refl
unmarked_of (lexeme.one s) k ps e c = refl
unmarked_of (lexeme.other w) k ps e c = refl

pub small_of : (l : Kind) (k : TokenView) → expression.kind_of l ≡ k → Small k → IsSmall l
small_of (lexeme.number n) k e h = (let x : Small (tk.number n) = subst Small (sym e) h in x)
small_of (lexeme.name w) k e h = tt
small_of (lexeme.string w) k e h = tt
small_of (lexeme.one s) k e h = tt
small_of (lexeme.other w) k e h = tt

-- a token of an expression that is no prime is seen by algorithms alike
pub kind_same : (l : Kind) (k : TokenView) (ps : List written.Piece) → expression.kind_of l ≡ k → IsCalm k ps → kind_of l ≡ k
kind_same (lexeme.other w) k ps e c = absurd (by (bytes_eq w (codes "'")) (subst (λ j. IsCalm j ps) (sym e) c))
  where
    by : (b : Bool) → IsCalm (if b then tk.mark tk.prime else tk.other w) ps → ⊥
    by true h = h
    by false h = h
kind_same (lexeme.name w) k ps e c = e
kind_same (lexeme.number n) k ps e c = e
kind_same (lexeme.string w) k ps e c = e
kind_same (lexeme.one s) k ps e c = e

pub token_fine : (k : TokenView) (l : Kind) → IsLexeme l (token_text k) → expression.kind_of l ≡ k → IsCalm k [] → {r : List Piece} → Before k (text_of r) → Fine r → Fine (lexeme l (token_text k) ∷ r)
token_fine k l i e c {r} b h = record {
  fit = ((b.0, i, b.1), h.fit);
  uncommented = h.uncommented;
  clear = token_clear k [] (text_of r) c b.0 h.clear;
  unmarked = and_from (unmarked_kind l) (unmarked r) (unmarked_of l k [] e c) h.unmarked;
  small = (small_of l k e b.4, h.small);
}

-- ---- the tokens of pieces

abbrev pub seen : Place → List Piece → List Token
seen p [] = []
seen p (lexeme k w ∷ ps) = tk.token p (kind_of k) ∷ seen (after p w) ps
seen p (x ∷ ps) = seen (after p (bytes_of x)) ps

pub seen_is : (p : Place) (at : ℕ) (ps : List Piece) → views (tokens_of p at ps) ≡ seen p ps
seen_is p at [] = refl
seen_is p at (lexeme k w ∷ ps) = ap (λ (ts : List Token). tk.token p (kind_of k) ∷ ts) (seen_is (after p w) _ ps)
seen_is p at (blank b ∷ ps) = seen_is _ _ ps
seen_is p at (block w ∷ ps) = seen_is _ _ ps
seen_is p at (line w ∷ ps) = seen_is _ _ ps

-- ---- chunks: a text before others, and the tokens that it has from a place on

pub record Chunk (need : List ℕ → Bool) (p : Place) (w : List ℕ) (s : Tokens) : Type 0 where
  pub end : Place
  pub right : Right 0 end
  pub pieces : List Piece → List Piece
  pub bytes : (r : List Piece) → text_of (pieces r) ≡ w ++ text_of r
  pub fine : (r : List Piece) → Fine r → need (text_of r) ≡ true → Fine (pieces r)
  pub seen : (r : List Piece) → seen p (pieces r) ≡ s (seen end r)

-- before anything
abbrev pub any : List ℕ → Bool
any x = true

abbrev pub join : {m n : List ℕ → Bool} {p : Place} {v w : List ℕ} {s u : Tokens} → (a : Chunk m p v s) → Chunk n a.end w u → ((x : List ℕ) → n x ≡ true → m (w ++ x) ≡ true) → Chunk n p (v ++ w) (λ r. s (u r))
join {m} {n} {p} {v} {w} {s} {u} a b f = record {
  end = b.end;
  right = b.right;
  pieces = λ r. a.pieces (b.pieces r);
  bytes = λ r. a.bytes (b.pieces r) ∙ ap (λ (x : List ℕ). v ++ x) (b.bytes r) ∙ sym (append_assoc v w (text_of r));
  fine = λ r h e. a.fine (b.pieces r) (b.fine r h e) (ap m (b.bytes r) ∙ f (text_of r) e);
  seen = λ r. a.seen (b.pieces r) ∙ ap s (b.seen r);
}

-- ---- one token, and blanks

pub one : (need : List ℕ → Bool) (p : Place) (k : TokenView) → Right 0 p → IsSpelled k → IsCalm k [] → ((x : List ℕ) → need x ≡ true → Before k x) → Chunk need p (token_text k) (token p k)
one need p k h sp c b = record {
  end = after p (token_text k);
  right = later p (token_text k) h;
  pieces = λ r. lexeme sp.0 (token_text k) ∷ r;
  bytes = λ r. refl;
  fine = λ r f e. token_fine k sp.0 sp.1 sp.2 c (b (text_of r) e) f;
  seen = λ r. ap (λ (j : TokenView). tk.token p j ∷ seen (after p (token_text k)) r) (kind_same sp.0 k [] sp.2 c);
}

pub space : (p : Place) → Right 0 p → Chunk any p (codes " ") (λ r. r)
space p h = record { end = after p (codes " "); right = later p (codes " ") h; pieces = λ r. blank 32 ∷ r; bytes = λ r. refl; fine = λ r f e. space_fine f; seen = λ r. refl }

pub nothing : (p : Place) → Right 0 p → Chunk any p [] (λ r. r)
nothing p h = record { end = p; right = h; pieces = λ r. r; bytes = λ r. refl; fine = λ r f e. f; seen = λ r. refl }
