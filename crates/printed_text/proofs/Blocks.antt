-- Lines before others: how they are cut, and which tokens of an algorithm they have.
use Rattle.std.proofs.Common.{◌≡◌, ℕ, zero, suc, ◌+◌, Bool, true, List, [], ◌∷◌, ◌++◌, refl, sym, ap, ◌∙◌, arith, append_assoc, codes}
use Rattle.tla_token.specs.Tokens.{Piece, blank, text_of}
use Rattle.tla_tree.specs.Lexical.{Token}
use Rattle.pcal_tree.specs.GrammarParts.{Tokens}
use Rattle.pcal_tree.specs.Printed.{Text, Lines, blanks, line, separated}
use Rattle.printed_text.proofs.Chunks.{put, Fine, space_fine, newline_fine, seen, Chunk}

-- these pieces are the text of these lines, of which there is one
pub record Stands (ls : List Text) (r : List Piece) : Type 0 where
  pub bytes : text_of r ≡ separated (codes "\n") ls
  pub some : (ls ≡ [] → ⊥)

-- lines from the beginning of line n on, before others
pub record Block (n : ℕ) (L : Lines) (s : Tokens) : Type 0 where
  pub next : ℕ
  pub pieces : List Piece → List Piece
  pub stands : (ls : List Text) (r : List Piece) → Stands ls r → Stands (L ls) (pieces r)
  pub fine : (r : List Piece) → Fine r → Fine (pieces r)
  pub seen : (r : List Piece) → seen (put n 1) (pieces r) ≡ s (seen (put next 1) r)
  pub front : Text
  pub text : (r : List Piece) → text_of (pieces r) ≡ front ++ text_of r
  -- they end where a line does
  pub lined : (v : Text) → (w : Text) × (v ++ 10 ∷ front ≡ w ++ 10 ∷ [])

-- ---- blanks at the front of a line

abbrev spaces : ℕ → List Piece → List Piece
spaces zero r = r
spaces (suc k) r = blank 32 ∷ spaces k r

spaces_bytes : (k : ℕ) (r : List Piece) → text_of (spaces k r) ≡ blanks k ++ text_of r
spaces_bytes zero r = refl
spaces_bytes (suc k) r = ap (λ (x : List ℕ). 32 ∷ x) (spaces_bytes k r)

spaces_fine : (k : ℕ) (r : List Piece) → Fine r → Fine (spaces k r)
spaces_fine zero r h = h
spaces_fine (suc k) r h = space_fine (spaces_fine k r h)

spaces_seen : (n c k : ℕ) (r : List Piece) → seen (put n c) (spaces k r) ≡ seen (put n (c + k)) r
spaces_seen n c zero r = ap (λ (d : ℕ). seen (put n d) r) (omega arith)
spaces_seen n c (suc k) r = spaces_seen n (c + 1) k r ∙ ap (λ (d : ℕ). seen (put n d) r) (omega arith)

-- ---- lines

-- a line, where what is in it may stand before LF
pub line_of : (n k : ℕ) {need : List ℕ → Bool} {w : Text} {s : Tokens} → Chunk need (put n (1 + k)) w s → ((x : List ℕ) → need (10 ∷ x) ≡ true) → Block n (line k w) s
line_of n k {need} {w} {s} c f = record {
  next = c.end.line + 1;
  pieces = λ r. spaces k (c.pieces (blank 10 ∷ r));
  stands = by;
  fine = λ r h. spaces_fine k _ (c.fine (blank 10 ∷ r) (newline_fine h) (f (text_of r)));
  seen = λ r. spaces_seen n 1 k _ ∙ c.seen (blank 10 ∷ r);
  front = (blanks k ++ w) ++ codes "\n";
  text = λ r. bytes r ∙ sym (append_assoc (blanks k ++ w) (codes "\n") (text_of r));
  lined = λ v. (v ++ 10 ∷ (blanks k ++ w), sym (append_assoc v (10 ∷ (blanks k ++ w)) (codes "\n")));
}
  where
    bytes : (r : List Piece) → text_of (spaces k (c.pieces (blank 10 ∷ r))) ≡ (blanks k ++ w) ++ 10 ∷ text_of r
    bytes r = spaces_bytes k _ ∙ ap (λ (x : List ℕ). blanks k ++ x) (c.bytes (blank 10 ∷ r)) ∙ sym (append_assoc (blanks k) w (10 ∷ text_of r))

    by : (ls : List Text) (r : List Piece) → Stands ls r → Stands ((blanks k ++ w) ∷ ls) (spaces k (c.pieces (blank 10 ∷ r)))
    by [] r h = absurd (h.some refl)
    by (v ∷ vs) r h = record {
      bytes = bytes r ∙ ap (λ (x : List ℕ). (blanks k ++ w) ++ 10 ∷ x) h.bytes ∙ sym (append_assoc (blanks k ++ w) (codes "\n") (separated (codes "\n") (v ∷ vs)));
      some = λ e. cc;
    }

pub no_lines : (n : ℕ) → Block n (λ ls. ls) (λ ts. ts)
no_lines n = record { next = n; pieces = λ r. r; stands = λ ls r h. h; fine = λ r h. h; seen = λ r. refl; front = []; text = λ r. refl; lined = λ v. (v, refl) }

abbrev pub follow : {n : ℕ} {L M : Lines} {s u : Tokens} → (a : Block n L s) → Block a.next M u → Block n (λ ls. L (M ls)) (λ ts. s (u ts))
follow {n} {L} {M} {s} {u} a b = record {
  next = b.next;
  pieces = λ r. a.pieces (b.pieces r);
  stands = λ ls r h. a.stands (M ls) (b.pieces r) (b.stands ls r h);
  fine = λ r h. a.fine (b.pieces r) (b.fine r h);
  seen = λ r. a.seen (b.pieces r) ∙ ap s (b.seen r);
  front = a.front ++ b.front;
  text = λ r. a.text (b.pieces r) ∙ ap (λ (x : List ℕ). a.front ++ x) (b.text r) ∙ sym (append_assoc a.front b.front (text_of r));
  lined = λ v.
      let x = a.lined v in
      let y = b.lined x.0 in
      (y.0, sym (append_assoc v (10 ∷ a.front) b.front) ∙ ap (λ (u : List ℕ). u ++ b.front) x.1 ∙ append_assoc x.0 (10 ∷ []) b.front ∙ y.1);
}

-- the same tokens, said otherwise
pub told : {n : ℕ} {L : Lines} {s u : Tokens} → ((ts : List Token) → s ts ≡ u ts) → Block n L s → Block n L u
told f b = record { next = b.next; pieces = b.pieces; stands = b.stands; fine = b.fine; seen = λ r. b.seen r ∙ f _; front = b.front; text = b.text; lined = b.lined }
