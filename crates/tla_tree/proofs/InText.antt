-- The text of a tree within another text: its pieces fit there, and their tokens spell the tree.
use Rattle.std.proofs.Common.{◌≡◌, ℕ, ◌-◌, ◌≤◌, Bool, true, false, nat_lt, List, [], ◌∷◌, ◌++◌, length, map, Ok, refl, sym, ap, subst, ◌∙◌, arith, append_assoc, append-nil}
use Rattle.std.proofs.lemmas.Bool.{ltb-true, lt-ltb}
use Rattle.std.proofs.lemmas.List.{take_all}
use Rattle.tla_token.specs.declared.place.Place.{Place}
use Rattle.tla_token.specs.Places.{after, place_at}
use Rattle.tla_token.specs.Tokens.{Fits, AllFit, Tok, stretch}
use Rattle.tla_token.specs.Tokens as text
use Rattle.tla_token.proofs.Unique.{one_list}
use Rattle.tla_token.proofs.OneLine.{lexeme_stays, after_right}
use Rattle.tla_tree.specs.Tree.{Tree}
use Rattle.tla_tree.specs.Lexical.{TokenView, Token, token_text}
use Rattle.tla_tree.specs.TokenViews.{kind_of, views}
use Rattle.tla_tree.specs.Spelling.{Phrase, Right, Good, Spells, spell, tree_of, head}
use Rattle.tla_tree.specs.Reader.{read}
use Rattle.tla_tree.specs.Written.{Piece, blank, token, text_of, part, written}
use Rattle.tla_tree.specs.laws.Bracketed.{kinds, tokens_of}
use Rattle.tla_tree.specs.laws.Bracketed as b
use Rattle.tla_tree.specs.laws.Writable.{IsWritable, AreSpelled}
use Rattle.tla_tree.specs.laws.Placeless.{tree_placeless}
use Rattle.tla_tree.specs.laws.InText.{IsSpelling, IsCut}
use Rattle.tla_tree.proofs.ReadAll.{spelled_is_read, one_phrase}
use Rattle.tla_tree.proofs.SpelledTrees.{part_is_spelled}
use Rattle.tla_tree.proofs.WrittenPhrase.{written_part}
use Rattle.tla_tree.proofs.WrittenTree.{written_part_tree}
use Rattle.tla_tree.proofs.WrittenGood.{written_good}
use Rattle.tla_tree.proofs.FitTrees.{Fit, written_fits}
use Rattle.tla_tree.proofs.Placed.{looks_by, place}
use Rattle.tla_tree.proofs.PlacedGood.{first_column, flat, head_flat, no_end_list, AllRight, placed_good}
use Rattle.tla_tree.proofs.PlacedTree.{tree_moved}
use Rattle.tla_tree.proofs.Operands.{operand_primary}

-- ---- the pieces of a text
abbrev pub lexed : (ps : List Piece) → AreSpelled ps → List text.Piece
lexed [] h = []
lexed (blank ∷ ps) h = text.blank 32 ∷ lexed ps h
lexed (token k ∷ ps) h = text.lexeme h.0.0 (token_text k) ∷ lexed ps h.1

pub lexed_bytes : (ps : List Piece) (h : AreSpelled ps) → text.text_of (lexed ps h) ≡ text_of ps
lexed_bytes [] h = refl
lexed_bytes (blank ∷ ps) h = ap (λ (l : List ℕ). 32 ∷ l) (lexed_bytes ps h)
lexed_bytes (token k ∷ ps) h = ap (λ (l : List ℕ). token_text k ++ l) (lexed_bytes ps h.1)

pub lexed_before : (ps : List Piece) (h : AreSpelled ps) (rs : List text.Piece) → text.text_of (lexed ps h ++ rs) ≡ text_of ps ++ text.text_of rs
lexed_before [] h rs = refl
lexed_before (blank ∷ ps) h rs = ap (λ (l : List ℕ). 32 ∷ l) (lexed_before ps h rs)
lexed_before (token k ∷ ps) h rs = ap (λ (l : List ℕ). token_text k ++ l) (lexed_before ps h.1 rs) ∙ sym (append_assoc (token_text k) (text_of ps) (text.text_of rs))

pub lexed_fit : (ps : List Piece) (h : AreSpelled ps) (rs : List text.Piece) → AllFit rs → Fit (text.text_of rs) ps → AllFit (lexed ps h ++ rs)
lexed_fit [] h rs a f = a
lexed_fit (blank ∷ ps) h rs a f = (refl, lexed_fit ps h rs a f)
lexed_fit (token k ∷ ps) h rs a f =
    let F : List ℕ → Type 0 = λ r. Fits (text.lexeme h.0.0 (token_text k)) r in
    (subst F (sym (lexed_before ps h.1 rs)) (f.0.0, h.0.1, f.0.1), lexed_fit ps h.1 rs a f.1)

-- ---- their tokens
cons : (k l : TokenView) (ks ls : List TokenView) → k ≡ l → ks ≡ ls → ◌≡◌ {A = List TokenView} (k ∷ ks) (l ∷ ls)
cons k l ks ls e f = λ i. e i ∷ f i

lexed_kinds : (ps : List Piece) (h : AreSpelled ps) (p : Place) (at : ℕ) → kinds (views (text.tokens_of p at (lexed ps h))) ≡ tokens_of ps
lexed_kinds [] h p at = refl
lexed_kinds (blank ∷ ps) h p at = lexed_kinds ps h _ _
lexed_kinds (token k ∷ ps) h p at = cons (kind_of h.0.0) k _ _ h.0.2 (lexed_kinds ps h.1 _ _)

pub further : (e c d : ℕ) → nat_lt e c ≡ true → c ≤ d → nat_lt e d ≡ true
further e c d l h = (let x = ltb-true e c l in lt-ltb e d (omega (arith, x, h)))

pub lexed_right : (e : ℕ) (ps : List Piece) (h : AreSpelled ps) (p : Place) (at : ℕ) → Right e p → AllRight e (views (text.tokens_of p at (lexed ps h)))
lexed_right e [] h p at r = tt
lexed_right e (blank ∷ ps) h p at r = lexed_right e ps h (after p (32 ∷ [])) _ (further e p.col _ r (after_right p (32 ∷ []) refl))
lexed_right e (token k ∷ ps) h p at r = (r, lexed_right e ps h.1 (after p (token_text k)) _ (further e p.col _ r (after_right p (token_text k) (lexeme_stays h.0.0 (token_text k) h.0.1))))

-- ---- tokens of these kinds are those of the phrase, in their places
by_kinds : (ts : List Token) → looks_by first_column ts ≡ map (λ (k : TokenView). (k, 1)) (kinds ts)
by_kinds [] = refl
by_kinds (t ∷ ts) = ap (λ (l : List (TokenView × ℕ)). (t.kind, 1) ∷ l) (by_kinds ts)

no_tokens : (ts : List Token) → looks_by first_column ts ≡ [] → ts ≡ []
no_tokens [] h = refl
no_tokens (t ∷ ts) h = absurd cc

-- it could have all tokens in one column
pub record Flat (edge : ℕ) (o : Bool) (t : Tree) (ts : List text.Token) : Type 0 where
  pub spelling : IsSpelling edge o t ts
  pub in_column : Good 0 (flat spelling.phrase)

spelled : (edge : ℕ) (o : Bool) (t : Tree) → IsWritable t → (ts : List text.Token) → kinds (views ts) ≡ tokens_of (part t o []) → AllRight edge (views ts) → Flat edge o t ts
spelled edge o t v ts k r =
    let a = b.part t o in
    let same : kinds (views ts) ≡ kinds (spell a []) = k ∙ sym (written_part t v o) in
    let looked : looks_by first_column (views ts) ≡ looks_by first_column (spell a []) = by_kinds (views ts) ∙ ap (λ (ks : List TokenView). map (λ (k : TokenView). (k, 1)) ks) same ∙ sym (by_kinds (spell a [])) in
    let w = place first_column a [] (views ts) looked in
    let found : views ts ≡ spell w.again [] = sym w.tokens ∙ ap (λ (us : List Token). spell w.again us) (no_tokens w.rest w.looks_same) in
    let flat_good : Good 0 (flat w.again) = subst (λ (c : Phrase). Good 0 c) (sym w.same) (written_good t v o) in
    record {
      spelling = record {
        phrase = w.again;
        good = placed_good edge w.again flat_good (subst (λ (us : List Token). AllRight edge us) found r);
        tokens = found;
        tree = sym (tree_moved first_column w.again) ∙ ap (λ (c : Phrase). tree_placeless (tree_of c)) w.same ∙ tree_moved first_column a ∙ written_part_tree t v o;
        unlisted = no_end_list w.again flat_good;
        operand = λ e. sym (head_flat w.again) ∙ ap head w.same ∙ head_flat a ∙ ap (λ (x : Bool). head (b.part t x)) e ∙ operand_primary t;
      };
      in_column = flat_good;
    }

-- of the pieces of a tree, wherever they begin
pub spelled_there : (edge : ℕ) (o : Bool) (t : Tree) (v : IsWritable t) (p : Place) (at : ℕ) → Right edge p → Flat edge o t (text.tokens_of p at (lexed (part t o []) (part_is_spelled t v o)))
spelled_there edge o t v p at r =
    let ps = part t o [] in
    let h = part_is_spelled t v o in
    spelled edge o t v (text.tokens_of p at (lexed ps h)) (lexed_kinds ps h p at) (lexed_right edge ps h p at r)

pub cut : (t : Tree) (o : Bool) → IsWritable t → IsCut o t
cut t o v =
    let ps = part t o [] in
    let h = part_is_spelled t v o in
    record {
      pieces = lexed ps h;
      bytes = lexed_bytes ps h;
      fit = λ rest a e. lexed_fit ps h rest a (written_fits (text.text_of rest) t v o e);
      spelling = λ edge p at r. (spelled_there edge o t v p at r).spelling;
    }

-- ---- the text of a tree alone
all_of : (bytes : List ℕ) → stretch bytes 0 (length bytes) ≡ bytes
all_of bytes = take_all (length bytes - 0) bytes (omega arith)

pub read_back : (t : Tree) → IsWritable t → (ts : List text.Token) × Tok (written t) 0 (length (written t)) ts × IsSpelling 0 false t ts
read_back t v =
    let c = cut t false v in
    let F : List text.Piece → Type 0 = λ ps. AllFit ps in (
      text.tokens_of (place_at (written t) 0) 0 c.pieces,
      record { pieces = c.pieces; cut = all_of (written t) ∙ sym c.bytes; fit = subst F (append-nil c.pieces) (c.fit [] tt refl); tokens = refl },
      c.spelling 0 (place_at (written t) 0) 0 refl,
    )

spelling_of : (t : Tree) (ts : List text.Token) → IsWritable t → Tok (written t) 0 (length (written t)) ts → IsSpelling 0 false t ts
spelling_of t ts v k =
    let r = read_back t v in
    subst (λ (us : List text.Token). IsSpelling 0 false t us) (one_list (written t) 0 (length (written t)) r.0 ts r.1 k) r.2

pub only_tree : (t u : Tree) (ts : List text.Token) → IsWritable t → Tok (written t) 0 (length (written t)) ts → Spells (views ts) u → tree_placeless u ≡ tree_placeless t
only_tree t u ts v k (b, g, s, e) =
    let p = spelling_of t ts v k in
    let same : b ≡ p.phrase = one_phrase 0 b p.phrase g p.good (sym s ∙ p.tokens) in
    ap tree_placeless (sym e) ∙ ap (λ (c : Phrase). tree_placeless (tree_of c)) same ∙ p.tree

pub reads_back : (t : Tree) (ts : List text.Token) → IsWritable t → Tok (written t) 0 (length (written t)) ts → (a : Phrase) × (read 0 (views ts) ≡ Ok (a, [])) × (tree_placeless (tree_of a) ≡ tree_placeless t)
reads_back t ts v k = (let p = spelling_of t ts v k in (p.phrase, ap (λ (us : List Token). read 0 us) p.tokens ∙ spelled_is_read 0 p.phrase p.good, p.tree))
