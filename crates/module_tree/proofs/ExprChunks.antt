-- Expressions and names with commas as chunks of a text.
use Rattle.std.proofs.Common.{◌≡◌, ℕ, ◌+◌, Bool, true, false, not, List, [], ◌∷◌, ◌++◌, None, refl, sym, ap, subst, ◌∙◌, arith, append_assoc, codes}
use Rattle.std.proofs.lemmas.Bool.{ltb-true, lt-ltb}
use Rattle.tla_token.specs.declared.place.Place.{Place}
use Rattle.tla_token.specs.Places.{after}
use Rattle.tla_token.specs.Tokens as text
use Rattle.tla_token.proofs.OneLine.{lexeme_stays}
use Rattle.tla_tree.specs.declared.op.Op.{Op}
use Rattle.tla_tree.specs.declared.op.Op.TheVariants as op
use Rattle.tla_tree.specs.Rank.{is_prefix}
use Rattle.tla_tree.specs.Tree.{Word, Tree}
use Rattle.tla_tree.specs.Lexical.{TokenView, Token, token, sign_of, token_text}
use Rattle.tla_tree.specs.Lexical as tk
use Rattle.tla_tree.specs.TokenViews.{kind_of}
use Rattle.tla_tree.specs.Spelling.{Phrase, list, apply, select, quantified, infix_of, prefix_of, Right, Good, spell, tree_of, head, primary, end_list}
use Rattle.tla_tree.specs.Written.{part}
use Rattle.tla_tree.specs.Written as w
use Rattle.tla_tree.specs.laws.Writable.{IsIdentifier, IsWritable, AreSpelled}
use Rattle.tla_tree.specs.laws.InText.{ends_word}
use Rattle.tla_tree.specs.laws.Placeless.{tree_placeless}
use Rattle.tla_tree.proofs.SpelledTokens.{word_spelled, mark_spelled}
use Rattle.tla_tree.proofs.SpelledTrees.{part_is_spelled}
use Rattle.tla_tree.proofs.SpellAppend.{spell_then}
use Rattle.tla_tree.proofs.PlacedGood.{flat, no_list}
use Rattle.tla_tree.proofs.FitTokens.{Before, ruled, starts, name_wordy, word_fits, word_starts, comma_fits}
use Rattle.tla_tree.proofs.FitTrees.{Fit, written_fits}
use Rattle.tla_tree.proofs.InText.{lexed, lexed_before, Flat, spelled_there}
use Rattle.module_tree.specs.FileUnits.{is_bar, Cut, cut}
use Rattle.module_tree.specs.Grammar.{see, Names, last_name, more_names, spell_names, words_of, GoodNames}
use Rattle.module_tree.specs.ExprText.{joined}
use Rattle.module_tree.specs.Units.{begins_list}
use Rattle.module_tree.specs.laws.WritableRegion.{AreNames}
use Rattle.module_tree.proofs.Chunks.{Fine, space_fine, token_fine, unruled_rule, seen, seen_is, seen_append, finish, passes_sign, passes_right, Chunk, at_byte, before_byte, join, one, space, over, token_over}

-- ---- the pieces of an expression, before others

lexed_fine : (ps : List w.Piece) (h : AreSpelled ps) {r : List text.Piece} → Fine r → Fit (text.text_of r) ps → Fine (lexed ps h ++ r)
lexed_fine [] h f t = f
lexed_fine (w.blank ∷ ps) h f t = space_fine (lexed_fine ps h f t)
lexed_fine (w.token k ∷ ps) h {r} f t =
    let B : List ℕ → Type 0 = λ x. Before k x in
    token_fine k h.0.0 h.0.1 h.0.2 (subst B (sym (lexed_before ps h.1 r)) t.0) (lexed_fine ps h.1 f t.1)

not_bar : (k : TokenView) (rest : List ℕ) → ruled (token_text k ++ rest) ≡ false → is_bar k ≡ false
not_bar (tk.other v) rest h = unruled_rule v rest h
not_bar (tk.sign o) rest h = refl
not_bar (tk.word x) rest h = refl
not_bar (tk.reserved x) rest h = refl
not_bar (tk.number n) rest h = refl
not_bar (tk.string x) rest h = refl
not_bar (tk.constant c) rest h = refl
not_bar (tk.mark m) rest h = refl
not_bar (tk.key k) rest h = refl

abbrev in_front : List Token → Cut → Cut
in_front ts c = record { front = ts ++ c.front; units = c.units }

lexed_passes : (p : Place) (ps : List w.Piece) (h : AreSpelled ps) (r : List ℕ) → Right 1 p → Fit r ps → (rest : List Token) → cut (seen p (lexed ps h) ++ rest) ≡ in_front (seen p (lexed ps h)) (cut rest)
lexed_passes p [] h r t f rest = refl
lexed_passes p (w.blank ∷ ps) h r t f rest = lexed_passes (after p (32 ∷ [])) ps h r (over 1 p (32 ∷ []) t refl) f rest
lexed_passes p (w.token k ∷ ps) h r t f rest =
    let us : List Token = seen (after p (token_text k)) (lexed ps h.1) in
    let bar = ap is_bar h.0.2 ∙ not_bar k (w.text_of ps ++ r) f.0.2 in
    passes_right p (kind_of h.0.0) t bar (us ++ rest)
    ∙ ap (in_front (token p (kind_of h.0.0) ∷ [])) (lexed_passes (after p (token_text k)) ps h.1 r (over 1 p (token_text k) t (lexeme_stays h.0.0 (token_text k) h.0.1)) f.1 rest)

lexed_over : (e : ℕ) (p : Place) (ps : List w.Piece) (h : AreSpelled ps) → Right e p → Right e (finish p (lexed ps h))
lexed_over e p [] h t = t
lexed_over e p (w.blank ∷ ps) h t = lexed_over e (after p (32 ∷ [])) ps h (over e p (32 ∷ []) t refl)
lexed_over e p (w.token k ∷ ps) h t = lexed_over e (after p (token_text k)) ps h.1 (over e p (token_text k) t (lexeme_stays h.0.0 (token_text k) h.0.1))

-- no list begins it
unlisted : (e : ℕ) (a : Phrase) (ts : List Token) → Good 0 (flat a) → begins_list (spell a ts) ≡ false
unlisted e (list o bs) ts g = absurd (no_list o bs g)
unlisted e (apply a p xs q) ts g = unlisted e a _ g.0
unlisted e (select a p f) ts g = unlisted e a _ g.0
unlisted e (infix_of a p o b) ts g = unlisted e a _ g.3
unlisted e (prefix_of p o a) ts g = of_prefix o g.0
  where
    of_prefix : (o : Op) → is_prefix o ≡ true → begins_list (token p (sign_of o) ∷ []) ≡ false
    of_prefix op.Negate h = refl
    of_prefix op.Not h = refl
    of_prefix op.Subset h = refl
    of_prefix op.Union h = refl
    of_prefix op.Domain h = refl
    of_prefix o h = absurd cc
unlisted e (quantified true p bs q a) ts g = refl
unlisted e (quantified false p bs q a) ts g = refl
unlisted e a ts g = refl

-- ---- an expression, right of an edge e

pub first : (k : ℕ) (p : Place) → Right (1 + k) p → Right 1 p
first k p h = (let l = ltb-true (1 + k) p.col h in lt-ltb 1 p.col (omega (arith, l)))

pub record ExprAt (e : ℕ) (o : Bool) (t : Tree) (p : Place) : Type 0 where
  pub phrase : Phrase
  pub good : Good e phrase
  pub tree : tree_placeless (tree_of phrase) ≡ tree_placeless t
  pub unlisted : not (begins_list (spell phrase [])) ≡ true
  pub unended : end_list phrase ≡ None
  pub operand : o ≡ true → head phrase ≡ primary
  pub end : Place
  pub right : Right e end
  pub chunk : Chunk ends_word p (w.text_of (part t o [])) (spell phrase) end

-- further right than column 1
pub expr_at : (k : ℕ) (o : Bool) (t : Tree) → IsWritable t → (p : Place) → Right (1 + k) p → ExprAt (1 + k) o t p
expr_at k o t v p h = record {
  phrase = a;
  good = x.spelling.good;
  tree = x.spelling.tree;
  unlisted = ap not (unlisted 0 a [] x.in_column);
  unended = x.spelling.unlisted;
  operand = x.spelling.operand;
  end = q;
  right = lexed_over (1 + k) p ps s h;
  chunk = record {
    pieces = λ r. lexed ps s ++ r;
    bytes = λ r. lexed_before ps s r;
    fine = λ r f e. lexed_fine ps s f (written_fits (text.text_of r) t v o e);
    seen = λ r. seen_append p (lexed ps s) r ∙ sym (before (seen q r));
    passes = λ r. ap cut (before r) ∙ lexed_passes p ps s [] (first k p h) (written_fits [] t v o refl) r ∙ ap (λ (ts : List Token). record { front = ts; units = (cut r).units }) (sym (before (cut r).front));
  };
}
  where
    ps : List w.Piece
    ps = part t o []

    s : AreSpelled ps
    s = part_is_spelled t v o

    x : Flat (1 + k) o t (text.tokens_of p 0 (lexed ps s))
    x = spelled_there (1 + k) o t v p 0 h

    a : Phrase
    a = x.spelling.phrase

    q : Place
    q = finish p (lexed ps s)

    before : (r : List Token) → spell a r ≡ seen p (lexed ps s) ++ r
    before r = spell_then a r ∙ ap (λ (ts : List Token). ts ++ r) (sym x.spelling.tokens ∙ seen_is p 0 (lexed ps s))

-- ---- names

-- a name, where no unit begins
pub name_at : (p : Place) (x : Word) → IsIdentifier x → Right 1 p → Chunk ends_word p x (see p (tk.word x)) (after p x)
name_at p x h r = one ends_word p (tk.word x) (word_spelled x h) (λ y e. word_fits (tk.word x) x y refl (name_wordy x h.0) tt e) (passes_right p (tk.word x) r refl)

pub name_over : (e : ℕ) (p : Place) (x : Word) → IsIdentifier x → Right e p → Right e (after p x)
name_over e p x h r = token_over e p (tk.word x) (word_spelled x h) r

pub name_starts : (x : Word) (y : List ℕ) → IsIdentifier x → starts (x ++ y) ≡ true
name_starts x y h = word_starts (tk.word x) x y refl (name_wordy x h.0)

-- ---- marks, signs and words of the language

pub comma : (p : Place) → Chunk (at_byte 32) p (codes ",") (see p (tk.mark tk.comma)) (after p (codes ","))
comma p = one (at_byte 32) p (tk.mark tk.comma) (mark_spelled tk.comma) (before_byte 32 (Before (tk.mark tk.comma)) comma_fits) (passes_sign p (tk.mark tk.comma) refl refl)

-- ---- names with commas

pub record NamesAt (e : ℕ) (xs : List Word) (p : Place) : Type 0 where
  pub form : Names
  pub good : GoodNames e form
  pub words : words_of form ≡ xs
  pub end : Place
  pub right : Right e end
  pub chunk : Chunk ends_word p (joined xs) (spell_names form) end

pub names_at : (k : ℕ) (xs : List Word) → AreNames xs → (p : Place) → Right (1 + k) p → NamesAt (1 + k) xs p
names_at k [] h p r = absurd h
names_at k (x ∷ []) h p r = record { form = last_name p x; good = r; words = refl; end = after p x; right = name_over (1 + k) p x h r; chunk = name_at p x h (first k p r) }
names_at k (x ∷ y ∷ xs) h p r =
    let q = after p x in
    let t = after q (codes ",") in
    let s = after t (codes " ") in
    let rq = name_over (1 + k) p x h.0 r in
    let rt = over (1 + k) q (codes ",") rq refl in
    let rs = over (1 + k) t (codes " ") rt refl in
    let more = names_at k (y ∷ xs) h.1 s rs in
    record {
      form = more_names p x q more.form;
      good = (r, rq, more.good);
      words = ap (λ (zs : List Word). x ∷ zs) more.words;
      end = more.end;
      right = more.right;
      chunk = join (join (name_at p x h.0 (first k p r)) (join (comma q) (space t) (λ y e. refl)) (λ y e. refl)) more.chunk (λ y e. refl);
    }

pub names_start : (xs : List Word) (y : List ℕ) → AreNames xs → starts (joined xs ++ y) ≡ true
names_start [] y h = absurd h
names_start (x ∷ []) y h = name_starts x y h
names_start (x ∷ z ∷ xs) y h = ap starts (append_assoc (x ++ codes ", ") (joined (z ∷ xs)) y ∙ append_assoc x (codes ", ") (joined (z ∷ xs) ++ y)) ∙ name_starts x _ h.0
