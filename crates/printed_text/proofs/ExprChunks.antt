-- Expressions as chunks of a text: what is written of one has the tokens of a phrase that has its tree, places aside.
use Rattle.std.proofs.Common.{◌≡◌, ℕ, ◌+◌, Bool, true, false, List, [], ◌∷◌, ◌++◌, length, refl, sym, ap, subst, ◌∙◌}
use Rattle.std.proofs.lemmas.Bool.{and_from}
use Rattle.tla_token.specs.declared.place.Place.{Place}
use Rattle.tla_token.specs.Places.{after}
use Rattle.tla_token.specs.Tokens.{AllFit, Fits, unmarked_kind}
use Rattle.tla_token.specs.Tokens as text
use Rattle.tla_tree.specs.declared.op.Op.{Op}
use Rattle.tla_tree.specs.declared.op.Op.TheVariants as op
use Rattle.tla_tree.specs.Tree.{Tree, Trees, node, no_trees, tree}
use Rattle.tla_tree.specs.Tree as expr
use Rattle.tla_tree.specs.Lexical.{TokenView, Token, token_text, sign_of}
use Rattle.tla_tree.specs.Lexical as tk
use Rattle.tla_tree.specs.TokenViews as expression
use Rattle.tla_tree.specs.Spelling.{Phrase, Right, IsGood, spell, tree_of, operation}
use Rattle.tla_tree.specs.Spelling as spelled
use Rattle.tla_tree.specs.Written.{Piece, blank, token, part, written}
use Rattle.tla_tree.specs.laws.Writable.{AreSpelled}
use Rattle.tla_tree.specs.laws.InText.{ends_word}
use Rattle.tla_tree.specs.laws.Placeless.{tree_placeless}
use Rattle.tla_tree.proofs.SpelledTrees.{part_is_spelled}
use Rattle.tla_tree.proofs.SpellAppend.{spell_then}
use Rattle.tla_tree.proofs.FitTrees.{Fit, written_fits}
use Rattle.tla_tree.proofs.InText.{lexed, lexed_before, Flat, spelled_there, lexed_fit}
use Rattle.pcal_tree.specs.GrammarParts as grammar
use Rattle.printed_text.specs.laws.Printable.{IsExpression, is_left_side}
use Rattle.printed_text.proofs.Calm.{AreCalm}
use Rattle.printed_text.proofs.CalmTrees.{part_is_calm}
use Rattle.printed_text.proofs.Clear.{pieces_clear}
use Rattle.printed_text.proofs.Chunks.{Fine, uncommented, unmarked, unmarked_of, small, small_of, kind_same, seen, Chunk, later}

-- ---- the pieces of an expression, before others

lexed_unmarked : (ps : List Piece) (h : AreSpelled ps) (r : List text.Piece) → AreCalm ps → unmarked r ≡ true → unmarked (lexed ps h ++ r) ≡ true
lexed_unmarked [] h r c u = u
lexed_unmarked (blank ∷ ps) h r c u = lexed_unmarked ps h r c u
lexed_unmarked (token k ∷ ps) h r c u = and_from (unmarked_kind h.0.0) (unmarked (lexed ps h.1 ++ r)) (unmarked_of h.0.0 k ps h.0.2 c.0) (lexed_unmarked ps h.1 r c.1 u)

lexed_uncommented : (ps : List Piece) (h : AreSpelled ps) (r : List text.Piece) → uncommented r ≡ true → uncommented (lexed ps h ++ r) ≡ true
lexed_uncommented [] h r u = u
lexed_uncommented (blank ∷ ps) h r u = lexed_uncommented ps h r u
lexed_uncommented (token k ∷ ps) h r u = lexed_uncommented ps h.1 r u

lexed_small : (ps : List Piece) (h : AreSpelled ps) (r : List text.Piece) → Fit (text.text_of r) ps → small r → small (lexed ps h ++ r)
lexed_small [] h r f u = u
lexed_small (blank ∷ ps) h r f u = lexed_small ps h r f u
lexed_small (token k ∷ ps) h r f u = (small_of h.0.0 k h.0.2 f.0.4, lexed_small ps h.1 r f.1 u)

lexed_fine : (ps : List Piece) (h : AreSpelled ps) {r : List text.Piece} → AreCalm ps → Fine r → Fit (text.text_of r) ps → Fine (lexed ps h ++ r)
lexed_fine ps h {r} c f t = record {
  fit = lexed_fit ps h r f.fit t;
  uncommented = lexed_uncommented ps h r f.uncommented;
  clear = ap text.holds_mark (lexed_before ps h r) ∙ pieces_clear ps (text.text_of r) c t f.clear;
  unmarked = lexed_unmarked ps h r c f.unmarked;
  small = lexed_small ps h r t f.small;
}

-- where they end
abbrev finish : Place → List Piece → Place
finish p [] = p
finish p (blank ∷ ps) = finish (after p (32 ∷ [])) ps
finish p (token k ∷ ps) = finish (after p (token_text k)) ps

finish_right : (p : Place) (ps : List Piece) → Right 0 p → Right 0 (finish p ps)
finish_right p [] h = h
finish_right p (blank ∷ ps) h = finish_right (after p (32 ∷ [])) ps (later p (32 ∷ []) h)
finish_right p (token k ∷ ps) h = finish_right (after p (token_text k)) ps (later p (token_text k) h)

lexed_seen : (p : Place) (at : ℕ) (ps : List Piece) (h : AreSpelled ps) (r : List text.Piece) → AreCalm ps → seen p (lexed ps h ++ r) ≡ expression.views (text.tokens_of p at (lexed ps h)) ++ seen (finish p ps) r
lexed_seen p at [] h r c = refl
lexed_seen p at (blank ∷ ps) h r c = lexed_seen (after p (32 ∷ [])) (at + 1) ps h r c
lexed_seen p at (token k ∷ ps) h r c =
    ap (λ (j : TokenView). tk.token p j ∷ seen (after p (token_text k)) (lexed ps h.1 ++ r)) (kind_same h.0.0 k ps h.0.2 c.0 ∙ sym h.0.2)
    ∙ ap (λ (ts : List Token). tk.token p (expression.kind_of h.0.0) ∷ ts) (lexed_seen (after p (token_text k)) (at + length (token_text k)) ps h.1 r c.1)

-- ---- left sides

abbrev is_word_kind : TokenView → Bool
is_word_kind (tk.word x) = true
is_word_kind k = false

abbrev begins_word : List Token → Bool
begins_word [] = false
begins_word (t ∷ ts) = is_word_kind t.kind

abbrev is_word_first : List Piece → Bool
is_word_first (token (tk.word x) ∷ ps) = true
is_word_first ps = false

sign_no_word : (o : Op) → is_word_kind (sign_of o) ≡ false
sign_no_word op.Negate = refl
sign_no_word o = refl

operation_no_left : (o : Op) (at : Place) (ts : Trees) → is_left_side (node (operation o) at ts) ≡ false
operation_no_left op.And at ts = refl
operation_no_left o at ts = refl

-- a phrase of a left side that begins with a word is one itself: it has no brackets
left_phrase : (a : Phrase) (ts : List Token) → is_left_side (tree_of a) ≡ true → begins_word (spell a ts) ≡ true → grammar.is_left_side a ≡ true
left_phrase (spelled.name p x) ts h b = refl
left_phrase (spelled.apply a p xs q) ts h b = left_phrase a _ h b
left_phrase (spelled.select a p f) ts h b = left_phrase a _ h b
left_phrase (spelled.constant p (tk.truth v)) ts h b = absurd cc
left_phrase (spelled.constant p tk.booleans) ts h b = absurd cc
left_phrase (spelled.constant p tk.strings) ts h b = absurd cc
left_phrase (spelled.list o (spelled.last_bullet p a)) ts h b = (let f : false ≡ true = sym (sign_no_word o) ∙ b in absurd cc)
left_phrase (spelled.list o (spelled.bullet p a bs)) ts h b = (let f : false ≡ true = sym (sign_no_word o) ∙ b in absurd cc)
left_phrase (spelled.infix_of a p o c) ts h b = (let f : false ≡ true = sym (operation_no_left o _ _) ∙ h in absurd cc)
left_phrase (spelled.prefix_of p o a) ts h b = (let f : false ≡ true = sym (operation_no_left o _ _) ∙ h in absurd cc)
left_phrase (spelled.quantified true p bs q a) ts h b = absurd cc
left_phrase (spelled.quantified false p bs q a) ts h b = absurd cc
left_phrase a ts h b = absurd cc

left_bare : (t : Tree) → is_left_side (tree_placeless t) ≡ is_left_side t
left_bare (node (expr.name x) at no_trees) = refl
left_bare (node (expr.strict expr.apply) at (tree l (tree e no_trees))) = left_bare l
left_bare (node (expr.strict (expr.select x)) at (tree l no_trees)) = left_bare l
left_bare t = refl

left_pieces : (t : Tree) → is_left_side t ≡ true → (o : Bool) (ps : List Piece) → is_word_first (part t o ps) ≡ true
left_pieces (node (expr.name x) at no_trees) h true ps = refl
left_pieces (node (expr.name x) at no_trees) h false ps = refl
left_pieces (node (expr.strict expr.apply) at (tree l (tree e no_trees))) h true ps = left_pieces l h true _
left_pieces (node (expr.strict expr.apply) at (tree l (tree e no_trees))) h false ps = left_pieces l h true _
left_pieces (node (expr.strict (expr.select x)) at (tree l no_trees)) h true ps = left_pieces l h true _
left_pieces (node (expr.strict (expr.select x)) at (tree l no_trees)) h false ps = left_pieces l h true _
left_pieces t h o ps = absurd cc

first_word : (p : Place) (ps : List Piece) (h : AreSpelled ps) → is_word_first ps ≡ true → begins_word (expression.views (text.tokens_of p 0 (lexed ps h))) ≡ true
first_word p (token (tk.word x) ∷ ps) h w = ap is_word_kind h.0.2
first_word p ps h w = absurd cc

-- ---- an expression

pub record ExprAt (t : Tree) (p : Place) : Type 0 where
  pub phrase : Phrase
  pub good : IsGood phrase
  pub tree : tree_placeless (tree_of phrase) ≡ tree_placeless t
  pub left : is_left_side t ≡ true → grammar.is_left_side phrase ≡ true
  pub chunk : Chunk ends_word p (written t) (spell phrase)

pub expr_at : (t : Tree) → IsExpression t → (p : Place) → Right 0 p → ExprAt t p
expr_at t v p h = record {
  phrase = a;
  good = x.spelling.good;
  tree = x.spelling.tree;
  left = λ l. left_phrase a [] (sym (left_bare (tree_of a)) ∙ ap is_left_side x.spelling.tree ∙ left_bare t ∙ l) (ap begins_word (sym x.spelling.tokens) ∙ first_word p ps s (left_pieces t l false []));
  chunk = record {
    end = finish p ps;
    right = finish_right p ps h;
    pieces = λ r. lexed ps s ++ r;
    bytes = λ r. lexed_before ps s r;
    fine = λ r f e. lexed_fine ps s c f (written_fits (text.text_of r) t v.0 false e);
    seen = λ r. lexed_seen p 0 ps s r c ∙ ap (λ (ts : List Token). ts ++ seen (finish p ps) r) x.spelling.tokens ∙ sym (spell_then a (seen (finish p ps) r));
  };
}
  where
    ps : List Piece
    ps = part t false []

    s : AreSpelled ps
    s = part_is_spelled t v.0 false

    c : AreCalm ps
    c = part_is_calm t v false

    x : Flat 0 false t (text.tokens_of p 0 (lexed ps s))
    x = spelled_there 0 false t v.0 p 0 h

    a : Phrase
    a = x.spelling.phrase
