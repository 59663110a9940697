-- Numbers that are small: among the tokens of a text as they are seen, and among those of one unit.
use Rattle.std.proofs.Common.{◌≡◌, ℕ, zero, suc, Bool, true, false, ◌&&◌, if◌then◌else◌, List, [], ◌∷◌, codes, take, drop, refl, sym, ap, ◌∙◌}
use Rattle.std.specs.Str.{bytes_eq}
use Rattle.std.proofs.lemmas.Bool.{and_parts, and_from}
use Rattle.std.proofs.lemmas.List.{drop-map}
use Rattle.tla_token.specs.declared.sign.Sign.{Sign}
use Rattle.tla_token.specs.declared.sign.Sign.TheVariants as sign
use Rattle.tla_token.specs.declared.token.Token as code
use Rattle.tla_token.specs.declared.token.Tokens.{Tokens}
use Rattle.tla_token.specs.Lexemes.{Kind}
use Rattle.tla_token.specs.Lexemes as lexeme
use Rattle.tla_token.specs.Tokens as text
use Rattle.tla_token.specs.TokensSeen.{token_seen}
use Rattle.tla_token.specs.Words.{is_pluscal_word, is_tla_word}
use Rattle.tla_tree.specs.Tree.{Word}
use Rattle.tla_tree.specs.Lexical.{TokenView, Token}
use Rattle.tla_tree.specs.Lexical as tk
use Rattle.tla_tree.specs.TokenViews.{sign_kind, kind_among, word_kinds, kind_of, view, views}
use Rattle.expr_nodes.specs.Ahead.{ahead}
use Rattle.tla_expr.specs.Numbers.{NumbersFit}
use Rattle.outside_reading.specs.SmallNumbers.{is_small, all_small}
use Rattle.module_outside.proofs.BodyLaws.{numbers_fit}
use Rattle.region_reading.specs.ModuleReader.{are_small}
use Rattle.region_reading.specs.ModuleReader as pure

-- ---- as they are seen

sign_small : (s : Sign) → is_small (sign_kind s) ≡ true
sign_small sign.MapsTo = refl
sign_small sign.Equivalent = refl
sign_small sign.Pair = refl
sign_small sign.Override = refl
sign_small sign.Range = refl
sign_small sign.And = refl
sign_small sign.Or = refl
sign_small sign.Implies = refl
sign_small sign.Arrow = refl
sign_small sign.Defined = refl
sign_small sign.OpenTuple = refl
sign_small sign.CloseTuple = refl
sign_small sign.AtMost = refl
sign_small sign.AtLeast = refl
sign_small sign.NotEqual = refl
sign_small sign.Box = refl
sign_small sign.Colon = refl
sign_small sign.Comma = refl
sign_small sign.Dot = refl
sign_small sign.OpenRound = refl
sign_small sign.CloseRound = refl
sign_small sign.OpenSquare = refl
sign_small sign.CloseSquare = refl
sign_small sign.OpenCurly = refl
sign_small sign.CloseCurly = refl
sign_small sign.Equal = refl
sign_small sign.Less = refl
sign_small sign.Greater = refl
sign_small sign.Plus = refl
sign_small sign.Minus = refl
sign_small sign.Times = refl
sign_small sign.Percent = refl
sign_small sign.Not = refl
sign_small sign.Bang = refl
sign_small sign.Without = refl
sign_small sign.In = refl
sign_small sign.NotIn = refl
sign_small sign.SubsetEq = refl
sign_small sign.Cup = refl
sign_small sign.Cap = refl
sign_small sign.Divide = refl
sign_small sign.Concat = refl
sign_small sign.ForAll = refl
sign_small sign.Exists = refl
sign_small sign.Assign = refl
sign_small sign.Parallel = refl
sign_small sign.Semicolon = refl

if_small : (b : Bool) (k l : TokenView) → is_small k ≡ true → is_small l ≡ true → is_small (if b then k else l) ≡ true
if_small true k l h g = h
if_small false k l h g = g

abbrev AllSmall : List (Word × TokenView) → Type 0
AllSmall [] = Unit {0}
AllSmall (p ∷ ps) = (is_small p.1 ≡ true) × AllSmall ps

among_small : (ps : List (Word × TokenView)) (w : Word) (k : TokenView) → AllSmall ps → is_small k ≡ true → is_small (kind_among ps w k) ≡ true
among_small [] w k h g = g
among_small (p ∷ ps) w k h g = if_small (bytes_eq p.0 w) p.1 (kind_among ps w k) h.0 (among_small ps w k h.1 g)

words_small : AllSmall word_kinds
words_small = search

kind_small : (k : Kind) → is_small (kind_of k) ≡ pure.is_small k
kind_small (lexeme.name w) =
    if_small (is_pluscal_word w) (tk.reserved w) (kind_among word_kinds w (if is_tla_word w then tk.other w else tk.word w)) refl
    (among_small word_kinds w (if is_tla_word w then tk.other w else tk.word w) words_small (if_small (is_tla_word w) (tk.other w) (tk.word w) refl refl))
kind_small (lexeme.number n) = refl
kind_small (lexeme.string w) = refl
kind_small (lexeme.one s) = sign_small s
kind_small (lexeme.other w) = if_small (bytes_eq w (codes "'")) (tk.mark tk.prime) (tk.other w) refl refl

pub views_small : (ts : List text.Token) → all_small (views ts) ≡ are_small ts
views_small [] = refl
views_small (t ∷ ts) = λ i. kind_small t.kind i && views_small ts i

-- ---- of one unit

small_dropped : (ts : List Token) (n : ℕ) → all_small ts ≡ true → all_small (drop n ts) ≡ true
small_dropped ts zero h = h
small_dropped [] (suc n) h = refl
small_dropped (t ∷ ts) (suc n) h = small_dropped ts n (and_parts (is_small t.kind) (all_small ts) h).1

small_taken : (ts : List Token) (n : ℕ) → all_small ts ≡ true → all_small (take n ts) ≡ true
small_taken ts zero h = refl
small_taken [] (suc n) h = refl
small_taken (t ∷ ts) (suc n) h = (let w = and_parts (is_small t.kind) (all_small ts) h in and_from (is_small t.kind) (all_small (take n ts)) w.0 (small_taken ts n w.1))

ahead_dropped : (v : Tokens) (i : ℕ) → ahead v i ≡ drop i (ahead v 0)
ahead_dropped v i = sym (drop-map (λ (t : code.Token). view (token_seen v.bytes.items t)) i v.items.items)

pub unit_fits : (v w : Tokens) (i n : ℕ) → all_small (ahead v 0) ≡ true → ahead w 0 ≡ take n (ahead v i) → NumbersFit w
unit_fits v w i n h e = numbers_fit w (ap all_small e ∙ small_taken (ahead v i) n (ap all_small (ahead_dropped v i) ∙ small_dropped (ahead v 0) i h))
