-- No tokens spell an algorithm in each syntax: a brace stands after the name in one alone.
use Rattle.std.proofs.Common.{◌≡◌, Bool, true, false, List, [], ◌∷◌, refl, sym, ap, ◌∙◌, codes}
use Rattle.tla_token.specs.Tokens as text
use Rattle.tla_tree.specs.Tree.{Name}
use Rattle.tla_tree.specs.Lexical.{TokenView, Token}
use Rattle.tla_tree.specs.Lexical as tk
use Rattle.tla_tree.specs.Reader.{tail}
use Rattle.pcal_tree.specs.Algorithm.{Algorithm}
use Rattle.pcal_tree.specs.GrammarParts.{name, key, mark, Section, no_section, section, section_tokens}
use Rattle.pcal_tree.specs.Grammar.{p_syntax, c_syntax, Macro, macro, Procedure, procedure, Fair, unfair, weak, strong, fair, Head, algorithm, fair_algorithm, head, Define, no_define, define_end, define_braces, define, GoodDefine, Main, begin, block, processes, main, GoodMain, each, Around, to_end, in_braces, around, GoodAround, Text, spell, Good, SpellsP, SpellsC}
use Rattle.syntax_reading.specs.TokenReaders.{first}

abbrev is_brace : TokenView → Bool
is_brace (tk.mark tk.open_brace) = true
is_brace k = false

abbrev is_name : TokenView → Bool
is_name (tk.word x) = true
is_name k = false

abbrev NoBrace : List Token → Type 0
NoBrace ts = is_brace (first ts).kind ≡ false

-- ---- what comes first in P-syntax
fair_first : (f : Fair) (ts : List Token) → NoBrace ts → NoBrace (fair f ts)
fair_first unfair ts h = h
fair_first (weak p) ts h = refl
fair_first (strong p q) ts h = refl

main_first : (x : Main) → GoodMain p_syntax x → (ts : List Token) → NoBrace (main x ts)
main_first (begin a ss) i ts = refl
main_first (block a ss b s) i ts = absurd i
main_first (processes x xs) i ts = fair_first x.fair _ refl

macros_first : (xs : List Macro) (ts : List Token) → NoBrace ts → NoBrace (each macro xs ts)
macros_first [] ts h = h
macros_first (x ∷ xs) ts h = refl

procedures_first : (xs : List Procedure) (ts : List Token) → NoBrace ts → NoBrace (each procedure xs ts)
procedures_first [] ts h = h
procedures_first (x ∷ xs) ts h = refl

define_first : (d : Define) → GoodDefine p_syntax d → (ts : List Token) → NoBrace ts → NoBrace (define d ts)
define_first no_define i ts h = h
define_first (define_end a ds b d s) i ts h = refl
define_first (define_braces a b ds d s) i ts h = absurd i

section_first : (x : Section) (ts : List Token) → NoBrace ts → NoBrace (section_tokens x ts)
section_first no_section ts h = h
section_first (section p b vs) ts h = refl

-- what is inside
abbrev inner : Text → List Token → List Token
inner x us = section_tokens x.variables (define x.define (each macro x.macros (each procedure x.procedures (main x.main us))))

inner_first : (x : Text) → Good p_syntax x → (us : List Token) → NoBrace (inner x us)
inner_first x i us =
    section_first x.variables _ (define_first x.define i.2 _ (macros_first x.macros _ (procedures_first x.procedures _ (main_first x.main i.5 us))))

-- ---- after the name
heads_apart : (h k : Head) (x y : Name) (us vs : List Token) → NoBrace us → is_brace (first vs).kind ≡ true → head h (name x us) ≡ head k (name y vs) → ⊥
heads_apart (algorithm a) (algorithm b) x y us vs i j e = (let same = ap (λ (ts : List Token). is_brace (first (tail (tail ts))).kind) e in cc)
heads_apart (algorithm a) (fair_algorithm b c) x y us vs i j e = (let same = ap (λ (ts : List Token). is_name (first (tail ts)).kind) e in cc)
heads_apart (fair_algorithm a b) (algorithm c) x y us vs i j e = (let same = ap (λ (ts : List Token). is_name (first (tail ts)).kind) e in cc)
heads_apart (fair_algorithm a b) (fair_algorithm c d) x y us vs i j e = (let same = ap (λ (ts : List Token). is_brace (first (tail (tail (tail ts)))).kind) e in cc)

pub syntaxes_apart : (x y : Text) → Good p_syntax x → Good c_syntax y → spell x [] ≡ spell y [] → ⊥
syntaxes_apart x y i j e = by x.around y.around i.0 j.0 e
  where
    by : (a b : Around) → GoodAround p_syntax a → GoodAround c_syntax b → head x.head (name x.name (around a (inner x) [])) ≡ head y.head (name y.name (around b (inner y) [])) → ⊥
    by (to_end p q) (in_braces r s) u v e = heads_apart x.head y.head x.name y.name (inner x (key p (codes "end") (key q (codes "algorithm") []))) (mark r tk.open_brace (inner y (mark s tk.close_brace []))) (inner_first x i _) refl e
    by (to_end p q) (to_end r s) u v e = absurd v
    by (in_braces p q) b u v e = absurd u

pub no_tree_in_both : (ts : List text.Token) (a b : Algorithm) → SpellsP ts a → SpellsC ts b → ⊥
no_tree_in_both ts a b (x, i, s, u) (y, j, t, v) = syntaxes_apart x y i j (sym s ∙ t)
