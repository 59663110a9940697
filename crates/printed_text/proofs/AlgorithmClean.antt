-- The tokens of an algorithm break no rule on words and signs that are left out.
use Rattle.std.proofs.Common.{◌≡◌, Bool, true, false, not, ◌||◌, List, [], ◌∷◌, refl, sym, ap, subst, ◌∙◌, codes}
use Rattle.std.specs.Prelude.{if◌then◌else◌}
use Rattle.std.specs.Str.{bytes_eq}
use Rattle.std.specs.List.{list_all, AllByRecursion}
use Rattle.std.proofs.lemmas.Bool.{and_parts, or_right, both_ways, not-true}
use Rattle.std.proofs.lemmas.Slice.Eq.{bytes_eq-Decides}
use Rattle.tla_token.specs.declared.sign.Sign.TheVariants as sign
use Rattle.tla_token.specs.Signs.{is_among}
use Rattle.tla_token.specs.Words.{is_pluscal_word, is_tla_word, pluscal_words, tla_words, begins_fairness}
use Rattle.tla_token.specs.Lexemes.{Kind, name, number, string, one, other}
use Rattle.tla_token.specs.Tokens as text
use Rattle.tla_token.specs.AlgorithmOffences.{left_out_words, begins_path, is_left_out, left_out}
use Rattle.tla_token.specs.declared.place.Place.{Place}
use Rattle.tla_tree.specs.Tree.{Word}
use Rattle.tla_tree.specs.Lexical.{TokenView, Token}
use Rattle.tla_tree.specs.Lexical as tk
use Rattle.tla_tree.specs.TokenViews.{kind_among, word_kinds, word_kind}
use Rattle.pcal_tree.specs.AlgorithmTokens.{kind_of, views}
use Rattle.pcal_tree.specs.GrammarParts.{Tokens, mark, key, expression, maybe_semicolon, section_tokens, bind_sign}
use Rattle.pcal_tree.specs.Grammar.{Syntax, p_syntax, c_syntax, Body, begin_end, braces, body, GoodBody, Macro, macro, GoodMacro, Procedure, procedure, GoodProcedure, Fair, unfair, weak, strong, fair, Identity, bare, bracketed, identity, GoodIdentity, Process, process, GoodProcess, Head, algorithm, fair_algorithm, head, Define, no_define, define_end, define_braces, define, GoodDefine, Main, begin, block, processes, main, GoodMain, each, Around, to_end, in_braces, around, GoodAround, Text, Good, spell}
use Rattle.printed_text.proofs.Stages.{is_plain, free_plain}
use Rattle.printed_text.proofs.ExprClean.{Clean, Fits, is_path, sign_fits, clean}
use Rattle.printed_text.proofs.PartClean.{maybe_semicolon_clean, macro_parameter_clean, procedure_parameter_clean, section_clean, definition_clean}
use Rattle.printed_text.proofs.StatementCleanP as p_statements
use Rattle.printed_text.proofs.StatementCleanC as c_statements

-- ---- the algorithm around its statements

body_clean : (s : Syntax) (w : Word) (x : Body) (ts : List Token) → GoodBody s x → Clean ts → Clean (body w x ts)
body_clean p_syntax w (begin_end a ss b d m) ts good h = (tt, p_statements.sequence_clean ss (key b (codes "end") (key d w (maybe_semicolon m ts))) good (tt, (tt, maybe_semicolon_clean m ts h)))
body_clean c_syntax w (braces a ss b m) ts good h = (tt, c_statements.sequence_clean ss (mark b tk.close_brace (maybe_semicolon m ts)) good (tt, maybe_semicolon_clean m ts h))
body_clean p_syntax w (braces a ss b m) ts good h = absurd good
body_clean c_syntax w (begin_end a ss b d m) ts good h = absurd good

macro_clean : (s : Syntax) (x : Macro) (ts : List Token) → GoodMacro s x → Clean ts → Clean (macro x ts)
macro_clean s x ts good h = (tt, (tt, macro_parameter_clean x.parameters (body (codes "macro") x.body ts) (body_clean s (codes "macro") x.body ts good h)))

procedure_clean : (s : Syntax) (x : Procedure) (ts : List Token) → GoodProcedure s x → Clean ts → Clean (procedure x ts)
procedure_clean s x ts good h = (
  tt,
  (
    tt,
    procedure_parameter_clean x.parameters (section_tokens x.variables (body (codes "procedure") x.body ts)) good.0
        (section_clean false x.variables (body (codes "procedure") x.body ts) good.1 (body_clean s (codes "procedure") x.body ts good.2 h)),
  ),
)

fair_clean : (x : Fair) (ts : List Token) → Clean ts → Clean (fair x ts)
fair_clean unfair ts h = h
fair_clean (weak a) ts h = (tt, h)
fair_clean (strong a b) ts h = (tt, (tt, h))

identity_clean : (s : Syntax) (x : Identity) (ts : List Token) → GoodIdentity s x → Clean ts → Clean (identity x ts)
identity_clean p_syntax (bare x b a e) ts good h = (tt, (sign_fits (bind_sign b) (expression e ts), clean 0 e ts good h))
identity_clean c_syntax (bracketed q x b a e r) ts good h = (tt, (tt, (sign_fits (bind_sign b) (expression e (mark r tk.close_bracket ts)), clean 0 e (mark r tk.close_bracket ts) good (tt, h))))
identity_clean p_syntax (bracketed q x b a e r) ts good h = absurd good
identity_clean c_syntax (bare x b a e) ts good h = absurd good

process_clean : (s : Syntax) (x : Process) (ts : List Token) → GoodProcess s x → Clean ts → Clean (process x ts)
process_clean s x ts good h =
    let rest : List Token = section_tokens x.variables (body (codes "process") x.body ts) in
    fair_clean x.fair (key x.place (codes "process") (identity x.identity rest))
    (tt, identity_clean s x.identity rest good.0 (section_clean true x.variables (body (codes "process") x.body ts) good.1 (body_clean s (codes "process") x.body ts good.2 h)))

each_clean : {A : Type 0} (f : A → Tokens) (G : A → Type 0) → ((x : A) (ts : List Token) → G x → Clean ts → Clean (f x ts)) → (xs : List A) (ts : List Token) → AllByRecursion G xs → Clean ts → Clean (each f xs ts)
each_clean f G c [] ts good h = h
each_clean f G c (x ∷ xs) ts good h = c x (each f xs ts) good.0 (each_clean f G c xs ts good.1 h)

define_clean : (s : Syntax) (x : Define) (ts : List Token) → GoodDefine s x → Clean ts → Clean (define x ts)
define_clean s no_define ts good h = h
define_clean p_syntax (define_end a ds b d m) ts good h = (tt, definition_clean ds (key b (codes "end") (key d (codes "define") (maybe_semicolon m ts))) good (tt, (tt, maybe_semicolon_clean m ts h)))
define_clean c_syntax (define_braces a b ds d m) ts good h = (tt, (tt, definition_clean ds (mark d tk.close_brace (maybe_semicolon m ts)) good (tt, maybe_semicolon_clean m ts h)))
define_clean p_syntax (define_braces a b ds d m) ts good h = absurd good
define_clean c_syntax (define_end a ds b d m) ts good h = absurd good

main_clean : (s : Syntax) (x : Main) (ts : List Token) → GoodMain s x → Clean ts → Clean (main x ts)
main_clean p_syntax (begin a ss) ts good h = (tt, p_statements.sequence_clean ss ts good h)
main_clean c_syntax (block a ss b m) ts good h = (tt, c_statements.sequence_clean ss (mark b tk.close_brace (maybe_semicolon m ts)) good (tt, maybe_semicolon_clean m ts h))
main_clean p_syntax (block a ss b m) ts good h = absurd good
main_clean c_syntax (begin a ss) ts good h = absurd good
main_clean p_syntax (processes x xs) ts good h = process_clean p_syntax x (each process xs ts) good.0 (each_clean process (GoodProcess p_syntax) (process_clean p_syntax) xs ts good.1 h)
main_clean c_syntax (processes x xs) ts good h = process_clean c_syntax x (each process xs ts) good.0 (each_clean process (GoodProcess c_syntax) (process_clean c_syntax) xs ts good.1 h)

inside_clean : (s : Syntax) (x : Text) (ts : List Token) → Good s x → Clean ts
    → Clean (section_tokens x.variables (define x.define (each macro x.macros (each procedure x.procedures (main x.main ts)))))
inside_clean s x ts good h =
    let fourth : List Token = main x.main ts in
    let third : List Token = each procedure x.procedures fourth in
    let second : List Token = each macro x.macros third in
    section_clean true x.variables (define x.define second) good.1
    (define_clean s x.define second good.2
    (each_clean macro (GoodMacro s) (macro_clean s) x.macros third good.3
    (each_clean procedure (GoodProcedure s) (procedure_clean s) x.procedures fourth good.4
    (main_clean s x.main ts good.5 h))))

around_clean : (s : Syntax) (r : Around) (inside : Tokens) → GoodAround s r → ((ts : List Token) → Clean ts → Clean (inside ts)) → Clean (around r inside [])
around_clean p_syntax (to_end a b) inside good h = h (key a (codes "end") (key b (codes "algorithm") [])) (tt, (tt, tt))
around_clean c_syntax (in_braces a b) inside good h = (tt, h (mark b tk.close_brace []) (tt, tt))
around_clean p_syntax (in_braces a b) inside good h = absurd good
around_clean c_syntax (to_end a b) inside good h = absurd good

head_clean : (x : Head) (ts : List Token) → Clean ts → Clean (head x ts)
head_clean (algorithm a) ts h = (tt, h)
head_clean (fair_algorithm a b) ts h = (tt, (tt, h))

pub spelled_clean : (s : Syntax) (x : Text) → Good s x → Clean (spell x [])
spelled_clean s x good = head_clean x.head _ (tt, around_clean s x.around _ good.0 (λ ts h. inside_clean s x ts good h))

-- ---- what is left out is seen so

abbrev is_bad : Word → Bool
is_bad w = is_among left_out_words w || begins_fairness w

-- a word that is bad is none of those that are not
not_among : (ws : List Word) (w : Word) → list_all (λ u. not (is_bad u)) ws ≡ true → is_bad w ≡ true → is_among ws w ≡ false
not_among [] w h b = refl
not_among (u ∷ ws) w h b = by (bytes_eq u w) refl (not_among ws w (and_parts (not (is_bad u)) (list_all (λ u. not (is_bad u)) ws) h).1 b)
  where
    first : not (is_bad u) ≡ true
    first = (and_parts (not (is_bad u)) (list_all (λ u. not (is_bad u)) ws) h).0

    by : (k : Bool) → bytes_eq u w ≡ k → is_among ws w ≡ false → (k || is_among ws w) ≡ false
    by true k f = absurd (both_ways (is_bad u) (not-true (is_bad u) first) (ap is_bad ((bytes_eq-Decides u w).0 k) ∙ b))
    by false k f = f

other_among : (ws : List (Word × TokenView)) (w : Word) (k : TokenView) → list_all (λ u. not (is_bad u.0)) ws ≡ true → is_bad w ≡ true → kind_among ws w k ≡ k
other_among [] w k h b = refl
other_among (u ∷ ws) w k h b = by (bytes_eq u.0 w) refl (other_among ws w k (and_parts (not (is_bad u.0)) (list_all (λ u. not (is_bad u.0)) ws) h).1 b)
  where
    parts : (not (is_bad u.0) ≡ true) × (list_all (λ u. not (is_bad u.0)) ws ≡ true)
    parts = and_parts (not (is_bad u.0)) (list_all (λ u. not (is_bad u.0)) ws) h

    by : (j : Bool) → bytes_eq u.0 w ≡ j → kind_among ws w k ≡ k → (if j then u.1 else kind_among ws w k) ≡ k
    by true j f = absurd (both_ways (is_bad u.0) (not-true (is_bad u.0) parts.0) (ap is_bad ((bytes_eq-Decides u.0 w).0 j) ∙ b))
    by false j f = f

-- each left out word is one of TLA+
all_among : (ws : List Word) (w : Word) → list_all is_tla_word ws ≡ true → is_among ws w ≡ true → is_tla_word w ≡ true
all_among [] w h b = absurd cc
all_among (u ∷ ws) w h b = by (bytes_eq u w) refl b (all_among ws w (and_parts (is_tla_word u) (list_all is_tla_word ws) h).1)
  where
    by : (k : Bool) → bytes_eq u w ≡ k → (k || is_among ws w) ≡ true → (is_among ws w ≡ true → is_tla_word w ≡ true) → is_tla_word w ≡ true
    by true k f more = ap is_tla_word (sym ((bytes_eq-Decides u w).0 k)) ∙ (and_parts (is_tla_word u) (list_all is_tla_word ws) h).0
    by false k f more = more f

bad_tla : (w : Word) → is_bad w ≡ true → is_tla_word w ≡ true
bad_tla w b = by (is_among left_out_words w) refl b
  where
    by : (k : Bool) → is_among left_out_words w ≡ k → (k || begins_fairness w) ≡ true → is_tla_word w ≡ true
    by true k f = all_among left_out_words w refl k
    by false k f = or_right (is_among tla_words w) (begins_fairness w) f

bad_view : (w : Word) → is_bad w ≡ true → word_kind w ≡ tk.other w
bad_view w b =
    ap (λ (k : Bool). if k then tk.reserved w else kind_among word_kinds w (if is_tla_word w then tk.other w else tk.word w)) (not_among pluscal_words w refl b)
    ∙ other_among word_kinds w (if is_tla_word w then tk.other w else tk.word w) refl b ∙ ap (λ (k : Bool). if k then tk.other w else tk.word w) (bad_tla w b)

-- ---- so nothing is

plain_word : (w : Word) (ts : List Token) → Fits (word_kind w) ts → is_bad w ≡ false
plain_word w ts h = by (is_bad w) refl
  where
    by : (k : Bool) → is_bad w ≡ k → is_bad w ≡ false
    by false k = k
    by true k = absurd (subst (λ (v : TokenView). Fits v ts) (bad_view w k) h)

-- no word is seen as a bracket or dot
plain_path : (p : Place) (v : TokenView) → is_plain v ≡ true → is_path (tk.token p v ∷ []) ≡ true → ⊥
plain_path p (tk.mark m) e h = absurd cc
plain_path p (tk.reserved w) e h = absurd cc
plain_path p v e h = cc

no_path_in : (p : Place) (w : Word) → is_path (tk.token p (word_kind w) ∷ []) ≡ true → ⊥
no_path_in p w h = by (is_pluscal_word w) refl
  where
    by : (b : Bool) → is_pluscal_word w ≡ b → ⊥
    by true b =
        let e : ◌≡◌ {A = Bool} true false = sym h ∙ ap (λ (j : Bool). is_path (tk.token p (if j then tk.reserved w else kind_among word_kinds w (if is_tla_word w then tk.other w else tk.word w)) ∷ [])) b in
        cc
    by false b = plain_path p (word_kind w) (free_plain w b) h

no_path : (w : Word) (p : text.Token) (ts : List text.Token) → p.kind ≡ name w → is_path (views (p ∷ ts)) ≡ true → ⊥
no_path w p ts e h = no_path_in p.place w (ap (λ (k : Kind). is_path (tk.token p.place (kind_of k) ∷ [])) (sym e) ∙ h)

path_kinds : (ts : List text.Token) → is_path (views ts) ≡ true → begins_path ts ≡ true
path_kinds [] h = absurd cc
path_kinds (t ∷ ts) h = by t.kind refl
  where
    by : (k : Kind) → t.kind ≡ k → begins_path (t ∷ ts) ≡ true
    by (one sign.OpenSquare) e = rw e refl
    by (one sign.Dot) e = rw e refl
    by (name w) e = absurd (no_path w t ts e h)
    by k e = (let f : false ≡ true = rw e at h in absurd cc)

none_here : (k : Kind) (ts : List text.Token) → Fits (kind_of k) (views ts) → is_left_out k ts ≡ false
none_here (name w) ts h = plain_word w (views ts) h
none_here (other w) ts h = absurd h
none_here (one sign.Bang) ts h = ap not (path_kinds ts h)
none_here (one s) ts h = refl
none_here (number n) ts h = refl
none_here (string w) ts h = refl

pub none_left_out : (ts : List text.Token) → Clean (views ts) → left_out ts ≡ []
none_left_out [] h = refl
none_left_out (t ∷ ts) h = rw (none_here t.kind ts h.0) (none_left_out ts h.1)
