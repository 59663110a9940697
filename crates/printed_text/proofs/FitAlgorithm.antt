-- Algorithms that are spelled by the tokens of a text can be printed.
use Rattle.std.proofs.Common.{◌≡◌, ℕ, Bool, true, false, List, [], ◌∷◌, map, sym, subst, codes, if◌then◌else◌}
use Rattle.std.specs.Str.{bytes_eq}
use Rattle.std.specs.List.{list_all, AllByRecursion}
use Rattle.std.proofs.lemmas.Bool.{and_parts}
use Rattle.tla_token.specs.declared.sign.Sign.{Sign}
use Rattle.tla_token.specs.declared.sign.Sign.TheVariants as sign
use Rattle.tla_token.specs.Words.{is_pluscal_word, is_tla_word}
use Rattle.tla_token.specs.Lexemes.{Kind}
use Rattle.tla_token.specs.Lexemes as lexeme
use Rattle.tla_token.specs.Tokens as text
use Rattle.tla_token.specs.Tokens.{TokAlgorithm, unmarked_kind, is_unmarked}
use Rattle.tla_tree.specs.Tree.{Word}
use Rattle.tla_tree.specs.Lexical.{TokenView, Token}
use Rattle.tla_tree.specs.Lexical as tk
use Rattle.tla_tree.specs.TokenViews.{sign_kind, kind_among, word_kinds, word_kind}
use Rattle.tla_tree.specs.TokenViews as expression
use Rattle.tla_tree.specs.Spelling.{tree_of}
use Rattle.tla_tree.specs.laws.Writable.{IsOfText, AreOfText, AreSmall}
use Rattle.tla_tree.proofs.TextTokens.{text_tokens}
use Rattle.pcal_tree.specs.Algorithm as tree
use Rattle.pcal_tree.specs.AlgorithmTokens.{kind_of, views}
use Rattle.pcal_tree.specs.GrammarParts.{Tokens}
use Rattle.pcal_tree.specs.GrammarParts as grammar
use Rattle.pcal_tree.specs.Grammar.{Syntax, p_syntax, c_syntax, Body, begin_end, braces, body, body_tree, GoodBody, Macro, macro, macro_tree, GoodMacro, Procedure, procedure, procedure_tree, GoodProcedure, Fair, unfair, weak, strong, fair, Identity, bare, bracketed, identity, process_name, identifiers, GoodIdentity, Process, process, process_tree, GoodProcess, Head, algorithm, fair_algorithm, head, Define, no_define, define_end, define_braces, define, defined, GoodDefine, Main, begin, block, processes, each, main, main_tree, GoodMain, Around, to_end, in_braces, around, GoodAround, Text, spell, algorithm_of, Good, Spells}
use Rattle.printed_text.specs.laws.Printable.{IsName, IsExpression, AreStatements, IsDefinition, IsMacro, IsProcedure, IsProcess, IsMain, IsPrintable}
use Rattle.printed_text.proofs.PlainTrees.{IsPlain}
use Rattle.printed_text.proofs.FitParts.{AreOwn, of_expression, of_semicolon, of_section, of_macro_parameters, of_procedure_parameters, of_definitions}
use Rattle.printed_text.proofs.FitStatements.{of_p_sequence, of_c_sequence}

-- ---- the tokens of a text

abbrev AllPlain : List (Word × TokenView) → Type 0
AllPlain [] = Unit {0}
AllPlain (p ∷ ps) = IsPlain p.1 × AllPlain ps

among_plain : (ps : List (Word × TokenView)) (w : Word) (k : TokenView) → AllPlain ps → IsPlain k → IsPlain (kind_among ps w k)
among_plain [] w k b h = h
among_plain (p ∷ ps) w k b h = by (bytes_eq p.0 w) (among_plain ps w k b.1 h)
  where
    by : (x : Bool) → IsPlain (kind_among ps w k) → IsPlain (if x then p.1 else kind_among ps w k)
    by true i = b.0
    by false i = i

word_plain : (w : Word) → IsPlain (word_kind w)
word_plain w = by (is_pluscal_word w) (among_plain word_kinds w (if is_tla_word w then tk.other w else tk.word w) (tt, (tt, (tt, (tt, (tt, (tt, (tt, (tt, (tt, (tt, (tt, (tt, (tt, (tt, (tt, tt))))))))))))))) (last (is_tla_word w)))
  where
    last : (x : Bool) → IsPlain (if x then tk.other w else tk.word w)
    last true = tt
    last false = tt

    by : (x : Bool) → IsPlain (kind_among word_kinds w (if is_tla_word w then tk.other w else tk.word w)) → IsPlain (if x then tk.reserved w else kind_among word_kinds w (if is_tla_word w then tk.other w else tk.word w))
    by true i = tt
    by false i = i

sign_plain : (s : Sign) → IsPlain (sign_kind s)
sign_plain sign.MapsTo = tt
sign_plain s = tt

own_kind : (k : Kind) → IsOfText (expression.kind_of k) → unmarked_kind k ≡ true → IsOfText (kind_of k) × IsPlain (kind_of k)
own_kind (lexeme.name w) h u = (h, word_plain w)
own_kind (lexeme.number n) h u = (h, tt)
own_kind (lexeme.string w) h u = (h, u)
own_kind (lexeme.one s) h u = (h, sign_plain s)
own_kind (lexeme.other w) h u = (tt, tt)

own_tokens : (ts : List text.Token) → AreOfText (expression.views ts) → list_all is_unmarked ts ≡ true → AreOwn (views ts)
own_tokens [] h u = tt
own_tokens (t ∷ ts) h u = (let p = and_parts (is_unmarked t) (list_all is_unmarked ts) u in (own_kind t.kind h.0 p.0, own_tokens ts h.1 p.1))

-- ---- bodies and units

of_body : (s : Syntax) (w : Word) (b : Body) (ts : List Token) → GoodBody s b → AreOwn (body w b ts) → AreStatements (body_tree b) × AreOwn ts
of_body p_syntax w (begin_end a ss b d z) ts g h = (let u = of_p_sequence ss _ g h.1 in (u.0, of_semicolon z ts u.1.1.1))
of_body c_syntax w (braces a ss b z) ts g h = (let u = of_c_sequence ss _ g h.1 in (u.0 tree.done tt, of_semicolon z ts u.1.1))
of_body p_syntax w (braces a ss b z) ts g h = absurd g
of_body c_syntax w (begin_end a ss b d z) ts g h = absurd g

of_macro : (s : Syntax) (m : Macro) (ts : List Token) → GoodMacro s m → AreOwn (macro m ts) → IsMacro (macro_tree m) × AreOwn ts
of_macro s m ts g h =
    let a = of_macro_parameters m.parameters _ h.1.1 in
    let b = of_body s (codes "macro") m.body ts g a.1 in
    ((h.1.0.0, a.0, b.0), b.1)

of_procedure : (s : Syntax) (x : Procedure) (ts : List Token) → GoodProcedure s x → AreOwn (procedure x ts) → IsProcedure (procedure_tree x) × AreOwn ts
of_procedure s x ts g h =
    let a = of_procedure_parameters x.parameters _ g.0 h.1.1 in
    let v = of_section false x.variables _ g.1 a.1 in
    let b = of_body s (codes "procedure") x.body ts g.2 v.1 in
    ((h.1.0.0, a.0, v.0, b.0), b.1)

of_fair : (f : Fair) (ts : List Token) → AreOwn (fair f ts) → AreOwn ts
of_fair unfair ts h = h
of_fair (weak a) ts h = h.1
of_fair (strong a b) ts h = h.1.1

of_identity : (s : Syntax) (i : Identity) (ts : List Token) → GoodIdentity s i → AreOwn (identity i ts) → IsName (process_name i) × IsExpression (tree_of (identifiers i)) × AreOwn ts
of_identity p_syntax (bare x b a e) ts g h = (let u = of_expression e ts g h.1.1 in (h.0.0, u.0, u.1))
of_identity c_syntax (bracketed q x b a e r) ts g h = (let u = of_expression e _ g h.1.1.1 in (h.1.0.0, u.0, u.1.1))
of_identity p_syntax (bracketed q x b a e r) ts g h = absurd g
of_identity c_syntax (bare x b a e) ts g h = absurd g

of_process : (s : Syntax) (x : Process) (ts : List Token) → GoodProcess s x → AreOwn (process x ts) → IsProcess (process_tree x) × AreOwn ts
of_process s x ts g h =
    let k = of_fair x.fair _ h in
    let i = of_identity s x.identity _ g.0 k.1 in
    let v = of_section true x.variables _ g.1 i.2 in
    let b = of_body s (codes "process") x.body ts g.2 v.1 in
    ((i.0, i.1, v.0, b.0), b.1)

of_each : {A B : Type 0} (f : A → Tokens) (G : A → Type 0) (t : A → B) (P : B → Type 0) → ((x : A) (ts : List Token) → G x → AreOwn (f x ts) → P (t x) × AreOwn ts) → (xs : List A) (ts : List Token) → AllByRecursion G xs → AreOwn (each f xs ts) → AllByRecursion P (map t xs) × AreOwn ts
of_each f G t P k [] ts g h = (tt, h)
of_each f G t P k (x ∷ xs) ts g h =
    let u = k x _ g.0 h in
    let w = of_each f G t P k xs ts g.1 u.1 in
    ((u.0, w.0), w.1)

-- ---- the whole

of_define : (s : Syntax) (d : Define) (ts : List Token) → GoodDefine s d → AreOwn (define d ts) → AllByRecursion IsDefinition (defined d) × AreOwn ts
of_define p_syntax no_define ts g h = (tt, h)
of_define c_syntax no_define ts g h = (tt, h)
of_define p_syntax (define_end a ds b d z) ts g h = (let u = of_definitions ds _ g h.1 in (u.0, of_semicolon z ts u.1.1.1))
of_define c_syntax (define_braces a b ds d z) ts g h = (let u = of_definitions ds _ g h.1.1 in (u.0, of_semicolon z ts u.1.1))
of_define p_syntax (define_braces a b ds d z) ts g h = absurd g
of_define c_syntax (define_end a ds b d z) ts g h = absurd g

of_processes : (s : Syntax) (x : Process) (xs : List Process) (ts : List Token) → GoodProcess s x → AllByRecursion (GoodProcess s) xs → AreOwn (main (processes x xs) ts) → IsMain (main_tree (processes x xs))
of_processes s x xs ts g k h =
    let u = of_process s x _ g h in
    let w = of_each process (GoodProcess s) process_tree IsProcess (of_process s) xs ts k u.1 in
    (u.0, w.0)

of_main : (s : Syntax) (m : Main) (ts : List Token) → GoodMain s m → AreOwn (main m ts) → IsMain (main_tree m)
of_main p_syntax (begin a ss) ts g h = (of_p_sequence ss ts g h.1).0
of_main c_syntax (block a ss b z) ts g h = (of_c_sequence ss _ g h.1).0 tree.done tt
of_main p_syntax (processes x xs) ts g h = of_processes p_syntax x xs ts g.0 g.1 h
of_main c_syntax (processes x xs) ts g h = of_processes c_syntax x xs ts g.0 g.1 h
of_main p_syntax (block a ss b z) ts g h = absurd g
of_main c_syntax (begin a ss) ts g h = absurd g

of_around : (s : Syntax) (r : Around) (inside : Tokens) (ts : List Token) → GoodAround s r → AreOwn (around r inside ts) → (us : List Token) × AreOwn (inside us)
of_around p_syntax (to_end a b) inside ts g h = (_, h)
of_around c_syntax (in_braces a b) inside ts g h = (_, h.1)
of_around p_syntax (in_braces a b) inside ts g h = absurd g
of_around c_syntax (to_end a b) inside ts g h = absurd g

abbrev rest_of : {A : Type 0} → List A → List A
rest_of [] = []
rest_of (x ∷ xs) = xs

of_head : (h : Head) (ts : List Token) → AreOwn (rest_of (head h ts)) → AreOwn ts
of_head (algorithm a) ts h = h
of_head (fair_algorithm a b) ts h = h.1

abbrev inside : Text → Tokens
inside x us = grammar.section_tokens x.variables (define x.define (each macro x.macros (each procedure x.procedures (main x.main us))))

of_text : (s : Syntax) (x : Text) → Good s x → AreOwn (rest_of (spell x [])) → IsPrintable (algorithm_of x)
of_text s x g h =
    let k = of_head x.head _ h in
    let i = of_around s x.around (inside x) [] g.0 k.1 in
    let v = of_section true x.variables _ g.1 i.1 in
    let d = of_define s x.define _ g.2 v.1 in
    let m = of_each macro (GoodMacro s) macro_tree IsMacro (of_macro s) x.macros _ g.3 d.1 in
    let p = of_each procedure (GoodProcedure s) procedure_tree IsProcedure (of_procedure s) x.procedures _ g.4 m.1 in
    record { name = k.0.0; globals = v.0; definitions = d.0; macros = m.0; procedures = p.0; main = of_main s x.main i.0 g.5 p.1 }

pub spelled_printable : (s : Syntax) (w : List ℕ) (from to : ℕ) (ts : List text.Token) (a : tree.Algorithm) → TokAlgorithm w from to ts → AreSmall ts → Spells s ts a → IsPrintable a
spelled_printable s w from to ts a k h (x, g, e, q) =
    let small = subst (λ (us : List text.Token). AreSmall us) k.tokens h in
    let own : AreOwn (views k.more) = own_tokens k.more (text_tokens w _ to k.more k.tok small.1) k.unmarked in
    let all : AreOwn (rest_of (views ts)) = subst (λ (us : List text.Token). AreOwn (rest_of (views us))) (sym k.tokens) own in
    subst IsPrintable q (of_text s x g (subst (λ (us : List Token). AreOwn (rest_of us)) e all))
