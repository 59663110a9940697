-- The tokens of an algorithm, from its name on, end where the algorithm of a file ends, and nowhere before.
use Rattle.std.proofs.Common.{◌≡◌, ℕ, zero, suc, Bool, true, false, ◌&&◌, List, [], ◌∷◌, Option, Some, None, refl, ap, ◌∙◌, codes}
use Rattle.std.specs.Prelude.{if◌then◌else◌}
use Rattle.std.specs.Str.{bytes_eq}
use Rattle.std.specs.List.{AllByRecursion}
use Rattle.tla_token.specs.declared.place.Place.{Place}
use Rattle.tla_tree.specs.Tree.{Word}
use Rattle.tla_tree.specs.Lexical.{TokenView, Token}
use Rattle.tla_tree.specs.Lexical as tk
use Rattle.pcal_tree.specs.GrammarParts.{Tokens, mark, key, expression, maybe_semicolon, Section, no_section, section, section_tokens, bind_sign}
use Rattle.pcal_tree.specs.Grammar.{Syntax, p_syntax, c_syntax, Body, begin_end, braces, body, GoodBody, Macro, macro, GoodMacro, Procedure, procedure, GoodProcedure, Fair, unfair, weak, strong, fair, Identity, bare, bracketed, identity, Process, process, GoodProcess, Define, no_define, define_end, define_braces, define, GoodDefine, Main, begin, block, processes, main, GoodMain, each, Around, to_end, in_braces, around, GoodAround, Text, Good}
use Rattle.printed_text.proofs.ExprEnds.{behind_c, behind_p, Words, sign_level, sign_words, levels, words}
use Rattle.printed_text.proofs.PartEnds.{maybe_semicolon_levels, maybe_semicolon_words, macro_parameter_levels, macro_parameter_words, procedure_parameter_levels, procedure_parameter_words, section_levels, section_words, definition_levels, definition_words}
use Rattle.printed_text.proofs.StatementEndsP.{sequence_words}
use Rattle.printed_text.proofs.StatementEndsC.{sequence_levels}

-- ---- in P-syntax

body_words : (w : Word) → bytes_eq w (codes "algorithm") ≡ false → (x : Body) → GoodBody p_syntax x → (k : Bool) (ts : List Token) → Words k (body w x ts) ts
body_words w h (begin_end a ss b d s) good k ts =
    let first = sequence_words ss false (key b (codes "end") (key d w (maybe_semicolon s ts))) in
    let last = maybe_semicolon_words s (bytes_eq w (codes "end")) ts in
    let past : behind_p true (key d w (maybe_semicolon s ts)) ≡ behind_p (bytes_eq w (codes "end")) (maybe_semicolon s ts) =
    ap (λ (j : Bool). if j && true then Some (maybe_semicolon s ts) else behind_p (bytes_eq w (codes "end")) (maybe_semicolon s ts)) h in
    (last.0, first.1 ∙ past ∙ last.1)
body_words w h (braces a ss b s) good k ts = absurd good

macro_words : (x : Macro) → GoodMacro p_syntax x → (k : Bool) (ts : List Token) → Words k (macro x ts) ts
macro_words x good k ts =
    let first = macro_parameter_words x.parameters false (body (codes "macro") x.body ts) in
    let last = body_words (codes "macro") refl x.body good first.0 ts in
    (last.0, first.1 ∙ last.1)

procedure_words : (x : Procedure) → GoodProcedure p_syntax x → (k : Bool) (ts : List Token) → Words k (procedure x ts) ts
procedure_words x good k ts =
    let first = procedure_parameter_words x.parameters false (section_tokens x.variables (body (codes "procedure") x.body ts)) in
    let second = section_words x.variables first.0 (body (codes "procedure") x.body ts) in
    let last = body_words (codes "procedure") refl x.body good.2 second.0 ts in
    (last.0, first.1 ∙ second.1 ∙ last.1)

fair_words : (x : Fair) (k : Bool) (ts : List Token) → Words k (fair x ts) ts
fair_words unfair k ts = (k, refl)
fair_words (weak a) k ts = (false, refl)
fair_words (strong a b) k ts = (false, refl)

identity_words : (x : Identity) (k : Bool) (ts : List Token) → Words k (identity x ts) ts
identity_words (bare x b a e) k ts = (let last = words e false ts in (last.0, sign_words a (bind_sign b) false (expression e ts) ∙ last.1))
identity_words (bracketed q x b a e r) k ts = (let last = words e false (mark r tk.close_bracket ts) in (false, sign_words a (bind_sign b) false (expression e (mark r tk.close_bracket ts)) ∙ last.1))

-- a word that is not `algorithm` is passed over
process_word : (p : Place) (k : Bool) (ts : List Token) → behind_p k (key p (codes "process") ts) ≡ behind_p false ts
process_word p k ts = refl

process_words : (x : Process) → GoodProcess p_syntax x → (k : Bool) (ts : List Token) → Words k (process x ts) ts
process_words x good k ts =
    let rest : List Token = section_tokens x.variables (body (codes "process") x.body ts) in
    let first = fair_words x.fair k (key x.place (codes "process") (identity x.identity rest)) in
    let second = identity_words x.identity false rest in
    let third = section_words x.variables second.0 (body (codes "process") x.body ts) in
    let last = body_words (codes "process") refl x.body good.2 third.0 ts in
    (last.0, first.1 ∙ process_word x.place first.0 (identity x.identity rest) ∙ second.1 ∙ third.1 ∙ last.1)

each_words : {A : Type 0} (f : A → Tokens) (G : A → Type 0) → ((x : A) → G x → (k : Bool) (ts : List Token) → Words k (f x ts) ts) → (xs : List A) → AllByRecursion G xs → (k : Bool) (ts : List Token) → Words k (each f xs ts) ts
each_words f G h [] good k ts = (k, refl)
each_words f G h (x ∷ xs) good k ts =
    let first = h x good.0 k (each f xs ts) in
    let last = each_words f G h xs good.1 first.0 ts in
    (last.0, first.1 ∙ last.1)

define_words : (x : Define) → GoodDefine p_syntax x → (k : Bool) (ts : List Token) → Words k (define x ts) ts
define_words no_define good k ts = (k, refl)
define_words (define_end a ds b d s) good k ts =
    let first = definition_words ds false (key b (codes "end") (key d (codes "define") (maybe_semicolon s ts))) in
    let last = maybe_semicolon_words s false ts in
    (last.0, first.1 ∙ last.1)
define_words (define_braces a b ds d s) good k ts = absurd good

main_words : (x : Main) → GoodMain p_syntax x → (k : Bool) (ts : List Token) → Words k (main x ts) ts
main_words (begin a ss) good k ts = sequence_words ss false ts
main_words (block a ss b s) good k ts = absurd good
main_words (processes x xs) good k ts =
    let first = process_words x good.0 k (each process xs ts) in
    let last = each_words process (GoodProcess p_syntax) process_words xs good.1 first.0 ts in
    (last.0, first.1 ∙ last.1)

-- between the name and the end
abbrev inside : Text → Tokens
inside x ts = section_tokens x.variables (define x.define (each macro x.macros (each procedure x.procedures (main x.main ts))))

inside_words : (x : Text) → Good p_syntax x → (k : Bool) (ts : List Token) → Words k (inside x ts) ts
inside_words x good k ts =
    let first = section_words x.variables k (define x.define (each macro x.macros (each procedure x.procedures (main x.main ts)))) in
    let second = define_words x.define good.2 first.0 (each macro x.macros (each procedure x.procedures (main x.main ts))) in
    let third = each_words macro (GoodMacro p_syntax) macro_words x.macros good.3 second.0 (each procedure x.procedures (main x.main ts)) in
    let fourth = each_words procedure (GoodProcedure p_syntax) procedure_words x.procedures good.4 third.0 (main x.main ts) in
    let last = main_words x.main good.5 fourth.0 ts in
    (last.0, first.1 ∙ second.1 ∙ third.1 ∙ fourth.1 ∙ last.1)

-- ---- in C-syntax

body_levels : (w : Word) (x : Body) → GoodBody c_syntax x → (d : ℕ) (ts : List Token) → behind_c d (body w x ts) ≡ behind_c d ts
body_levels w (begin_end a ss b e s) good d ts = absurd good
body_levels w (braces a ss b s) good d ts = sequence_levels ss (suc d) (mark b tk.close_brace (maybe_semicolon s ts)) ∙ maybe_semicolon_levels s d ts

macro_levels : (x : Macro) → GoodMacro c_syntax x → (d : ℕ) (ts : List Token) → behind_c d (macro x ts) ≡ behind_c d ts
macro_levels x good d ts = macro_parameter_levels x.parameters d (body (codes "macro") x.body ts) ∙ body_levels (codes "macro") x.body good d ts

procedure_levels : (x : Procedure) → GoodProcedure c_syntax x → (d : ℕ) (ts : List Token) → behind_c d (procedure x ts) ≡ behind_c d ts
procedure_levels x good d ts =
    procedure_parameter_levels x.parameters d (section_tokens x.variables (body (codes "procedure") x.body ts)) ∙ section_levels x.variables d (body (codes "procedure") x.body ts)
    ∙ body_levels (codes "procedure") x.body good.2 d ts

fair_levels : (x : Fair) (d : ℕ) (ts : List Token) → behind_c d (fair x ts) ≡ behind_c d ts
fair_levels unfair d ts = refl
fair_levels (weak a) d ts = refl
fair_levels (strong a b) d ts = refl

identity_levels : (x : Identity) (d : ℕ) (ts : List Token) → behind_c d (identity x ts) ≡ behind_c d ts
identity_levels (bare x b a e) d ts = sign_level a (bind_sign b) d (expression e ts) ∙ levels e d ts
identity_levels (bracketed q x b a e r) d ts = sign_level a (bind_sign b) d (expression e (mark r tk.close_bracket ts)) ∙ levels e d (mark r tk.close_bracket ts)

process_levels : (x : Process) → GoodProcess c_syntax x → (d : ℕ) (ts : List Token) → behind_c d (process x ts) ≡ behind_c d ts
process_levels x good d ts =
    let rest : List Token = section_tokens x.variables (body (codes "process") x.body ts) in
    fair_levels x.fair d (key x.place (codes "process") (identity x.identity rest)) ∙ identity_levels x.identity d rest
    ∙ section_levels x.variables d (body (codes "process") x.body ts) ∙ body_levels (codes "process") x.body good.2 d ts

each_levels : {A : Type 0} (f : A → Tokens) (G : A → Type 0) → ((x : A) → G x → (d : ℕ) (ts : List Token) → behind_c d (f x ts) ≡ behind_c d ts) → (xs : List A) → AllByRecursion G xs → (d : ℕ) (ts : List Token) → behind_c d (each f xs ts) ≡ behind_c d ts
each_levels f G h [] good d ts = refl
each_levels f G h (x ∷ xs) good d ts = h x good.0 d (each f xs ts) ∙ each_levels f G h xs good.1 d ts

define_levels : (x : Define) → GoodDefine c_syntax x → (d : ℕ) (ts : List Token) → behind_c d (define x ts) ≡ behind_c d ts
define_levels no_define good d ts = refl
define_levels (define_end a ds b e s) good d ts = absurd good
define_levels (define_braces a b ds e s) good d ts = definition_levels ds (suc d) (mark e tk.close_brace (maybe_semicolon s ts)) ∙ maybe_semicolon_levels s d ts

main_levels : (x : Main) → GoodMain c_syntax x → (d : ℕ) (ts : List Token) → behind_c d (main x ts) ≡ behind_c d ts
main_levels (begin a ss) good d ts = absurd good
main_levels (block a ss b s) good d ts = sequence_levels ss (suc d) (mark b tk.close_brace (maybe_semicolon s ts)) ∙ maybe_semicolon_levels s d ts
main_levels (processes x xs) good d ts = process_levels x good.0 d (each process xs ts) ∙ each_levels process (GoodProcess c_syntax) process_levels xs good.1 d ts

inside_levels : (x : Text) → Good c_syntax x → (d : ℕ) (ts : List Token) → behind_c d (inside x ts) ≡ behind_c d ts
inside_levels x good d ts =
    section_levels x.variables d (define x.define (each macro x.macros (each procedure x.procedures (main x.main ts))))
    ∙ define_levels x.define good.2 d (each macro x.macros (each procedure x.procedures (main x.main ts)))
    ∙ each_levels macro (GoodMacro c_syntax) macro_levels x.macros good.3 d (each procedure x.procedures (main x.main ts))
    ∙ each_levels procedure (GoodProcedure c_syntax) procedure_levels x.procedures good.4 d (main x.main ts)
    ∙ main_levels x.main good.5 d ts

-- ---- a brace after the name

-- after the algorithm's end, from behind its name on
abbrev pub behind_name : List Token → Option (List Token)
behind_name [] = None
behind_name (t ∷ ts) = by t.kind
  where
    by : TokenView → Option (List Token)
    by (tk.mark tk.open_brace) = behind_c zero ts
    by k = behind_p false (t ∷ ts)

abbrev is_keyed : List Token → Bool
is_keyed [] = false
is_keyed (t ∷ ts) = by t.kind
  where
    by : TokenView → Bool
    by (tk.reserved w) = true
    by k = false

keyed_name : (ts : List Token) → is_keyed ts ≡ true → behind_name ts ≡ behind_p false ts
keyed_name [] h = refl
keyed_name (t ∷ ts) h = by t.kind refl
  where
    by : (k : TokenView) → t.kind ≡ k → behind_name (t ∷ ts) ≡ behind_p false (t ∷ ts)
    by (tk.reserved w) e = rw e refl
    by (tk.sign o) e = (let f : false ≡ true = rw e at h in absurd cc)
    by (tk.word x) e = (let f : false ≡ true = rw e at h in absurd cc)
    by (tk.number n) e = (let f : false ≡ true = rw e at h in absurd cc)
    by (tk.string x) e = (let f : false ≡ true = rw e at h in absurd cc)
    by (tk.constant c) e = (let f : false ≡ true = rw e at h in absurd cc)
    by (tk.mark m) e = (let f : false ≡ true = rw e at h in absurd cc)
    by (tk.key c) e = (let f : false ≡ true = rw e at h in absurd cc)
    by (tk.other x) e = (let f : false ≡ true = rw e at h in absurd cc)

keyed_fair : (x : Fair) (p : Place) (w : Word) (ts : List Token) → is_keyed (fair x (key p w ts)) ≡ true
keyed_fair unfair p w ts = refl
keyed_fair (weak a) p w ts = refl
keyed_fair (strong a b) p w ts = refl

keyed_main : (x : Main) → GoodMain p_syntax x → (ts : List Token) → is_keyed (main x ts) ≡ true
keyed_main (begin a ss) good ts = refl
keyed_main (block a ss b s) good ts = absurd good
keyed_main (processes x xs) good ts = keyed_fair x.fair x.place (codes "process") (identity x.identity (section_tokens x.variables (body (codes "process") x.body (each process xs ts))))

keyed_procedures : (xs : List Procedure) (ts : List Token) → is_keyed ts ≡ true → is_keyed (each procedure xs ts) ≡ true
keyed_procedures [] ts h = h
keyed_procedures (x ∷ xs) ts h = refl

keyed_macros : (xs : List Macro) (ts : List Token) → is_keyed ts ≡ true → is_keyed (each macro xs ts) ≡ true
keyed_macros [] ts h = h
keyed_macros (x ∷ xs) ts h = refl

keyed_define : (x : Define) (ts : List Token) → is_keyed ts ≡ true → is_keyed (define x ts) ≡ true
keyed_define no_define ts h = h
keyed_define (define_end a ds b d s) ts h = refl
keyed_define (define_braces a b ds d s) ts h = refl

keyed_section : (x : Section) (ts : List Token) → is_keyed ts ≡ true → is_keyed (section_tokens x ts) ≡ true
keyed_section no_section ts h = h
keyed_section (section p b vs) ts h = refl

keyed_inside : (x : Text) → Good p_syntax x → (ts : List Token) → is_keyed (inside x ts) ≡ true
keyed_inside x good ts =
    keyed_section x.variables _ (keyed_define x.define _ (keyed_macros x.macros _ (keyed_procedures x.procedures (main x.main ts) (keyed_main x.main good.5 ts))))

-- ---- the whole

ends_p : (x : Text) → Good p_syntax x → (r : Around) → GoodAround p_syntax r → behind_name (around r (inside x) []) ≡ Some []
ends_p x good (to_end a b) h =
    let rest : List Token = key a (codes "end") (key b (codes "algorithm") []) in
    keyed_name (inside x rest) (keyed_inside x good rest) ∙ (inside_words x good false rest).1
ends_p x good (in_braces a b) h = absurd h

ends_c : (x : Text) → Good c_syntax x → (r : Around) → GoodAround c_syntax r → behind_name (around r (inside x) []) ≡ Some []
ends_c x good (to_end a b) h = absurd h
ends_c x good (in_braces a b) h = inside_levels x good zero (mark b tk.close_brace [])

pub ends_there : (s : Syntax) (x : Text) → Good s x → behind_name (around x.around (λ ts. section_tokens x.variables (define x.define (each macro x.macros (each procedure x.procedures (main x.main ts))))) []) ≡ Some []
ends_there p_syntax x good = ends_p x good x.around good.0
ends_there c_syntax x good = ends_c x good x.around good.0

-- ---- the syntax is told by a brace behind the name

abbrev pub begins_brace : List Token → Bool
begins_brace [] = false
begins_brace (t ∷ ts) = by t.kind
  where
    by : TokenView → Bool
    by (tk.mark tk.open_brace) = true
    by k = false

keyed_no_brace : (ts : List Token) → is_keyed ts ≡ true → begins_brace ts ≡ false
keyed_no_brace [] h = refl
keyed_no_brace (t ∷ ts) h = by t.kind refl
  where
    by : (k : TokenView) → t.kind ≡ k → begins_brace (t ∷ ts) ≡ false
    by (tk.mark m) e = (let f : false ≡ true = rw e at h in absurd cc)
    by k e = rw e refl

abbrev pub in_braces_in : Syntax → Bool
in_braces_in p_syntax = false
in_braces_in c_syntax = true

braced_by : (s : Syntax) (x : Text) → Good s x → (r : Around) → GoodAround s r → begins_brace (around r (inside x) []) ≡ in_braces_in s
braced_by p_syntax x good (to_end a b) h = (let rest : List Token = key a (codes "end") (key b (codes "algorithm") []) in keyed_no_brace (inside x rest) (keyed_inside x good rest))
braced_by p_syntax x good (in_braces a b) h = absurd h
braced_by c_syntax x good (to_end a b) h = absurd h
braced_by c_syntax x good (in_braces a b) h = refl

pub braced : (s : Syntax) (x : Text) → Good s x → begins_brace (around x.around (λ ts. section_tokens x.variables (define x.define (each macro x.macros (each procedure x.procedures (main x.main ts))))) []) ≡ in_braces_in s
braced p_syntax x good = braced_by p_syntax x good x.around good.0
braced c_syntax x good = braced_by c_syntax x good x.around good.0
