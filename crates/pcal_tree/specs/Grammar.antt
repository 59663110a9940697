-- Algorithms as the two syntaxes spell them ("A PlusCal User's Manual", section 3 and appendix A of both versions).
use Rattle.std.specs.Prelude.{◌≡◌, List, [], ◌∷◌, Bool, true, false, Option, codes, map}
use Rattle.std.specs.List.{AllByRecursion}
use Rattle.tla_token.specs.declared.place.Place.{Place}
use Rattle.tla_token.specs.Tokens as text
use Rattle.tla_tree.specs.declared.op.Op.TheVariants as op
use Rattle.tla_tree.specs.Tree.{Word}
use Rattle.tla_tree.specs.Lexical as tk
use Rattle.tla_tree.specs.Spelling.{Phrase, IsGood, tree_of}
use Rattle.pcal_tree.specs.declared.mark.Fairness.{Fairness}
use Rattle.pcal_tree.specs.declared.mark.Fairness.TheVariants as fairness
use Rattle.pcal_tree.specs.Algorithm.{Name, Algorithm}
use Rattle.pcal_tree.specs.Algorithm as tree
use Rattle.pcal_tree.specs.AlgorithmTokens.{views}
use Rattle.pcal_tree.specs.GrammarParts.{Tokens, word, key, mark, sign, name, expression, maybe_semicolon, Section, section_tokens, declared, GoodSection, MacroParameters, macro_parameters, macro_names, ProcedureParameters, procedure_parameters, procedure_declarations, GoodProcedureParameters, Definitions, definitions, definitions_of, GoodDefinitions, bind_sign}
use Rattle.pcal_tree.specs.GrammarP as p
use Rattle.pcal_tree.specs.GrammarC as c

pub data Syntax : Type 0 where
  p_syntax : Syntax
  c_syntax : Syntax

-- ---- bodies

-- of a macro, a procedure or a process; the place after it is that of a last `;`
pub data Body : Type 0 where
  begin_end : Place → p.Sequence → Place → Place → Option Place → Body  -- begin .. end macro;
  braces : Place → c.Sequence → Place → Option Place → Body  -- { .. };

-- the word is after `end`
abbrev pub body : Word → Body → Tokens
body w (begin_end a ss b d s) ts = key a (codes "begin") (p.sequence ss (key b (codes "end") (key d w (maybe_semicolon s ts))))
body w (braces a ss b s) ts = mark a tk.open_brace (c.sequence ss (mark b tk.close_brace (maybe_semicolon s ts)))

abbrev pub body_tree : Body → tree.Statements
body_tree (begin_end a ss b d s) = p.statements ss
body_tree (braces a ss b s) = c.statements ss

abbrev pub GoodBody : Syntax → Body → Type 0
GoodBody p_syntax (begin_end a ss b d s) = p.GoodSequence ss
GoodBody c_syntax (braces a ss b s) = c.GoodSequence ss
GoodBody _ _ = ⊥

-- ---- macros, procedures, processes

pub record Macro : Type 0 where
  pub place : Place
  pub name : Name
  pub parameters : MacroParameters
  pub body : Body

abbrev pub macro : Macro → Tokens
macro m ts = key m.place (codes "macro") (name m.name (macro_parameters m.parameters (body (codes "macro") m.body ts)))

abbrev pub macro_tree : Macro → tree.Macro
macro_tree m = record { name = m.name; params = macro_names m.parameters; body = body_tree m.body }

abbrev pub GoodMacro : Syntax → Macro → Type 0
GoodMacro s m = GoodBody s m.body

pub record Procedure : Type 0 where
  pub place : Place
  pub name : Name
  pub parameters : ProcedureParameters
  pub variables : Section
  pub body : Body

abbrev pub procedure : Procedure → Tokens
procedure x ts = key x.place (codes "procedure") (name x.name (procedure_parameters x.parameters (section_tokens x.variables (body (codes "procedure") x.body ts))))

abbrev pub procedure_tree : Procedure → tree.Procedure
procedure_tree x = record { name = x.name; params = procedure_declarations x.parameters; variables = declared x.variables; body = body_tree x.body }

abbrev pub GoodProcedure : Syntax → Procedure → Type 0
GoodProcedure s x = GoodProcedureParameters x.parameters × GoodSection false x.variables × GoodBody s x.body

pub data Fair : Type 0 where
  unfair : Fair
  weak : Place → Fair  -- fair
  strong : Place → Place → Fair  -- fair +

abbrev pub fair : Fair → Tokens
fair unfair ts = ts
fair (weak a) ts = key a (codes "fair") ts
fair (strong a b) ts = key a (codes "fair") (sign b op.Plus ts)

abbrev pub fairness_of : Fair → Fairness
fairness_of unfair = fairness.Unfair
fairness_of (weak a) = fairness.Weak
fairness_of (strong a b) = fairness.Strong

-- what a process is: N \in e with true, N = e with false
pub data Identity : Type 0 where
  bare : Name → Bool → Place → Phrase → Identity
  bracketed : Place → Name → Bool → Place → Phrase → Place → Identity  -- (N \in e)

abbrev pub identity : Identity → Tokens
identity (bare x b a e) ts = name x (sign a (bind_sign b) (expression e ts))
identity (bracketed q x b a e r) ts = mark q tk.open_bracket (name x (sign a (bind_sign b) (expression e (mark r tk.close_bracket ts))))

abbrev pub process_name : Identity → Name
process_name (bare x b a e) = x
process_name (bracketed q x b a e r) = x

abbrev pub is_several : Identity → Bool
is_several (bare x b a e) = b
is_several (bracketed q x b a e r) = b

abbrev pub identifiers : Identity → Phrase
identifiers (bare x b a e) = e
identifiers (bracketed q x b a e r) = e

abbrev pub GoodIdentity : Syntax → Identity → Type 0
GoodIdentity p_syntax (bare x b a e) = IsGood e
GoodIdentity c_syntax (bracketed q x b a e r) = IsGood e
GoodIdentity _ _ = ⊥

pub record Process : Type 0 where
  pub fair : Fair
  pub place : Place
  pub identity : Identity
  pub variables : Section
  pub body : Body

abbrev pub process : Process → Tokens
process x ts = fair x.fair (key x.place (codes "process") (identity x.identity (section_tokens x.variables (body (codes "process") x.body ts))))

abbrev pub process_tree : Process → tree.Process
process_tree x = record {
  name = process_name x.identity;
  fairness = fairness_of x.fair;
  several = is_several x.identity;
  identity = tree_of (identifiers x.identity);
  variables = declared x.variables;
  body = body_tree x.body;
}

abbrev pub GoodProcess : Syntax → Process → Type 0
GoodProcess s x = GoodIdentity s x.identity × GoodSection true x.variables × GoodBody s x.body

-- ---- algorithms

pub data Head : Type 0 where
  algorithm : Place → Head  -- --algorithm
  fair_algorithm : Place → Place → Head  -- --fair algorithm

abbrev pub head : Head → Tokens
head (algorithm a) ts = word a (codes "--algorithm") ts
head (fair_algorithm a b) ts = word a (codes "--fair") (key b (codes "algorithm") ts)

abbrev pub is_fair : Head → Bool
is_fair (algorithm a) = false
is_fair (fair_algorithm a b) = true

-- the `define` block, with a last `;`
pub data Define : Type 0 where
  no_define : Define
  define_end : Place → Definitions → Place → Place → Option Place → Define  -- define .. end define;
  define_braces : Place → Place → Definitions → Place → Option Place → Define  -- define { .. };

abbrev pub define : Define → Tokens
define no_define ts = ts
define (define_end a ds b d s) ts = key a (codes "define") (definitions ds (key b (codes "end") (key d (codes "define") (maybe_semicolon s ts))))
define (define_braces a b ds d s) ts = key a (codes "define") (mark b tk.open_brace (definitions ds (mark d tk.close_brace (maybe_semicolon s ts))))

abbrev pub defined : Define → List tree.Definition
defined no_define = []
defined (define_end a ds b d s) = definitions_of ds
defined (define_braces a b ds d s) = definitions_of ds

abbrev pub GoodDefine : Syntax → Define → Type 0
GoodDefine _ no_define = Unit {0}
GoodDefine p_syntax (define_end a ds b d s) = GoodDefinitions ds
GoodDefine c_syntax (define_braces a b ds d s) = GoodDefinitions ds
GoodDefine _ _ = ⊥

-- one body, or processes
pub data Main : Type 0 where
  begin : Place → p.Sequence → Main  -- begin ..
  block : Place → c.Sequence → Place → Option Place → Main  -- { .. };
  processes : Process → List Process → Main

-- each before the next
abbrev pub each : {A : Type 0} → (A → Tokens) → List A → Tokens
each f [] ts = ts
each f (x ∷ xs) ts = f x (each f xs ts)

abbrev pub main : Main → Tokens
main (begin a ss) ts = key a (codes "begin") (p.sequence ss ts)
main (block a ss b s) ts = mark a tk.open_brace (c.sequence ss (mark b tk.close_brace (maybe_semicolon s ts)))
main (processes x xs) ts = process x (each process xs ts)

abbrev pub main_tree : Main → tree.Main
main_tree (begin a ss) = tree.alone (p.statements ss)
main_tree (block a ss b s) = tree.alone (c.statements ss)
main_tree (processes x xs) = tree.processes (process_tree x ∷ map process_tree xs)

abbrev pub GoodMain : Syntax → Main → Type 0
GoodMain p_syntax (begin a ss) = p.GoodSequence ss
GoodMain c_syntax (block a ss b s) = c.GoodSequence ss
GoodMain s (processes x xs) = GoodProcess s x × AllByRecursion (GoodProcess s) xs
GoodMain _ _ = ⊥

-- what is around all after the name
pub data Around : Type 0 where
  to_end : Place → Place → Around  -- .. end algorithm
  in_braces : Place → Place → Around  -- { .. }

abbrev pub around : Around → Tokens → Tokens
around (to_end a b) inside ts = inside (key a (codes "end") (key b (codes "algorithm") ts))
around (in_braces a b) inside ts = mark a tk.open_brace (inside (mark b tk.close_brace ts))

abbrev pub GoodAround : Syntax → Around → Type 0
GoodAround p_syntax (to_end a b) = Unit {0}
GoodAround c_syntax (in_braces a b) = Unit {0}
GoodAround _ _ = ⊥

-- an algorithm as it is spelled
pub record Text : Type 0 where
  pub head : Head
  pub name : Name
  pub around : Around
  pub variables : Section
  pub define : Define
  pub macros : List Macro
  pub procedures : List Procedure
  pub main : Main

abbrev pub spell : Text → Tokens
spell x ts = head x.head (name x.name (around x.around (λ us. section_tokens x.variables (define x.define (each macro x.macros (each procedure x.procedures (main x.main us))))) ts))

abbrev pub algorithm_of : Text → Algorithm
algorithm_of x = record {
  name = x.name;
  fair = is_fair x.head;
  globals = declared x.variables;
  definitions = defined x.define;
  macros = map macro_tree x.macros;
  procedures = map procedure_tree x.procedures;
  main = main_tree x.main;
}

abbrev pub Good : Syntax → Text → Type 0
Good s x =
    GoodAround s x.around
    × GoodSection true x.variables
    × GoodDefine s x.define
    × AllByRecursion (GoodMacro s) x.macros
    × AllByRecursion (GoodProcedure s) x.procedures
    × GoodMain s x.main

-- the tokens, in their columns, spell the algorithm
abbrev pub Spells : Syntax → List text.Token → Algorithm → Type 0
Spells s ts a = (x : Text) × Good s x × (views ts ≡ spell x []) × (algorithm_of x ≡ a)

abbrev pub SpellsP : List text.Token → Algorithm → Type 0
SpellsP ts a = Spells p_syntax ts a

abbrev pub SpellsC : List text.Token → Algorithm → Type 0
SpellsC ts a = Spells c_syntax ts a
