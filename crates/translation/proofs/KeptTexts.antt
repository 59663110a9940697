-- In an algorithm that the tokens of a text spell nothing is primed, since no token of an algorithm is a prime: statements in both syntaxes, and algorithms.
use Rattle.std.proofs.Common.{List, [], ◌∷◌, Bool, true, false, codes, map, bytes_eq, subst}
use Rattle.std.specs.Prelude.{if◌then◌else◌}
use Rattle.std.specs.List.{AllByRecursion}
use Rattle.tla_token.specs.declared.place.Place.{Place}
use Rattle.tla_token.specs.declared.sign.Sign.{Sign}
use Rattle.tla_token.specs.declared.sign.Sign.TheVariants as sign
use Rattle.tla_token.specs.Lexemes.{Kind}
use Rattle.tla_token.specs.Lexemes as lexeme
use Rattle.tla_token.specs.Tokens as text
use Rattle.tla_token.specs.Words.{is_pluscal_word, is_tla_word}
use Rattle.tla_tree.specs.Tree.{Word}
use Rattle.tla_tree.specs.Lexical.{TokenView, Token}
use Rattle.tla_tree.specs.Lexical as tk
use Rattle.tla_tree.specs.TokenViews as expression
use Rattle.tla_tree.specs.Spelling.{tree_of}
use Rattle.pcal_tree.specs.Algorithm as tree
use Rattle.pcal_tree.specs.AlgorithmTokens.{kind_of, views}
use Rattle.pcal_tree.specs.GrammarP as p
use Rattle.pcal_tree.specs.GrammarC as c
use Rattle.pcal_tree.specs.Grammar as g
use Rattle.translation.specs.laws.KeptUnprimed.{IsBare, AreBare, Unprimed, OneUnprimed, BodyUnprimed, SomeUnprimed, MacroUnprimed, ProcedureUnprimed, ProcessUnprimed, MainUnprimed, AlgorithmUnprimed}
use Rattle.translation.proofs.KeptParts.{past_semicolon, section_unprimed, past_macro_parameters, procedure_parameters_unprimed, definitions_unprimed, labels_unprimed, binds_unprimed, simple_unprimed}
use Rattle.translation.proofs.KeptPhrases.{phrase_unprimed}
use Rattle.translation.proofs.TypedAlgorithms.{tokens_after_head}

-- ---- P-syntax

mutual
  p_statement : (st : p.Statement) (ts : List Token) → AreBare (p.statement st ts) → OneUnprimed (p.statement_tree st) × AreBare ts
  p_statement (p.simple s) ts h = simple_unprimed s ts h
  p_statement (p.branch a e b x y r s) ts h =
      let l = phrase_unprimed e _ h.1 in
      let m = p_sequence x _ l.1.1 in
      let n = p_else s y _ m.1 in
      ((l.0, m.0, n.0), n.1.1.1)
  p_statement (p.either a x bs r s) ts h =
      let m = p_sequence x _ h.1 in
      let n = p_branches bs _ m.1 in
      ((m.0, n.0), n.1.1.1)
  p_statement (p.with a bs b x r s) ts h =
      let l = binds_unprimed bs _ h.1 in
      let m = p_sequence x _ l.1.1 in
      ((l.0, m.0), m.1.1.1)
  p_statement (p.while a e b x r s) ts h =
      let l = phrase_unprimed e _ h.1 in
      let m = p_sequence x _ l.1.1 in
      ((l.0, m.0), m.1.1.1)

  p_else : (last : Place) (e : p.Else) (ts : List Token) → AreBare (p.else_tokens e ts) → BodyUnprimed (p.else_statements last e) × AreBare ts
  p_else last p.no_else ts h = (tt, h)
  p_else last (p.else_then a x) ts h = p_sequence x ts h.1
  p_else last (p.else_if a e b x y) ts h =
      let l = phrase_unprimed e _ h.1 in
      let m = p_sequence x _ l.1.1 in
      let n = p_else last y ts m.1 in
      (((l.0, m.0, n.0), tt), n.1)

  p_branches : (bs : p.Branches) (ts : List Token) → AreBare (p.branches bs ts) → SomeUnprimed (p.branch_trees bs) × AreBare ts
  p_branches (p.last_branch a x) ts h = (let m = p_sequence x ts h.1 in ((m.0, tt), m.1))
  p_branches (p.more_branches a x bs) ts h =
      let m = p_sequence x _ h.1 in
      let n = p_branches bs ts m.1 in
      ((m.0, n.0), n.1)

  p_sequence : (ss : p.Sequence) (ts : List Token) → AreBare (p.sequence ss ts) → BodyUnprimed (p.statements ss) × AreBare ts
  p_sequence (p.last_statement ls st q) ts h =
      let l = labels_unprimed ls _ h in
      let m = p_statement st _ l.1 in
      (l.0 _ (m.0, tt), past_semicolon q ts m.1)
  p_sequence (p.more_statements ls st q ss) ts h =
      let l = labels_unprimed ls _ h in
      let m = p_statement st _ l.1 in
      let n = p_sequence ss ts m.1.1 in
      (l.0 _ (m.0, n.0), n.1)

-- ---- C-syntax

-- what a statement is before others in which nothing is primed
abbrev Before : (tree.Statements → tree.Statements) → Type 0
Before f = (rest : tree.Statements) → BodyUnprimed rest → BodyUnprimed (f rest)

mutual
  c_statement : (st : c.Statement) (ts : List Token) → AreBare (c.statement st ts) → Before (c.flat_statement st) × AreBare ts
  c_statement (c.simple s) ts h = (let l = simple_unprimed s ts h in ((λ rest r. (l.0, r)), l.1))
  c_statement (c.branch a b e d x y) ts h =
      let l = phrase_unprimed e _ h.1.1 in
      let m = c_labelled x _ l.1.1 in
      let n = c_else y ts m.1 in
      ((λ rest r. ((l.0, m.0 tree.done tt, n.0), r)), n.1)
  c_statement (c.either a x bs) ts h =
      let m = c_labelled x _ h.1 in
      let n = c_branches bs ts m.1 in
      ((λ rest r. ((m.0 tree.done tt, n.0), r)), n.1)
  c_statement (c.with a b bs d x) ts h =
      let l = binds_unprimed bs _ h.1.1 in
      let m = c_labelled x ts l.1.1 in
      ((λ rest r. ((l.0, m.0 tree.done tt), r)), m.1)
  c_statement (c.while a b e d x) ts h =
      let l = phrase_unprimed e _ h.1.1 in
      let m = c_labelled x ts l.1.1 in
      ((λ rest r. ((l.0, m.0 tree.done tt), r)), m.1)
  c_statement (c.compound a ss b) ts h = (let m = c_sequence ss _ h.1 in (m.0, m.1.1))

  c_labelled : (x : c.Labelled) (ts : List Token) → AreBare (c.labelled_tokens x ts) → Before (c.flat x) × AreBare ts
  c_labelled (c.labelled ls st) ts h =
      let l = labels_unprimed ls _ h in
      let m = c_statement st ts l.1 in
      ((λ rest r. l.0 _ (m.0 rest r)), m.1)

  c_else : (e : c.Else) (ts : List Token) → AreBare (c.else_tokens e ts) → BodyUnprimed (c.else_statements e) × AreBare ts
  c_else c.no_else ts h = (tt, h)
  c_else (c.else_then s q x) ts h = (let m = c_labelled x ts (past_semicolon s _ h).1 in (m.0 tree.done tt, m.1))

  c_branches : (bs : c.Branches) (ts : List Token) → AreBare (c.branches bs ts) → SomeUnprimed (c.branch_trees bs) × AreBare ts
  c_branches (c.last_branch s q x) ts h = (let m = c_labelled x ts (past_semicolon s _ h).1 in ((m.0 tree.done tt, tt), m.1))
  c_branches (c.more_branches s q x bs) ts h =
      let m = c_labelled x _ (past_semicolon s _ h).1 in
      let n = c_branches bs ts m.1 in
      ((m.0 tree.done tt, n.0), n.1)

  c_sequence : (ss : c.Sequence) (ts : List Token) → AreBare (c.sequence ss ts) → Before (c.flat_sequence ss) × AreBare ts
  c_sequence (c.last_statement x s) ts h = (let m = c_labelled x _ h in (m.0, past_semicolon s ts m.1))
  c_sequence (c.more_statements x s ss) ts h =
      let m = c_labelled x _ h in
      let n = c_sequence ss ts (past_semicolon s _ m.1) in
      ((λ rest r. m.0 _ (n.0 rest r)), n.1)

-- ---- algorithms

of_body : (w : Word) (b : g.Body) (ts : List Token) → AreBare (g.body w b ts) → BodyUnprimed (g.body_tree b) × AreBare ts
of_body w (g.begin_end a ss b d x) ts h = (let m = p_sequence ss _ h.1 in (m.0, past_semicolon x ts m.1.1.1))
of_body w (g.braces a ss b x) ts h = (let m = c_sequence ss _ h.1 in (m.0 tree.done tt, past_semicolon x ts m.1.1))

of_macro : (m : g.Macro) (ts : List Token) → AreBare (g.macro m ts) → MacroUnprimed (g.macro_tree m) × AreBare ts
of_macro m ts h = of_body (codes "macro") m.body ts (past_macro_parameters m.parameters _ h.1.1)

of_procedure : (x : g.Procedure) (ts : List Token) → AreBare (g.procedure x ts) → ProcedureUnprimed (g.procedure_tree x) × AreBare ts
of_procedure x ts h =
    let l = procedure_parameters_unprimed x.parameters _ h.1.1 in
    let m = section_unprimed x.variables _ l.1 in
    let n = of_body (codes "procedure") x.body ts m.1 in
    ((l.0, m.0, n.0), n.1)

past_fair : (f : g.Fair) (ts : List Token) → AreBare (g.fair f ts) → AreBare ts
past_fair g.unfair ts h = h
past_fair (g.weak a) ts h = h.1
past_fair (g.strong a b) ts h = h.1.1

of_identity : (i : g.Identity) (ts : List Token) → AreBare (g.identity i ts) → Unprimed (tree_of (g.identifiers i)) × AreBare ts
of_identity (g.bare x b a e) ts h = phrase_unprimed e ts h.1.1
of_identity (g.bracketed q x b a e r) ts h = (let l = phrase_unprimed e _ h.1.1.1 in (l.0, l.1.1))

of_process : (x : g.Process) (ts : List Token) → AreBare (g.process x ts) → ProcessUnprimed (g.process_tree x) × AreBare ts
of_process x ts h =
    let l = of_identity x.identity _ (past_fair x.fair _ h).1 in
    let m = section_unprimed x.variables _ l.1 in
    let n = of_body (codes "process") x.body ts m.1 in
    ((l.0, m.0, n.0), n.1)

of_define : (d : g.Define) (ts : List Token) → AreBare (g.define d ts) → AllByRecursion (λ (d : tree.Definition). Unprimed d.body) (g.defined d) × AreBare ts
of_define g.no_define ts h = (tt, h)
of_define (g.define_end a ds b d x) ts h = (let m = definitions_unprimed ds _ h.1 in (m.0, past_semicolon x ts m.1.1.1))
of_define (g.define_braces a b ds d x) ts h = (let m = definitions_unprimed ds _ h.1.1 in (m.0, past_semicolon x ts m.1.1))

-- each of a list, one after the other
of_each : {A B : Type 0} (f : A → List Token → List Token) (t : A → B) (Q : B → Type 0) → ((x : A) (ts : List Token) → AreBare (f x ts) → Q (t x) × AreBare ts)
    → (xs : List A) (ts : List Token) → AreBare (g.each f xs ts) → AllByRecursion Q (map t xs) × AreBare ts
of_each f t Q one [] ts h = (tt, h)
of_each f t Q one (x ∷ xs) ts h =
    let l = one x _ h in
    let m = of_each f t Q one xs ts l.1 in
    ((l.0, m.0), m.1)

of_main : (m : g.Main) (ts : List Token) → AreBare (g.main m ts) → MainUnprimed (g.main_tree m) × AreBare ts
of_main (g.begin a ss) ts h = p_sequence ss ts h.1
of_main (g.block a ss b x) ts h = (let m = c_sequence ss _ h.1 in (m.0 tree.done tt, past_semicolon x ts m.1.1))
of_main (g.processes x xs) ts h =
    let l = of_process x _ h in
    let m = of_each g.process g.process_tree ProcessUnprimed of_process xs ts l.1 in
    ((l.0, m.0), m.1)

of_around : (r : g.Around) (inside : List Token → List Token) (ts : List Token) → AreBare (g.around r inside ts) → (us : List Token) × AreBare (inside us)
of_around (g.to_end a b) inside ts h = (_, h)
of_around (g.in_braces a b) inside ts h = (_, h.1)

of_tokens : (x : g.Text) → AreBare (tokens_after_head x []) → AlgorithmUnprimed (g.algorithm_of x)
of_tokens x h =
    let r = of_around x.around _ [] h.1 in
    let v = section_unprimed x.variables _ r.1 in
    let d = of_define x.define _ v.1 in
    let m = of_each g.macro g.macro_tree MacroUnprimed of_macro x.macros _ d.1 in
    let q = of_each g.procedure g.procedure_tree ProcedureUnprimed of_procedure x.procedures _ m.1 in
    let n = of_main x.main _ q.1 in
    record { definitions = d.0; macros = m.0; procedures = q.0; main = n.0 }

-- ---- no token of an algorithm is a prime

sign_bare : (s : Sign) → IsBare (expression.sign_kind s)
sign_bare sign.MapsTo = tt
sign_bare sign.Equivalent = tt
sign_bare sign.Pair = tt
sign_bare sign.Override = tt
sign_bare sign.Range = tt
sign_bare sign.And = tt
sign_bare sign.Or = tt
sign_bare sign.Implies = tt
sign_bare sign.Arrow = tt
sign_bare sign.Defined = tt
sign_bare sign.OpenTuple = tt
sign_bare sign.CloseTuple = tt
sign_bare sign.AtMost = tt
sign_bare sign.AtLeast = tt
sign_bare sign.NotEqual = tt
sign_bare sign.Box = tt
sign_bare sign.Colon = tt
sign_bare sign.Comma = tt
sign_bare sign.Dot = tt
sign_bare sign.OpenRound = tt
sign_bare sign.CloseRound = tt
sign_bare sign.OpenSquare = tt
sign_bare sign.CloseSquare = tt
sign_bare sign.OpenCurly = tt
sign_bare sign.CloseCurly = tt
sign_bare sign.Equal = tt
sign_bare sign.Less = tt
sign_bare sign.Greater = tt
sign_bare sign.Plus = tt
sign_bare sign.Minus = tt
sign_bare sign.Times = tt
sign_bare sign.Percent = tt
sign_bare sign.Not = tt
sign_bare sign.Bang = tt
sign_bare sign.Without = tt
sign_bare sign.In = tt
sign_bare sign.NotIn = tt
sign_bare sign.SubsetEq = tt
sign_bare sign.Cup = tt
sign_bare sign.Cap = tt
sign_bare sign.Divide = tt
sign_bare sign.Concat = tt
sign_bare sign.ForAll = tt
sign_bare sign.Exists = tt
sign_bare sign.Assign = tt
sign_bare sign.Parallel = tt
sign_bare sign.Semicolon = tt

if_bare : (b : Bool) (k l : TokenView) → IsBare k → IsBare l → IsBare (if b then k else l)
if_bare true k l h g = h
if_bare false k l h g = g

abbrev AllBare : List (Word × TokenView) → Type 0
AllBare [] = Unit {0}
AllBare (p ∷ ps) = IsBare p.1 × AllBare ps

among_bare : (ps : List (Word × TokenView)) (w : Word) (k : TokenView) → AllBare ps → IsBare k → IsBare (expression.kind_among ps w k)
among_bare [] w k h g = g
among_bare (p ∷ ps) w k h g = if_bare (bytes_eq p.0 w) p.1 (expression.kind_among ps w k) h.0 (among_bare ps w k h.1 g)

words_bare : AllBare expression.word_kinds
words_bare = search

kind_bare : (k : Kind) → IsBare (kind_of k)
kind_bare (lexeme.name w) =
    if_bare (is_pluscal_word w) (tk.reserved w) (expression.kind_among expression.word_kinds w (if is_tla_word w then tk.other w else tk.word w)) tt
    (among_bare expression.word_kinds w (if is_tla_word w then tk.other w else tk.word w) words_bare (if_bare (is_tla_word w) (tk.other w) (tk.word w) tt tt))
kind_bare (lexeme.number n) = tt
kind_bare (lexeme.string w) = tt
kind_bare (lexeme.one s) = sign_bare s
kind_bare (lexeme.other w) = tt

views_bare : (ts : List text.Token) → AreBare (views ts)
views_bare [] = tt
views_bare (t ∷ ts) = (kind_bare t.kind, views_bare ts)

past_head : (h : g.Head) (ts : List Token) → AreBare (g.head h ts) → AreBare ts
past_head (g.algorithm a) ts h = h.1
past_head (g.fair_algorithm a b) ts h = h.1.1

pub text_unprimed : (s : g.Syntax) (ts : List text.Token) (a : tree.Algorithm) → g.Spells s ts a → AlgorithmUnprimed a
text_unprimed s ts a (x, k, e, q) = subst AlgorithmUnprimed q (of_tokens x (past_head x.head (tokens_after_head x []) (subst (λ (us : List Token). AreBare us) e (views_bare ts))))
