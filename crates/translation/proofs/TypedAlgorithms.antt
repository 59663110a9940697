-- What is spelled by tokens of a text has names that are identifiers and expressions that can be written: statements in both syntaxes, and algorithms.
use Rattle.std.proofs.Common.{List, [], ◌∷◌, true, false, codes, map}
use Rattle.std.specs.List.{AllByRecursion}
use Rattle.tla_token.specs.declared.place.Place.{Place}
use Rattle.tla_tree.specs.Tree.{Word}
use Rattle.tla_tree.specs.Lexical.{Token}
use Rattle.tla_tree.specs.laws.Writable.{IsIdentifier, IsWritable, AreOfText}
use Rattle.tla_tree.specs.Spelling.{tree_of}
use Rattle.pcal_tree.specs.Algorithm as tree
use Rattle.pcal_tree.specs.GrammarParts.{Tokens, name, section_tokens, Labels, no_labels, label, colon, colon_plus, colon_minus, with_labels}
use Rattle.pcal_tree.specs.GrammarP as p
use Rattle.pcal_tree.specs.GrammarC as c
use Rattle.pcal_tree.specs.Grammar as g
use Rattle.translation.specs.laws.WritableAlgorithm.{IsStarted}
use Rattle.translation.specs.laws.TypedAlgorithm.{IsTypedStatement, AreTypedStatements, AreTypedBranches, IsTypedBody, IsTypedDefinition, IsTypedMacro, IsTypedProcedure, IsTypedProcess, IsTypedMain, IsTypedAlgorithm}
use Rattle.translation.proofs.TypedParts.{of_phrase, of_semicolon, of_section, of_macro_parameters, of_procedure_parameters, of_definitions, of_labels, of_binds, of_simple}

started : (ls : Labels) (ss : tree.Statements) → IsStarted ss → IsStarted (with_labels ls ss)
started no_labels ss h = h
started (label x (colon q) ls) ss h = tt
started (label x (colon_plus q r) ls) ss h = tt
started (label x (colon_minus q r) ls) ss h = tt

-- ---- P-syntax

mutual
  p_statement : (st : p.Statement) (ts : List Token) → p.GoodStatement st → AreOfText (p.statement st ts) → IsTypedStatement (p.statement_tree st) × AreOfText ts
  p_statement (p.simple s) ts k h = of_simple s ts k h
  p_statement (p.branch a e b x y r s) ts k h =
      let l = of_phrase e _ k.0 h.1 in
      let m = p_sequence x _ k.1 l.1.1 in
      let n = p_else s y _ k.2 m.1 in
      ((l.0, m.0, n.0), n.1.1.1)
  p_statement (p.either a x bs r s) ts k h =
      let m = p_sequence x _ k.0 h.1 in
      let n = p_branches bs _ k.1 m.1 in
      ((m.0, n.0), n.1.1.1)
  p_statement (p.with a bs b x r s) ts k h =
      let l = of_binds bs _ k.0 h.1 in
      let m = p_sequence x _ k.1 l.1.1 in
      ((l.0, m.0), m.1.1.1)
  p_statement (p.while a e b x r s) ts k h =
      let l = of_phrase e _ k.0 h.1 in
      let m = p_sequence x _ k.1 l.1.1 in
      ((l.0, m.0), m.1.1.1)

  p_else : (last : Place) (e : p.Else) (ts : List Token) → p.GoodElse e → AreOfText (p.else_tokens e ts) → AreTypedStatements (p.else_statements last e) × AreOfText ts
  p_else last p.no_else ts k h = (tt, h)
  p_else last (p.else_then a x) ts k h = p_sequence x ts k h.1
  p_else last (p.else_if a e b x y) ts k h =
      let l = of_phrase e _ k.0 h.1 in
      let m = p_sequence x _ k.1 l.1.1 in
      let n = p_else last y ts k.2 m.1 in
      (((l.0, m.0, n.0), tt), n.1)

  p_branches : (bs : p.Branches) (ts : List Token) → p.GoodBranches bs → AreOfText (p.branches bs ts) → AreTypedBranches (p.branch_trees bs) × AreOfText ts
  p_branches (p.last_branch a x) ts k h = (let m = p_sequence x ts k h.1 in ((m.0, tt), m.1))
  p_branches (p.more_branches a x bs) ts k h =
      let m = p_sequence x _ k.0 h.1 in
      let n = p_branches bs ts k.1 m.1 in
      ((m.0, n.0), n.1)

  p_sequence : (ss : p.Sequence) (ts : List Token) → p.GoodSequence ss → AreOfText (p.sequence ss ts) → AreTypedStatements (p.statements ss) × AreOfText ts
  p_sequence (p.last_statement ls st q) ts k h =
      let l = of_labels ls _ h in
      let m = p_statement st _ k l.1 in
      (l.0 _ (m.0, tt), of_semicolon q ts m.1)
  p_sequence (p.more_statements ls st q ss) ts k h =
      let l = of_labels ls _ h in
      let m = p_statement st _ k.0 l.1 in
      let n = p_sequence ss ts k.1 m.1.1 in
      (l.0 _ (m.0, n.0), n.1)

p_started : (ss : p.Sequence) → IsStarted (p.statements ss)
p_started (p.last_statement ls st q) = started ls _ tt
p_started (p.more_statements ls st q ss) = started ls _ tt

-- ---- C-syntax

-- what a statement is before others that are typed
abbrev Before : (tree.Statements → tree.Statements) → Type 0
Before f = (rest : tree.Statements) → AreTypedStatements rest → AreTypedStatements (f rest)

mutual
  c_statement : (st : c.Statement) (ts : List Token) → c.GoodStatement st → AreOfText (c.statement st ts) → Before (c.flat_statement st) × AreOfText ts
  c_statement (c.simple s) ts k h = (let l = of_simple s ts k h in ((λ rest r. (l.0, r)), l.1))
  c_statement (c.branch a b e d x y) ts k h =
      let l = of_phrase e _ k.0 h.1.1 in
      let m = c_labelled x _ k.1 l.1.1 in
      let n = c_else x y ts k.2 m.1 in
      ((λ rest r. ((l.0, m.0 tree.done tt, n.0), r)), n.1)
  c_statement (c.either a x bs) ts k h =
      let m = c_labelled x _ k.0 h.1 in
      let n = c_branches bs ts k.2 m.1 in
      ((λ rest r. ((m.0 tree.done tt, n.0), r)), n.1)
  c_statement (c.with a b bs d x) ts k h =
      let l = of_binds bs _ k.0 h.1.1 in
      let m = c_labelled x ts k.1 l.1.1 in
      ((λ rest r. ((l.0, m.0 tree.done tt), r)), m.1)
  c_statement (c.while a b e d x) ts k h =
      let l = of_phrase e _ k.0 h.1.1 in
      let m = c_labelled x ts k.1 l.1.1 in
      ((λ rest r. ((l.0, m.0 tree.done tt), r)), m.1)
  c_statement (c.compound a ss b) ts k h = (let m = c_sequence ss _ k h.1 in (m.0, m.1.1))

  c_labelled : (x : c.Labelled) (ts : List Token) → c.GoodLabelled x → AreOfText (c.labelled_tokens x ts) → Before (c.flat x) × AreOfText ts
  c_labelled (c.labelled ls st) ts k h =
      let l = of_labels ls _ h in
      let m = c_statement st ts k l.1 in
      ((λ rest r. l.0 _ (m.0 rest r)), m.1)

  c_else : (a : c.Labelled) (e : c.Else) (ts : List Token) → c.GoodElse a e → AreOfText (c.else_tokens e ts) → AreTypedStatements (c.else_statements e) × AreOfText ts
  c_else a c.no_else ts k h = (tt, h)
  c_else a (c.else_then s q x) ts k h = (let m = c_labelled x ts k.1 (of_semicolon s _ h).1 in (m.0 tree.done tt, m.1))

  c_branches : (bs : c.Branches) (ts : List Token) → c.GoodBranches bs → AreOfText (c.branches bs ts) → AreTypedBranches (c.branch_trees bs) × AreOfText ts
  c_branches (c.last_branch s q x) ts k h = (let m = c_labelled x ts k (of_semicolon s _ h).1 in ((m.0 tree.done tt, tt), m.1))
  c_branches (c.more_branches s q x bs) ts k h =
      let m = c_labelled x _ k.0 (of_semicolon s _ h).1 in
      let n = c_branches bs ts k.2 m.1 in
      ((m.0 tree.done tt, n.0), n.1)

  c_sequence : (ss : c.Sequence) (ts : List Token) → c.GoodSequence ss → AreOfText (c.sequence ss ts) → Before (c.flat_sequence ss) × AreOfText ts
  c_sequence (c.last_statement x s) ts k h = (let m = c_labelled x _ k h in (m.0, of_semicolon s ts m.1))
  c_sequence (c.more_statements x s ss) ts k h =
      let m = c_labelled x _ k.0 h in
      let n = c_sequence ss ts k.2 (of_semicolon s _ m.1) in
      ((λ rest r. m.0 _ (n.0 rest r)), n.1)

mutual
  c_started : (st : c.Statement) (rest : tree.Statements) → IsStarted (c.flat_statement st rest)
  c_started (c.simple s) rest = tt
  c_started (c.branch a b e d x y) rest = tt
  c_started (c.either a x bs) rest = tt
  c_started (c.with a b bs d x) rest = tt
  c_started (c.while a b e d x) rest = tt
  c_started (c.compound a ss b) rest = c_sequence_started ss rest

  c_labelled_started : (x : c.Labelled) (rest : tree.Statements) → IsStarted (c.flat x rest)
  c_labelled_started (c.labelled ls st) rest = started ls (c.flat_statement st rest) (c_started st rest)

  c_sequence_started : (ss : c.Sequence) (rest : tree.Statements) → IsStarted (c.flat_sequence ss rest)
  c_sequence_started (c.last_statement x s) rest = c_labelled_started x rest
  c_sequence_started (c.more_statements x s ss) rest = c_labelled_started x (c.flat_sequence ss rest)

-- ---- algorithms

of_body : (s : g.Syntax) (w : Word) (b : g.Body) (ts : List Token) → g.GoodBody s b → AreOfText (g.body w b ts) → IsTypedBody (g.body_tree b) × AreOfText ts
of_body g.p_syntax w (g.begin_end a ss b d x) ts k h = (let m = p_sequence ss _ k h.1 in ((p_started ss, m.0), of_semicolon x ts m.1.1.1))
of_body g.c_syntax w (g.braces a ss b x) ts k h = (let m = c_sequence ss _ k h.1 in ((c_sequence_started ss tree.done, m.0 tree.done tt), of_semicolon x ts m.1.1))
of_body g.p_syntax w (g.braces a ss b x) ts k h = absurd k
of_body g.c_syntax w (g.begin_end a ss b d x) ts k h = absurd k

of_macro : (s : g.Syntax) (m : g.Macro) (ts : List Token) → g.GoodMacro s m → AreOfText (g.macro m ts) → IsTypedMacro (g.macro_tree m) × AreOfText ts
of_macro s m ts k h =
    let l = of_macro_parameters m.parameters _ h.1.1 in
    let n = of_body s (codes "macro") m.body ts k l.1 in
    ((h.1.0, l.0, n.0), n.1)

of_procedure : (s : g.Syntax) (x : g.Procedure) (ts : List Token) → g.GoodProcedure s x → AreOfText (g.procedure x ts) → IsTypedProcedure (g.procedure_tree x) × AreOfText ts
of_procedure s x ts k h =
    let l = of_procedure_parameters x.parameters _ k.0 h.1.1 in
    let m = of_section false x.variables _ k.1 l.1 in
    let n = of_body s (codes "procedure") x.body ts k.2 m.1 in
    ((h.1.0, l.0, m.0, n.0), n.1)

of_fair : (f : g.Fair) (ts : List Token) → AreOfText (g.fair f ts) → AreOfText ts
of_fair g.unfair ts h = h
of_fair (g.weak a) ts h = h.1
of_fair (g.strong a b) ts h = h.1.1

of_identity : (s : g.Syntax) (i : g.Identity) (ts : List Token) → g.GoodIdentity s i → AreOfText (g.identity i ts) → IsIdentifier (g.process_name i).word × IsWritable (tree_of (g.identifiers i)) × AreOfText ts
of_identity g.p_syntax (g.bare x b a e) ts k h = (let l = of_phrase e ts k h.1.1 in (h.0, l.0, l.1))
of_identity g.c_syntax (g.bracketed q x b a e r) ts k h = (let l = of_phrase e _ k h.1.1.1 in (h.1.0, l.0, l.1.1))
of_identity g.p_syntax (g.bracketed q x b a e r) ts k h = absurd k
of_identity g.c_syntax (g.bare x b a e) ts k h = absurd k

of_process : (s : g.Syntax) (x : g.Process) (ts : List Token) → g.GoodProcess s x → AreOfText (g.process x ts) → IsTypedProcess (g.process_tree x) × AreOfText ts
of_process s x ts k h =
    let l = of_identity s x.identity _ k.0 (of_fair x.fair _ h).1 in
    let m = of_section true x.variables _ k.1 l.2 in
    let n = of_body s (codes "process") x.body ts k.2 m.1 in
    ((l.0, l.1, m.0, n.0), n.1)

of_define : (s : g.Syntax) (d : g.Define) (ts : List Token) → g.GoodDefine s d → AreOfText (g.define d ts) → AllByRecursion IsTypedDefinition (g.defined d) × AreOfText ts
of_define s g.no_define ts k h = (tt, h)
of_define g.p_syntax (g.define_end a ds b d x) ts k h = (let m = of_definitions ds _ k h.1 in (m.0, of_semicolon x ts m.1.1.1))
of_define g.c_syntax (g.define_braces a b ds d x) ts k h = (let m = of_definitions ds _ k h.1.1 in (m.0, of_semicolon x ts m.1.1))
of_define g.p_syntax (g.define_braces a b ds d x) ts k h = absurd k
of_define g.c_syntax (g.define_end a ds b d x) ts k h = absurd k

-- each of a list, one after the other
of_each : {A B : Type 0} (f : A → List Token → List Token) (t : A → B) (G : A → Type 0) (Q : B → Type 0) → ((x : A) (ts : List Token) → G x → AreOfText (f x ts) → Q (t x) × AreOfText ts)
    → (xs : List A) (ts : List Token) → AllByRecursion G xs → AreOfText (g.each f xs ts) → AllByRecursion Q (map t xs) × AreOfText ts
of_each f t G Q one [] ts k h = (tt, h)
of_each f t G Q one (x ∷ xs) ts k h =
    let l = one x _ k.0 h in
    let m = of_each f t G Q one xs ts k.1 l.1 in
    ((l.0, m.0), m.1)

of_processes : (s : g.Syntax) (x : g.Process) (xs : List g.Process) (ts : List Token) → g.GoodProcess s x → AllByRecursion (g.GoodProcess s) xs → AreOfText (g.main (g.processes x xs) ts) → IsTypedMain (g.main_tree (g.processes x xs)) × AreOfText ts
of_processes s x xs ts j k h =
    let l = of_process s x _ j h in
    let m = of_each g.process g.process_tree (g.GoodProcess s) IsTypedProcess (of_process s) xs ts k l.1 in
    ((l.0, m.0), m.1)

of_main : (s : g.Syntax) (m : g.Main) (ts : List Token) → g.GoodMain s m → AreOfText (g.main m ts) → IsTypedMain (g.main_tree m) × AreOfText ts
of_main g.p_syntax (g.begin a ss) ts k h = (let m = p_sequence ss ts k h.1 in ((p_started ss, m.0), m.1))
of_main g.c_syntax (g.block a ss b x) ts k h = (let m = c_sequence ss _ k h.1 in ((c_sequence_started ss tree.done, m.0 tree.done tt), of_semicolon x ts m.1.1))
of_main g.p_syntax (g.processes x xs) ts k h = of_processes g.p_syntax x xs ts k.0 k.1 h
of_main g.c_syntax (g.processes x xs) ts k h = of_processes g.c_syntax x xs ts k.0 k.1 h
of_main g.p_syntax (g.block a ss b x) ts k h = absurd k
of_main g.c_syntax (g.begin a ss) ts k h = absurd k

of_around : (r : g.Around) (inside : List Token → List Token) (ts : List Token) → AreOfText (g.around r inside ts) → (us : List Token) × AreOfText (inside us)
of_around (g.to_end a b) inside ts h = (_, h)
of_around (g.in_braces a b) inside ts h = (_, h.1)

-- the tokens after `--algorithm`, or `--fair algorithm`, which are no words of expressions
abbrev pub tokens_after_head : g.Text → Tokens
tokens_after_head x ts =
    name x.name (g.around x.around (λ us. section_tokens x.variables (g.define x.define (g.each g.macro x.macros (g.each g.procedure x.procedures (g.main x.main us))))) ts)

pub typed_algorithm : (s : g.Syntax) (x : g.Text) → g.Good s x → AreOfText (tokens_after_head x []) → IsTypedAlgorithm (g.algorithm_of x)
typed_algorithm s x k h =
    let r = of_around x.around _ [] h.1 in
    let v = of_section true x.variables _ k.1 r.1 in
    let d = of_define s x.define _ k.2 v.1 in
    let m = of_each g.macro g.macro_tree (g.GoodMacro s) IsTypedMacro (of_macro s) x.macros _ k.3 d.1 in
    let q = of_each g.procedure g.procedure_tree (g.GoodProcedure s) IsTypedProcedure (of_procedure s) x.procedures _ k.4 m.1 in
    let n = of_main s x.main _ k.5 q.1 in
    record { name = h.0; globals = v.0; definitions = d.0; macros = m.0; procedures = q.0; main = n.0 }
