-- Names that are declared or bound, labels and statements of an algorithm: together they are no more than the tokens that spell it.
use Rattle.std.proofs.Common.{◌≡◌, ℕ, suc, ◌+◌, ◌≤◌, List, [], ◌∷◌, length, map, codes, Option, Some, None, true, false, refl, ap, arith}
use Rattle.tla_token.specs.declared.place.Place.{Place}
use Rattle.tla_tree.specs.Tree.{Word, Name}
use Rattle.tla_tree.specs.Lexical.{Token}
use Rattle.tla_tree.specs.Lexical as tk
use Rattle.tla_tree.specs.Spelling.{Phrase, tree_of}
use Rattle.pcal_tree.specs.Algorithm as tree
use Rattle.pcal_tree.specs.GrammarParts.{Tokens, mark, sign, key, name, expression, maybe_semicolon, semicolon, Separator, by_semicolon, by_comma, separator, maybe_separator, Initial, unset, equals, among, initial, start_of, Variables, last_variable, variable, variables, declarations, Section, no_section, section, section_tokens, declared, Names, last_name, more_names, names, names_of, MacroParameters, no_names, some_names, macro_parameters, macro_names, Parameters, last_parameter, parameter, parameters, parameters_of, ProcedureParameters, no_parameters, some_parameters, procedure_parameters, procedure_declarations, Heading, plain, applied, heading, definition_of, Definitions, last_definition, more_definitions, definitions, definitions_of, Colon, colon, colon_plus, colon_minus, colon_tokens, Labels, no_labels, label, labels, with_labels, Binds, last_bind, bind, bind_sign, binds, bound, binds_of, Arguments, no_arguments, some_arguments, arguments, arguments_of, Assignments, last_assignment, assignment, assignments, assignments_of, Simple, simple_tokens, simple_tree}
use Rattle.pcal_tree.specs.GrammarParts as part
use Rattle.pcal_tree.specs.GrammarP as p
use Rattle.pcal_tree.specs.GrammarC as c
use Rattle.pcal_tree.specs.Grammar as g
use Rattle.pcal_tree.proofs.BoundTokens.{count_in, count_in_all, in_phrase, in_all}

-- ---- how many there are

abbrev pub assignments_weight : tree.Assignments → ℕ
assignments_weight tree.no_assignments = 0
assignments_weight (tree.assignment l e ms) = count_in l + (count_in e + assignments_weight ms)

abbrev pub binds_weight : tree.Binds → ℕ
binds_weight tree.no_binds = 0
binds_weight (tree.one_of x e bs) = suc (count_in e + binds_weight bs)
binds_weight (tree.is x e bs) = suc (count_in e + binds_weight bs)

-- of a list of statements each statement and each label counts too
abbrev mutual
  pub inner_weight : tree.Statement → ℕ
  inner_weight (tree.assign ms) = assignments_weight ms
  inner_weight (tree.await e) = count_in e
  inner_weight (tree.print e) = count_in e
  inner_weight (tree.assert e) = count_in e
  inner_weight tree.skip = 0
  inner_weight (tree.branch e a b) = count_in e + (body_weight a + body_weight b)
  inner_weight (tree.either bs) = branches_weight bs
  inner_weight (tree.with bs b) = binds_weight bs + body_weight b
  inner_weight (tree.while e b) = count_in e + body_weight b
  inner_weight (tree.goto l) = 0
  inner_weight (tree.macro m ts) = count_in_all ts
  inner_weight (tree.call q ts) = count_in_all ts
  inner_weight tree.return = 0

  pub body_weight : tree.Statements → ℕ
  body_weight tree.done = 0
  body_weight (tree.then at st rest) = suc (inner_weight st + body_weight rest)
  body_weight (tree.mark l k rest) = suc (body_weight rest)

  pub branches_weight : tree.Branches → ℕ
  branches_weight tree.no_branches = 0
  branches_weight (tree.or b bs) = body_weight b + branches_weight bs

abbrev pub start_weight : tree.Start → ℕ
start_weight tree.unset = 0
start_weight (tree.equals e) = count_in e
start_weight (tree.among e) = count_in e

abbrev pub declared_weight : List tree.Declaration → ℕ
declared_weight [] = 0
declared_weight (d ∷ ds) = suc (start_weight d.start + declared_weight ds)

abbrev pub definitions_weight : List tree.Definition → ℕ
definitions_weight [] = 0
definitions_weight (d ∷ ds) = suc (length d.params + (count_in d.body + definitions_weight ds))

abbrev pub macros_weight : List tree.Macro → ℕ
macros_weight [] = 0
macros_weight (d ∷ ds) = length d.params + (body_weight d.body + macros_weight ds)

abbrev pub procedures_weight : List tree.Procedure → ℕ
procedures_weight [] = 0
procedures_weight (q ∷ qs) = suc (declared_weight q.params + (declared_weight q.variables + (body_weight q.body + procedures_weight qs)))

abbrev pub processes_weight : List tree.Process → ℕ
processes_weight [] = 0
processes_weight (q ∷ qs) = suc (count_in q.identity + (declared_weight q.variables + (body_weight q.body + processes_weight qs)))

abbrev pub main_weight : tree.Main → ℕ
main_weight (tree.alone b) = body_weight b
main_weight (tree.processes qs) = processes_weight qs

abbrev pub weight : tree.Algorithm → ℕ
weight a = declared_weight a.globals + (definitions_weight a.definitions + (macros_weight a.macros + (procedures_weight a.procedures + main_weight a.main)))

-- ---- declarations

in_maybe_semicolon : (s : Option Place) (ts : List Token) → length ts ≤ length (maybe_semicolon s ts)
in_maybe_semicolon None ts = omega arith
in_maybe_semicolon (Some q) ts = omega arith

in_separator : (s : Separator) (ts : List Token) → suc (length ts) ≤ length (separator s ts)
in_separator (by_semicolon q) ts = omega arith
in_separator (by_comma q) ts = omega arith

in_maybe_separator : (s : Option Separator) (ts : List Token) → length ts ≤ length (maybe_separator s ts)
in_maybe_separator None ts = omega arith
in_maybe_separator (Some s) ts = (let u = in_separator s ts in omega arith)

in_initial : (i : Initial) (ts : List Token) → start_weight (start_of i) + length ts ≤ length (initial i ts)
in_initial unset ts = omega arith
in_initial (equals q e) ts = (let u = in_phrase e ts in omega arith)
in_initial (among q e) ts = (let u = in_phrase e ts in omega arith)

in_variables : (vs : Variables) (ts : List Token) → declared_weight (declarations vs) + length ts ≤ length (variables vs ts)
in_variables (last_variable x i s) ts =
    let u = in_maybe_separator s ts in
    let w = in_initial i (maybe_separator s ts) in
    omega arith
in_variables (variable x i s vs) ts =
    let z = in_variables vs ts in
    let u = in_separator s (variables vs ts) in
    let w = in_initial i (separator s (variables vs ts)) in
    omega arith

in_section : (s : Section) (ts : List Token) → declared_weight (declared s) + length ts ≤ length (section_tokens s ts)
in_section no_section ts = omega arith
in_section (section q b vs) ts = (let u = in_variables vs ts in omega arith)

in_names : (xs : Names) (ts : List Token) → length (names_of xs) + length ts ≤ length (names xs ts)
in_names (last_name x) ts = omega arith
in_names (more_names x q xs) ts = (let u = in_names xs ts in omega arith)

in_macro_parameters : (m : MacroParameters) (ts : List Token) → length (macro_names m) + length ts ≤ length (macro_parameters m ts)
in_macro_parameters (no_names q r) ts = omega arith
in_macro_parameters (some_names q xs r) ts = (let u = in_names xs (mark r tk.close_bracket ts) in omega arith)

in_parameters : (xs : Parameters) (ts : List Token) → declared_weight (parameters_of xs) + length ts ≤ length (parameters xs ts)
in_parameters (last_parameter x i) ts = (let u = in_initial i ts in omega arith)
in_parameters (parameter x i q xs) ts =
    let u = in_parameters xs ts in
    let w = in_initial i (mark q tk.comma (parameters xs ts)) in
    omega arith

in_procedure_parameters : (m : ProcedureParameters) (ts : List Token) → declared_weight (procedure_declarations m) + length ts ≤ length (procedure_parameters m ts)
in_procedure_parameters (no_parameters q r) ts = omega arith
in_procedure_parameters (some_parameters q xs r) ts = (let u = in_parameters xs (mark r tk.close_bracket ts) in omega arith)

in_heading : (d : Heading) (e : Phrase) (ts : List Token) → suc (length (definition_of d e).params + length ts) ≤ length (heading d ts)
in_heading (plain x) e ts = omega arith
in_heading (applied x q xs r) e ts = (let u = in_names xs (mark r tk.close_bracket ts) in omega arith)

defined_body : (d : Heading) (e : Phrase) → (definition_of d e).body ≡ tree_of e
defined_body (plain x) e = refl
defined_body (applied x q xs r) e = refl

in_definitions : (ds : Definitions) (ts : List Token) → definitions_weight (definitions_of ds) + length ts ≤ length (definitions ds ts)
in_definitions (last_definition d q e) ts =
    let b = ap count_in (defined_body d e) in
    let u = in_phrase e ts in
    let w = in_heading d e (mark q tk.defines (expression e ts)) in
    omega arith
in_definitions (more_definitions d q e ds) ts =
    let b = ap count_in (defined_body d e) in
    let z = in_definitions ds ts in
    let u = in_phrase e (definitions ds ts) in
    let w = in_heading d e (mark q tk.defines (expression e (definitions ds ts))) in
    omega arith

-- ---- labels and simple statements

in_labels : (ls : Labels) (ss : tree.Statements) (ts : List Token) → body_weight (with_labels ls ss) + length ts ≤ body_weight ss + length (labels ls ts)
in_labels no_labels ss ts = omega arith
in_labels (label x (colon q) ls) ss ts = (let u = in_labels ls ss ts in omega arith)
in_labels (label x (colon_plus q r) ls) ss ts = (let u = in_labels ls ss ts in omega arith)
in_labels (label x (colon_minus q r) ls) ss ts = (let u = in_labels ls ss ts in omega arith)

bound_weight : (x : Name) (b : _) (e : Phrase) (bs : tree.Binds) → binds_weight (bound b x e bs) ≡ suc (count_in (tree_of e) + binds_weight bs)
bound_weight x true e bs = refl
bound_weight x false e bs = refl

in_binds : (bs : Binds) (ts : List Token) → binds_weight (binds_of bs) + length ts ≤ length (binds bs ts)
in_binds (last_bind x b q e s) ts =
    let n = bound_weight x b e tree.no_binds in
    let u = in_maybe_separator s ts in
    let w = in_phrase e (maybe_separator s ts) in
    omega arith
in_binds (bind x b q e s bs) ts =
    let n = bound_weight x b e (binds_of bs) in
    let z = in_binds bs ts in
    let u = in_separator s (binds bs ts) in
    let w = in_phrase e (separator s (binds bs ts)) in
    omega arith

in_arguments : (xs : Arguments) (ts : List Token) → count_in_all (arguments_of xs) + length ts ≤ length (arguments xs ts)
in_arguments (no_arguments q r) ts = omega arith
in_arguments (some_arguments q xs r) ts = (let u = in_all xs (mark r tk.close_bracket ts) in omega arith)

in_assignments : (ms : Assignments) (ts : List Token) → suc (assignments_weight (assignments_of ms) + length ts) ≤ length (assignments ms ts)
in_assignments (last_assignment l q e) ts =
    let u = in_phrase e ts in
    let w = in_phrase l (mark q tk.assigns (expression e ts)) in
    omega arith
in_assignments (assignment l q e r ms) ts =
    let z = in_assignments ms ts in
    let u = in_phrase e (mark r tk.beside (assignments ms ts)) in
    let w = in_phrase l (mark q tk.assigns (expression e (mark r tk.beside (assignments ms ts)))) in
    omega arith

in_simple : (s : Simple) (ts : List Token) → suc (inner_weight (simple_tree s) + length ts) ≤ length (simple_tokens s ts)
in_simple (part.assign ms) ts = in_assignments ms ts
in_simple (part.await q e) ts = (let u = in_phrase e ts in omega arith)
in_simple (part.when q e) ts = (let u = in_phrase e ts in omega arith)
in_simple (part.print q e) ts = (let u = in_phrase e ts in omega arith)
in_simple (part.assert q e) ts = (let u = in_phrase e ts in omega arith)
in_simple (part.skip q) ts = omega arith
in_simple (part.goto q x) ts = omega arith
in_simple (part.call q x xs) ts = (let u = in_arguments xs ts in omega arith)
in_simple (part.return q) ts = omega arith
in_simple (part.macro x xs) ts = (let u = in_arguments xs ts in omega arith)

-- ---- P-syntax

mutual
  p_statement : (st : p.Statement) (ts : List Token) → suc (inner_weight (p.statement_tree st) + length ts) ≤ length (p.statement st ts)
  p_statement (p.simple s) ts = in_simple s ts
  p_statement (p.branch a e b x y r s) ts =
      let z = p_else s y (key r (codes "end") (key s (codes "if") ts)) in
      let w = p_sequence x (p.else_tokens y (key r (codes "end") (key s (codes "if") ts))) in
      let u = in_phrase e (key b (codes "then") (p.sequence x (p.else_tokens y (key r (codes "end") (key s (codes "if") ts))))) in
      omega arith
  p_statement (p.either a x bs r s) ts =
      let w = p_branches bs (key r (codes "end") (key s (codes "either") ts)) in
      let u = p_sequence x (p.branches bs (key r (codes "end") (key s (codes "either") ts))) in
      omega arith
  p_statement (p.with a bs b x r s) ts =
      let w = p_sequence x (key r (codes "end") (key s (codes "with") ts)) in
      let u = in_binds bs (key b (codes "do") (p.sequence x (key r (codes "end") (key s (codes "with") ts)))) in
      omega arith
  p_statement (p.while a e b x r s) ts =
      let w = p_sequence x (key r (codes "end") (key s (codes "while") ts)) in
      let u = in_phrase e (key b (codes "do") (p.sequence x (key r (codes "end") (key s (codes "while") ts)))) in
      omega arith

  p_else : (last : Place) (e : p.Else) (ts : List Token) → body_weight (p.else_statements last e) + length ts ≤ length (p.else_tokens e ts)
  p_else last p.no_else ts = omega arith
  p_else last (p.else_then a x) ts = (let u = p_sequence x ts in omega arith)
  p_else last (p.else_if a e b x y) ts =
      let z = p_else last y ts in
      let w = p_sequence x (p.else_tokens y ts) in
      let u = in_phrase e (key b (codes "then") (p.sequence x (p.else_tokens y ts))) in
      omega arith

  p_branches : (bs : p.Branches) (ts : List Token) → branches_weight (p.branch_trees bs) + length ts ≤ length (p.branches bs ts)
  p_branches (p.last_branch a x) ts = (let u = p_sequence x ts in omega arith)
  p_branches (p.more_branches a x bs) ts =
      let w = p_branches bs ts in
      let u = p_sequence x (p.branches bs ts) in
      omega arith

  p_sequence : (ss : p.Sequence) (ts : List Token) → body_weight (p.statements ss) + length ts ≤ length (p.sequence ss ts)
  p_sequence (p.last_statement ls st q) ts =
      let z = in_maybe_semicolon q ts in
      let w = p_statement st (maybe_semicolon q ts) in
      let u = in_labels ls (tree.then (part.span (p.statement st [])) (p.statement_tree st) tree.done) (p.statement st (maybe_semicolon q ts)) in
      omega arith
  p_sequence (p.more_statements ls st q ss) ts =
      let z = p_sequence ss ts in
      let w = p_statement st (semicolon q (p.sequence ss ts)) in
      let u = in_labels ls (tree.then (part.span (p.statement st [])) (p.statement_tree st) (p.statements ss)) (p.statement st (semicolon q (p.sequence ss ts))) in
      omega arith

-- ---- C-syntax

mutual
  c_statement : (st : c.Statement) (rest : tree.Statements) (ts : List Token) → body_weight (c.flat_statement st rest) + length ts ≤ body_weight rest + length (c.statement st ts)
  c_statement (c.simple s) rest ts = (let u = in_simple s ts in omega arith)
  c_statement (c.branch a b e d x y) rest ts =
      let z = c_else y ts in
      let w = c_labelled x tree.done (c.else_tokens y ts) in
      let u = in_phrase e (mark d tk.close_bracket (c.labelled_tokens x (c.else_tokens y ts))) in
      omega arith
  c_statement (c.either a x bs) rest ts =
      let w = c_branches bs ts in
      let u = c_labelled x tree.done (c.branches bs ts) in
      omega arith
  c_statement (c.with a b bs d x) rest ts =
      let w = c_labelled x tree.done ts in
      let u = in_binds bs (mark d tk.close_bracket (c.labelled_tokens x ts)) in
      omega arith
  c_statement (c.while a b e d x) rest ts =
      let w = c_labelled x tree.done ts in
      let u = in_phrase e (mark d tk.close_bracket (c.labelled_tokens x ts)) in
      omega arith
  c_statement (c.compound a ss b) rest ts = (let u = c_sequence ss rest (mark b tk.close_brace ts) in omega arith)

  c_labelled : (x : c.Labelled) (rest : tree.Statements) (ts : List Token) → body_weight (c.flat x rest) + length ts ≤ body_weight rest + length (c.labelled_tokens x ts)
  c_labelled (c.labelled ls st) rest ts =
      let w = c_statement st rest ts in
      let u = in_labels ls (c.flat_statement st rest) (c.statement st ts) in
      omega arith

  c_else : (e : c.Else) (ts : List Token) → body_weight (c.else_statements e) + length ts ≤ length (c.else_tokens e ts)
  c_else c.no_else ts = omega arith
  c_else (c.else_then s q x) ts =
      let w = c_labelled x tree.done ts in
      let u = in_maybe_semicolon s (key q (codes "else") (c.labelled_tokens x ts)) in
      omega arith

  c_branches : (bs : c.Branches) (ts : List Token) → branches_weight (c.branch_trees bs) + length ts ≤ length (c.branches bs ts)
  c_branches (c.last_branch s q x) ts =
      let w = c_labelled x tree.done ts in
      let u = in_maybe_semicolon s (key q (codes "or") (c.labelled_tokens x ts)) in
      omega arith
  c_branches (c.more_branches s q x bs) ts =
      let z = c_branches bs ts in
      let w = c_labelled x tree.done (c.branches bs ts) in
      let u = in_maybe_semicolon s (key q (codes "or") (c.labelled_tokens x (c.branches bs ts))) in
      omega arith

  c_sequence : (ss : c.Sequence) (rest : tree.Statements) (ts : List Token) → body_weight (c.flat_sequence ss rest) + length ts ≤ body_weight rest + length (c.sequence ss ts)
  c_sequence (c.last_statement x s) rest ts =
      let w = in_maybe_semicolon s ts in
      let u = c_labelled x rest (maybe_semicolon s ts) in
      omega arith
  c_sequence (c.more_statements x s ss) rest ts =
      let z = c_sequence ss rest ts in
      let w = in_maybe_semicolon s (c.sequence ss ts) in
      let u = c_labelled x (c.flat_sequence ss rest) (maybe_semicolon s (c.sequence ss ts)) in
      omega arith

-- ---- units

in_body : (w : Word) (b : g.Body) (ts : List Token) → body_weight (g.body_tree b) + length ts ≤ length (g.body w b ts)
in_body w (g.begin_end a ss b d s) ts =
    let z = in_maybe_semicolon s ts in
    let u = p_sequence ss (key b (codes "end") (key d w (maybe_semicolon s ts))) in
    omega arith
in_body w (g.braces a ss b s) ts =
    let z = in_maybe_semicolon s ts in
    let u = c_sequence ss tree.done (mark b tk.close_brace (maybe_semicolon s ts)) in
    omega arith

in_macros : (ms : List g.Macro) (ts : List Token) → macros_weight (map g.macro_tree ms) + length ts ≤ length (g.each g.macro ms ts)
in_macros [] ts = omega arith
in_macros (m ∷ ms) ts =
    let z = in_macros ms ts in
    let w = in_body (codes "macro") m.body (g.each g.macro ms ts) in
    let u = in_macro_parameters m.parameters (g.body (codes "macro") m.body (g.each g.macro ms ts)) in
    omega arith

in_procedures : (xs : List g.Procedure) (ts : List Token) → procedures_weight (map g.procedure_tree xs) + length ts ≤ length (g.each g.procedure xs ts)
in_procedures [] ts = omega arith
in_procedures (x ∷ xs) ts =
    let z = in_procedures xs ts in
    let w = in_body (codes "procedure") x.body (g.each g.procedure xs ts) in
    let v = in_section x.variables (g.body (codes "procedure") x.body (g.each g.procedure xs ts)) in
    let u = in_procedure_parameters x.parameters (section_tokens x.variables (g.body (codes "procedure") x.body (g.each g.procedure xs ts))) in
    omega arith

in_fair : (f : g.Fair) (ts : List Token) → length ts ≤ length (g.fair f ts)
in_fair g.unfair ts = omega arith
in_fair (g.weak a) ts = omega arith
in_fair (g.strong a b) ts = omega arith

in_identity : (i : g.Identity) (ts : List Token) → count_in (tree_of (g.identifiers i)) + length ts ≤ length (g.identity i ts)
in_identity (g.bare x b a e) ts = (let u = in_phrase e ts in omega arith)
in_identity (g.bracketed q x b a e r) ts = (let u = in_phrase e (mark r tk.close_bracket ts) in omega arith)

in_processes : (xs : List g.Process) (ts : List Token) → processes_weight (map g.process_tree xs) + length ts ≤ length (g.each g.process xs ts)
in_processes [] ts = omega arith
in_processes (x ∷ xs) ts =
    let z = in_processes xs ts in
    let w = in_body (codes "process") x.body (g.each g.process xs ts) in
    let v = in_section x.variables (g.body (codes "process") x.body (g.each g.process xs ts)) in
    let u = in_identity x.identity (section_tokens x.variables (g.body (codes "process") x.body (g.each g.process xs ts))) in
    let f = in_fair x.fair (key x.place (codes "process") (g.identity x.identity (section_tokens x.variables (g.body (codes "process") x.body (g.each g.process xs ts))))) in
    omega arith

in_main : (m : g.Main) (ts : List Token) → main_weight (g.main_tree m) + length ts ≤ length (g.main m ts)
in_main (g.begin a ss) ts = (let u = p_sequence ss ts in omega arith)
in_main (g.block a ss b s) ts =
    let z = in_maybe_semicolon s ts in
    let u = c_sequence ss tree.done (mark b tk.close_brace (maybe_semicolon s ts)) in
    omega arith
in_main (g.processes x xs) ts = in_processes (x ∷ xs) ts

in_define : (d : g.Define) (ts : List Token) → definitions_weight (g.defined d) + length ts ≤ length (g.define d ts)
in_define g.no_define ts = omega arith
in_define (g.define_end a ds b d s) ts =
    let z = in_maybe_semicolon s ts in
    let u = in_definitions ds (key b (codes "end") (key d (codes "define") (maybe_semicolon s ts))) in
    omega arith
in_define (g.define_braces a b ds d s) ts =
    let z = in_maybe_semicolon s ts in
    let u = in_definitions ds (mark d tk.close_brace (maybe_semicolon s ts)) in
    omega arith

-- ---- algorithms

in_around : (r : g.Around) (inside : Tokens) (n : ℕ) → ((us : List Token) → n + length us ≤ length (inside us)) → (ts : List Token) → n + length ts ≤ length (g.around r inside ts)
in_around (g.to_end a b) inside n h ts = (let u = h (key a (codes "end") (key b (codes "algorithm") ts)) in omega arith)
in_around (g.in_braces a b) inside n h ts = (let u = h (mark b tk.close_brace ts) in omega arith)

in_head : (h : g.Head) (ts : List Token) → length ts ≤ length (g.head h ts)
in_head (g.algorithm a) ts = omega arith
in_head (g.fair_algorithm a b) ts = omega arith

abbrev inside : g.Text → Tokens
inside x us = section_tokens x.variables (g.define x.define (g.each g.macro x.macros (g.each g.procedure x.procedures (g.main x.main us))))

in_inside : (x : g.Text) (us : List Token) → weight (g.algorithm_of x) + length us ≤ length (inside x us)
in_inside x us =
    let m = in_main x.main us in
    let q = in_procedures x.procedures (g.main x.main us) in
    let d = in_macros x.macros (g.each g.procedure x.procedures (g.main x.main us)) in
    let e = in_define x.define (g.each g.macro x.macros (g.each g.procedure x.procedures (g.main x.main us))) in
    let v = in_section x.variables (g.define x.define (g.each g.macro x.macros (g.each g.procedure x.procedures (g.main x.main us)))) in
    omega arith

pub weight_of_text : (x : g.Text) (ts : List Token) → weight (g.algorithm_of x) + length ts ≤ length (g.spell x ts)
weight_of_text x ts =
    let u = in_around x.around (inside x) (weight (g.algorithm_of x)) (in_inside x) ts in
    let h = in_head x.head (name x.name (g.around x.around (inside x) ts)) in
    omega arith
