-- Parts that are spelled by tokens of an algorithm can be printed: declarations, definitions, labels, simple statements.
use Rattle.std.proofs.Common.{◌≡◌, Bool, true, false, List, [], ◌∷◌, ◌++◌, Option, Some, None, refl, subst}
use Rattle.std.specs.List.{AllByRecursion}
use Rattle.tla_token.specs.declared.place.Place.{Place}
use Rattle.tla_tree.specs.Tree.{Name, Tree}
use Rattle.tla_tree.specs.Lexical.{TokenView, Token}
use Rattle.tla_tree.specs.Lexical as tk
use Rattle.tla_tree.specs.Spelling.{Phrase, Phrases, last, more, IsGood, GoodAll, spell, spell_all, tree_of, trees_of}
use Rattle.tla_tree.specs.Spelling as spelled
use Rattle.tla_tree.specs.laws.Writable.{IsOfText, AreOfText}
use Rattle.tla_tree.proofs.WritableTrees.{spelled_writable}
use Rattle.tla_tree.proofs.SpellAppend.{spell_then}
use Rattle.pcal_tree.specs.Algorithm as tree
use Rattle.pcal_tree.specs.GrammarParts.{Tokens, name, expression, Separator, by_semicolon, by_comma, separator, maybe_separator, maybe_semicolon, Initial, unset, equals, among, initial, start_of, GoodInitial, Variables, last_variable, variable, variables, declarations, GoodVariables, Section, no_section, section, section_tokens, declared, GoodSection, Names, last_name, more_names, names, names_of, MacroParameters, no_names, some_names, macro_parameters, macro_names, Parameters, last_parameter, parameter, parameters, parameters_of, GoodParameters, ProcedureParameters, no_parameters, some_parameters, procedure_parameters, procedure_declarations, GoodProcedureParameters, Heading, plain, applied, heading, definition_of, Definitions, last_definition, more_definitions, definitions, definitions_of, GoodDefinitions, Colon, colon, colon_plus, colon_minus, Labels, no_labels, label, labels, with_labels, Binds, last_bind, bind, binds, binds_of, bound, GoodBinds, Arguments, no_arguments, some_arguments, arguments, arguments_of, GoodArguments, Assignments, last_assignment, assignment, assignments, assignments_of, GoodAssignments, Simple, assign, await, when, print, assert, skip, goto, call, return, macro, simple_tokens, simple_tree, GoodSimple}
use Rattle.pcal_tree.specs.GrammarParts as grammar
use Rattle.printed_text.specs.laws.Printable.{is_left_side, IsName, IsExpression, AreExpressions, AreAssignments, AreBinds, IsStart, AreDeclarations, AreNames, IsDefinition, IsStatement, AreStatements}
use Rattle.printed_text.proofs.PlainTrees.{IsPlain, ArePlain, of_phrase}

-- ---- tokens that an algorithm may have

abbrev pub AreOwn : List Token → Type 0
AreOwn [] = Unit {0}
AreOwn (t ∷ ts) = (IsOfText t.kind × IsPlain t.kind) × AreOwn ts

of_text : (ts : List Token) → AreOwn ts → AreOfText ts
of_text [] h = tt
of_text (t ∷ ts) h = (h.0.0, of_text ts h.1)

of_plain : (ts : List Token) → AreOwn ts → ArePlain ts
of_plain [] h = tt
of_plain (t ∷ ts) h = (h.0.1, of_plain ts h.1)

parted : (ts us : List Token) → AreOwn (ts ++ us) → AreOwn ts × AreOwn us
parted [] us h = (tt, h)
parted (t ∷ ts) us h = (let p = parted ts us h.1 in ((h.0, p.0), p.1))

-- ---- expressions

pub of_expression : (a : Phrase) (ts : List Token) → IsGood a → AreOwn (spell a ts) → IsExpression (tree_of a) × AreOwn ts
of_expression a ts g h =
    let p = parted (spell a []) ts (subst (λ (us : List Token). AreOwn us) (spell_then a ts) h) in
    ((spelled_writable 0 a g (of_text (spell a []) p.0), (of_phrase a [] (of_plain (spell a []) p.0)).0), p.1)

of_expressions : (xs : Phrases) (ts : List Token) → GoodAll 0 xs → AreOwn (spell_all xs ts) → AreExpressions (trees_of xs) × AreOwn ts
of_expressions (last a) ts g h = (let u = of_expression a ts g h in ((u.0, tt), u.1))
of_expressions (more a p xs) ts g h =
    let u = of_expression a _ g.0 h in
    let w = of_expressions xs ts g.2 u.1.1 in
    ((u.0, w.0), w.1)

left_tree : (a : Phrase) → grammar.is_left_side a ≡ true → is_left_side (tree_of a) ≡ true
left_tree (spelled.name p x) h = refl
left_tree (spelled.apply a p xs q) h = left_tree a h
left_tree (spelled.select a p f) h = left_tree a h
left_tree a h = absurd cc

-- ---- declarations

of_separator : (s : Separator) (ts : List Token) → AreOwn (separator s ts) → AreOwn ts
of_separator (by_semicolon p) ts h = h.1
of_separator (by_comma p) ts h = h.1

of_maybe : (s : Option Separator) (ts : List Token) → AreOwn (maybe_separator s ts) → AreOwn ts
of_maybe None ts h = h
of_maybe (Some s) ts h = of_separator s ts h

pub of_semicolon : (p : Option Place) (ts : List Token) → AreOwn (maybe_semicolon p ts) → AreOwn ts
of_semicolon None ts h = h
of_semicolon (Some p) ts h = h.1

of_initial : (b : Bool) (i : Initial) (ts : List Token) → GoodInitial b i → AreOwn (initial i ts) → IsStart b (start_of i) × AreOwn ts
of_initial b unset ts g h = (tt, h)
of_initial b (equals p e) ts g h = of_expression e ts g h.1
of_initial b (among p e) ts g h = (let u = of_expression e ts g.1 h.1 in ((g.0, u.0), u.1))

of_variables : (b : Bool) (vs : Variables) (ts : List Token) → GoodVariables b vs → AreOwn (variables vs ts) → AreDeclarations b (declarations vs) × AreOwn ts
of_variables b (last_variable x i s) ts g h = (let u = of_initial b i _ g h.1 in (((h.0.0, u.0), tt), of_maybe s ts u.1))
of_variables b (variable x i s vs) ts g h =
    let u = of_initial b i _ g.0 h.1 in
    let w = of_variables b vs ts g.1 (of_separator s _ u.1) in
    (((h.0.0, u.0), w.0), w.1)

pub of_section : (b : Bool) (s : Section) (ts : List Token) → GoodSection b s → AreOwn (section_tokens s ts) → AreDeclarations b (declared s) × AreOwn ts
of_section b no_section ts g h = (tt, h)
of_section b (section p w vs) ts g h = of_variables b vs ts g h.1

-- ---- parameters and definitions

of_names : (xs : Names) (ts : List Token) → AreOwn (names xs ts) → AreNames (names_of xs) × AreOwn ts
of_names (last_name x) ts h = ((h.0.0, tt), h.1)
of_names (more_names x p xs) ts h = (let u = of_names xs ts h.1.1 in ((h.0.0, u.0), u.1))

pub of_macro_parameters : (xs : MacroParameters) (ts : List Token) → AreOwn (macro_parameters xs ts) → AreNames (macro_names xs) × AreOwn ts
of_macro_parameters (no_names p q) ts h = (tt, h.1.1)
of_macro_parameters (some_names p xs q) ts h = (let u = of_names xs _ h.1 in (u.0, u.1.1))

of_parameters : (xs : Parameters) (ts : List Token) → GoodParameters xs → AreOwn (parameters xs ts) → AreDeclarations false (parameters_of xs) × AreOwn ts
of_parameters (last_parameter x i) ts g h = (let u = of_initial false i ts g h.1 in (((h.0.0, u.0), tt), u.1))
of_parameters (parameter x i p xs) ts g h =
    let u = of_initial false i _ g.0 h.1 in
    let w = of_parameters xs ts g.1 u.1.1 in
    (((h.0.0, u.0), w.0), w.1)

pub of_procedure_parameters : (xs : ProcedureParameters) (ts : List Token) → GoodProcedureParameters xs → AreOwn (procedure_parameters xs ts) → AreDeclarations false (procedure_declarations xs) × AreOwn ts
of_procedure_parameters (no_parameters p q) ts g h = (tt, h.1.1)
of_procedure_parameters (some_parameters p xs q) ts g h = (let u = of_parameters xs _ g h.1 in (u.0, u.1.1))

of_definition : (x : Heading) (p : Place) (e : Phrase) (ts : List Token) → IsGood e → AreOwn (heading x (grammar.mark p tk.defines (expression e ts))) → IsDefinition (definition_of x e) × AreOwn ts
of_definition (plain x) p e ts g h = (let u = of_expression e ts g h.1.1 in ((h.0.0, tt, u.0), u.1))
of_definition (applied x q xs r) p e ts g h =
    let n = of_names xs _ h.1.1 in
    let u = of_expression e ts g n.1.1.1 in
    ((h.0.0, n.0, u.0), u.1)

pub of_definitions : (ds : Definitions) (ts : List Token) → GoodDefinitions ds → AreOwn (definitions ds ts) → AllByRecursion IsDefinition (definitions_of ds) × AreOwn ts
of_definitions (last_definition x p e) ts g h = (let u = of_definition x p e ts g h in ((u.0, tt), u.1))
of_definitions (more_definitions x p e ds) ts g h =
    let u = of_definition x p e _ g.0 h in
    let w = of_definitions ds ts g.1 u.1 in
    ((u.0, w.0), w.1)

-- ---- labels and binds

pub of_labels : (ls : Labels) (ts : List Token) → AreOwn (labels ls ts) → ((ss : tree.Statements) → AreStatements ss → AreStatements (with_labels ls ss)) × AreOwn ts
of_labels no_labels ts h = ((λ ss k. k), h)
of_labels (label x (colon p) ls) ts h = (let u = of_labels ls ts h.1.1 in ((λ ss k. (h.0.0, u.0 ss k)), u.1))
of_labels (label x (colon_plus p q) ls) ts h = (let u = of_labels ls ts h.1.1.1 in ((λ ss k. (h.0.0, u.0 ss k)), u.1))
of_labels (label x (colon_minus p q) ls) ts h = (let u = of_labels ls ts h.1.1.1 in ((λ ss k. (h.0.0, u.0 ss k)), u.1))

bound_is : (b : Bool) (x : Name) (e : Phrase) (bs : tree.Binds) → IsName x → IsExpression (tree_of e) → AreBinds bs → AreBinds (bound b x e bs)
bound_is true x e bs n h k = (n, h, k)
bound_is false x e bs n h k = (n, h, k)

pub of_binds : (bs : Binds) (ts : List Token) → GoodBinds bs → AreOwn (binds bs ts) → AreBinds (binds_of bs) × AreOwn ts
of_binds (last_bind x b p e s) ts g h = (let u = of_expression e _ g h.1.1 in (bound_is b x e tree.no_binds h.0.0 u.0 tt, of_maybe s ts u.1))
of_binds (bind x b p e s bs) ts g h =
    let u = of_expression e _ g.0 h.1.1 in
    let w = of_binds bs ts g.1 (of_separator s _ u.1) in
    (bound_is b x e (binds_of bs) h.0.0 u.0 w.0, w.1)

pub with_is : (bs : Binds) (ss : tree.Statements) → AreBinds (binds_of bs) → AreStatements ss → IsStatement (tree.with (binds_of bs) ss)
with_is (last_bind x true p e s) ss h k = (h, k)
with_is (last_bind x false p e s) ss h k = (h, k)
with_is (bind x true p e s bs) ss h k = (h, k)
with_is (bind x false p e s bs) ss h k = (h, k)

-- ---- simple statements

of_arguments : (xs : Arguments) (ts : List Token) → GoodArguments xs → AreOwn (arguments xs ts) → AreExpressions (arguments_of xs) × AreOwn ts
of_arguments (no_arguments p q) ts g h = (tt, h.1.1)
of_arguments (some_arguments p xs q) ts g h = (let u = of_expressions xs _ g h.1 in (u.0, u.1.1))

more_assignments : (l e : Tree) (ms : Assignments) → (is_left_side l ≡ true) × IsExpression l × IsExpression e → AreAssignments (assignments_of ms) → AreAssignments (tree.assignment l e (assignments_of ms))
more_assignments l e (last_assignment k p f) h v = (h, v)
more_assignments l e (assignment k p f q ms) h v = (h, v)

of_assignments : (ms : Assignments) (ts : List Token) → GoodAssignments ms → AreOwn (assignments ms ts) → AreAssignments (assignments_of ms) × AreOwn ts
of_assignments (last_assignment l p e) ts g h =
    let u = of_expression l _ g.1 h in
    let w = of_expression e ts g.2 u.1.1 in
    ((left_tree l g.0, u.0, w.0), w.1)
of_assignments (assignment l p e q ms) ts g h =
    let u = of_expression l _ g.1 h in
    let w = of_expression e _ g.2 u.1.1 in
    let z = of_assignments ms ts g.3 w.1.1 in
    (more_assignments (tree_of l) (tree_of e) ms (left_tree l g.0, u.0, w.0) z.0, z.1)

pub of_simple : (s : Simple) (ts : List Token) → GoodSimple s → AreOwn (simple_tokens s ts) → IsStatement (simple_tree s) × AreOwn ts
of_simple (assign ms) ts g h = of_assignments ms ts g h
of_simple (await p e) ts g h = of_expression e ts g h.1
of_simple (when p e) ts g h = of_expression e ts g h.1
of_simple (print p e) ts g h = of_expression e ts g h.1
of_simple (assert p e) ts g h = of_expression e ts g h.1
of_simple (skip p) ts g h = (tt, h.1)
of_simple (goto p x) ts g h = (h.1.0.0, h.1.1)
of_simple (call p x xs) ts g h = (let u = of_arguments xs ts g h.1.1 in ((h.1.0.0, u.0), u.1))
of_simple (return p) ts g h = (tt, h.1)
of_simple (macro x xs) ts g h = (let u = of_arguments xs ts g h.1 in ((h.0.0, u.0), u.1))
