-- The parts that both syntaxes spell alike, of tokens of a text: names are identifiers, and expressions can be written.
use Rattle.std.proofs.Common.{◌≡◌, List, [], ◌∷◌, ◌++◌, Bool, true, false, is_some, Option, Some, None, refl, subst}
use Rattle.std.specs.List.{AllByRecursion}
use Rattle.tla_token.specs.declared.place.Place.{Place}
use Rattle.tla_tree.specs.Tree.{Name, words}
use Rattle.tla_tree.specs.Lexical.{Token}
use Rattle.tla_tree.specs.Spelling.{Phrase, Phrases, last, more, IsGood, GoodAll, tree_of, trees_of, spell, spell_all}
use Rattle.tla_tree.specs.Spelling as spelled
use Rattle.tla_tree.specs.laws.Writable.{IsIdentifier, IsWritable, AreWritable, AreOfText}
use Rattle.tla_tree.proofs.SpellAppend.{spell_then}
use Rattle.tla_tree.proofs.WritableTrees.{spelled_writable}
use Rattle.pcal_tree.specs.Algorithm as tree
use Rattle.pcal_tree.specs.GrammarParts.{Separator, by_semicolon, by_comma, separator, maybe_separator, maybe_semicolon, Initial, unset, equals, among, initial, start_of, GoodInitial, Variables, last_variable, variable, variables, declarations, GoodVariables, Section, no_section, section, section_tokens, declared, GoodSection}
use Rattle.pcal_tree.specs.GrammarParts.{Names, last_name, more_names, names, names_of, MacroParameters, no_names, some_names, macro_parameters, macro_names, Parameters, last_parameter, parameter, parameters, parameters_of, GoodParameters, ProcedureParameters, no_parameters, some_parameters, procedure_parameters, procedure_declarations, GoodProcedureParameters}
use Rattle.pcal_tree.specs.GrammarParts.{Heading, plain, applied, heading, definition_of, Definitions, last_definition, more_definitions, definitions, definitions_of, GoodDefinitions, Colon, colon, colon_plus, colon_minus, colon_tokens, Labels, no_labels, label, labels, with_labels, Binds, last_bind, bind, binds, bound, binds_of, GoodBinds}
use Rattle.pcal_tree.specs.GrammarParts.{Arguments, no_arguments, some_arguments, arguments, arguments_of, GoodArguments, is_left_side, Assignments, last_assignment, assignment, assignments, assignments_of, GoodAssignments, Simple, simple_tokens, simple_tree, GoodSimple}
use Rattle.pcal_tree.specs.GrammarParts as part
use Rattle.pcal_tree.specs.Paths.{root}
use Rattle.translation.specs.laws.WritableAlgorithm.{AreWritableBinds, IsWritableStart, IsWritableDeclaration}
use Rattle.translation.specs.laws.TypedAlgorithm.{AreTypedAssignments, IsTypedStatement, AreTypedStatements, IsTypedDefinition}

-- ---- expressions

text_split : (xs ys : List Token) → AreOfText (xs ++ ys) → AreOfText xs × AreOfText ys
text_split [] ys h = (tt, h)
text_split (x ∷ xs) ys h = (let k = text_split xs ys h.1 in ((h.0, k.0), k.1))

pub of_phrase : (a : Phrase) (ts : List Token) → IsGood a → AreOfText (spell a ts) → IsWritable (tree_of a) × AreOfText ts
of_phrase a ts g h = (let k = text_split (spell a []) ts (subst AreOfText (spell_then a ts) h) in (spelled_writable 0 a g k.0, k.1))

of_all : (xs : Phrases) (ts : List Token) → GoodAll 0 xs → AreOfText (spell_all xs ts) → AreWritable (trees_of xs) × AreOfText ts
of_all (last a) ts g h = (let k = of_phrase a ts g h in ((k.0, tt), k.1))
of_all (more a p xs) ts g h =
    let k = of_phrase a _ g.0 h in
    let l = of_all xs ts g.2 k.1.1 in
    ((k.0, l.0), l.1)

left_root : (l : Phrase) → is_left_side l ≡ true → is_some (root (tree_of l)) ≡ true
left_root (spelled.name p x) e = refl
left_root (spelled.apply a p xs q) e = left_root a e
left_root (spelled.select a p f) e = left_root a e
left_root l e = cc

-- ---- declarations

pub of_semicolon : (p : Option Place) (ts : List Token) → AreOfText (maybe_semicolon p ts) → AreOfText ts
of_semicolon None ts h = h
of_semicolon (Some p) ts h = h.1

of_one : (s : Separator) (ts : List Token) → AreOfText (separator s ts) → AreOfText ts
of_one (by_semicolon p) ts h = h.1
of_one (by_comma p) ts h = h.1

of_separator : (s : Option Separator) (ts : List Token) → AreOfText (maybe_separator s ts) → AreOfText ts
of_separator None ts h = h
of_separator (Some s) ts h = of_one s ts h

of_initial : (b : Bool) (i : Initial) (ts : List Token) → GoodInitial b i → AreOfText (initial i ts) → IsWritableStart (start_of i) × AreOfText ts
of_initial b unset ts g h = (tt, h)
of_initial b (equals p e) ts g h = of_phrase e ts g h.1
of_initial b (among p e) ts g h = of_phrase e ts g.1 h.1

of_variables : (b : Bool) (vs : Variables) (ts : List Token) → GoodVariables b vs → AreOfText (variables vs ts) → AllByRecursion IsWritableDeclaration (declarations vs) × AreOfText ts
of_variables b (last_variable x i s) ts g h = (let k = of_initial b i _ g h.1 in (((h.0, k.0), tt), of_separator s ts k.1))
of_variables b (variable x i s vs) ts g h =
    let k = of_initial b i _ g.0 h.1 in
    let l = of_variables b vs ts g.1 (of_one s _ k.1) in
    (((h.0, k.0), l.0), l.1)

pub of_section : (b : Bool) (s : Section) (ts : List Token) → GoodSection b s → AreOfText (section_tokens s ts) → AllByRecursion IsWritableDeclaration (declared s) × AreOfText ts
of_section b no_section ts g h = (tt, h)
of_section b (section p s vs) ts g h = of_variables b vs ts g h.1

of_names : (xs : Names) (ts : List Token) → AreOfText (names xs ts) → AllByRecursion IsIdentifier (words (names_of xs)) × AreOfText ts
of_names (last_name x) ts h = ((h.0, tt), h.1)
of_names (more_names x p xs) ts h = (let k = of_names xs ts h.1.1 in ((h.0, k.0), k.1))

pub of_macro_parameters : (m : MacroParameters) (ts : List Token) → AreOfText (macro_parameters m ts) → AllByRecursion IsIdentifier (words (macro_names m)) × AreOfText ts
of_macro_parameters (no_names p q) ts h = (tt, h.1.1)
of_macro_parameters (some_names p xs q) ts h = (let k = of_names xs _ h.1 in (k.0, k.1.1))

of_parameters : (xs : Parameters) (ts : List Token) → GoodParameters xs → AreOfText (parameters xs ts) → AllByRecursion IsWritableDeclaration (parameters_of xs) × AreOfText ts
of_parameters (last_parameter x i) ts g h = (let k = of_initial false i ts g h.1 in (((h.0, k.0), tt), k.1))
of_parameters (parameter x i p xs) ts g h =
    let k = of_initial false i _ g.0 h.1 in
    let l = of_parameters xs ts g.1 k.1.1 in
    (((h.0, k.0), l.0), l.1)

pub of_procedure_parameters : (m : ProcedureParameters) (ts : List Token) → GoodProcedureParameters m → AreOfText (procedure_parameters m ts) → AllByRecursion IsWritableDeclaration (procedure_declarations m) × AreOfText ts
of_procedure_parameters (no_parameters p q) ts g h = (tt, h.1.1)
of_procedure_parameters (some_parameters p xs q) ts g h = (let k = of_parameters xs _ g h.1 in (k.0, k.1.1))

of_heading : (d : Heading) (e : Phrase) (ts : List Token) → AreOfText (heading d ts) → (AreOfText ts → IsWritable (tree_of e)) → IsTypedDefinition (definition_of d e) × AreOfText ts
of_heading (plain x) e ts h k = ((h.0, tt, k h.1), h.1)
of_heading (applied x p xs q) e ts h k = (let l = of_names xs _ h.1.1 in ((h.0, l.0, k l.1.1), l.1.1))

pub of_definitions : (ds : Definitions) (ts : List Token) → GoodDefinitions ds → AreOfText (definitions ds ts) → AllByRecursion IsTypedDefinition (definitions_of ds) × AreOfText ts
of_definitions (last_definition d p e) ts g h =
    let k = of_heading d e _ h (λ r. (of_phrase e ts g r.1).0) in
    ((k.0, tt), (of_phrase e ts g k.1.1).1)
of_definitions (more_definitions d p e ds) ts g h =
    let k = of_heading d e _ h (λ r. (of_phrase e (definitions ds ts) g.0 r.1).0) in
    let l = of_definitions ds ts g.1 (of_phrase e (definitions ds ts) g.0 k.1.1).1 in
    ((k.0, l.0), l.1)

-- ---- labels and statements

-- the labels before statements
pub of_labels : (ls : Labels) (ts : List Token) → AreOfText (labels ls ts) → ((ss : tree.Statements) → AreTypedStatements ss → AreTypedStatements (with_labels ls ss)) × AreOfText ts
of_labels no_labels ts h = ((λ ss k. k), h)
of_labels (label x (colon p) ls) ts h = (let k = of_labels ls ts h.1.1 in ((λ ss s. (h.0, k.0 ss s)), k.1))
of_labels (label x (colon_plus p q) ls) ts h = (let k = of_labels ls ts h.1.1.1 in ((λ ss s. (h.0, k.0 ss s)), k.1))
of_labels (label x (colon_minus p q) ls) ts h = (let k = of_labels ls ts h.1.1.1 in ((λ ss s. (h.0, k.0 ss s)), k.1))

of_bound : (b : Bool) (x : Name) (e : Phrase) (bs : tree.Binds) → IsIdentifier x.word → IsWritable (tree_of e) → AreWritableBinds bs → AreWritableBinds (bound b x e bs)
of_bound true x e bs h k l = (h, k, l)
of_bound false x e bs h k l = (h, k, l)

pub of_binds : (bs : Binds) (ts : List Token) → GoodBinds bs → AreOfText (binds bs ts) → AreWritableBinds (binds_of bs) × AreOfText ts
of_binds (last_bind x b p e s) ts g h = (let k = of_phrase e _ g h.1.1 in (of_bound b x e tree.no_binds h.0 k.0 tt, of_separator s ts k.1))
of_binds (bind x b p e s bs) ts g h =
    let k = of_phrase e _ g.0 h.1.1 in
    let l = of_binds bs ts g.1 (of_one s _ k.1) in
    (of_bound b x e (binds_of bs) h.0 k.0 l.0, l.1)

of_arguments : (xs : Arguments) (ts : List Token) → GoodArguments xs → AreOfText (arguments xs ts) → AreWritable (arguments_of xs) × AreOfText ts
of_arguments (no_arguments p q) ts g h = (tt, h.1.1)
of_arguments (some_arguments p xs q) ts g h = (let k = of_all xs _ g h.1 in (k.0, k.1.1))

of_assignments : (ms : Assignments) (ts : List Token) → GoodAssignments ms → AreOfText (assignments ms ts) → AreTypedAssignments (assignments_of ms) × AreOfText ts
of_assignments (last_assignment l p e) ts g h =
    let k = of_phrase l _ g.1 h in
    let m = of_phrase e ts g.2 k.1.1 in
    ((k.0, left_root l g.0, m.0, tt), m.1)
of_assignments (assignment l p e q ms) ts g h =
    let k = of_phrase l _ g.1 h in
    let m = of_phrase e _ g.2 k.1.1 in
    let n = of_assignments ms ts g.3 m.1.1 in
    ((k.0, left_root l g.0, m.0, n.0), n.1)

pub of_simple : (s : Simple) (ts : List Token) → GoodSimple s → AreOfText (simple_tokens s ts) → IsTypedStatement (simple_tree s) × AreOfText ts
of_simple (part.assign ms) ts g h = of_assignments ms ts g h
of_simple (part.await p e) ts g h = of_phrase e ts g h.1
of_simple (part.when p e) ts g h = of_phrase e ts g h.1
of_simple (part.print p e) ts g h = of_phrase e ts g h.1
of_simple (part.assert p e) ts g h = of_phrase e ts g h.1
of_simple (part.skip p) ts g h = (tt, h.1)
of_simple (part.goto p x) ts g h = (h.1.0, h.1.1)
of_simple (part.call p x xs) ts g h = (let k = of_arguments xs ts g h.1.1 in ((h.1.0, k.0), k.1))
of_simple (part.return p) ts g h = (tt, h.1)
of_simple (part.macro x xs) ts g h = (let k = of_arguments xs ts g h.1 in ((h.0, k.0), k.1))
