-- The parts that both syntaxes spell alike, by tokens of which none is a prime: nothing in them is primed.
use Rattle.std.proofs.Common.{List, Bool, true, false, Option, Some, None}
use Rattle.std.specs.List.{AllByRecursion}
use Rattle.tla_token.specs.declared.place.Place.{Place}
use Rattle.tla_tree.specs.Tree.{Name}
use Rattle.tla_tree.specs.Lexical.{Token}
use Rattle.tla_tree.specs.Spelling.{Phrase, tree_of}
use Rattle.pcal_tree.specs.Algorithm as tree
use Rattle.pcal_tree.specs.GrammarParts.{Separator, by_semicolon, by_comma, separator, maybe_separator, maybe_semicolon, Initial, unset, equals, among, initial, start_of, Variables, last_variable, variable, variables, declarations, Section, no_section, section, section_tokens, declared}
use Rattle.pcal_tree.specs.GrammarParts.{Names, last_name, more_names, names, MacroParameters, no_names, some_names, macro_parameters, Parameters, last_parameter, parameter, parameters, parameters_of, ProcedureParameters, no_parameters, some_parameters, procedure_parameters, procedure_declarations}
use Rattle.pcal_tree.specs.GrammarParts.{Heading, plain, applied, heading, definition_of, Definitions, last_definition, more_definitions, definitions, definitions_of, Labels, no_labels, label, labels, colon, colon_plus, colon_minus, with_labels, Binds, last_bind, bind, binds, bound, binds_of}
use Rattle.pcal_tree.specs.GrammarParts.{Arguments, no_arguments, some_arguments, arguments, arguments_of, Assignments, last_assignment, assignment, assignments, assignments_of, Simple, simple_tokens, simple_tree}
use Rattle.pcal_tree.specs.GrammarParts as part
use Rattle.translation.specs.laws.KeptUnprimed.{AreBare, Unprimed, AreUnprimed, SidesUnprimed, BindsUnprimed, OneUnprimed, BodyUnprimed, InitialUnprimed, DeclaredUnprimed}
use Rattle.translation.proofs.KeptPhrases.{phrase_unprimed, all_unprimed}

-- ---- declarations

pub past_semicolon : (p : Option Place) (ts : List Token) → AreBare (maybe_semicolon p ts) → AreBare ts
past_semicolon None ts h = h
past_semicolon (Some p) ts h = h.1

past_one : (s : Separator) (ts : List Token) → AreBare (separator s ts) → AreBare ts
past_one (by_semicolon p) ts h = h.1
past_one (by_comma p) ts h = h.1

past_separator : (s : Option Separator) (ts : List Token) → AreBare (maybe_separator s ts) → AreBare ts
past_separator None ts h = h
past_separator (Some s) ts h = past_one s ts h

initial_unprimed : (i : Initial) (ts : List Token) → AreBare (initial i ts) → InitialUnprimed (start_of i) × AreBare ts
initial_unprimed unset ts h = (tt, h)
initial_unprimed (equals p e) ts h = phrase_unprimed e ts h.1
initial_unprimed (among p e) ts h = phrase_unprimed e ts h.1

variables_unprimed : (vs : Variables) (ts : List Token) → AreBare (variables vs ts) → DeclaredUnprimed (declarations vs) × AreBare ts
variables_unprimed (last_variable x i s) ts h = (let k = initial_unprimed i _ h.1 in ((k.0, tt), past_separator s ts k.1))
variables_unprimed (variable x i s vs) ts h =
    let k = initial_unprimed i _ h.1 in
    let l = variables_unprimed vs ts (past_one s _ k.1) in
    ((k.0, l.0), l.1)

pub section_unprimed : (s : Section) (ts : List Token) → AreBare (section_tokens s ts) → DeclaredUnprimed (declared s) × AreBare ts
section_unprimed no_section ts h = (tt, h)
section_unprimed (section p s vs) ts h = variables_unprimed vs ts h.1

past_names : (xs : Names) (ts : List Token) → AreBare (names xs ts) → AreBare ts
past_names (last_name x) ts h = h.1
past_names (more_names x p xs) ts h = past_names xs ts h.1.1

pub past_macro_parameters : (m : MacroParameters) (ts : List Token) → AreBare (macro_parameters m ts) → AreBare ts
past_macro_parameters (no_names p q) ts h = h.1.1
past_macro_parameters (some_names p xs q) ts h = (past_names xs _ h.1).1

parameters_unprimed : (xs : Parameters) (ts : List Token) → AreBare (parameters xs ts) → DeclaredUnprimed (parameters_of xs) × AreBare ts
parameters_unprimed (last_parameter x i) ts h = (let k = initial_unprimed i ts h.1 in ((k.0, tt), k.1))
parameters_unprimed (parameter x i p xs) ts h =
    let k = initial_unprimed i _ h.1 in
    let l = parameters_unprimed xs ts k.1.1 in
    ((k.0, l.0), l.1)

pub procedure_parameters_unprimed : (m : ProcedureParameters) (ts : List Token) → AreBare (procedure_parameters m ts) → DeclaredUnprimed (procedure_declarations m) × AreBare ts
procedure_parameters_unprimed (no_parameters p q) ts h = (tt, h.1.1)
procedure_parameters_unprimed (some_parameters p xs q) ts h = (let k = parameters_unprimed xs _ h.1 in (k.0, k.1.1))

past_heading : (d : Heading) (ts : List Token) → AreBare (heading d ts) → AreBare ts
past_heading (plain x) ts h = h.1
past_heading (applied x p xs q) ts h = (past_names xs _ h.1.1).1

abbrev Defined : List tree.Definition → Type 0
Defined ds = AllByRecursion (λ (d : tree.Definition). Unprimed d.body) ds

of_heading : (d : Heading) (e : Phrase) → Unprimed (tree_of e) → Unprimed (definition_of d e).body
of_heading (plain x) e h = h
of_heading (applied x p xs q) e h = h

pub definitions_unprimed : (ds : Definitions) (ts : List Token) → AreBare (definitions ds ts) → Defined (definitions_of ds) × AreBare ts
definitions_unprimed (last_definition d p e) ts h = (let k = phrase_unprimed e ts (past_heading d _ h).1 in ((of_heading d e k.0, tt), k.1))
definitions_unprimed (more_definitions d p e ds) ts h =
    let k = phrase_unprimed e _ (past_heading d _ h).1 in
    let l = definitions_unprimed ds ts k.1 in
    ((of_heading d e k.0, l.0), l.1)

-- ---- labels and statements

-- the labels before statements
pub labels_unprimed : (ls : Labels) (ts : List Token) → AreBare (labels ls ts) → ((ss : tree.Statements) → BodyUnprimed ss → BodyUnprimed (with_labels ls ss)) × AreBare ts
labels_unprimed no_labels ts h = ((λ ss k. k), h)
labels_unprimed (label x (colon p) ls) ts h = (let k = labels_unprimed ls ts h.1.1 in ((λ ss s. k.0 ss s), k.1))
labels_unprimed (label x (colon_plus p q) ls) ts h = (let k = labels_unprimed ls ts h.1.1.1 in ((λ ss s. k.0 ss s), k.1))
labels_unprimed (label x (colon_minus p q) ls) ts h = (let k = labels_unprimed ls ts h.1.1.1 in ((λ ss s. k.0 ss s), k.1))

one_bound : (b : Bool) (x : Name) (e : Phrase) (bs : tree.Binds) → Unprimed (tree_of e) → BindsUnprimed bs → BindsUnprimed (bound b x e bs)
one_bound true x e bs k l = (k, l)
one_bound false x e bs k l = (k, l)

pub binds_unprimed : (bs : Binds) (ts : List Token) → AreBare (binds bs ts) → BindsUnprimed (binds_of bs) × AreBare ts
binds_unprimed (last_bind x b p e s) ts h = (let k = phrase_unprimed e _ h.1.1 in (one_bound b x e tree.no_binds k.0 tt, past_separator s ts k.1))
binds_unprimed (bind x b p e s bs) ts h =
    let k = phrase_unprimed e _ h.1.1 in
    let l = binds_unprimed bs ts (past_one s _ k.1) in
    (one_bound b x e (binds_of bs) k.0 l.0, l.1)

arguments_unprimed : (xs : Arguments) (ts : List Token) → AreBare (arguments xs ts) → AreUnprimed (arguments_of xs) × AreBare ts
arguments_unprimed (no_arguments p q) ts h = (tt, h.1.1)
arguments_unprimed (some_arguments p xs q) ts h = (let k = all_unprimed xs _ h.1 in (k.0, k.1.1))

sides_unprimed : (ms : Assignments) (ts : List Token) → AreBare (assignments ms ts) → SidesUnprimed (assignments_of ms) × AreBare ts
sides_unprimed (last_assignment l p e) ts h =
    let k = phrase_unprimed l _ h in
    let m = phrase_unprimed e ts k.1.1 in
    ((k.0, m.0, tt), m.1)
sides_unprimed (assignment l p e q ms) ts h =
    let k = phrase_unprimed l _ h in
    let m = phrase_unprimed e _ k.1.1 in
    let n = sides_unprimed ms ts m.1.1 in
    ((k.0, m.0, n.0), n.1)

pub simple_unprimed : (s : Simple) (ts : List Token) → AreBare (simple_tokens s ts) → OneUnprimed (simple_tree s) × AreBare ts
simple_unprimed (part.assign ms) ts h = sides_unprimed ms ts h
simple_unprimed (part.await p e) ts h = phrase_unprimed e ts h.1
simple_unprimed (part.when p e) ts h = phrase_unprimed e ts h.1
simple_unprimed (part.print p e) ts h = phrase_unprimed e ts h.1
simple_unprimed (part.assert p e) ts h = phrase_unprimed e ts h.1
simple_unprimed (part.skip p) ts h = (tt, h.1)
simple_unprimed (part.goto p x) ts h = (tt, h.1.1)
simple_unprimed (part.call p x xs) ts h = arguments_unprimed xs ts h.1.1
simple_unprimed (part.return p) ts h = (tt, h.1)
simple_unprimed (part.macro x xs) ts h = arguments_unprimed xs ts h.1
