-- Tokens before others are no fewer than those.
use Rattle.std.proofs.Common.{◌≤◌, suc, List, [], ◌∷◌, length, Option, Some, None, arith}
use Rattle.std.specs.List.{AllByRecursion}
use Rattle.tla_token.specs.declared.place.Place.{Place}
use Rattle.tla_tree.specs.Lexical.{Token}
use Rattle.tla_tree.specs.Lexical as tk
use Rattle.tla_tree.specs.Spelling.{Phrase, spell}
use Rattle.tla_tree.proofs.Steps.{few, few_all}
use Rattle.pcal_tree.specs.GrammarParts.{Separator, by_semicolon, by_comma, Initial, unset, equals, among, Variables, last_variable, variable, Section, no_section, section, Names, last_name, more_names, MacroParameters, no_names, some_names, Parameters, last_parameter, parameter, ProcedureParameters, no_parameters, some_parameters, Heading, plain, applied, Definitions, last_definition, more_definitions, Colon, colon, colon_plus, colon_minus, Labels, no_labels, label, Binds, last_bind, bind, Arguments, no_arguments, some_arguments, Assignments, last_assignment, assignment, Simple}
use Rattle.pcal_tree.specs.GrammarParts as g
use Rattle.pcal_tree.specs.Grammar.{Fair, unfair, weak, strong, fair, each}

abbrev pub Grows : (List Token → List Token) → Type 0
Grows x = (ts : List Token) → length ts ≤ length (x ts)

abbrev pub GrowsMore : (List Token → List Token) → Type 0
GrowsMore x = (ts : List Token) → suc (length ts) ≤ length (x ts)

pub grow_phrase : (a : Phrase) → GrowsMore (spell a)
grow_phrase a ts = omega (arith, few a ts)

pub grow_semicolon : (o : Option Place) → Grows (g.maybe_semicolon o)
grow_semicolon None ts = omega arith
grow_semicolon (Some p) ts = omega arith

pub grow_separator : (s : Separator) → GrowsMore (g.separator s)
grow_separator (by_semicolon p) ts = omega arith
grow_separator (by_comma p) ts = omega arith

pub grow_maybe_separator : (o : Option Separator) → Grows (g.maybe_separator o)
grow_maybe_separator None ts = omega arith
grow_maybe_separator (Some s) ts = omega (arith, grow_separator s ts)

pub grow_initial : (i : Initial) → Grows (g.initial i)
grow_initial unset ts = omega arith
grow_initial (equals p e) ts = omega (arith, grow_phrase e ts)
grow_initial (among p e) ts = omega (arith, grow_phrase e ts)

pub grow_variables : (vs : Variables) → GrowsMore (g.variables vs)
grow_variables (last_variable x i s) ts = omega (arith, grow_initial i (g.maybe_separator s ts), grow_maybe_separator s ts)
grow_variables (variable x i s vs) ts = omega (arith, grow_initial i (g.separator s (g.variables vs ts)), grow_separator s (g.variables vs ts), grow_variables vs ts)

pub grow_section : (x : Section) → Grows (g.section_tokens x)
grow_section no_section ts = omega arith
grow_section (section p b vs) ts = omega (arith, grow_variables vs ts)

pub grow_names : (xs : Names) → GrowsMore (g.names xs)
grow_names (last_name x) ts = omega arith
grow_names (more_names x p xs) ts = omega (arith, grow_names xs ts)

pub grow_macro : (x : MacroParameters) → GrowsMore (g.macro_parameters x)
grow_macro (no_names p q) ts = omega arith
grow_macro (some_names p xs q) ts = omega (arith, grow_names xs (g.mark q tk.close_bracket ts))

pub grow_parameters : (xs : Parameters) → GrowsMore (g.parameters xs)
grow_parameters (last_parameter x i) ts = omega (arith, grow_initial i ts)
grow_parameters (parameter x i p xs) ts = omega (arith, grow_initial i (g.mark p tk.comma (g.parameters xs ts)), grow_parameters xs ts)

pub grow_procedure : (x : ProcedureParameters) → GrowsMore (g.procedure_parameters x)
grow_procedure (no_parameters p q) ts = omega arith
grow_procedure (some_parameters p xs q) ts = omega (arith, grow_parameters xs (g.mark q tk.close_bracket ts))

pub grow_heading : (x : Heading) → GrowsMore (g.heading x)
grow_heading (plain x) ts = omega arith
grow_heading (applied x p xs q) ts = omega (arith, grow_names xs (g.mark q tk.close_bracket ts))

pub grow_definitions : (ds : Definitions) → GrowsMore (g.definitions ds)
grow_definitions (last_definition h p e) ts = omega (arith, grow_heading h (g.mark p tk.defines (spell e ts)), grow_phrase e ts)
grow_definitions (more_definitions h p e ds) ts = omega (arith, grow_heading h (g.mark p tk.defines (spell e (g.definitions ds ts))), grow_phrase e (g.definitions ds ts), grow_definitions ds ts)

pub grow_colon : (c : Colon) → GrowsMore (g.colon_tokens c)
grow_colon (colon p) ts = omega arith
grow_colon (colon_plus p q) ts = omega arith
grow_colon (colon_minus p q) ts = omega arith

pub grow_labels : (ls : Labels) → Grows (g.labels ls)
grow_labels no_labels ts = omega arith
grow_labels (label x c ls) ts = omega (arith, grow_colon c (g.labels ls ts), grow_labels ls ts)

pub grow_binds : (bs : Binds) → GrowsMore (g.binds bs)
grow_binds (last_bind x b p e s) ts = omega (arith, grow_phrase e (g.maybe_separator s ts), grow_maybe_separator s ts)
grow_binds (bind x b p e s bs) ts = omega (arith, grow_phrase e (g.separator s (g.binds bs ts)), grow_separator s (g.binds bs ts), grow_binds bs ts)

pub grow_arguments : (xs : Arguments) → GrowsMore (g.arguments xs)
grow_arguments (no_arguments p q) ts = omega arith
grow_arguments (some_arguments p xs q) ts = omega (arith, few_all xs (g.mark q tk.close_bracket ts))

pub grow_assignments : (ms : Assignments) → GrowsMore (g.assignments ms)
grow_assignments (last_assignment l p e) ts = omega (arith, grow_phrase l (g.mark p tk.assigns (spell e ts)), grow_phrase e ts)
grow_assignments (assignment l p e q ms) ts = omega (arith, grow_phrase l (g.mark p tk.assigns (spell e (g.mark q tk.beside (g.assignments ms ts)))), grow_phrase e (g.mark q tk.beside (g.assignments ms ts)), grow_assignments ms ts)

pub grow_simple : (s : Simple) → GrowsMore (g.simple_tokens s)
grow_simple (g.assign ms) ts = grow_assignments ms ts
grow_simple (g.await p e) ts = omega (arith, grow_phrase e ts)
grow_simple (g.when p e) ts = omega (arith, grow_phrase e ts)
grow_simple (g.print p e) ts = omega (arith, grow_phrase e ts)
grow_simple (g.assert p e) ts = omega (arith, grow_phrase e ts)
grow_simple (g.skip p) ts = omega arith
grow_simple (g.goto p x) ts = omega arith
grow_simple (g.call p x xs) ts = omega (arith, grow_arguments xs ts)
grow_simple (g.return p) ts = omega arith
grow_simple (g.macro x xs) ts = omega (arith, grow_arguments xs ts)

pub grow_fair : (f : Fair) → Grows (fair f)
grow_fair unfair ts = omega arith
grow_fair (weak p) ts = omega arith
grow_fair (strong p q) ts = omega arith

pub grow_each : {A : Type 0} (f : A → List Token → List Token) (Q : A → Type 0) → ((x : A) → Q x → GrowsMore (f x)) → (xs : List A) → AllByRecursion Q xs → Grows (each f xs)
grow_each f Q h [] i ts = omega arith
grow_each f Q h (x ∷ xs) i ts = omega (arith, h x i.0 (each f xs ts), grow_each f Q h xs i.1 ts)
