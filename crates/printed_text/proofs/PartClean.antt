-- No part that both syntaxes spell alike holds what is left out.
use Rattle.std.proofs.Common.{Bool, false, List, Option, Some, None}
use Rattle.tla_token.specs.declared.place.Place.{Place}
use Rattle.tla_tree.specs.Lexical.{Token}
use Rattle.tla_tree.specs.Lexical as tk
use Rattle.pcal_tree.specs.GrammarParts.{mark, expression, maybe_semicolon, GoodInitial, GoodVariables, GoodSection, GoodParameters, GoodProcedureParameters, GoodDefinitions, GoodBinds, GoodArguments, GoodAssignments, GoodSimple, Separator, by_semicolon, by_comma, separator, maybe_separator, Initial, unset, equals, among, initial, Variables, last_variable, variable, variables, Section, no_section, section, section_tokens, Names, last_name, more_names, names, MacroParameters, no_names, some_names, macro_parameters, Parameters, last_parameter, parameter, parameters, ProcedureParameters, no_parameters, some_parameters, procedure_parameters, Heading, plain, applied, heading, Definitions, last_definition, more_definitions, definitions, Colon, colon, colon_plus, colon_minus, colon_tokens, Labels, no_labels, label, labels, Binds, last_bind, bind, bind_sign, binds, Arguments, no_arguments, some_arguments, arguments, Assignments, last_assignment, assignment, assignments, Simple, assign, await, when, print, assert, skip, goto, call, return, macro, simple_tokens}
use Rattle.printed_text.proofs.ExprClean.{Clean, sign_fits, clean, all_clean}

pub separator_clean : (a : Separator) (ts : List Token) → Clean ts → Clean (separator a ts)
separator_clean (by_semicolon p) ts k = (tt, k)
separator_clean (by_comma p) ts k = (tt, k)

pub maybe_separator_clean : (a : Option Separator) (ts : List Token) → Clean ts → Clean (maybe_separator a ts)
maybe_separator_clean None ts k = k
maybe_separator_clean (Some s) ts k = separator_clean s ts k

pub maybe_semicolon_clean : (a : Option Place) (ts : List Token) → Clean ts → Clean (maybe_semicolon a ts)
maybe_semicolon_clean None ts k = k
maybe_semicolon_clean (Some p) ts k = (tt, k)

pub initial_clean : (b : Bool) (a : Initial) (ts : List Token) → GoodInitial b a → Clean ts → Clean (initial a ts)
initial_clean b unset ts g k = k
initial_clean b (equals p e) ts g k = (tt, clean 0 e ts g k)
initial_clean b (among p e) ts g k = (tt, clean 0 e ts g.1 k)

pub variable_clean : (b : Bool) (a : Variables) (ts : List Token) → GoodVariables b a → Clean ts → Clean (variables a ts)
variable_clean b (last_variable x i s) ts g k = (tt, initial_clean b i (maybe_separator s ts) g (maybe_separator_clean s ts k))
variable_clean b (variable x i s vs) ts g k = (tt, initial_clean b i (separator s (variables vs ts)) g.0 (separator_clean s (variables vs ts) (variable_clean b vs ts g.1 k)))

pub name_clean : (a : Names) (ts : List Token) → Clean ts → Clean (names a ts)
name_clean (last_name x) ts k = (tt, k)
name_clean (more_names x p xs) ts k = (tt, (tt, name_clean xs ts k))

pub macro_parameter_clean : (a : MacroParameters) (ts : List Token) → Clean ts → Clean (macro_parameters a ts)
macro_parameter_clean (no_names p q) ts k = (tt, (tt, k))
macro_parameter_clean (some_names p xs q) ts k = (tt, name_clean xs (mark q tk.close_bracket ts) (tt, k))

pub parameter_clean : (a : Parameters) (ts : List Token) → GoodParameters a → Clean ts → Clean (parameters a ts)
parameter_clean (last_parameter x i) ts g k = (tt, initial_clean false i ts g k)
parameter_clean (parameter x i p xs) ts g k = (tt, initial_clean false i (mark p tk.comma (parameters xs ts)) g.0 (tt, parameter_clean xs ts g.1 k))

pub procedure_parameter_clean : (a : ProcedureParameters) (ts : List Token) → GoodProcedureParameters a → Clean ts → Clean (procedure_parameters a ts)
procedure_parameter_clean (no_parameters p q) ts g k = (tt, (tt, k))
procedure_parameter_clean (some_parameters p xs q) ts g k = (tt, parameter_clean xs (mark q tk.close_bracket ts) g (tt, k))

pub heading_clean : (a : Heading) (ts : List Token) → Clean ts → Clean (heading a ts)
heading_clean (plain x) ts k = (tt, k)
heading_clean (applied x p xs q) ts k = (tt, (tt, name_clean xs (mark q tk.close_bracket ts) (tt, k)))

pub definition_clean : (a : Definitions) (ts : List Token) → GoodDefinitions a → Clean ts → Clean (definitions a ts)
definition_clean (last_definition h p e) ts g k = heading_clean h (mark p tk.defines (expression e ts)) (tt, clean 0 e ts g k)
definition_clean (more_definitions h p e ds) ts g k = heading_clean h (mark p tk.defines (expression e (definitions ds ts))) (tt, clean 0 e (definitions ds ts) g.0 (definition_clean ds ts g.1 k))

pub colon_clean : (a : Colon) (ts : List Token) → Clean ts → Clean (colon_tokens a ts)
colon_clean (colon p) ts k = (tt, k)
colon_clean (colon_plus p q) ts k = (tt, (tt, k))
colon_clean (colon_minus p q) ts k = (tt, (tt, k))

pub label_clean : (a : Labels) (ts : List Token) → Clean ts → Clean (labels a ts)
label_clean no_labels ts k = k
label_clean (label x c ls) ts k = (tt, colon_clean c (labels ls ts) (label_clean ls ts k))

pub bind_clean : (a : Binds) (ts : List Token) → GoodBinds a → Clean ts → Clean (binds a ts)
bind_clean (last_bind x b p e s) ts g k = (tt, (sign_fits (bind_sign b) (expression e (maybe_separator s ts)), clean 0 e (maybe_separator s ts) g (maybe_separator_clean s ts k)))
bind_clean (bind x b p e s bs) ts g k = (tt, (sign_fits (bind_sign b) (expression e (separator s (binds bs ts))), clean 0 e (separator s (binds bs ts)) g.0 (separator_clean s (binds bs ts) (bind_clean bs ts g.1 k))))

pub argument_clean : (a : Arguments) (ts : List Token) → GoodArguments a → Clean ts → Clean (arguments a ts)
argument_clean (no_arguments p q) ts g k = (tt, (tt, k))
argument_clean (some_arguments p xs q) ts g k = (tt, all_clean 0 xs (mark q tk.close_bracket ts) g (tt, k))

pub assignment_clean : (a : Assignments) (ts : List Token) → GoodAssignments a → Clean ts → Clean (assignments a ts)
assignment_clean (last_assignment l p e) ts g k = clean 0 l (mark p tk.assigns (expression e ts)) g.1 (tt, clean 0 e ts g.2 k)
assignment_clean (assignment l p e q ms) ts g k = clean 0 l (mark p tk.assigns (expression e (mark q tk.beside (assignments ms ts)))) g.1 (tt, clean 0 e (mark q tk.beside (assignments ms ts)) g.2 (tt, assignment_clean ms ts g.3 k))

pub simple_clean : (a : Simple) (ts : List Token) → GoodSimple a → Clean ts → Clean (simple_tokens a ts)
simple_clean (assign ms) ts g k = assignment_clean ms ts g k
simple_clean (await p e) ts g k = (tt, clean 0 e ts g k)
simple_clean (when p e) ts g k = (tt, clean 0 e ts g k)
simple_clean (print p e) ts g k = (tt, clean 0 e ts g k)
simple_clean (assert p e) ts g k = (tt, clean 0 e ts g k)
simple_clean (skip p) ts g k = (tt, k)
simple_clean (goto p x) ts g k = (tt, (tt, k))
simple_clean (call p x xs) ts g k = (tt, (tt, argument_clean xs ts g k))
simple_clean (return p) ts g k = (tt, k)
simple_clean (macro x xs) ts g k = (tt, argument_clean xs ts g k)

pub section_clean : (b : Bool) (a : Section) (ts : List Token) → GoodSection b a → Clean ts → Clean (section_tokens a ts)
section_clean b no_section ts g h = h
section_clean b (section p s vs) ts g h = (tt, variable_clean b vs ts g h)
