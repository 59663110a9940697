-- Algorithms as they are spelled, without their lines, which no grammar looks at.
use Rattle.std.specs.Prelude.{map}
use Rattle.std.specs.Option.{option_map}
use Rattle.tla_tree.specs.Tree.{Name}
use Rattle.tla_tree.specs.laws.Columns.{lineless_place, lineless, lineless_all}
use Rattle.pcal_tree.specs.GrammarParts as part
use Rattle.pcal_tree.specs.GrammarP as psyntax
use Rattle.pcal_tree.specs.GrammarC as csyntax
use Rattle.pcal_tree.specs.Grammar as g

-- ---- an algorithm as it is spelled, without its lines

abbrev pub lineless_name : Name → Name
lineless_name x = record { word = x.word; place = lineless_place x.place }

abbrev pub separator_lineless : part.Separator → part.Separator
separator_lineless (part.by_semicolon p) = part.by_semicolon (lineless_place p)
separator_lineless (part.by_comma p) = part.by_comma (lineless_place p)

abbrev pub initial_lineless : part.Initial → part.Initial
initial_lineless part.unset = part.unset
initial_lineless (part.equals p e) = part.equals (lineless_place p) (lineless e)
initial_lineless (part.among p e) = part.among (lineless_place p) (lineless e)

abbrev pub variables_lineless : part.Variables → part.Variables
variables_lineless (part.last_variable x j s) = part.last_variable (lineless_name x) (initial_lineless j) (option_map separator_lineless s)
variables_lineless (part.variable x j s vs) = part.variable (lineless_name x) (initial_lineless j) (separator_lineless s) (variables_lineless vs)

abbrev pub section_lineless : part.Section → part.Section
section_lineless part.no_section = part.no_section
section_lineless (part.section p b vs) = part.section (lineless_place p) b (variables_lineless vs)

abbrev pub names_lineless : part.Names → part.Names
names_lineless (part.last_name x) = part.last_name (lineless_name x)
names_lineless (part.more_names x p xs) = part.more_names (lineless_name x) (lineless_place p) (names_lineless xs)

abbrev pub macro_parameters_lineless : part.MacroParameters → part.MacroParameters
macro_parameters_lineless (part.no_names p q) = part.no_names (lineless_place p) (lineless_place q)
macro_parameters_lineless (part.some_names p xs q) = part.some_names (lineless_place p) (names_lineless xs) (lineless_place q)

abbrev pub parameters_lineless : part.Parameters → part.Parameters
parameters_lineless (part.last_parameter x j) = part.last_parameter (lineless_name x) (initial_lineless j)
parameters_lineless (part.parameter x j p xs) = part.parameter (lineless_name x) (initial_lineless j) (lineless_place p) (parameters_lineless xs)

abbrev pub procedure_parameters_lineless : part.ProcedureParameters → part.ProcedureParameters
procedure_parameters_lineless (part.no_parameters p q) = part.no_parameters (lineless_place p) (lineless_place q)
procedure_parameters_lineless (part.some_parameters p xs q) = part.some_parameters (lineless_place p) (parameters_lineless xs) (lineless_place q)

abbrev pub heading_lineless : part.Heading → part.Heading
heading_lineless (part.plain x) = part.plain (lineless_name x)
heading_lineless (part.applied x p xs q) = part.applied (lineless_name x) (lineless_place p) (names_lineless xs) (lineless_place q)

abbrev pub definitions_lineless : part.Definitions → part.Definitions
definitions_lineless (part.last_definition hd p e) = part.last_definition (heading_lineless hd) (lineless_place p) (lineless e)
definitions_lineless (part.more_definitions hd p e ds) = part.more_definitions (heading_lineless hd) (lineless_place p) (lineless e) (definitions_lineless ds)

abbrev pub colon_lineless : part.Colon → part.Colon
colon_lineless (part.colon p) = part.colon (lineless_place p)
colon_lineless (part.colon_plus p q) = part.colon_plus (lineless_place p) (lineless_place q)
colon_lineless (part.colon_minus p q) = part.colon_minus (lineless_place p) (lineless_place q)

abbrev pub labels_lineless : part.Labels → part.Labels
labels_lineless part.no_labels = part.no_labels
labels_lineless (part.label x k ls) = part.label (lineless_name x) (colon_lineless k) (labels_lineless ls)

abbrev pub binds_lineless : part.Binds → part.Binds
binds_lineless (part.last_bind x b p e s) = part.last_bind (lineless_name x) b (lineless_place p) (lineless e) (option_map separator_lineless s)
binds_lineless (part.bind x b p e s bs) = part.bind (lineless_name x) b (lineless_place p) (lineless e) (separator_lineless s) (binds_lineless bs)

abbrev pub arguments_lineless : part.Arguments → part.Arguments
arguments_lineless (part.no_arguments p q) = part.no_arguments (lineless_place p) (lineless_place q)
arguments_lineless (part.some_arguments p xs q) = part.some_arguments (lineless_place p) (lineless_all xs) (lineless_place q)

abbrev pub assignments_lineless : part.Assignments → part.Assignments
assignments_lineless (part.last_assignment l p e) = part.last_assignment (lineless l) (lineless_place p) (lineless e)
assignments_lineless (part.assignment l p e q ms) = part.assignment (lineless l) (lineless_place p) (lineless e) (lineless_place q) (assignments_lineless ms)

abbrev pub simple_lineless : part.Simple → part.Simple
simple_lineless (part.assign ms) = part.assign (assignments_lineless ms)
simple_lineless (part.await p e) = part.await (lineless_place p) (lineless e)
simple_lineless (part.when p e) = part.when (lineless_place p) (lineless e)
simple_lineless (part.print p e) = part.print (lineless_place p) (lineless e)
simple_lineless (part.assert p e) = part.assert (lineless_place p) (lineless e)
simple_lineless (part.skip p) = part.skip (lineless_place p)
simple_lineless (part.goto p x) = part.goto (lineless_place p) (lineless_name x)
simple_lineless (part.call p x xs) = part.call (lineless_place p) (lineless_name x) (arguments_lineless xs)
simple_lineless (part.return p) = part.return (lineless_place p)
simple_lineless (part.macro x xs) = part.macro (lineless_name x) (arguments_lineless xs)

abbrev mutual
  pub p_statement_lineless : psyntax.Statement → psyntax.Statement
  p_statement_lineless (psyntax.simple s) = psyntax.simple (simple_lineless s)
  p_statement_lineless (psyntax.branch p e q a b r s) = psyntax.branch (lineless_place p) (lineless e) (lineless_place q) (p_sequence_lineless a) (p_else_lineless b) (lineless_place r) (lineless_place s)
  p_statement_lineless (psyntax.either p a bs r s) = psyntax.either (lineless_place p) (p_sequence_lineless a) (p_branches_lineless bs) (lineless_place r) (lineless_place s)
  p_statement_lineless (psyntax.with p bs q a r s) = psyntax.with (lineless_place p) (binds_lineless bs) (lineless_place q) (p_sequence_lineless a) (lineless_place r) (lineless_place s)
  p_statement_lineless (psyntax.while p e q a r s) = psyntax.while (lineless_place p) (lineless e) (lineless_place q) (p_sequence_lineless a) (lineless_place r) (lineless_place s)

  pub p_else_lineless : psyntax.Else → psyntax.Else
  p_else_lineless psyntax.no_else = psyntax.no_else
  p_else_lineless (psyntax.else_then p a) = psyntax.else_then (lineless_place p) (p_sequence_lineless a)
  p_else_lineless (psyntax.else_if p e q a b) = psyntax.else_if (lineless_place p) (lineless e) (lineless_place q) (p_sequence_lineless a) (p_else_lineless b)

  pub p_branches_lineless : psyntax.Branches → psyntax.Branches
  p_branches_lineless (psyntax.last_branch p a) = psyntax.last_branch (lineless_place p) (p_sequence_lineless a)
  p_branches_lineless (psyntax.more_branches p a bs) = psyntax.more_branches (lineless_place p) (p_sequence_lineless a) (p_branches_lineless bs)

  pub p_sequence_lineless : psyntax.Sequence → psyntax.Sequence
  p_sequence_lineless (psyntax.last_statement ls st s) = psyntax.last_statement (labels_lineless ls) (p_statement_lineless st) (option_map lineless_place s)
  p_sequence_lineless (psyntax.more_statements ls st p ss) = psyntax.more_statements (labels_lineless ls) (p_statement_lineless st) (lineless_place p) (p_sequence_lineless ss)

abbrev mutual
  pub c_statement_lineless : csyntax.Statement → csyntax.Statement
  c_statement_lineless (csyntax.simple s) = csyntax.simple (simple_lineless s)
  c_statement_lineless (csyntax.branch p q e r a b) = csyntax.branch (lineless_place p) (lineless_place q) (lineless e) (lineless_place r) (c_labelled_lineless a) (c_else_lineless b)
  c_statement_lineless (csyntax.either p a bs) = csyntax.either (lineless_place p) (c_labelled_lineless a) (c_branches_lineless bs)
  c_statement_lineless (csyntax.with p q bs r a) = csyntax.with (lineless_place p) (lineless_place q) (binds_lineless bs) (lineless_place r) (c_labelled_lineless a)
  c_statement_lineless (csyntax.while p q e r a) = csyntax.while (lineless_place p) (lineless_place q) (lineless e) (lineless_place r) (c_labelled_lineless a)
  c_statement_lineless (csyntax.compound p ss q) = csyntax.compound (lineless_place p) (c_sequence_lineless ss) (lineless_place q)

  pub c_labelled_lineless : csyntax.Labelled → csyntax.Labelled
  c_labelled_lineless (csyntax.labelled ls st) = csyntax.labelled (labels_lineless ls) (c_statement_lineless st)

  pub c_else_lineless : csyntax.Else → csyntax.Else
  c_else_lineless csyntax.no_else = csyntax.no_else
  c_else_lineless (csyntax.else_then s p a) = csyntax.else_then (option_map lineless_place s) (lineless_place p) (c_labelled_lineless a)

  pub c_branches_lineless : csyntax.Branches → csyntax.Branches
  c_branches_lineless (csyntax.last_branch s p a) = csyntax.last_branch (option_map lineless_place s) (lineless_place p) (c_labelled_lineless a)
  c_branches_lineless (csyntax.more_branches s p a bs) = csyntax.more_branches (option_map lineless_place s) (lineless_place p) (c_labelled_lineless a) (c_branches_lineless bs)

  pub c_sequence_lineless : csyntax.Sequence → csyntax.Sequence
  c_sequence_lineless (csyntax.last_statement a s) = csyntax.last_statement (c_labelled_lineless a) (option_map lineless_place s)
  c_sequence_lineless (csyntax.more_statements a s ss) = csyntax.more_statements (c_labelled_lineless a) (option_map lineless_place s) (c_sequence_lineless ss)

abbrev pub body_lineless : g.Body → g.Body
body_lineless (g.begin_end a ss b d s) = g.begin_end (lineless_place a) (p_sequence_lineless ss) (lineless_place b) (lineless_place d) (option_map lineless_place s)
body_lineless (g.braces a ss b s) = g.braces (lineless_place a) (c_sequence_lineless ss) (lineless_place b) (option_map lineless_place s)

abbrev pub macro_lineless : g.Macro → g.Macro
macro_lineless x = record { place = lineless_place x.place; name = lineless_name x.name; parameters = macro_parameters_lineless x.parameters; body = body_lineless x.body }

abbrev pub procedure_lineless : g.Procedure → g.Procedure
procedure_lineless x = record { place = lineless_place x.place; name = lineless_name x.name; parameters = procedure_parameters_lineless x.parameters; variables = section_lineless x.variables; body = body_lineless x.body }

abbrev pub fair_lineless : g.Fair → g.Fair
fair_lineless g.unfair = g.unfair
fair_lineless (g.weak a) = g.weak (lineless_place a)
fair_lineless (g.strong a b) = g.strong (lineless_place a) (lineless_place b)

abbrev pub identity_lineless : g.Identity → g.Identity
identity_lineless (g.bare x b a e) = g.bare (lineless_name x) b (lineless_place a) (lineless e)
identity_lineless (g.bracketed q x b a e r) = g.bracketed (lineless_place q) (lineless_name x) b (lineless_place a) (lineless e) (lineless_place r)

abbrev pub process_lineless : g.Process → g.Process
process_lineless x = record { fair = fair_lineless x.fair; place = lineless_place x.place; identity = identity_lineless x.identity; variables = section_lineless x.variables; body = body_lineless x.body }

abbrev pub head_lineless : g.Head → g.Head
head_lineless (g.algorithm a) = g.algorithm (lineless_place a)
head_lineless (g.fair_algorithm a b) = g.fair_algorithm (lineless_place a) (lineless_place b)

abbrev pub define_lineless : g.Define → g.Define
define_lineless g.no_define = g.no_define
define_lineless (g.define_end a ds b d s) = g.define_end (lineless_place a) (definitions_lineless ds) (lineless_place b) (lineless_place d) (option_map lineless_place s)
define_lineless (g.define_braces a b ds d s) = g.define_braces (lineless_place a) (lineless_place b) (definitions_lineless ds) (lineless_place d) (option_map lineless_place s)

abbrev pub main_lineless : g.Main → g.Main
main_lineless (g.begin a ss) = g.begin (lineless_place a) (p_sequence_lineless ss)
main_lineless (g.block a ss b s) = g.block (lineless_place a) (c_sequence_lineless ss) (lineless_place b) (option_map lineless_place s)
main_lineless (g.processes x xs) = g.processes (process_lineless x) (map process_lineless xs)

abbrev pub around_lineless : g.Around → g.Around
around_lineless (g.to_end a b) = g.to_end (lineless_place a) (lineless_place b)
around_lineless (g.in_braces a b) = g.in_braces (lineless_place a) (lineless_place b)

abbrev pub text_lineless : g.Text → g.Text
text_lineless x = record {
  head = head_lineless x.head;
  name = lineless_name x.name;
  around = around_lineless x.around;
  variables = section_lineless x.variables;
  define = define_lineless x.define;
  macros = map macro_lineless x.macros;
  procedures = map procedure_lineless x.procedures;
  main = main_lineless x.main;
}
