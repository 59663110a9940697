-- The tokens of a part stand before those that come.
use Rattle.std.proofs.Common.{Option, Some, None}
use Rattle.tla_token.specs.declared.place.Place.{Place}
use Rattle.tla_tree.proofs.SpellAhead.{Ahead, held, put_ahead, then_ahead, ahead, ahead_all}
use Rattle.pcal_tree.specs.GrammarParts.{Separator, by_semicolon, by_comma, Initial, unset, equals, among, Variables, last_variable, variable, Section, no_section, section, Names, last_name, more_names, MacroParameters, no_names, some_names, Parameters, last_parameter, parameter, ProcedureParameters, no_parameters, some_parameters, Heading, plain, applied, Definitions, last_definition, more_definitions, Colon, colon, colon_plus, colon_minus, Labels, no_labels, label, Binds, last_bind, bind, Arguments, no_arguments, some_arguments, Assignments, last_assignment, assignment, Simple}
use Rattle.pcal_tree.specs.GrammarParts as g

pub ahead_semicolon : (o : Option Place) → Ahead (g.maybe_semicolon o)
ahead_semicolon None = held
ahead_semicolon (Some p) = put_ahead held

pub ahead_separator : (s : Separator) → Ahead (g.separator s)
ahead_separator (by_semicolon p) = put_ahead held
ahead_separator (by_comma p) = put_ahead held

pub ahead_maybe : (o : Option Separator) → Ahead (g.maybe_separator o)
ahead_maybe None = held
ahead_maybe (Some s) = ahead_separator s

pub ahead_initial : (i : Initial) → Ahead (g.initial i)
ahead_initial unset = held
ahead_initial (equals p e) = put_ahead (ahead e)
ahead_initial (among p e) = put_ahead (ahead e)

pub ahead_variables : (vs : Variables) → Ahead (g.variables vs)
ahead_variables (last_variable x i s) = put_ahead (then_ahead (ahead_initial i) (ahead_maybe s))
ahead_variables (variable x i s vs) = put_ahead (then_ahead (ahead_initial i) (then_ahead (ahead_separator s) (ahead_variables vs)))

pub ahead_section : (x : Section) → Ahead (g.section_tokens x)
ahead_section no_section = held
ahead_section (section p b vs) = put_ahead (ahead_variables vs)

pub ahead_names : (xs : Names) → Ahead (g.names xs)
ahead_names (last_name x) = put_ahead held
ahead_names (more_names x p xs) = put_ahead (put_ahead (ahead_names xs))

pub ahead_macro : (x : MacroParameters) → Ahead (g.macro_parameters x)
ahead_macro (no_names p q) = put_ahead (put_ahead held)
ahead_macro (some_names p xs q) = put_ahead (then_ahead (ahead_names xs) (put_ahead held))

pub ahead_parameters : (xs : Parameters) → Ahead (g.parameters xs)
ahead_parameters (last_parameter x i) = put_ahead (ahead_initial i)
ahead_parameters (parameter x i p xs) = put_ahead (then_ahead (ahead_initial i) (put_ahead (ahead_parameters xs)))

pub ahead_procedure : (x : ProcedureParameters) → Ahead (g.procedure_parameters x)
ahead_procedure (no_parameters p q) = put_ahead (put_ahead held)
ahead_procedure (some_parameters p xs q) = put_ahead (then_ahead (ahead_parameters xs) (put_ahead held))

pub ahead_heading : (x : Heading) → Ahead (g.heading x)
ahead_heading (plain x) = put_ahead held
ahead_heading (applied x p xs q) = put_ahead (put_ahead (then_ahead (ahead_names xs) (put_ahead held)))

pub ahead_definitions : (ds : Definitions) → Ahead (g.definitions ds)
ahead_definitions (last_definition h p e) = then_ahead (ahead_heading h) (put_ahead (ahead e))
ahead_definitions (more_definitions h p e ds) = then_ahead (ahead_heading h) (put_ahead (then_ahead (ahead e) (ahead_definitions ds)))

pub ahead_colon : (c : Colon) → Ahead (g.colon_tokens c)
ahead_colon (colon p) = put_ahead held
ahead_colon (colon_plus p q) = put_ahead (put_ahead held)
ahead_colon (colon_minus p q) = put_ahead (put_ahead held)

pub ahead_labels : (ls : Labels) → Ahead (g.labels ls)
ahead_labels no_labels = held
ahead_labels (label x c ls) = put_ahead (then_ahead (ahead_colon c) (ahead_labels ls))

pub ahead_binds : (bs : Binds) → Ahead (g.binds bs)
ahead_binds (last_bind x b p e s) = put_ahead (put_ahead (then_ahead (ahead e) (ahead_maybe s)))
ahead_binds (bind x b p e s bs) = put_ahead (put_ahead (then_ahead (ahead e) (then_ahead (ahead_separator s) (ahead_binds bs))))

pub ahead_arguments : (xs : Arguments) → Ahead (g.arguments xs)
ahead_arguments (no_arguments p q) = put_ahead (put_ahead held)
ahead_arguments (some_arguments p xs q) = put_ahead (then_ahead (ahead_all xs) (put_ahead held))

pub ahead_assignments : (ms : Assignments) → Ahead (g.assignments ms)
ahead_assignments (last_assignment l p e) = then_ahead (ahead l) (put_ahead (ahead e))
ahead_assignments (assignment l p e q ms) = then_ahead (ahead l) (put_ahead (then_ahead (ahead e) (put_ahead (ahead_assignments ms))))

pub ahead_simple : (s : Simple) → Ahead (g.simple_tokens s)
ahead_simple (g.assign ms) = ahead_assignments ms
ahead_simple (g.await p e) = put_ahead (ahead e)
ahead_simple (g.when p e) = put_ahead (ahead e)
ahead_simple (g.print p e) = put_ahead (ahead e)
ahead_simple (g.assert p e) = put_ahead (ahead e)
ahead_simple (g.skip p) = put_ahead held
ahead_simple (g.goto p x) = put_ahead (put_ahead held)
ahead_simple (g.call p x xs) = put_ahead (put_ahead (ahead_arguments xs))
ahead_simple (g.return p) = put_ahead held
ahead_simple (g.macro x xs) = put_ahead (ahead_arguments xs)
