-- The forms that are open at each token of an algorithm, as it is spelled: those of expressions, and those of statements ("A PlusCal User's Manual", section 3).
use Rattle.std.specs.Prelude.{ℕ, ◌+◌, List, [], ◌∷◌, ◌++◌, map}
use Rattle.std.specs.List.{flat_map}
use Rattle.tla_tree.specs.Spelling.{Phrase}
use Rattle.tla_tree.specs.Spelling as spelled
use Rattle.tla_tree.specs.Nesting.{counts, counts_all}
use Rattle.tla_tree.specs.FirstStop.{Open}
use Rattle.pcal_tree.specs.GrammarParts.{Tokens, Initial, unset, equals, among, Variables, last_variable, variable, Section, no_section, section, macro_parameters, Parameters, last_parameter, parameter, ProcedureParameters, no_parameters, some_parameters, heading, Definitions, last_definition, more_definitions, labels, Binds, last_bind, bind, Arguments, no_arguments, some_arguments, Assignments, last_assignment, assignment, Simple, assign, await, when, print, assert, skip, goto, call, return, macro, maybe_separator, maybe_semicolon}
use Rattle.pcal_tree.specs.GrammarP as p
use Rattle.pcal_tree.specs.GrammarC as c
use Rattle.pcal_tree.specs.Grammar as g

-- d forms of statements are open at one token outside expressions
abbrev pub here : ℕ → List Open
here d = record { expressions = 0; statements = d } ∷ []

-- at all of these
abbrev pub plain : ℕ → Tokens → List Open
plain d f = flat_map (λ t. here d) (f [])

-- at the tokens of expressions, with these counts
abbrev pub within : ℕ → List ℕ → List Open
within d ns = map (λ n. record { expressions = n; statements = d }) ns

abbrev pub expression_opens : ℕ → Phrase → List Open
expression_opens d e = within d (counts 0 e [])

-- ---- declarations and definitions

abbrev pub initial_opens : Initial → List Open
initial_opens unset = []
initial_opens (equals p e) = here 0 ++ expression_opens 0 e
initial_opens (among p e) = here 0 ++ expression_opens 0 e

abbrev pub variables_open : Variables → List Open
variables_open (last_variable x i s) = here 0 ++ initial_opens i ++ plain 0 (maybe_separator s)
variables_open (variable x i s vs) = here 0 ++ initial_opens i ++ here 0 ++ variables_open vs

abbrev pub section_opens : Section → List Open
section_opens no_section = []
section_opens (section p b vs) = here 0 ++ variables_open vs

abbrev pub parameters_open : Parameters → List Open
parameters_open (last_parameter x i) = here 0 ++ initial_opens i
parameters_open (parameter x i p xs) = here 0 ++ initial_opens i ++ here 0 ++ parameters_open xs

abbrev pub procedure_parameters_open : ProcedureParameters → List Open
procedure_parameters_open (no_parameters p q) = here 0 ++ here 0
procedure_parameters_open (some_parameters p xs q) = here 0 ++ parameters_open xs ++ here 0

abbrev pub definitions_open : Definitions → List Open
definitions_open (last_definition h p e) = plain 0 (heading h) ++ here 0 ++ expression_opens 0 e
definitions_open (more_definitions h p e ds) = plain 0 (heading h) ++ here 0 ++ expression_opens 0 e ++ definitions_open ds

-- ---- simple statements, where d forms of statements are open

-- the subscripts of a left side have brackets; they and its fields are no forms that stay open
abbrev pub left_opens : ℕ → Phrase → List Open
left_opens d (spelled.apply a p xs q) = left_opens d a ++ within d (1 ∷ counts_all 1 xs (1 ∷ []))
left_opens d (spelled.select a p f) = left_opens d a ++ here d ++ here d
left_opens d a = expression_opens d a

abbrev pub assignments_open : ℕ → Assignments → List Open
assignments_open d (last_assignment l p e) = left_opens d l ++ here d ++ expression_opens d e
assignments_open d (assignment l p e q ms) = left_opens d l ++ here d ++ expression_opens d e ++ here d ++ assignments_open d ms

-- the brackets of a call are no form
abbrev pub arguments_open : ℕ → Arguments → List Open
arguments_open d (no_arguments p q) = here d ++ here d
arguments_open d (some_arguments p xs q) = here d ++ within d (counts_all 0 xs []) ++ here d

abbrev pub simple_opens : ℕ → Simple → List Open
simple_opens d (assign ms) = assignments_open d ms
simple_opens d (await p e) = here d ++ expression_opens d e
simple_opens d (when p e) = here d ++ expression_opens d e
simple_opens d (print p e) = here d ++ expression_opens d e
simple_opens d (assert p e) = here d ++ expression_opens d e
simple_opens d (skip p) = here d
simple_opens d (goto p x) = here d ++ here d
simple_opens d (call p x xs) = here d ++ here d ++ arguments_open d xs
simple_opens d (return p) = here d
simple_opens d (macro x xs) = here d ++ arguments_open d xs

-- each bind of a `with` is a form, from its name to the end of the `with`
abbrev pub binds_open : ℕ → Binds → List Open
binds_open d (last_bind x b p e s) = here (d + 1) ++ here (d + 1) ++ expression_opens (d + 1) e ++ plain (d + 1) (maybe_separator s)
binds_open d (bind x b p e s bs) = here (d + 1) ++ here (d + 1) ++ expression_opens (d + 1) e ++ here (d + 1) ++ binds_open (d + 1) bs

abbrev pub after_binds : ℕ → Binds → ℕ
after_binds d (last_bind x b p e s) = d + 1
after_binds d (bind x b p e s bs) = after_binds (d + 1) bs

-- ---- statements of the P-syntax

abbrev mutual
  pub p_statement : ℕ → p.Statement → List Open
  p_statement d (p.simple s) = simple_opens d s
  p_statement d (p.branch p e q a b r s) = here (d + 1) ++ expression_opens (d + 1) e ++ here (d + 1) ++ p_sequence (d + 1) a ++ p_else (d + 1) b ++ here (d + 1) ++ here (d + 1)
  p_statement d (p.either p a bs r s) = here (d + 1) ++ p_sequence (d + 1) a ++ p_branches (d + 1) bs ++ here (d + 1) ++ here (d + 1)
  p_statement d (p.with p bs q a r s) = here d ++ binds_open d bs ++ (let n : ℕ = after_binds d bs in here n ++ p_sequence n a ++ here n ++ here n)
  p_statement d (p.while p e q a r s) = here (d + 1) ++ expression_opens (d + 1) e ++ here (d + 1) ++ p_sequence (d + 1) a ++ here (d + 1) ++ here (d + 1)

  -- an `elsif` is a form inside the `if`
  pub p_else : ℕ → p.Else → List Open
  p_else d p.no_else = []
  p_else d (p.else_then p a) = here d ++ p_sequence d a
  p_else d (p.else_if p e q a b) = here (d + 1) ++ expression_opens (d + 1) e ++ here (d + 1) ++ p_sequence (d + 1) a ++ p_else (d + 1) b

  pub p_branches : ℕ → p.Branches → List Open
  p_branches d (p.last_branch p a) = here d ++ p_sequence d a
  p_branches d (p.more_branches p a bs) = here d ++ p_sequence d a ++ p_branches d bs

  pub p_sequence : ℕ → p.Sequence → List Open
  p_sequence d (p.last_statement ls st s) = plain d (labels ls) ++ p_statement d st ++ plain d (maybe_semicolon s)
  p_sequence d (p.more_statements ls st s ss) = plain d (labels ls) ++ p_statement d st ++ here d ++ p_sequence d ss

-- ---- statements of the C-syntax: the brackets of a head are no form, a compound statement is one

abbrev mutual
  pub c_statement : ℕ → c.Statement → List Open
  c_statement d (c.simple s) = simple_opens d s
  c_statement d (c.branch p q e r a b) = here (d + 1) ++ here (d + 1) ++ expression_opens (d + 1) e ++ here (d + 1) ++ c_labelled (d + 1) a ++ c_else (d + 1) b
  c_statement d (c.either p a bs) = here (d + 1) ++ c_labelled (d + 1) a ++ c_branches (d + 1) bs
  c_statement d (c.with p q bs r a) = here d ++ here d ++ binds_open d bs ++ (let n : ℕ = after_binds d bs in here n ++ c_labelled n a)
  c_statement d (c.while p q e r a) = here (d + 1) ++ here (d + 1) ++ expression_opens (d + 1) e ++ here (d + 1) ++ c_labelled (d + 1) a
  c_statement d (c.compound p ss q) = here (d + 1) ++ c_sequence (d + 1) ss ++ here (d + 1)

  pub c_labelled : ℕ → c.Labelled → List Open
  c_labelled d (c.labelled ls st) = plain d (labels ls) ++ c_statement d st

  pub c_else : ℕ → c.Else → List Open
  c_else d c.no_else = []
  c_else d (c.else_then s p a) = plain d (maybe_semicolon s) ++ here d ++ c_labelled d a

  pub c_branches : ℕ → c.Branches → List Open
  c_branches d (c.last_branch s p a) = plain d (maybe_semicolon s) ++ here d ++ c_labelled d a
  c_branches d (c.more_branches s p a bs) = plain d (maybe_semicolon s) ++ here d ++ c_labelled d a ++ c_branches d bs

  pub c_sequence : ℕ → c.Sequence → List Open
  c_sequence d (c.last_statement a s) = c_labelled d a ++ plain d (maybe_semicolon s)
  c_sequence d (c.more_statements a s ss) = c_labelled d a ++ plain d (maybe_semicolon s) ++ c_sequence d ss

-- ---- algorithms

-- the braces of a body are no compound statement
abbrev pub body_opens : g.Body → List Open
body_opens (g.begin_end a ss b d s) = here 0 ++ p_sequence 0 ss ++ here 0 ++ here 0 ++ plain 0 (maybe_semicolon s)
body_opens (g.braces a ss b s) = here 0 ++ c_sequence 0 ss ++ here 0 ++ plain 0 (maybe_semicolon s)

abbrev pub macro_opens : g.Macro → List Open
macro_opens m = here 0 ++ here 0 ++ plain 0 (macro_parameters m.parameters) ++ body_opens m.body

abbrev pub procedure_opens : g.Procedure → List Open
procedure_opens x = here 0 ++ here 0 ++ procedure_parameters_open x.parameters ++ section_opens x.variables ++ body_opens x.body

abbrev pub identity_opens : g.Identity → List Open
identity_opens (g.bare x b a e) = here 0 ++ here 0 ++ expression_opens 0 e
identity_opens (g.bracketed q x b a e r) = here 0 ++ here 0 ++ here 0 ++ expression_opens 0 e ++ here 0

abbrev pub process_opens : g.Process → List Open
process_opens x = plain 0 (g.fair x.fair) ++ here 0 ++ identity_opens x.identity ++ section_opens x.variables ++ body_opens x.body

abbrev pub define_opens : g.Define → List Open
define_opens g.no_define = []
define_opens (g.define_end a ds b d s) = here 0 ++ definitions_open ds ++ here 0 ++ here 0 ++ plain 0 (maybe_semicolon s)
define_opens (g.define_braces a b ds d s) = here 0 ++ here 0 ++ definitions_open ds ++ here 0 ++ plain 0 (maybe_semicolon s)

abbrev pub main_opens : g.Main → List Open
main_opens (g.begin a ss) = here 0 ++ p_sequence 0 ss
main_opens (g.block a ss b s) = here 0 ++ c_sequence 0 ss ++ here 0 ++ plain 0 (maybe_semicolon s)
main_opens (g.processes x xs) = process_opens x ++ flat_map process_opens xs

abbrev pub around_opens : g.Around → List Open → List Open
around_opens (g.to_end a b) inside = inside ++ here 0 ++ here 0
around_opens (g.in_braces a b) inside = here 0 ++ inside ++ here 0

-- one count for each token
abbrev pub opens : g.Text → List Open
opens x =
    plain 0 (g.head x.head) ++ here 0
    ++ around_opens x.around (section_opens x.variables ++ define_opens x.define ++ flat_map macro_opens x.macros ++ flat_map procedure_opens x.procedures ++ main_opens x.main)
