-- What ends an algorithm in a file is in none of the parts that both syntaxes spell alike.
use Rattle.std.proofs.Common.{◌≡◌, ℕ, Bool, true, false, List, Option, Some, None, refl, ◌∙◌}
use Rattle.tla_token.specs.declared.place.Place.{Place}
use Rattle.tla_tree.specs.Lexical.{Token}
use Rattle.tla_tree.specs.Lexical as tk
use Rattle.pcal_tree.specs.GrammarParts.{mark, expression, maybe_semicolon, Separator, by_semicolon, by_comma, separator, maybe_separator, Initial, unset, equals, among, initial, Variables, last_variable, variable, variables, Section, no_section, section, section_tokens, Names, last_name, more_names, names, MacroParameters, no_names, some_names, macro_parameters, Parameters, last_parameter, parameter, parameters, ProcedureParameters, no_parameters, some_parameters, procedure_parameters, Heading, plain, applied, heading, Definitions, last_definition, more_definitions, definitions, Colon, colon, colon_plus, colon_minus, colon_tokens, Labels, no_labels, label, labels, Binds, last_bind, bind, bind_sign, binds, Arguments, no_arguments, some_arguments, arguments, Assignments, last_assignment, assignment, assignments, Simple, assign, await, when, print, assert, skip, goto, call, return, macro, simple_tokens}
use Rattle.printed_text.proofs.ExprEnds.{behind_c, Words, sign_level, sign_words, levels, words, all_levels, all_words}

-- ---- braces

pub separator_levels : (a : Separator) (d : ℕ) (ts : List Token) → behind_c d (separator a ts) ≡ behind_c d ts
separator_levels (by_semicolon p) d ts = refl
separator_levels (by_comma p) d ts = refl

pub maybe_separator_levels : (a : Option Separator) (d : ℕ) (ts : List Token) → behind_c d (maybe_separator a ts) ≡ behind_c d ts
maybe_separator_levels None d ts = refl
maybe_separator_levels (Some s) d ts = separator_levels s d ts

pub maybe_semicolon_levels : (a : Option Place) (d : ℕ) (ts : List Token) → behind_c d (maybe_semicolon a ts) ≡ behind_c d ts
maybe_semicolon_levels None d ts = refl
maybe_semicolon_levels (Some p) d ts = refl

pub initial_levels : (a : Initial) (d : ℕ) (ts : List Token) → behind_c d (initial a ts) ≡ behind_c d ts
initial_levels unset d ts = refl
initial_levels (equals p e) d ts = levels e d ts
initial_levels (among p e) d ts = levels e d ts

pub variable_levels : (a : Variables) (d : ℕ) (ts : List Token) → behind_c d (variables a ts) ≡ behind_c d ts
variable_levels (last_variable x i s) d ts = initial_levels i d (maybe_separator s ts) ∙ maybe_separator_levels s d ts
variable_levels (variable x i s vs) d ts = initial_levels i d (separator s (variables vs ts)) ∙ separator_levels s d (variables vs ts) ∙ variable_levels vs d ts

pub name_levels : (a : Names) (d : ℕ) (ts : List Token) → behind_c d (names a ts) ≡ behind_c d ts
name_levels (last_name x) d ts = refl
name_levels (more_names x p xs) d ts = name_levels xs d ts

pub macro_parameter_levels : (a : MacroParameters) (d : ℕ) (ts : List Token) → behind_c d (macro_parameters a ts) ≡ behind_c d ts
macro_parameter_levels (no_names p q) d ts = refl
macro_parameter_levels (some_names p xs q) d ts = name_levels xs d (mark q tk.close_bracket ts)

pub parameter_levels : (a : Parameters) (d : ℕ) (ts : List Token) → behind_c d (parameters a ts) ≡ behind_c d ts
parameter_levels (last_parameter x i) d ts = initial_levels i d ts
parameter_levels (parameter x i p xs) d ts = initial_levels i d (mark p tk.comma (parameters xs ts)) ∙ parameter_levels xs d ts

pub procedure_parameter_levels : (a : ProcedureParameters) (d : ℕ) (ts : List Token) → behind_c d (procedure_parameters a ts) ≡ behind_c d ts
procedure_parameter_levels (no_parameters p q) d ts = refl
procedure_parameter_levels (some_parameters p xs q) d ts = parameter_levels xs d (mark q tk.close_bracket ts)

pub heading_levels : (a : Heading) (d : ℕ) (ts : List Token) → behind_c d (heading a ts) ≡ behind_c d ts
heading_levels (plain x) d ts = refl
heading_levels (applied x p xs q) d ts = name_levels xs d (mark q tk.close_bracket ts)

pub definition_levels : (a : Definitions) (d : ℕ) (ts : List Token) → behind_c d (definitions a ts) ≡ behind_c d ts
definition_levels (last_definition h p e) d ts = heading_levels h d (mark p tk.defines (expression e ts)) ∙ levels e d ts
definition_levels (more_definitions h p e ds) d ts = heading_levels h d (mark p tk.defines (expression e (definitions ds ts))) ∙ levels e d (definitions ds ts) ∙ definition_levels ds d ts

pub colon_levels : (a : Colon) (d : ℕ) (ts : List Token) → behind_c d (colon_tokens a ts) ≡ behind_c d ts
colon_levels (colon p) d ts = refl
colon_levels (colon_plus p q) d ts = refl
colon_levels (colon_minus p q) d ts = refl

pub label_levels : (a : Labels) (d : ℕ) (ts : List Token) → behind_c d (labels a ts) ≡ behind_c d ts
label_levels no_labels d ts = refl
label_levels (label x c ls) d ts = colon_levels c d (labels ls ts) ∙ label_levels ls d ts

pub bind_levels : (a : Binds) (d : ℕ) (ts : List Token) → behind_c d (binds a ts) ≡ behind_c d ts
bind_levels (last_bind x b p e s) d ts = sign_level p (bind_sign b) d (expression e (maybe_separator s ts)) ∙ levels e d (maybe_separator s ts) ∙ maybe_separator_levels s d ts
bind_levels (bind x b p e s bs) d ts = sign_level p (bind_sign b) d (expression e (separator s (binds bs ts))) ∙ levels e d (separator s (binds bs ts)) ∙ separator_levels s d (binds bs ts) ∙ bind_levels bs d ts

pub argument_levels : (a : Arguments) (d : ℕ) (ts : List Token) → behind_c d (arguments a ts) ≡ behind_c d ts
argument_levels (no_arguments p q) d ts = refl
argument_levels (some_arguments p xs q) d ts = all_levels xs d (mark q tk.close_bracket ts)

pub assignment_levels : (a : Assignments) (d : ℕ) (ts : List Token) → behind_c d (assignments a ts) ≡ behind_c d ts
assignment_levels (last_assignment l p e) d ts = levels l d (mark p tk.assigns (expression e ts)) ∙ levels e d ts
assignment_levels (assignment l p e q ms) d ts = levels l d (mark p tk.assigns (expression e (mark q tk.beside (assignments ms ts)))) ∙ levels e d (mark q tk.beside (assignments ms ts)) ∙ assignment_levels ms d ts

pub simple_levels : (a : Simple) (d : ℕ) (ts : List Token) → behind_c d (simple_tokens a ts) ≡ behind_c d ts
simple_levels (assign ms) d ts = assignment_levels ms d ts
simple_levels (await p e) d ts = levels e d ts
simple_levels (when p e) d ts = levels e d ts
simple_levels (print p e) d ts = levels e d ts
simple_levels (assert p e) d ts = levels e d ts
simple_levels (skip p) d ts = refl
simple_levels (goto p x) d ts = refl
simple_levels (call p x xs) d ts = argument_levels xs d ts
simple_levels (return p) d ts = refl
simple_levels (macro x xs) d ts = argument_levels xs d ts

pub section_levels : (a : Section) (d : ℕ) (ts : List Token) → behind_c d (section_tokens a ts) ≡ behind_c d ts
section_levels no_section d ts = refl
section_levels (section p b vs) d ts = variable_levels vs d ts

-- ---- words

pub separator_words : (a : Separator) (k : Bool) (ts : List Token) → Words k (separator a ts) ts
separator_words (by_semicolon p) k ts = (false, refl)
separator_words (by_comma p) k ts = (false, refl)

pub maybe_separator_words : (a : Option Separator) (k : Bool) (ts : List Token) → Words k (maybe_separator a ts) ts
maybe_separator_words None k ts = (k, refl)
maybe_separator_words (Some s) k ts = separator_words s k ts

pub maybe_semicolon_words : (a : Option Place) (k : Bool) (ts : List Token) → Words k (maybe_semicolon a ts) ts
maybe_semicolon_words None k ts = (k, refl)
maybe_semicolon_words (Some p) k ts = (false, refl)

pub initial_words : (a : Initial) (k : Bool) (ts : List Token) → Words k (initial a ts) ts
initial_words unset k ts = (k, refl)
initial_words (equals p e) k ts = words e false ts
initial_words (among p e) k ts = words e false ts

pub variable_words : (a : Variables) (k : Bool) (ts : List Token) → Words k (variables a ts) ts
variable_words (last_variable x i s) k ts = (let first = initial_words i false (maybe_separator s ts) in let second = maybe_separator_words s first.0 ts in (second.0, first.1 ∙ second.1))
variable_words (variable x i s vs) k ts = (let first = initial_words i false (separator s (variables vs ts)) in let second = separator_words s first.0 (variables vs ts) in let third = variable_words vs second.0 ts in (third.0, first.1 ∙ second.1 ∙ third.1))

pub name_words : (a : Names) (k : Bool) (ts : List Token) → Words k (names a ts) ts
name_words (last_name x) k ts = (false, refl)
name_words (more_names x p xs) k ts = name_words xs false ts

pub macro_parameter_words : (a : MacroParameters) (k : Bool) (ts : List Token) → Words k (macro_parameters a ts) ts
macro_parameter_words (no_names p q) k ts = (false, refl)
macro_parameter_words (some_names p xs q) k ts = (let first = name_words xs false (mark q tk.close_bracket ts) in (false, first.1))

pub parameter_words : (a : Parameters) (k : Bool) (ts : List Token) → Words k (parameters a ts) ts
parameter_words (last_parameter x i) k ts = initial_words i false ts
parameter_words (parameter x i p xs) k ts = (let first = initial_words i false (mark p tk.comma (parameters xs ts)) in let second = parameter_words xs false ts in (second.0, first.1 ∙ second.1))

pub procedure_parameter_words : (a : ProcedureParameters) (k : Bool) (ts : List Token) → Words k (procedure_parameters a ts) ts
procedure_parameter_words (no_parameters p q) k ts = (false, refl)
procedure_parameter_words (some_parameters p xs q) k ts = (let first = parameter_words xs false (mark q tk.close_bracket ts) in (false, first.1))

pub heading_words : (a : Heading) (k : Bool) (ts : List Token) → Words k (heading a ts) ts
heading_words (plain x) k ts = (false, refl)
heading_words (applied x p xs q) k ts = (let first = name_words xs false (mark q tk.close_bracket ts) in (false, first.1))

pub definition_words : (a : Definitions) (k : Bool) (ts : List Token) → Words k (definitions a ts) ts
definition_words (last_definition h p e) k ts = (let first = heading_words h k (mark p tk.defines (expression e ts)) in let second = words e false ts in (second.0, first.1 ∙ second.1))
definition_words (more_definitions h p e ds) k ts = (let first = heading_words h k (mark p tk.defines (expression e (definitions ds ts))) in let second = words e false (definitions ds ts) in let third = definition_words ds second.0 ts in (third.0, first.1 ∙ second.1 ∙ third.1))

pub colon_words : (a : Colon) (k : Bool) (ts : List Token) → Words k (colon_tokens a ts) ts
colon_words (colon p) k ts = (false, refl)
colon_words (colon_plus p q) k ts = (false, refl)
colon_words (colon_minus p q) k ts = (false, refl)

pub label_words : (a : Labels) (k : Bool) (ts : List Token) → Words k (labels a ts) ts
label_words no_labels k ts = (k, refl)
label_words (label x c ls) k ts = (let first = colon_words c false (labels ls ts) in let second = label_words ls first.0 ts in (second.0, first.1 ∙ second.1))

pub bind_words : (a : Binds) (k : Bool) (ts : List Token) → Words k (binds a ts) ts
bind_words (last_bind x b p e s) k ts = (let first = words e false (maybe_separator s ts) in let second = maybe_separator_words s first.0 ts in (second.0, sign_words p (bind_sign b) false (expression e (maybe_separator s ts)) ∙ first.1 ∙ second.1))
bind_words (bind x b p e s bs) k ts = (let first = words e false (separator s (binds bs ts)) in let second = separator_words s first.0 (binds bs ts) in let third = bind_words bs second.0 ts in (third.0, sign_words p (bind_sign b) false (expression e (separator s (binds bs ts))) ∙ first.1 ∙ second.1 ∙ third.1))

pub argument_words : (a : Arguments) (k : Bool) (ts : List Token) → Words k (arguments a ts) ts
argument_words (no_arguments p q) k ts = (false, refl)
argument_words (some_arguments p xs q) k ts = (let first = all_words xs false (mark q tk.close_bracket ts) in (false, first.1))

pub assignment_words : (a : Assignments) (k : Bool) (ts : List Token) → Words k (assignments a ts) ts
assignment_words (last_assignment l p e) k ts = (let first = words l k (mark p tk.assigns (expression e ts)) in let second = words e false ts in (second.0, first.1 ∙ second.1))
assignment_words (assignment l p e q ms) k ts = (let first = words l k (mark p tk.assigns (expression e (mark q tk.beside (assignments ms ts)))) in let second = words e false (mark q tk.beside (assignments ms ts)) in let third = assignment_words ms false ts in (third.0, first.1 ∙ second.1 ∙ third.1))

pub simple_words : (a : Simple) (k : Bool) (ts : List Token) → Words k (simple_tokens a ts) ts
simple_words (assign ms) k ts = assignment_words ms k ts
simple_words (await p e) k ts = words e false ts
simple_words (when p e) k ts = words e false ts
simple_words (print p e) k ts = words e false ts
simple_words (assert p e) k ts = words e false ts
simple_words (skip p) k ts = (false, refl)
simple_words (goto p x) k ts = (false, refl)
simple_words (call p x xs) k ts = argument_words xs false ts
simple_words (return p) k ts = (false, refl)
simple_words (macro x xs) k ts = argument_words xs false ts

pub section_words : (a : Section) (k : Bool) (ts : List Token) → Words k (section_tokens a ts) ts
section_words no_section k ts = (k, refl)
section_words (section p true vs) k ts = variable_words vs false ts
section_words (section p false vs) k ts = variable_words vs false ts
