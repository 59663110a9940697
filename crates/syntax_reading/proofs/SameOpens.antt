-- The forms that are open at the tokens of an algorithm rest on no line.
use Rattle.std.proofs.Common.{◌≡◌, ℕ, ◌+◌, List, [], ◌∷◌, ◌++◌, Option, Some, None, map, refl, sym, ap, ◌∙◌}
use Rattle.std.specs.List.{flat_map}
use Rattle.std.specs.Option.{option_map}
use Rattle.tla_token.specs.declared.place.Place.{Place}
use Rattle.tla_tree.specs.Lexical.{Token}
use Rattle.tla_tree.specs.Lexical as tk
use Rattle.tla_tree.specs.Spelling.{Phrase}
use Rattle.tla_tree.specs.Spelling as spelled
use Rattle.tla_tree.specs.FirstStop.{Open}
use Rattle.tla_tree.specs.laws.Columns.{column_of, lineless_place, lineless}
use Rattle.tla_tree.proofs.CountsMoved.{moved_counts, same_all}
use Rattle.pcal_tree.specs.GrammarParts as part
use Rattle.pcal_tree.specs.GrammarP as psyntax
use Rattle.pcal_tree.specs.GrammarC as csyntax
use Rattle.pcal_tree.specs.Grammar as g
use Rattle.pcal_tree.specs.OpenForms.{here, plain, within, initial_opens, variables_open, section_opens, parameters_open, procedure_parameters_open, definitions_open, left_opens, assignments_open, arguments_open, simple_opens, binds_open, after_binds, p_statement, p_else, p_branches, p_sequence, c_statement, c_labelled, c_else, c_branches, c_sequence, body_opens, macro_opens, procedure_opens, identity_opens, process_opens, define_opens, main_opens, around_opens, opens}
use Rattle.pcal_tree.specs.laws.Lines.{separator_lineless, initial_lineless, variables_lineless, section_lineless, names_lineless, macro_parameters_lineless, parameters_lineless, procedure_parameters_lineless, heading_lineless, definitions_lineless, labels_lineless, binds_lineless, arguments_lineless, assignments_lineless, simple_lineless, p_statement_lineless, p_else_lineless, p_branches_lineless, p_sequence_lineless, c_statement_lineless, c_labelled_lineless, c_else_lineless, c_branches_lineless, c_sequence_lineless, body_lineless, macro_lineless, procedure_lineless, fair_lineless, identity_lineless, process_lineless, head_lineless, define_lineless, main_lineless, around_lineless, text_lineless}

-- ---- tokens outside expressions
same_semicolons : (d : ℕ) (s : Option Place) → plain d (part.maybe_semicolon (option_map lineless_place s)) ≡ plain d (part.maybe_semicolon s)
same_semicolons d None = refl
same_semicolons d (Some p) = refl

same_separators : (d : ℕ) (s : Option part.Separator) → plain d (part.maybe_separator (option_map separator_lineless s)) ≡ plain d (part.maybe_separator s)
same_separators d None = refl
same_separators d (Some (part.by_semicolon p)) = refl
same_separators d (Some (part.by_comma p)) = refl

abbrev each_at : ℕ → List Token → List Open
each_at d ts = flat_map (λ (t : Token). here d) ts

same_names : (d : ℕ) (xs : part.Names) (ts us : List Token) → each_at d ts ≡ each_at d us → each_at d (part.names (names_lineless xs) ts) ≡ each_at d (part.names xs us)
same_names d (part.last_name x) ts us e = rw e refl
same_names d (part.more_names x p xs) ts us e = rw (same_names d xs ts us e) refl

same_heading : (d : ℕ) (h : part.Heading) → plain d (part.heading (heading_lineless h)) ≡ plain d (part.heading h)
same_heading d (part.plain x) = refl
same_heading d (part.applied x p xs q) = rw (same_names d xs (part.mark (lineless_place q) tk.close_bracket []) (part.mark q tk.close_bracket []) refl) refl

same_macro_parameters : (d : ℕ) (x : part.MacroParameters) → plain d (part.macro_parameters (macro_parameters_lineless x)) ≡ plain d (part.macro_parameters x)
same_macro_parameters d (part.no_names p q) = refl
same_macro_parameters d (part.some_names p xs q) = rw (same_names d xs (part.mark (lineless_place q) tk.close_bracket []) (part.mark q tk.close_bracket []) refl) refl

same_labels : (d : ℕ) (ls : part.Labels) → plain d (part.labels (labels_lineless ls)) ≡ plain d (part.labels ls)
same_labels d part.no_labels = refl
same_labels d (part.label x (part.colon p) ls) = rw (same_labels d ls) refl
same_labels d (part.label x (part.colon_plus p q) ls) = rw (same_labels d ls) refl
same_labels d (part.label x (part.colon_minus p q) ls) = rw (same_labels d ls) refl

-- ---- declarations and definitions
same_initial : (x : part.Initial) → initial_opens (initial_lineless x) ≡ initial_opens x
same_initial part.unset = refl
same_initial (part.equals p e) = rw (moved_counts column_of 0 e []) refl
same_initial (part.among p e) = rw (moved_counts column_of 0 e []) refl

same_variables : (x : part.Variables) → variables_open (variables_lineless x) ≡ variables_open x
same_variables (part.last_variable x i s) = rw (same_initial i, same_separators 0 s) refl
same_variables (part.variable x i s vs) = rw (same_initial i, same_variables vs) refl

same_section : (x : part.Section) → section_opens (section_lineless x) ≡ section_opens x
same_section part.no_section = refl
same_section (part.section p b vs) = rw (same_variables vs) refl

same_parameters : (x : part.Parameters) → parameters_open (parameters_lineless x) ≡ parameters_open x
same_parameters (part.last_parameter x i) = rw (same_initial i) refl
same_parameters (part.parameter x i p xs) = rw (same_initial i, same_parameters xs) refl

same_procedure_parameters : (x : part.ProcedureParameters) → procedure_parameters_open (procedure_parameters_lineless x) ≡ procedure_parameters_open x
same_procedure_parameters (part.no_parameters p q) = refl
same_procedure_parameters (part.some_parameters p xs q) = rw (same_parameters xs) refl

same_definitions : (x : part.Definitions) → definitions_open (definitions_lineless x) ≡ definitions_open x
same_definitions (part.last_definition h p e) = rw (same_heading 0 h, moved_counts column_of 0 e []) refl
same_definitions (part.more_definitions h p e ds) = rw (same_heading 0 h, moved_counts column_of 0 e [], same_definitions ds) refl

-- ---- simple statements
same_left : (d : ℕ) (l : Phrase) → left_opens d (lineless l) ≡ left_opens d l
same_left d (spelled.apply a p xs q) = rw (same_left d a, same_all column_of 1 xs (1 ∷ [])) refl
same_left d (spelled.select a p f) = rw (same_left d a) refl
same_left d a = ap (within d) (moved_counts column_of 0 a [])

same_assignments : (d : ℕ) (x : part.Assignments) → assignments_open d (assignments_lineless x) ≡ assignments_open d x
same_assignments d (part.last_assignment l p e) = rw (same_left d l, moved_counts column_of 0 e []) refl
same_assignments d (part.assignment l p e q ms) = rw (same_left d l, moved_counts column_of 0 e [], same_assignments d ms) refl

same_arguments : (d : ℕ) (x : part.Arguments) → arguments_open d (arguments_lineless x) ≡ arguments_open d x
same_arguments d (part.no_arguments p q) = refl
same_arguments d (part.some_arguments p xs q) = rw (same_all column_of 0 xs []) refl

same_simple : (d : ℕ) (x : part.Simple) → simple_opens d (simple_lineless x) ≡ simple_opens d x
same_simple d (part.assign ms) = same_assignments d ms
same_simple d (part.await p e) = rw (moved_counts column_of 0 e []) refl
same_simple d (part.when p e) = rw (moved_counts column_of 0 e []) refl
same_simple d (part.print p e) = rw (moved_counts column_of 0 e []) refl
same_simple d (part.assert p e) = rw (moved_counts column_of 0 e []) refl
same_simple d (part.skip p) = refl
same_simple d (part.goto p x) = refl
same_simple d (part.call p x xs) = rw (same_arguments d xs) refl
same_simple d (part.return p) = refl
same_simple d (part.macro x xs) = rw (same_arguments d xs) refl

same_binds : (d : ℕ) (x : part.Binds) → binds_open d (binds_lineless x) ≡ binds_open d x
same_binds d (part.last_bind x b p e s) = rw (moved_counts column_of 0 e [], same_separators (d + 1) s) refl
same_binds d (part.bind x b p e s bs) = rw (moved_counts column_of 0 e [], same_binds (d + 1) bs) refl

same_after : (d : ℕ) (x : part.Binds) → after_binds d (binds_lineless x) ≡ after_binds d x
same_after d (part.last_bind x b p e s) = refl
same_after d (part.bind x b p e s bs) = same_after (d + 1) bs

-- ---- statements
mutual
  same_p_statement : (d : ℕ) (x : psyntax.Statement) → p_statement d (p_statement_lineless x) ≡ p_statement d x
  same_p_statement d (psyntax.simple s) = same_simple d s
  same_p_statement d (psyntax.branch p e q a b r s) = rw (moved_counts column_of 0 e [], same_p_sequence (d + 1) a, same_p_else (d + 1) b) refl
  same_p_statement d (psyntax.either p a bs r s) = rw (same_p_sequence (d + 1) a, same_p_branches (d + 1) bs) refl
  same_p_statement d (psyntax.with p bs q a r s) = rw (same_after d bs, same_binds d bs, same_p_sequence (after_binds d bs) a) refl
  same_p_statement d (psyntax.while p e q a r s) = rw (moved_counts column_of 0 e [], same_p_sequence (d + 1) a) refl

  same_p_else : (d : ℕ) (x : psyntax.Else) → p_else d (p_else_lineless x) ≡ p_else d x
  same_p_else d psyntax.no_else = refl
  same_p_else d (psyntax.else_then p a) = rw (same_p_sequence d a) refl
  same_p_else d (psyntax.else_if p e q a b) = rw (moved_counts column_of 0 e [], same_p_sequence (d + 1) a, same_p_else (d + 1) b) refl

  same_p_branches : (d : ℕ) (x : psyntax.Branches) → p_branches d (p_branches_lineless x) ≡ p_branches d x
  same_p_branches d (psyntax.last_branch p a) = rw (same_p_sequence d a) refl
  same_p_branches d (psyntax.more_branches p a bs) = rw (same_p_sequence d a, same_p_branches d bs) refl

  same_p_sequence : (d : ℕ) (x : psyntax.Sequence) → p_sequence d (p_sequence_lineless x) ≡ p_sequence d x
  same_p_sequence d (psyntax.last_statement ls st s) = rw (same_labels d ls, same_p_statement d st, same_semicolons d s) refl
  same_p_sequence d (psyntax.more_statements ls st p ss) = rw (same_labels d ls, same_p_statement d st, same_p_sequence d ss) refl

mutual
  same_c_statement : (d : ℕ) (x : csyntax.Statement) → c_statement d (c_statement_lineless x) ≡ c_statement d x
  same_c_statement d (csyntax.simple s) = same_simple d s
  same_c_statement d (csyntax.branch p q e r a b) = rw (moved_counts column_of 0 e [], same_c_labelled (d + 1) a, same_c_else (d + 1) b) refl
  same_c_statement d (csyntax.either p a bs) = rw (same_c_labelled (d + 1) a, same_c_branches (d + 1) bs) refl
  same_c_statement d (csyntax.with p q bs r a) = rw (same_after d bs, same_binds d bs, same_c_labelled (after_binds d bs) a) refl
  same_c_statement d (csyntax.while p q e r a) = rw (moved_counts column_of 0 e [], same_c_labelled (d + 1) a) refl
  same_c_statement d (csyntax.compound p ss q) = rw (same_c_sequence (d + 1) ss) refl

  same_c_labelled : (d : ℕ) (x : csyntax.Labelled) → c_labelled d (c_labelled_lineless x) ≡ c_labelled d x
  same_c_labelled d (csyntax.labelled ls st) = rw (same_labels d ls, same_c_statement d st) refl

  same_c_else : (d : ℕ) (x : csyntax.Else) → c_else d (c_else_lineless x) ≡ c_else d x
  same_c_else d csyntax.no_else = refl
  same_c_else d (csyntax.else_then s p a) = rw (same_semicolons d s, same_c_labelled d a) refl

  same_c_branches : (d : ℕ) (x : csyntax.Branches) → c_branches d (c_branches_lineless x) ≡ c_branches d x
  same_c_branches d (csyntax.last_branch s p a) = rw (same_semicolons d s, same_c_labelled d a) refl
  same_c_branches d (csyntax.more_branches s p a bs) = rw (same_semicolons d s, same_c_labelled d a, same_c_branches d bs) refl

  same_c_sequence : (d : ℕ) (x : csyntax.Sequence) → c_sequence d (c_sequence_lineless x) ≡ c_sequence d x
  same_c_sequence d (csyntax.last_statement a s) = rw (same_c_labelled d a, same_semicolons d s) refl
  same_c_sequence d (csyntax.more_statements a s ss) = rw (same_c_labelled d a, same_semicolons d s, same_c_sequence d ss) refl

-- ---- algorithms
same_body : (x : g.Body) → body_opens (body_lineless x) ≡ body_opens x
same_body (g.begin_end a ss b d s) = rw (same_p_sequence 0 ss, same_semicolons 0 s) refl
same_body (g.braces a ss b s) = rw (same_c_sequence 0 ss, same_semicolons 0 s) refl

same_macro : (x : g.Macro) → macro_opens (macro_lineless x) ≡ macro_opens x
same_macro x = rw (same_macro_parameters 0 x.parameters, same_body x.body) refl

same_procedure : (x : g.Procedure) → procedure_opens (procedure_lineless x) ≡ procedure_opens x
same_procedure x = rw (same_procedure_parameters x.parameters, same_section x.variables, same_body x.body) refl

same_identity : (x : g.Identity) → identity_opens (identity_lineless x) ≡ identity_opens x
same_identity (g.bare x b a e) = rw (moved_counts column_of 0 e []) refl
same_identity (g.bracketed q x b a e r) = rw (moved_counts column_of 0 e []) refl

same_fair : (x : g.Fair) → plain 0 (g.fair (fair_lineless x)) ≡ plain 0 (g.fair x)
same_fair g.unfair = refl
same_fair (g.weak a) = refl
same_fair (g.strong a b) = refl

same_process : (x : g.Process) → process_opens (process_lineless x) ≡ process_opens x
same_process x = rw (same_fair x.fair, same_identity x.identity, same_section x.variables, same_body x.body) refl

same_define : (x : g.Define) → define_opens (define_lineless x) ≡ define_opens x
same_define g.no_define = refl
same_define (g.define_end a ds b d s) = rw (same_definitions ds, same_semicolons 0 s) refl
same_define (g.define_braces a b ds d s) = rw (same_definitions ds, same_semicolons 0 s) refl

each_same : {A : Type 0} (bare : A → A) (f : A → List Open) → ((x : A) → f (bare x) ≡ f x) → (xs : List A) → flat_map f (map bare xs) ≡ flat_map f xs
each_same bare f h [] = refl
each_same bare f h (x ∷ xs) = rw (h x, each_same bare f h xs) refl

same_main : (x : g.Main) → main_opens (main_lineless x) ≡ main_opens x
same_main (g.begin a ss) = rw (same_p_sequence 0 ss) refl
same_main (g.block a ss b s) = rw (same_c_sequence 0 ss, same_semicolons 0 s) refl
same_main (g.processes x xs) = rw (same_process x, each_same process_lineless process_opens same_process xs) refl

same_around : (x : g.Around) (ns : List Open) → around_opens (around_lineless x) ns ≡ around_opens x ns
same_around (g.to_end a b) ns = refl
same_around (g.in_braces a b) ns = refl

same_head : (x : g.Head) → plain 0 (g.head (head_lineless x)) ≡ plain 0 (g.head x)
same_head (g.algorithm a) = refl
same_head (g.fair_algorithm a b) = refl

without_lines : (x : g.Text) → opens (text_lineless x) ≡ opens x
without_lines x =
    (let ns = section_opens x.variables ++ define_opens x.define ++ flat_map macro_opens x.macros ++ flat_map procedure_opens x.procedures ++ main_opens x.main in
    rw (same_head x.head, same_section x.variables, same_define x.define, each_same macro_lineless macro_opens same_macro x.macros, each_same procedure_lineless procedure_opens same_procedure x.procedures, same_main x.main)
    (ap (λ (os : List Open). plain 0 (g.head x.head) ++ here 0 ++ os) (same_around x.around ns)))

pub same_opens : (x y : g.Text) → text_lineless x ≡ text_lineless y → opens x ≡ opens y
same_opens x y e = sym (without_lines x) ∙ ap opens e ∙ without_lines y
