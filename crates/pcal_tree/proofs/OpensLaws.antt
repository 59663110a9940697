-- Each token of an algorithm has one count of the forms that are open at it.
use Rattle.std.proofs.Common.{◌≡◌, ℕ, ◌+◌, List, [], ◌∷◌, ◌++◌, length, Option, Some, None, codes, refl, arith, length-append}
use Rattle.std.specs.List.{flat_map}
use Rattle.tla_token.specs.declared.place.Place.{Place}
use Rattle.tla_tree.specs.Tree.{Word}
use Rattle.tla_tree.specs.Lexical.{Token}
use Rattle.tla_tree.specs.Lexical as tk
use Rattle.tla_tree.specs.Spelling.{Phrase, Phrases}
use Rattle.tla_tree.specs.Spelling as spelled
use Rattle.tla_tree.specs.Nesting.{counts, counts_all}
use Rattle.tla_tree.specs.FirstStop.{Open}
use Rattle.tla_tree.proofs.CountsLaws.{count_one, count_all}
use Rattle.pcal_tree.specs.GrammarParts as part
use Rattle.pcal_tree.specs.GrammarP as psyntax
use Rattle.pcal_tree.specs.GrammarC as csyntax
use Rattle.pcal_tree.specs.Grammar as g
use Rattle.pcal_tree.specs.OpenForms.{here, plain, within, expression_opens, initial_opens, variables_open, section_opens, parameters_open, procedure_parameters_open, definitions_open, left_opens, assignments_open, arguments_open, simple_opens, binds_open, after_binds, p_statement, p_else, p_branches, p_sequence, c_statement, c_labelled, c_else, c_branches, c_sequence, body_opens, macro_opens, procedure_opens, identity_opens, process_opens, define_opens, main_opens, around_opens, opens}

-- ---- tokens outside expressions, and those of expressions

each_plain : (d : ℕ) (ts : List Token) → length (flat_map (λ (t : Token). here d) ts) ≡ length ts
each_plain d [] = refl
each_plain d (t ∷ ts) = omega (arith, each_plain d ts)

within_count : (d : ℕ) (ns : List ℕ) → length (within d ns) ≡ length ns
within_count d [] = refl
within_count d (n ∷ ns) = omega (arith, within_count d ns)

of_expr : (d : ℕ) (e : Phrase) (ts : List Token) → length (part.expression e ts) ≡ length (expression_opens d e) + length ts
of_expr d e ts = omega (arith, count_one 0 e [] ts, within_count d (counts 0 e []))

of_args : (d : ℕ) (xs : Phrases) (ts : List Token) → length (spelled.spell_all xs ts) ≡ length (within d (counts_all 0 xs [])) + length ts
of_args d xs ts = omega (arith, count_all 0 xs [] ts, within_count d (counts_all 0 xs []))

of_semicolons : (d : ℕ) (s : Option Place) (ts : List Token) → length (part.maybe_semicolon s ts) ≡ length (plain d (part.maybe_semicolon s)) + length ts
of_semicolons d None ts = omega arith
of_semicolons d (Some p) ts = omega arith

of_separator : (s : part.Separator) (ts : List Token) → length (part.separator s ts) ≡ 1 + length ts
of_separator (part.by_semicolon p) ts = omega arith
of_separator (part.by_comma p) ts = omega arith

of_separators : (d : ℕ) (s : Option part.Separator) (ts : List Token) → length (part.maybe_separator s ts) ≡ length (plain d (part.maybe_separator s)) + length ts
of_separators d None ts = omega arith
of_separators d (Some s) ts = omega (arith, each_plain d (part.separator s []), of_separator s [], of_separator s ts)

names_longer : (xs : part.Names) (ts : List Token) → length (part.names xs ts) ≡ length (part.names xs []) + length ts
names_longer (part.last_name x) ts = omega arith
names_longer (part.more_names x p xs) ts = omega (arith, names_longer xs ts)

heading_longer : (h : part.Heading) (ts : List Token) → length (part.heading h ts) ≡ length (part.heading h []) + length ts
heading_longer (part.plain x) ts = omega arith
heading_longer (part.applied x p xs q) ts = omega (arith, names_longer xs (part.mark q tk.close_bracket ts), names_longer xs (part.mark q tk.close_bracket []))

of_headings : (d : ℕ) (h : part.Heading) (ts : List Token) → length (part.heading h ts) ≡ length (plain d (part.heading h)) + length ts
of_headings d h ts = omega (arith, each_plain d (part.heading h []), heading_longer h ts)

of_macro_parameters : (d : ℕ) (m : part.MacroParameters) (ts : List Token) → length (part.macro_parameters m ts) ≡ length (plain d (part.macro_parameters m)) + length ts
of_macro_parameters d (part.no_names p q) ts = omega arith
of_macro_parameters d (part.some_names p xs q) ts = omega (arith, each_plain d (part.macro_parameters (part.some_names p xs q) []), names_longer xs (part.mark q tk.close_bracket ts), names_longer xs (part.mark q tk.close_bracket []))

colon_longer : (k : part.Colon) (ts : List Token) → length (part.colon_tokens k ts) ≡ length (part.colon_tokens k []) + length ts
colon_longer (part.colon p) ts = omega arith
colon_longer (part.colon_plus p q) ts = omega arith
colon_longer (part.colon_minus p q) ts = omega arith

labels_longer : (ls : part.Labels) (ts : List Token) → length (part.labels ls ts) ≡ length (part.labels ls []) + length ts
labels_longer part.no_labels ts = omega arith
labels_longer (part.label x k ls) ts = omega (arith, colon_longer k (part.labels ls ts), colon_longer k (part.labels ls []), labels_longer ls ts)

of_labels : (d : ℕ) (ls : part.Labels) (ts : List Token) → length (part.labels ls ts) ≡ length (plain d (part.labels ls)) + length ts
of_labels d ls ts = omega (arith, each_plain d (part.labels ls []), labels_longer ls ts)

-- ---- left sides

left_side : (d : ℕ) (l : Phrase) (ts : List Token) → length (spelled.spell l ts) ≡ length (left_opens d l) + length ts
left_side d (spelled.apply a p xs q) ts =
    simp length-append (omega (arith, left_side d a (spelled.mark p tk.open_square (spelled.spell_all xs (spelled.mark q tk.close_square ts))), count_all 1 xs (1 ∷ []) (spelled.mark q tk.close_square ts), within_count d (counts_all 1 xs (1 ∷ []))))
left_side d (spelled.select a p f) ts = simp length-append (omega (arith, left_side d a (spelled.mark p tk.dot (spelled.field_token f ts))))
left_side d a ts = of_expr d a ts

of_left : (d : ℕ) (l : Phrase) (ts : List Token) → length (part.expression l ts) ≡ length (left_opens d l) + length ts
of_left d l ts = left_side d l ts

-- ---- declarations, statements, bodies
pub of_initial_opens : (x : part.Initial) (ts : List Token) → length (part.initial x ts) ≡ length (initial_opens x) + length ts
of_initial_opens part.unset ts = omega arith
of_initial_opens (part.equals p e) ts = simp length-append (omega (arith, of_expr 0 e ts))
of_initial_opens (part.among p e) ts = simp length-append (omega (arith, of_expr 0 e ts))

pub of_variables_open : (x : part.Variables) (ts : List Token) → length (part.variables x ts) ≡ length (variables_open x) + length ts
of_variables_open (part.last_variable x i s) ts = simp length-append (omega (arith, of_initial_opens i (part.maybe_separator s ts), of_separators 0 s ts))
of_variables_open (part.variable x i s vs) ts = simp length-append (omega (arith, of_separator s (part.variables vs ts), of_initial_opens i (part.separator s (part.variables vs ts)), of_variables_open vs ts))

pub of_section_opens : (x : part.Section) (ts : List Token) → length (part.section_tokens x ts) ≡ length (section_opens x) + length ts
of_section_opens part.no_section ts = omega arith
of_section_opens (part.section p b vs) ts = simp length-append (omega (arith, of_variables_open vs ts))

pub of_parameters_open : (x : part.Parameters) (ts : List Token) → length (part.parameters x ts) ≡ length (parameters_open x) + length ts
of_parameters_open (part.last_parameter x i) ts = simp length-append (omega (arith, of_initial_opens i ts))
of_parameters_open (part.parameter x i p xs) ts = simp length-append (omega (arith, of_initial_opens i (part.mark p tk.comma (part.parameters xs ts)), of_parameters_open xs ts))

pub of_procedure_parameters_open : (x : part.ProcedureParameters) (ts : List Token) → length (part.procedure_parameters x ts) ≡ length (procedure_parameters_open x) + length ts
of_procedure_parameters_open (part.no_parameters p q) ts = simp length-append (omega arith)
of_procedure_parameters_open (part.some_parameters p xs q) ts = simp length-append (omega (arith, of_parameters_open xs (part.mark q tk.close_bracket ts)))

pub of_definitions_open : (x : part.Definitions) (ts : List Token) → length (part.definitions x ts) ≡ length (definitions_open x) + length ts
of_definitions_open (part.last_definition h p e) ts = simp length-append (omega (arith, of_headings 0 h (part.mark p tk.defines (part.expression e ts)), of_expr 0 e ts))
of_definitions_open (part.more_definitions h p e ds) ts = simp length-append (omega (arith, of_headings 0 h (part.mark p tk.defines (part.expression e (part.definitions ds ts))), of_expr 0 e (part.definitions ds ts), of_definitions_open ds ts))

pub of_assignments_open : (d : ℕ) (x : part.Assignments) (ts : List Token) → length (part.assignments x ts) ≡ length (assignments_open d x) + length ts
of_assignments_open d (part.last_assignment l p e) ts = simp length-append (omega (arith, of_left d l (part.mark p tk.assigns (part.expression e ts)), of_expr d e ts))
of_assignments_open d (part.assignment l p e q ms) ts = simp length-append (omega (arith, of_left d l (part.mark p tk.assigns (part.expression e (part.mark q tk.beside (part.assignments ms ts)))), of_expr d e (part.mark q tk.beside (part.assignments ms ts)), of_assignments_open d ms ts))

pub of_arguments_open : (d : ℕ) (x : part.Arguments) (ts : List Token) → length (part.arguments x ts) ≡ length (arguments_open d x) + length ts
of_arguments_open d (part.no_arguments p q) ts = simp length-append (omega arith)
of_arguments_open d (part.some_arguments p xs q) ts = simp length-append (omega (arith, of_args d xs (part.mark q tk.close_bracket ts)))

pub of_simple_opens : (d : ℕ) (x : part.Simple) (ts : List Token) → length (part.simple_tokens x ts) ≡ length (simple_opens d x) + length ts
of_simple_opens d (part.assign ms) ts = omega (arith, of_assignments_open d ms ts)
of_simple_opens d (part.await p e) ts = simp length-append (omega (arith, of_expr d e ts))
of_simple_opens d (part.when p e) ts = simp length-append (omega (arith, of_expr d e ts))
of_simple_opens d (part.print p e) ts = simp length-append (omega (arith, of_expr d e ts))
of_simple_opens d (part.assert p e) ts = simp length-append (omega (arith, of_expr d e ts))
of_simple_opens d (part.skip p) ts = omega arith
of_simple_opens d (part.goto p x) ts = simp length-append (omega arith)
of_simple_opens d (part.call p x xs) ts = simp length-append (omega (arith, of_arguments_open d xs ts))
of_simple_opens d (part.return p) ts = omega arith
of_simple_opens d (part.macro x xs) ts = simp length-append (omega (arith, of_arguments_open d xs ts))

pub of_binds_open : (d : ℕ) (x : part.Binds) (ts : List Token) → length (part.binds x ts) ≡ length (binds_open d x) + length ts
of_binds_open d (part.last_bind x b p e s) ts = simp length-append (omega (arith, of_expr (d + 1) e (part.maybe_separator s ts), of_separators (d + 1) s ts))
of_binds_open d (part.bind x b p e s bs) ts = simp length-append (omega (arith, of_expr (d + 1) e (part.separator s (part.binds bs ts)), of_separator s (part.binds bs ts), of_binds_open (d + 1) bs ts))

mutual
  of_p_statement : (d : ℕ) (x : psyntax.Statement) (ts : List Token) → length (psyntax.statement x ts) ≡ length (p_statement d x) + length ts
  of_p_statement d (psyntax.simple s) ts = omega (arith, of_simple_opens d s ts)
  of_p_statement d (psyntax.branch p e q a b r s) ts = simp length-append (omega (arith, of_expr (d + 1) e (part.key q (codes "then") (psyntax.sequence a (psyntax.else_tokens b (part.key r (codes "end") (part.key s (codes "if") ts))))), of_p_sequence (d + 1) a (psyntax.else_tokens b (part.key r (codes "end") (part.key s (codes "if") ts))), of_p_else (d + 1) b (part.key r (codes "end") (part.key s (codes "if") ts))))
  of_p_statement d (psyntax.either p a bs r s) ts = simp length-append (omega (arith, of_p_sequence (d + 1) a (psyntax.branches bs (part.key r (codes "end") (part.key s (codes "either") ts))), of_p_branches (d + 1) bs (part.key r (codes "end") (part.key s (codes "either") ts))))
  of_p_statement d (psyntax.with p bs q a r s) ts = simp length-append (omega (arith, of_binds_open d bs (part.key q (codes "do") (psyntax.sequence a (part.key r (codes "end") (part.key s (codes "with") ts)))), of_p_sequence (after_binds d bs) a (part.key r (codes "end") (part.key s (codes "with") ts))))
  of_p_statement d (psyntax.while p e q a r s) ts = simp length-append (omega (arith, of_expr (d + 1) e (part.key q (codes "do") (psyntax.sequence a (part.key r (codes "end") (part.key s (codes "while") ts)))), of_p_sequence (d + 1) a (part.key r (codes "end") (part.key s (codes "while") ts))))

  of_p_else : (d : ℕ) (x : psyntax.Else) (ts : List Token) → length (psyntax.else_tokens x ts) ≡ length (p_else d x) + length ts
  of_p_else d psyntax.no_else ts = omega arith
  of_p_else d (psyntax.else_then p a) ts = simp length-append (omega (arith, of_p_sequence d a ts))
  of_p_else d (psyntax.else_if p e q a b) ts = simp length-append (omega (arith, of_expr (d + 1) e (part.key q (codes "then") (psyntax.sequence a (psyntax.else_tokens b ts))), of_p_sequence (d + 1) a (psyntax.else_tokens b ts), of_p_else (d + 1) b ts))

  of_p_branches : (d : ℕ) (x : psyntax.Branches) (ts : List Token) → length (psyntax.branches x ts) ≡ length (p_branches d x) + length ts
  of_p_branches d (psyntax.last_branch p a) ts = simp length-append (omega (arith, of_p_sequence d a ts))
  of_p_branches d (psyntax.more_branches p a bs) ts = simp length-append (omega (arith, of_p_sequence d a (psyntax.branches bs ts), of_p_branches d bs ts))

  of_p_sequence : (d : ℕ) (x : psyntax.Sequence) (ts : List Token) → length (psyntax.sequence x ts) ≡ length (p_sequence d x) + length ts
  of_p_sequence d (psyntax.last_statement ls st s) ts = simp length-append (omega (arith, of_labels d ls (psyntax.statement st (part.maybe_semicolon s ts)), of_p_statement d st (part.maybe_semicolon s ts), of_semicolons d s ts))
  of_p_sequence d (psyntax.more_statements ls st s ss) ts = simp length-append (omega (arith, of_labels d ls (psyntax.statement st (part.semicolon s (psyntax.sequence ss ts))), of_p_statement d st (part.semicolon s (psyntax.sequence ss ts)), of_p_sequence d ss ts))

mutual
  of_c_statement : (d : ℕ) (x : csyntax.Statement) (ts : List Token) → length (csyntax.statement x ts) ≡ length (c_statement d x) + length ts
  of_c_statement d (csyntax.simple s) ts = omega (arith, of_simple_opens d s ts)
  of_c_statement d (csyntax.branch p q e r a b) ts = simp length-append (omega (arith, of_expr (d + 1) e (part.mark r tk.close_bracket (csyntax.labelled_tokens a (csyntax.else_tokens b ts))), of_c_labelled (d + 1) a (csyntax.else_tokens b ts), of_c_else (d + 1) b ts))
  of_c_statement d (csyntax.either p a bs) ts = simp length-append (omega (arith, of_c_labelled (d + 1) a (csyntax.branches bs ts), of_c_branches (d + 1) bs ts))
  of_c_statement d (csyntax.with p q bs r a) ts = simp length-append (omega (arith, of_binds_open d bs (part.mark r tk.close_bracket (csyntax.labelled_tokens a ts)), of_c_labelled (after_binds d bs) a ts))
  of_c_statement d (csyntax.while p q e r a) ts = simp length-append (omega (arith, of_expr (d + 1) e (part.mark r tk.close_bracket (csyntax.labelled_tokens a ts)), of_c_labelled (d + 1) a ts))
  of_c_statement d (csyntax.compound p ss q) ts = simp length-append (omega (arith, of_c_sequence (d + 1) ss (part.mark q tk.close_brace ts)))

  of_c_labelled : (d : ℕ) (x : csyntax.Labelled) (ts : List Token) → length (csyntax.labelled_tokens x ts) ≡ length (c_labelled d x) + length ts
  of_c_labelled d (csyntax.labelled ls st) ts = simp length-append (omega (arith, of_labels d ls (csyntax.statement st ts), of_c_statement d st ts))

  of_c_else : (d : ℕ) (x : csyntax.Else) (ts : List Token) → length (csyntax.else_tokens x ts) ≡ length (c_else d x) + length ts
  of_c_else d csyntax.no_else ts = omega arith
  of_c_else d (csyntax.else_then s p a) ts = simp length-append (omega (arith, of_semicolons d s (part.key p (codes "else") (csyntax.labelled_tokens a ts)), of_c_labelled d a ts))

  of_c_branches : (d : ℕ) (x : csyntax.Branches) (ts : List Token) → length (csyntax.branches x ts) ≡ length (c_branches d x) + length ts
  of_c_branches d (csyntax.last_branch s p a) ts = simp length-append (omega (arith, of_semicolons d s (part.key p (codes "or") (csyntax.labelled_tokens a ts)), of_c_labelled d a ts))
  of_c_branches d (csyntax.more_branches s p a bs) ts = simp length-append (omega (arith, of_semicolons d s (part.key p (codes "or") (csyntax.labelled_tokens a (csyntax.branches bs ts))), of_c_labelled d a (csyntax.branches bs ts), of_c_branches d bs ts))

  of_c_sequence : (d : ℕ) (x : csyntax.Sequence) (ts : List Token) → length (csyntax.sequence x ts) ≡ length (c_sequence d x) + length ts
  of_c_sequence d (csyntax.last_statement a s) ts = simp length-append (omega (arith, of_c_labelled d a (part.maybe_semicolon s ts), of_semicolons d s ts))
  of_c_sequence d (csyntax.more_statements a s ss) ts = simp length-append (omega (arith, of_c_labelled d a (part.maybe_semicolon s (csyntax.sequence ss ts)), of_semicolons d s (csyntax.sequence ss ts), of_c_sequence d ss ts))

pub of_body_opens : (w : Word) (x : g.Body) (ts : List Token) → length (g.body w x ts) ≡ length (body_opens x) + length ts
of_body_opens w (g.begin_end a ss b d s) ts = simp length-append (omega (arith, of_p_sequence 0 ss (part.key b (codes "end") (part.key d w (part.maybe_semicolon s ts))), of_semicolons 0 s ts))
of_body_opens w (g.braces a ss b s) ts = simp length-append (omega (arith, of_c_sequence 0 ss (part.mark b tk.close_brace (part.maybe_semicolon s ts)), of_semicolons 0 s ts))

pub of_define_opens : (x : g.Define) (ts : List Token) → length (g.define x ts) ≡ length (define_opens x) + length ts
of_define_opens g.no_define ts = omega arith
of_define_opens (g.define_end a ds b d s) ts = simp length-append (omega (arith, of_definitions_open ds (part.key b (codes "end") (part.key d (codes "define") (part.maybe_semicolon s ts))), of_semicolons 0 s ts))
of_define_opens (g.define_braces a b ds d s) ts = simp length-append (omega (arith, of_definitions_open ds (part.mark d tk.close_brace (part.maybe_semicolon s ts)), of_semicolons 0 s ts))

pub of_identity_opens : (x : g.Identity) (ts : List Token) → length (g.identity x ts) ≡ length (identity_opens x) + length ts
of_identity_opens (g.bare x b a e) ts = simp length-append (omega (arith, of_expr 0 e ts))
of_identity_opens (g.bracketed q x b a e r) ts = simp length-append (omega (arith, of_expr 0 e (part.mark r tk.close_bracket ts)))

-- ---- macros, procedures, processes

of_macro : (m : g.Macro) (ts : List Token) → length (g.macro m ts) ≡ length (macro_opens m) + length ts
of_macro m ts = simp length-append (omega (arith, of_macro_parameters 0 m.parameters (g.body (codes "macro") m.body ts), of_body_opens (codes "macro") m.body ts))

of_procedure : (x : g.Procedure) (ts : List Token) → length (g.procedure x ts) ≡ length (procedure_opens x) + length ts
of_procedure x ts =
    simp length-append (omega (arith, of_procedure_parameters_open x.parameters (part.section_tokens x.variables (g.body (codes "procedure") x.body ts)), of_section_opens x.variables (g.body (codes "procedure") x.body ts), of_body_opens (codes "procedure") x.body ts))

of_fair : (d : ℕ) (x : g.Fair) (ts : List Token) → length (g.fair x ts) ≡ length (plain d (g.fair x)) + length ts
of_fair d g.unfair ts = omega arith
of_fair d (g.weak a) ts = omega arith
of_fair d (g.strong a b) ts = omega arith

of_process : (x : g.Process) (ts : List Token) → length (g.process x ts) ≡ length (process_opens x) + length ts
of_process x ts =
    simp length-append (omega (
      arith,
      of_fair 0 x.fair (part.key x.place (codes "process") (g.identity x.identity (part.section_tokens x.variables (g.body (codes "process") x.body ts)))),
      of_identity_opens x.identity (part.section_tokens x.variables (g.body (codes "process") x.body ts)),
      of_section_opens x.variables (g.body (codes "process") x.body ts),
      of_body_opens (codes "process") x.body ts,
    ))

of_each : {A : Type 0} (f : A → List Token → List Token) (o : A → List Open) → ((x : A) (ts : List Token) → length (f x ts) ≡ length (o x) + length ts)
    → (xs : List A) (ts : List Token) → length (g.each f xs ts) ≡ length (flat_map o xs) + length ts
of_each f o h [] ts = omega arith
of_each f o h (x ∷ xs) ts = simp length-append (omega (arith, h x (g.each f xs ts), of_each f o h xs ts))

two_counts : (a b : List Open) (t k n : ℕ) → n ≡ length a + k → k ≡ length b + t → n ≡ length (a ++ b) + t
two_counts a b t k n p q = omega (arith, length-append a b)

pub of_main_opens : (x : g.Main) (ts : List Token) → length (g.main x ts) ≡ length (main_opens x) + length ts
of_main_opens (g.begin a ss) ts = simp length-append (omega (arith, of_p_sequence 0 ss ts))
of_main_opens (g.block a ss b s) ts = simp length-append (omega (arith, of_c_sequence 0 ss (part.mark b tk.close_brace (part.maybe_semicolon s ts)), of_semicolons 0 s ts))
of_main_opens (g.processes x xs) ts = two_counts (process_opens x) (flat_map process_opens xs) (length ts) (length (g.each g.process xs ts)) (length (g.main (g.processes x xs) ts)) (of_process x (g.each g.process xs ts)) (of_each g.process process_opens of_process xs ts)

-- ---- algorithms

of_inside : (x : g.Text) (ts : List Token) → length (part.section_tokens x.variables (g.define x.define (g.each g.macro x.macros (g.each g.procedure x.procedures (g.main x.main ts)))))
    ≡ length (section_opens x.variables ++ define_opens x.define ++ flat_map macro_opens x.macros ++ flat_map procedure_opens x.procedures ++ main_opens x.main) + length ts
of_inside x ts =
    simp length-append (omega (
      arith,
      of_section_opens x.variables (g.define x.define (g.each g.macro x.macros (g.each g.procedure x.procedures (g.main x.main ts)))),
      of_define_opens x.define (g.each g.macro x.macros (g.each g.procedure x.procedures (g.main x.main ts))),
      of_each g.macro macro_opens of_macro x.macros (g.each g.procedure x.procedures (g.main x.main ts)),
      of_each g.procedure procedure_opens of_procedure x.procedures (g.main x.main ts),
      of_main_opens x.main ts,
    ))

of_around : (r : g.Around) (f : List Token → List Token) (os : List Open) → ((ts : List Token) → length (f ts) ≡ length os + length ts) → length (g.around r f []) ≡ length (around_opens r os)
of_around (g.to_end a b) f os h = simp length-append (omega (arith, h (part.key a (codes "end") (part.key b (codes "algorithm") []))))
of_around (g.in_braces a b) f os h = simp length-append (omega (arith, h (part.mark b tk.close_brace [])))

of_head : (h : g.Head) (ts : List Token) → length (g.head h ts) ≡ length (plain 0 (g.head h)) + length ts
of_head (g.algorithm a) ts = omega arith
of_head (g.fair_algorithm a b) ts = omega arith

pub as_many_opens : (x : g.Text) → length (opens x) ≡ length (g.spell x [])
as_many_opens x =
    let inside : List Open = section_opens x.variables ++ define_opens x.define ++ flat_map macro_opens x.macros ++ flat_map procedure_opens x.procedures ++ main_opens x.main in
    let tokens : List Token → List Token = λ us. part.section_tokens x.variables (g.define x.define (g.each g.macro x.macros (g.each g.procedure x.procedures (g.main x.main us)))) in
    let r = of_around x.around tokens inside (of_inside x) in
    let a = of_head x.head (part.name x.name (g.around x.around tokens [])) in
    let b = length-append (plain 0 (g.head x.head) ++ here 0) (around_opens x.around inside) in
    let k = length-append (plain 0 (g.head x.head)) (here 0) in
    omega arith
