-- An algorithm as it is spelled in other lines is the same algorithm, places aside.
use Rattle.std.proofs.Common.{◌≡◌, Bool, true, false, List, [], ◌∷◌, map, refl, sym, ap, ◌∙◌}
use Rattle.tla_token.specs.declared.place.Place.{Place}
use Rattle.tla_tree.specs.Tree.{Name}
use Rattle.tla_tree.specs.Spelling.{Phrase, tree_of}
use Rattle.tla_tree.specs.laws.Columns.{column_of, lineless_place, lineless}
use Rattle.tla_tree.specs.laws.Placeless.{name_placeless, names_placeless, tree_placeless, trees_placeless}
use Rattle.pcal_tree.specs.declared.mark.Mark.TheVariants as fair
use Rattle.pcal_tree.specs.Algorithm as tree
use Rattle.pcal_tree.specs.GrammarParts as part
use Rattle.pcal_tree.specs.GrammarP as psyntax
use Rattle.pcal_tree.specs.GrammarC as csyntax
use Rattle.pcal_tree.specs.Grammar as g
use Rattle.pcal_tree.specs.Placeless.{no_span, assignments_placeless, binds_placeless, statement_placeless, statements_placeless, branches_placeless, start_placeless, declarations_placeless, definitions_placeless, macros_placeless, procedures_placeless, processes_placeless, main_placeless, placeless}
use Rattle.pcal_tree.specs.laws.Lines.{lineless_name, initial_lineless, variables_lineless, section_lineless, names_lineless, macro_parameters_lineless, parameters_lineless, procedure_parameters_lineless, heading_lineless, definitions_lineless, labels_lineless, binds_lineless, arguments_lineless, assignments_lineless, simple_lineless, p_statement_lineless, p_else_lineless, p_branches_lineless, p_sequence_lineless, c_statement_lineless, c_labelled_lineless, c_else_lineless, c_branches_lineless, c_sequence_lineless, body_lineless, macro_lineless, procedure_lineless, fair_lineless, identity_lineless, process_lineless, head_lineless, define_lineless, main_lineless, text_lineless}
use Rattle.file_answer.proofs.TreesMoved.{same_tree as moved_tree, same_trees as moved_trees}

same_tree : (a : Phrase) → tree_placeless (tree_of (lineless a)) ≡ tree_placeless (tree_of a)
same_tree a = moved_tree column_of a

-- ---- declarations and definitions

same_start : (x : part.Initial) → start_placeless (part.start_of (initial_lineless x)) ≡ start_placeless (part.start_of x)
same_start part.unset = refl
same_start (part.equals p e) = ap tree.equals (same_tree e)
same_start (part.among p e) = ap tree.among (same_tree e)

abbrev declared_bare : Name → tree.Start → tree.Declaration
declared_bare x s = record { name = name_placeless x; start = s }

same_variables : (x : part.Variables) → declarations_placeless (part.declarations (variables_lineless x)) ≡ declarations_placeless (part.declarations x)
same_variables (part.last_variable x i s) = ap (λ (s : tree.Start). declared_bare x s ∷ []) (same_start i)
same_variables (part.variable x i s vs) = (let own = same_start i in let others = same_variables vs in λ i. declared_bare x (own i) ∷ others i)

same_section : (x : part.Section) → declarations_placeless (part.declared (section_lineless x)) ≡ declarations_placeless (part.declared x)
same_section part.no_section = refl
same_section (part.section p b vs) = same_variables vs

same_names : (x : part.Names) → names_placeless (part.names_of (names_lineless x)) ≡ names_placeless (part.names_of x)
same_names (part.last_name x) = refl
same_names (part.more_names x p xs) = ap (λ (ns : List Name). name_placeless x ∷ ns) (same_names xs)

same_macro_names : (x : part.MacroParameters) → names_placeless (part.macro_names (macro_parameters_lineless x)) ≡ names_placeless (part.macro_names x)
same_macro_names (part.no_names p q) = refl
same_macro_names (part.some_names p xs q) = same_names xs

same_parameters : (x : part.Parameters) → declarations_placeless (part.parameters_of (parameters_lineless x)) ≡ declarations_placeless (part.parameters_of x)
same_parameters (part.last_parameter x i) = ap (λ (s : tree.Start). declared_bare x s ∷ []) (same_start i)
same_parameters (part.parameter x i p xs) = (let own = same_start i in let others = same_parameters xs in λ i. declared_bare x (own i) ∷ others i)

same_declarations : (x : part.ProcedureParameters) → declarations_placeless (part.procedure_declarations (procedure_parameters_lineless x)) ≡ declarations_placeless (part.procedure_declarations x)
same_declarations (part.no_parameters p q) = refl
same_declarations (part.some_parameters p xs q) = same_parameters xs

abbrev defined_bare : tree.Definition → List tree.Definition → List tree.Definition
defined_bare d ds = record { name = name_placeless d.name; params = names_placeless d.params; body = tree_placeless d.body } ∷ ds

same_definition : (h : part.Heading) (e : Phrase) (ds es : List tree.Definition) → ds ≡ es
    → defined_bare (part.definition_of (heading_lineless h) (lineless e)) ds ≡ defined_bare (part.definition_of h e) es
same_definition (part.plain x) e ds es d = (let body = same_tree e in λ i. record { name = name_placeless x; params = []; body = body i } ∷ d i)
same_definition (part.applied x p xs q) e ds es d =
    let body = same_tree e in
    let names = same_names xs in
    λ i. record { name = name_placeless x; params = names i; body = body i } ∷ d i

same_definitions : (x : part.Definitions) → definitions_placeless (part.definitions_of (definitions_lineless x)) ≡ definitions_placeless (part.definitions_of x)
same_definitions (part.last_definition h p e) = same_definition h e [] [] refl
same_definitions (part.more_definitions h p e ds) =
    same_definition h e (definitions_placeless (part.definitions_of (definitions_lineless ds))) (definitions_placeless (part.definitions_of ds)) (same_definitions ds)

-- ---- statements

-- statements that are the same, places aside
abbrev Alike : tree.Statements → tree.Statements → Type 0
Alike ss us = statements_placeless ss ≡ statements_placeless us

same_labels : (ls : part.Labels) (ss us : tree.Statements) → Alike ss us → Alike (part.with_labels (labels_lineless ls) ss) (part.with_labels ls us)
same_labels part.no_labels ss us e = e
same_labels (part.label x (part.colon p) ls) ss us e = ap (tree.mark (name_placeless x) fair.Plain) (same_labels ls ss us e)
same_labels (part.label x (part.colon_plus p q) ls) ss us e = ap (tree.mark (name_placeless x) fair.Strong) (same_labels ls ss us e)
same_labels (part.label x (part.colon_minus p q) ls) ss us e = ap (tree.mark (name_placeless x) fair.LeftOut) (same_labels ls ss us e)

same_bound : (b : Bool) (x : Name) (e : Phrase) (bs cs : tree.Binds) → binds_placeless bs ≡ binds_placeless cs
    → binds_placeless (part.bound b (lineless_name x) (lineless e) bs) ≡ binds_placeless (part.bound b x e cs)
same_bound true x e bs cs h = (let set = same_tree e in λ i. tree.one_of (name_placeless x) (set i) (h i))
same_bound false x e bs cs h = (let value = same_tree e in λ i. tree.is (name_placeless x) (value i) (h i))

same_binds : (x : part.Binds) → binds_placeless (part.binds_of (binds_lineless x)) ≡ binds_placeless (part.binds_of x)
same_binds (part.last_bind x b p e s) = same_bound b x e tree.no_binds tree.no_binds refl
same_binds (part.bind x b p e s bs) = same_bound b x e (part.binds_of (binds_lineless bs)) (part.binds_of bs) (same_binds bs)

same_arguments : (x : part.Arguments) → trees_placeless (part.arguments_of (arguments_lineless x)) ≡ trees_placeless (part.arguments_of x)
same_arguments (part.no_arguments p q) = refl
same_arguments (part.some_arguments p xs q) = moved_trees column_of xs

same_assignments : (x : part.Assignments) → assignments_placeless (part.assignments_of (assignments_lineless x)) ≡ assignments_placeless (part.assignments_of x)
same_assignments (part.last_assignment l p e) = (let left = same_tree l in let right = same_tree e in λ i. tree.assignment (left i) (right i) tree.no_assignments)
same_assignments (part.assignment l p e q ms) =
    let left = same_tree l in
    let right = same_tree e in
    let others = same_assignments ms in
    λ i. tree.assignment (left i) (right i) (others i)

same_simple : (x : part.Simple) → statement_placeless (part.simple_tree (simple_lineless x)) ≡ statement_placeless (part.simple_tree x)
same_simple (part.assign ms) = ap tree.assign (same_assignments ms)
same_simple (part.await p e) = ap tree.await (same_tree e)
same_simple (part.when p e) = ap tree.await (same_tree e)
same_simple (part.print p e) = ap tree.print (same_tree e)
same_simple (part.assert p e) = ap tree.assert (same_tree e)
same_simple (part.skip p) = refl
same_simple (part.goto p x) = refl
same_simple (part.call p x xs) = ap (tree.call (name_placeless x)) (same_arguments xs)
same_simple (part.return p) = refl
same_simple (part.macro x xs) = ap (tree.macro x.word) (same_arguments xs)

mutual
  same_p_statement : (x : psyntax.Statement) → statement_placeless (psyntax.statement_tree (p_statement_lineless x)) ≡ statement_placeless (psyntax.statement_tree x)
  same_p_statement (psyntax.simple s) = same_simple s
  same_p_statement (psyntax.branch p e q a b r s) =
      let test = same_tree e in
      let then = same_p_sequence a in
      let other = same_p_else (lineless_place s) s b in
      λ i. tree.branch (test i) (then i) (other i)
  same_p_statement (psyntax.either p a bs r s) = (let first = same_p_sequence a in let others = same_p_branches bs in λ i. tree.either (tree.or (first i) (others i)))
  same_p_statement (psyntax.with p bs q a r s) = (let bound = same_binds bs in let body = same_p_sequence a in λ i. tree.with (bound i) (body i))
  same_p_statement (psyntax.while p e q a r s) = (let test = same_tree e in let body = same_p_sequence a in λ i. tree.while (test i) (body i))

  same_p_else : (p q : Place) (x : psyntax.Else) → Alike (psyntax.else_statements p (p_else_lineless x)) (psyntax.else_statements q x)
  same_p_else p q psyntax.no_else = refl
  same_p_else p q (psyntax.else_then r a) = same_p_sequence a
  same_p_else p q (psyntax.else_if r e s a b) =
      let test = same_tree e in
      let then = same_p_sequence a in
      let other = same_p_else p q b in
      λ i. tree.then no_span (tree.branch (test i) (then i) (other i)) tree.done

  same_p_branches : (x : psyntax.Branches) → branches_placeless (psyntax.branch_trees (p_branches_lineless x)) ≡ branches_placeless (psyntax.branch_trees x)
  same_p_branches (psyntax.last_branch p a) = ap (λ (ss : tree.Statements). tree.or ss tree.no_branches) (same_p_sequence a)
  same_p_branches (psyntax.more_branches p a bs) = (let own = same_p_sequence a in let others = same_p_branches bs in λ i. tree.or (own i) (others i))

  same_p_sequence : (x : psyntax.Sequence) → Alike (psyntax.statements (p_sequence_lineless x)) (psyntax.statements x)
  same_p_sequence (psyntax.last_statement ls st s) =
      same_labels ls _ _ (ap (λ (t : tree.Statement). tree.then no_span t tree.done) (same_p_statement st))
  same_p_sequence (psyntax.more_statements ls st p ss) =
      let own = same_p_statement st in
      let others = same_p_sequence ss in
      same_labels ls _ _ (λ i. tree.then no_span (own i) (others i))

mutual
  same_c_statement : (x : csyntax.Statement) (ss us : tree.Statements) → Alike ss us → Alike (csyntax.flat_statement (c_statement_lineless x) ss) (csyntax.flat_statement x us)
  same_c_statement (csyntax.simple s) ss us h = (let own = same_simple s in λ i. tree.then no_span (own i) (h i))
  same_c_statement (csyntax.branch p q e r a b) ss us h =
      let test = same_tree e in
      let then = same_c_labelled a tree.done tree.done refl in
      let other = same_c_else b in
      λ i. tree.then no_span (tree.branch (test i) (then i) (other i)) (h i)
  same_c_statement (csyntax.either p a bs) ss us h =
      let first = same_c_labelled a tree.done tree.done refl in
      let others = same_c_branches bs in
      λ i. tree.then no_span (tree.either (tree.or (first i) (others i))) (h i)
  same_c_statement (csyntax.with p q bs r a) ss us h =
      let bound = same_binds bs in
      let body = same_c_labelled a tree.done tree.done refl in
      λ i. tree.then no_span (tree.with (bound i) (body i)) (h i)
  same_c_statement (csyntax.while p q e r a) ss us h =
      let test = same_tree e in
      let body = same_c_labelled a tree.done tree.done refl in
      λ i. tree.then no_span (tree.while (test i) (body i)) (h i)
  same_c_statement (csyntax.compound p xs q) ss us h = same_c_sequence xs ss us h

  same_c_labelled : (x : csyntax.Labelled) (ss us : tree.Statements) → Alike ss us → Alike (csyntax.flat (c_labelled_lineless x) ss) (csyntax.flat x us)
  same_c_labelled (csyntax.labelled ls st) ss us h = same_labels ls _ _ (same_c_statement st ss us h)

  same_c_else : (x : csyntax.Else) → Alike (csyntax.else_statements (c_else_lineless x)) (csyntax.else_statements x)
  same_c_else csyntax.no_else = refl
  same_c_else (csyntax.else_then s p a) = same_c_labelled a tree.done tree.done refl

  same_c_branches : (x : csyntax.Branches) → branches_placeless (csyntax.branch_trees (c_branches_lineless x)) ≡ branches_placeless (csyntax.branch_trees x)
  same_c_branches (csyntax.last_branch s p a) = ap (λ (ss : tree.Statements). tree.or ss tree.no_branches) (same_c_labelled a tree.done tree.done refl)
  same_c_branches (csyntax.more_branches s p a bs) = (let own = same_c_labelled a tree.done tree.done refl in let others = same_c_branches bs in λ i. tree.or (own i) (others i))

  same_c_sequence : (x : csyntax.Sequence) (ss us : tree.Statements) → Alike ss us → Alike (csyntax.flat_sequence (c_sequence_lineless x) ss) (csyntax.flat_sequence x us)
  same_c_sequence (csyntax.last_statement a s) ss us h = same_c_labelled a ss us h
  same_c_sequence (csyntax.more_statements a s xs) ss us h = same_c_labelled a _ _ (same_c_sequence xs ss us h)

-- ---- algorithms

same_body : (x : g.Body) → Alike (g.body_tree (body_lineless x)) (g.body_tree x)
same_body (g.begin_end a ss b d s) = same_p_sequence ss
same_body (g.braces a ss b s) = same_c_sequence ss tree.done tree.done refl

same_macros : (xs : List g.Macro) → macros_placeless (map g.macro_tree (map macro_lineless xs)) ≡ macros_placeless (map g.macro_tree xs)
same_macros [] = refl
same_macros (x ∷ xs) =
    let names = same_macro_names x.parameters in
    let body = same_body x.body in
    let others = same_macros xs in
    λ i. record { name = name_placeless x.name; params = names i; body = body i } ∷ others i

same_procedures : (xs : List g.Procedure) → procedures_placeless (map g.procedure_tree (map procedure_lineless xs)) ≡ procedures_placeless (map g.procedure_tree xs)
same_procedures [] = refl
same_procedures (x ∷ xs) =
    let parameters = same_declarations x.parameters in
    let variables = same_section x.variables in
    let body = same_body x.body in
    let others = same_procedures xs in
    λ i. record { name = name_placeless x.name; params = parameters i; variables = variables i; body = body i } ∷ others i

abbrev process_bare : g.Process → tree.Process
process_bare x = record {
  name = name_placeless (g.process_name x.identity);
  fairness = g.fairness_of x.fair;
  several = g.is_several x.identity;
  identity = tree_placeless (tree_of (g.identifiers x.identity));
  variables = declarations_placeless (part.declared x.variables);
  body = statements_placeless (g.body_tree x.body);
}

same_fair : (x : g.Fair) → g.fairness_of (fair_lineless x) ≡ g.fairness_of x
same_fair g.unfair = refl
same_fair (g.weak a) = refl
same_fair (g.strong a b) = refl

same_name : (x : g.Identity) → name_placeless (g.process_name (identity_lineless x)) ≡ name_placeless (g.process_name x)
same_name (g.bare x b a e) = refl
same_name (g.bracketed q x b a e r) = refl

same_several : (x : g.Identity) → g.is_several (identity_lineless x) ≡ g.is_several x
same_several (g.bare x b a e) = refl
same_several (g.bracketed q x b a e r) = refl

same_identity : (x : g.Identity) → tree_placeless (tree_of (g.identifiers (identity_lineless x))) ≡ tree_placeless (tree_of (g.identifiers x))
same_identity (g.bare x b a e) = same_tree e
same_identity (g.bracketed q x b a e r) = same_tree e

same_process : (x : g.Process) → process_bare (process_lineless x) ≡ process_bare x
same_process x =
    let name = same_name x.identity in
    let fairness = same_fair x.fair in
    let several = same_several x.identity in
    let identity = same_identity x.identity in
    let variables = same_section x.variables in
    let body = same_body x.body in
    λ i. record { name = name i; fairness = fairness i; several = several i; identity = identity i; variables = variables i; body = body i }

same_processes : (xs : List g.Process) → processes_placeless (map g.process_tree (map process_lineless xs)) ≡ processes_placeless (map g.process_tree xs)
same_processes [] = refl
same_processes (x ∷ xs) = (let own = same_process x in let others = same_processes xs in λ i. own i ∷ others i)

same_define : (x : g.Define) → definitions_placeless (g.defined (define_lineless x)) ≡ definitions_placeless (g.defined x)
same_define g.no_define = refl
same_define (g.define_end a ds b d s) = same_definitions ds
same_define (g.define_braces a b ds d s) = same_definitions ds

same_main : (x : g.Main) → main_placeless (g.main_tree (main_lineless x)) ≡ main_placeless (g.main_tree x)
same_main (g.begin a ss) = ap tree.alone (same_p_sequence ss)
same_main (g.block a ss b s) = ap tree.alone (same_c_sequence ss tree.done tree.done refl)
same_main (g.processes x xs) = (let own = same_process x in let others = same_processes xs in λ i. tree.processes (own i ∷ others i))

same_head : (x : g.Head) → g.is_fair (head_lineless x) ≡ g.is_fair x
same_head (g.algorithm a) = refl
same_head (g.fair_algorithm a b) = refl

without_lines : (x : g.Text) → placeless (g.algorithm_of (text_lineless x)) ≡ placeless (g.algorithm_of x)
without_lines x =
    let fair = same_head x.head in
    let globals = same_section x.variables in
    let definitions = same_define x.define in
    let macros = same_macros x.macros in
    let procedures = same_procedures x.procedures in
    let main = same_main x.main in
    λ i. record {
      name = name_placeless x.name;
      fair = fair i;
      globals = globals i;
      definitions = definitions i;
      macros = macros i;
      procedures = procedures i;
      main = main i;
    }

pub same_algorithm : (x y : g.Text) → text_lineless x ≡ text_lineless y → placeless (g.algorithm_of x) ≡ placeless (g.algorithm_of y)
same_algorithm x y e = sym (without_lines x) ∙ ap (λ (z : g.Text). placeless (g.algorithm_of z)) e ∙ without_lines y
