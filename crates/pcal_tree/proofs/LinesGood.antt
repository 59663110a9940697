-- Whether an algorithm may be spelled rests on kinds and columns, and not on lines.
use Rattle.std.proofs.Common.{◌≡◌, Bool, true, false, not, IsTrue, List, [], ◌∷◌, ◌++◌, Option, Some, None, map, refl, sym, subst, ◌∙◌, ap}
use Rattle.std.specs.Option.{option_map}
use Rattle.std.proofs.lemmas.List.{append_assoc}
use Rattle.tla_token.specs.declared.place.Place.{Place}
use Rattle.tla_tree.specs.Lexical.{Token}
use Rattle.tla_tree.specs.Spelling.{Phrase}
use Rattle.tla_tree.specs.Spelling as spelled
use Rattle.tla_tree.specs.FirstStop.{looks, Begins, Look}
use Rattle.tla_tree.specs.laws.Columns.{lineless_place, lineless}
use Rattle.tla_tree.proofs.ColumnsGood.{Same, good, good_all}
use Rattle.tla_tree.proofs.Columns.{no_looks, bare, looks_of_bare, looked_ahead, begun_looks}
use Rattle.std.specs.List.{AllByRecursion}
use Rattle.pcal_tree.specs.GrammarParts as part
use Rattle.pcal_tree.specs.GrammarP as psyntax
use Rattle.pcal_tree.specs.GrammarC as csyntax
use Rattle.pcal_tree.specs.Grammar as g
use Rattle.pcal_tree.specs.OpenForms.{opens}
use Rattle.pcal_tree.specs.OffencesSyntax.{algorithms}
use Rattle.pcal_tree.specs.laws.Lines.{initial_lineless, variables_lineless, section_lineless, parameters_lineless, procedure_parameters_lineless, definitions_lineless, binds_lineless, arguments_lineless, assignments_lineless, simple_lineless, p_statement_lineless, p_else_lineless, p_branches_lineless, p_sequence_lineless, c_statement_lineless, c_labelled_lineless, c_else_lineless, c_branches_lineless, c_sequence_lineless, body_lineless, macro_lineless, procedure_lineless, identity_lineless, process_lineless, define_lineless, main_lineless, around_lineless, text_lineless}
use Rattle.pcal_tree.proofs.LinesPut.{put_text}

left_side_same : (l : Phrase) → part.is_left_side (lineless l) ≡ part.is_left_side l
left_side_same (spelled.apply a p xs q) = left_side_same a
left_side_same (spelled.select a p f) = left_side_same a
left_side_same a = refl

good_initial : (b : Bool) (x : part.Initial) → Same (part.GoodInitial b (initial_lineless x)) (part.GoodInitial b x)
good_initial b part.unset = refl
good_initial b (part.equals p e) = good 0 e
good_initial b (part.among p e) = λ z. IsTrue b × good 0 e z

good_variables : (b : Bool) (x : part.Variables) → Same (part.GoodVariables b (variables_lineless x)) (part.GoodVariables b x)
good_variables b (part.last_variable x i s) = good_initial b i
good_variables b (part.variable x i s vs) = λ z. good_initial b i z × good_variables b vs z

good_section : (b : Bool) (x : part.Section) → Same (part.GoodSection b (section_lineless x)) (part.GoodSection b x)
good_section b part.no_section = refl
good_section b (part.section p s vs) = good_variables b vs

good_parameters : (x : part.Parameters) → Same (part.GoodParameters (parameters_lineless x)) (part.GoodParameters x)
good_parameters (part.last_parameter x i) = good_initial false i
good_parameters (part.parameter x i p xs) = λ z. good_initial false i z × good_parameters xs z

good_procedure_parameters : (x : part.ProcedureParameters) → Same (part.GoodProcedureParameters (procedure_parameters_lineless x)) (part.GoodProcedureParameters x)
good_procedure_parameters (part.no_parameters p q) = refl
good_procedure_parameters (part.some_parameters p xs q) = good_parameters xs

good_definitions : (x : part.Definitions) → Same (part.GoodDefinitions (definitions_lineless x)) (part.GoodDefinitions x)
good_definitions (part.last_definition h p e) = good 0 e
good_definitions (part.more_definitions h p e ds) = λ z. good 0 e z × good_definitions ds z

good_binds : (x : part.Binds) → Same (part.GoodBinds (binds_lineless x)) (part.GoodBinds x)
good_binds (part.last_bind x b p e s) = good 0 e
good_binds (part.bind x b p e s bs) = λ z. good 0 e z × good_binds bs z

good_arguments : (x : part.Arguments) → Same (part.GoodArguments (arguments_lineless x)) (part.GoodArguments x)
good_arguments (part.no_arguments p q) = refl
good_arguments (part.some_arguments p xs q) = good_all 0 xs

good_assignments : (x : part.Assignments) → Same (part.GoodAssignments (assignments_lineless x)) (part.GoodAssignments x)
good_assignments (part.last_assignment l p e) = λ z. IsTrue (left_side_same l z) × good 0 l z × good 0 e z
good_assignments (part.assignment l p e q ms) = λ z. IsTrue (left_side_same l z) × good 0 l z × good 0 e z × good_assignments ms z

good_simple : (x : part.Simple) → Same (part.GoodSimple (simple_lineless x)) (part.GoodSimple x)
good_simple (part.assign ms) = good_assignments ms
good_simple (part.await p e) = good 0 e
good_simple (part.when p e) = good 0 e
good_simple (part.print p e) = good 0 e
good_simple (part.assert p e) = good 0 e
good_simple (part.skip p) = refl
good_simple (part.goto p x) = refl
good_simple (part.call p x xs) = good_arguments xs
good_simple (part.return p) = refl
good_simple (part.macro x xs) = good_arguments xs

mutual
  good_p_statement : (x : psyntax.Statement) → Same (psyntax.GoodStatement (p_statement_lineless x)) (psyntax.GoodStatement x)
  good_p_statement (psyntax.simple s) = good_simple s
  good_p_statement (psyntax.branch p e q a b r s) = λ z. good 0 e z × good_p_sequence a z × good_p_else b z
  good_p_statement (psyntax.either p a bs r s) = λ z. good_p_sequence a z × good_p_branches bs z
  good_p_statement (psyntax.with p bs q a r s) = λ z. good_binds bs z × good_p_sequence a z
  good_p_statement (psyntax.while p e q a r s) = λ z. good 0 e z × good_p_sequence a z

  good_p_else : (x : psyntax.Else) → Same (psyntax.GoodElse (p_else_lineless x)) (psyntax.GoodElse x)
  good_p_else psyntax.no_else = refl
  good_p_else (psyntax.else_then p a) = good_p_sequence a
  good_p_else (psyntax.else_if p e q a b) = λ z. good 0 e z × good_p_sequence a z × good_p_else b z

  good_p_branches : (x : psyntax.Branches) → Same (psyntax.GoodBranches (p_branches_lineless x)) (psyntax.GoodBranches x)
  good_p_branches (psyntax.last_branch p a) = good_p_sequence a
  good_p_branches (psyntax.more_branches p a bs) = λ z. good_p_sequence a z × good_p_branches bs z

  good_p_sequence : (x : psyntax.Sequence) → Same (psyntax.GoodSequence (p_sequence_lineless x)) (psyntax.GoodSequence x)
  good_p_sequence (psyntax.last_statement ls st p) = good_p_statement st
  good_p_sequence (psyntax.more_statements ls st p ss) = λ z. good_p_statement st z × good_p_sequence ss z

mutual
  ends_same : (x : csyntax.Statement) → csyntax.ends_in_block (c_statement_lineless x) ≡ csyntax.ends_in_block x
  ends_same (csyntax.simple s) = refl
  ends_same (csyntax.branch p q e r a csyntax.no_else) = labelled_ends_same a
  ends_same (csyntax.branch p q e r a (csyntax.else_then s t b)) = labelled_ends_same b
  ends_same (csyntax.either p a bs) = branches_ends_same bs
  ends_same (csyntax.with p q bs r a) = labelled_ends_same a
  ends_same (csyntax.while p q e r a) = labelled_ends_same a
  ends_same (csyntax.compound p ss q) = refl

  labelled_ends_same : (x : csyntax.Labelled) → csyntax.labelled_ends_in_block (c_labelled_lineless x) ≡ csyntax.labelled_ends_in_block x
  labelled_ends_same (csyntax.labelled ls st) = ends_same st

  branches_ends_same : (x : csyntax.Branches) → csyntax.branches_end_in_block (c_branches_lineless x) ≡ csyntax.branches_end_in_block x
  branches_ends_same (csyntax.last_branch s p a) = labelled_ends_same a
  branches_ends_same (csyntax.more_branches s p a bs) = branches_ends_same bs

mutual
  else_same : (x : csyntax.Statement) → csyntax.takes_else (c_statement_lineless x) ≡ csyntax.takes_else x
  else_same (csyntax.simple s) = refl
  else_same (csyntax.branch p q e r a csyntax.no_else) = refl
  else_same (csyntax.branch p q e r a (csyntax.else_then s t b)) = labelled_else_same b
  else_same (csyntax.either p a bs) = branches_else_same bs
  else_same (csyntax.with p q bs r a) = labelled_else_same a
  else_same (csyntax.while p q e r a) = labelled_else_same a
  else_same (csyntax.compound p ss q) = refl

  labelled_else_same : (x : csyntax.Labelled) → csyntax.labelled_takes_else (c_labelled_lineless x) ≡ csyntax.labelled_takes_else x
  labelled_else_same (csyntax.labelled ls st) = else_same st

  branches_else_same : (x : csyntax.Branches) → csyntax.branches_take_else (c_branches_lineless x) ≡ csyntax.branches_take_else x
  branches_else_same (csyntax.last_branch s p a) = labelled_else_same a
  branches_else_same (csyntax.more_branches s p a bs) = branches_else_same bs

mutual
  or_same : (x : csyntax.Statement) → csyntax.takes_or (c_statement_lineless x) ≡ csyntax.takes_or x
  or_same (csyntax.simple s) = refl
  or_same (csyntax.branch p q e r a csyntax.no_else) = labelled_or_same a
  or_same (csyntax.branch p q e r a (csyntax.else_then s t b)) = labelled_or_same b
  or_same (csyntax.either p a bs) = refl
  or_same (csyntax.with p q bs r a) = labelled_or_same a
  or_same (csyntax.while p q e r a) = labelled_or_same a
  or_same (csyntax.compound p ss q) = refl

  labelled_or_same : (x : csyntax.Labelled) → csyntax.labelled_takes_or (c_labelled_lineless x) ≡ csyntax.labelled_takes_or x
  labelled_or_same (csyntax.labelled ls st) = or_same st

divided_same : (s : Option Place) (a : csyntax.Labelled) → Same (csyntax.Divided (option_map lineless_place s) (c_labelled_lineless a)) (csyntax.Divided s a)
divided_same None a = λ z. IsTrue (labelled_ends_same a z)
divided_same (Some p) a = refl

mutual
  good_c_statement : (x : csyntax.Statement) → Same (csyntax.GoodStatement (c_statement_lineless x)) (csyntax.GoodStatement x)
  good_c_statement (csyntax.simple s) = good_simple s
  good_c_statement (csyntax.branch p q e r a b) = λ z. good 0 e z × good_c_labelled a z × good_c_else a b z
  good_c_statement (csyntax.either p a bs) = λ z. good_c_labelled a z × IsTrue (not (labelled_or_same a z)) × good_c_branches bs z
  good_c_statement (csyntax.with p q bs r a) = λ z. good_binds bs z × good_c_labelled a z
  good_c_statement (csyntax.while p q e r a) = λ z. good 0 e z × good_c_labelled a z
  good_c_statement (csyntax.compound p ss q) = good_c_sequence ss

  good_c_labelled : (x : csyntax.Labelled) → Same (csyntax.GoodLabelled (c_labelled_lineless x)) (csyntax.GoodLabelled x)
  good_c_labelled (csyntax.labelled ls st) = good_c_statement st

  good_c_else : (a : csyntax.Labelled) (x : csyntax.Else) → Same (csyntax.GoodElse (c_labelled_lineless a) (c_else_lineless x)) (csyntax.GoodElse a x)
  good_c_else a csyntax.no_else = refl
  good_c_else a (csyntax.else_then s p b) = λ z. IsTrue (not (labelled_else_same a z)) × good_c_labelled b z

  good_c_branches : (x : csyntax.Branches) → Same (csyntax.GoodBranches (c_branches_lineless x)) (csyntax.GoodBranches x)
  good_c_branches (csyntax.last_branch s p a) = good_c_labelled a
  good_c_branches (csyntax.more_branches s p a bs) = λ z. good_c_labelled a z × IsTrue (not (labelled_or_same a z)) × good_c_branches bs z

  good_c_sequence : (x : csyntax.Sequence) → Same (csyntax.GoodSequence (c_sequence_lineless x)) (csyntax.GoodSequence x)
  good_c_sequence (csyntax.last_statement a s) = good_c_labelled a
  good_c_sequence (csyntax.more_statements a s ss) = λ z. good_c_labelled a z × divided_same s a z × good_c_sequence ss z

good_body : (s : g.Syntax) (x : g.Body) → Same (g.GoodBody s (body_lineless x)) (g.GoodBody s x)
good_body g.p_syntax (g.begin_end a ss b d s) = good_p_sequence ss
good_body g.p_syntax (g.braces a ss b s) = refl
good_body g.c_syntax (g.begin_end a ss b d s) = refl
good_body g.c_syntax (g.braces a ss b s) = good_c_sequence ss

good_macro : (s : g.Syntax) (x : g.Macro) → Same (g.GoodMacro s (macro_lineless x)) (g.GoodMacro s x)
good_macro s x = good_body s x.body

good_procedure : (s : g.Syntax) (x : g.Procedure) → Same (g.GoodProcedure s (procedure_lineless x)) (g.GoodProcedure s x)
good_procedure s x = λ z. good_procedure_parameters x.parameters z × good_section false x.variables z × good_body s x.body z

good_identity : (s : g.Syntax) (x : g.Identity) → Same (g.GoodIdentity s (identity_lineless x)) (g.GoodIdentity s x)
good_identity g.p_syntax (g.bare x b a e) = good 0 e
good_identity g.p_syntax (g.bracketed q x b a e r) = refl
good_identity g.c_syntax (g.bare x b a e) = refl
good_identity g.c_syntax (g.bracketed q x b a e r) = good 0 e

good_process : (s : g.Syntax) (x : g.Process) → Same (g.GoodProcess s (process_lineless x)) (g.GoodProcess s x)
good_process s x = λ z. good_identity s x.identity z × good_section true x.variables z × good_body s x.body z

good_define : (s : g.Syntax) (x : g.Define) → Same (g.GoodDefine s (define_lineless x)) (g.GoodDefine s x)
good_define g.p_syntax g.no_define = refl
good_define g.c_syntax g.no_define = refl
good_define g.p_syntax (g.define_end a ds b d s) = good_definitions ds
good_define g.c_syntax (g.define_end a ds b d s) = refl
good_define g.p_syntax (g.define_braces a b ds d s) = refl
good_define g.c_syntax (g.define_braces a b ds d s) = good_definitions ds

every_good : {A : Type 0} (bare : A → A) (Q : A → Type 0) → ((x : A) → Same (Q (bare x)) (Q x)) → (xs : List A) → Same (AllByRecursion Q (map bare xs)) (AllByRecursion Q xs)
every_good bare Q f [] = refl
every_good bare Q f (x ∷ xs) = λ z. f x z × every_good bare Q f xs z

good_main : (s : g.Syntax) (x : g.Main) → Same (g.GoodMain s (main_lineless x)) (g.GoodMain s x)
good_main g.p_syntax (g.begin a ss) = good_p_sequence ss
good_main g.c_syntax (g.begin a ss) = refl
good_main g.p_syntax (g.block a ss b s) = refl
good_main g.c_syntax (g.block a ss b s) = good_c_sequence ss
good_main g.p_syntax (g.processes x xs) = λ z. good_process g.p_syntax x z × every_good process_lineless (g.GoodProcess g.p_syntax) (good_process g.p_syntax) xs z
good_main g.c_syntax (g.processes x xs) = λ z. good_process g.c_syntax x z × every_good process_lineless (g.GoodProcess g.c_syntax) (good_process g.c_syntax) xs z

good_around : (s : g.Syntax) (x : g.Around) → Same (g.GoodAround s (around_lineless x)) (g.GoodAround s x)
good_around g.p_syntax (g.to_end a b) = refl
good_around g.p_syntax (g.in_braces a b) = refl
good_around g.c_syntax (g.to_end a b) = refl
good_around g.c_syntax (g.in_braces a b) = refl

good_text : (s : g.Syntax) (x : g.Text) → Same (g.Good s (text_lineless x)) (g.Good s x)
good_text s x =
    λ z.
    good_around s x.around z
    × good_section true x.variables z
    × good_define s x.define z
    × every_good macro_lineless (g.GoodMacro s) (good_macro s) x.macros z
    × every_good procedure_lineless (g.GoodProcedure s) (good_procedure s) x.procedures z
    × good_main s x.main z

good_lines : (s : g.Syntax) (x y : g.Text) → text_lineless x ≡ text_lineless y → g.Good s x → g.Good s y
good_lines s x y e h =
    let bare : g.Good s (text_lineless x) = subst (λ (X : Type 0). X) (sym (good_text s x)) h in
    let moved : g.Good s (text_lineless y) = subst (λ (c : g.Text). g.Good s c) e bare in
    subst (λ (X : Type 0). X) (good_text s y) moved

-- ---- the laws

pub spelled_again : (s : g.Syntax) (ts us : List Token) → looks ts ≡ looks us → (x : g.Text) → g.Good s x → ts ≡ g.spell x []
    → (y : g.Text) × g.Good s y × (us ≡ g.spell y []) × (text_lineless y ≡ text_lineless x)
spelled_again s ts us h x k e =
    let v = put_text x [] us (sym h ∙ ap looks e) in
    let none = no_looks v.rest v.looks_same in
    (v.again, good_lines s x v.again (sym v.same) k, sym v.tokens ∙ ap (λ (vs : List Token). g.spell v.again vs) none, v.same)

pub begins : (s : g.Syntax) (ts more : List Token) (x : g.Text) → g.Good s x → g.spell x [] ≡ ts ++ more → Begins (algorithms s) (map Some (looks ts))
begins s ts more x k e =
    let split = ap (λ (us : List Token). map Some (looks us)) e ∙ looked_ahead ts more in (
      map Some (looks more) ++ None ∷ [],
      opens x,
      (x, k, ap (λ (ls : List (Option Look)). ls ++ None ∷ []) split ∙ append_assoc (map Some (looks ts)) (map Some (looks more)) (None ∷ []), refl),
    )

pub begun : (s : g.Syntax) (ts : List Token) → Begins (algorithms s) (map Some (looks ts)) → (x : g.Text) × (more : List Token) × g.Good s x × (g.spell x [] ≡ ts ++ more)
begun s ts (more, ns, (x, k, e, c)) =
    let ks = begun_looks (looks (g.spell x [])) (looks ts) (None ∷ []) more (λ y vs n. cc) e in
    let v = spelled_again s (g.spell x []) (ts ++ map bare ks.0) (ks.1 ∙ sym (looks_of_bare ts ks.0)) x k refl in
    (v.0, map bare ks.0, v.1, sym v.2)
