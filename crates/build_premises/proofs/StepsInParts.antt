-- In each routine of an algorithm that can be written, several assignments to one variable in a statement are each to a part of it, also once names are written, jumps are
-- assignments, and the variables of the process are at its identifier.
use Rattle.std.proofs.Common.{◌≡◌, reverse, Bool, true, false, ◌||◌, Some, refl, sym, subst}
use Rattle.tla_tree.specs.Tree.{Word, Each}
use Rattle.tla_tree.specs.laws.Writable.{IsIdentifier, IsString}
use Rattle.tla_value.specs.Outside.{Outside}
use Rattle.module_tree.specs.Formulas.{self}
use Rattle.pcal_tree.specs.Algorithm.{Statements, declares, Routine, locals, procedure_routines, routines, Algorithm}
use Rattle.pcal_tree.specs.Expand.{graft_all, Writing, written_out, expanded}
use Rattle.pcal_tree.specs.OffencesLabels.{label_words}
use Rattle.pcal_tree.specs.Processes.{OneOf}
use Rattle.pcal_tree.specs.Program.{Program}
use Rattle.pcal_tree.specs.Run.{unlabelled}
use Rattle.pcal_tree.specs.StepStart.{Begin, begin, at_label}
use Rattle.pcal_tree.specs.Variables.{declared}
use Rattle.pcal_tree.proofs.BodyLabels.{same_labels}
use Rattle.pcal_tree.proofs.RoutineNames.{every_one}
use Rattle.pcal_tree.proofs.TroubleLaws.{label_listed}
use Rattle.action_builder.specs.Jumps.{written_jumps}
use Rattle.action_builder.specs.LabelActions.{no_jump_places, written_initials}
use Rattle.action_builder.specs.OwnVariables.{own_variables, is_own_variable}
use Rattle.action_builder.specs.WrittenNames.{with_names, renames, written_statements}
use Rattle.action_builder.proofs.FitCalls.{IsProcedure, goes_fit, calls_fit, returns_fit}
use Rattle.action_builder.proofs.FitJumps.{identifier_string, pc_name, stack_name}
use Rattle.action_builder.proofs.FitOwned.{owned_all}
use Rattle.action_builder.proofs.FitSettled.{IsLoose, all_settled}
use Rattle.action_builder.proofs.FitStatements.{StatementsFit}
use Rattle.action_builder.proofs.Names.{each_name}
use Rattle.step_forms.specs.Opened.{opened_routine}
use Rattle.step_forms.specs.Steps.{Step, steps}
use Rattle.step_forms.proofs.MacroCalls.{Never, never_expanded, stays, expanded_again}
use Rattle.translation.specs.laws.WritableAlgorithm.{AreWritableStatements, is_procedure, is_variable, IsWritableAlgorithm}
use Rattle.translation.proofs.CalledProcedures.{is_called, exit_string, procedures_fit}
use Rattle.translation.proofs.FromLabels.{from_label, calls_pass}
use Rattle.translation.proofs.NamedBodies.{open_all, named_all}
use Rattle.translation.proofs.RegionActions.{self_name, globals_identifiers}
use Rattle.translation.proofs.RoutinesNamed.{one_each_of, local_names, label_identifiers, variables_named, label_name_string}
use Rattle.translation.proofs.VariableNames.{own_each, stack_each}
use Rattle.translation.proofs.WritableBodies.{all_labels, BeginsWell, IfBegun, begun}
use Rattle.build_premises.specs.Buildable.{InPartsFor}
use Rattle.build_premises.proofs.PlainParts.{all_in_parts}
use Rattle.build_premises.proofs.StepStrings.{IsWritableStep, steps_written}

module _ (o : Outside) (g : Algorithm) (h : IsWritableAlgorithm o g) (u : Routine) (there : OneOf u (routines g)) where
  abbrev P : Program
  P = with_names o g

  abbrev C : Word → Bool
  C x = is_procedure g x

  abbrev V : Word → Bool
  V x = is_variable g u x

  abbrev X : Writing
  X = written_out (reverse g.macros)

  abbrev body : Statements
  body = expanded (reverse g.macros) u.body

  -- ---- names

  variable_identifier : (x : Word) → is_variable g u x ≡ true → IsIdentifier x
  variable_identifier x e = by (declares g.globals x) refl e
    where
      by : (b : Bool) → declares g.globals x ≡ b → (b || declares (locals u) x) ≡ true → IsIdentifier x
      by true q d = each_name IsIdentifier (declared g.globals) (globals_identifiers o g h) x q
      by false q d = each_name IsIdentifier (declared (locals u)) (local_names o g h u there) x d

  own_identifier : (x : Word) → is_own_variable P x ≡ true → IsIdentifier x
  own_identifier x e =
      each_name IsIdentifier (own_variables P)
      (own_each P IsIdentifier pc_name (stack_each P IsIdentifier (procedure_routines g) stack_name) (λ w k s y m. (variables_named o g h w k).named y m)) x e

  -- ---- statements from a label, with an exit

  names_written : (ss : Statements) → AreWritableStatements (is_procedure g) (is_variable g u) ss → StatementsFit IsIdentifier (IsLoose (IsProcedure P)) (graft_all (renames P u) ss)
  names_written ss w =
      named_all P u (λ x. declares g.globals x) (variables_named o g h u there) (is_procedure g) (IsProcedure P) (is_called g) ss
      (open_all (is_procedure g) (is_variable g u) variable_identifier ss w)

  pub in_parts : (here l : Word) (ss : Statements) → IsString here → IsString l → AreWritableStatements (is_procedure g) (is_variable g u) ss → InPartsFor P u here l (graft_all (renames P u) ss)
  in_parts here l ss i s w =
      let I = written_initials P in
      let W = written_jumps P u I no_jump_places in
      let ps = procedures_fit o g h u there in
      let strings : (m : Word) → IsString m → _ = λ m n. label_name_string o g h u m n in
      all_in_parts IsIdentifier _
      (owned_all self (is_own_variable P) self_name own_identifier _
      (all_settled (IsProcedure P) identifier_string W (goes_fit P u I no_jump_places ps strings) (calls_fit P u I no_jump_places ps strings) (returns_fit P u I no_jump_places ps strings)
      IsIdentifier (λ x k. k) here i l s (graft_all (renames P u) ss) (names_written ss w)))

  -- ---- what labels begin, and steps

  pub label_parts : (l : Word) (b : Begin) → at_label u l ≡ Some b → InPartsFor P u l b.exit (written_statements P u b.items)
  label_parts l b e =
      let w : BeginsWell C V X b = subst (IfBegun C V X) e (begun C V X l unlabelled refl u.body u.exit (exit_string g u there) (h.routines u there).body) in
      let n = one_each_of IsIdentifier (label_words u.body) (label_identifiers o g h u there) l (label_listed u l b e) in
      in_parts l b.exit (expanded (reverse g.macros) b.items) (identifier_string l n) w.1 w.0

  again : AreWritableStatements C V (expanded (reverse g.macros) body)
  again = subst (AreWritableStatements C V) (sym (expanded_again (reverse g.macros) u.body)) (h.routines u there).body

  body_labels : Each IsIdentifier (label_words body)
  body_labels = subst (Each IsIdentifier) (sym (same_labels body)) (all_labels C V X body again)

  pub begin_parts : (l : Word) (b : Begin) → begin l unlabelled body u.exit ≡ Some b → InPartsFor P u l b.exit (graft_all (renames P u) b.items)
  begin_parts l b e =
      let w : BeginsWell C V X b = subst (IfBegun C V X) e (begun C V X l unlabelled refl body u.exit (exit_string g u there) again) in
      let free = from_label _ _ _ (calls_pass Never) l unlabelled body u.exit b (never_expanded (reverse g.macros) u.body) e in
      let n = one_each_of IsIdentifier (label_words body) body_labels l (label_listed (opened_routine g u) l b e) in
      in_parts l b.exit b.items (identifier_string l n) w.1 (subst (AreWritableStatements C V) (stays X b.items free) w.0)

  pub step_parts : (s : Step) → OneOf s (steps unlabelled body u.exit) → InPartsFor P u s.label s.begins.exit (graft_all (renames P u) s.begins.items)
  step_parts s k =
      let w = every_one (IsWritableStep C V) s (steps unlabelled body u.exit) (steps_written C V unlabelled body u.exit refl (exit_string g u there) (h.routines u there).body) k in
      in_parts s.label s.begins.exit s.begins.items w.label w.exit w.items
