-- Of a routine's body that can be written, with macro calls written out and each `return` where one may be, names given, steps can be written.
use Rattle.std.proofs.Common.{◌≡◌, ◌++◌, List, ◌∷◌, Bool, true, false, ◌||◌, cond, Some, None, refl}
use Rattle.tla_token.specs.declared.place.Place.{Place}
use Rattle.tla_token.specs.Signs.{is_among}
use Rattle.tla_tree.specs.Tree.{Word, name, node, no_trees}
use Rattle.tla_tree.specs.laws.Writable.{IsIdentifier}
use Rattle.pcal_tree.specs.Algorithm.{Assignments, no_assignments, assignment, Binds, no_binds, one_of, is, Statement, assign, await, print, assert, skip, branch, either, with, while, goto, macro, call, return, Statements, done, then, mark, Branches, no_branches, or, declares, Routine, locals, procedure_routines, main_routines, routines, Algorithm}
use Rattle.pcal_tree.specs.Expand.{graft_assignments, graft_all}
use Rattle.pcal_tree.specs.Processes.{OneOf}
use Rattle.pcal_tree.specs.Program.{Program, written}
use Rattle.pcal_tree.specs.Variables.{declared, pc, stack_for, written_by_all, vars}
use Rattle.action_builder.specs.WrittenNames.{renames}
use Rattle.action_builder.specs.laws.Ready.{LeftSides}
use Rattle.action_builder.specs.laws.Settling.{EachBind}
use Rattle.translation.specs.laws.PlacedStatements.{PlacedOne, Placed, AllPlaced}
use Rattle.translation.specs.laws.WritableAlgorithm.{AreWritableAssignments, AreWritableBinds, IsWritableStatement, AreWritableStatements, AreWritableBranches, is_procedure, is_variable}
use Rattle.translation.proofs.CalledProcedures.{is_called}
use Rattle.translation.proofs.NamedBodies.{among_one}
use Rattle.translation.proofs.PutTrees.{IfLeft, root_left, side_put}
use Rattle.translation.proofs.RoutinesNamed.{among_before}
use Rattle.translation.proofs.TidySteps.{no_old}
use Rattle.translation.proofs.VariableNames.{local_among}
use Rattle.build_premises.specs.Everywhere.{Parts, EverywhereOne, Everywhere, EverywhereSome}
use Rattle.build_premises.specs.Buildable.{HasOne, buildable, Buildable}
use Rattle.build_premises.proofs.PartsLaws.{put_in}

-- ---- before names are given

-- V: the variables that may be assigned; C: the procedures; R: where there is a `return`
abbrev pub loose : (Word → Bool) → (Word → Bool) → Type 0 → Parts
loose C V R = record {
  assigns = AreWritableAssignments V;
  binds = IsIdentifier;
  calls = λ p. C p.word ≡ true;
  returns = R;
  macros = ⊥;
}

module _ (C V : Word → Bool) (R : Type 0) (r : Bool) (allowed : r ≡ true → R) where
  each_identifier : (bs : Binds) → AreWritableBinds bs → EachBind IsIdentifier bs
  each_identifier no_binds h = tt
  each_identifier (one_of x e bs) h = (h.0, each_identifier bs h.2)
  each_identifier (is x e bs) h = (h.0, each_identifier bs h.2)

  mutual
    one_loose : (w l : Bool) (st : Statement) → IsWritableStatement C V st → PlacedOne r w l st → EverywhereOne (loose C V R) st
    one_loose w l (assign ms) h p = h.0
    one_loose w l (await e) h p = tt
    one_loose w l (print e) h p = tt
    one_loose w l (assert e) h p = tt
    one_loose w l skip h p = tt
    one_loose w l (branch e a b) h p = (all_loose w false a h.1 p.0, all_loose w false b h.2 p.1)
    one_loose w l (either no_branches) h p = absurd h
    one_loose w l (either (or b bs)) h p = (all_loose w false b h.0 p.0, some_loose w bs h.1 p.1)
    one_loose w l (with bs b) h p = (each_identifier bs h.0, all_loose true false b h.1 p)
    one_loose w l (while e b) h p = all_loose w false b h.1 p.1
    one_loose w l (goto m) h p = tt
    one_loose w l (macro m ts) h p = absurd h
    one_loose w l (call q ts) h p = h.0
    one_loose w l return h p = allowed p

    pub all_loose : (w l : Bool) (ss : Statements) → AreWritableStatements C V ss → Placed r w l ss → Everywhere (loose C V R) ss
    all_loose w l done h p = tt
    all_loose w l (then at st rest) h p = (one_loose w l st h.0 p.0, all_loose w false rest h.1 p.1)
    all_loose w l (mark m k rest) h p = all_loose w true rest h.1 p.1

    some_loose : (w : Bool) (bs : Branches) → AreWritableBranches C V bs → AllPlaced r w bs → EverywhereSome (loose C V R) bs
    some_loose w no_branches h p = tt
    some_loose w (or b bs) h p = (all_loose w false b h.0 p.0, some_loose w bs h.1 p.1)

-- ---- names given

module _ (P : Program) (u : Routine) (there : OneOf u (routines P.algorithm)) where
  abbrev a : Algorithm
  a = P.algorithm

  abbrev us : List Routine
  us = procedure_routines P.algorithm

  -- a name of the routine is among the variables
  global_among : (x : Word) → declares a.globals x ≡ true → is_among (vars P) x ≡ true
  global_among x e =
      among_before ((declared a.globals ++ (pc ∷ stack_for us)) ++ written_by_all P us) (written_by_all P (main_routines a a.main)) x
      (among_before (declared a.globals ++ (pc ∷ stack_for us)) (written_by_all P us) x (among_before (declared a.globals) (pc ∷ stack_for us) x e))

  names_left : (y : Word) (at : Place) → is_variable a u y ≡ true → IfLeft (is_among (vars P)) (renames P u y at) y
  names_left y at v = by (declares (locals u) y) refl v
    where
      before : (b : Bool) → (b || false) ≡ true → b ≡ true
      before true e = refl
      before false e = e

      by : (b : Bool) → declares (locals u) y ≡ b → (declares a.globals y || b) ≡ true → IfLeft (is_among (vars P)) (cond b (Some (node (name (written P u y)) at no_trees)) None) y
      by true e q = local_among P u y there (among_one (declared (locals u)) y e)
      by false e q = global_among y (before (declares a.globals y) q)

  lefts_named : (ms : Assignments) → AreWritableAssignments (is_variable a u) ms → LeftSides (is_among (vars P)) (graft_assignments (renames P u) ms)
  lefts_named no_assignments h = tt
  lefts_named (assignment l e ms) h =
      (side_put (is_variable a u) (is_among (vars P)) (renames P u) names_left l (root_left (is_variable a u) h.0.1.0 h.0.1.2 l h.0.1.1), lefts_named ms h.2)

  abbrev pub Loose : Parts
  Loose = loose (is_procedure a) (is_variable a u) (HasOne us)

  pub loose_named : (ss : Statements) → Everywhere Loose ss → Buildable P (graft_all (renames P u) ss)
  loose_named ss h = put_in Loose (buildable P) (renames P u) lefts_named no_old (λ p k. is_called a p.word k) (λ k. k) (λ k. k) ss h
