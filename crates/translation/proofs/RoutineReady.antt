-- A step of a routine is such that items can be written for it, where names are apart, no rule on labels and definitions is broken.
use Rattle.std.proofs.Common.{◌≡◌, List, [], ◌∷◌, Bool, true, false, nat_eq, cond, bytes_eq, Option, Some, refl, sym, ap, subst, ◌∙◌}
use Rattle.std.proofs.lemmas.Bool.{both_ways}
use Rattle.std.proofs.lemmas.Option.{same_Some}
use Rattle.tla_tree.specs.Tree.{Word, Trees, Graft, grafts}
use Rattle.tla_value.specs.Grafts.{owned}
use Rattle.module_tree.specs.Formulas.{self}
use Rattle.pcal_tree.specs.Algorithm.{nowhere, Name, Span, Routine, locals, Statements, call, return, Algorithm, first_procedure, procedure_routines}
use Rattle.pcal_tree.specs.Calls.{label_name, routine_named}
use Rattle.pcal_tree.specs.Expand.{graft_all}
use Rattle.pcal_tree.specs.OffencesStale.{used_by_call}
use Rattle.pcal_tree.specs.OffencesSteps.{effect_with}
use Rattle.pcal_tree.specs.Paths.{sets_once, nothing}
use Rattle.pcal_tree.specs.Processes.{OneOf}
use Rattle.pcal_tree.specs.Program.{Program}
use Rattle.pcal_tree.specs.Reads.{Reading, readings_of}
use Rattle.pcal_tree.specs.Run.{Partner, no_partner, goto_partner, return_partner}
use Rattle.pcal_tree.specs.Variables.{vars, declared}
use Rattle.action_builder.specs.Assigned.{Names}
use Rattle.action_builder.specs.Jumps.{written_jumps, call_to, call_with}
use Rattle.action_builder.specs.LabelActions.{no_jump_places, written_initials}
use Rattle.action_builder.specs.OwnVariables.{is_own_variable}
use Rattle.action_builder.specs.Prepared.{prepared, none}
use Rattle.action_builder.specs.Settled.{WrittenJumps}
use Rattle.action_builder.specs.WrittenNames.{renames}
use Rattle.action_builder.specs.laws.Ready.{Readable, Apart}
use Rattle.translation.specs.laws.FreshReads.{fresh, AllFresh, MayReturn, asked}
use Rattle.translation.specs.laws.StepNames.{name_of, StepNames, Called, Frames}
use Rattle.translation.specs.laws.StepParts.{Asked, AskedIn, Readied}
use Rattle.translation.specs.laws.WritableAlgorithm.{is_procedure, is_variable}
use Rattle.translation.proofs.BegunSteps.{effects_of}
use Rattle.translation.proofs.CalledProcedures.{is_called}
use Rattle.translation.proofs.JumpsReady.{used_in, used_called, goto_ready, return_ready, call_ready}
use Rattle.translation.proofs.PairsReady.{pair_ready}
use Rattle.translation.proofs.ReadiedSteps.{Became, PartsFit, list_ready}
use Rattle.translation.proofs.StepNames.{assigned_from, assignments_fine, assignments_apart, tree_fine, binds_fine, binds_new}
use Rattle.translation.proofs.NamesFree.{AllOf}
use Rattle.pcal_tree.proofs.StepVariables.{named_one}

all_of_fresh : (ds : List Reading) (A : Names) (ns : List Name) → AllFresh ds A ns → AllOf (λ x. fresh ds A x ≡ true) ns
all_of_fresh ds A [] h = tt
all_of_fresh ds A (n ∷ ns) h = (h.0, all_of_fresh ds A ns h.1)

-- a call of the routine itself assigns its own variables
own_call : (a : Algorithm) (u : Routine) (A : Names) (r : Bool) (p : Name) (ts : Trees) (j : Partner) → r ≡ true → bytes_eq u.name.word p.word ≡ true → Apart A (effect_with (effects_of a r u) (call p ts) j).variables → Apart A (declared (locals u))
own_call a u A true p ts no_partner e q h = subst (λ (b : Bool). Apart A (cond b (sets_once (declared (locals u))) nothing).variables) q h
own_call a u A true p ts (goto_partner l) e q h = subst (λ (b : Bool). Apart A (cond b (sets_once (declared (locals u))) nothing).variables) q h
own_call a u A true p ts (return_partner at) e q h = h
own_call a u A false p ts j e q h = absurd (never e)
  where
    never : false ≡ true → ⊥
    never x = cc

own_return : (a : Algorithm) (u : Routine) (A : Names) (r : Bool) → r ≡ true → Apart A (effects_of a r u return).variables → Apart A (declared (locals u))
own_return a u A true e h = h
own_return a u A false e h = absurd (never e)
  where
    never : false ≡ true → ⊥
    never x = cc

pair_return : (a : Algorithm) (u : Routine) (A : Names) (r : Bool) (p : Name) (ts : Trees) (at : Span) → r ≡ true → Apart A (effect_with (effects_of a r u) (call p ts) (return_partner at)).variables → Apart A (declared (locals u))
pair_return a u A true p ts at e h = h
pair_return a u A false p ts at e h = absurd (never e)
  where
    never : false ≡ true → ⊥
    never x = cc

named_is : (us : List Routine) (x : Word) (q : Routine) → routine_named x us ≡ Some q → bytes_eq q.name.word x ≡ true
named_is [] x q e = cc
named_is (v ∷ us) x q e = by (bytes_eq v.name.word x) refl e (named_is us x q)
  where
    by : (b : Bool) → bytes_eq v.name.word x ≡ b → cond b (Some v) (routine_named x us) ≡ Some q → (routine_named x us ≡ Some q → bytes_eq q.name.word x ≡ true) → bytes_eq q.name.word x ≡ true
    by true c f k = subst (λ (w : Routine). bytes_eq w.name.word x ≡ true) (same_Some v q f) c
    by false c f k = k f

module _ (P : Program) (u : Routine) (N : Word → Type 0) (k : StepNames P u N) (ret : Bool) (frames : (q : Routine) → OneOf q (procedure_routines P.algorithm) → Frames P u N ret) (mine : ret ≡ true → OneOf u (procedure_routines P.algorithm)) where
  abbrev a : Algorithm
  a = P.algorithm

  abbrev ds : List Reading
  ds = readings_of a

  abbrev vs : List Word
  vs = vars P

  abbrev V : Word → Bool
  V = is_variable a u

  abbrev R : Asked
  R = asked ds a.procedures (is_procedure a) V N (effects_of a ret u) ret

  abbrev U : Readable
  U = fresh ds

  abbrev r : Word → Word
  r = name_of P u

  abbrev g : Graft
  g = renames P u

  abbrev h : Graft
  h = owned self (is_own_variable P)

  abbrev W : WrittenJumps
  W = written_jumps P u (written_initials P) no_jump_places

  call_is : (A B : Names) → Became r A B → (at : Span) (p : Name) (ts : Trees) (l : Word) (j : Partner) → R.calls A p ts j → (q : Routine) → routine_named p.word (procedure_routines a) ≡ Some q → Readied U vs B (graft_all h (call_with P u (written_initials P) no_jump_places at (grafts g ts) l j q))
  call_is A B b at p ts l j e q m = by j e.3 e.5
    where
      f : Frames P u N ret
      f = frames q (named_one p.word (procedure_routines a) q m)

      c : Called P u N q
      c = f.called p.word q m

      used : AllOf (λ x. U A x ≡ true) (used_in q)
      used = subst (AllOf (λ x. U A x ≡ true)) (used_called p (first_procedure a) a.procedures q m) (all_of_fresh ds A (used_by_call a.procedures p) e.4)

      is_self : nat_eq u.number q.number ≡ true → ret ≡ true
      is_self t = split ret refl
        where
          split : (x : Bool) → ret ≡ x → ret ≡ true
          split true z = z
          split false z = absurd (both_ways (nat_eq u.number q.number) (f.alone z p.word q m) t)

      same : (j : Partner) → Apart A (effect_with (effects_of a ret u) (call p ts) j).variables → nat_eq u.number q.number ≡ true → Apart A (declared (locals u))
      same j x t = own_call a u A ret p ts j (is_self t) (ap (λ (v : Routine). bytes_eq v.name.word p.word) (c.same t) ∙ named_is (procedure_routines a) p.word q m) x

      by : (j : Partner) → Apart A (effect_with (effects_of a ret u) (call p ts) j).variables → MayReturn ret j → Readied U vs B (graft_all h (call_with P u (written_initials P) no_jump_places at (grafts g ts) l j q))
      by no_partner x y = call_ready P u N k ret f q c A B b e.0 (same no_partner x) used nowhere ts (label_name P u l) (λ d. nowhere) e.1
      by (goto_partner m) x y = call_ready P u N k ret f q c A B b e.0 (same (goto_partner m) x) used nowhere ts (label_name P u m) (λ d. nowhere) e.1
      by (return_partner end) x y = pair_ready P u N k ret f q c A B b e.0 (pair_return a u A ret p ts end y x) used ts e.1

  calls_fit : (A B : Names) → Became r A B → (at : Span) (p : Name) (ts : Trees) (l : Word) (j : Partner) → R.calls A p ts j → Readied U vs B (graft_all h (W.call at p (grafts g ts) l j))
  calls_fit A B b at p ts l j e =
      let q = is_called a p.word e.2 in
      subst (λ (o : Option Routine). Readied U vs B (graft_all h (call_to P u (written_initials P) no_jump_places at (grafts g ts) l j o))) (sym q.1) (call_is A B b at p ts l j e q.0 q.1)

  pub parts_fit : PartsFit R r g h W U vs
  parts_fit = record {
    sources = λ A ms e. assigned_from P u N k ms e.2;
    assigns = λ A B b ms e. (assignments_fine P u N k A B b e.0 ms e.2 e.3, assignments_apart P u N k A B b e.0 ms e.2 e.1);
    reads = λ A B b t e. tree_fine P u N k A B b e.0 t e.1;
    binds = λ A B b bs e. (binds_fine P u N k A B b e.0 bs e.1, binds_new P u N k A bs e.1);
    goes = λ A B b l e. goto_ready P u N k A B b e nowhere (label_name P u l);
    calls = calls_fit;
    returns = λ A B b at e. return_ready P u N k ret (frames u (mine e.1)) A B b e.0 (own_return a u A ret e.1 e.2) nowhere;
  }

  -- the statements of a step, with written names, settled, and with the variables of the process at its identifier
  pub step_ready : (here l : Word) (b : Statements) → AskedIn R none b → Readied U vs none (prepared W self (is_own_variable P) here l (graft_all g b))
  step_ready here l b e = list_ready R r g h W U vs parts_fit none none (λ y m. absurd (never m)) here l b e
    where
      never : false ≡ true → ⊥
      never x = cc
