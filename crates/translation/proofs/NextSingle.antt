-- In an accepted algorithm nothing that is bound is read in the expression of a single process, so its items capture nothing where the expression stands for self.
use Rattle.std.proofs.Common.{◌≡◌, ℕ, suc, List, [], ◌∷◌, ◌++◌, reverse, Bool, true, false, not, ◌&&◌, cond, bytes_eq, Option, Some, None, inl, inr, refl, sym, ap, ◌∙◌, subst}
use Rattle.std.proofs.lemmas.Slice.Eq.{bytes_eq-Decides}
use Rattle.tla_token.specs.declared.place.Place.{Place}
use Rattle.tla_tree.specs.Tree.{Word, Form, name, Tree, node, no_trees, Each, Every, binders, Graft}
use Rattle.tla_tree.specs.laws.Writable.{IsIdentifier, IsWritable}
use Rattle.tla_value.specs.Definitions.{Valuation}
use Rattle.tla_value.specs.Grafts.{owned, own_part}
use Rattle.tla_value.specs.Outside.{Outside}
use Rattle.tla_value.specs.Stops.{plain}
use Rattle.tla_value.specs.laws.FreeNames.{FreeNames, Any, IsOther}
use Rattle.tla_value.specs.laws.Grafting.{Clear, BindsClear, NotFreeIn}
use Rattle.tla_value.proofs.Graft.{apart_clear}
use Rattle.module_tree.specs.Formulas.{self, named, quoted, equal}
use Rattle.pcal_tree.specs.Algorithm.{Statements, done, then, await, Start, unset, equals, among, Declaration, declares, Macro, Process, Main, alone, processes, Routine, locals, first_process, procedure_routines, main_routines, routines, Algorithm}
use Rattle.pcal_tree.specs.BoundNames.{lists_in_start, lists_in_body}
use Rattle.pcal_tree.specs.Calls.{label_name}
use Rattle.pcal_tree.specs.Expand.{graft_all, expanded}
use Rattle.pcal_tree.specs.OffencesNames.{in_whole, sight_inside}
use Rattle.pcal_tree.specs.OffencesRebind.{Standings, in_scope, may_rebind, standing_inside, naming, any_name, start_rebinds, macro_rebinds}
use Rattle.pcal_tree.specs.Placeless.{no_span}
use Rattle.pcal_tree.specs.Processes.{OneOf}
use Rattle.pcal_tree.specs.Program.{Program, written}
use Rattle.pcal_tree.specs.Programs.{program_in}
use Rattle.pcal_tree.specs.Run.{unlabelled}
use Rattle.pcal_tree.specs.StepStart.{Begin, at_label}
use Rattle.pcal_tree.specs.Takers.{Takers, each_of, single, lone, Taken, taken_main}
use Rattle.pcal_tree.specs.Variables.{declared, pc, vars}
use Rattle.pcal_tree.specs.laws.Expansion.{Throughout}
use Rattle.pcal_tree.proofs.CallsFine.{tree_seen, throughout_both, free_weaker}
use Rattle.pcal_tree.proofs.NothingCaptured.{Has, pub_keeps, Free, BindsFree, written_bare}
use Rattle.pcal_tree.proofs.ProcessesInOrder.{At, at_first, at_later}
use Rattle.pcal_tree.proofs.RoutineNames.{every_one}
use Rattle.pcal_tree.proofs.TroubleLaws.{one_left, one_right}
use Rattle.pcal_tree.proofs.Uncaptured.{throughout_weaker}
use Rattle.action_builder.specs.Jumps.{written_jumps}
use Rattle.action_builder.specs.LabelActions.{no_jump_places, initial_tree, written_initials, at_test, items_from}
use Rattle.action_builder.specs.OwnVariables.{is_own_variable}
use Rattle.action_builder.specs.Settled.{WrittenJumps, settled}
use Rattle.action_builder.specs.SingleProcess.{in_place_of}
use Rattle.action_builder.specs.Written.{old_stack}
use Rattle.action_builder.specs.WrittenNames.{renames, written_statements}
use Rattle.action_builder.specs.laws.Grafts.{ClearItems}
use Rattle.translation.specs.laws.AcceptedAlgorithm.{IsAcceptedInFile}
use Rattle.translation.specs.laws.WritableAlgorithm.{IsWritableMain}
use Rattle.translation.proofs.BoundOf.{AllIn, BindsAll, tree_bound, body_bound}
use Rattle.translation.proofs.BoundSettled.{all_settled, jumps_bind}
use Rattle.translation.proofs.FramesAccepted.{named_free}
use Rattle.translation.proofs.FromLabels.{from_label, bound_pass, NoneAgain, again_pass}
use Rattle.translation.proofs.InitNames.{StartFine, all_fine, identity_used}
use Rattle.translation.proofs.MacrosSound.{macros_bound, in_rest, InScope, seen_in_scope}
use Rattle.translation.proofs.NamesApart.{writable, own_differs, false_among, never}
use Rattle.translation.proofs.NamesGiven.{Bound, bound_all, once, routine_bound}
use Rattle.translation.proofs.NamesOfRules.{not_own, rules_of_names}
use Rattle.translation.proofs.NextClear.{action_clear}
use Rattle.translation.proofs.NextOfRegion.{SingleClearLaw}
use Rattle.translation.proofs.NextScopes.{numbered_of}
use Rattle.translation.proofs.NextTitles.{main_routine}
use Rattle.translation.proofs.PairsApart.{named_one}
use Rattle.translation.proofs.TidySteps.{no_old}

each_two : (A B C : Word → Type 0) → ((x : Word) → A x → B x → C x) → (xs : List Word) → Each A xs → Each B xs → Each C xs
each_two A B C f [] h k = tt
each_two A B C f (x ∷ xs) h k = (f x h.0 k.0, each_two A B C f xs h.1 k.1)

-- an expression as the whole of a body
abbrev whole : Tree → Statements
whole e = then no_span (await e) done

module _ (o : Outside) (a : Algorithm) (h : IsAcceptedInFile o a) (values : Valuation) (t : Tree) (used : in_whole t (sight_inside a o) ≡ []) (w : IsWritable t) where
  abbrev P : Program
  P = program_in plain o a values

  abbrev g : Graft
  g = in_place_of self t

  abbrev N : Word → Type 0
  N = Clear plain g

  abbrev F : Form → Place → Type 0
  F = BindsClear plain g

  abbrev ms : List Macro
  ms = reverse a.macros

  -- ---- what is in the way of no name of the expression

  abbrev Read : Word → Type 0
  Read y = InScope o a (standing_inside a o) y × IsIdentifier y

  reads : FreeNames Read Any t
  reads = named_free (InScope o a (standing_inside a o)) t w (tree_seen t false (sight_inside a o) (InScope o a (standing_inside a o)) (seen_in_scope o a []) used)

  unread_clear : (x : Word) → bytes_eq self x ≡ false → ((y : Word) → Read y → bytes_eq x y ≡ false) → N x
  unread_clear x n other = apart_clear plain g x (record { left = λ at. ap (λ c. cond c (Some t) None) n; unread = λ y at. unread (bytes_eq self y) })
    where
      unread : (c : Bool) → NotFreeIn x (cond c (Some t) None)
      unread true = free_weaker Read (IsOther x) other t reads
      unread false = tt

  old_clear : N old_stack
  old_clear = unread_clear old_stack refl (λ y r. no_old y r.1)

  bound_clear : (x : Word) → Bound o a h values x → in_scope (standing_inside a o) x ≡ false → N x
  bound_clear x b out = unread_clear x (own_differs self x refl (not_own o x b.1)) (λ y r. false_among (bytes_eq x y) (λ q. clash y r.0 ((bytes_eq-Decides x y).0 q)))
    where
      clash : (y : Word) → InScope o a (standing_inside a o) y → x ≡ y → ⊥
      clash y (inl s) q = never (sym (ap (in_scope (standing_inside a o)) q ∙ s) ∙ out)
      clash y (inr s) q = never (sym (ap not b.1) ∙ ap (may_rebind o.extended) q ∙ s)

  -- bound where these names are in scope
  free_clear : (r : Standings) → ((x : Word) → in_scope (standing_inside a o) x ≡ true → in_scope r x ≡ true) → (x : Word) → Bound o a h values x → Free o.extended a.procedures r x → N x
  free_clear r around x b f = bound_clear x b (false_among (in_scope (standing_inside a o) x) (λ q. never (sym (λ i. around x q i && ap not b.1 i) ∙ f)))

  both_clear : (r : Standings) → ((x : Word) → in_scope (standing_inside a o) x ≡ true → in_scope r x ≡ true) → (ss : Statements) → Throughout (BindsAll (Bound o a h values)) (Bound o a h values) ss → Throughout (BindsFree o.extended a.procedures r) (Free o.extended a.procedures r) ss → Throughout F N ss
  both_clear r around ss i j =
      throughout_weaker (λ m at. BindsAll (Bound o a h values) m at × BindsFree o.extended a.procedures r m at) F (λ x. Bound o a h values x × Free o.extended a.procedures r x) N
      (λ m at k. each_two (Bound o a h values) (Free o.extended a.procedures r) N (free_clear r around) (binders m) k.0 k.1) (λ x k. free_clear r around x k.0 k.1) ss
      (throughout_both (BindsAll (Bound o a h values)) (BindsFree o.extended a.procedures r) (Bound o a h values) (Free o.extended a.procedures r) ss i j)

  renames_has : (u : Routine) (x : Word) (at : Place) → Has F N (renames P u) (renames P u x at)
  renames_has u x at = by (declares (locals u) x)
    where
      by : (c : Bool) → Has F N (renames P u) (cond c (Some (node (name (written P u x)) at no_trees)) None)
      by true = (tt, tt)
      by false = tt

  owned_has : (x : Word) (at : Place) → Has F N (owned self (is_own_variable P)) (owned self (is_own_variable P) x at)
  owned_has x at = by (is_own_variable P x)
    where
      by : (c : Bool) → Has F N (owned self (is_own_variable P)) (cond c (Some (own_part self x at)) None)
      by true = (tt, ((tt, tt), ((tt, tt), tt)))
      by false = tt

  -- ---- initial values of procedures

  start_clear : (p : Routine) (s : Start) → start_rebinds o.extended any_name s (naming (declared (locals p)) (standing_inside a o)) ≡ [] → AllIn (Bound o a h values) (lists_in_start s) → Every F (initial_tree P p s)
  start_clear p unset r b = (tt, tt)
  start_clear p (among e) r b = (tt, tt)
  start_clear p (equals e) r b =
      let s = naming (declared (locals p)) (standing_inside a o) in
      (pub_keeps F N (renames P p) (λ m q z k. k) (renames_has p) (whole e)
      (both_clear s (in_rest (declared (locals p)) (standing_inside a o)) (whole e) (tree_bound (Bound o a h values) e b, tt) (written_bare o.extended a.procedures [] (whole e) s (λ j. r j ++ [])))).0

  starts_clear : (p : Routine) → OneOf p (procedure_routines a) → (d : Declaration) → OneOf d p.variables → Every F (initial_tree P p d.start)
  starts_clear p k d m =
      let fine = every_one (StartFine o a p) d (locals p) (all_fine o a h values p (one_left p (procedure_routines a) (main_routines a a.main) k)) (one_right d p.params p.variables m) in
      start_clear p d.start fine.once fine.bound

  -- ---- a routine

  module _ (u : Routine) (k : OneOf u (routines a)) (l : Word) where
    module _ (b : Begin) (e : at_label u l ≡ Some b) where
      all_in : AllIn (Bound o a h values) (lists_in_body b.items)
      all_in = from_label (λ c. AllIn (Bound o a h values) (lists_in_body c)) _ _ (bound_pass (Bound o a h values)) l unlabelled u.body u.exit b (routine_bound o a (Bound o a h values) (bound_all o a h values) u k) e

      again : NoneAgain o.extended a.procedures (macro_rebinds o.extended a.procedures ms) (once o a h values u k).standings b.items
      again =
          from_label (NoneAgain o.extended a.procedures (macro_rebinds o.extended a.procedures ms) (once o a h values u k).standings) _ _ (again_pass o.extended a.procedures (macro_rebinds o.extended a.procedures ms) (once o a h values u k).standings)
          l unlabelled u.body u.exit b ((once o a h values u k).standings, (once o a h values u k).none, (λ y q. q)) e

      expanded_clear : Throughout F N (expanded ms b.items)
      expanded_clear =
          both_clear again.0 (λ x q. again.2 x ((once o a h values u k).scope x ∙ in_rest (declared (locals u)) (standing_inside a o) x q)) (expanded ms b.items)
          (body_bound (Bound o a h values) ms (macros_bound o a h (Bound o a h values) (bound_all o a h values)) b.items all_in) (written_bare o.extended a.procedures ms b.items again.0 again.1)

      abbrev W : WrittenJumps
      W = written_jumps P u (written_initials P) no_jump_places

      settled_clear : Throughout F N (settled W l b.exit (written_statements P u b.items))
      settled_clear =
          all_settled N W (jumps_bind N P u old_clear (λ x p q. starts_clear p (named_one x (procedure_routines a) p q))) l b.exit (written_statements P u b.items)
          (pub_keeps F N (renames P u) (λ m p q z. z) (renames_has u) (expanded ms b.items) expanded_clear)

      test_clear : Every F (at_test P u l)
      test_clear =
          (pub_keeps F N (owned self (is_own_variable P)) (λ m p q z. z) owned_has (whole (equal (named pc) (quoted (label_name P u l)))) ((tt, ((tt, tt), ((tt, tt), tt))), tt)).0

      begun_clear : ClearItems plain g (items_from P u l (Some b))
      begun_clear = (
        test_clear,
        action_clear plain g (vars P) (graft_all (owned self (is_own_variable P)) (settled W l b.exit (written_statements P u b.items)))
            (pub_keeps F N (owned self (is_own_variable P)) (λ m p q z. z) owned_has (settled W l b.exit (written_statements P u b.items)) settled_clear),
      )

    pub label_clear : ClearItems plain g (items_from P u l (at_label u l))
    label_clear = by (at_label u l) refl
      where
        by : (q : Option Begin) → at_label u l ≡ q → ClearItems plain g (items_from P u l q)
        by None e = tt
        by (Some b) e = begun_clear b e

-- ---- a single process

pub one_of_at : (p : Process) (m : ℕ) (ps : List Process) (n : ℕ) → At p m ps n → OneOf p ps
one_of_at _ _ _ _ (at_first p n ps) = inl refl
one_of_at _ _ _ _ (at_later p q m n ps k) = inr (one_of_at p m ps (suc n) k)

its_expression : (b : Bool) (i e : Tree) → cond b (each_of i) (single i) ≡ single e → i ≡ e
its_expression true i e q = cc
its_expression false i e q = ap (λ (k : Takers). elim k [ each_of s ↦ i | single s ↦ s | lone ↦ i ]) q

identity_writable : (ps : List Process) → IsWritableMain (processes ps) → (p : Process) → OneOf p ps → IsWritable p.identity
identity_writable [] h p k = absurd k
identity_writable (q ∷ ps) h p k = every_one (λ (r : Process). IsWritable r.identity) p (q ∷ ps) h k

pub single_clear : SingleClearLaw
single_clear o g h values r k e q l m = by g.main refl k
  where
    by : (n : Main) → g.main ≡ n → OneOf r (taken_main g n) → ClearItems plain (in_place_of self e) (items_from (program_in plain o g values) r.routine l (at_label r.routine l))
    by (alone ss) d (inl z) = absurd (no_single (sym (ap (λ (x : Taken). x.takers) z) ∙ q))
      where
        no_single : lone ≡ single e → ⊥
        no_single z = cc
    by (alone ss) d (inr z) = absurd z
    by (processes ps) d z =
        let n = numbered_of r (first_process g) ps z in
        let p = n.process in
        let there = one_of_at p n.number ps (first_process g) n.at in
        let same : p.identity ≡ e = its_expression p.several p.identity e (sym (ap (λ (x : Taken). x.takers) n.is) ∙ q) in
        subst (λ f. ClearItems plain (in_place_of self f) (items_from (program_in plain o g values) r.routine l (at_label r.routine l))) same
        (label_clear o g h values p.identity (identity_used o g (rules_of_names g o h.accepted.names).0 g.main ps d p there)
        (identity_writable ps (subst IsWritableMain d (writable o g h).main) p there) r.routine (routine_there ps d z) l)
      where
        routine_there : (ps : List Process) → g.main ≡ processes ps → OneOf r (taken_main g (processes ps)) → OneOf r.routine (routines g)
        routine_there ps d z = one_right r.routine (procedure_routines g) (main_routines g g.main) (subst (λ n. OneOf r.routine (main_routines g n)) (sym d) (main_routine o g h values (processes ps) r z))
