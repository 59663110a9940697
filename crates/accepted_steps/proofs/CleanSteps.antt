-- From each label of an accepted algorithm on, under any limits: the written names that are put in capture nothing, and neither do a process's own variables.
use Rattle.std.proofs.Common.{◌≡◌, List, reverse, Bool, true, false, cond, bytes_eq, Some, None, refl, sym, ap, ◌∙◌}
use Rattle.std.proofs.lemmas.Slice.Eq.{bytes_eq-Decides}
use Rattle.tla_token.specs.declared.place.Place.{Place}
use Rattle.tla_tree.specs.Tree.{Word, name, node, no_trees, binders}
use Rattle.tla_value.specs.Definitions.{Valuation}
use Rattle.tla_value.specs.Grafts.{owned, own_part}
use Rattle.tla_value.specs.Outside.{Outside}
use Rattle.tla_value.specs.Stops.{Check, plain}
use Rattle.tla_value.specs.laws.Grafting.{Apart, NotFreeIn}
use Rattle.tla_value.proofs.Facts.{each_weaker}
use Rattle.module_tree.specs.Formulas.{self}
use Rattle.pcal_tree.specs.Algorithm.{declares, Macro, Routine, locals, procedure_routines, routines, Algorithm}
use Rattle.pcal_tree.specs.BoundNames.{bound_lists, lists_in_body}
use Rattle.pcal_tree.specs.Expand.{graft_all, expanded}
use Rattle.pcal_tree.specs.OffencesRebind.{macro_rebinds}
use Rattle.pcal_tree.specs.Processes.{OneOf}
use Rattle.pcal_tree.specs.Program.{Program, written}
use Rattle.pcal_tree.specs.Programs.{program_in}
use Rattle.pcal_tree.specs.Run.{unlabelled}
use Rattle.pcal_tree.specs.Step.{Stand}
use Rattle.pcal_tree.specs.StepStart.{at_label}
use Rattle.pcal_tree.specs.Variables.{pc, stack}
use Rattle.pcal_tree.specs.laws.Expansion.{Clean}
use Rattle.pcal_tree.proofs.CallsFine.{throughout_both}
use Rattle.pcal_tree.proofs.NothingCaptured.{Has, pub_keeps, Free, BindsFree, written_bare}
use Rattle.pcal_tree.proofs.Uncaptured.{throughout_weaker, uncaptured}
use Rattle.action_builder.specs.OwnVariables.{own_variables, is_own_variable}
use Rattle.action_builder.specs.WrittenNames.{renames}
use Rattle.translation.specs.laws.AcceptedAlgorithm.{IsAcceptedInFile}
use Rattle.translation.proofs.BoundOf.{AllIn, BindsAll, body_bound}
use Rattle.translation.proofs.FromLabels.{from_label, bound_pass, NoneAgain, again_pass}
use Rattle.translation.proofs.MacrosSound.{macros_bound}
use Rattle.translation.proofs.NamesApart.{kept_differs, own_differs, false_among, never}
use Rattle.translation.proofs.NamesGiven.{Bound, bound_all, bound_kept, once, bound_apart, routine_bound}
use Rattle.translation.proofs.NamesOfRules.{not_own, turned}
use Rattle.translation.proofs.VariableNames.{each_to, none_among, own_each, stack_each, each_two}

module _ (o : Outside) (a : Algorithm) (h : IsAcceptedInFile o a) (values : Valuation) where
  abbrev A : Program
  A = program_in plain o a values

  abbrev ms : List Macro
  ms = reverse a.macros

  -- ---- bound names are neither self nor own variables

  abbrev pub Aside : Word → Type 0
  Aside x = (bytes_eq x self ≡ false) × (is_own_variable A x ≡ false)

  pub bound_aside : (x : Word) → Bound o a h values x → Aside x
  bound_aside x b =
      let n = not_own o x b.1 in (
        turned self x (own_differs self x refl n),
        none_among (own_variables A) x
            (own_each A (λ y. bytes_eq y x ≡ false) (own_differs pc x refl n) (stack_each A (λ y. bytes_eq y x ≡ false) (procedure_routines a) (own_differs stack x refl n))
            (λ u k s y m. turned x (written A u y) (kept_differs o a h values u y k m x (bound_kept o a h values x b.0)))),
      )

  all_aside : AllIn Aside (bound_lists a)
  all_aside = each_to (Bound o a h values) Aside bound_aside _ (bound_all o a h values)

  pub aside_apart : (x : Word) → Aside x → Apart (owned self (is_own_variable A)) x
  aside_apart x n = record { left = λ at. ap (λ c. cond c (Some (own_part self x at)) None) n.1; unread = λ y at. unread y at (is_own_variable A y) refl }
    where
      unread : (y : Word) (at : Place) (c : Bool) → is_own_variable A y ≡ c → NotFreeIn x (cond c (Some (own_part self y at)) None)
      unread y at true q = (tt, ((false_among (bytes_eq x y) (λ e. never (sym q ∙ ap (is_own_variable A) (sym ((bytes_eq-Decides x y).0 e)) ∙ n.1)), tt), ((n.0, tt), tt)))
      unread y at false q = tt

  pub renames_has : (N : Word → Type 0) (u : Routine) (x : Word) (at : Place) → Has (BindsAll N) N (renames A u) (renames A u x at)
  renames_has N u x at = by (declares (locals u) x)
    where
      by : (c : Bool) → Has (BindsAll N) N (renames A u) (cond c (Some (node (name (written A u x)) at no_trees)) None)
      by true = (tt, tt)
      by false = tt

  -- ---- from a label on

  module _ (c : Check) (u : Routine) (k : OneOf u (routines a)) (d : Stand) (label : at_label u d.label ≡ Some d.begins) where
    again : NoneAgain o.extended a.procedures (macro_rebinds o.extended a.procedures ms) (once o a h values u k).standings d.begins.items
    again =
        from_label (NoneAgain o.extended a.procedures (macro_rebinds o.extended a.procedures ms) (once o a h values u k).standings) _ _ (again_pass o.extended a.procedures (macro_rebinds o.extended a.procedures ms) (once o a h values u k).standings)
        d.label unlabelled u.body u.exit d.begins ((once o a h values u k).standings, (once o a h values u k).none, (λ y q. q)) label

    all_in : (N : Word → Type 0) → AllIn N (bound_lists a) → AllIn N (lists_in_body d.begins.items)
    all_in N g = from_label (λ b. AllIn N (lists_in_body b)) _ _ (bound_pass N) d.label unlabelled u.body u.exit d.begins (routine_bound o a N g u k) label

    pub names_clean : Clean c (renames A u) (expanded ms d.begins.items)
    names_clean =
        let items = d.begins.items in
        uncaptured c (renames A u) (expanded ms items)
        (throughout_weaker _ _ _ _
        (λ m at f. each_two (Bound o a h values) (Free o.extended a.procedures again.0) (Apart (renames A u)) (bound_apart o a h values u k again.0 again.2) (binders m) f.0 f.1) (λ x f. bound_apart o a h values u k again.0 again.2 x f.0 f.1) (expanded ms items)
        (throughout_both (BindsAll (Bound o a h values)) (BindsFree o.extended a.procedures again.0) (Bound o a h values) (Free o.extended a.procedures again.0) (expanded ms items)
        (body_bound (Bound o a h values) ms (macros_bound o a h (Bound o a h values) (bound_all o a h values)) items (all_in (Bound o a h values) (bound_all o a h values))) (written_bare o.extended a.procedures ms items again.0 again.1)))

    pub own_clean : Clean c (owned self (is_own_variable A)) (graft_all (renames A u) (expanded ms d.begins.items))
    own_clean =
        let items = d.begins.items in
        let ss = graft_all (renames A u) (expanded ms items) in
        uncaptured c (owned self (is_own_variable A)) ss
        (throughout_weaker _ _ _ _ (λ m at g. each_weaker Aside (Apart (owned self (is_own_variable A))) aside_apart (binders m) g) aside_apart ss
        (pub_keeps (BindsAll Aside) Aside (renames A u) (λ m p q f. f) (renames_has Aside u) (expanded ms items)
        (body_bound Aside ms (macros_bound o a h Aside all_aside) items (all_in Aside all_aside))))
