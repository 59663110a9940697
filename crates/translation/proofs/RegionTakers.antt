-- Who takes the steps of an algorithm that can be written; and all actions of its module.
use Rattle.std.proofs.Common.{ℕ, suc, List, [], ◌∷◌, Bool, true, false, cond, map, inl, inr, refl, sym, subst}
use Rattle.std.specs.Prelude.{flat_map}
use Rattle.std.specs.List.{AllByRecursion}
use Rattle.tla_tree.specs.laws.Writable.{IsWritable}
use Rattle.tla_value.specs.Outside.{Outside}
use Rattle.module_tree.specs.laws.WritableRegion.{IsAction}
use Rattle.pcal_tree.specs.Algorithm.{Process, Main, alone, processes, Routine, process_routine, numbered, first_process, procedure_routines, main_routines, routines, Algorithm}
use Rattle.pcal_tree.specs.Processes.{OneOf}
use Rattle.pcal_tree.specs.Program.{Program}
use Rattle.pcal_tree.specs.Takers.{each_of, single, takers_of, Taken, taken_process, taken_main}
use Rattle.action_builder.specs.LabelActions.{procedure_takers, taken_procedures, label_actions, routine_actions, main_actions, actions}
use Rattle.action_builder.specs.WrittenNames.{with_names}
use Rattle.translation.specs.laws.WritableAlgorithm.{IsWritableMain, IsWritableAlgorithm}
use Rattle.translation.proofs.RoutinesNamed.{IsTitled, all_flat}
use Rattle.translation.proofs.RegionActions.{TakersFit, procedures_in, mains_in, labels_writable, routine_writable}
use Rattle.pcal_tree.proofs.OneStand.{every_both}

pub takers_fit : (p : Process) → IsWritable p.identity → TakersFit (takers_of p)
takers_fit p h = by p.several
  where
    by : (b : Bool) → TakersFit (cond b (each_of p.identity) (single p.identity))
    by true = h
    by false = h

procedure_takers_fit : (m : Main) → TakersFit (procedure_takers m)
procedure_takers_fit (alone ss) = tt
procedure_takers_fit (processes ps) = (refl, (((refl, refl), refl), tt), tt, tt, tt)

pub from_map : {X Y : Type 0} (Q : Y → Type 0) (f : X → Y) (xs : List X) → ((x : X) → OneOf x xs → Q (f x)) → (y : Y) → OneOf y (map f xs) → Q y
from_map Q f [] h y k = absurd k
from_map Q f (x ∷ xs) h y (inl e) = subst Q (sym e) (h x (inl refl))
from_map Q f (x ∷ xs) h y (inr k) = from_map Q f xs (λ z l. h z (inr l)) y k

-- a routine of these, with takers that can be written
abbrev pub TakenOf : List Routine → Taken → Type 0
TakenOf us t = OneOf t.routine us × TakersFit t.takers

pub procedures_taken : (a : Algorithm) (t : Taken) → OneOf t (taken_procedures a) → TakenOf (procedure_routines a) t
procedures_taken a t k = from_map (TakenOf (procedure_routines a)) (λ (u : Routine). record { takers = procedure_takers a.main; routine = u }) (procedure_routines a) (λ u l. (l, procedure_takers_fit a.main)) t k

taken_from : (n : ℕ) (ps : List Process) → AllByRecursion (λ (q : Process). IsWritable q.identity) ps → (t : Taken) → OneOf t (numbered taken_process n ps) → TakenOf (numbered process_routine n ps) t
taken_from n [] h t k = absurd k
taken_from n (p ∷ ps) h t (inl e) = subst (TakenOf (numbered process_routine n (p ∷ ps))) (sym e) (inl refl, takers_fit p h.0)
taken_from n (p ∷ ps) h t (inr k) = (let r = taken_from (suc n) ps h.1 t k in (inr r.0, r.1))

pub main_taken : (a : Algorithm) (m : Main) → IsWritableMain m → (t : Taken) → OneOf t (taken_main a m) → TakenOf (main_routines a m) t
main_taken a (alone ss) h t (inl e) = subst (TakenOf (main_routines a (alone ss))) (sym e) (inl refl, tt)
main_taken a (alone ss) h t (inr k) = absurd k
main_taken a (processes []) h t k = absurd h
main_taken a (processes (p ∷ ps)) h t k = taken_from (first_process a) (p ∷ ps) h t k

pub procedure_titled : (a : Algorithm) (m : Main) (u : Routine) → OneOf u (procedure_routines a) → IsTitled a m u
procedure_titled a (alone ss) u k = k
procedure_titled a (processes ps) u k = inl k

module _ (o : Outside) (a : Algorithm) (h : IsWritableAlgorithm o a) where
  abbrev program : Program
  program = with_names o a

  procedure_actions : AllByRecursion IsAction (flat_map (routine_actions program) (taken_procedures a))
  procedure_actions =
      all_flat IsAction (routine_actions program) (taken_procedures a)
      (λ t k. let q = procedures_taken a t k in routine_writable o a h t (procedures_in o a h t.routine q.0) q.1 (procedure_titled a a.main t.routine q.0))

  main_all : (m : Main) → IsWritableMain m → ((u : Routine) → OneOf u (main_routines a m) → OneOf u (routines a)) → ((u : Routine) → IsTitled a m u → IsTitled a a.main u) → AllByRecursion IsAction (main_actions program m)
  main_all (alone ss) w f g =
      all_flat IsAction (label_actions program) (taken_main a (alone ss)) (λ t k. let q = main_taken a (alone ss) w t k in labels_writable o a h t (f t.routine q.0) q.1)
  main_all (processes ps) w f g =
      all_flat IsAction (routine_actions program) (taken_main a (processes ps))
      (λ t k. let q = main_taken a (processes ps) w t k in routine_writable o a h t (f t.routine q.0) q.1 (g t.routine (inr q.0)))

  pub actions_writable : AllByRecursion IsAction (actions program)
  actions_writable =
      every_both IsAction (flat_map (routine_actions program) (taken_procedures a)) (main_actions program a.main) procedure_actions (main_all a.main h.main (mains_in o a h) (λ u k. k))
