-- The disjuncts of Next, Terminating and Termination can be written, and Terminating stands where Next has it.
use Rattle.std.proofs.Common.{◌≡◌, List, [], ◌∷◌, ◌++◌, Bool, true, false, ◌||◌, cond, bytes_eq, codes, map, is_some, inl, inr, refl, sym, ap, ◌∙◌, arith}
use Rattle.std.specs.List.{list_any, AllByRecursion}
use Rattle.std.proofs.lemmas.Bool.{or_parts}
use Rattle.tla_token.specs.Words.{is_own}
use Rattle.tla_tree.specs.Tree.{Word, Tree}
use Rattle.tla_tree.specs.laws.Writable.{IsWritable}
use Rattle.tla_value.specs.Outside.{Outside}
use Rattle.module_tree.specs.Formulas.{self, named, quoted, equal, at}
use Rattle.module_tree.specs.Module.{call, Way, one_way}
use Rattle.module_tree.specs.Ways.{is_terminating}
use Rattle.module_tree.specs.laws.WritableRegion.{AllOf, IsWay, IsGuard}
use Rattle.pcal_tree.specs.Algorithm.{Main, alone, processes, Routine, alone_routine, main_routines, routines, Algorithm}
use Rattle.pcal_tree.specs.OffencesLabels.{label_words}
use Rattle.pcal_tree.specs.Calls.{label_name}
use Rattle.pcal_tree.specs.Processes.{OneOf}
use Rattle.pcal_tree.specs.Program.{Program}
use Rattle.pcal_tree.specs.Takers.{Takers, each_of, single, lone, Taken, taken_main}
use Rattle.pcal_tree.specs.Variables.{pc}
use Rattle.action_builder.specs.LabelActions.{taken_procedures, call_by}
use Rattle.action_builder.specs.LabelActions as actions
use Rattle.action_builder.specs.NextFormula.{all_done, ended, way_by, own_way, label_ways, main_ways, next}
use Rattle.action_builder.specs.WrittenNames.{with_names}
use Rattle.translation.specs.laws.WritableAlgorithm.{IsWritableMain, IsWritableAlgorithm}
use Rattle.translation.proofs.WrittenIdentifiers.{IsFree}
use Rattle.translation.proofs.RoutinesNamed.{IsTitled, title_free, label_name_free, all_flat}
use Rattle.translation.proofs.RegionActions.{every_map, IsSome, some_after, some_before, some_map, labels_some, all_of_each, self_name, named_writable, quoted_writable, equal_writable, TakersFit, call_writable, mains_in}
use Rattle.translation.proofs.RegionInit.{set_writable}
use Rattle.translation.proofs.RegionTakers.{procedures_taken, main_taken, procedure_titled}
use Rattle.pcal_tree.proofs.OneStand.{every_both}
use Rattle.action_builder.proofs.Equal.{other-name}

-- ---- the end

pub at_writable : (f e : Tree) → IsWritable f → IsWritable e → IsWritable (at f e)
at_writable f e h k = (refl, tt, tt, tt, (h, (k, tt)))

done_writable : (e : Tree) → IsWritable e → IsWritable (equal e (quoted (codes "Done")))
done_writable e h = equal_writable e (quoted (codes "Done")) h (quoted_writable (codes "Done") refl)

pub all_done_writable : (m : Main) → IsWritable (all_done m)
all_done_writable (alone ss) = done_writable (named pc) (named_writable pc ((refl, refl), refl))
all_done_writable (processes ps) =
    ((omega arith, refl), (self_name, tt), tt, tt, (set_writable, (done_writable (at (named pc) (named self)) (at_writable (named pc) (named self) (named_writable pc ((refl, refl), refl)) (named_writable self self_name)), tt)))

pub ended_writable : (b : Bool) (m : Main) → IsGuard (ended b m)
ended_writable true m = tt
ended_writable false m = all_done_writable m

-- ---- ways

-- it can be written, and isn't Terminating
abbrev pub IsStep : Way → Type 0
IsStep y = IsWay y × (is_terminating y ≡ false)

other_name : (w : Word) → is_own w ≡ false → bytes_eq w (codes "Terminating") ≡ false
other_name w e =
    other-name (codes "Terminating") w
    (or_parts (bytes_eq (codes "Terminating") w) _
    (or_parts (bytes_eq (codes "Spec") w) _
    (or_parts (bytes_eq (codes "Next") w) _
    (or_parts (bytes_eq (codes "Init") w) _
    (or_parts (bytes_eq (codes "self") w) _ (or_parts (bytes_eq (codes "stack") w) _ (or_parts (bytes_eq (codes "pc") w) _ (or_parts (bytes_eq (codes "vars") w) _ e).1).1).1).1).1).1).1).0

call_step : (t : Takers) (x : Word) → IsFree x → IsStep (one_way (call_by t x))
call_step (each_of s) x h = (call_writable (each_of s) x h.0, other_name x h.1)
call_step (single e) x h = (h.0, other_name x h.1)
call_step lone x h = (h.0, other_name x h.1)

way_step : (P : Program) (t : Taken) (k : Takers) → TakersFit k → TakersFit t.takers → IsFree (actions.title_of P t) → IsStep (way_by P t k)
way_step P t (each_of s) f g h = (let q = call_step t.takers (actions.title_of P t) h in ((self_name, f, q.0), q.1))
way_step P t (single e) f g h = call_step t.takers (actions.title_of P t) h
way_step P t lone f g h = call_step t.takers (actions.title_of P t) h

none_terminates : (ys : List Way) → AllByRecursion IsStep ys → list_any is_terminating ys ≡ false
none_terminates [] h = refl
none_terminates (y ∷ ys) h = (λ i. h.0.1 i || none_terminates ys h.1 i)

any_both : (ys zs : List Way) → list_any is_terminating ys ≡ false → list_any is_terminating (ys ++ zs) ≡ list_any is_terminating zs
any_both [] zs e = refl
any_both (y ∷ ys) zs e = (let p = or_parts (is_terminating y) (list_any is_terminating ys) e in ap (λ b. b || list_any is_terminating (ys ++ zs)) p.0 ∙ any_both ys zs p.1)

ways_of : (ys : List Way) → AllByRecursion IsStep ys → AllByRecursion IsWay ys
ways_of [] h = tt
ways_of (y ∷ ys) h = (h.0.0, ways_of ys h.1)

module _ (o : Outside) (a : Algorithm) (h : IsWritableAlgorithm o a) where
  abbrev program : Program
  program = with_names o a

  procedure_steps : AllByRecursion IsStep (map (own_way program) (taken_procedures a))
  procedure_steps =
      every_map IsStep (own_way program) (taken_procedures a)
      (λ t k. let q = procedures_taken a t k in way_step program t t.takers q.1 q.1 (title_free o a h t.routine (procedure_titled a a.main t.routine q.0)))

  label_steps : (t : Taken) → OneOf t.routine (routines a) → AllByRecursion IsStep (label_ways program t)
  label_steps t k =
      every_map IsStep (λ l. one_way (call_by t.takers (label_name program t.routine l))) (label_words t.routine.body)
      (λ l m. call_step t.takers (label_name program t.routine l) (label_name_free o a h t.routine l k m))

  main_steps : (m : Main) → IsWritableMain m → ((u : Routine) → OneOf u (main_routines a m) → OneOf u (routines a)) → ((u : Routine) → IsTitled a m u → IsTitled a a.main u) → AllByRecursion IsStep (main_ways program m)
  main_steps (alone ss) w f g =
      all_flat IsStep (label_ways program) (taken_main a (alone ss)) (λ t k. label_steps t (f t.routine (main_taken a (alone ss) w t k).0))
  main_steps (processes ps) w f g =
      every_map IsStep (own_way program) (taken_main a (processes ps))
      (λ t k. let q = main_taken a (processes ps) w t k in way_step program t t.takers q.1 q.1 (title_free o a h t.routine (g t.routine (inr q.0))))

  main_some : (m : Main) → IsWritableMain m → ((u : Routine) → OneOf u (main_routines a m) → OneOf u (routines a)) → IsSome (main_ways program m)
  main_some (alone ss) w f =
      let u = alone_routine a ss in
      some_before (label_ways program (record { takers = lone; routine = u })) []
      (some_map (λ l. one_way (call_by lone (label_name program u l))) (label_words ss) (labels_some (label_words ss) (h.routines u (f u (inl refl))).labelled))
  main_some (processes []) w f = absurd w
  main_some (processes (p ∷ ps)) w f = tt

  steps_main : AllByRecursion IsStep (main_ways program a.main)
  steps_main = main_steps a.main h.main (mains_in o a h) (λ u k. k)

  last_writable : (b : Bool) → AllByRecursion IsWay (cond b [] (one_way (call (codes "Terminating")) ∷ []))
  last_writable true = tt
  last_writable false = (((refl, refl), refl), tt)

  pub next_writable : (b : Bool) → AllOf IsWay (next b program)
  next_writable b =
      all_of_each IsWay (next b program)
      (some_after (map (own_way program) (taken_procedures a)) _ (some_before (main_ways program a.main) _ (main_some a.main h.main (mains_in o a h))))
      (every_both IsWay (map (own_way program) (taken_procedures a)) _ (ways_of (map (own_way program) (taken_procedures a)) procedure_steps)
      (every_both IsWay (main_ways program a.main) _ (ways_of (main_ways program a.main) steps_main) (last_writable b)))

  last_terminates : (b : Bool) (m : Main) → is_some (ended b m) ≡ list_any is_terminating (cond b [] (one_way (call (codes "Terminating")) ∷ []))
  last_terminates true m = refl
  last_terminates false m = refl

  pub terminating_there : (b : Bool) → is_some (ended b a.main) ≡ list_any is_terminating (next b program)
  terminating_there b =
      last_terminates b a.main ∙ sym (any_both (main_ways program a.main) _ (none_terminates (main_ways program a.main) steps_main))
      ∙ sym (any_both (map (own_way program) (taken_procedures a)) _ (none_terminates (map (own_way program) (taken_procedures a)) procedure_steps))
