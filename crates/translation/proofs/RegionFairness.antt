-- The formulas of fairness of the written module can be written.
use Rattle.std.proofs.Common.{ℕ, suc, List, [], ◌∷◌, Bool, true, false, length, cond, map, nat_eq, inl, inr, refl, sym, subst}
use Rattle.std.specs.Prelude.{flat_map}
use Rattle.std.specs.List.{AllByRecursion}
use Rattle.tla_tree.specs.Tree.{Word, Each}
use Rattle.tla_tree.specs.laws.Writable.{IsIdentifier, IsString, IsWritable}
use Rattle.tla_tree.proofs.SpelledTrees.{each_left, each_right}
use Rattle.tla_value.specs.Outside.{Outside}
use Rattle.module_tree.specs.Formulas.{self, named, quoted, at, set}
use Rattle.module_tree.specs.Module.{call_with}
use Rattle.module_tree.specs.laws.WritableRegion.{IsCall, IsGuard, IsOver, IsFairness}
use Rattle.pcal_tree.specs.declared.mark.Mark.{Mark}
use Rattle.pcal_tree.specs.declared.mark.Mark.TheVariants as marks
use Rattle.pcal_tree.specs.declared.mark.Fairness.{Fairness}
use Rattle.pcal_tree.specs.declared.mark.Fairness.TheVariants.{Unfair, Weak, Strong}
use Rattle.pcal_tree.specs.Algorithm.{Statement, branch, either, with, while, Statements, done, then, mark, Branches, no_branches, or, Process, Main, alone, processes, Routine, process_routine, numbered, first_process, procedure_routines, main_routines, routines, Algorithm}
use Rattle.pcal_tree.specs.Calls.{label_name}
use Rattle.pcal_tree.specs.Processes.{OneOf}
use Rattle.pcal_tree.specs.Program.{Program}
use Rattle.pcal_tree.specs.Takers.{Takers, each_of, single, lone, Taken, taken_process}
use Rattle.pcal_tree.specs.Variables.{pc}
use Rattle.pcal_tree.proofs.BodyLabels.{labels_in, labels, labels_of, same_labels}
use Rattle.action_builder.specs.WrittenNames.{with_names}
use Rattle.action_builder.proofs.FitJumps.{identifier_string}
use Rattle.action_builder.specs.LabelActions.{call_by}
use Rattle.fairness.specs.MarkedLabels.{Marked, marked_in, marked, marked_some, if_left_out, if_strong, left_out_labels, strong_labels}
use Rattle.fairness.specs.ReachedProcedures.{reached}
use Rattle.fairness.specs.Demands.{Demand, all_steps, routine_steps, label_steps, demands_in, demands_of, main_demands, demands}
use Rattle.fairness.specs.Obligations.{written_labels}
use Rattle.fairness.specs.FairnessLines.{identifier_of, over_of, action_call, guard_of, line_of, fairness_lines}
use Rattle.translation.specs.laws.WritableAlgorithm.{IsWritableMain, IsWritableAlgorithm}
use Rattle.translation.proofs.RoutinesNamed.{IsTitled, label_identifiers, title_free, label_name_string, label_name_identifier, all_flat}
use Rattle.translation.proofs.RegionActions.{every_map, self_name, named_writable, quoted_writable, TakersFit, procedures_in, mains_in, call_writable}
use Rattle.translation.proofs.RegionInit.{in_writable, listed_writable}
use Rattle.translation.proofs.RegionNext.{at_writable}
use Rattle.translation.proofs.RegionTakers.{takers_fit}
use Rattle.pcal_tree.proofs.OneStand.{every_both}
use Rattle.fairness.proofs.LinesByProcess.{reached_some}

-- ---- labels with marks

abbrev IsMarked : Marked → Type 0
IsMarked m = IsIdentifier m.label

mutual
  marked_one : (st : Statement) → Each IsIdentifier (labels_in st) → AllByRecursion IsMarked (marked_in st)
  marked_one (branch e a b) h = every_both IsMarked (marked a) (marked b) (marked_all a (each_left IsIdentifier (labels a) (labels b) h)) (marked_all b (each_right IsIdentifier (labels a) (labels b) h))
  marked_one (either bs) h = marked_branches bs h
  marked_one (with bs b) h = marked_all b h
  marked_one (while e b) h = marked_all b h
  marked_one _ h = tt

  marked_all : (b : Statements) → Each IsIdentifier (labels b) → AllByRecursion IsMarked (marked b)
  marked_all done h = tt
  marked_all (then at st rest) h = every_both IsMarked (marked_in st) (marked rest) (marked_one st (each_left IsIdentifier (labels_in st) (labels rest) h)) (marked_all rest (each_right IsIdentifier (labels_in st) (labels rest) h))
  marked_all (mark l k rest) h = (h.0, marked_all rest h.1)

  marked_branches : (bs : Branches) → Each IsIdentifier (labels_of bs) → AllByRecursion IsMarked (marked_some bs)
  marked_branches no_branches h = tt
  marked_branches (or b bs) h = every_both IsMarked (marked b) (marked_some bs) (marked_all b (each_left IsIdentifier (labels b) (labels_of bs) h)) (marked_branches bs (each_right IsIdentifier (labels b) (labels_of bs) h))

picked : (f : Word → Mark → List Word) → ((l : Word) (k : Mark) → IsIdentifier l → AllByRecursion IsIdentifier (f l k)) → (ms : List Marked) → AllByRecursion IsMarked ms → AllByRecursion IsIdentifier (flat_map (λ m. f m.label m.mark) ms)
picked f k [] h = tt
picked f k (m ∷ ms) h = every_both IsIdentifier (f m.label m.mark) (flat_map (λ n. f n.label n.mark) ms) (k m.label m.mark h.0) (picked f k ms h.1)

left_out_one : (l : Word) (k : Mark) → IsIdentifier l → AllByRecursion IsIdentifier (if_left_out l k)
left_out_one l marks.LeftOut h = (h, tt)
left_out_one l k h = tt

strong_one : (l : Word) (k : Mark) → IsIdentifier l → AllByRecursion IsIdentifier (if_strong l k)
strong_one l marks.Strong h = (h, tt)
strong_one l k h = tt

one_every : (xs : List Word) → AllByRecursion IsIdentifier xs → (x : Word) → OneOf x xs → IsIdentifier x
one_every [] h x k = absurd k
one_every (y ∷ ys) h x (inl e) = subst IsIdentifier (sym e) h.0
one_every (y ∷ ys) h x (inr k) = one_every ys h.1 x k

-- ---- parts of a line

identifier_writable : (t : Takers) → TakersFit t → IsWritable (identifier_of t)
identifier_writable (each_of s) f = named_writable self self_name
identifier_writable (single e) f = f
identifier_writable lone f = named_writable self self_name

over_writable : (t : Takers) → TakersFit t → IsOver (over_of t)
over_writable (each_of s) f = (self_name, f)
over_writable (single e) f = tt
over_writable lone f = tt

called_writable : (t : Taken) (u : Routine) (x : Word) → TakersFit t.takers → IsIdentifier x → IsCall (action_call t u x)
called_writable t u x f i = by (nat_eq t.routine.number u.number)
  where
    by : (b : Bool) → IsCall (cond b (call_by t.takers x) (call_with x (identifier_of t.takers)))
    by true = call_writable t.takers x i
    by false = (i, identifier_writable t.takers f)

guard_writable : (t : Takers) → TakersFit t → (ls : List Word) → AllByRecursion IsString ls → IsGuard (guard_of t ls)
guard_writable t f [] h = tt
guard_writable t f (l ∷ ls) h =
    in_writable false (at (named pc) (identifier_of t)) (set (map quoted (l ∷ ls)))
    (at_writable (named pc) (identifier_of t) (named_writable pc ((refl, refl), refl)) (identifier_writable t f)) (listed_writable (map quoted (l ∷ ls)) (quoted_writable l h.0, texts ls h.1))
  where
    texts : (ws : List Word) → AllByRecursion IsString ws → AllByRecursion IsWritable (map quoted ws)
    texts [] k = tt
    texts (w ∷ ws) k = (quoted_writable w k.0, texts ws k.1)

module _ (o : Outside) (a : Algorithm) (h : IsWritableAlgorithm o a) where
  abbrev program : Program
  program = with_names o a

  -- ---- demands that can be written

  -- a routine of the algorithm that has a name of its own
  abbrev IsOwn : Routine → Type 0
  IsOwn u = OneOf u (routines a) × IsTitled a a.main u

  abbrev DemandFits : Demand → Type 0
  DemandFits all_steps = Unit {0}
  DemandFits (routine_steps t strong u) = TakersFit t.takers × IsOwn u
  DemandFits (label_steps t u l) = TakersFit t.takers × IsOwn u × IsIdentifier l

  body_labels : (u : Routine) → OneOf u (routines a) → AllByRecursion IsMarked (marked u.body)
  body_labels u k = marked_all u.body (subst (Each IsIdentifier) (same_labels u.body) (label_identifiers o a h u k))

  in_fits : (t : Taken) → TakersFit t.takers → (strong : Bool) (u : Routine) → IsOwn u → AllByRecursion DemandFits (demands_in t strong u)
  in_fits t f strong u k = ((f, k), by strong)
    where
      by : (b : Bool) → AllByRecursion DemandFits (cond b [] (map (label_steps t u) (strong_labels u.body)))
      by true = tt
      by false = every_map DemandFits (label_steps t u) (strong_labels u.body) (λ l m. (f, k, one_every (strong_labels u.body) (picked if_strong strong_one (marked u.body) (body_labels u k.0)) l m))

  module _ (titled : (u : Routine) → OneOf u (procedure_routines a) → IsTitled a a.main u) where
    each_fits : (t : Taken) → TakersFit t.takers → IsOwn t.routine → (strong : Bool) → AllByRecursion DemandFits (flat_map (demands_in t strong) (t.routine ∷ reached a t.routine))
    each_fits t f k strong = all_flat DemandFits (demands_in t strong) (t.routine ∷ reached a t.routine) (λ u m. in_fits t f strong u (own u m))
      where
        own : (u : Routine) → OneOf u (t.routine ∷ reached a t.routine) → IsOwn u
        own u (inl e) = subst IsOwn (sym e) k
        own u (inr m) = (let p = reached_some (length a.procedures) a t.routine u m in (procedures_in o a h u p, titled u p))

    of_fits : (t : Taken) → TakersFit t.takers → IsOwn t.routine → (f : Fairness) → AllByRecursion DemandFits (demands_of a f t)
    of_fits t f k Unfair = tt
    of_fits t f k Weak = each_fits t f k false
    of_fits t f k Strong = each_fits t f k true

    process_fits : (n : ℕ) (ps : List Process) → AllByRecursion (λ (q : Process). IsWritable q.identity) ps → ((u : Routine) → OneOf u (numbered process_routine n ps) → IsOwn u)
        → AllByRecursion DemandFits (flat_map (λ ds. ds) (numbered (λ n p. demands_of a p.fairness (taken_process n p)) n ps))
    process_fits n [] w g = tt
    process_fits n (p ∷ ps) w g =
        every_both DemandFits (demands_of a p.fairness (taken_process n p)) (flat_map (λ ds. ds) (numbered (λ n p. demands_of a p.fairness (taken_process n p)) (suc n) ps))
        (of_fits (taken_process n p) (takers_fit p w.0) (g (process_routine n p) (inl refl)) p.fairness) (process_fits (suc n) ps w.1 (λ u k. g u (inr k)))

  main_fits : (m : Main) → IsWritableMain m → ((u : Routine) → OneOf u (main_routines a m) → OneOf u (routines a)) → ((u : Routine) → IsTitled a m u → IsTitled a a.main u) → AllByRecursion DemandFits (main_demands a m)
  main_fits (alone ss) w f g = tt
  main_fits (processes []) w f g = absurd w
  main_fits (processes (p ∷ ps)) w f g = process_fits (λ u k. g u (inl k)) (first_process a) (p ∷ ps) w (λ u k. (f u k, g u (inr k)))

  all_fit : AllByRecursion DemandFits (demands a)
  all_fit = every_both DemandFits (cond a.fair (all_steps ∷ []) []) (main_demands a a.main) (by a.fair) (main_fits a.main h.main (mains_in o a h) (λ u k. k))
    where
      by : (b : Bool) → AllByRecursion DemandFits (cond b (all_steps ∷ []) [])
      by true = (tt, tt)
      by false = tt

  -- ---- lines

  names_strings : (u : Routine) (ls : List Word) → AllByRecursion IsIdentifier ls → AllByRecursion IsString (written_labels program u ls)
  names_strings u [] k = tt
  names_strings u (l ∷ ls) k = (label_name_string o a h u l (identifier_string l k.0), names_strings u ls k.1)

  line_writable : (d : Demand) → DemandFits d → IsFairness (line_of program d)
  line_writable all_steps f = (tt, tt, ((refl, refl), refl))
  line_writable (routine_steps t strong u) f = (
    over_writable t.takers f.0,
    guard_writable t.takers f.0 (written_labels program u (left_out_labels u.body)) (names_strings u (left_out_labels u.body) (picked if_left_out left_out_one (marked u.body) (body_labels u f.1.0))),
    called_writable t u (program.naming.title u.number) f.0 (title_free o a h u f.1.1).0,
  )
  line_writable (label_steps t u l) f = (over_writable t.takers f.0, tt, called_writable t u (label_name program u l) f.0 (label_name_identifier o a h u l f.2))

  every_line : (ds : List Demand) → AllByRecursion DemandFits ds → AllByRecursion IsFairness (map (line_of program) ds)
  every_line [] k = tt
  every_line (d ∷ ds) k = (line_writable d k.0, every_line ds k.1)

  pub fairness_writable : AllByRecursion IsFairness (fairness_lines program)
  fairness_writable = every_line (demands a) all_fit
