-- The first values of an accepted algorithm's declarations, under any limits, are the same by their written names: those of globals, of routines for a process, and the
-- sets of variables of many processes.
use Rattle.std.proofs.Common.{◌≡◌, ◌==◌, ℕ, suc, List, [], ◌∷◌, Bool, true, false, ◌||◌, cond, bytes_eq, codes, None, Some, inl, inr, refl, sym, subst, ap, ◌∙◌, Ok}
use Rattle.std.specs.List.{flat_map, AllByRecursion}
use Rattle.std.proofs.lemmas.Bool.{or_parts}
use Rattle.tla_token.specs.declared.rule.Rule.TheVariants.{InitSelf}
use Rattle.tla_tree.specs.Tree.{Word, Tree}
use Rattle.tla_value.specs.Value.{truth}
use Rattle.tla_value.specs.Definitions.{Valuation}
use Rattle.tla_value.specs.Outside.{Outside}
use Rattle.tla_value.specs.Stops.{Check, plain}
use Rattle.tla_value.specs.laws.FreeNames.{Any}
use Rattle.pcal_tree.specs.Algorithm as tree
use Rattle.pcal_tree.specs.Algorithm.{Name, Start, unset, equals, among, Declaration, declares, Process, Main, alone, processes, Routine, locals, alone_routine, process_routine, numbered, first_process, procedure_routines, main_routines, routines, Algorithm}
use Rattle.pcal_tree.specs.BoundNames.{lists_in_start}
use Rattle.pcal_tree.specs.InitialStates.{running, is_multiprocess}
use Rattle.pcal_tree.specs.Offences.{offence_if}
use Rattle.pcal_tree.specs.OffencesNames.{in_whole, in_start, in_declared, sight_inside}
use Rattle.pcal_tree.specs.OffencesOfNames.{through_each_call, offences_of_uses, offences_of_declarations, offences_of_reads}
use Rattle.pcal_tree.specs.OffencesReads.{process_offences, of_one_process, own_in_start, own_in_sets, own_offences, processes_of}
use Rattle.pcal_tree.specs.OffencesRebind.{start_rebinds, any_name}
use Rattle.pcal_tree.specs.Processes.{actors, OneOf}
use Rattle.pcal_tree.specs.Program.{Program, Actor}
use Rattle.pcal_tree.specs.Programs.{program_in}
use Rattle.pcal_tree.specs.Reads.{used}
use Rattle.pcal_tree.specs.Scope.{State}
use Rattle.pcal_tree.specs.laws.ReadNames.{Reads}
use Rattle.pcal_tree.proofs.CallsFine.{tree_seen}
use Rattle.pcal_tree.proofs.ClearLabels.{both_none}
use Rattle.pcal_tree.proofs.GraftsRead.{tree_wider}
use Rattle.pcal_tree.proofs.TroubleLaws.{one_left, one_right}
use Rattle.action_builder.specs.laws.WrittenScope.{common, Common, Seen}
use Rattle.translation.specs.laws.AcceptedAlgorithm.{IsAcceptedInFile}
use Rattle.translation.specs.laws.AcceptedLaws.{extra_of}
use Rattle.translation.specs.laws.WritableAlgorithm.{IsWritableStart, IsWritableDeclaration}
use Rattle.translation.proofs.AcceptedNames.{no_offence}
use Rattle.translation.proofs.BoundOf.{AllIn}
use Rattle.translation.proofs.InitNames as init
use Rattle.translation.proofs.InitNames.{sight_of, standings_of, StartFine, all_fine, is_named}
use Rattle.translation.proofs.InnerSettled.{free_two}
use Rattle.translation.proofs.NamesApart.{writable, used_outside, global_common, defined_common}
use Rattle.translation.proofs.NamesInSight.{sees_inside}
use Rattle.translation.proofs.NamesOfRules.{rules_of_names}
use Rattle.translation.proofs.ProcedureStarts.{IsSingle, AllSingle}
use Rattle.translation.proofs.UsedNames.{all_parts, reads_used}
use Rattle.step_walks.specs.FirstValues.{Evaluation, as_declared, as_written}
use Rattle.step_walks.specs.laws.FirstValues.{Alike, CallsAlike, SpreadAlike, LocalAlike, StartsAlike}
use Rattle.step_walks.proofs.WrittenValues.{inside_written, outside_written}
use Rattle.accepted_steps.proofs.AnyLimits.{HasIdentifier, has_identifier, common_less, apart_outside, apart_inside}
use Rattle.accepted_steps.proofs.FirstNames.{first_named}
use Rattle.accepted_steps.proofs.ParameterStarts.{locals_single}

-- ---- the sets of a process set's variables

-- a set uses no variable of these
abbrev UsesNone : List Declaration → Start → Type 0
UsesNone ds (among e) = AllByRecursion (λ n. declares ds n.word ≡ false) (used e [])
UsesNone ds _ = Unit {0}

names_aside : (p : Process) (ns : List Name) → flat_map (λ n. offence_if (of_one_process p n) InitSelf n.place) ns ≡ [] → AllByRecursion (λ n. declares p.variables n.word ≡ false) ns
names_aside p [] e = tt
names_aside p (n ∷ ns) e =
    let k = both_none (offence_if (of_one_process p n) InitSelf n.place) _ e in
    ((or_parts (bytes_eq (codes "self") n.word) (declares p.variables n.word) (no_offence (of_one_process p n) InitSelf n.place k.0)).1, names_aside p ns k.1)

start_aside : (p : Process) (d : Start) → own_in_start p d ≡ [] → UsesNone p.variables d
start_aside p unset e = tt
start_aside p (equals t) e = tt
start_aside p (among t) e = names_aside p (used t []) e

starts_aside : (p : Process) (ds : List Declaration) → flat_map (λ d. own_in_start p d.start) ds ≡ [] → AllByRecursion (λ d. UsesNone p.variables d.start) ds
starts_aside p [] e = tt
starts_aside p (d ∷ ds) e = (let k = both_none (own_in_start p d.start) _ e in (start_aside p d.start k.0, starts_aside p ds k.1))

abbrev SetsAside : Routine → Type 0
SetsAside u = u.spread ≡ true → AllByRecursion (λ d. UsesNone (locals u) d.start) (locals u)

processes_aside : (n : ℕ) (ps : List Process) → flat_map own_in_sets ps ≡ [] → (u : Routine) → OneOf u (numbered process_routine n ps) → SetsAside u
processes_aside n [] e u k = absurd k
processes_aside n (p ∷ ps) e u (inl q) = subst SetsAside (sym q) (λ s. starts_aside p p.variables (sym (ap (λ b. cond b (flat_map (λ d. own_in_start p d.start) p.variables) []) s) ∙ (both_none (own_in_sets p) _ e).0))
processes_aside n (p ∷ ps) e u (inr k) = processes_aside (suc n) ps (both_none (own_in_sets p) _ e).1 u k

-- the one body has no variables
main_aside : (a : Algorithm) (m : Main) → flat_map own_in_sets (processes_of m) ≡ [] → (u : Routine) → OneOf u (main_routines a m) → SetsAside u
main_aside a (alone ss) e u (inl q) = subst SetsAside (sym q) (λ s. tt)
main_aside a (alone ss) e u (inr k) = absurd k
main_aside a (processes ps) e u k = processes_aside (first_process a) ps e u k

sets_aside : (o : Outside) (a : Algorithm) → IsAcceptedInFile o a → (u : Routine) → OneOf u (main_routines a a.main) → SetsAside u
sets_aside o a h u k =
    let F = through_each_call a o in
    let r = (both_none (offences_of_declarations F a o) (offences_of_reads F a) (both_none (offences_of_uses F a o) _ h.accepted.names).1).1 in
    main_aside a a.main (both_none (own_offences a) _ (both_none (process_offences a) _ r).1).0 u k

-- ---- some process

-- it has an identifier where there are processes
some_actor : (a : Algorithm) (m : Main) → (v : Actor) × HasIdentifier m v
some_actor a (alone ss) = (record { self = None; own = alone_routine a tree.done }, refl)
some_actor a (processes ps) = (record { self = Some (truth true); own = alone_routine a tree.done }, (truth true, refl))

running_one : (u : Routine) (vs : List Actor) (v : Actor) → OneOf v (running u vs) → OneOf v vs
running_one u [] v k = absurd k
running_one u (w ∷ vs) v k = by (running_one u vs v) (w.own.number == u.number) k
  where
    by : (OneOf v (running u vs) → OneOf v vs) → (b : Bool) → OneOf v (cond b (w ∷ running u vs) (running u vs)) → OneOf v (w ∷ vs)
    by rest true (inl e) = inl e
    by rest true (inr m) = inr (rest m)
    by rest false m = inr (rest m)

-- ---- an accepted algorithm

module _ (c : Check) (o : Outside) (a : Algorithm) (h : IsAcceptedInFile o a) (values : Valuation) where
  abbrev P : Program
  P = program_in c o a values

  abbrev Q : Program
  Q = program_in plain o a values

  abbrev E : Evaluation
  E = as_written P []

  abbrev F : Evaluation
  F = as_declared P

  -- ---- for a process

  start_inside : (v : Actor) → HasIdentifier a.main v → (u : Routine) → OneOf u (routines a) → (d : Declaration) → StartFine o a u d → Alike (E.inside v u) (F.inside v u) d.start
  start_inside v i u k d f = by d.start f.used f.once f.bound
    where
      whole : (e : Tree) → in_start (equals e) (sight_of o a u) ≡ [] → start_rebinds o.extended any_name (equals e) (standings_of o a u) ≡ [] → AllIn (init.Bound o a) (lists_in_start (equals e)) → (s : State) → E.inside v u e s ≡ F.inside v u e s
      whole e l m n s = inside_written P [] v u (apart_inside o a h values c v i u k) e (first_named o a h values c u k e l m n) s

      by : (d : Start) → in_start d (sight_of o a u) ≡ [] → start_rebinds o.extended any_name d (standings_of o a u) ≡ [] → AllIn (init.Bound o a) (lists_in_start d) → Alike (E.inside v u) (F.inside v u) d
      by unset l m n = tt
      by (equals e) l m n = whole e l m n
      by (among e) l m n = whole e l m n

  starts_inside : (v : Actor) → HasIdentifier a.main v → (u : Routine) → OneOf u (routines a) → (ds : List Declaration) → AllByRecursion (StartFine o a u) ds → AllByRecursion (λ d. Alike (E.inside v u) (F.inside v u) d.start) ds
  starts_inside v i u k [] f = tt
  starts_inside v i u k (d ∷ ds) f = (start_inside v i u k d f.0, starts_inside v i u k ds f.1)

  pub locals_inside : (v : Actor) → HasIdentifier a.main v → (u : Routine) → OneOf u (routines a) → AllByRecursion (λ d. Alike (E.inside v u) (F.inside v u) d.start) (locals u)
  locals_inside v i u k = starts_inside v i u k (locals u) (all_fine o a h values u k)

  -- of procedures that it may call
  pub calls_alike : (v : Actor) → HasIdentifier a.main v → CallsAlike E F v (procedure_routines a)
  calls_alike v i p m = (all_parts (λ d. Alike (E.inside v p) (F.inside v p) d.start) p.params p.variables (locals_inside v i p (one_left p (procedure_routines a) (main_routines a a.main) m))).1

  -- ---- outside of processes

  whole_outside : (e : Tree) → Reads (Common Q (extra_of a)) e → (s : State) → E.outside e s ≡ F.outside e s
  whole_outside e reads s =
      let w = some_actor a a.main in
      outside_written P [] w.0 (alone_routine a tree.done) (apart_outside o a h values c w.0 w.1) e (tree_wider (Common Q (extra_of a)) (Common P []) Any (common_less o a h values c) e reads) s

  seen_inside : (t : Tree) → in_whole t (sight_inside a o) ≡ [] → Reads (Common Q (extra_of a)) t
  seen_inside t e =
      tree_seen t false (sight_inside a o) (Common Q (extra_of a)) (sees_inside o (Common Q (extra_of a)) (used_outside o a h values) a (global_common o a h values) (defined_common o a h values)) e

  start_outside : (d : Start) → in_start d (sight_inside a o) ≡ [] → Alike E.outside F.outside d
  start_outside unset e = tt
  start_outside (equals t) e = whole_outside t (seen_inside t e)
  start_outside (among t) e = whole_outside t (seen_inside t e)

  globals_outside : (ds : List Declaration) → in_declared ds (sight_inside a o) ≡ [] → AllByRecursion (λ d. Alike E.outside F.outside d.start) ds
  globals_outside [] e = tt
  globals_outside (d ∷ ds) e = (let k = both_none (in_start d.start (sight_inside a o)) _ e in (start_outside d.start k.0, globals_outside ds k.1))

  -- ---- sets

  abbrev SetAlike : Start → Type 0
  SetAlike (among e) = (s : State) → E.outside e s ≡ F.outside e s
  SetAlike _ = Unit {0}

  single_alike : (d : Start) → IsSingle d → SetAlike d
  single_alike unset h = tt
  single_alike (equals e) h = tt
  single_alike (among e) h = absurd h

  all_single : (ds : List Declaration) → AllSingle ds → AllByRecursion (λ d. SetAlike d.start) ds
  all_single [] h = tt
  all_single (d ∷ ds) h = (single_alike d.start h.0, all_single ds h.1)

  module _ (u : Routine) (k : OneOf u (routines a)) where
    -- a set that uses no variable of the routine reads only what means the same in all routines
    set_alike : (d : Start) → in_start d (sight_of o a u) ≡ [] → start_rebinds o.extended any_name d (standings_of o a u) ≡ [] → AllIn (init.Bound o a) (lists_in_start d) → IsWritableStart d → UsesNone (locals u) d → SetAlike d
    set_alike unset l m n w z = tt
    set_alike (equals e) l m n w z = tt
    set_alike (among e) l m n w z =
        let N = Seen Q (extra_of a) u in
        let M : Word → Type 0 = λ y. declares (locals u) y ≡ false in
        whole_outside e (free_two N Any M Any (Common Q (extra_of a)) Any (λ y seen q. sym (ap (λ b. b || common Q (extra_of a) y) q) ∙ seen) (λ y i j. tt) e (is_named o a h values u k e l m n).reads (reads_used M e w z))

    sets_alike : (ds : List Declaration) → AllByRecursion (StartFine o a u) ds → AllByRecursion IsWritableDeclaration ds → AllByRecursion (λ d. UsesNone (locals u) d.start) ds → AllByRecursion (λ d. SetAlike d.start) ds
    sets_alike [] f w z = tt
    sets_alike (d ∷ ds) f w z = (set_alike d.start f.0.used f.0.once f.0.bound w.0.1 z.0, sets_alike ds f.1 w.1 z.1)

  -- ---- all declarations

  spread_of : (u : Routine) (vs : List Actor) (d : Start) → ((v : Actor) → OneOf v vs → Alike (E.inside v u) (F.inside v u) d) → SetAlike d → SpreadAlike E F u vs d
  spread_of u vs unset f g = tt
  spread_of u vs (equals e) f g = f
  spread_of u vs (among e) f g = g

  local_of : (u : Routine) (b : Bool) (vs : List Actor) (d : Start) → ((v : Actor) → OneOf v vs → Alike (E.inside v u) (F.inside v u) d) → (b ≡ true → SetAlike d) → LocalAlike E F u b vs d
  local_of u true vs d f g = spread_of u vs d f (g refl)
  local_of u false vs d f g = f

  locals_of : (u : Routine) (b : Bool) (vs : List Actor) (ds : List Declaration) → ((v : Actor) → OneOf v vs → AllByRecursion (λ d. Alike (E.inside v u) (F.inside v u) d.start) ds)
      → (b ≡ true → AllByRecursion (λ d. SetAlike d.start) ds) → AllByRecursion (λ d. LocalAlike E F u b vs d.start) ds
  locals_of u b vs [] f g = tt
  locals_of u b vs (d ∷ ds) f g = (local_of u b vs d.start (λ v m. (f v m).0) (λ q. (g q).0), locals_of u b vs ds (λ v m. (f v m).1) (λ q. (g q).1))

  pub starts_alike : (vs : List Actor) → actors P ≡ Ok vs → StartsAlike E F a vs
  starts_alike vs e = record {
    globals = globals_outside a.globals (both_none (in_declared a.globals (sight_inside a o)) _ (rules_of_names a o h.accepted.names).0).0;
    procedures = λ u m.
        locals_of u (is_multiprocess a.main) vs (locals u) (λ v n. locals_inside v (has_identifier P v (vs, e, n)) u (one_left u (procedure_routines a) (main_routines a a.main) m))
        (λ q. all_single (locals u) (locals_single o a h.accepted u m));
    processes = λ u m.
        let k = one_right u (procedure_routines a) (main_routines a a.main) m in
        locals_of u u.spread (running u vs) (locals u) (λ v n. locals_inside v (has_identifier P v (vs, e, running_one u vs v n)) u k)
        (λ q. sets_alike u k (locals u) (all_fine o a h values u k) ((writable o a h).routines u k).locals (sets_aside o a h u m q));
  }
