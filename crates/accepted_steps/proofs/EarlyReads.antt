-- At a start of an accepted algorithm each expression reads only variables that have their values already: what it gives then it gives in the end.
use Rattle.std.proofs.Common.{◌≡◌, List, [], ◌∷◌, ◌++◌, Bool, true, false, not, ◌&&◌, ◌||◌, cond, bytes_eq, map, Some, None, inl, inr, refl, sym, ap, ◌∙◌}
use Rattle.std.specs.List.{flat_map, list_any, AllByRecursion}
use Rattle.std.proofs.lemmas.Bool.{or_parts}
use Rattle.std.proofs.lemmas.Slice.Eq.{bytes_eq-Decides}
use Rattle.tla_token.specs.declared.rule.Rule.TheVariants.{InitLater}
use Rattle.tla_token.specs.Signs.{is_among}
use Rattle.tla_tree.specs.Tree.{Word, Name, words, Tree, Each, Every, binders, root_place}
use Rattle.tla_tree.specs.laws.Writable.{IsWritable}
use Rattle.tla_value.specs.Definitions.{Valuation, Definition}
use Rattle.tla_value.specs.Outside.{Outside, ReadDefinition, found}
use Rattle.tla_value.specs.Stops.{Check, plain}
use Rattle.tla_value.specs.laws.FreeNames.{Any, FreeNames}
use Rattle.tla_value.specs.laws.Grafting.{In, OutOf, AllSettled}
use Rattle.tla_value.specs.laws.Untitled.{Untitled}
use Rattle.tla_value.proofs.FreeNames.{free_names}
use Rattle.pcal_tree.specs.Algorithm.{Start, unset, equals, among, Declaration, declares, Routine, locals, procedure_routines, main_routines, routines, Algorithm}
use Rattle.pcal_tree.specs.BoundNames.{lists_in, lists_in_start, lists_in_declared}
use Rattle.pcal_tree.specs.Offences.{offence_if}
use Rattle.pcal_tree.specs.OffencesNames.{in_declared, in_definitions, sight_outside, sight_inside, seeing_variables}
use Rattle.pcal_tree.specs.OffencesReads.{all_variables, is_later, reads_later, later_in}
use Rattle.pcal_tree.specs.OffencesRebind.{any_name, in_scope, start_rebinds, starts_rebind, standing_inside, whole_rebinds}
use Rattle.pcal_tree.specs.Outside.{unit_names}
use Rattle.pcal_tree.specs.Processes.{OneOf}
use Rattle.pcal_tree.specs.Program.{Program, inner, globals_on, global_env, global_scope, written}
use Rattle.pcal_tree.specs.Programs.{program_in}
use Rattle.pcal_tree.specs.Reads.{used, initial, looked_at, through, readings_of}
use Rattle.pcal_tree.specs.Scope.{State}
use Rattle.pcal_tree.specs.Variables.{vars, declared, pc, stack_for, written_by_all}
use Rattle.pcal_tree.proofs.CallsFine.{throughout_both}
use Rattle.pcal_tree.proofs.ClearLabels.{both_none}
use Rattle.pcal_tree.proofs.FreeNames.{every_map}
use Rattle.pcal_tree.proofs.NothingCaptured.{Free, BindsFree, written_bare}
use Rattle.pcal_tree.proofs.RoutineNames.{one_each}
use Rattle.pcal_tree.proofs.Uncaptured.{throughout_weaker}
use Rattle.action_builder.specs.laws.WrittenScope.{AllRead, Common, definitions_of}
use Rattle.action_builder.specs.laws.Ready.{IsWithin}
use Rattle.translation.specs.laws.AcceptedAlgorithm.{IsAcceptedInFile}
use Rattle.translation.specs.laws.AcceptedLaws.{extra_of}
use Rattle.translation.specs.laws.FreshReads.{readable}
use Rattle.translation.specs.laws.WritableAlgorithm.{IsWritableStart, IsWritableDeclaration}
use Rattle.translation.proofs.AcceptedNames.{each_none, no_offence}
use Rattle.translation.proofs.BoundOf.{AllIn, BindsAll, tree_bound, in_both}
use Rattle.translation.proofs.InnerSettled.{inner_settled}
use Rattle.translation.proofs.LocalNames.{local_outside}
use Rattle.translation.proofs.NamedBodies.{among_one}
use Rattle.translation.proofs.NamesApart.{writable, mapped_among, untitled_mapped, false_among, never, outer, used_outside, global_common, defined_common}
use Rattle.translation.proofs.NamesFree.{AllOf, BindsOf, names_free}
use Rattle.translation.proofs.NamesGiven.{Bound, bound_all}
use Rattle.translation.proofs.NamesInSight.{inner_read}
use Rattle.translation.proofs.NamesOfRules.{rules_of_names}
use Rattle.translation.proofs.OutsideSettled.{operators_wider, outside_settled}
use Rattle.translation.proofs.PairsApart.{name_rules}
use Rattle.translation.proofs.PreparedSteps.{whole}
use Rattle.translation.proofs.ReadyNames.{outside_unused}
use Rattle.translation.proofs.ReadyNames as ready
use Rattle.translation.proofs.RoutinesNamed.{among_before, among_later}
use Rattle.translation.proofs.StepNames.{any_none, any_each, negated}
use Rattle.translation.proofs.UsedNames.{none_looked_at, reads_used}
use Rattle.translation.proofs.VariableNames.{one_is_among}
use Rattle.accepted_steps.specs.StartedStates.{HandsOn}
use Rattle.accepted_steps.proofs.Lists.{Once, Settles, later_none}
use Rattle.accepted_steps.proofs.Parts.{OfStart, Same, SameForAll}
use Rattle.accepted_steps.proofs.ScopesOfStates.{scope_alike, global_alike, routine_alike}
use Rattle.accepted_steps.proofs.Starts.{names_of_globals, names_of_locals, names_of_routines, names_of_all_routines, once_locals, GlobalsRead, LocalsRead, RoutinesRead}

-- ---- truth values and lists

both_true : (a b : Bool) → (a && b) ≡ true → (a ≡ true) × (b ≡ true)
both_true true b e = (refl, e)
both_true false b e = cc

not_both : (a b : Bool) → a ≡ true → (a && not b) ≡ false → b ≡ true
not_both true true e q = refl
not_both true false e q = cc
not_both false b e q = cc

any_both : (f : Word → Bool) (xs ys : List Word) → list_any f (xs ++ ys) ≡ false → (list_any f xs ≡ false) × (list_any f ys ≡ false)
any_both f [] ys e = (refl, e)
any_both f (x ∷ xs) ys e =
    let p = or_parts (f x) (list_any f (xs ++ ys)) e in
    let q = any_both f xs ys p.1 in
    ((λ i. p.0 i || q.0 i), q.1)

settled_both : (A : Word → Bool) (U : Word → Type 0) (ds es : List Definition) → AllSettled A U ds → AllSettled A U es → AllSettled A U (ds ++ es)
settled_both A U [] es h k = k
settled_both A U (d ∷ ds) es h k = (h.0, settled_both A U ds es h.1 k)

-- ---- an accepted algorithm

module _ (c : Check) (o : Outside) (a : Algorithm) (h : IsAcceptedInFile o a) (values : Valuation) where
  abbrev P : Program
  P = program_in c o a values

  abbrev Q : Program
  Q = program_in plain o a values

  global_there : (x : Word) → declares a.globals x ≡ true → is_among (vars Q) x ≡ true
  global_there x e =
      let us = procedure_routines a in
      among_before ((declared a.globals ++ (pc ∷ stack_for us)) ++ written_by_all Q us) (written_by_all Q (main_routines a a.main)) x
      (among_before (declared a.globals ++ (pc ∷ stack_for us)) (written_by_all Q us) x (among_before (declared a.globals) (pc ∷ stack_for us) x e))

  -- what is declared is among those before, where it isn't later
  not_late : (before : List Word) (y : Word) → is_later a before y ≡ false → is_among (all_variables a) y ≡ true → is_among before y ≡ true
  not_late before y e k = not_both (is_among (all_variables a) y) (is_among before y) k e

  -- ---- what an expression of a global reads

  module _ (rest : List Word) where
    abbrev A : Word → Bool
    A x = declares a.globals x && is_among rest x

    abbrev U : Word → Bool
    U = readable a A

    abbrev N : Word → Type 0
    N = OutOf A (In U)

    within : IsWithin A (is_among (vars Q))
    within x e = global_there x (both_true (declares a.globals x) (is_among rest x) e).0

    outside_untitled : (x : Word) → is_among (vars Q) x ≡ true → Untitled x (found o.definitions)
    outside_untitled x e =
        untitled_mapped x (λ (d : ReadDefinition). d.definition) o.definitions
        (λ d m. false_among (bytes_eq d.definition.title x) (λ q. never (sym (titled d m) ∙ ap (is_among (unit_names o)) ((bytes_eq-Decides d.definition.title x).0 q) ∙ (outer o a h values x e).unit)))
      where
        titled : (d : ReadDefinition) → OneOf d o.definitions → is_among (unit_names o) d.definition.title ≡ true
        titled d m =
            among_later (words o.constants) _ d.definition.title
            (among_before (map (λ (e : ReadDefinition). e.definition.title) o.definitions) _ d.definition.title (mapped_among (λ (e : ReadDefinition). e.definition.title) o.definitions d m))

    inner_reads : AllRead (Common Q (extra_of a)) (map inner a.definitions)
    inner_reads =
        let q = (both_none (in_declared a.globals (sight_inside a o)) _ (rules_of_names a o h.accepted.names).0).1 in
        inner_read o (Common Q (extra_of a)) (used_outside o a h values) a (global_common o a h values) (defined_common o a h values) (both_none (in_definitions a.definitions (seeing_variables (declared a.globals) (sight_outside o))) _ q).0

    settled : AllSettled A (In U) (definitions_of Q)
    settled =
        settled_both A (In U) (found o.definitions) (map inner a.definitions) (outside_settled o a h values A within outside_untitled)
        (inner_settled o a h values A within inner_reads (λ x e. untitled_mapped x inner a.definitions (outer o a h values x e).defined))

    module _ (before : List Word) (done : (x : Word) → is_among before x ≡ true → is_among rest x ≡ false) where
      calm : (y : Word) → is_later a before y ≡ false → A y ≡ false
      calm y e =
          false_among (A y)
          (λ q. let p = both_true (declares a.globals y) (is_among rest y) q in never (sym p.1 ∙ done y (not_late before y e (among_before (declared a.globals) (flat_map (λ (u : Routine). declared (locals u)) (routines a)) y p.0))))

      name_calm : (n : Name) → list_any (is_later a before) (looked_at (readings_of a) n) ≡ false → N n.word
      name_calm n e =
          let ys = through (readings_of a) n.word in
          let p = or_parts (is_later a before n.word) (list_any (is_later a before) ys) e in
          (negated (list_any A ys) (any_none A ys (λ y m. calm y (any_each (is_later a before) ys p.1 y m))), calm n.word p.0)

      all_calm : (ns : List Name) → list_any (is_later a before) (flat_map (looked_at (readings_of a)) ns) ≡ false → AllOf N ns
      all_calm [] e = tt
      all_calm (n ∷ ns) e =
          let p = any_both (is_later a before) (looked_at (readings_of a) n) (flat_map (looked_at (readings_of a)) ns) e in
          (name_calm n p.0, all_calm ns p.1)

      abbrev B : Word → Type 0
      B = Bound o a h values

      bound_calm : (xs : List Word) → Each B xs → Each (Free o.extended a.procedures (standing_inside a o)) xs → Each N xs
      bound_calm [] b f = tt
      bound_calm (x ∷ xs) b f = (one, bound_calm xs b.1 f.1)
        where
          out : in_scope (standing_inside a o) x ≡ false
          out = false_among (in_scope (standing_inside a o) x) (λ q. never (sym (λ i. q i && ap not b.0.1 i) ∙ f.0))

          one : N x
          one = (ap (λ (ys : List Word). not (list_any A ys)) (outside_unused o a h values x out), false_among (A x) (λ q. never (sym (ready.global_scope o a h values x (both_true (declares a.globals x) (is_among rest x) q).0) ∙ out)))

      reads_calm : (e : Tree) → IsWritable e → whole_rebinds o.extended e (standing_inside a o) ≡ [] → AllIn B (lists_in e) → reads_later a before e ≡ false → FreeNames N (In U) e
      reads_calm e i r b l = operators_wider N N (In U) (λ x f. f.0) e (names_free N e [] i every (λ x m. absurd (nothing x m)) (all_calm (used e []) l))
        where
          nothing : (y : Word) → is_among [] y ≡ true → ⊥
          nothing y e = cc

          every : Every (BindsOf N) e
          every =
              (throughout_weaker (λ n at. BindsAll B n at × BindsFree o.extended a.procedures (standing_inside a o) n at) (BindsOf N) (λ x. B x × Free o.extended a.procedures (standing_inside a o) x) (λ x. Unit {0}) (λ n at f. bound_calm (binders n) f.0 f.1) (λ x f. tt) (whole e)
              (throughout_both (BindsAll B) (BindsFree o.extended a.procedures (standing_inside a o)) B (Free o.extended a.procedures (standing_inside a o)) (whole e) (tree_bound B e b, tt)
              (written_bare o.extended a.procedures [] (whole e) (standing_inside a o) (λ i. r i ++ [])))).0

      values_agree : (s z : State) → Settles rest s z → (x : Word) → A x ≡ false → globals_on s a.globals x ≡ globals_on z a.globals x
      values_agree s z k x e = by (declares a.globals x) refl e
        where
          by : (b : Bool) → declares a.globals x ≡ b → (b && is_among rest x) ≡ false → cond b (Some (s x)) None ≡ cond b (Some (z x)) None
          by true q n = ap Some (k x n)
          by false q n = refl

      global_same : (l : HandsOn c) (e : Tree) → IsWritable e → whole_rebinds o.extended e (standing_inside a o) ≡ [] → AllIn B (lists_in e) → reads_later a before e ≡ false → (s z : State) → Settles rest s z → Same P l (global_scope P) s z e
      global_same l e i r b f s z k =
          free_names c N (In U) e (reads_calm e i r b f) _ _ (scope_alike c A (In U) values (definitions_of Q) settled (globals_on s a.globals) (globals_on z a.globals) (values_agree s z k))

  -- ---- all globals

  before_next : (before rest : List Word) (x : Word) → ((y : Word) → is_among before y ≡ true → is_among (x ∷ rest) y ≡ false) → is_among rest x ≡ false → (y : Word) → is_among (x ∷ before) y ≡ true → is_among rest y ≡ false
  before_next before rest x done e y m = by (bytes_eq x y) refl m
    where
      by : (b : Bool) → bytes_eq x y ≡ b → (b || is_among before y) ≡ true → is_among rest y ≡ false
      by true q k = ap (is_among rest) (sym ((bytes_eq-Decides x y).0 q)) ∙ e
      by false q k = later_none x y rest (done y k)

  globals_read : (l : HandsOn c) (ds : List Declaration) (before later : List Word) → ((x : Word) → is_among before x ≡ true → is_among (names_of_globals ds later) x ≡ false) → Once (names_of_globals ds later) → later_in a before ds ≡ []
      → AllByRecursion IsWritableDeclaration ds → starts_rebind o.extended any_name ds (standing_inside a o) ≡ [] → AllIn (Bound o a h values) (lists_in_declared ds) → GlobalsRead P l ds later
  globals_read l [] before later done once q i r b = tt
  globals_read l (d ∷ ds) before later done once q i r b =
      let x = d.name.word in
      let rest = names_of_globals (d ∷ ds) later in
      let p = both_none (flat_map (λ e. offence_if (reads_later a before e) InitLater (root_place e)) (initial d.start)) (later_in a (x ∷ before) ds) q in
      let t = both_none (start_rebinds o.extended any_name d.start (standing_inside a o)) (starts_rebind o.extended any_name ds (standing_inside a o)) r in
      let n = in_both (Bound o a h values) (lists_in_start d.start) (lists_in_declared ds) b in (
        (λ s z k. by rest done d.start p.0 i.0.1 t.0 n.0 s z k),
        globals_read l ds (x ∷ before) later (before_next before (names_of_globals ds later) x done once.0) once.1 p.1 i.1 t.1 n.1,
      )
    where
      by : (rest : List Word) → ((x : Word) → is_among before x ≡ true → is_among rest x ≡ false) → (d : Start) → flat_map (λ e. offence_if (reads_later a before e) InitLater (root_place e)) (initial d) ≡ [] → IsWritableStart d
          → start_rebinds o.extended any_name d (standing_inside a o) ≡ [] → AllIn (Bound o a h values) (lists_in_start d) → (s z : State) → Settles rest s z → OfStart (Same P l (global_scope P) s z) d
      by rest done unset q i r b s z k = tt
      by rest done (equals e) q i r b s z k = global_same rest before done l e i r b (no_offence _ _ (root_place e) (both_none _ [] q).0) s z k
      by rest done (among e) q i r b s z k = global_same rest before done l e i r b (no_offence _ _ (root_place e) (both_none _ [] q).0) s z k

  -- ---- a routine's own variables

  module _ (l : HandsOn c) (u : Routine) (m : OneOf u (routines a)) where
    abbrev Before : List Word → Word → Type 0
    Before before x = declares (locals u) x ≡ true → is_among before x ≡ true

    local_there : (y : Word) → declares (locals u) y ≡ true → is_among (all_variables a) y ≡ true
    local_there y e =
        among_later (declared a.globals) (flat_map (λ (v : Routine). declared (locals v)) (routines a)) y
        (one_is_among (flat_map (λ (v : Routine). declared (locals v)) (routines a)) y (one_each (λ (v : Routine). declared (locals v)) u y (routines a) m (among_one (declared (locals u)) y e)))

    reads_before : (before : List Word) (e : Tree) → IsWritable e → reads_later a before e ≡ false → FreeNames (Before before) Any e
    reads_before before e i f =
        reads_used (Before before) e i
        (every_map (λ (n : Name). is_later a before n.word ≡ false) (λ (n : Name). Before before n.word) (λ n t k. not_late before n.word t (local_there n.word k)) (used e [])
        (none_looked_at (is_later a before) (readings_of a) (used e []) f))

    abbrev Done : List Word → List Word → Type 0
    Done before rest = (x : Word) → is_among before x ≡ true → declares (locals u) x ≡ true → is_among rest (written P u x) ≡ false

    done_next : (before rest : List Word) (x : Word) → Done before (written P u x ∷ rest) → is_among rest (written P u x) ≡ false → Done (x ∷ before) rest
    done_next before rest x done e y k n = by (bytes_eq x y) refl k
      where
        by : (b : Bool) → bytes_eq x y ≡ b → (b || is_among before y) ≡ true → is_among rest (written P u y) ≡ false
        by true q j = ap (λ (w : Word). is_among rest (written P u w)) (sym ((bytes_eq-Decides x y).0 q)) ∙ e
        by false q j = later_none (written P u x) (written P u y) rest (done y j n)

    one_same : (before rest : List Word) → Done before rest → (e : Tree) → IsWritable e → reads_later a before e ≡ false → (s z : State) → Settles rest s z → global_env P s ≡ global_env P z → SameForAll P l u s z e
    one_same before rest done e i f s z k g =
        λ v. free_names c (Before before) Any e (reads_before before e i f) _ _ (routine_alike P v u s z g (Before before) (λ x n j. k (written P u x) (done x (n j) j)))

    local_same : (before rest : List Word) → Done before rest → (d : Start) → flat_map (λ e. offence_if (reads_later a before e) InitLater (root_place e)) (initial d) ≡ [] → IsWritableStart d
        → (s z : State) → Settles rest s z → global_env P s ≡ global_env P z → OfStart (SameForAll P l u s z) d
    local_same before rest done unset q i s z k g = tt
    local_same before rest done (equals e) q i s z k g = one_same before rest done e i (no_offence _ _ (root_place e) (both_none _ [] q).0) s z k g
    local_same before rest done (among e) q i s z k g = one_same before rest done e i (no_offence _ _ (root_place e) (both_none _ [] q).0) s z k g

    locals_read : (ds : List Declaration) (before later : List Word) → Done before (names_of_locals P u ds later) → Once (names_of_locals P u ds later) → ((x : Word) → declares a.globals x ≡ true → is_among (names_of_locals P u ds later) x ≡ false)
        → later_in a before ds ≡ [] → AllByRecursion IsWritableDeclaration ds → LocalsRead P l u ds later
    locals_read [] before later done once g q i = tt
    locals_read (d ∷ ds) before later done once g q i =
        let x = d.name.word in
        let rest = names_of_locals P u (d ∷ ds) later in
        let p = both_none (flat_map (λ e. offence_if (reads_later a before e) InitLater (root_place e)) (initial d.start)) (later_in a (x ∷ before) ds) q in
        let same = λ (s z : State) (k : Settles rest s z). global_alike P s z (λ y j. k y (g y j)) in (
          record { same = same; reads = λ s z k. local_same before rest done d.start p.0 i.0.1 s z k (same s z k) },
          locals_read ds (x ∷ before) later (done_next before (names_of_locals P u ds later) x done once.0) once.1 (λ y j. later_none (written P u x) y (names_of_locals P u ds later) (g y j)) p.1 i.1,
        )

  none_after : (u : Routine) (ds : List Declaration) (later : List Word) (x : Word) → is_among (names_of_locals P u ds later) x ≡ false → is_among later x ≡ false
  none_after u [] later x e = e
  none_after u (d ∷ ds) later x e = none_after u ds later x (later_none (written P u d.name.word) x (names_of_locals P u ds later) e)

  pub global_none : (us : List Routine) (later : List Word) (x : Word) → is_among (names_of_routines P us later) x ≡ false → is_among later x ≡ false
  global_none [] later x e = e
  global_none (u ∷ us) later x e = global_none us later x (none_after u (locals u) (names_of_routines P us later) x e)

  pub routines_read : (l : HandsOn c) (us : List Routine) (later : List Word) → ((u : Routine) → OneOf u us → OneOf u (routines a)) → Once (names_of_routines P us later) → ((x : Word) → declares a.globals x ≡ true → is_among (names_of_routines P us later) x ≡ false)
      → RoutinesRead P l us later
  routines_read l [] later i once g = tt
  routines_read l (u ∷ us) later i once g =
      let m = i u (inl refl) in
      let rest = names_of_routines P us later in
      let orders = (both_none (later_in a [] a.globals) _ (name_rules a o h.accepted.names).2).1 in (
        locals_read l u m (locals u) (declared a.globals) rest
            (λ x k n. absurd (never (sym (ready.global_scope o a h values x k) ∙ local_outside o a h u m x n))) once g
            (each_none (λ (v : Routine). later_in a (declared a.globals) (locals v)) (routines a) orders u m) ((writable o a h).routines u m).locals,
        routines_read l us later (λ v k. i v (inr k)) (once_locals P u (locals u) rest once) (λ x k. none_after u (locals u) rest x (g x k)),
      )

  -- ---- the whole

  pub all_globals_read : (l : HandsOn c) → Once (names_of_globals a.globals (names_of_all_routines P)) → GlobalsRead P l a.globals (names_of_all_routines P)
  all_globals_read l once =
      globals_read l a.globals [] (names_of_all_routines P) (λ x e. absurd (nothing x e)) once (both_none (later_in a [] a.globals) _ (name_rules a o h.accepted.names).2).0
      (writable o a h).globals (both_none (starts_rebind o.extended any_name a.globals (standing_inside a o)) _ (rules_of_names a o h.accepted.names).2).0
      (in_both (Bound o a h values) (lists_in_declared a.globals) _ (bound_all o a h values)).0
    where
      nothing : (y : Word) → is_among [] y ≡ true → ⊥
      nothing y e = cc
