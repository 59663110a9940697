-- In an accepted algorithm a call that is one statement with a `return` sets nothing that an initial value still rests on: written names of routines are apart, and
-- each initial value rests on no later variable.
use Rattle.std.proofs.Common.{◌≡◌, ℕ, suc, List, [], ◌∷◌, ◌++◌, Bool, true, false, ◌||◌, ◌&&◌, not, cond, bytes_eq, nat_eq, codes, Some, None, inl, inr, refl, sym, ap, subst, ◌∙◌, map, reverse}
use Rattle.std.specs.List.{flat_map, AllByRecursion}
use Rattle.std.proofs.lemmas.Bool.{or_parts, or_left, or_right, eq-eqb, eqb-true, false_from_ne_true, both_ways}
use Rattle.std.proofs.lemmas.Slice.Eq.{bytes_eq-Decides}
use Rattle.tla_token.specs.declared.place.Place.{Place}
use Rattle.tla_token.specs.declared.rule.Rule.TheVariants.{InitLater}
use Rattle.tla_token.specs.Signs.{is_among}
use Rattle.tla_token.specs.Words.{is_own, is_standard}
use Rattle.tla_tree.specs.Tree.{Word, Name, words, Each, root_place}
use Rattle.tla_value.specs.Value.{Value}
use Rattle.tla_value.specs.Stops.{plain, sense_of}
use Rattle.tla_value.specs.Outside.{Outside}
use Rattle.tla_value.specs.Definitions.{Valuation, or_sense}
use Rattle.tla_value.specs.laws.FreeNames.{FreeNames, Any, AgreeOn}
use Rattle.tla_value.proofs.FreeNames.{free_names, any_names}
use Rattle.pcal_tree.specs.Algorithm.{Start, unset, equals, among, Declaration, declares, Procedure, Routine, locals, procedure_routine, numbered, first_procedure, procedure_routines, main_routines, routines, Algorithm}
use Rattle.pcal_tree.specs.Calls.{initial_value}
use Rattle.pcal_tree.specs.Offences.{offence_if}
use Rattle.pcal_tree.specs.Names.{taken_at_start, variable, wanted, given}
use Rattle.pcal_tree.specs.OffencesNames.{names_of, repeated_names}
use Rattle.pcal_tree.specs.OffencesOfNames.{offences_of_uses, offences_of_declarations, offences_of_reads, through_each_call, name_offences}
use Rattle.pcal_tree.specs.OffencesReads.{process_offences, own_offences, all_variables, is_later, reads_later, later_in, order_offences}
use Rattle.pcal_tree.specs.OffencesRebind.{in_scope, may_rebind, rebound, rebound_all, starts_rebind, standing_outside, standing_inside, locals_rebind, procedure_rebinds, definitions_rebind, texts_rebind, any_name, macro_rebinds, rebind_offences_of}
use Rattle.pcal_tree.specs.OffencesReserved.{names_of_definition, names_of_macro, names_of_procedure, reserved_name, reserved_outside, declared_names, reserved_declared}
use Rattle.pcal_tree.specs.Processes.{OneOf}
use Rattle.pcal_tree.specs.Program.{Program, Actor, globals_on, common_env, global_env, local_index, read_at, routine_scope, written}
use Rattle.pcal_tree.specs.Programs.{program_in}
use Rattle.pcal_tree.specs.Reads.{used, initial, readings_of}
use Rattle.pcal_tree.specs.Scope.{State, put}
use Rattle.pcal_tree.specs.Variables.{declared, written_all, pc}
use Rattle.pcal_tree.proofs.ClearLabels.{both_none}
use Rattle.pcal_tree.proofs.FreeNames.{every_map, given_apart}
use Rattle.pcal_tree.proofs.OneStand.{runs_routine}
use Rattle.pcal_tree.proofs.RebindNames.{scope_of_both}
use Rattle.pcal_tree.proofs.RoutineNames.{one_each}
use Rattle.pcal_tree.proofs.TroubleLaws.{one_left}
use Rattle.action_builder.specs.laws.Jumps.{AllUnlike, RestOnEarlier, Unread, PairStands}
use Rattle.translation.specs.laws.AcceptedAlgorithm.{IsAcceptedInFile}
use Rattle.translation.specs.laws.AcceptedLaws.{PairsLaw}
use Rattle.translation.specs.laws.WritableAlgorithm.{IsWritableStart, IsWritableDeclaration, IsWritableAlgorithm}
use Rattle.translation.proofs.AcceptedAlgorithms.{text_writable}
use Rattle.translation.proofs.AcceptedNames.{each_none, no_offence, after, before, words_declared}
use Rattle.translation.proofs.CalledProcedures.{same_routine}
use Rattle.translation.proofs.RoutinesNamed.{one_each_of, among_before, among_later, names_fit, variables_named, local_wanted, local_new, no_global}
use Rattle.translation.proofs.UsedNames.{none_looked_at, reads_used}
use Rattle.translation.proofs.WrittenIdentifiers.{looked, one_given}
use Rattle.translation.proofs.NamedBodies.{among_one}
use Rattle.translation.proofs.VariableNames.{one_is_among, each_from}
pub use Rattle.pcal_tree.proofs.StepVariables.{named_one}

-- ---- lists

-- each is the written name of one that is declared
one_written_all : (P : Program) (u : Routine) (ds : List Declaration) (x : Word) → OneOf x (written_all P u ds) → (y : Word) × OneOf y (declared ds) × (x ≡ written P u y)
one_written_all P u [] x k = absurd k
one_written_all P u (d ∷ ds) x (inl e) = (d.name.word, inl refl, e)
one_written_all P u (d ∷ ds) x (inr k) = (let r = one_written_all P u ds x k in (r.0, inr r.1, r.2))

-- ---- what the rules say

-- on names that are bound again, on reserved names and on the order of initial values
pub name_rules : (a : Algorithm) (o : Outside) → name_offences a o ≡ [] → (rebind_offences_of a o ≡ []) × (reserved_declared a o ≡ []) × (order_offences a ≡ [])
name_rules a o h =
    let F = through_each_call a o in
    let p = both_none (offences_of_uses F a o) _ h in
    let q = both_none (offences_of_declarations F a o) (offences_of_reads F a) p.1 in
    let r = both_none (repeated_names a o) _ q.0 in
    let s = both_none F.rebound (reserved_declared a o) r.1 in
    let t = both_none (own_offences a) _ (both_none (process_offences a) _ q.1).1 in
    (s.0, s.1, (both_none (order_offences a) _ t.1).0)

module _ (o : Outside) (a : Algorithm) where
  -- the variables of a unit, against the names that are in scope there, and the reserved ones
  abbrev Declares : List Declaration → Type 0
  Declares ds = (rebound_all o.extended (standing_inside a o) (names_of ds) ≡ []) × (flat_map (reserved_name o) (names_of ds) ≡ [])

  procedures_declare : (n : ℕ) (ps : List Procedure)
      → flat_map (procedure_rebinds o.extended a.procedures (macro_rebinds o.extended a.procedures (reverse a.macros)) (standing_inside a o)) ps ≡ []
      → flat_map (reserved_name o) (flat_map names_of_procedure ps) ≡ []
      → (u : Routine) → OneOf u (numbered procedure_routine n ps) → Declares (locals u)
  procedures_declare n [] r s u k = absurd k
  procedures_declare n (p ∷ ps) r s u (inl e) =
      let C = macro_rebinds o.extended a.procedures (reverse a.macros) in
      let ds = p.params ++ p.variables in
      let q = both_none (procedure_rebinds o.extended a.procedures C (standing_inside a o) p) _ r in
      let t = both_none (locals_rebind o.extended ds (standing_inside a o)) _ q.0 in
      let b = before o (names_of_procedure p) (flat_map names_of_procedure ps) s in
      subst (λ (v : Routine). Declares (locals v)) (sym e)
      ((both_none (rebound_all o.extended (standing_inside a o) (names_of ds)) _ t.0).0, (both_none (reserved_name o p.name) _ b).1)
  procedures_declare n (p ∷ ps) r s u (inr k) =
      procedures_declare (suc n) ps (both_none (procedure_rebinds o.extended a.procedures (macro_rebinds o.extended a.procedures (reverse a.macros)) (standing_inside a o) p) _ r).1
      (after o (names_of_procedure p) (flat_map names_of_procedure ps) s) u k

  -- none of them is a global
  no_globals : (ns : List Name) → rebound_all o.extended (standing_inside a o) ns ≡ [] → flat_map (reserved_name o) ns ≡ [] → Each (λ x. declares a.globals x ≡ false) (words ns)
  no_globals [] r s = tt
  no_globals (n ∷ ns) r s =
      let p = both_none (rebound o.extended (standing_inside a o) n) _ r in
      let q = both_none (reserved_name o n) _ s in
      (by (declares a.globals n.word) refl (no_offence _ _ n.place p.0) (no_offence _ _ n.place q.0), no_globals ns p.1 q.1)
    where
      inside : declares a.globals n.word ≡ true → in_scope (standing_inside a o) n.word ≡ true
      inside e =
          scope_of_both (map (λ d. d.name.word) a.definitions) (standing_outside a o) n.word
          ∙ or_right (is_among (map (λ d. d.name.word) a.definitions) n.word) (in_scope (standing_outside a o) n.word)
          (scope_of_both (declared a.globals ++ _) [] n.word ∙ or_left (is_among (declared a.globals ++ _) n.word) false (among_before (declared a.globals) _ n.word e))

      by : (b : Bool) → declares a.globals n.word ≡ b → (in_scope (standing_inside a o) n.word && may_rebind o.extended n.word) ≡ false → (is_own n.word || is_standard o.extended n.word) ≡ false → b ≡ false
      by false e f g = refl
      by true e f g = absurd (both_ways (in_scope (standing_inside a o) n.word && may_rebind o.extended n.word) f ((λ i. inside e i && not (g i))))

  procedure_declares : name_offences a o ≡ [] → (u : Routine) → OneOf u (procedure_routines a) → Each (λ x. declares a.globals x ≡ false) (declared (locals u))
  procedure_declares h u k =
      let n = name_rules a o h in
      let ms = reverse a.macros in
      let s = standing_inside a o in
      let r1 = (both_none (starts_rebind o.extended any_name a.globals s) _ n.0).1 in
      let r2 = (both_none (definitions_rebind o.extended a.definitions (standing_outside a o)) _ r1).1 in
      let r3 = (both_none (texts_rebind o.extended a.procedures (macro_rebinds o.extended a.procedures) s ms) _ r2).1 in
      let r4 = (both_none (flat_map (procedure_rebinds o.extended a.procedures (macro_rebinds o.extended a.procedures ms) s) a.procedures) _ r3).0 in
      let s1 = (both_none (flat_map (reserved_name o) (declared_names a)) _ (both_none (reserved_outside o) _ n.1).1).0 in
      let s2 = after o (names_of a.globals) _ s1 in
      let s3 = after o (flat_map names_of_definition a.definitions) _ s2 in
      let s4 = after o (flat_map names_of_macro a.macros) _ s3 in
      let s5 = before o (flat_map names_of_procedure a.procedures) _ s4 in
      let d = procedures_declare (first_procedure a) a.procedures r4 s5 u k in
      subst (Each (λ x. declares a.globals x ≡ false)) (words_declared (locals u)) (no_globals (names_of (locals u)) d.0 d.1)

-- ---- initial values

module _ (o : Outside) (a : Algorithm) (values : Valuation) (v : Actor) where
  abbrev P : Program
  P = program_in plain o a values

  -- a change of a variable that is no global
  module _ (p : Routine) (x : Word) (elsewhere : declares a.globals x ≡ false) (w : Value) (s : State) where
    globals_same : globals_on (put x w s) a.globals ≡ globals_on s a.globals
    globals_same = λ i y. by y (declares a.globals y) refl (bytes_eq x y) refl i
      where
        by : (y : Word) (b : Bool) → declares a.globals y ≡ b → (c : Bool) → bytes_eq x y ≡ c → cond b (Some (cond c w (s y))) None ≡ cond b (Some (s y)) None
        by y false e c q = refl
        by y true e false q = refl
        by y true e true q = absurd (both_ways (declares a.globals x) elsewhere (ap (declares a.globals) ((bytes_eq-Decides x y).0 q) ∙ e))

    env_same : global_env P (put x w s) ≡ global_env P s
    env_same = ap (common_env P) globals_same

    -- names that don't stand for it
    abbrev Other : Word → Type 0
    Other y = declares (locals p) y ≡ true → bytes_eq x (written P p y) ≡ false

    agree : AgreeOn Other Any ((routine_scope P v p).env (put x w s)) ((routine_scope P v p).env s)
    agree = record {
      now = λ y n at. λ i. cond (bytes_eq (codes "self") y) (or_sense v.self ((env_same i).now y at)) (own y n at (declares (locals p) y) refl i);
      primed = λ y at. λ i. (env_same i).primed y at;
      defs = λ y u. λ i. (env_same i).defs y;
    }
      where
        own : (y : Word) → Other y → (at : Place) (b : Bool) → declares (locals p) y ≡ b
            → cond b (sense_of (read_at at (local_index v p) (put x w s (written P p y)))) ((global_env P (put x w s)).now y at) ≡ cond b (sense_of (read_at at (local_index v p) (s (written P p y)))) ((global_env P s).now y at)
        own y n at true e = λ i. sense_of (read_at at (local_index v p) (cond (n e i) w (s (written P p y))))
        own y n at false e = λ i. (env_same i).now y at

    -- of a value that reads only such names
    abbrev ReadsOther : Start → Type 0
    ReadsOther (equals e) = FreeNames Other Any e
    ReadsOther d = Unit {0}

    value_same : (at : Place) (d : Start) → ReadsOther d → initial_value P v p at d (put x w s) ≡ initial_value P v p at d s
    value_same at unset h = refl
    value_same at (equals e) h = λ i. (free_names plain Other Any e h _ _ agree i).value
    value_same at (among e) h = refl

    any_value_same : ((y : Word) → Other y) → (at : Place) (d : Start) → initial_value P v p at d (put x w s) ≡ initial_value P v p at d s
    any_value_same h at d = value_same at d (by d)
      where
        by : (d : Start) → ReadsOther d
        by unset = tt
        by (equals e) = any_names Other Any h (λ y. tt) e
        by (among e) = tt

-- ---- names without an offence

free_of_own : (o : Outside) (ns : List Name) → flat_map (reserved_name o) ns ≡ [] → (x : Word) → is_own x ≡ true → is_among (words ns) x ≡ false
free_of_own o [] s x e = refl
free_of_own o (n ∷ ns) s x e =
    let q = both_none (reserved_name o n) _ s in
    by (bytes_eq n.word x) refl (or_parts (is_own n.word) (is_standard o.extended n.word) (no_offence _ _ n.place q.0)).0 (free_of_own o ns q.1 x e)
  where
    by : (b : Bool) → bytes_eq n.word x ≡ b → is_own n.word ≡ false → is_among (words ns) x ≡ false → (b || is_among (words ns) x) ≡ false
    by true q k r = absurd (both_ways (is_own x) (ap is_own (sym ((bytes_eq-Decides n.word x).0 q)) ∙ k) e)
    by false q k r = r

each_joined : (f g : Word → Bool) (xs : List Word) → Each (λ x. f x ≡ false) xs → Each (λ x. g x ≡ false) xs → Each (λ x. (f x || g x) ≡ false) xs
each_joined f g [] h k = tt
each_joined f g (x ∷ xs) h k = ((λ i. h.0 i || g x) ∙ k.0, each_joined f g xs h.1 k.1)

module _ (o : Outside) (a : Algorithm) (h : IsWritableAlgorithm o a) (n : name_offences a o ≡ []) (values : Valuation) (v : Actor) where
  abbrev Q : Program
  Q = program_in plain o a values

  -- variables of different units
  apart_units : (u p : Routine) → OneOf u (routines a) → OneOf p (routines a) → nat_eq u.number p.number ≡ false → (x y : Word) → OneOf x (declared (locals u)) → OneOf y (declared (locals p))
      → bytes_eq (written Q u x) (written Q p y) ≡ false
  apart_units u p k l d x y i j =
      false_from_ne_true (bytes_eq (written Q u x) (written Q p y))
      (λ e.
      let f = looked o.extended (taken_at_start a o) (wanted a) u.number variable x (local_wanted o a h u x k i) in
      let g = looked o.extended (taken_at_start a o) (wanted a) p.number variable y (local_wanted o a h p y l j) in
      let same : f.found ≡ g.found =
      one_given (given a o) f.found g.found (given_apart o.extended (taken_at_start a o) (wanted a) h.few) f.listed g.listed (sym f.written ∙ (bytes_eq-Decides (written Q u x) (written Q p y)).0 e ∙ g.written) in
      let q : u.number ≡ p.number = ap (λ w. w.unit) (sym f.is ∙ ap (λ z. z.want) same ∙ g.is) in
      both_ways (nat_eq u.number p.number) d (eq-eqb u.number p.number q))

  pc_no_global : declares a.globals pc ≡ false
  pc_no_global =
      let r = name_rules a o n in
      let s = (both_none (flat_map (reserved_name o) (declared_names a)) _ (both_none (reserved_outside o) _ r.1).1).0 in
      sym (ap (λ xs. is_among xs pc) (words_declared a.globals)) ∙ free_of_own o (names_of a.globals) (before o (names_of a.globals) _ s) pc refl

  among_all : (p : Routine) → OneOf p (routines a) → (y : Word) → declares (locals p) y ≡ true → is_among (all_variables a) y ≡ true
  among_all p k y e =
      among_later (declared a.globals) (flat_map (λ u. declared (locals u)) (routines a)) y
      (one_is_among (flat_map (λ u. declared (locals u)) (routines a)) y (one_each (λ (u : Routine). declared (locals u)) p y (routines a) k (among_one (declared (locals p)) y e)))

  module _ (p : Routine) (k : OneOf p (routines a)) where
    one_local : (x : Word) → OneOf x (declared (locals p)) → OneOf (written Q p x) (written_all Q p (locals p))
    one_local x l = in_map (declared (locals p)) l
      where
        in_map : (xs : List Word) → OneOf x xs → OneOf (written Q p x) (map (written Q p) xs)
        in_map [] j = absurd j
        in_map (y ∷ ys) (inl e) = inl (ap (written Q p) e)
        in_map (y ∷ ys) (inr j) = inr (in_map ys j)

    -- a value that rests on no later variable
    reads_earlier : (earlier : List Word) (x : Word) → OneOf x (declared (locals p)) → is_among earlier x ≡ false → (elsewhere : declares a.globals (written Q p x) ≡ false) (w : Value) (s : State) → (d : Start) → IsWritableStart d
        → flat_map (λ e. offence_if (reads_later a earlier e) InitLater (root_place e)) (initial d) ≡ [] → ReadsOther o a values v p (written Q p x) elsewhere w s d
    reads_earlier earlier x l f elsewhere w s unset i q = tt
    reads_earlier earlier x l f elsewhere w s (among e) i q = tt
    reads_earlier earlier x l f elsewhere w s (equals e) i q =
        reads_used (Other o a values v p (written Q p x) elsewhere w s) e i
        (every_map (λ (m : Name). is_later a earlier m.word ≡ false) (λ (m : Name). Other o a values v p (written Q p x) elsewhere w s m.word) (λ m t. other m.word t) (used e [])
        (none_looked_at (is_later a earlier) (readings_of a) (used e []) (no_offence _ _ (root_place e) (both_none _ [] q).0)))
      where
        other : (y : Word) → is_later a earlier y ≡ false → declares (locals p) y ≡ true → bytes_eq (written Q p x) (written Q p y) ≡ false
        other y t e' =
            false_from_ne_true (bytes_eq (written Q p x) (written Q p y))
            (λ z.
            let same = (bytes_eq-Decides x y).0 ((variables_named o a h p k).apart x y l (among_one (declared (locals p)) y e') z) in
            both_ways (is_later a earlier y) t (λ i. among_all p k y e' i && not ((ap (is_among earlier) (sym same) ∙ f) i)))

    rests : (earlier : List Word) (ds : List Declaration) → later_in a earlier ds ≡ [] → Each (λ x. is_among earlier x ≡ false) (declared ds) → AllUnlike (declared ds)
        → ((x : Word) → OneOf x (declared ds) → OneOf x (declared (locals p))) → AllByRecursion IsWritableDeclaration ds → (at : Place) → RestOnEarlier Q v p at ds
    rests earlier [] q f u i c at = tt
    rests earlier (d ∷ ds) q f u i c at =
        let r = both_none _ (later_in a (d.name.word ∷ earlier) ds) q in (
          (
            (λ w s. any_value_same o a values v p pc pc_no_global w s (λ y e. one_each_of (λ z. bytes_eq pc z ≡ false) _ (names_fit o a h p k).pc (written Q p y) (one_local y (among_one (declared (locals p)) y e))) at d.start),
            each_from _ (written_all Q p (d ∷ ds)) (λ x l w s.
                let m = one_written_all Q p (d ∷ ds) x l in
                let elsewhere = no_global o a h (written Q p m.0) (local_new o a h p m.0 k (i m.0 m.1)) in
                subst (λ z. initial_value Q v p at d.start (put z w s) ≡ initial_value Q v p at d.start s) (sym m.2)
                (value_same o a values v p (written Q p m.0) elsewhere w s at d.start
                (reads_earlier earlier m.0 (i m.0 m.1) (one_each_of (λ z. is_among earlier z ≡ false) (declared (d ∷ ds)) f m.0 m.1) elsewhere w s d.start c.0.1 r.0))),
          ),
          rests (d.name.word ∷ earlier) ds r.1 (each_joined (bytes_eq d.name.word) (is_among earlier) (declared ds) u.0 f.1) u.1 (λ x j. i x (inr j)) c.1 at,
        )

    rests_after : (earlier : List Word) (es ds : List Declaration) → later_in a earlier (es ++ ds) ≡ [] → Each (λ x. is_among earlier x ≡ false) (declared (es ++ ds)) → AllUnlike (declared (es ++ ds))
        → ((x : Word) → OneOf x (declared (es ++ ds)) → OneOf x (declared (locals p))) → AllByRecursion IsWritableDeclaration (es ++ ds) → (at : Place) → RestOnEarlier Q v p at ds
    rests_after earlier [] ds q f u i c at = rests earlier ds q f u i c at
    rests_after earlier (e ∷ es) ds q f u i c at =
        rests_after (e.name.word ∷ earlier) es ds (both_none _ (later_in a (e.name.word ∷ earlier) (es ++ ds)) q).1 (each_joined (bytes_eq e.name.word) (is_among earlier) (declared (es ++ ds)) u.0 f.1) u.1 (λ x j. i x (inr j)) c.1 at

    -- nor does one rest on a variable of another unit
    unread : (u : Routine) → OneOf u (routines a) → nat_eq u.number p.number ≡ false → (at : Place) (ds : List Declaration) → Unread Q v p at (written_all Q u (locals u)) ds
    unread u l d at [] = tt
    unread u l d at (e ∷ ds) = (
      each_from _ (written_all Q u (locals u)) (λ x j w s.
          let m = one_written_all Q u (locals u) x j in
          let elsewhere = no_global o a h (written Q u m.0) (local_new o a h u m.0 l m.1) in
          subst (λ z. initial_value Q v p at e.start (put z w s) ≡ initial_value Q v p at e.start s) (sym m.2)
          (any_value_same o a values v p (written Q u m.0) elsewhere w s (λ y t. apart_units u p l k d m.0 y m.1 (among_one (declared (locals p)) y t)) at e.start)),
      unread u l d at ds,
    )

  pair_stands : (u p : Routine) → OneOf u (routines a) → OneOf p (procedure_routines a) → PairStands Q v u p
  pair_stands u p k q =
      let l = one_left p (procedure_routines a) (main_routines a a.main) q in
      record {
        same = λ e. same_routine a u p k q (eqb-true u.number p.number e);
        pc_of_u = (names_fit o a h u k).pc;
        pc_of_p = (names_fit o a h p l).pc;
        stack_of_u = (names_fit o a h u k).stack;
        stack_of_p = (names_fit o a h p l).stack;
        apart = λ d. each_from _ (written_all Q u (locals u)) (λ x i.
            let m = one_written_all Q u (locals u) x i in
            each_from _ (written_all Q p (locals p)) (λ y j.
            let r = one_written_all Q p (locals p) y j in
            (λ i. bytes_eq (m.2 i) (r.2 i)) ∙ apart_units u p k l d m.0 r.0 m.1 r.1));
        once = (names_fit o a h p l).apart;
        initials = λ at. rests_after p l (declared a.globals) p.params p.variables (each_none (λ (w : Routine). later_in a (declared a.globals) (locals w)) (routines a) (both_none _ _ (name_rules a o n).2).1 p l)
            (procedure_declares o a n p q) (h.routines p l).once (λ x j. j) (h.routines p l).locals at;
        unread = λ d at. unread p l u k d at p.variables;
      }

pub pairs_law : PairsLaw IsAcceptedInFile
pairs_law o g f values v u actor runs x p e =
    pair_stands o g (text_writable f.file o g f.accepted f.short f.outside) f.accepted.names values v u p (runs_routine (program_in plain o g values) v u actor runs) (named_one x (procedure_routines g) p e)
