-- What an accepted algorithm's calls and returns ask of names; and that no name is bound in a step which is a variable's or a definition's.
use Rattle.std.proofs.Common.{◌≡◌, List, [], ◌∷◌, ◌++◌, reverse, Bool, true, false, ◌||◌, ◌&&◌, not, nat_eq, cond, codes, Some, inl, inr, refl, sym, ap, subst, ◌∙◌}
use Rattle.std.proofs.lemmas.Bool.{both_ways, eq-eqb, eqb-true}
use Rattle.std.specs.List.{AllByRecursion}
use Rattle.tla_token.specs.declared.place.Place.{Place}
use Rattle.tla_token.specs.Words.{is_own, is_standard}
use Rattle.tla_tree.specs.Tree.{Word, Form, name, next, operator_call, binding, local, Tree, node, Trees, no_trees, tree, Each, Every, EveryOf, binders}
use Rattle.tla_tree.specs.laws.Writable.{IsIdentifier, IsWritable, AreWritable, names_in}
use Rattle.tla_value.specs.Definitions.{Valuation}
use Rattle.tla_value.specs.Outside.{Outside}
use Rattle.tla_value.specs.Stops.{plain}
use Rattle.tla_value.specs.laws.Grafting.{IsUnprimed}
use Rattle.pcal_tree.specs.Algorithm.{Assignments, no_assignments, assignment, Binds, no_binds, one_of, is, Statement, assign, await, print, assert, skip, branch, either, with, while, goto, macro, call, return, Statements, done, then, mark, Branches, no_branches, or, Start, unset, equals, among, Declaration, Definition, declares, Routine, locals, procedure_routines, main_routines, routines, Algorithm}
use Rattle.pcal_tree.specs.BoundNames.{lists_in_start, lists_in_body}
use Rattle.pcal_tree.specs.Expand.{expanded}
use Rattle.pcal_tree.specs.OffencesRebind.{Standings, in_scope, may_rebind, standing_inside, naming, any_name, start_rebinds, macro_rebinds}
use Rattle.pcal_tree.specs.Calls.{routine_named}
use Rattle.pcal_tree.specs.Names.{taken_at_start, wanted}
use Rattle.pcal_tree.specs.Processes.{OneOf, IsActor}
use Rattle.pcal_tree.specs.Program.{Program, Actor, written}
use Rattle.pcal_tree.specs.Programs.{program_in}
use Rattle.pcal_tree.specs.Run.{unlabelled}
use Rattle.pcal_tree.specs.Step.{routines_of}
use Rattle.pcal_tree.specs.StepStart.{Begin, at_label}
use Rattle.pcal_tree.specs.Variables.{declared, stack}
use Rattle.pcal_tree.specs.laws.Expansion.{ThroughoutAssignments, ThroughoutBinds, ThroughoutOne, Throughout, ThroughoutSome}
use Rattle.pcal_tree.proofs.CallsFine.{throughout_both}
use Rattle.pcal_tree.proofs.FreeNames.{given_apart}
use Rattle.pcal_tree.proofs.NothingCaptured.{Free, BindsFree, written_bare}
use Rattle.pcal_tree.proofs.TroubleLaws.{one_left, one_right}
use Rattle.pcal_tree.proofs.Uncaptured.{throughout_weaker}
use Rattle.action_builder.specs.Written.{old_stack}
use Rattle.action_builder.specs.laws.WrittenScope.{NamesApart}
use Rattle.translation.specs.laws.AcceptedAlgorithm.{IsAcceptedInFile}
use Rattle.translation.specs.laws.FreshReads.{Plain}
use Rattle.translation.specs.laws.AcceptedLaws.{extra_of}
use Rattle.translation.specs.laws.NothingPrimed.{NonePrimed, StartUnprimed}
use Rattle.translation.specs.laws.StepNames.{name_of, Unused, StartReads, Called, Frames}
use Rattle.translation.specs.laws.TypedAlgorithm.{IsTypedDefinition}
use Rattle.translation.specs.laws.WritableAlgorithm.{is_variable, IsWritableStart, AreWritableAssignments, AreWritableBinds, IsWritableStatement, AreWritableStatements, AreWritableBranches}
use Rattle.translation.proofs.AcceptedNames.{each_none}
use Rattle.translation.proofs.BegunSteps.{IsRoutine, routine_one}
use Rattle.translation.proofs.BoundOf.{AllIn, BindsAll, body_bound, tree_bound, in_flat}
use Rattle.translation.proofs.CalledProcedures.{one_declared}
use Rattle.translation.proofs.FramesAccepted.{stack_among, old_no_variable}
use Rattle.translation.proofs.FromLabels.{from_label, bound_pass, NoneAgain, again_pass}
use Rattle.translation.proofs.LocalNames.{main_apart, local_outside}
use Rattle.translation.proofs.MacrosSound.{typed, macros_bound, in_rest}
use Rattle.translation.proofs.NamedBodies.{among_one}
use Rattle.translation.proofs.NamesApart.{false_among, never, writable, names_apart_law}
use Rattle.translation.proofs.NamesGiven.{Bound, bound_all, once, routine_bound}
use Rattle.translation.proofs.NamesOfRules.{rules_of_names, turned}
use Rattle.translation.proofs.PreparedSteps.{whole, declared_again, declared_bound}
use Rattle.translation.proofs.ReadyNames.{BoundName, unused_of, outside_unused, reserved_unused, own_global, own_apart, names_ready, unlikes}
use Rattle.translation.proofs.RoutinesNamed.{local_wanted, variables_named}
use Rattle.translation.proofs.TidySteps.{no_old}
use Rattle.pcal_tree.proofs.OneStand.{one_number}
use Rattle.translation.proofs.VariableNames.{one_variable}
use Rattle.pcal_tree.proofs.StepVariables.{named_one}

-- ---- names that are bound are identifiers

abbrev NamesIdentifiers : Form → Place → Type 0
NamesIdentifiers m at = Each IsIdentifier (binders m)

form_identifiers : (m : Form) (at : Place) → Each IsIdentifier (names_in m) → NamesIdentifiers m at
form_identifiers (name x) at h = tt
form_identifiers (next x) at h = tt
form_identifiers (operator_call x) at h = tt
form_identifiers (binding b gs) at h = h
form_identifiers (local xs) at h = h
form_identifiers m at h = tt

mutual
  tree_identifiers : (t : Tree) → IsWritable t → Every NamesIdentifiers t
  tree_identifiers (node m at ts) h = (form_identifiers m at h.1, trees_identifiers ts h.4)

  trees_identifiers : (ts : Trees) → AreWritable ts → EveryOf NamesIdentifiers ts
  trees_identifiers no_trees h = tt
  trees_identifiers (tree t ts) h = (tree_identifiers t h.0, trees_identifiers ts h.1)

binds_identifiers : (bs : Binds) → AreWritableBinds bs → ThroughoutBinds NamesIdentifiers IsIdentifier bs
binds_identifiers no_binds h = tt
binds_identifiers (one_of x e bs) h = (tree_identifiers e h.1, h.0, binds_identifiers bs h.2)
binds_identifiers (is x e bs) h = (tree_identifiers e h.1, h.0, binds_identifiers bs h.2)

module _ (C V : Word → Bool) where
  sides_identifiers : (ms : Assignments) → AreWritableAssignments V ms → ThroughoutAssignments NamesIdentifiers ms
  sides_identifiers no_assignments h = tt
  sides_identifiers (assignment l e ms) h = (tree_identifiers l h.0.0, tree_identifiers e h.1, sides_identifiers ms h.2)

  mutual
    one_identifiers : (st : Statement) → IsWritableStatement C V st → ThroughoutOne NamesIdentifiers IsIdentifier st
    one_identifiers (assign ms) h = sides_identifiers ms h.0
    one_identifiers (await e) h = tree_identifiers e h
    one_identifiers (print e) h = tree_identifiers e h
    one_identifiers (assert e) h = tree_identifiers e h
    one_identifiers skip h = tt
    one_identifiers (branch e a b) h = (tree_identifiers e h.0, all_identifiers a h.1, all_identifiers b h.2)
    one_identifiers (either no_branches) h = tt
    one_identifiers (either (or b bs)) h = (all_identifiers b h.0, some_identifiers bs h.1)
    one_identifiers (with bs b) h = (binds_identifiers bs h.0, all_identifiers b h.1)
    one_identifiers (while e b) h = (tree_identifiers e h.0, all_identifiers b h.1)
    one_identifiers (goto l) h = tt
    one_identifiers (macro m ts) h = h
    one_identifiers (call p ts) h = trees_identifiers ts h.1
    one_identifiers return h = tt

    all_identifiers : (b : Statements) → AreWritableStatements C V b → Throughout NamesIdentifiers IsIdentifier b
    all_identifiers done h = tt
    all_identifiers (then at st rest) h = (one_identifiers st h.0, all_identifiers rest h.1)
    all_identifiers (mark l k rest) h = tt

    some_identifiers : (bs : Branches) → AreWritableBranches C V bs → ThroughoutSome NamesIdentifiers IsIdentifier bs
    some_identifiers no_branches h = tt
    some_identifiers (or b bs) h = (all_identifiers b h.0, some_identifiers bs h.1)

module _ (o : Outside) (a : Algorithm) (h : IsAcceptedInFile o a) (values : Valuation) where
  abbrev B : Word → Type 0
  B = Bound o a h values

  abbrev Name : Word → Type 0
  Name = BoundName o a h values

  -- where at least what is declared is in scope
  abbrev Inside : Standings → Type 0
  Inside s = (y : Word) → in_scope (standing_inside a o) y ≡ true → in_scope s y ≡ true

  bound_name : (s : Standings) → Inside s → (x : Word) → B x → Free o.extended a.procedures s x → IsIdentifier x → Name x
  bound_name s m x b f i = record {
    bound = b;
    outside = false_among (in_scope (standing_inside a o) x) (λ q. never (sym (seen q) ∙ f));
    new = no_old x i;
  }
    where
      seen : in_scope (standing_inside a o) x ≡ true → (in_scope s x && may_rebind o.extended x) ≡ true
      seen q = (λ i. m x q i && ap not b.1 i)

  all_names : (s : Standings) → Inside s → (xs : List Word) → Each B xs → Each (Free o.extended a.procedures s) xs → Each IsIdentifier xs → Each Name xs
  all_names s m [] b f i = tt
  all_names s m (x ∷ xs) b f i = (bound_name s m x b.0 f.0 i.0, all_names s m xs b.1 f.1 i.1)

  all_plain : (s : Standings) → Inside s → (b : Statements) → Throughout (BindsAll B) B b → Throughout (BindsFree o.extended a.procedures s) (Free o.extended a.procedures s) b → Throughout NamesIdentifiers IsIdentifier b → NonePrimed b
      → Throughout (Plain Name) Name b
  all_plain s m b x y z w =
      throughout_weaker _ _ _ _ (λ n at f. (all_names s m (binders n) f.0.0 f.0.1 f.1.0, f.1.1)) (λ n f. bound_name s m n f.0.0 f.0.1 f.1.0) b
      (throughout_both (λ n at. BindsAll B n at × BindsFree o.extended a.procedures s n at) (λ n at. NamesIdentifiers n at × IsUnprimed n at) (λ n. B n × Free o.extended a.procedures s n) (λ n. IsIdentifier n × Unit {0}) b
      (throughout_both (BindsAll B) (BindsFree o.extended a.procedures s) B (Free o.extended a.procedures s) b x y)
      (throughout_both NamesIdentifiers (λ n at. IsUnprimed n at) IsIdentifier (λ n. Unit {0}) b z w))

  -- from a label of a routine on
  pub items_plain : (u : Routine) → OneOf u (routines a) → (l : Word) (b : Begin) → at_label u l ≡ Some b → (C V : Word → Bool) → AreWritableStatements C V (expanded (reverse a.macros) b.items) → NonePrimed (expanded (reverse a.macros) b.items)
      → Throughout (Plain Name) Name (expanded (reverse a.macros) b.items)
  items_plain u k l b e C V w n =
      let ms = reverse a.macros in
      let D = macro_rebinds o.extended a.procedures ms in
      let c = once o a h values u k in
      let again = from_label (NoneAgain o.extended a.procedures D c.standings) _ _ (again_pass o.extended a.procedures D c.standings) l unlabelled u.body u.exit b (c.standings, c.none, (λ y q. q)) e in
      let all = from_label (λ d. AllIn B (lists_in_body d)) _ _ (bound_pass B) l unlabelled u.body u.exit b (routine_bound o a B (bound_all o a h values) u k) e in
      all_plain again.0 (λ y q. again.2 y (c.scope y ∙ in_rest (declared (locals u)) (standing_inside a o) y q)) (expanded ms b.items)
      (body_bound B ms (macros_bound o a h B (bound_all o a h values)) b.items all) (written_bare o.extended a.procedures ms b.items again.0 again.1) (all_identifiers C V (expanded ms b.items) w) n

  -- ---- initial values of procedures

  abbrev pub StartsUnprimed : Type 0
  StartsUnprimed = (q : Routine) → OneOf q (procedure_routines a) → (d : Declaration) → OneOf d q.variables → StartUnprimed d.start

  one_start : (q : Routine) (s : Start) → IsWritableStart s → AllIn B (lists_in_start s) → start_rebinds o.extended any_name s (naming (declared (locals q)) (standing_inside a o)) ≡ [] → StartUnprimed s → StartReads Name s
  one_start q unset w b r n = tt
  one_start q (among e) w b r n = tt
  one_start q (equals e) w b r n =
      let s = naming (declared (locals q)) (standing_inside a o) in
      (w, (all_plain s (λ y z. in_rest (declared (locals q)) (standing_inside a o) y z) (whole e) (tree_bound B e b, tt) (written_bare o.extended a.procedures [] (whole e) s (λ i. r i ++ [])) (tree_identifiers e w, tt) (n, tt)).0)

  each_declaration : (Q : Declaration → Type 0) (es : List Declaration) → ((d : Declaration) → OneOf d es → Q d) → AllByRecursion Q es
  each_declaration Q [] f = tt
  each_declaration Q (d ∷ es) f = (f d (inl refl), each_declaration Q es (λ e m. f e (inr m)))

  module _ (primes : StartsUnprimed) where
    starts_read : (q : Routine) → OneOf q (procedure_routines a) → AllByRecursion (λ (d : Declaration). StartReads Name d.start) q.variables
    starts_read q k =
        each_declaration (λ (d : Declaration). StartReads Name d.start) q.variables (λ d m.
        (let l = one_right d q.params q.variables m in
        one_start q d.start (one_declared (locals q) ((writable o a h).routines q (one_left q (procedure_routines a) (main_routines a a.main) k)).locals d l).1
        (in_flat B (λ (c : Declaration). lists_in_start c.start) (locals q) (declared_bound o a B (bound_all o a h values) q k) d l)
        (each_none (λ (c : Declaration). start_rebinds o.extended any_name c.start (naming (declared (locals q)) (standing_inside a o))) (locals q) (declared_again o a (rules_of_names a o h.accepted.names).2 q k) d l)
        (primes q k d m)))

    -- ---- calls and returns

    abbrev P : Program
    P = program_in plain o a values

    -- of the actor, each routine that it runs has names apart
    abbrev ApartEach : Actor → Type 0
    ApartEach v = (u : Routine) → OneOf u (routines_of P v) → NamesApart P (extra_of a) v u

    written_apart : (u q : Routine) → OneOf u (routines a) → OneOf q (routines a) → nat_eq u.number q.number ≡ false → (x y : Word) → is_variable a u x ≡ true → declares (locals q) y ≡ true → name_of P u x ≡ written P q y → ⊥
    written_apart u q k j n x y v m e = by (declares (locals u) x) refl v e
      where
        one : (b : Bool) → (b || false) ≡ true → b ≡ true
        one true z = refl
        one false z = z

        by : (b : Bool) → declares (locals u) x ≡ b → (declares a.globals x || b) ≡ true → cond b (written P u x) x ≡ written P q y → ⊥
        by true l z s =
            both_ways (nat_eq u.number q.number) n
            (eq-eqb u.number q.number (one_variable o.extended (taken_at_start a o) (wanted a) u.number q.number x y (given_apart o.extended (taken_at_start a o) (wanted a) (writable o a h).few)
            (local_wanted o a (writable o a h) u x k (among_one (declared (locals u)) x l)) (local_wanted o a (writable o a h) q y j (among_one (declared (locals q)) y m)) s).0)
        by false l z s = both_ways (declares a.globals (written P q y)) ((variables_named o a (writable o a h) q j).new y (among_one (declared (locals q)) y m)) (ap (declares a.globals) (sym s) ∙ one (declares a.globals x) z)

    own_unused : (x : Word) → (is_own x || is_standard o.extended x) ≡ true → Unused P x
    own_unused x e = reserved_unused o a h values x e

    -- a routine's own names are no definitions
    local_unused : (u : Routine) → OneOf u (routines a) → (x : Word) → declares (locals u) x ≡ true → Unused P x
    local_unused u k x m = outside_unused o a h values x (local_outside o a h u k x m)

    old_unused : Unused P old_stack
    old_unused = unused_of a old_stack (λ d m. turned old_stack d.name.word (no_old d.name.word (title_identifier a.definitions (typed o a h.accepted).definitions d m)))
      where
        title_identifier : (ds : List Definition) → AllByRecursion IsTypedDefinition ds → (d : Definition) → OneOf d ds → IsIdentifier d.name.word
        title_identifier [] t d m = absurd m
        title_identifier (e ∷ es) t d (inl q) = subst (λ (c : Definition). IsIdentifier c.name.word) (sym q) t.0.0
        title_identifier (e ∷ es) t d (inr m) = title_identifier es t.1 d m

    module _ (v : Actor) (actor : IsActor P v) where
      apart_of : (u : Routine) → OneOf u (routines_of P v) → NamesApart P (extra_of a) v u
      apart_of u k = names_apart_law o a h values v u actor k

      pub called_ready : (u : Routine) → OneOf u (routines a) → (x : Word) (q : Routine) → routine_named x (procedure_routines a) ≡ Some q → Called P u Name q
      called_ready u k x q e =
          let m = named_one x (procedure_routines a) q e in
          let j = one_left q (procedure_routines a) (main_routines a a.main) m in
          record {
            names = names_ready o a h values v q j (apart_of q (inr m));
            unlike = unlikes o a h values q j;
            same = λ n. one_number a u q k j (eqb-true u.number q.number n);
            other = λ n y z l i s. written_apart u q k j n y z l i s;
            unread = local_unused q j;
            starts = starts_read q m;
          }

      pub frames_ready : (r : Bool) (u : Routine) → IsRoutine a r u → (q : Routine) → OneOf q (procedure_routines a) → Frames P u Name r
      frames_ready r u one q m =
          let k = routine_one a r u one in
          record {
            stack_among = stack_among o a h values q m;
            stack_new = own_global o a h values stack refl;
            stack_apart = own_apart o a h values u k stack refl;
            head_untitled = own_unused (codes "Head") refl;
            tail_untitled = own_unused (codes "Tail") refl;
            old_untitled = old_unused;
            old_free = old_no_variable o a h values;
            unset_untitled = own_unused (codes "defaultInitValue") refl;
            unlike = unlikes o a h values u k;
            called = called_ready u k;
            alone = λ n x p e. alone r u one n p (named_one x (procedure_routines a) p e);
          }
        where
          alone : (r : Bool) (u : Routine) → IsRoutine a r u → r ≡ false → (p : Routine) → OneOf p (procedure_routines a) → nat_eq u.number p.number ≡ false
          alone true u k n p m = absurd (never n)
          alone false u k n p m = false_among (nat_eq u.number p.number) (λ e. main_apart a u p k m (eqb-true u.number p.number e))
