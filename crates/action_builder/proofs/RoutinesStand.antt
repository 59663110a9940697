-- In the scope of the written names, also under a `with`, the variables of each routine are where calls and returns look for them, and initial values are written as they are.
use Rattle.std.proofs.Common.{◌≡◌, List, [], ◌∷◌, Bool, true, false, ◌||◌, cond, bytes_eq, codes, Some, None, refl, sym, ◌∙◌, ap, subst, Ok}
use Rattle.std.proofs.lemmas.Bool.{both_ways}
use Rattle.std.proofs.lemmas.Slice.Eq.{bytes_eq-Decides}
use Rattle.tla_token.specs.declared.place.Place.{Place}
use Rattle.tla_token.specs.Signs.{is_among}
use Rattle.tla_tree.specs.Tree.{Word, Each, Every}
use Rattle.tla_value.specs.Value.{Value}
use Rattle.tla_value.specs.Stops.{plain}
use Rattle.tla_value.specs.Standard.{first_of, rest_of, standard_sense}
use Rattle.tla_value.specs.Meaning.{just}
use Rattle.tla_value.specs.Grafts.{own_part}
use Rattle.tla_value.specs.Definitions.{Valuation, Definition}
use Rattle.tla_value.specs.laws.FreeNames.{Any, FreeNames, AgreeOn}
use Rattle.tla_value.specs.laws.Grafting.{In, BindsClear}
use Rattle.tla_value.specs.laws.Places.{AgreeButPlaces}
use Rattle.tla_value.proofs.FreeNames.{free_names}
use Rattle.tla_value.proofs.Graft.{free_law}
use Rattle.module_tree.specs.Formulas.{self, unset_value}
use Rattle.pcal_tree.specs.Algorithm.{Start, unset, equals, among, Declaration, declares, Routine, locals, Naming, Algorithm, procedure_routines}
use Rattle.pcal_tree.specs.Scope.{State, Scope, bound, value_of, origin_in}
use Rattle.pcal_tree.specs.Program.{Program, Actor, index, local_index, written, routine_scope}
use Rattle.pcal_tree.specs.Processes.{identifier}
use Rattle.pcal_tree.specs.Variables.{vars, declared, written_all, pc, stack}
use Rattle.pcal_tree.specs.Calls.{defaultInitValue, initial_value, routine_named, rules_without_macros}
use Rattle.action_builder.specs.WrittenNames.{renames, renamed}
use Rattle.action_builder.specs.OwnVariables.{is_own_variable}
use Rattle.action_builder.specs.Jumps.{written_jumps}
use Rattle.action_builder.specs.LabelActions.{no_jump_places, written_initials, initial_tree}
use Rattle.action_builder.specs.laws.Scopes.{own_path, own_scope, StandsAtPath, Inner, with_names, AllNamed}
use Rattle.action_builder.specs.laws.Settling.{DoesAsRules}
use Rattle.action_builder.specs.laws.Jumps.{RoutineStands, Initials, RoutinesStand, RoutinesStandWithin, callable, no_calls}
use Rattle.action_builder.proofs.Rules.{rules_do, rules_do_alone}
use Rattle.pcal_tree.specs.laws.ReadNames.{Reads}
use Rattle.action_builder.specs.laws.WrittenScope.{Seen, written_scope, NamesApart}
use Rattle.action_builder.proofs.WrittenScope.{routine_meets, stands}
use Rattle.module_tree.proofs.OutcomesAlike.{same_refl}

module _ (constants : Valuation) (outside : List Definition) (a : Algorithm) (names : Naming) (extra : List Definition) (v : Actor) (f : Word → Bool) where
  abbrev P : Program
  P = record { check = plain; constants = constants; outside = outside; algorithm = a; naming = names }

  abbrev O : Scope
  O = own_scope plain self (is_own_variable P) (written_scope P extra v)

  abbrev Unbound : Word → Type 0
  Unbound x = f x ≡ false

  -- ---- under a `with`

  named_now : (x w : Word) (z : Value) (sc : Scope) → f w ≡ true → Unbound x → (at : Place) (s : State) → ((bound w z sc).env s).now x at ≡ (sc.env s).now x at
  named_now x w z sc b u at s = by (bytes_eq w x) refl
    where
      by : (c : Bool) → bytes_eq w x ≡ c → cond c (just z) ((sc.env s).now x at) ≡ (sc.env s).now x at
      by true q = absurd (both_ways (f x) u (ap f (sym ((bytes_eq-Decides w x).0 q)) ∙ b))
      by false q = refl

  within_now : (bs : List (Word × Value)) → AllNamed f bs → (sc : Scope) (x : Word) → Unbound x → (at : Place) (s : State) → ((with_names bs sc).env s).now x at ≡ (sc.env s).now x at
  within_now [] h sc x u at s = refl
  within_now (b ∷ bs) h sc x u at s = named_now x b.0 b.1 (with_names bs sc) h.0 u at s ∙ within_now bs h.1 sc x u at s

  within_part : (bs : List (Word × Value)) (sc : Scope) (x : Word) (at : Place) (s : State) → (with_names bs sc).part x at s ≡ sc.part x at s
  within_part [] sc x at s = refl
  within_part (b ∷ bs) sc x at s = within_part bs sc x at s

  within_defs : (bs : List (Word × Value)) (sc : Scope) (x : Word) (s : State) → ((with_names bs sc).env s).defs x ≡ (sc.env s).defs x
  within_defs [] sc x s = refl
  within_defs (b ∷ bs) sc x s = within_defs bs sc x s

  within_primed : (bs : List (Word × Value)) (sc : Scope) (x : Word) (at : Place) (s : State) → ((with_names bs sc).env s).primed x at ≡ (sc.env s).primed x at
  within_primed [] sc x at s = refl
  within_primed (b ∷ bs) sc x at s = within_primed bs sc x at s

  within_origin : (bs : List (Word × Value)) (sc : Scope) (x : Word) (at : Place) → (with_names bs sc).origin x at ≡ sc.origin x at
  within_origin [] sc x at = refl
  within_origin (b ∷ bs) sc x at = within_origin bs sc x at

  stands_within : (bs : List (Word × Value)) → AllNamed f bs → (path : List Value) (x : Word) → Unbound x → StandsAtPath O path x → StandsAtPath (with_names bs O) path x
  stands_within bs h path x u k at s = (within_part bs O x at s ∙ (k at s).0, within_now bs h O x u at s ∙ (k at s).1)

  agree_within : (bs : List (Word × Value)) → AllNamed f bs → (s : State) → AgreeOn Unbound Any ((with_names bs O).env s) (O.env s)
  agree_within bs h s = record {
    now = λ x u at. within_now bs h O x u at s;
    primed = λ x at. within_primed bs O x at s;
    defs = λ x u. within_defs bs O x s;
  }

  -- ---- what is asked

  -- an initial value of a procedure's variable: it captures nothing and reads what is seen there; and with written names nothing that a `with` binds
  abbrev pub StartFits : Routine → Start → Type 0
  StartFits p unset = (bs : List (Word × Value)) → AllNamed f bs → (s : State) → value_of plain unset_value (with_names bs O) s ≡ Ok defaultInitValue
  StartFits p (equals e) = Every (BindsClear plain (renames P p)) e × Reads (Seen P extra p) e × FreeNames Unbound Any (renamed P p e)
  StartFits p (among e) = ⊥

  abbrev pub StartsFit : Routine → List Declaration → Type 0
  StartsFit p [] = Unit {0}
  StartsFit p (d ∷ ds) = StartFits p d.start × StartsFit p ds

  -- pc and the stack are variables, in the place where the process has them, and Head and Tail are those of Sequences
  pub record FramesStand : Type 0 where
    pub pc_among : is_among (vars P) pc ≡ true
    pub pc_path : own_path (is_own_variable P pc) (identifier v.self) ≡ index v.self
    pub stack_among : is_among (vars P) stack ≡ true
    pub stack_path : own_path (is_own_variable P stack) (identifier v.self) ≡ index v.self
    pub unbound : (x : Word) → is_among (vars P) x ≡ true → Unbound x
    pub head : (s : State) → (O.env s).defs (codes "Head") ≡ Some (standard_sense plain first_of)
    pub tail : (s : State) → (O.env s).defs (codes "Tail") ≡ Some (standard_sense plain rest_of)

  -- ---- a routine

  module _ (k : FramesStand) where
    at_path : (u : Routine) → NamesApart P extra v u → (x : Word) (path : List Value) → is_among (vars P) x ≡ true → own_path (is_own_variable P x) (identifier v.self) ≡ path → StandsAtPath O path x
    at_path u n x path m q = subst (λ z. StandsAtPath O z x) q (stands P extra v u n x m)

    each_own : (u : Routine) → NamesApart P extra v u → (bs : List (Word × Value)) → AllNamed f bs → (ds : List Declaration) → ((x : Word) → declares ds x ≡ true → declares (locals u) x ≡ true) → Each (StandsAtPath (with_names bs O) (local_index v u)) (written_all P u ds)
    each_own u n bs h [] w = tt
    each_own u n bs h (d ∷ ds) w =
        let here = w d.name.word (or_first (bytes_eq d.name.word d.name.word) (is_among (declared ds) d.name.word) ((bytes_eq-Decides d.name.word d.name.word).1 refl)) in
        let m = n.local d.name.word here in (
          stands_within bs h (local_index v u) (written P u d.name.word) (k.unbound (written P u d.name.word) m) (at_path u n (written P u d.name.word) (local_index v u) m (sym (n.path d.name.word here))),
          each_own u n bs h ds (λ x e. w x (or_second (bytes_eq d.name.word x) (is_among (declared ds) x) e)),
        )
      where
        or_first : (b c : Bool) → b ≡ true → (b || c) ≡ true
        or_first true c e = refl
        or_first false c e = cc

        or_second : (b c : Bool) → c ≡ true → (b || c) ≡ true
        or_second true c e = refl
        or_second false c e = e

    routine_stands : (u : Routine) → NamesApart P extra v u → (bs : List (Word × Value)) → AllNamed f bs → RoutineStands P v u (with_names bs O)
    routine_stands u n bs h = record {
      pc = stands_within bs h (index v.self) pc (k.unbound pc k.pc_among) (at_path u n pc (index v.self) k.pc_among k.pc_path);
      stack = stands_within bs h (index v.self) stack (k.unbound stack k.stack_among) (at_path u n stack (index v.self) k.stack_among k.stack_path);
      own = each_own u n bs h (locals u) (λ x e. e);
      head = λ s. within_defs bs O (codes "Head") s ∙ k.head s;
      tail = λ s. within_defs bs O (codes "Tail") s ∙ k.tail s;
      origin = λ x at. within_origin bs O x at ∙ own_origin x at (is_own_variable P x);
    }
      where
        own_origin : (y : Word) (at : Place) (b : Bool) → origin_in (cond b (Some (own_part self y at)) None) y at (written_scope P extra v) ≡ at
        own_origin y at true = refl
        own_origin y at false = refl

    one_initial : (p : Routine) → NamesApart P extra v p → (bs : List (Word × Value)) → AllNamed f bs → (at : Place) (d : Start) → StartFits p d → (s : State) → AgreeButPlaces (value_of plain (initial_tree P p d) (with_names bs O) s) (initial_value P v p at d s)
    one_initial p n bs h at unset g s = subst (λ o. AgreeButPlaces o (Ok defaultInitValue)) (sym (g bs h s)) refl
    one_initial p n bs h at (equals e) g s =
        subst (λ o. AgreeButPlaces o (value_of plain e (routine_scope P v p) s))
        (sym ((λ i. (free_names plain Unbound Any (renamed P p e) g.2 _ _ (agree_within bs h s) i).value) ∙ (λ i. (free_law plain (renames P p) (Seen P extra p) Any e g.0 g.1 _ _ ((routine_meets P extra v p n).env s) i).value)))
        (same_refl (value_of plain e (routine_scope P v p) s))
    one_initial p n bs h at (among e) g s = absurd g

    initials_fit : (p : Routine) → NamesApart P extra v p → (bs : List (Word × Value)) → AllNamed f bs → (at : Place) (ds : List Declaration) → StartsFit p ds → Initials P v p at (with_names bs O) ((written_initials P).initial p) ds
    initials_fit p n bs h at [] g = tt
    initials_fit p n bs h at (d ∷ ds) g = ((λ s. one_initial p n bs h at d.start g.0 s), initials_fit p n bs h at ds g.1)

    -- so the written jumps, calls and returns of u do what the rules say
    pub routines_stand : (u : Routine) → NamesApart P extra v u
        → ((x : Word) (p : Routine) → routine_named x (procedure_routines a) ≡ Some p → NamesApart P extra v p × StartsFit p p.variables)
        → RoutinesStandWithin P v u (written_initials P) f O
    routines_stand u n ns inner (bs, h, q) =
        subst (RoutinesStand P v u (written_initials P)) (sym q) (record {
          own = routine_stands u n bs h;
          called = λ x p e. routine_stands p (ns x p e).0 bs h;
          initials = λ x p e at. initials_fit p (ns x p e).0 bs h at p.variables (ns x p e).1;
        })

  -- where there are no procedures, pc is all that is asked for
  pub pc_stands : (u : Routine) → NamesApart P extra v u → is_among (vars P) pc ≡ true → own_path (is_own_variable P pc) (identifier v.self) ≡ index v.self → Unbound pc
      → (inner : Scope) → Inner f O inner → StandsAtPath inner (index v.self) pc
  pc_stands u n m q b inner (bs, h, e) =
      subst (λ sc. StandsAtPath sc (index v.self) pc) (sym e) (stands_within bs h (index v.self) pc b (subst (λ z. StandsAtPath O z pc) q (stands P extra v u n pc m)))

  pub jumps_alone : (u : Routine) → NamesApart P extra v u → is_among (vars P) pc ≡ true → own_path (is_own_variable P pc) (identifier v.self) ≡ index v.self → Unbound pc
      → DoesAsRules (rules_without_macros P v u) (written_jumps P u (written_initials P) no_jump_places) (Inner f O) (In f) no_calls
  jumps_alone u n m q b = rules_do_alone P v u (written_initials P) no_jump_places f O refl (pc_stands u n m q b)

  -- with procedures: calls, also those that are one statement with a `goto`, and returns
  pub jumps_with : FramesStand → (u : Routine) → NamesApart P extra v u
      → ((x : Word) (p : Routine) → routine_named x (procedure_routines a) ≡ Some p → NamesApart P extra v p × StartsFit p p.variables)
      → DoesAsRules (rules_without_macros P v u) (written_jumps P u (written_initials P) no_jump_places) (Inner f O) (In f) (callable P)
  jumps_with k u n ns = rules_do P v u (written_initials P) no_jump_places f O refl (routines_stand k u n ns)
