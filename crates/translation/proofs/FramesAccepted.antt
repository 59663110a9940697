-- In an accepted algorithm a `with` binds no variable of the translation and nothing that an initial value reads; pc and the stack are where each process has them.
use Rattle.std.proofs.Common.{◌≡◌, List, [], ◌∷◌, ◌++◌, map, Bool, true, false, ◌||◌, ◌&&◌, not, cond, bytes_eq, codes, Option, Some, None, inl, inr, refl, sym, ap, ◌∙◌, Ok}
use Rattle.std.proofs.lemmas.Bool.{or_right, both_ways}
use Rattle.std.proofs.lemmas.Slice.Eq.{bytes_eq-Decides}
use Rattle.tla_token.specs.declared.place.Place.{Place}
use Rattle.tla_token.specs.Signs.{is_among}
use Rattle.tla_token.specs.Words.{is_own, is_standard}
use Rattle.tla_tree.specs.Tree.{Word, Each, Form, name, operator_call, Tree, node, Trees, no_trees, tree, seen_names}
use Rattle.tla_tree.specs.laws.Writable.{IsIdentifier, IsWritable, AreWritable, names_in}
use Rattle.tla_value.specs.Definitions.{Valuation, Definition, or_sense, base, with_arguments, body_sense, defined, with_definitions, scope_of, no_state}
use Rattle.tla_value.specs.Grafts.{own_part, read_tree}
use Rattle.tla_value.specs.Meaning.{Env, just}
use Rattle.tla_value.specs.Outside.{Outside, ReadDefinition, found}
use Rattle.tla_value.specs.Standard.{standard_name}
use Rattle.tla_value.specs.Stops.{Check, plain}
use Rattle.tla_value.specs.Value.{Value}
use Rattle.tla_value.specs.laws.FreeNames.{Or, Also, FormReads, FreeNames, FreeInParts, Any}
use Rattle.tla_value.specs.laws.Untitled.{Untitled}
use Rattle.tla_value.proofs.Untitled.{looked_through}
use Rattle.module_tree.specs.Formulas.{self, unset_value}
use Rattle.pcal_tree.specs.Algorithm.{Declaration, declares, Main, alone, processes, Routine, locals, procedure_routines, main_routines, routines, Algorithm}
use Rattle.pcal_tree.specs.Algorithm as written_as
use Rattle.pcal_tree.specs.Calls.{defaultInitValue}
use Rattle.pcal_tree.specs.OffencesRebind.{in_scope, may_rebind, standing_inside}
use Rattle.pcal_tree.specs.Processes.{OneOf, IsActor, identifier}
use Rattle.pcal_tree.specs.Program.{Program, Actor, index, inner, written}
use Rattle.pcal_tree.specs.Programs.{program_in}
use Rattle.pcal_tree.specs.Scope.{State, Scope, value_of}
use Rattle.pcal_tree.specs.Variables.{declared, vars, pc, stack, stack_for, written_by_all}
use Rattle.pcal_tree.proofs.CallsFine.{free_weaker}
use Rattle.action_builder.specs.OwnVariables.{own_under, own_variables, is_own_variable}
use Rattle.action_builder.specs.Written.{old_stack}
use Rattle.action_builder.specs.laws.Ready.{values_of}
use Rattle.action_builder.specs.laws.Scopes.{own_path, own_scope, with_names, AllNamed}
use Rattle.action_builder.specs.laws.StepsOfLabels.{PcStands}
use Rattle.action_builder.specs.laws.WrittenScope.{self_bound, definitions_of, written_scope}
use Rattle.action_builder.proofs.RoutinesStand.{FramesStand}
use Rattle.translation.specs.laws.AcceptedAlgorithm.{IsAcceptedInFile}
use Rattle.translation.specs.laws.AcceptedLaws.{extra_of, may_bind}
use Rattle.translation.proofs.NamesApart.{IsNamed, self_none, self_some, writable, free, never, own_differs, false_among, extra_untitled_by, untitled_mapped, untitled_joined}
use Rattle.translation.proofs.NamesOfRules.{Unreserved, not_own, turned}
use Rattle.translation.proofs.RoutinesNamed.{one_each_of, among_later, among_before, local_free, declared_each}
use Rattle.translation.proofs.TidySteps.{no_old}
use Rattle.translation.proofs.VariableNames.{each_from, none_among, vars_each, stack_each, own_each}
use Rattle.pcal_tree.proofs.GraftsRead.{also_weaker}

-- ---- names that are read free, and identifiers

also_and : (N : Word → Type 0) (xs : List Word) (y : Word) → IsIdentifier y → Also xs N y → Also xs (λ z. N z × IsIdentifier z) y
also_and N [] y i h = (h, i)
also_and N (x ∷ xs) y i h = also_weaker (λ z. Or x N z × IsIdentifier z) (Or x (λ z. N z × IsIdentifier z)) turn xs y (also_and (Or x N) xs y i h)
  where
    turn : (z : Word) → Or x N z × IsIdentifier z → Or x (λ w. N w × IsIdentifier w) z
    turn z (inl e, j) = inl e
    turn z (inr n, j) = inr (n, j)

form_named : (N : Word → Type 0) (m : Form) → Each IsIdentifier (names_in m) → FormReads N Any m → FormReads (λ z. N z × IsIdentifier z) Any m
form_named N (name x) i h = (h, i.0)
form_named N (operator_call f) i h = tt
form_named N m i h = h

mutual
  pub named_free : (N : Word → Type 0) (t : Tree) → IsWritable t → FreeNames N Any t → FreeNames (λ z. N z × IsIdentifier z) Any t
  named_free N (node m at ts) w h = (form_named N m w.1 h.0, parts_named N (seen_names m) ts w.4 h.1)

  parts_named : (N : Word → Type 0) (names : List (List Word)) (ts : Trees) → AreWritable ts → FreeInParts N Any names ts → FreeInParts (λ z. N z × IsIdentifier z) Any names ts
  parts_named N names no_trees w h = tt
  parts_named N [] (tree t ts) w h = (named_free N t w.0 h.0, parts_named N [] ts w.1 h.1)
  parts_named N (xs ∷ names) (tree t ts) w h =
      (free_weaker (λ z. Also xs N z × IsIdentifier z) (Also xs (λ z. N z × IsIdentifier z)) (λ y k. also_and N xs y k.1 k.0) t (named_free (Also xs N) t w.0 h.0), parts_named N names ts w.1 h.1)

-- ---- definitions and operators

defs_passed : (c : Check) (d : Definition) (ps : List Word) (env : Env) (x : Word) → bytes_eq d.title x ≡ false → (defined c d ps env).defs x ≡ env.defs x
defs_passed c d [] env x e = refl
defs_passed c d (p ∷ ps) env x e = ap (λ (b : Bool). cond b (Some (λ at vs. body_sense c d (with_arguments (p ∷ ps) vs env) at)) (env.defs x)) e

pub defs_through : (c : Check) (ds : List Definition) (env : Env) (x : Word) → Untitled x ds → (with_definitions c ds env).defs x ≡ env.defs x
defs_through c [] env x h = refl
defs_through c (d ∷ ds) env x h = defs_through c ds (defined c d d.params env) x h.1 ∙ defs_passed c d d.params env x h.0

pub bound_defs : (w : Option Value) (e : Env) (x : Word) → (self_bound w e).defs x ≡ e.defs x
bound_defs (Some w) e x = refl
bound_defs None e x = refl

bound_now : (w : Option Value) (e : Env) (x : Word) (at : Place) → bytes_eq self x ≡ false → (self_bound w e).now x at ≡ e.now x at
bound_now (Some w) e x at q = ap (λ b. cond b (just w) (e.now x at)) q
bound_now None e x at q = refl

module _ (o : Outside) (a : Algorithm) (h : IsAcceptedInFile o a) (values : Valuation) where
  abbrev pub P : Program
  P = program_in plain o a values

  abbrev pub f : Word → Bool
  f = may_bind o P

  abbrev pub Unbound : Word → Type 0
  Unbound x = f x ≡ false

  abbrev pub us : List Routine
  us = procedure_routines a

  -- ---- variables

  globals_each : (Q : Word → Type 0) → ((x : Word) → Unreserved o x → IsIdentifier x → Q x) → Each Q (declared a.globals)
  globals_each Q k =
      each_from Q (declared a.globals)
      (λ x m. k x (one_each_of (Unreserved o) (declared a.globals) (free o a h).globals x m) (one_each_of IsIdentifier (declared a.globals) (declared_each a.globals (writable o a h).globals) x m))

  pub old_no_variable : is_among (vars P) old_stack ≡ false
  old_no_variable =
      none_among (vars P) old_stack
      (vars_each P (λ y. bytes_eq y old_stack ≡ false) (globals_each (λ y. bytes_eq y old_stack ≡ false) (λ x u i. turned old_stack x (no_old x i))) refl refl
      (λ u k y m. turned old_stack (written P u y) (no_old (written P u y) (local_free o a (writable o a h) u y k m).0)))

  pub old_not_own : is_own_variable P old_stack ≡ false
  old_not_own =
      none_among (own_variables P) old_stack
      (own_each P (λ y. bytes_eq y old_stack ≡ false) refl (stack_each P (λ y. bytes_eq y old_stack ≡ false) us refl)
      (λ u k s y m. turned old_stack (written P u y) (no_old (written P u y) (local_free o a (writable o a h) u y k m).0)))

  -- a name of the translation that is neither pc nor the stack
  own_no_variable : (x : Word) → is_own x ≡ true → bytes_eq pc x ≡ false → bytes_eq stack x ≡ false → is_among (vars P) x ≡ false
  own_no_variable x e p s =
      none_among (vars P) x
      (vars_each P (λ y. bytes_eq y x ≡ false) (globals_each (λ y. bytes_eq y x ≡ false) (λ y u i. turned x y (own_differs x y e (not_own o y u)))) p s
      (λ u k y m. turned x (written P u y) (own_differs x (written P u y) e (local_free o a (writable o a h) u y k m).1)))

  own_no_own : (x : Word) → is_own x ≡ true → bytes_eq pc x ≡ false → bytes_eq stack x ≡ false → is_own_variable P x ≡ false
  own_no_own x e p s =
      none_among (own_variables P) x
      (own_each P (λ y. bytes_eq y x ≡ false) p (stack_each P (λ y. bytes_eq y x ≡ false) us s)
      (λ u k t y m. turned x (written P u y) (own_differs x (written P u y) e (local_free o a (writable o a h) u y k m).1)))

  -- ---- names that a `with` may bind

  unbound_if : (x : Word) → bytes_eq old_stack x ≡ false → (may_rebind o.extended x && (not (in_scope (standing_inside a o) x) && not (is_among (vars P) x))) ≡ false → Unbound x
  unbound_if x q e = (λ i. q i || (may_rebind o.extended x && (not (in_scope (standing_inside a o) x) && not (is_among (vars P) x)))) ∙ e

  pub variable_unbound : (x : Word) → is_among (vars P) x ≡ true → Unbound x
  variable_unbound x e =
      unbound_if x (false_among (bytes_eq old_stack x) (λ q. never (sym (ap (is_among (vars P)) ((bytes_eq-Decides old_stack x).0 q) ∙ e) ∙ old_no_variable)))
      ((λ i. may_rebind o.extended x && (not (in_scope (standing_inside a o) x) && not (e i))) ∙ nothing (may_rebind o.extended x) (not (in_scope (standing_inside a o) x)))
    where
      nothing : (b c : Bool) → (b && (c && false)) ≡ false
      nothing true true = refl
      nothing true false = refl
      nothing false c = refl

  pub scope_unbound : (x : Word) → bytes_eq old_stack x ≡ false → in_scope (standing_inside a o) x ≡ true → Unbound x
  scope_unbound x q e = unbound_if x q ((λ i. may_rebind o.extended x && (not (e i) && not (is_among (vars P) x))) ∙ nothing (may_rebind o.extended x))
    where
      nothing : (b : Bool) → (b && false) ≡ false
      nothing true = refl
      nothing false = refl

  pub reserved_unbound : (x : Word) → bytes_eq old_stack x ≡ false → may_rebind o.extended x ≡ false → Unbound x
  reserved_unbound x q e = unbound_if x q (λ i. e i && (not (in_scope (standing_inside a o) x) && not (is_among (vars P) x)))

  pub is_bound : (x : Word) → may_rebind o.extended x ≡ true → in_scope (standing_inside a o) x ≡ false → is_among (vars P) x ≡ false → f x ≡ true
  is_bound x m s v = or_right (bytes_eq old_stack x) _ (λ i. m i && (not (s i) && not (v i)))

  pub old_bound : f old_stack ≡ true
  old_bound = refl

  -- ---- where pc and the stack are

  behind : (y : Word) → is_among (declared a.globals ++ (pc ∷ stack_for us)) y ≡ true → is_among (vars P) y ≡ true
  behind y k =
      among_before ((declared a.globals ++ (pc ∷ stack_for us)) ++ written_by_all P us) (written_by_all P (main_routines a a.main)) y
      (among_before (declared a.globals ++ (pc ∷ stack_for us)) (written_by_all P us) y k)

  pub pc_among : is_among (vars P) pc ≡ true
  pc_among = behind pc (among_later (declared a.globals) (pc ∷ stack_for us) pc refl)

  has_stack : (ws : List Routine) (u : Routine) → OneOf u ws → is_among (stack_for ws) stack ≡ true
  has_stack [] u k = absurd k
  has_stack (w ∷ ws) u k = refl

  pub stack_among : (u : Routine) → OneOf u us → is_among (vars P) stack ≡ true
  stack_among u k = behind stack (among_later (declared a.globals) (pc ∷ stack_for us) stack (or_right (bytes_eq pc stack) (is_among (stack_for us) stack) (has_stack us u k)))

  module _ (v : Actor) (actor : IsActor P v) where
    path_of : (x : Word) → ((ps : List written_as.Process) → is_among (own_under P us (main_routines a (processes ps)) (processes ps)) x ≡ true) → (m : Main) → a.main ≡ m → own_path (is_own_variable P x) (identifier v.self) ≡ index v.self
    path_of x there (alone ss) e =
        ap (λ b. own_path b (identifier v.self)) (ap (λ m. is_among (own_under P us (main_routines a m) m) x) e) ∙ sym (ap index (self_none P v ss e actor))
    path_of x there (processes ps) e =
        ap (λ b. own_path b (identifier v.self)) (ap (λ m. is_among (own_under P us (main_routines a m) m) x) e ∙ there ps) ∙ sym (by (self_some P v ps e actor))
      where
        by : IsNamed v → index v.self ≡ identifier v.self ∷ []
        by (w, q) = ap index q ∙ (λ i. identifier (sym q i) ∷ [])

    pub pc_path : own_path (is_own_variable P pc) (identifier v.self) ≡ index v.self
    pc_path = path_of pc (λ ps. refl) a.main refl

    pub stack_path : (u : Routine) → OneOf u us → own_path (is_own_variable P stack) (identifier v.self) ≡ index v.self
    stack_path u k =
        path_of stack (λ ps.
        or_right (bytes_eq pc stack) _
        (among_before (stack_for us ++ written_by_all P us) _ stack (among_before (stack_for us) (written_by_all P us) stack (has_stack us u k)))) a.main refl

    -- ---- what is reserved has no definition

    titled_other : (x : Word) → (is_own x || is_standard o.extended x) ≡ true → (t : Word) → Unreserved o t → bytes_eq t x ≡ false
    titled_other x e t u = false_among (bytes_eq t x) (λ q. never (sym e ∙ ap (λ w. is_own w || is_standard o.extended w) (sym ((bytes_eq-Decides t x).0 q)) ∙ u))

    pub untitled : (x : Word) → (is_own x || is_standard o.extended x) ≡ true → bytes_eq (codes "ProcSet") x ≡ false → Untitled x (definitions_of P ++ extra_of a)
    untitled x e p =
        untitled_joined x (definitions_of P) (extra_of a)
        (untitled_joined x (found o.definitions) (map inner a.definitions)
        (untitled_mapped x (λ (d : ReadDefinition). d.definition) o.definitions (λ d m. titled_other x e d.definition.title ((free o a h).read d m)))
        (untitled_mapped x inner a.definitions (λ d m. titled_other x e d.name.word ((free o a h).definitions d m))))
        (extra_untitled_by x a.main p)

    abbrev pub O : Scope
    O = own_scope plain self (is_own_variable P) (written_scope P (extra_of a) v)

    standard_there : (x : Word) → (is_own x || is_standard o.extended x) ≡ true → bytes_eq (codes "ProcSet") x ≡ false → (s : State) → (O.env s).defs x ≡ (base plain values).defs x
    standard_there x e p s =
        bound_defs v.self (scope_of plain values (definitions_of P ++ extra_of a) (values_of (vars P) s) no_state) x ∙ defs_through plain (definitions_of P ++ extra_of a) _ x (untitled x e p)

    pub frames_stand : (u : Routine) → OneOf u us → FramesStand values (found o.definitions) a P.naming (extra_of a) v f
    frames_stand u k = record {
      pc_among = pc_among;
      pc_path = pc_path;
      stack_among = stack_among u k;
      stack_path = stack_path u k;
      unbound = variable_unbound;
      head = λ s. standard_there (codes "Head") refl refl s;
      tail = λ s. standard_there (codes "Tail") refl refl s;
    }

    -- ---- a variable without an initial value

    within_now : (bs : List (Word × Value)) → AllNamed f bs → (x : Word) → Unbound x → (at : Place) (s : State) → ((with_names bs O).env s).now x at ≡ (O.env s).now x at
    within_now [] k x n at s = refl
    within_now (b ∷ bs) k x n at s = named (bytes_eq b.0 x) refl ∙ within_now bs k.1 x n at s
      where
        named : (c : Bool) → bytes_eq b.0 x ≡ c → cond c (just b.1) (((with_names bs O).env s).now x at) ≡ ((with_names bs O).env s).now x at
        named true q = absurd (both_ways (f x) n (ap f (sym ((bytes_eq-Decides b.0 x).0 q)) ∙ k.0))
        named false q = refl

    pub unset_fits : values (codes "defaultInitValue") ≡ Some defaultInitValue → (bs : List (Word × Value)) → AllNamed f bs → (s : State) → value_of plain unset_value (with_names bs O) s ≡ Ok defaultInitValue
    unset_fits q bs k s = λ i. (there i).value
      where
        x : Word
        x = codes "defaultInitValue"

        there : ((with_names bs O).env s).now x written_as.nowhere ≡ just defaultInitValue
        there =
            within_now bs k x (reserved_unbound x refl refl) written_as.nowhere s
            ∙ ap (λ b. read_tree plain (cond b (Some (own_part self x written_as.nowhere)) None) x written_as.nowhere ((written_scope P (extra_of a) v).env s)) (own_no_own x refl refl refl)
            ∙ bound_now v.self (scope_of plain values (definitions_of P ++ extra_of a) (values_of (vars P) s) no_state) x written_as.nowhere refl
            ∙ looked_through plain (definitions_of P ++ extra_of a) _ x written_as.nowhere (untitled x refl refl)
            ∙ ap (λ b. or_sense (cond b (Some (s x)) None) ((base plain values).now x written_as.nowhere)) (own_no_variable x refl refl refl)
            ∙ ap (λ w. or_sense w (standard_name x written_as.nowhere)) q

-- of each process
pub pc_stands : (o : Outside) (a : Algorithm) → IsAcceptedInFile o a → (values : Valuation) (v : Actor) → IsActor (program_in plain o a values) v → PcStands (program_in plain o a values) v
pc_stands o a h values v actor = record { among = pc_among o a h values; path = pc_path o a h values v actor }
