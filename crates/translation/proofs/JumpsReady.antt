-- The assignments for jumps, calls and returns are such as items can be written for, where what they assign was not assigned before.
use Rattle.std.proofs.Common.{◌≡◌, ℕ, suc, List, [], ◌∷◌, ◌++◌, Bool, true, false, ◌||◌, nat_eq, cond, bytes_eq, codes, Some, refl, sym, ap, subst, ◌∙◌}
use Rattle.std.proofs.lemmas.Bool.{both_ways, or_right, false_from_ne_true}
use Rattle.std.proofs.lemmas.Option.{same_Some}
use Rattle.std.proofs.lemmas.Slice.Eq.{bytes_eq-Decides}
use Rattle.std.specs.List.{flat_map, AllByRecursion}
use Rattle.tla_token.specs.declared.place.Place.{Place}
use Rattle.tla_token.specs.Places.{nowhere}
use Rattle.tla_token.specs.Signs.{is_among}
use Rattle.tla_tree.specs.declared.op.Op.TheVariants.{Concat}
use Rattle.tla_tree.specs.Tree.{Word, Name, Strict, operator, tuple, fields, select, strict, operator_call, Tree, node, Trees, no_trees, tree, Each, Graft, grafts, root_place}
use Rattle.tla_value.specs.Grafts.{owned}
use Rattle.module_tree.specs.Formulas.{self}
use Rattle.pcal_tree.specs.Algorithm.{Start, unset, equals, among, Declaration, declares, Routine, locals, Assignments, no_assignments, assignment, Statements, then, assign, Procedure, procedure_routine, numbered, Algorithm}
use Rattle.pcal_tree.specs.Calls.{label_name, first_label, frame_fields, routine_named}
use Rattle.pcal_tree.specs.Expand.{graft_all}
use Rattle.pcal_tree.specs.OffencesStale.{used_by_variables, used_by_call}
use Rattle.pcal_tree.specs.Paths.{roots}
use Rattle.pcal_tree.specs.Program.{Program, written}
use Rattle.pcal_tree.specs.Reads.{used, initial, Reading, through, readings_of}
use Rattle.pcal_tree.specs.Variables.{vars, declared, written_all, pc, stack}
use Rattle.action_builder.specs.Assigned.{Names}
use Rattle.action_builder.specs.Jumps.{name_at, text_at, one_assignment, spot, jump_written, field_of, kept_field, stack_rest, fields_restored, return_written, names_at, pushed_on, stack_pushed, arguments_assigned, variables_written, call_written}
use Rattle.action_builder.specs.LabelActions.{initial_tree}
use Rattle.action_builder.specs.OwnVariables.{is_own_variable}
use Rattle.action_builder.specs.WrittenNames.{renames}
use Rattle.action_builder.specs.laws.Jumps.{Unlike, AllUnlike}
use Rattle.action_builder.specs.laws.Ready.{Readable, IsWithin, Apart}
use Rattle.action_builder.proofs.FitJumps.{parameters_first}
use Rattle.translation.specs.laws.FreshReads.{fresh, AllReadFresh}
use Rattle.translation.specs.laws.StepNames.{name_of, Unused, StepNames, StartReads, Called, Frames}
use Rattle.translation.specs.laws.StepParts.{Readied}
use Rattle.translation.specs.laws.WritableAlgorithm.{is_variable}
use Rattle.translation.proofs.AskedSteps.{tree_fresh}
use Rattle.translation.proofs.ReadiedSteps.{Became}
use Rattle.translation.proofs.StepNames.{GlobalsOf, became_global, became_variables, variable_apart, fresh_globals, unused_fresh, named_reads, named_trees}
use Rattle.translation.proofs.StepsOnce as steps
use Rattle.translation.proofs.StraightSteps.{all_roots, ReadsAnyhow, WritesAnyhow, AllAnyhow, straight_ready}
use Rattle.translation.proofs.NamesFree.{AllOf, both_of}
use Rattle.action_builder.proofs.Names.{each_name}
use Rattle.translation.proofs.VariableNames.{each_joined}

-- ---- lists of names

pub each_apart : (B : Names) (xs : List Word) → Each (λ x. B x ≡ false) xs → Apart B xs
each_apart B xs h x m = each_name (λ y. B y ≡ false) xs h x m

each_behind : (Q : Word → Type 0) (xs ys : List Word) → Each Q (xs ++ ys) → Each Q ys
each_behind Q [] ys h = h
each_behind Q (x ∷ xs) ys h = each_behind Q xs ys h.1

pub unlike_behind : (xs ys : List Word) → AllUnlike (xs ++ ys) → AllUnlike ys
unlike_behind [] ys h = h
unlike_behind (x ∷ xs) ys h = unlike_behind xs ys h.1

-- xs before y, which is none of them
unlike_last : (xs : List Word) (y : Word) → AllUnlike xs → Unlike y xs → AllUnlike (xs ++ (y ∷ []))
unlike_last [] y h k = (tt, tt)
unlike_last (x ∷ xs) y h k = (each_joined (λ z. bytes_eq x z ≡ false) xs (y ∷ []) h.0 (turned x y k.0, tt), unlike_last xs y h.1 k.1)
  where
    turned : (x y : Word) → bytes_eq y x ≡ false → bytes_eq x y ≡ false
    turned x y e = false_from_ne_true (bytes_eq x y) (λ q. both_ways (bytes_eq y x) e ((bytes_eq-Decides y x).1 (sym ((bytes_eq-Decides x y).0 q))))

joined_lists : (xs ys zs : List Word) → ((xs ++ ys) ++ zs) ≡ (xs ++ (ys ++ zs))
joined_lists [] ys zs = refl
joined_lists (x ∷ xs) ys zs = ap (λ (ws : List Word). x ∷ ws) (joined_lists xs ys zs)

pub joined_none : (xs : List Word) → (xs ++ []) ≡ xs
joined_none [] = refl
joined_none (x ∷ xs) = ap (λ (ws : List Word). x ∷ ws) (joined_none xs)

-- parameters to which arguments are assigned
each_arguments : (Q : Word → Type 0) (xs : List Word) (ts : Trees) (ys : List Word) → Each Q (xs ++ ys) → Each Q (roots (arguments_assigned xs ts) ++ ys)
each_arguments Q [] no_trees ys h = h
each_arguments Q [] (tree t ts) ys h = h
each_arguments Q (x ∷ xs) no_trees ys h = each_behind Q (x ∷ xs) ys h
each_arguments Q (x ∷ xs) (tree t ts) ys h = (h.0, each_arguments Q xs ts ys h.1)

unlike_arguments : (xs : List Word) (ts : Trees) (ys : List Word) → AllUnlike (xs ++ ys) → AllUnlike (roots (arguments_assigned xs ts) ++ ys)
unlike_arguments [] no_trees ys h = h
unlike_arguments [] (tree t ts) ys h = h
unlike_arguments (x ∷ xs) no_trees ys h = unlike_behind (x ∷ xs) ys h
unlike_arguments (x ∷ xs) (tree t ts) ys h = (each_arguments (λ z. bytes_eq x z ≡ false) xs ts ys h.0, unlike_arguments xs ts ys h.1)

pub restored_roots : (at : Place) (xs : List Word) (ms : Assignments) → roots (fields_restored at xs ms) ≡ (xs ++ roots ms)
restored_roots at [] ms = refl
restored_roots at (x ∷ xs) ms = ap (λ (ws : List Word). x ∷ ws) (restored_roots at xs ms)

pub variables_roots : (P : Program) (q : Routine) (place : Declaration → Place) (start : Declaration → Tree) (es : List Declaration) (last : Statements) → all_roots (variables_written P q place start es last) ≡ (written_all P q es ++ all_roots last)
variables_roots P q place start [] last = refl
variables_roots P q place start (d ∷ es) last = ap (λ (ws : List Word). written P q d.name.word ∷ ws) (variables_roots P q place start es last)

pub each_written : (P : Program) (q : Routine) (Q : Word → Type 0) → ((x : Word) → declares (locals q) x ≡ true → Q (written P q x)) → (es : List Declaration) → ((x : Word) → declares es x ≡ true → declares (locals q) x ≡ true) → Each Q (written_all P q es)
each_written P q Q f [] w = tt
each_written P q Q f (d ∷ es) w =
    (f d.name.word (w d.name.word (λ i. itself d.name.word i || declares es d.name.word)), each_written P q Q f es (λ x m. w x (or_right (bytes_eq d.name.word x) (declares es x) m)))
  where
    itself : (x : Word) → bytes_eq x x ≡ true
    itself x = (bytes_eq-Decides x x).1 refl

-- ---- what calls read

-- in the initial values of a procedure's variables
abbrev pub used_in : Routine → List Name
used_in q = flat_map (λ d. flat_map (λ e. used e (declared (locals q))) (initial d.start)) q.variables

pub used_called : (x : Name) (n : ℕ) (ps : List Procedure) (q : Routine) → routine_named x.word (numbered procedure_routine n ps) ≡ Some q → used_by_call ps x ≡ used_in q
used_called x n [] q e = cc
used_called x n (p ∷ ps) q e = by (bytes_eq p.name.word x.word) e (used_called x (suc n) ps q)
  where
    by : (b : Bool) → cond b (Some (procedure_routine n p)) (routine_named x.word (numbered procedure_routine (suc n) ps)) ≡ Some q
        → (routine_named x.word (numbered procedure_routine (suc n) ps) ≡ Some q → used_by_call ps x ≡ used_in q) → cond b (used_by_variables p) (used_by_call ps x) ≡ used_in q
    by true f g = ap used_in (same_Some (procedure_routine n p) q f)
    by false f g = g f

module _ (P : Program) (u : Routine) (N : Word → Type 0) (k : StepNames P u N) where
  abbrev a : Algorithm
  a = P.algorithm

  abbrev ds : List Reading
  ds = readings_of a

  abbrev vs : List Word
  vs = vars P

  abbrev V : Word → Bool
  V = is_variable a u

  abbrev U : Readable
  U = fresh ds

  abbrev r : Word → Word
  r = name_of P u

  abbrev g : Graft
  g = renames P u

  abbrev h : Graft
  h = owned self (is_own_variable P)

  abbrev Anyhow : Names → Tree → Type 0
  Anyhow A e = ReadsAnyhow P u N k A e

  abbrev pub AllReadAnyhow : Names → Trees → Type 0
  AllReadAnyhow A ts = (B : Names) → GlobalsOf P u N k A B → AllReadFresh ds N B ts

  abbrev pub Writes : Names → Assignments → Type 0
  Writes A ms = WritesAnyhow P u N k A ms

  abbrev pub Straight : Names → Statements → Type 0
  Straight A b = AllAnyhow P u N k A b

  -- a variable that is no global
  abbrev pub IsNew : Word → Type 0
  IsNew x = (is_among vs x ≡ true) × (declares a.globals x ≡ false)

  -- ---- expressions

  pub unused_anyhow : (A : Names) (at : Place) (x : Word) → Unused P x → Anyhow A (name_at at x)
  unused_anyhow A at x e B q = record { free = (unused_fresh P u N k B x e, tt); plain = ((tt, tt), tt) }

  pub name_anyhow : (A : Names) (at : Place) (x : Word) → is_among vs x ≡ true → Anyhow A (name_at at x)
  name_anyhow A at x m = unused_anyhow A at x (k.untitled x m)

  pub text_anyhow : (A : Names) (at : Place) (w : Word) → Anyhow A (text_at at w)
  text_anyhow A at w B q = record { free = (tt, tt); plain = ((tt, tt), tt) }

  pub none_anyhow : (A : Names) → AllReadAnyhow A no_trees
  none_anyhow A B q = record { free = tt; plain = tt }

  pub and_anyhow : (A : Names) (t : Tree) (ts : Trees) → Anyhow A t → AllReadAnyhow A ts → AllReadAnyhow A (tree t ts)
  and_anyhow A t ts f e B q = (let x = f B q in let y = e B q in record { free = (x.free, y.free); plain = (x.plain, y.plain) })

  strict_anyhow : (A : Names) (o : Strict) (at : Place) (ts : Trees) → AllReadAnyhow A ts → Anyhow A (node (strict o) at ts)
  strict_anyhow A o at ts f B q = (let x = f B q in record { free = (tt, x.free); plain = ((tt, tt), x.plain) })

  operator_anyhow : (A : Names) (f : Word) (at : Place) (ts : Trees) → Unused P f → AllReadAnyhow A ts → Anyhow A (node (operator_call f) at ts)
  operator_anyhow A f at ts e c B q = (let x = c B q in record { free = (unused_fresh P u N k B f e, x.free); plain = ((tt, tt), x.plain) })

  pub field_anyhow : (A : Names) (at : Place) (st x : Word) → Unused P (codes "Head") → Anyhow A (name_at at st) → Anyhow A (field_of at st x)
  field_anyhow A at st x e f =
      strict_anyhow A (select x) at _ (and_anyhow A _ no_trees (operator_anyhow A (codes "Head") at _ e (and_anyhow A (name_at at st) no_trees f (none_anyhow A))) (none_anyhow A))

  pub rest_anyhow : (A : Names) (at : Place) → Unused P (codes "Tail") → is_among vs stack ≡ true → Anyhow A (stack_rest at)
  rest_anyhow A at e m = operator_anyhow A (codes "Tail") at _ e (and_anyhow A (name_at at stack) no_trees (name_anyhow A at stack m) (none_anyhow A))

  pub names_anyhow : (A : Names) (at : Place) (xs : List Word) → Each IsNew xs → AllReadAnyhow A (names_at at xs)
  names_anyhow A at [] f = none_anyhow A
  names_anyhow A at (x ∷ xs) f = and_anyhow A (name_at at x) (names_at at xs) (name_anyhow A at x f.0.0) (names_anyhow A at xs f.1)

  pub pushed_anyhow : (A : Names) (q : Routine) (at : Place) (back : Tree) (kept : Trees) (rest : Tree) → Anyhow A back → AllReadAnyhow A kept → Anyhow A rest → Anyhow A (pushed_on P q at back kept rest)
  pushed_anyhow A q at back kept rest f e c =
      strict_anyhow A (operator Concat) at _ (and_anyhow A _ (tree rest no_trees)
      (strict_anyhow A tuple at _ (and_anyhow A _ no_trees (strict_anyhow A (fields (frame_fields P q)) at _ (and_anyhow A _ (tree back kept) (text_anyhow A at (P.naming.title q.number)) (and_anyhow A back kept f e))) (none_anyhow A)))
      (and_anyhow A rest no_trees c (none_anyhow A)))

  -- ---- assignments

  pub one_write : (A : Names) (at : Place) (x : Word) (e : Tree) (ms : Assignments) → IsNew x → Anyhow A e → Writes A ms → Writes A (assignment (name_at at x) e ms)
  one_write A at x e ms n f w = ((x, refl, n.0, n.1), name_anyhow A at x n.0, f, w)

  pub restored_writes : (A : Names) (at : Place) (xs : List Word) (ms : Assignments) → Unused P (codes "Head") → is_among vs stack ≡ true → Each IsNew xs → Writes A ms → Writes A (fields_restored at xs ms)
  restored_writes A at [] ms e m f w = w
  restored_writes A at (x ∷ xs) ms e m f w = one_write A at x (kept_field at x) (fields_restored at xs ms) f.0 (field_anyhow A at stack x e (name_anyhow A at stack m)) (restored_writes A at xs ms e m f.1 w)

  pub arguments_write : (A : Names) (xs : List Word) (ts : Trees) → Each IsNew xs → AllReadAnyhow A ts → Writes A (arguments_assigned xs ts)
  arguments_write A [] no_trees f e = tt
  arguments_write A [] (tree t ts) f e = tt
  arguments_write A (x ∷ xs) no_trees f e = tt
  arguments_write A (x ∷ xs) (tree t ts) f e =
      one_write A (root_place t) x t (arguments_assigned xs ts) f.0 (λ B q. (let y = e B q in record { free = y.free.0; plain = y.plain.0 }))
      (arguments_write A xs ts f.1 (λ B q. (let y = e B q in record { free = y.free.1; plain = y.plain.1 })))

  pub jump_straight : (A : Names) (at : Place) (l : Word) → Straight A (jump_written at l)
  jump_straight A at l = (one_write A at pc (text_at at l) no_assignments (k.pc_among, k.pc_new) (text_anyhow A at l) tt, tt)

  -- ---- a jump

  pub pc_free : (A B : Names) → Became r A B → IsWithin A V → B pc ≡ false
  pc_free A B q w = false_from_ne_true (B pc) (λ b. (let z = q pc b in k.pc_apart z.0 (w z.0 z.1) z.2))

  pub ready_from : (A B : Names) → Became r A B → IsWithin A V → (b : Statements) → Straight A b → Each (λ x. B x ≡ false) (all_roots b) → AllUnlike (all_roots b) → Readied U vs B (graft_all h b)
  ready_from A B q w b f p d = straight_ready P u N k A B (became_variables P u N k A B q w) (became_global P u N k A B q w) b f (each_apart B (all_roots b) p) d

  pub goto_ready : (A B : Names) → Became r A B → IsWithin A V → (at : Place) (l : Word) → Readied U vs B (graft_all h (jump_written at l))
  goto_ready A B q w at l = ready_from A B q w (jump_written at l) (jump_straight A at l) (pc_free A B q w, tt) (tt, tt)

  -- ---- a return

  own_new : (x : Word) → declares (locals u) x ≡ true → IsNew (written P u x)
  own_new x m = (k.local x m, k.new x m)

  pub owned_new : Each IsNew (written_all P u (locals u))
  owned_new = each_written P u IsNew own_new (locals u) (λ x m. m)

  -- where none of them was assigned
  pub owned_free : (A B : Names) → Became r A B → IsWithin A V → Apart A (declared (locals u)) → Each (λ x. B x ≡ false) (written_all P u (locals u))
  owned_free A B q w p = each_written P u (λ x. B x ≡ false) free (locals u) (λ x m. m)
    where
      named : (x : Word) → declares (locals u) x ≡ true → r x ≡ written P u x
      named x m = ap (λ (b : Bool). cond b (written P u x) x) m

      free : (x : Word) → declares (locals u) x ≡ true → B (written P u x) ≡ false
      free x m = false_from_ne_true (B (written P u x)) (λ b. (let z = q (written P u x) b in
          both_ways (A x) (p x m) (ap A (sym (variable_apart P u N k z.0 x (w z.0 z.1) (or_right (declares a.globals x) (declares (locals u) x) m) (z.2 ∙ sym (named x m)))) ∙ z.1)))

  module _ (ret : Bool) (f : Frames P u N ret) where
    stack_is : IsNew stack
    stack_is = (f.stack_among, f.stack_new)

    pub stack_free : (A B : Names) → Became r A B → IsWithin A V → B stack ≡ false
    stack_free A B q w = false_from_ne_true (B stack) (λ b. (let z = q stack b in f.stack_apart z.0 (w z.0 z.1) z.2))

    pub return_ready : (A B : Names) → Became r A B → IsWithin A V → Apart A (declared (locals u)) → (at : Place) → Readied U vs B (graft_all h (return_written P u at))
    return_ready A B q w p at =
        ready_from A B q w (return_written P u at) (
          one_write A at pc (kept_field at pc) (fields_restored at xs (one_assignment (name_at at stack) (stack_rest at))) (k.pc_among, k.pc_new) (field_anyhow A at stack pc f.head_untitled (name_anyhow A at stack f.stack_among))
              (restored_writes A at xs (one_assignment (name_at at stack) (stack_rest at)) f.head_untitled f.stack_among owned_new
              (one_write A at stack (stack_rest at) no_assignments stack_is (rest_anyhow A at f.tail_untitled f.stack_among) tt)),
          tt,
        )
        (subst (Each (λ x. B x ≡ false)) (sym all) (pc_free A B q w, each_joined (λ x. B x ≡ false) xs (stack ∷ []) (owned_free A B q w p) (stack_free A B q w, tt)))
        (subst AllUnlike (sym all) (each_joined (λ x. bytes_eq pc x ≡ false) xs (stack ∷ []) f.unlike.pc (refl, tt), unlike_last xs stack f.unlike.each f.unlike.stack))
      where
        xs : List Word
        xs = written_all P u (locals u)

        all : all_roots (return_written P u at) ≡ (pc ∷ (written_all P u (locals u) ++ (stack ∷ [])))
        all = joined_none _ ∙ ap (λ (ws : List Word). pc ∷ ws) (restored_roots at (written_all P u (locals u)) (one_assignment (name_at at stack) (stack_rest at)))

    -- ---- a call

    module _ (q : Routine) (c : Called P u N q) where
      abbrev xs : List Word
      xs = written_all P q (locals q)

      pub called_new : (x : Word) → declares (locals q) x ≡ true → IsNew (written P q x)
      called_new x m = (c.names.local x m, c.names.new x m)

      declares_front : (es : List Declaration) (fs : List Declaration) (x : Word) → declares es x ≡ true → declares (es ++ fs) x ≡ true
      declares_front [] fs x m = cc
      declares_front (d ∷ es) fs x m = by (bytes_eq d.name.word x) m (declares_front es fs x)
        where
          by : (b : Bool) → (b || declares es x) ≡ true → (declares es x ≡ true → declares (es ++ fs) x ≡ true) → (b || declares (es ++ fs) x) ≡ true
          by true e t = refl
          by false e t = t e

      declares_back : (es : List Declaration) (fs : List Declaration) (x : Word) → declares fs x ≡ true → declares (es ++ fs) x ≡ true
      declares_back [] fs x m = m
      declares_back (d ∷ es) fs x m = or_right (bytes_eq d.name.word x) (declares (es ++ fs) x) (declares_back es fs x m)

      pub params_new : Each IsNew (written_all P q q.params)
      params_new = each_written P q IsNew called_new q.params (λ x m. declares_front q.params q.variables x m)

      pub all_new : Each IsNew (written_all P q (locals q))
      all_new = each_written P q IsNew called_new (locals q) (λ x m. m)

      -- none of them was assigned: a call of the routine itself by the rule, of another since names are apart
      pub called_free : (A B : Names) → Became r A B → IsWithin A V → (nat_eq u.number q.number ≡ true → Apart A (declared (locals u))) → Each (λ x. B x ≡ false) (written_all P q (locals q))
      called_free A B s w p = by (nat_eq u.number q.number) refl
        where
          other : nat_eq u.number q.number ≡ false → (x : Word) → declares (locals q) x ≡ true → B (written P q x) ≡ false
          other e x m = false_from_ne_true (B (written P q x)) (λ b. (let z = s (written P q x) b in c.other e z.0 x (w z.0 z.1) m z.2))

          by : (b : Bool) → nat_eq u.number q.number ≡ b → Each (λ x. B x ≡ false) (written_all P q (locals q))
          by true e = subst (λ (v : Routine). Each (λ x. B x ≡ false) (written_all P v (locals v))) (c.same e) (owned_free A B s w (p e))
          by false e = each_written P q (λ x. B x ≡ false) (other e) (locals q) (λ x m. m)

      -- ---- the initial values

      unread_local : (x : Word) → steps.In (declared (locals q)) x → through ds x ≡ []
      unread_local x m = c.unread x m

      start_anyhow : (A : Names) (s : Start) → StartReads N s → AllOf (λ x. U A x ≡ true) (flat_map (λ e. used e (declared (locals q))) (initial s)) → Anyhow A (initial_tree P q s)
      start_anyhow A unset t e = unused_anyhow A nowhere (codes "defaultInitValue") f.unset_untitled
      start_anyhow A (among s) t e = unused_anyhow A nowhere (codes "defaultInitValue") f.unset_untitled
      start_anyhow A (equals s) t e = λ B o.
          named_reads P q N c.names A B (fresh_globals P q N c.names A B o) s
          (tree_fresh ds N (λ x n. (k.bound x n).1) A (declared (locals q)) unread_local s t.0 t.1 (both_of (λ x. U A x ≡ true) (used s (declared (locals q))) [] e).0)

      variables_straight : (A : Names) (place : Declaration → Place) (es : List Declaration) → ((x : Word) → declares es x ≡ true → declares (locals q) x ≡ true) → AllByRecursion (λ (d : Declaration). StartReads N d.start) es
          → AllOf (λ x. U A x ≡ true) (flat_map (λ d. flat_map (λ e. used e (declared (locals q))) (initial d.start)) es)
          → (last : Statements) → Straight A last → Straight A (variables_written P q place (λ d. initial_tree P q d.start) es last)
      variables_straight A place [] w t e last b = b
      variables_straight A place (d ∷ es) w t e last b =
          let y = both_of (λ x. U A x ≡ true) (flat_map (λ e. used e (declared (locals q))) (initial d.start)) _ e in (
            one_write A (place d) (written P q d.name.word) (initial_tree P q d.start) no_assignments (called_new d.name.word (w d.name.word (λ i. itself d.name.word i || declares es d.name.word))) (start_anyhow A d.start t.0 y.0) tt,
            variables_straight A place es (λ x m. w x (or_right (bytes_eq d.name.word x) (declares es x) m)) t.1 y.1 last b,
          )
        where
          itself : (x : Word) → bytes_eq x x ≡ true
          itself x = (bytes_eq-Decides x x).1 refl

      -- ---- all that a call assigns: the stack, parameters, variables, and then more

      pub call_straight : (A : Names) (at : Place) (e : Tree) (ts : Trees) (place : Declaration → Place) (last : Statements) → Anyhow A e → AllReadAnyhow A ts → AllOf (λ x. U A x ≡ true) (used_in q) → Straight A last
          → Straight A (then (spot at) (assign (assignment (name_at at stack) e (arguments_assigned (written_all P q q.params) ts))) (variables_written P q place (λ d. initial_tree P q d.start) q.variables last))
      call_straight A at e ts place last x y z b = (
        one_write A at stack e (arguments_assigned (written_all P q q.params) ts) stack_is x (arguments_write A (written_all P q q.params) ts params_new y),
        variables_straight A place q.variables (λ x m. declares_back q.params q.variables x m) c.starts z last b,
      )

      -- what is said of the stack, the variables and what follows is said of what the call assigns
      pub call_each : (Q : Word → Type 0) (at : Place) (e : Tree) (ts : Trees) (place : Declaration → Place) (last : Statements) → Q stack → Each Q (written_all P q (locals q)) → Each Q (all_roots last)
          → Each Q (all_roots (then (spot at) (assign (assignment (name_at at stack) e (arguments_assigned (written_all P q q.params) ts))) (variables_written P q place (λ d. initial_tree P q d.start) q.variables last)))
      call_each Q at e ts place last x y z = (
        x,
        each_arguments Q (written_all P q q.params) ts _ (subst (λ (ws : List Word). Each Q (written_all P q q.params ++ ws)) (sym (variables_roots P q place _ q.variables last))
            (subst (Each Q) (joined_lists (written_all P q q.params) (written_all P q q.variables) (all_roots last))
            (each_joined Q (written_all P q q.params ++ written_all P q q.variables) (all_roots last) (subst (Each Q) (parameters_first P q) y) z))),
      )

      pub call_unlike : (at : Place) (e : Tree) (ts : Trees) (place : Declaration → Place) (last : Statements) → Each (λ x. bytes_eq stack x ≡ false) (written_all P q (locals q)) → Each (λ x. bytes_eq stack x ≡ false) (all_roots last)
          → AllUnlike (written_all P q (locals q) ++ all_roots last)
          → AllUnlike (all_roots (then (spot at) (assign (assignment (name_at at stack) e (arguments_assigned (written_all P q q.params) ts))) (variables_written P q place (λ d. initial_tree P q d.start) q.variables last)))
      call_unlike at e ts place last x y z =
          let w = written_all P q q.params in
          let v = variables_roots P q place (λ d. initial_tree P q d.start) q.variables last in
          let j = joined_lists w (written_all P q q.variables) (all_roots last) in (
            each_arguments (λ x. bytes_eq stack x ≡ false) w ts _ (subst (λ (ws : List Word). Each (λ x. bytes_eq stack x ≡ false) (w ++ ws)) (sym v) (subst (Each (λ x. bytes_eq stack x ≡ false)) j
                (each_joined (λ x. bytes_eq stack x ≡ false) (w ++ written_all P q q.variables) (all_roots last) (subst (Each (λ x. bytes_eq stack x ≡ false)) (parameters_first P q) x) y))),
            unlike_arguments w ts _ (subst (λ (ws : List Word). AllUnlike (w ++ ws)) (sym v) (subst AllUnlike j (subst (λ (ws : List Word). AllUnlike (ws ++ all_roots last)) (parameters_first P q) z))),
          )

      pub call_ready : (A B : Names) → Became r A B → IsWithin A V → (nat_eq u.number q.number ≡ true → Apart A (declared (locals u))) → AllOf (λ x. U A x ≡ true) (used_in q) → (at : Place) (ts : Trees) (back : Word) (place : Declaration → Place) → AllReadFresh ds N A ts
          → Readied U vs B (graft_all h (call_written P q at (grafts g ts) back place (λ d. initial_tree P q d.start)))
      call_ready A B s w p i at ts back place t =
          let last = jump_written at (label_name P q (first_label q)) in
          ready_from A B s w (call_written P q at (grafts g ts) back place (λ d. initial_tree P q d.start))
          (call_straight A at (stack_pushed P q at back) (grafts g ts) place last
          (pushed_anyhow A q at (text_at at back) (names_at at xs) (name_at at stack) (text_anyhow A at back) (names_anyhow A at xs all_new) (name_anyhow A at stack f.stack_among))
          (λ D o. named_trees P u N k A D (fresh_globals P u N k A D o) ts t) i (jump_straight A at (label_name P q (first_label q))))
          (call_each (λ x. B x ≡ false) at (stack_pushed P q at back) (grafts g ts) place last (stack_free A B s w) (called_free A B s w p) (pc_free A B s w, tt))
          (call_unlike at (stack_pushed P q at back) (grafts g ts) place last c.unlike.stack (refl, tt) (unlike_last xs pc c.unlike.each c.unlike.pc))
