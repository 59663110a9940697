-- A call that is one statement with a return is such that items can be written for it: the name for the old stack is written by the stack, which the first item needs.
use Rattle.std.proofs.Common.{◌≡◌, List, [], ◌∷◌, ◌++◌, Bool, true, false, nat_eq, cond, bytes_eq, codes, Some, None, refl, sym, ap, subst, ◌∙◌}
use Rattle.std.proofs.lemmas.Bool.{both_ways, or_right, false_from_ne_true}
use Rattle.std.proofs.lemmas.Slice.Eq.{bytes_eq-Decides}
use Rattle.tla_token.specs.declared.place.Place.{Place}
use Rattle.tla_token.specs.Places.{nowhere}
use Rattle.tla_token.specs.Signs.{is_among}
use Rattle.tla_tree.specs.declared.op.Op.TheVariants.{Concat}
use Rattle.tla_tree.specs.Tree.{Word, Form, name, next, Strict, operator, tuple, fields, apply, select, except, strict, operator_call, Tree, node, Trees, no_trees, tree, Each, Every, EveryOf, binders, Graft, grafted_name, graft, grafts, root_place}
use Rattle.tla_value.specs.Value.{IsBad}
use Rattle.tla_value.specs.Stops.{plain}
use Rattle.tla_value.specs.Meaning.{Env, eval, evals, part_values}
use Rattle.tla_value.specs.Definitions.{Valuation}
use Rattle.tla_value.specs.Grafts.{owned, own_part, primes}
use Rattle.tla_value.specs.laws.FreeNames.{NotFree}
use Rattle.tla_value.specs.laws.Grafting.{Clear, BindsClear, Unread}
use Rattle.tla_value.proofs.Facts.{each_weaker, every_weaker}
use Rattle.tla_value.proofs.FreeNames.{not_free}
use Rattle.module_tree.specs.Formulas.{self}
use Rattle.module_tree.specs.Module.{setting, Items, item}
use Rattle.module_tree.specs.ActionTruth.{item_holds, items_hold}
use Rattle.pcal_tree.specs.Algorithm.{declares, Routine, locals, Assignments, no_assignments, assignment, Statements, done, then, mark, assign, Algorithm}
use Rattle.pcal_tree.specs.Calls.{label_name, first_label, frame_fields}
use Rattle.pcal_tree.specs.Expand.{graft_left, graft_assignments, graft_all}
use Rattle.pcal_tree.specs.Paths.{roots}
use Rattle.pcal_tree.specs.Program.{Program, written}
use Rattle.pcal_tree.specs.Reads.{Reading, readings_of}
use Rattle.pcal_tree.specs.Variables.{vars, declared, written_all, pc, stack}
use Rattle.action_builder.specs.Assigned.{Names, more, head_of, without, heads}
use Rattle.action_builder.specs.Jumps.{name_at, text_at, spot, jump_written, field_of, kept_field, kept_fields, names_at, values_kept, stack_rest, stack_replaced, fields_of, others_restored, arguments_assigned, variables_written, pair_body, pair_written}
use Rattle.action_builder.specs.LabelActions.{initial_tree}
use Rattle.action_builder.specs.OwnVariables.{is_own_variable}
use Rattle.action_builder.specs.SingleProcess.{in_place_of, graft_items}
use Rattle.action_builder.specs.Written.{Key, sub, fixed, subs, keys_in, keys_of, keys_first, subscripts, own, slots_of, slot_trees, except_of, sets_whole, side_of, primed, settings_of, old_stack, put_in, write}
use Rattle.action_builder.specs.WrittenNames.{renames}
use Rattle.action_builder.specs.laws.Grafts.{ClearItems}
use Rattle.action_builder.specs.laws.Jumps.{Unlike, AllUnlike}
use Rattle.action_builder.specs.laws.Ready.{Readable, IsWithin, Apart, KeptValue, Needs}
use Rattle.action_builder.proofs.SetAgain.{bad_then, bad_in, bad_first}
use Rattle.translation.specs.laws.FreshReads.{fresh, Plain, AllReadFresh}
use Rattle.translation.specs.laws.StepNames.{name_of, StepNames, Called, Frames}
use Rattle.translation.specs.laws.StepParts.{Readied}
use Rattle.translation.specs.laws.WritableAlgorithm.{is_variable}
use Rattle.translation.proofs.JumpsReady.{used_in, each_written, AllReadAnyhow, Writes, Straight, IsNew, unused_anyhow, name_anyhow, none_anyhow, and_anyhow, field_anyhow, rest_anyhow, names_anyhow, pushed_anyhow, one_write, jump_straight, pc_free, ready_from, owned_new, owned_free, stack_free, all_new, called_free, call_straight, call_each, call_unlike}
use Rattle.translation.proofs.PutTrees.{IfEvery, every_put}
use Rattle.translation.proofs.ReadiedSteps.{Became}
use Rattle.translation.proofs.StepNames.{became_variables, fresh_globals, named_trees, own_reads, side_reads, fine_of}
use Rattle.translation.proofs.StraightSteps.{all_roots, WritesAnyhow, AllAnyhow}
use Rattle.translation.proofs.NamesFree.{AllOf, BindsOf}
use Rattle.translation.proofs.VariableNames.{each_joined}

-- ---- a fact of all trees of a right side

module _ (F : Form → Place → Type 0) (plain_form : (x : Word) (at : Place) → F (name x) at) (strict_form : (o : Strict) (at : Place) → F (strict o) at) where
  abbrev EveryKey : List Key → Type 0
  EveryKey [] = Unit {0}
  EveryKey (sub t ∷ ks) = Every F t × EveryKey ks
  EveryKey (fixed a ∷ ks) = EveryKey ks

  keys_joined : (ks js : List Key) → EveryKey ks → EveryKey js → EveryKey (ks ++ js)
  keys_joined [] js h k = k
  keys_joined (sub t ∷ ks) js h k = (h.0, keys_joined ks js h.1 k)
  keys_joined (fixed a ∷ ks) js h k = keys_joined ks js h k

  every_subs : (ts : Trees) → EveryOf F ts → EveryKey (subs ts)
  every_subs no_trees h = tt
  every_subs (tree t ts) h = (h.0, every_subs ts h.1)

  keys_form : (m : Form) (ks : List Key) → EveryKey ks → EveryKey (keys_in m ks)
  keys_form (name x) ks h = tt
  keys_form (strict (select a)) ks h = keys_joined ks (fixed a ∷ []) h tt
  keys_form _ ks h = h

  mutual
    every_keys : (l : Tree) → Every F l → EveryKey (keys_of l)
    every_keys (node m at ts) h = keys_form m (keys_first ts) (every_first ts h.1)

    every_first : (ts : Trees) → EveryOf F ts → EveryKey (keys_first ts)
    every_first no_trees h = tt
    every_first (tree f us) h = keys_joined (keys_of f) (subs us) (every_keys f h.0) (every_subs us h.1)

  every_subscripts : (ks : List Key) (ts : Trees) → EveryKey ks → EveryOf F ts → EveryOf F (subscripts ks ts)
  every_subscripts [] ts h k = k
  every_subscripts (sub t ∷ ks) ts h k = (h.0, every_subscripts ks ts h.1 k)
  every_subscripts (fixed a ∷ ks) ts h k = every_subscripts ks ts h k

  abbrev pub EverySide : Assignments → Type 0
  EverySide no_assignments = Unit {0}
  EverySide (assignment l e ms) = Every F l × Every F e × EverySide ms

  every_slots : (ms : Assignments) → EverySide ms → EveryOf F (slot_trees ms)
  every_slots no_assignments h = tt
  every_slots (assignment l e ms) h = every_subscripts (keys_of l) (tree e (slot_trees ms)) (every_keys l h.0) (h.1, every_slots ms h.2)

  every_own : (y : Word) (ms : Assignments) → EverySide ms → EverySide (own y ms)
  every_own y no_assignments h = tt
  every_own y (assignment l e ms) h = by (bytes_eq (head_of l) y) (every_own y ms h.2)
    where
      by : (b : Bool) → EverySide (own y ms) → EverySide (cond b (assignment l e (own y ms)) (own y ms))
      by true k = (h.0, h.1, k)
      by false k = k

  every_except : (at : Place) (y : Word) (ms : Assignments) → EverySide ms → Every F (except_of at y ms)
  every_except at y ms h = (strict_form (except (slots_of ms)) at, ((plain_form y at, tt), every_slots ms h))

  pub every_side : (y : Word) (ms : Assignments) → EverySide ms → Every F (side_of y ms)
  every_side y no_assignments h = (plain_form y nowhere, tt)
  every_side y (assignment l e ms) h = by (sets_whole (keys_of l) ms)
    where
      by : (b : Bool) → Every F (cond b e (except_of (root_place l) y (assignment l e ms)))
      by true = h.1
      by false = every_except (root_place l) y (assignment l e ms) h

  pub own_sides : (y : Word) (ms : Assignments) → EverySide ms → Every F (side_of y (own y ms))
  own_sides y ms h = every_side y (own y ms) (every_own y ms h)

-- ---- faults

abbrev AreBad : Env → Trees → Type 0
AreBad env ts = IsBad (part_values (evals plain ts) env)

bad_here : (env : Env) (t : Tree) (ts : Trees) → IsBad (eval plain t env).value → AreBad env (tree t ts)
bad_here env t ts h = bad_then (eval plain t env).value _ h

bad_later : (env : Env) (t : Tree) (ts : Trees) → AreBad env ts → AreBad env (tree t ts)
bad_later env t ts h = bad_in (eval plain t env).value _ (λ z. bad_then (part_values (evals plain ts) env) _ h)

bad_strict : (env : Env) (o : Strict) (at : Place) (ts : Trees) → AreBad env ts → IsBad (eval plain (node (strict o) at ts) env).value
bad_strict env o at ts h = bad_then (part_values (evals plain ts) env) _ h

bad_operator : (env : Env) (f : Word) (at : Place) (ts : Trees) → AreBad env ts → IsBad (eval plain (node (operator_call f) at ts) env).value
bad_operator env f at ts h = bad_then (part_values (evals plain ts) env) _ h

bad_setting : (s t : Valuation) (env : Env) (x : Word) (e : Tree) (js : Items) → IsBad (eval plain e env).value → IsBad (items_hold plain s t env (item (setting x e) js))
bad_setting s t env x e js h = bad_first (item_holds plain s t env (setting x e)) (items_hold plain s t env js) (bad_then (eval plain e env).value _ h)

-- after subscripts
bad_after : (env : Env) (f g : Graft) (ks : List Key) (t : Tree) (ts : Trees) → IsBad (eval plain (graft g (graft f t)) env).value → AreBad env (grafts g (grafts f (subscripts ks (tree t ts))))
bad_after env f g [] t ts h = bad_here env (graft g (graft f t)) (grafts g (grafts f ts)) h
bad_after env f g (sub s ∷ ks) t ts h = bad_later env (graft g (graft f s)) (grafts g (grafts f (subscripts ks (tree t ts)))) (bad_after env f g ks t ts h)
bad_after env f g (fixed a ∷ ks) t ts h = bad_after env f g ks t ts h

-- the first assignment is among those to its variable, and so its right side is in what is written for it
bad_side : (env : Env) (f g : Graft) (l e : Tree) (ms : Assignments) → IsBad (eval plain (graft g (graft f e)) env).value → IsBad (eval plain (graft g (graft f (side_of (head_of l) (own (head_of l) (assignment l e ms))))) env).value
bad_side env f g l e ms h =
    subst (λ (b : Bool). IsBad (eval plain (graft g (graft f (side_of (head_of l) (cond b (assignment l e (own (head_of l) ms)) (own (head_of l) ms))))) env).value) (sym ((bytes_eq-Decides (head_of l) (head_of l)).1 refl))
    (by (sets_whole (keys_of l) (own (head_of l) ms)))
  where
    by : (b : Bool) → IsBad (eval plain (graft g (graft f (cond b e (except_of (root_place l) (head_of l) (assignment l e (own (head_of l) ms)))))) env).value
    by true = h
    by false =
        let rest = grafts g (grafts f (subscripts (keys_of l) (tree e (slot_trees (own (head_of l) ms))))) in
        let first = graft g (graft f (node (name (head_of l)) (root_place l) no_trees)) in
        bad_strict env (except (slots_of (assignment l e (own (head_of l) ms)))) (root_place l) (tree first rest)
        (bad_later env first rest (bad_after env f g (keys_of l) e (slot_trees (own (head_of l) ms)) h))

-- ---- what stands for the old stack

-- a name, primed or not
abbrev named : Bool → Word → Tree
named b x = grafted_name (cond b (Some (node (next x) nowhere no_trees)) None) (name x) nowhere no_trees

-- the stack, at the identifier or not
abbrev shape : Bool → Bool → Bool → Tree
shape true b c = node (strict apply) nowhere (tree (named b stack) (tree (named c self) no_trees))
shape false b c = named b stack

-- it has no name for the old stack
shape_stays : (t : Tree) (o b c : Bool) → graft (in_place_of old_stack t) (shape o b c) ≡ shape o b c
shape_stays t true true true = refl
shape_stays t true true false = refl
shape_stays t true false true = refl
shape_stays t true false false = refl
shape_stays t false true c = refl
shape_stays t false false c = refl

shape_unread : (x : Word) → bytes_eq x stack ≡ false → bytes_eq x self ≡ false → (o b c : Bool) → NotFree x (shape o b c)
shape_unread x h k true true true = (tt, ((tt, tt), ((tt, tt), tt)))
shape_unread x h k true true false = (tt, ((tt, tt), ((k, tt), tt)))
shape_unread x h k true false true = (tt, ((h, tt), ((tt, tt), tt)))
shape_unread x h k true false false = (tt, ((h, tt), ((k, tt), tt)))
shape_unread x h k false true c = (tt, tt)
shape_unread x h k false false c = (h, tt)

module _ (P : Program) (u : Routine) (N : Word → Type 0) (k : StepNames P u N) (ret : Bool) (f : Frames P u N ret) where
  abbrev a : Algorithm
  a = P.algorithm

  abbrev ds : List Reading
  ds = readings_of a

  abbrev vs : List Word
  vs = vars P

  abbrev V : Word → Bool
  V = is_variable a u

  abbrev U : Readable
  U = fresh ds

  abbrev r : Word → Word
  r = name_of P u

  abbrev g : Graft
  g = renames P u

  abbrev h : Graft
  h = owned self (is_own_variable P)

  abbrev F : Form → Place → Type 0
  F = BindsOf N

  -- the stack where the process has it
  abbrev kept : Tree
  kept = graft h (name_at nowhere stack)

  abbrev later : Names → Tree
  later B = primed B kept

  later_is : (B : Names) → later B ≡ shape (is_own_variable P stack) (B stack) (B self)
  later_is B = by (is_own_variable P stack)
    where
      by : (o : Bool) → graft (primes B) (grafted_name (cond o (Some (own_part self stack nowhere)) None) (name stack) nowhere no_trees) ≡ shape o (B stack) (B self)
      by true = refl
      by false = refl

  later_stays : (B : Names) (t : Tree) → graft (in_place_of old_stack t) (later B) ≡ later B
  later_stays B t = (λ i. graft (in_place_of old_stack t) (later_is B i)) ∙ (shape_stays t (is_own_variable P stack) (B stack) (B self) ∙ sym (later_is B))

  kept_value : KeptValue vs kept
  kept_value = by (is_own_variable P stack)
    where
      by : (o : Bool) → KeptValue vs (grafted_name (cond o (Some (own_part self stack nowhere)) None) (name stack) nowhere no_trees)
      by true = tt
      by false = f.stack_among

  -- ---- a bound name is clear

  turned : (x y : Word) → bytes_eq y x ≡ false → bytes_eq x y ≡ false
  turned x y e = false_from_ne_true (bytes_eq x y) (λ q. both_ways (bytes_eq y x) e ((bytes_eq-Decides y x).1 (sym ((bytes_eq-Decides x y).0 q))))

  no_variable : (x y : Word) → is_among vs x ≡ false → is_among vs y ≡ true → bytes_eq x y ≡ false
  no_variable x y e m = false_from_ne_true (bytes_eq x y) (λ q. both_ways (is_among vs x) e (ap (is_among vs) ((bytes_eq-Decides x y).0 q) ∙ m))

  name_clear : (B : Names) (x : Word) → N x → Clear plain (in_place_of old_stack (later B)) x
  name_clear B x n = record {
    left = λ at. ap (λ (b : Bool). cond b (Some (later B)) None) (k.bound x n).3;
    unread = λ y at. by (bytes_eq old_stack y);
  }
    where
      by : (b : Bool) → Unread plain x (cond b (Some (later B)) None)
      by true = not_free plain x (later B)
          (subst (NotFree x) (sym (later_is B)) (shape_unread x (no_variable x stack (k.bound x n).0 f.stack_among) (turned x self (k.bound x n).2) (is_own_variable P stack) (B stack) (B self)))
      by false = tt

  all_clear : (B : Names) (t : Tree) → Every F t → Every (BindsClear plain (in_place_of old_stack (later B))) t
  all_clear B t e = every_weaker F (BindsClear plain (in_place_of old_stack (later B))) (λ m at p. each_weaker N _ (name_clear B) (binders m) p) t e

  -- ---- items

  abbrev Sides : Assignments → Type 0
  Sides ms = EverySide F (λ x at. tt) (λ o at. tt) ms

  prime_plain : (D : Names) (y : Word) (at : Place) → IfEvery F (primes D y at)
  prime_plain D y at = by (D y)
    where
      by : (b : Bool) → IfEvery F (cond b (Some (node (next y) at no_trees)) None)
      by true = (tt, tt)
      by false = tt

  side_clear : (B D : Names) (y : Word) (ms : Assignments) → Sides ms → Every (BindsClear plain (in_place_of old_stack (later B))) (primed D (side_of y (own y ms)))
  side_clear B D y ms e = all_clear B (primed D (side_of y (own y ms))) (every_put F (primes D) (prime_plain D) (side_of y (own y ms)) (own_sides F (λ x at. tt) (λ o at. tt) y ms e))

  settings_clear : (B D : Names) (ms : Assignments) → Sides ms → (ys : List Word) (rest : Items) → ClearItems plain (in_place_of old_stack (later B)) rest → ClearItems plain (in_place_of old_stack (later B)) (settings_of D ms ys rest)
  settings_clear B D ms e [] rest c = c
  settings_clear B D ms e (y ∷ ys) rest c = (side_clear B D y ms e, settings_clear B D ms e ys rest c)

  writes_sides : (A : Names) (ms : Assignments) → WritesAnyhow P u N k A ms → Sides (graft_assignments h ms)
  writes_sides A no_assignments w = tt
  writes_sides A (assignment l e ms) w = (
    every_weaker (Plain N) F (λ m at p. p.0) (graft_left h l) (side_reads P u N k A A h (own_reads P u N k A) l (w.1 A (λ y d b. b))).plain,
    every_weaker (Plain N) F (λ m at p. p.0) (graft h e) (own_reads P u N k A e (w.2 A (λ y d b. b))).plain,
    writes_sides A ms w.3,
  )

  items_clear : (A B D : Names) (b : Statements) → AllAnyhow P u N k A b → ClearItems plain (in_place_of old_stack (later B)) (write vs D (graft_all h b))
  items_clear A B D done w = tt
  items_clear A B D (then at (assign ms) rest) w =
      settings_clear B D (graft_assignments h ms) (writes_sides A ms w.0) (heads (graft_assignments h ms)) (write vs (more D (heads (graft_assignments h ms))) (graft_all h rest)) (items_clear A B (more D (heads (graft_assignments h ms))) rest w.1)
  items_clear A B D (then at st rest) w = absurd w
  items_clear A B D (mark l m rest) w = absurd w

  -- the first item needs the old stack
  needed : (B : Names) (q : Routine) (args : Assignments) (rest : Statements) → Needs (later B) (put_in B old_stack kept (write vs B (graft_all h (then (spot nowhere) (assign (assignment (name_at nowhere stack) (stack_replaced P u q nowhere nowhere) args)) rest))))
  needed B q args rest s t env e =
      let j = in_place_of old_stack (later B) in
      let l = graft_left h (name_at nowhere stack) in
      let ms = assignment l (graft h (stack_replaced P u q nowhere nowhere)) (graft_assignments h args) in
      let x = node (strict tuple) nowhere (tree (node (strict (fields (frame_fields P q))) nowhere (tree (text_at nowhere (P.naming.title q.number)) (tree (kept_field nowhere pc) (values_kept P u q nowhere nowhere)))) no_trees) in
      let first = graft j (primed B (graft h x)) in
      let second = graft j (primed B (graft h (stack_rest nowhere))) in
      bad_setting s t env (head_of l) (graft j (primed B (side_of (head_of l) (own (head_of l) ms))))
      (graft_items j (settings_of B ms (without (head_of l) (heads (graft_assignments h args))) (write vs (more B (heads ms)) (graft_all h rest))))
      (bad_side env (primes B) j l (graft h (stack_replaced P u q nowhere nowhere)) (graft_assignments h args)
      (bad_strict env (operator Concat) nowhere (tree first (tree second no_trees)) (bad_later env first (tree second no_trees) (bad_here env second no_trees
      (bad_operator env (codes "Tail") nowhere (tree (graft j (later B)) no_trees) (bad_here env (graft j (later B)) no_trees (subst (λ (z : Tree). IsBad (eval plain z env).value) (sym (later_stays B (later B))) e)))))))

  -- ---- the call

  restored_fields : (A : Names) (xs : List Word) → Each (IsNew P u N k) xs → Writes P u N k A (fields_of nowhere old_stack xs)
  restored_fields A [] e = tt
  restored_fields A (x ∷ xs) e = one_write P u N k A nowhere x (field_of nowhere old_stack x) (fields_of nowhere old_stack xs) e.0 (field_anyhow P u N k A nowhere old_stack x f.head_untitled (unused_anyhow P u N k A nowhere old_stack f.old_untitled)) (restored_fields A xs e.1)

  kept_anyhow : (A : Names) (xs : List Word) → AllReadAnyhow P u N k A (kept_fields nowhere xs)
  kept_anyhow A [] = none_anyhow P u N k A
  kept_anyhow A (x ∷ xs) = and_anyhow P u N k A (kept_field nowhere x) (kept_fields nowhere xs) (field_anyhow P u N k A nowhere stack x f.head_untitled (name_anyhow P u N k A nowhere stack f.stack_among)) (kept_anyhow A xs)

  field_roots : (xs : List Word) → roots (fields_of nowhere old_stack xs) ≡ xs
  field_roots [] = refl
  field_roots (x ∷ xs) = ap (λ (ws : List Word). x ∷ ws) (field_roots xs)

  unlike_both : (xs ys : List Word) → AllUnlike xs → AllUnlike ys → Each (λ x. Each (λ y. bytes_eq x y ≡ false) ys) xs → AllUnlike (xs ++ ys)
  unlike_both [] ys h j e = j
  unlike_both (x ∷ xs) ys h j e = (each_joined (λ y. bytes_eq x y ≡ false) xs ys h.0 e.0, unlike_both xs ys h.1 j e.1)

  each_all : (Q : Word → Type 0) → ((x : Word) → Q x) → (xs : List Word) → Each Q xs
  each_all Q z [] = tt
  each_all Q z (x ∷ xs) = (z x, each_all Q z xs)

  module _ (q : Routine) (c : Called P u N q) where
    abbrev xs : List Word
    xs = written_all P u (locals u)

    abbrev ys : List Word
    ys = written_all P q (locals q)

    abbrev last : Statements
    last = then (spot nowhere) (assign (others_restored P u q nowhere)) (jump_written nowhere (label_name P q (first_label q)))

    abbrev Others : Bool → List Word
    Others b = roots (cond b no_assignments (fields_of nowhere old_stack xs))

    values_anyhow : (A : Names) → AllReadAnyhow P u N k A (values_kept P u q nowhere nowhere)
    values_anyhow A = by (nat_eq u.number q.number)
      where
        by : (b : Bool) → AllReadAnyhow P u N k A (cond b (kept_fields nowhere xs) (names_at nowhere ys))
        by true = kept_anyhow A xs
        by false = names_anyhow P u N k A nowhere ys (all_new P u N k ret f q c)

    last_straight : (A : Names) → Straight P u N k A last
    last_straight A = (by (nat_eq u.number q.number), jump_straight P u N k A nowhere (label_name P q (first_label q)))
      where
        by : (b : Bool) → Writes P u N k A (cond b no_assignments (fields_of nowhere old_stack xs))
        by true = tt
        by false = restored_fields A xs (owned_new P u N k)

    last_each : (Q : Word → Type 0) → (nat_eq u.number q.number ≡ false → Each Q xs) → Q pc → Each Q (all_roots last)
    last_each Q e p = by (nat_eq u.number q.number) refl
      where
        by : (b : Bool) → nat_eq u.number q.number ≡ b → Each Q (Others b ++ (pc ∷ []))
        by true z = (p, tt)
        by false z = each_joined Q (Others false) (pc ∷ []) (subst (Each Q) (sym (field_roots xs)) (e z)) (p, tt)

    crossed : nat_eq u.number q.number ≡ false → Each (λ y. Each (λ x. bytes_eq y x ≡ false) xs) ys
    crossed z = each_written P q (λ y. Each (λ x. bytes_eq y x ≡ false) xs) (λ y m. each_written P u (λ x. bytes_eq (written P q y) x ≡ false) (λ x n. apart y m x n) (locals u) (λ x n. n)) (locals q) (λ y m. m)
      where
        named : (x : Word) → declares (locals u) x ≡ true → name_of P u x ≡ written P u x
        named x m = ap (λ (b : Bool). cond b (written P u x) x) m

        apart : (y : Word) → declares (locals q) y ≡ true → (x : Word) → declares (locals u) x ≡ true → bytes_eq (written P q y) (written P u x) ≡ false
        apart y m x n = false_from_ne_true (bytes_eq (written P q y) (written P u x)) (λ e. c.other z x y (or_right (declares a.globals x) (declares (locals u) x) n) m (named x n ∙ sym ((bytes_eq-Decides (written P q y) (written P u x)).0 e)))

    last_unlike : AllUnlike (ys ++ all_roots last)
    last_unlike = by (nat_eq u.number q.number) refl
      where
        turn : (x y : Word) → bytes_eq y x ≡ false → bytes_eq x y ≡ false
        turn = turned

        pc_each : (zs : List Word) → Unlike pc zs → Each (λ y. Each (λ x. bytes_eq y x ≡ false) (pc ∷ [])) zs
        pc_each [] e = tt
        pc_each (z ∷ zs) e = ((turn z pc e.0, tt), pc_each zs e.1)

        add : (zs ws : List Word) → Each (λ y. Each (λ x. bytes_eq y x ≡ false) ws) zs → Each (λ y. Each (λ x. bytes_eq y x ≡ false) (pc ∷ [])) zs → Each (λ y. Each (λ x. bytes_eq y x ≡ false) (ws ++ (pc ∷ []))) zs
        add [] ws e d = tt
        add (z ∷ zs) ws e d = (each_joined (λ x. bytes_eq z x ≡ false) ws (pc ∷ []) e.0 d.0, add zs ws e.1 d.1)

        by : (b : Bool) → nat_eq u.number q.number ≡ b → AllUnlike (ys ++ (Others b ++ (pc ∷ [])))
        by true z = unlike_both ys (pc ∷ []) c.unlike.each (tt, tt) (pc_each ys c.unlike.pc)
        by false z =
            subst (λ (ws : List Word). AllUnlike (ys ++ (ws ++ (pc ∷ [])))) (sym (field_roots xs))
            (unlike_both ys (xs ++ (pc ∷ [])) c.unlike.each (unlike_both xs (pc ∷ []) f.unlike.each (tt, tt) (pc_each xs f.unlike.pc)) (add ys xs (crossed z) (pc_each ys c.unlike.pc)))

    pub pair_ready : (A B : Names) → Became r A B → IsWithin A V → Apart A (declared (locals u)) → AllOf (λ x. U A x ≡ true) (used_in q) → (ts : Trees) → AllReadFresh ds N A ts
        → Readied U vs B (graft_all h (pair_written P u q nowhere nowhere (grafts g ts) (λ d. nowhere) (λ d. initial_tree P q d.start)))
    pair_ready A B b w p i ts t =
        let body = pair_body P u q nowhere nowhere (grafts g ts) (λ d. nowhere) (λ d. initial_tree P q d.start) in
        let straight = call_straight P u N k ret f q c A nowhere (stack_replaced P u q nowhere nowhere) (grafts g ts) (λ d. nowhere) last
        (pushed_anyhow P u N k A q nowhere (kept_field nowhere pc) (values_kept P u q nowhere nowhere) (stack_rest nowhere) (field_anyhow P u N k A nowhere stack pc f.head_untitled (name_anyhow P u N k A nowhere stack f.stack_among)) (values_anyhow A)
        (rest_anyhow P u N k A nowhere f.tail_untitled f.stack_among))
        (λ D o. named_trees P u N k A D (fresh_globals P u N k A D o) ts t) i (last_straight A) in
        let x = ready_from P u N k A B b w body straight
        (call_each P u N k ret f q c (λ z. B z ≡ false) nowhere (stack_replaced P u q nowhere nowhere) (grafts g ts) (λ d. nowhere) last (stack_free P u N k ret f A B b w) (called_free P u N k ret f q c A B b w (λ e. p))
        (last_each (λ z. B z ≡ false) (λ e. owned_free P u N k A B b w p) (pc_free P u N k A B b w)))
        (call_unlike P u N k ret f q c nowhere (stack_replaced P u q nowhere nowhere) (grafts g ts) (λ d. nowhere) last c.unlike.stack (last_each (λ z. bytes_eq stack z ≡ false) (λ e. f.unlike.stack) refl) last_unlike) in
        record {
          settled = (x.settled, tt);
          fine = (
            (
              (fine_of P u N k B (became_variables P u N k A B b w) kept (own_reads P u N k B (name_at nowhere stack) (name_anyhow P u N k B nowhere stack f.stack_among B (λ y d m. m))), f.old_free, tt),
              x.fine,
              λ e. (kept_value, items_clear A B B body straight, needed B q (arguments_assigned (written_all P q q.params) (grafts g ts)) (variables_written P q (λ d. nowhere) (λ d. initial_tree P q d.start) q.variables last)),
            ),
            tt,
          );
          once = (x.once, tt);
        }
