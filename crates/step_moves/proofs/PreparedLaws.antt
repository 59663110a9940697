-- A call of a prepared procedure, which is the call of the procedure with first values by written names.
use Rattle.std.proofs.Common.{◌≡◌, ℕ, suc, List, [], ◌∷◌, ◌++◌, map, Bool, true, false, cond, bytes_eq, nat_eq, codes, Option, Some, None, refl, ap, ◌∙◌}
use Rattle.std.specs.Option.{option_map}
use Rattle.tla_token.specs.declared.place.Place.{Place}
use Rattle.tla_tree.specs.Tree.{Word, Form, name, Tree, node, Trees, no_trees, Graft, grafted_name, grafted_node, graft, grafts, root_place}
use Rattle.tla_value.specs.Value.{Value, text, ◌>>=◌}
use Rattle.tla_value.specs.Order.{seq_from, record_from}
use Rattle.tla_value.specs.Strict.{applied}
use Rattle.tla_value.specs.Grafts.{owned}
use Rattle.module_tree.specs.Formulas.{self}
use Rattle.pcal_tree.specs.Algorithm.{Start, unset, equals, among, Declaration, Procedure, Routine, locals, procedure_routine, numbered, Statements, done, then, mark}
use Rattle.pcal_tree.specs.Scope.{State}
use Rattle.pcal_tree.specs.Assign.{set_one, set_all}
use Rattle.pcal_tree.specs.Run.{Partner, no_partner, goto_partner, return_partner, label_of}
use Rattle.pcal_tree.specs.Program.{Program, Actor, index, local_index, written}
use Rattle.pcal_tree.specs.Calls.{label_value, setting, all_read, fields_read, frame, on_stack, argument_settings, initial_place, restored, values_left, routine_named}
use Rattle.pcal_tree.specs.Variables.{pc, stack, declared, written_all}
use Rattle.action_builder.specs.WrittenNames.{renames, renamed}
use Rattle.action_builder.specs.OwnVariables.{is_own_variable}
use Rattle.action_builder.specs.InitialFormulas.{written_in}
use Rattle.step_walks.specs.FirstValues.{as_written}
use Rattle.step_walks.specs.WrittenCalls.{first_value, variables_by, entered_keeping_by, entered_by, replaced_by, called_by}
use Rattle.step_walks.specs.WrittenFlows.{own_statements}
use Rattle.step_moves.specs.Prepared.{prepared_start, prepared_declaration, prepared_declarations, prepared_procedure, prepared_routine, as_prepared, IsLabelled}

-- ---- places

-- a tree that stands for a name is where the name is
abbrev RootAt : Place → Option Tree → Type 0
RootAt at None = Unit {0}
RootAt at (Some t) = root_place t ≡ at

root_named : (o : Option Tree) (m : Form) (at : Place) (us : Trees) → RootAt at o → root_place (grafted_name o m at us) ≡ at
root_named (Some t) m at us h = h
root_named None m at us h = refl

root_node : (g : Graft) → ((x : Word) (at : Place) → RootAt at (g x at)) → (m : Form) (at : Place) (us : Trees) → root_place (grafted_node g m at us) ≡ at
root_node g h (name x) at us = root_named (g x at) (name x) at us (h x at)
root_node g h m at us = refl

root_graft : (g : Graft) → ((x : Word) (at : Place) → RootAt at (g x at)) → (e : Tree) → root_place (graft g e) ≡ root_place e
root_graft g h (node m at ts) = root_node g h m at (grafts g ts)

root_renames : (P : Program) (u : Routine) (x : Word) (at : Place) (b : Bool) → RootAt at (cond b (Some (node (name (written P u x)) at no_trees)) None)
root_renames P u x at true = refl
root_renames P u x at false = tt

root_owned : (here : Word → Bool) (x : Word) (at : Place) → RootAt at (owned self here x at)
root_owned here x at = by (here x)
  where
    by : (b : Bool) → RootAt at (owned self (λ y. b) x at)
    by true = refl
    by false = tt

pub root_written : (P : Program) (u : Routine) (e : Tree) → root_place (written_in P u e) ≡ root_place e
root_written P u e =
    root_graft (owned self (is_own_variable P)) (root_owned (is_own_variable P)) (renamed P u e)
    ∙ root_graft (renames P u) (λ x at. root_renames P u x at _) e

-- ---- a prepared routine

declared_alike : (P : Program) (u : Routine) (ds : List Declaration) → declared (map (prepared_declaration P u) ds) ≡ declared ds
declared_alike P u [] = refl
declared_alike P u (d ∷ ds) = ap (λ (xs : List Word). d.name.word ∷ xs) (declared_alike P u ds)

both_alike : (P : Program) (u : Routine) (ps ds : List Declaration) → declared (prepared_declarations P u ps ++ prepared_declarations P u ds) ≡ declared (ps ++ ds)
both_alike P u [] ds = declared_alike P u ds
both_alike P u (p ∷ ps) ds = ap (λ (xs : List Word). p.name.word ∷ xs) (both_alike P u ps ds)

pub names_alike : (P : Program) (p : Routine) → written_all P (prepared_routine P p) (locals (prepared_routine P p)) ≡ written_all P p (locals p)
names_alike P p = ap (map (written P p)) (both_alike P p p.params p.variables)

params_alike : (P : Program) (p : Routine) → written_all P (prepared_routine P p) (prepared_routine P p).params ≡ written_all P p p.params
params_alike P p = ap (map (written P p)) (declared_alike P p p.params)

frame_alike : (P : Program) (p : Routine) (back : Value) (olds : List Value) → frame P (prepared_routine P p) back olds ≡ frame P p back olds
frame_alike P p back olds = ap (λ (xs : List Word). record_from (codes "procedure" ∷ codes "pc" ∷ xs) (text (P.naming.title p.number) ∷ back ∷ olds)) (names_alike P p)

pub label_alike : (P : Program) (u : Routine) (ss : Statements) (x : Word) → IsLabelled ss → label_of (own_statements P u ss) x ≡ label_of ss x
label_alike P u done x h = refl
label_alike P u (then at st rest) x h = absurd h
label_alike P u (mark l k rest) x h = refl

-- ---- first values

first_alike : (P : Program) (v : Actor) (p : Routine) (at : Place) (d : Start) (s : State) → first_value (as_prepared P) v (prepared_routine P p) at (prepared_start P p d) s ≡ first_value (as_written P []) v p at d s
first_alike P v p at unset s = refl
first_alike P v p at (equals e) s = refl
first_alike P v p at (among e) s = refl

place_alike : (P : Program) (p : Routine) (at : Place) (d : Start) → initial_place at (prepared_start P p d) ≡ initial_place at d
place_alike P p at unset = refl
place_alike P p at (equals e) = root_written P p e
place_alike P p at (among e) = refl

pub variables_alike : (P : Program) (v : Actor) (p : Routine) (at : Place) (ds : List Declaration) (s : State)
    → variables_by (as_prepared P) P v (prepared_routine P p) at (map (prepared_declaration P p) ds) s ≡ variables_by (as_written P []) P v p at ds s
variables_alike P v p at [] s = refl
variables_alike P v p at (d ∷ ds) s =
    λ i. first_alike P v p at d.start s i >>= (λ w. set_one P.check (setting (place_alike P p at d.start i) (written P p d.name.word) (local_index v p) w) s >>= (λ t. variables_alike P v p at ds t i))

-- ---- calls

module _ (P : Program) (v : Actor) (at : Place) (p : Routine) (places : List Place) (vs : List Value) (h : IsLabelled p.body) where
  keeping_alike : (back : Value) (olds : List Value) (s : State)
      → entered_keeping_by (as_prepared P) P v at back (prepared_routine P p) places vs olds s ≡ entered_keeping_by (as_written P []) P v at back p places vs olds s
  keeping_alike back olds s =
      λ i. P.check at (frame_alike P p back olds i) >>= (λ front. on_stack v at s >>= (λ frames. P.check at (seq_from (front ∷ frames)) >>= (λ new.
      set_all P.check (setting at stack (index v.self) new ∷ argument_settings (local_index v p) (params_alike P p i) places vs) s >>= (λ t.
      variables_alike P v p at p.variables t i >>= (λ w. set_one P.check (setting at pc (index v.self) (label_value P p (label_alike P p p.body p.exit h i))) w)))))

  entered_alike : (back : Value) (s : State) → entered_by (as_prepared P) P v at back (prepared_routine P p) places vs s ≡ entered_by (as_written P []) P v at back p places vs s
  entered_alike back s = λ i. all_read at (local_index v p) (names_alike P p i) s >>= (λ olds. keeping_alike back olds s i)

  left_alike : (end : Place) (u : Routine) (front : Value) (t : State) → values_left P v at end u (prepared_routine P p) front t ≡ values_left P v at end u p front t
  left_alike end u front t = λ i. cond (nat_eq u.number p.number) (fields_read end (written_all P u (locals u)) front) (all_read at (local_index v p) (names_alike P p i) t)

  replaced_alike : (end : Place) (u : Routine) (frames : List Value) (s : State)
      → replaced_by (as_prepared P) P v at end u (prepared_routine P p) places vs frames s ≡ replaced_by (as_written P []) P v at end u p places vs frames s
  replaced_alike end u [] s = refl
  replaced_alike end u (front ∷ frames) s =
      λ i. applied end front (text pc) >>= (λ back. restored P v end u (front ∷ frames) s >>= (λ t. left_alike end u front t i >>= (λ olds. keeping_alike back olds t i)))

  pub called_alike : (u : Routine) (l : Word) (j : Partner) (s : State) → called_by (as_prepared P) P v u at (prepared_routine P p) places vs l j s ≡ called_by (as_written P []) P v u at p places vs l j s
  called_alike u l no_partner s = entered_alike (label_value P u l) s
  called_alike u l (goto_partner m) s = entered_alike (label_value P u m) s
  called_alike u l (return_partner end) s = λ i. on_stack v end.first s >>= (λ frames. replaced_alike end.first u frames s i)

-- ---- the procedure of a name

named_by : (P : Program) (u : Routine) (b : Bool) (o q : Option Routine) → option_map (prepared_routine P) o ≡ q → option_map (prepared_routine P) (cond b (Some u) o) ≡ cond b (Some (prepared_routine P u)) q
named_by P u true o q e = refl
named_by P u false o q e = e

pub named_alike : (P : Program) (x : Word) (n : ℕ) (ps : List Procedure)
    → option_map (prepared_routine P) (routine_named x (numbered procedure_routine n ps)) ≡ routine_named x (numbered procedure_routine n (numbered (prepared_procedure P) n ps))
named_alike P x n [] = refl
named_alike P x n (p ∷ ps) = named_by P (procedure_routine n p) (bytes_eq p.name.word x) _ _ (named_alike P x (suc n) ps)
