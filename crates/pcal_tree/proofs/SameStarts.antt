-- Whether a state is initial depends on the variables of the translation alone; and the rule on `return` keeps it in procedures.
use Rattle.std.proofs.Common.{◌≡◌, ℕ, suc, List, [], ◌∷◌, ◌++◌, Bool, true, false, not, map, refl, ◌∙◌, ap, inl, inr, Ok}
use Rattle.std.specs.List.{flat_map}
use Rattle.std.proofs.lemmas.Bool.{or_from}
use Rattle.tla_token.specs.declared.place.Place.{Place}
use Rattle.tla_tree.specs.Tree.{Word, Tree, Trees}
use Rattle.pcal_tree.specs.Paths.{Effect}
use Rattle.tla_value.specs.Value.{Value, values_in, and_then, ◌>>=◌}
use Rattle.tla_value.specs.Order.{same}
use Rattle.tla_value.specs.Meaning.{eval}
use Rattle.pcal_tree.specs.Algorithm.{Start, unset, equals, among, Declaration, Statement, branch, either, with, while, return, Statements, done, then, mark, Branches, no_branches, or, Process, Main, alone, processes, Algorithm, Routine, locals, numbered, process_routine, procedure_routines, main_routines, routines, first_process}
use Rattle.pcal_tree.specs.Scope.{State, Scope}
use Rattle.tla_value.specs.Stops.{members_at}
use Rattle.pcal_tree.specs.Program.{Program, Actor, written, routine_scope, global_scope}
use Rattle.pcal_tree.specs.Variables.{pc, stack, vars, Agree}
use Rattle.pcal_tree.specs.Calls.{defaultInitValue, first_label, label_value}
use Rattle.pcal_tree.specs.Processes.{actors, identifiers, OneOf}
use Rattle.pcal_tree.specs.InitialStates.{plain_allowed, has_members, values_for, function_on, spread_allowed, globals_allowed, local_allowed, locals_allowed, is_multiprocess, procedures_allowed, running, processes_allowed, own_allowed, empty_stack, stack_allowed, allowed}
use Rattle.pcal_tree.specs.OffencesLabels.{Within, within_with, jump_offences_here, jump_offences_inside, jump_offences, jump_offences_of_some, second_labels, labels, misplaced, of_macro, of_body, of_main, label_offences}
use Rattle.pcal_tree.specs.laws.Steps.{has_return_in, has_return, has_return_of, ReturnsInProcedures}
use Rattle.pcal_tree.proofs.TroubleLaws.{one_left, one_right}
use Rattle.pcal_tree.proofs.SameVariables.{value_at, Narrow}
use Rattle.pcal_tree.proofs.StepVariables.{pc_in, stack_in, global_in, local_in, Held, global_narrow, routine_narrow}
use Rattle.pcal_tree.proofs.ClearLabels.{nothing_left, nothing_right}

module _ (P : Program) (s t : State) (a : Agree (vars P) s t) where
  plain_same : (sc : Scope) → Narrow (vars P) sc → (at : Place) (st : Start) (v w : Value) → v ≡ w → plain_allowed P sc at st s v ≡ plain_allowed P sc at st t w
  plain_same sc n at unset v w e = λ i. Ok (same (e i) defaultInitValue)
  plain_same sc n at (equals x) v w e = λ i. (eval P.check x (n.env s t a i)).value >>= (λ u. Ok (same (e i) u))
  plain_same sc n at (among x) v w e = λ i. (eval P.check x (n.env s t a i)).test at (e i)

  values_same : (u : Routine) → OneOf u (routines P.algorithm) → (st : Start) (x : Tree) (vs : List Actor) → values_for P u x s vs ≡ values_for P u x t vs
  values_same u h st x [] = refl
  values_same u h st x (v ∷ vs) = λ i. (eval P.check x ((routine_narrow P v u h).env s t a i)).value >>= (λ w. (values_same u h st x vs i) >>= (λ ws. Ok (w ∷ ws)))

  spread_same : (u : Routine) → OneOf u (routines P.algorithm) → (vs : List Actor) (at : Place) (st : Start) (f g : Value) → f ≡ g → spread_allowed P u vs at st s f ≡ spread_allowed P u vs at st t g
  spread_same u h vs at unset f g e = λ i. (P.check at (function_on vs (map (λ v. defaultInitValue) vs))) >>= (λ w. Ok (same (e i) w))
  spread_same u h vs at (equals x) f g e = λ i. (values_same u h (equals x) x vs i) >>= (λ ws. (P.check at (function_on vs ws)) >>= (λ w. Ok (same (e i) w)))
  spread_same u h vs at (among x) f g e =
      λ i. (eval P.check x ((global_narrow P).env s t a i)).value >>= (λ w. (members_at at w) >>= (λ ws. Ok (has_members (values_in (identifiers vs)) ws (e i))))

  globals_same : (ds : List Declaration) → ((d : Declaration) → OneOf d ds → OneOf d.name.word (vars P)) → globals_allowed P ds s ≡ globals_allowed P ds t
  globals_same [] h = refl
  globals_same (d ∷ ds) h =
      λ i. and_then (plain_same (global_scope P) (global_narrow P) d.name.place d.start (s d.name.word) (t d.name.word) (value_at (vars P) s t a d.name.word (h d (inl refl))) i) (globals_same ds (λ e k. h e (inr k)) i)

  one_same : (u : Routine) → OneOf u (routines P.algorithm) → (spread : Bool) (vs : List Actor) (d : Declaration) → OneOf (written P u d.name.word) (vars P) → local_allowed P u spread vs d s ≡ local_allowed P u spread vs d t
  one_same u h true vs d k = spread_same u h vs d.name.place d.start _ _ (value_at (vars P) s t a (written P u d.name.word) k)
  one_same u h false [] d k = refl
  one_same u h false (v ∷ vs) d k = plain_same (routine_scope P v u) (routine_narrow P v u h) d.name.place d.start _ _ (value_at (vars P) s t a (written P u d.name.word) k)

  locals_same : (u : Routine) → OneOf u (routines P.algorithm) → (spread : Bool) (vs : List Actor) (ds : List Declaration) → Held P u ds → locals_allowed P u spread vs ds s ≡ locals_allowed P u spread vs ds t
  locals_same u h spread vs [] k = refl
  locals_same u h spread vs (d ∷ ds) k = λ i. and_then (one_same u h spread vs d (k d (inl refl)) i) (locals_same u h spread vs ds (λ e q. k e (inr q)) i)

  procedures_same : (vs : List Actor) (us : List Routine) → ((u : Routine) → OneOf u us → OneOf u (routines P.algorithm)) → procedures_allowed P vs us s ≡ procedures_allowed P vs us t
  procedures_same vs [] h = refl
  procedures_same vs (u ∷ us) h =
      λ i. and_then (locals_same u (h u (inl refl)) (is_multiprocess P.algorithm.main) vs (locals u) (local_in P u (h u (inl refl))) i) (procedures_same vs us (λ w k. h w (inr k)) i)

  processes_same : (vs : List Actor) (us : List Routine) → ((u : Routine) → OneOf u us → OneOf u (routines P.algorithm)) → processes_allowed P vs us s ≡ processes_allowed P vs us t
  processes_same vs [] h = refl
  processes_same vs (u ∷ us) h =
      λ i. and_then (locals_same u (h u (inl refl)) u.spread (running u vs) (locals u) (local_in P u (h u (inl refl))) i) (processes_same vs us (λ w k. h w (inr k)) i)

  stacks_same : (vs : List Actor) (us : List Routine) → ((u : Routine) → OneOf u us → OneOf u (procedure_routines P.algorithm)) → stack_allowed P us vs s ≡ stack_allowed P us vs t
  stacks_same vs [] h = refl
  stacks_same vs (u ∷ us) h = ap (own_allowed P.algorithm.main vs (λ v. empty_stack)) (value_at (vars P) s t a stack (stack_in P u (h u (inl refl))))

  pub allowed_same : allowed P s ≡ allowed P t
  allowed_same =
      λ i. (actors P) >>= (λ vs.
      and_then (globals_same P.algorithm.globals (global_in P) i)
      (and_then (procedures_same vs (procedure_routines P.algorithm) (λ u h. one_left u (procedure_routines P.algorithm) (main_routines P.algorithm P.algorithm.main) h) i)
      (and_then (processes_same vs (main_routines P.algorithm P.algorithm.main) (λ u h. one_right u (procedure_routines P.algorithm) (main_routines P.algorithm P.algorithm.main) h) i)
      (and_then (Ok (stacks_same vs (procedure_routines P.algorithm) (λ u h. h) i))
      (Ok (own_allowed P.algorithm.main vs (λ v. label_value P v.own (first_label v.own)) (value_at (vars P) s t a pc (pc_in P) i)))))))

-- ---- the rule on `return`

empty_at : {X Y : Type 0} (f : X → List Y) (x : X) (xs : List X) → OneOf x xs → flat_map f xs ≡ [] → f x ≡ []
empty_at f x [] h e = absurd h
empty_at f x (y ∷ ys) (inl q) e = ap f q ∙ nothing_left (f y) (flat_map f ys) e
empty_at f x (y ∷ ys) (inr h) e = empty_at f x ys h (nothing_right (f y) (flat_map f ys) e)

mutual
  none_here : (w : Within) (at : Place) (st : Statement) → w.procedure ≡ false → jump_offences_here w at st ≡ [] → jump_offences_inside w st ≡ [] → has_return_in st ≡ false
  none_here w at (branch e x y) p q r = or_from (has_return x) (has_return y) (none w x p (nothing_left (jump_offences w x) (jump_offences w y) r)) (none w y p (nothing_right (jump_offences w x) (jump_offences w y) r))
  none_here w at (either bs) p q r = none_of w bs p r
  none_here w at (with bs b) p q r = none (within_with w) b p r
  none_here w at (while e b) p q r = none w b p r
  none_here w at return p q r = offends w.procedure p (nothing_right _ _ q)
    where
      offends : (b : Bool) → b ≡ false → Rattle.pcal_tree.specs.Offences.offence_if (not b) Rattle.tla_token.specs.declared.rule.Rule.TheVariants.ReturnOutside at ≡ [] → true ≡ false
      offends true e q = e
      offends false e q = cc
  none_here w at st p q r = refl

  none : (w : Within) (b : Statements) → w.procedure ≡ false → jump_offences w b ≡ [] → has_return b ≡ false
  none w done p e = refl
  none w (mark n k rest) p e = none w rest p (nothing_right _ (jump_offences w rest) e)
  none w (then at st rest) p e =
      let more = nothing_right (jump_offences_here w at.first st) (jump_offences_inside w st ++ jump_offences w rest) e in
      or_from (has_return_in st) (has_return rest)
      (none_here w at.first st p (nothing_left (jump_offences_here w at.first st) (jump_offences_inside w st ++ jump_offences w rest) e) (nothing_left (jump_offences_inside w st) (jump_offences w rest) more))
      (none w rest p (nothing_right (jump_offences_inside w st) (jump_offences w rest) more))

  none_of : (w : Within) (bs : Branches) → w.procedure ≡ false → jump_offences_of_some w bs ≡ [] → has_return_of bs ≡ false
  none_of w no_branches p e = refl
  none_of w (or b bs) p e =
      or_from (has_return b) (has_return_of bs) (none w b p (nothing_left (jump_offences w b) (jump_offences_of_some w bs) e)) (none_of w bs p (nothing_right (jump_offences w b) (jump_offences_of_some w bs) e))

none_placed : (macro : Bool) (b : Statements) → misplaced macro false b ≡ [] → has_return b ≡ false
none_placed macro b e = none _ b refl (nothing_left _ (second_labels [] (labels false b)) e)

none_in_body : (ms : Word → Trees → Effect) (b : Statements) → of_body ms b ≡ [] → has_return b ≡ false
none_in_body ms b e = none_placed false b (nothing_right _ (misplaced false false b) e)

none_in_processes : (ms : Word → Trees → Effect) (n : ℕ) (ps : List Process) → flat_map (λ p. of_body ms p.body) ps ≡ [] → (u : Routine) → OneOf u (numbered process_routine n ps) → has_return u.body ≡ false
none_in_processes ms n [] e u h = absurd h
none_in_processes ms n (p ∷ ps) e u (inl q) = ap (λ w. has_return w.body) q ∙ none_in_body ms p.body (nothing_left (of_body ms p.body) (flat_map (λ p. of_body ms p.body) ps) e)
none_in_processes ms n (p ∷ ps) e u (inr h) = none_in_processes ms (suc n) ps (nothing_right (of_body ms p.body) (flat_map (λ p. of_body ms p.body) ps) e) u h

none_in_main : (b : Algorithm) (ms : Word → Trees → Effect) (m : Main) → of_main ms m ≡ [] → (u : Routine) → OneOf u (main_routines b m) → has_return u.body ≡ false
none_in_main b ms (alone ss) e u (inl q) = ap (λ w. has_return w.body) q ∙ none_in_body ms ss e
none_in_main b ms (alone ss) e u (inr h) = absurd h
none_in_main b ms (processes ps) e u h = none_in_processes ms (first_process b) ps e u h

pub returns_placed : (b : Algorithm) → label_offences b ≡ [] → ReturnsInProcedures b
returns_placed b e = record {
  macros = λ d h. none_placed true d.body (nothing_right _ (misplaced true false d.body) (empty_at of_macro d b.macros h (nothing_left (flat_map of_macro b.macros) _ e)));
  main = λ u h. none_in_main b _ b.main (nothing_right _ _ (nothing_right (flat_map of_macro b.macros) _ e)) u h;
}
