-- Global variables and a routine's own, one after another, by whose they are.
use Rattle.std.proofs.Common.{◌≡◌, Bool, true, false, List, [], ◌∷◌, ◌++◌, Result, Ok, refl, sym, ap, ◌∙◌, Bor}
use Rattle.tla_token.specs.declared.place.Place.{Place}
use Rattle.tla_tree.specs.Tree.{Word, Tree}
use Rattle.tla_value.specs.declared.stop.EvalStop.{EvalStop}
use Rattle.tla_value.specs.Limits.{bounded}
use Rattle.tla_value.specs.Meaning.{eval}
use Rattle.tla_value.specs.Value.{Value, Outcome, Sense, and_then}
use Rattle.pcal_tree.specs.declared.algorithm.Declaration.{Declaration}
use Rattle.pcal_tree.specs.declared.algorithm.Start as code_start
use Rattle.pcal_tree.specs.Algorithm as tree
use Rattle.pcal_tree.specs.Algorithm.{Start, unset, equals, among, Routine, locals}
use Rattle.pcal_tree.specs.InMemory.{start_at, declaration_at, declarations_at}
use Rattle.pcal_tree.specs.Program.{Program, Actor, written}
use Rattle.pcal_tree.specs.Scope.{State, Scope}
use Rattle.action_builder.specs.laws.WrittenScope.{written_scope}
use Rattle.value_forms.specs.Gives.{Stops, Tells}
use Rattle.step_spots.specs.InMemory.{routine_at}
use Rattle.step_spots.specs.declared.routine.Routine as code_routine
use Rattle.step_moves.specs.declared.program.Program as code
use Rattle.step_moves.specs.Programs.{program_at}
use Rattle.step_moves.specs.declared.values.Bound.{Bound}
use Rattle.step_moves.specs.ScopeIn.{scope_in}
use Rattle.step_moves.specs.Prepared.{prepared_start}
use Rattle.step_meaning.specs.declared.routines.Locals.{Locals}
use Rattle.step_meaning.specs.Identified.{HaveThese}
use Rattle.step_meaning.specs.Ready.{IsReadied}
use Rattle.written_traces.specs.AskedStarts.{Meanings, as_written, plain_asked, spread_asked, globals_asked, local_asked, locals_asked}
use Rattle.start_troubles.specs.declared.locals.Owners.TheVariants as owners
use Rattle.start_troubles.specs.Asked.{sense_by, global_asked}
use Rattle.start_troubles.specs.Owned.{AreOf}
use Rattle.start_troubles.proofs.AskedLaws.{stops_is, tells_is, and_stops, and_not, and_tells, and_again, all_asked}

-- ---- global variables

abbrev pub one_global : code.Program → State → Declaration → Outcome Bool
one_global p s d = global_asked (as_written (program_at p)) (declaration_at p.pool.now d) s

pub globals_all : (p : code.Program) (s : State) (list : List Declaration) → all_asked (one_global p s) list ≡ globals_asked (as_written (program_at p)) (declarations_at p.pool.now list) s
globals_all p s [] = refl
globals_all p s (d ∷ ds) = ap (and_then (one_global p s d)) (globals_all p s ds)

-- where no name is bound, of a declaration that is seen in parts
pub global_seen : (p : code.Program) (xs : List Word) (ws : List Value) (d e : Declaration) (s : State) (v : Value) → d ≡ e → xs ≡ [] → ws ≡ [] → v ≡ s d.name.word
    → plain_asked (sense_by (program_at p) xs ws) d.name.place (start_at p.pool.now d.start) s v ≡ one_global p s e
global_seen p xs ws d e s v q ex ew ev =
    let there : v ≡ s e.name.word = ev ∙ ap (λ (g : Declaration). s g.name.word) q in
    λ i. plain_asked (sense_by (program_at p) (ex i) (ew i)) (q i).name.place (start_at p.pool.now (q i).start) s (there i)

-- ---- a routine's own variables

module _ (p : code.Program) (u : Routine) where
  abbrev P : Program
  P = program_at p

  abbrev M : Meanings
  M = as_written P

  abbrev pub one_local : Bool → List Actor → State → Declaration → Outcome Bool
  one_local spread vs s d = local_asked M P u spread vs (declaration_at p.pool.now d) s

  pub locals_all : (spread : Bool) (vs : List Actor) (s : State) (list : List Declaration) → all_asked (one_local spread vs s) list ≡ locals_asked M P u spread vs (declarations_at p.pool.now list) s
  locals_all spread vs s [] = refl
  locals_all spread vs s (d ∷ ds) = ap (and_then (one_local spread vs s d)) (locals_all spread vs s ds)

  -- those of two lists, one after another
  pub locals_both : (spread : Bool) (vs : List Actor) (s : State) (ds es : List tree.Declaration) → locals_asked M P u spread vs (ds ++ es) s ≡ and_then (locals_asked M P u spread vs ds s) (locals_asked M P u spread vs es s)
  locals_both spread vs s [] es = refl
  locals_both spread vs s (d ∷ ds) es =
      ap (and_then (local_asked M P u spread vs d s)) (locals_both spread vs s ds es) ∙ sym (and_again (local_asked M P u spread vs d s) (locals_asked M P u spread vs ds s) (locals_asked M P u spread vs es s))

  -- where no process has them
  pub none_have : (ds : List tree.Declaration) (s : State) → locals_asked M P u false [] ds s ≡ Ok true
  none_have [] s = refl
  none_have (d ∷ ds) s = none_have ds s

  -- ---- whose they are

  pub each_have : (ids : Bor (List Value)) (spread : Bool) (vs : List Actor) (d e : Declaration) (x : Word) (v : Value) (s : State) (r : Result Bool EvalStop) → AreOf P (owners.Each ids) spread vs
      → ((ws : List Actor) → HaveThese ws ids.now → Tells r (spread_asked M P u ws d.name.place (start_at p.pool.now d.start) s v)) → d ≡ e → x ≡ written P u d.name.word → v ≡ s x → Tells r (one_local spread vs s e)
  each_have ids false vs d e x v s r h t q ex ev = absurd h
  each_have ids true vs d e x v s r h t q ex ev =
      let there : v ≡ s (written P u e.name.word) = ev ∙ ap s (ex ∙ ap (λ (g : Declaration). written P u g.name.word) q) in
      tells_is r (spread_asked M P u vs d.name.place (start_at p.pool.now d.start) s v) (one_local true vs s e) (λ i. spread_asked M P u vs (q i).name.place (start_at p.pool.now (q i).start) s (there i)) (t vs h)

  abbrev sense_at : Scope → Tree → State → Sense
  sense_at c e s = eval bounded e (c.env s)

  -- a plain variable, prepared
  plain_prepared : (a : Actor) (c : Scope) → written_scope P [] a ≡ c → (at : Place) (d e : Start) (s : State) (v : Value) → e ≡ prepared_start P u d → plain_asked (sense_at c) at e s v ≡ plain_asked (M.inside a u) at d s v
  plain_prepared a c sc at d e s v q = (λ i. plain_asked (sense_at (sym sc i)) at (q i) s v) ∙ by d
    where
      by : (d : Start) → plain_asked (sense_at (written_scope P [] a)) at (prepared_start P u d) s v ≡ plain_asked (M.inside a u) at d s v
      by unset = refl
      by (equals t) = refl
      by (among t) = refl

  pub first_has : (bound : Bor Bound) (spread : Bool) (vs : List Actor) (d e : Declaration) (ready : code_start.Start) (x : Word) (v : Value) (s : State) (r : Result Bool EvalStop) → AreOf P (owners.First bound) spread vs
      → Tells r (plain_asked (sense_by P bound.now.names.items bound.now.values.items) d.name.place (start_at p.pool.now ready) s v) → start_at p.pool.now ready ≡ prepared_start P u (start_at p.pool.now e.start)
      → d ≡ e → x ≡ written P u d.name.word → v ≡ s x → Tells r (one_local spread vs s e)
  first_has bound true vs d e ready x v s r h t m q ex ev = absurd h
  first_has bound false [] d e ready x v s r h t m q ex ev = absurd h
  first_has bound false (a ∷ vs) d e ready x v s r h t m q ex ev =
      let c = scope_in P bound.now.names.items bound.now.values.items in
      let there : v ≡ s (written P u e.name.word) = ev ∙ ap s (ex ∙ ap (λ (g : Declaration). written P u g.name.word) q) in
      tells_is r (plain_asked (sense_by P bound.now.names.items bound.now.values.items) d.name.place (start_at p.pool.now ready) s v) (one_local false (a ∷ vs) s e)
      ((λ i. plain_asked (sense_at c) (q i).name.place (start_at p.pool.now ready) s (there i)) ∙ plain_prepared a c h e.name.place (start_at p.pool.now e.start) (start_at p.pool.now ready) s (s (written P u e.name.word)) m) t

-- ---- parameters, and then variables

module _ (p : code.Program) (u : code_routine.Routine) (l : Locals) (h : IsReadied p u l) (spread : Bool) (vs : List Actor) (s : State) where
  abbrev U : Routine
  U = routine_at p.pool.now u

  abbrev of_list : List tree.Declaration → Outcome Bool
  of_list ds = locals_asked (as_written (program_at p)) (program_at p) U spread vs ds s

  abbrev params : Outcome Bool
  params = of_list (declarations_at p.pool.now l.params.now)

  abbrev variables : Outcome Bool
  variables = of_list (declarations_at p.pool.now l.variables.now)

  both_are : and_then params variables ≡ of_list (locals U)
  both_are = (λ i. and_then (of_list (h.params i)) (of_list (h.variables i))) ∙ sym (locals_both p U spread vs s U.params U.variables)

  pub params_stop : (k : EvalStop) → Stops k params → Stops k (of_list (locals U))
  params_stop k e = stops_is k (and_then params variables) (of_list (locals U)) both_are (and_stops k params variables e)

  pub params_not : params ≡ Ok false → of_list (locals U) ≡ Ok false
  params_not e = sym both_are ∙ and_not params variables e

  pub variables_rest : (r : Result Bool EvalStop) → params ≡ Ok true → Tells r variables → Tells r (of_list (locals U))
  variables_rest r e t = tells_is r (and_then params variables) (of_list (locals U)) both_are (and_tells r params variables e t)
