-- First values of global variables and of a routine's own, one after another.
use Rattle.std.proofs.Common.{◌≡◌, ℕ, zero, suc, ◌+◌, ◌<◌, ◌≤◌, Bool, false, List, [], ◌∷◌, ◌++◌, length, map, drop, get_or, refl, sym, ap, subst, ◌∙◌, arith}
use Rattle.std.proofs.lemmas.List.{drop_more, drop_all}
use Rattle.tla_token.specs.declared.place.Place.{Place}
use Rattle.tla_tree.specs.Tree.{Word, Tree, Each}
use Rattle.tla_value.specs.Limits.{bounded}
use Rattle.tla_value.specs.Value.{Value, Outcome}
use Rattle.pcal_tree.specs.declared.algorithm.Declaration.{Declaration}
use Rattle.pcal_tree.specs.declared.algorithm.Start as code_start
use Rattle.pcal_tree.specs.Algorithm as tree
use Rattle.pcal_tree.specs.Algorithm.{Start, unset, equals, among, Routine}
use Rattle.pcal_tree.specs.InMemory.{start_at, declaration_at, declarations_at}
use Rattle.pcal_tree.specs.Program.{Program, Actor, written}
use Rattle.pcal_tree.specs.Scope.{State, Scope, value_of, put}
use Rattle.pcal_tree.specs.Variables.{written_all}
use Rattle.action_builder.specs.laws.WrittenScope.{written_scope}
use Rattle.step_walks.specs.FirstValues.{as_written}
use Rattle.step_walks.specs.Flows.{Flow, falls, onward}
use Rattle.step_walks.specs.StartFlows.{plain_flow, globals_flow, local_flow, locals_flow}
use Rattle.step_moves.specs.declared.program.Program as code
use Rattle.step_moves.specs.Programs.{program_at}
use Rattle.step_moves.specs.ScopeIn.{scope_in}
use Rattle.step_choices.specs.declared.pause.Pause.{Pause}
use Rattle.step_choices.specs.Pauses.{Pauses}
use Rattle.step_moves.specs.Prepared.{prepared_start, prepared_declaration, prepared_declarations}
use Rattle.step_moves.specs.Runners.{names_of}
use Rattle.step_meaning.specs.Begun.{value_by}
use Rattle.step_meaning.proofs.FlowLaws.{onward_again, through, through_made, pauses_onward, pauses_made, pauses_is}

-- ---- lists in step

-- what is so of two lists that are made alike, item by item
pub mapped_at : {A B C D : Type 0} (f : A → C) (h : D → C) (g : B → D) (xs : List A) (ys : List B) (i : ℕ) (x : A) (y : B) → map f xs ≡ map h (map g ys) → i < length ys → x ≡ get_or xs i x → y ≡ get_or ys i y → f x ≡ h (g y)
mapped_at f h g xs [] i x y e less ix iy = absurd (omega (arith, less))
mapped_at f h g [] (v ∷ ys) i x y e less ix iy = absurd (let no : ⊥ = cc in no)
mapped_at {C = C} f h g (u ∷ xs) (v ∷ ys) zero x y e less ix iy =
    ap f ix ∙ ap (λ (l : List C). elim l [ [] ↦ f u | z ∷ zs ↦ z ]) e ∙ ap (λ d. h (g d)) (sym iy)
mapped_at {C = C} f h g (u ∷ xs) (v ∷ ys) (suc i) x y e less ix iy =
    mapped_at f h g xs ys i x y (ap (λ (l : List C). elim l [ [] ↦ map f xs | z ∷ zs ↦ zs ]) e) (omega (arith, less)) ix iy

pub same_many : {A B C D : Type 0} (f : A → C) (h : D → C) (g : B → D) (xs : List A) (ys : List B) → map f xs ≡ map h (map g ys) → length xs ≡ length ys
same_many f h g [] [] e = refl
same_many f h g [] (v ∷ ys) e = absurd (let no : ⊥ = cc in no)
same_many f h g (u ∷ xs) [] e = absurd (let no : ⊥ = cc in no)
same_many {C = C} f h g (u ∷ xs) (v ∷ ys) e = ap suc (same_many f h g xs ys (ap (λ (l : List C). elim l [ [] ↦ map f xs | z ∷ zs ↦ zs ]) e))

-- ---- names

pub global_known : (N : Word → Type 0) (ds : List Declaration) (i : ℕ) (d : Declaration) → i < length ds → d ≡ get_or ds i d → Each N (names_of ds) → N d.name.word
global_known N [] i d less is h = absurd (omega (arith, less))
global_known N (e ∷ ds) zero d less is h = subst (λ (x : Declaration). N x.name.word) (sym is) h.0
global_known N (e ∷ ds) (suc i) d less is h = global_known N ds i d (omega (arith, less)) is h.1

module _ (ts : List Tree) (P : Program) (u : Routine) where
  pub local_known : (N : Word → Type 0) (ds : List Declaration) (i : ℕ) (d : Declaration) → i < length ds → d ≡ get_or ds i d → Each N (written_all P u (declarations_at ts ds)) → N (written P u d.name.word)
  local_known N [] i d less is h = absurd (omega (arith, less))
  local_known N (e ∷ ds) zero d less is h = subst (λ (x : Declaration). N (written P u x.name.word)) (sym is) h.0
  local_known N (e ∷ ds) (suc i) d less is h = local_known N ds i d (omega (arith, less)) is h.1

  pub prepared_at : (ready list : List Declaration) (i : ℕ) (r d : Declaration) → declarations_at ts ready ≡ prepared_declarations P u (declarations_at ts list) → i < length list → r ≡ get_or ready i r → d ≡ get_or list i d
      → start_at ts r.start ≡ prepared_start P u (start_at ts d.start)
  prepared_at ready list i r d e less ir id = ap (λ (x : tree.Declaration). x.start) (mapped_at (declaration_at ts) (prepared_declaration P u) (declaration_at ts) ready list i r d e less ir id)

pub params_known : (N : Word → Type 0) (P : Program) (u : Routine) (ds es : List tree.Declaration) → Each N (written_all P u (ds ++ es)) → Each N (written_all P u ds)
params_known N P u [] es h = tt
params_known N P u (d ∷ ds) es h = (h.0, params_known N P u ds es h.1)

pub variables_known : (N : Word → Type 0) (P : Program) (u : Routine) (ds es : List tree.Declaration) → Each N (written_all P u (ds ++ es)) → Each N (written_all P u es)
variables_known N P u [] es h = h
variables_known N P u (d ∷ ds) es h = variables_known N P u ds es h.1

-- ---- global variables

module _ (p : code.Program) (list : List Declaration) (s0 : State) (ns0 : List ℕ) where
  abbrev globals_of : List Declaration → State → List ℕ → Flow State
  globals_of ds s ns = globals_flow (as_written (program_at p) []) (declarations_at p.pool.now ds) s ns

  abbrev pub GlobalsFrom : ℕ → State → List ℕ → Type 0
  GlobalsFrom i s ns = globals_of (drop i list) s ns ≡ globals_of list s0 ns0

  abbrev one_value : Declaration → State → List ℕ → Flow Value
  one_value d s ns = plain_flow (value_by (program_at p) [] []) d.name.place (start_at p.pool.now d.start) s ns

  abbrev pub one_global : Declaration → State → List ℕ → Flow State
  one_global d s ns = onward (one_value d s ns) (λ v ms. falls (put d.name.word v s) ms)

  first_global : (i : ℕ) (d : Declaration) (s : State) (ns : List ℕ) → i < length list → d ≡ get_or list i d → globals_of (drop i list) s ns ≡ onward (one_value d s ns) (λ v ms. globals_of (drop (i + 1) list) (put d.name.word v s) ms)
  first_global i d s ns less is = ap (λ (ds : List Declaration). globals_of ds s ns) (drop_more list i d less ∙ ap (λ (x : Declaration). x ∷ drop (i + 1) list) (sym is))

  pub globals_next : (i : ℕ) (d : Declaration) (s t : State) (ns ms : List ℕ) → i < length list → d ≡ get_or list i d → one_global d s ns ≡ falls t ms → GlobalsFrom i s ns → GlobalsFrom (i + 1) t ms
  globals_next i d s t ns ms less is e h =
      sym (through_made (one_value d s ns) (λ (v : Value). put d.name.word v s) t ms (λ x ls. globals_of (drop (i + 1) list) x ls) e) ∙ sym (first_global i d s ns less is) ∙ h

  pub globals_pause : (i : ℕ) (d : Declaration) (s : State) (ns : List ℕ) (q : Pause) → i < length list → d ≡ get_or list i d → Pauses q (one_global d s ns) → GlobalsFrom i s ns → Pauses q (globals_of list s0 ns0)
  globals_pause i d s ns q less is k h =
      pauses_is q (onward (one_value d s ns) (λ v ms. globals_of (drop (i + 1) list) (put d.name.word v s) ms)) (globals_of list s0 ns0) (sym (first_global i d s ns less is) ∙ h)
      (pauses_made q (one_value d s ns) (λ (v : Value). put d.name.word v s) (λ x ls. globals_of (drop (i + 1) list) x ls) k)

  pub globals_done : (i : ℕ) (s : State) (ns : List ℕ) → length list ≤ i → GlobalsFrom i s ns → globals_of list s0 ns0 ≡ falls s ns
  globals_done i s ns le h = sym h ∙ ap (λ (ds : List Declaration). globals_of ds s ns) (drop_all i list le)

-- where no name is bound, of a declaration that is seen in parts
pub unbound_seen : (p : code.Program) (xs : List Word) (ws : List Value) (d e : Declaration) → d ≡ e → (s : State) (ns : List ℕ) → xs ≡ [] → ws ≡ []
    → onward (plain_flow (value_by (program_at p) xs ws) d.name.place (start_at p.pool.now d.start) s ns) (λ v ms. falls (put d.name.word v s) ms)
    ≡ onward (plain_flow (value_by (program_at p) [] []) e.name.place (start_at p.pool.now e.start) s ns) (λ v ms. falls (put e.name.word v s) ms)
unbound_seen p xs ws d e q s ns ex ew = λ j. onward (plain_flow (value_by (program_at p) (ex j) (ew j)) (q j).name.place (start_at p.pool.now (q j).start) s ns) (λ v ms. falls (put (q j).name.word v s) ms)

-- ---- a routine's own variables

module _ (p : code.Program) (u : Routine) (spread : Bool) (vs : List Actor) where
  abbrev pub locals_from : List Declaration → State → List ℕ → Flow State
  locals_from ds s ns = locals_flow (as_written (program_at p) []) (program_at p) u spread vs (declarations_at p.pool.now ds) s ns

  abbrev pub one_local : Declaration → State → List ℕ → Flow State
  one_local d s ns = local_flow (as_written (program_at p) []) (program_at p) u spread vs (declaration_at p.pool.now d) s ns

  module _ (list : List Declaration) (s0 : State) (ns0 : List ℕ) where
    abbrev pub LocalsFrom : ℕ → State → List ℕ → Type 0
    LocalsFrom i s ns = locals_from (drop i list) s ns ≡ locals_from list s0 ns0

    first_local : (i : ℕ) (d : Declaration) (s : State) (ns : List ℕ) → i < length list → d ≡ get_or list i d → locals_from (drop i list) s ns ≡ onward (one_local d s ns) (λ t ms. locals_from (drop (i + 1) list) t ms)
    first_local i d s ns less is = ap (λ (ds : List Declaration). locals_from ds s ns) (drop_more list i d less ∙ ap (λ (x : Declaration). x ∷ drop (i + 1) list) (sym is))

    pub locals_next : (i : ℕ) (d : Declaration) (s t : State) (ns ms : List ℕ) → i < length list → d ≡ get_or list i d → one_local d s ns ≡ falls t ms → LocalsFrom i s ns → LocalsFrom (i + 1) t ms
    locals_next i d s t ns ms less is e h =
        sym (through (one_local d s ns) t ms (λ x ls. locals_from (drop (i + 1) list) x ls) e) ∙ sym (first_local i d s ns less is) ∙ h

    pub locals_pause : (i : ℕ) (d : Declaration) (s : State) (ns : List ℕ) (q : Pause) → i < length list → d ≡ get_or list i d → Pauses q (one_local d s ns) → LocalsFrom i s ns → Pauses q (locals_from list s0 ns0)
    locals_pause i d s ns q less is k h =
        pauses_is q (onward (one_local d s ns) (λ x ls. locals_from (drop (i + 1) list) x ls)) (locals_from list s0 ns0) (sym (first_local i d s ns less is) ∙ h)
        (pauses_onward q (one_local d s ns) (λ x ls. locals_from (drop (i + 1) list) x ls) k)

    pub locals_done : (i : ℕ) (s : State) (ns : List ℕ) → length list ≤ i → LocalsFrom i s ns → locals_from list s0 ns0 ≡ falls s ns
    locals_done i s ns le h = sym h ∙ ap (λ (ds : List Declaration). locals_from ds s ns) (drop_all i list le)

  abbrev all_of : List tree.Declaration → State → List ℕ → Flow State
  all_of ds s ns = locals_flow (as_written (program_at p) []) (program_at p) u spread vs ds s ns

  -- those of two lists, one after another
  pub both_locals : (ds es : List tree.Declaration) (s : State) (ns : List ℕ) → all_of (ds ++ es) s ns ≡ onward (all_of ds s ns) (λ t ms. all_of es t ms)
  both_locals [] es s ns = refl
  both_locals (d ∷ ds) es s ns =
      let one = local_flow (as_written (program_at p) []) (program_at p) u spread vs d s ns in
      (λ i. onward one (λ t ms. both_locals ds es t ms i)) ∙ sym (onward_again one (λ t ms. all_of ds t ms) (λ t ms. all_of es t ms))

-- where no process has them
pub none_have : (p : code.Program) (u : Routine) (ds : List tree.Declaration) (s : State) (ns : List ℕ) → locals_flow (as_written (program_at p) []) (program_at p) u false [] ds s ns ≡ falls s ns
none_have p u [] s ns = refl
none_have p u (d ∷ ds) s ns = none_have p u ds s ns

-- ---- a plain variable, prepared

module _ (p : code.Program) (u : Routine) (v : Actor) (xs : List Word) (ws : List Value) (sc : written_scope (program_at p) [] v ≡ scope_in (program_at p) xs ws) where
  abbrev scoped : Scope → Tree → State → Outcome Value
  scoped c e s = value_of bounded e c s

  pub plain_prepared : (at : Place) (d e : Start) (s : State) (ns : List ℕ) → e ≡ prepared_start (program_at p) u d → plain_flow ((as_written (program_at p) []).inside v u) at d s ns ≡ plain_flow (value_by (program_at p) xs ws) at e s ns
  plain_prepared at d e s ns q = by d ∙ (λ i. plain_flow (scoped (sc i)) at (sym q i) s ns)
    where
      by : (d : Start) → plain_flow ((as_written (program_at p) []).inside v u) at d s ns ≡ plain_flow (scoped (written_scope (program_at p) [] v)) at (prepared_start (program_at p) u d) s ns
      by unset = refl
      by (equals t) = refl
      by (among t) = refl

  -- in memory: under the written name, by the prepared value, of a declaration that is seen in parts
  pub plain_seen : (vs : List Actor) (d f : Declaration) → d ≡ f → (e : code_start.Start) (x : Word) (s : State) (ns : List ℕ) → start_at p.pool.now e ≡ prepared_start (program_at p) u (start_at p.pool.now f.start)
      → x ≡ written (program_at p) u d.name.word
      → onward (plain_flow (value_by (program_at p) xs ws) d.name.place (start_at p.pool.now e) s ns) (λ w ms. falls (put x w s) ms) ≡ local_flow (as_written (program_at p) []) (program_at p) u false (v ∷ vs) (declaration_at p.pool.now f) s ns
  plain_seen vs d f q e x s ns m n =
      (λ i. onward (plain_flow (value_by (program_at p) xs ws) (q i).name.place (start_at p.pool.now e) s ns) (λ w ms. falls (put ((n ∙ ap (λ (g : Declaration). written (program_at p) u g.name.word) q) i) w s) ms))
      ∙ (λ i. onward (sym (plain_prepared f.name.place (start_at p.pool.now f.start) (start_at p.pool.now e) s ns m) i) (λ w ms. falls (put (written (program_at p) u f.name.word) w s) ms))
