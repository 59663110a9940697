-- Where a process is among prepared routines: where it is among the routines, prepared.
use Rattle.std.proofs.Common.{◌≡◌, inl, inr, ℕ, zero, suc, ◌+◌, ◌<◌, ◌≤◌, List, [], ◌∷◌, length, drop, get_or, map, codes, Bool, true, false, cond, Option, Some, None, Result, Ok, Err, IfOk, IfSome, refl, sym, ap, subst, ◌∙◌, arith}
use Rattle.std.specs.Option.{option_map, option_or}
use Rattle.tla_token.specs.declared.place.Place.{Place}
use Rattle.tla_tree.specs.Tree.{Word, Tree}
use Rattle.tla_value.specs.Value.{Value, text, Outcome}
use Rattle.tla_value.specs.Order.{same}
use Rattle.pcal_tree.specs.declared.algorithm.Procedure as code
use Rattle.pcal_tree.specs.Algorithm.{Procedure, Routine, routines, procedure_routine, procedure_routines, main_routines, first_procedure, numbered}
use Rattle.pcal_tree.specs.declared.algorithm.Declaration.{Declaration}
use Rattle.pcal_tree.specs.declared.algorithm.Stmt.{Stmt}
use Rattle.pcal_tree.specs.InMemory.{procedure_at, declarations_at, statements_at}
use Rattle.pcal_tree.specs.Calls.{label_value, label_name}
use Rattle.pcal_tree.specs.FirstTrouble.{stand_named}
use Rattle.pcal_tree.specs.FirstTrouble as trouble
use Rattle.pcal_tree.specs.Processes.{OneOf}
use Rattle.pcal_tree.specs.Program.{Program, Actor}
use Rattle.pcal_tree.specs.Scope.{State}
use Rattle.pcal_tree.specs.Step.{Stand, pc_of, routines_of}
use Rattle.pcal_tree.specs.StepAnswers.{label_place}
use Rattle.pcal_tree.specs.StepStart.{Begin}
use Rattle.pcal_tree.proofs.TroubleLaws.{found_stands}
use Rattle.step_forms.specs.Opened.{IsOpenable}
use Rattle.step_spots.specs.Spots.{Spot, routine_spots, spot_named}
use Rattle.step_moves.specs.Prepared.{prepared_procedure, prepared_procedures, prepared_routine}
use Rattle.written_runs.specs.OwnSpots.{HasOwnStatements, prepared_stand}
use Rattle.written_runs.specs.Stands.{stand_of, stand_among, stand_in, stand_by_spots}
use Rattle.written_runs.proofs.OwnSpotLaws.{place_prepared, stand_prepared}
use Rattle.written_runs.proofs.StandLaws.{by_spots}
use Rattle.step_meaning.specs.StandsAt.{prepared_at, prepared_procedure_routines}
use Rattle.step_meaning.proofs.RunnerLaws.{one_before, one_behind}

-- ---- procedures

module _ (P : Program) where
  procedures_prepared_from : (n : ℕ) (ps : List Procedure) → numbered procedure_routine n (numbered (prepared_procedure P) n ps) ≡ map (prepared_routine P) (numbered procedure_routine n ps)
  procedures_prepared_from n [] = refl
  procedures_prepared_from n (p ∷ ps) = ap (λ (us : List Routine). prepared_routine P (procedure_routine n p) ∷ us) (procedures_prepared_from (suc n) ps)

  procedures_prepared : prepared_procedure_routines P ≡ map (prepared_routine P) (procedure_routines P.algorithm)
  procedures_prepared = procedures_prepared_from (first_procedure P.algorithm) P.algorithm.procedures

  own : (u : Routine) → HasOwnStatements P u (prepared_routine P u)
  own u = record { number = refl; body = refl; exit = refl }

  -- ---- one routine

  at_spot : (u : Routine) (l : Word) (o : Option Begin) → option_map (prepared_stand P u (prepared_routine P u)) (trouble.stand_at u l o) ≡ option_map (prepared_at P) (trouble.stand_at u l o)
  at_spot u l None = refl
  at_spot u l (Some b) = refl

  among : (w : Value) (u : Routine) (all ss : List Spot) → option_map (prepared_stand P u (prepared_routine P u)) (stand_among P w u all ss) ≡ option_map (prepared_at P) (stand_among P w u all ss)
  among w u all [] = refl
  among w u all (s ∷ ss) = by (same w (label_value P u s.name.word)) (among w u all ss)
    where
      by : (b : Bool) → option_map (prepared_stand P u (prepared_routine P u)) (stand_among P w u all ss) ≡ option_map (prepared_at P) (stand_among P w u all ss)
          → option_map (prepared_stand P u (prepared_routine P u)) (cond b (stand_of u all s) (stand_among P w u all ss)) ≡ option_map (prepared_at P) (cond b (stand_of u all s) (stand_among P w u all ss))
      by true e = at_spot u s.name.word (option_map (λ (z : Spot). z.begins) (spot_named all s.name.word))
      by false e = e

  or_map : (f : Stand → Stand) (a b : Option Stand) → option_map f (option_or a b) ≡ option_or (option_map f a) (option_map f b)
  or_map f None b = refl
  or_map f (Some d) b = refl

  module _ (h : IsOpenable P.algorithm) where
    pub stand_place : (d : Stand) (v : Routine) (l : Word) (at : Place) → v ≡ prepared_routine P d.routine → l ≡ d.label → label_place v l ≡ at → label_place d.routine d.label ≡ at
    stand_place d v l at e f g = sym (place_prepared P h d.routine (prepared_routine P d.routine) (own d.routine) d.label) ∙ (λ i. label_place (sym e i) (sym f i)) ∙ g

    in_one : (w : Value) (u : Routine) → stand_in P w (prepared_routine P u) ≡ option_map (prepared_at P) (stand_in P w u)
    in_one w u = stand_prepared P h u (prepared_routine P u) (own u) w ∙ among w u (routine_spots u) (routine_spots u)

    in_all : (w : Value) (us : List Routine) → stand_by_spots P w (map (prepared_routine P) us) ≡ option_map (prepared_at P) (stand_by_spots P w us)
    in_all w [] = refl
    in_all w (u ∷ us) = (λ i. option_or (in_one w u i) (in_all w us i)) ∙ sym (or_map (prepared_at P) (stand_in P w u) (stand_by_spots P w us))

    both : (w : Value) (v : Actor) → option_or (stand_in P w (prepared_routine P v.own)) (stand_by_spots P w (prepared_procedure_routines P)) ≡ option_map (prepared_at P) (stand_named P w (routines_of P v))
    both w v =
        (λ i. option_or (stand_in P w (prepared_routine P v.own)) (stand_by_spots P w (procedures_prepared i)))
        ∙ in_all w (routines_of P v) ∙ ap (option_map (prepared_at P)) (by_spots P w (routines_of P v))

    pub named_first : (w : Value) (v : Actor) (u : Routine) (d : Stand) → u ≡ prepared_routine P v.own → Some d ≡ stand_in P w u → Some d ≡ option_map (prepared_at P) (stand_named P w (routines_of P v))
    named_first w v u d e f = ap (λ (o : Option Stand). option_or o (stand_by_spots P w (prepared_procedure_routines P))) (f ∙ ap (stand_in P w) e) ∙ both w v

    pub named_later : (w : Value) (v : Actor) (u : Routine) (o : Option Stand) → u ≡ prepared_routine P v.own → None ≡ stand_in P w u → o ≡ stand_by_spots P w (prepared_procedure_routines P)
        → o ≡ option_map (prepared_at P) (stand_named P w (routines_of P v))
    named_later w v u o e f g = g ∙ ap (λ (q : Option Stand). option_or q (stand_by_spots P w (prepared_procedure_routines P))) (f ∙ ap (stand_in P w) e) ∙ both w v

-- ---- procedures in memory, one after another

-- one with these parameters, variables and statements
abbrev pub made_procedure : List Tree → ℕ → code.Procedure → List Declaration → List Declaration → List Stmt → Routine
made_procedure ts m q ps ds ss = record { number = m; name = q.name; params = declarations_at ts ps; variables = declarations_at ts ds; spread = true; body = statements_at ts ss; exit = codes "Error" }

drop_mapped : (ts : List Tree) (n : ℕ) (qs : List code.Procedure) (i : ℕ) (q : code.Procedure) → q ≡ get_or qs i q → i < length qs
    → drop i (numbered procedure_routine n (map (procedure_at ts) qs)) ≡ procedure_routine (n + i) (procedure_at ts q) ∷ drop (i + 1) (numbered procedure_routine n (map (procedure_at ts) qs))
drop_mapped ts n [] i q is less = absurd (let no : ⊥ = omega (arith, less) in no)
drop_mapped ts n (r ∷ qs) zero q is less =
    let same : n ≡ n + 0 = omega arith in
    λ j. procedure_routine (same j) (procedure_at ts (sym is j)) ∷ numbered procedure_routine (suc n) (map (procedure_at ts) qs)
drop_mapped ts n (r ∷ qs) (suc i) q is less =
    let up : suc (i + 1) ≡ suc i + 1 = omega arith in
    let sum : suc n + i ≡ n + suc i = omega arith in
    drop_mapped ts (suc n) qs i q is (omega (arith, less))
    ∙ (λ j. procedure_routine (sum j) (procedure_at ts q) ∷ drop (up j) (numbered procedure_routine n (map (procedure_at ts) (r ∷ qs))))

module _ (ts : List Tree) (P : Program) (w : Value) (qs : List code.Procedure) (is : map (procedure_at ts) qs ≡ prepared_procedures P) where
  abbrev n : ℕ
  n = first_procedure P.algorithm

  abbrev pub rest_from : ℕ → Option Stand
  rest_from i = stand_by_spots P w (drop i (prepared_procedure_routines P))

  pub rest_step : (i : ℕ) (q : code.Procedure) → q ≡ get_or qs i q → i < length qs → rest_from i ≡ option_or (stand_in P w (procedure_routine (n + i) (procedure_at ts q))) (rest_from (i + 1))
  rest_step i q e less =
      subst (λ (ps : List Procedure). stand_by_spots P w (drop i (numbered procedure_routine n ps)) ≡ option_or (stand_in P w (procedure_routine (n + i) (procedure_at ts q))) (stand_by_spots P w (drop (i + 1) (numbered procedure_routine n ps)))) is
      (ap (stand_by_spots P w) (drop_mapped ts n qs i q e less))

  pub rest_found : (i : ℕ) (q : code.Procedure) (u : Routine) (d : Stand) → q ≡ get_or qs i q → i < length qs → u ≡ procedure_routine (n + i) (procedure_at ts q) → Some d ≡ stand_in P w u → Some d ≡ rest_from i
  rest_found i q u d e less k f = ap (λ (o : Option Stand). option_or o (rest_from (i + 1))) (f ∙ ap (stand_in P w) k) ∙ sym (rest_step i q e less)

  pub rest_missed : (i : ℕ) (q : code.Procedure) (u : Routine) → q ≡ get_or qs i q → i < length qs → u ≡ procedure_routine (n + i) (procedure_at ts q) → None ≡ stand_in P w u → rest_from (i + 1) ≡ rest_from i
  rest_missed i q u e less k f = ap (λ (o : Option Stand). option_or o (rest_from (i + 1))) (f ∙ ap (stand_in P w) k) ∙ sym (rest_step i q e less)

  none_left : (m : ℕ) (ps : List code.Procedure) (i : ℕ) → length ps ≤ i → drop i (numbered procedure_routine m (map (procedure_at ts) ps)) ≡ []
  none_left m [] zero h = refl
  none_left m [] (suc i) h = refl
  none_left m (p ∷ ps) zero h = absurd (let no : ⊥ = omega (arith, h) in no)
  none_left m (p ∷ ps) (suc i) h = none_left (suc m) ps i (omega (arith, h))

  pub rest_ended : (i : ℕ) → length qs ≤ i → None ≡ rest_from i
  rest_ended i h =
      subst (λ (ps : List Procedure). None ≡ stand_by_spots P w (drop i (numbered procedure_routine n ps))) is (sym (ap (stand_by_spots P w) (none_left n qs i h)))

-- ---- what is found

abbrev value_in : Value → Outcome Value → Value
value_in d (Ok v) = v
value_in d _ = d

module _ (P : Program) (s : State) (v : Actor) (w : Value) (d : Stand) (read : pc_of v s ≡ Ok w) (e : stand_named P w (routines_of P v) ≡ Some d) where
  pub label_is : w ≡ text (label_name P d.routine d.label)
  label_is = ap (value_in w) (sym read ∙ (found_stands P s v w d read e).2)

  one_by : OneOf v.own (main_routines P.algorithm P.algorithm.main) → OneOf d.routine (routines_of P v) → OneOf d.routine (routines P.algorithm)
  one_by m (inl q) = subst (λ (u : Routine). OneOf u (routines P.algorithm)) (sym q) (one_behind v.own (procedure_routines P.algorithm) (main_routines P.algorithm P.algorithm.main) m)
  one_by m (inr q) = one_before d.routine (procedure_routines P.algorithm) (main_routines P.algorithm P.algorithm.main) q

  pub routine_known : OneOf v.own (main_routines P.algorithm P.algorithm.main) → OneOf d.routine (routines P.algorithm)
  routine_known m = one_by m (found_stands P s v w d read e).0

-- ---- what is found, prepared

abbrev unwrapped : Stand → Option Stand → Stand
unwrapped d (Some x) = x
unwrapped d None = d

pub some_prepared : (P : Program) (o : Option Stand) (x : Stand) → Some x ≡ option_map (prepared_at P) o → (d : Stand) × ((o ≡ Some d) × (x ≡ prepared_at P d))
some_prepared P None x h = absurd (let no : ⊥ = cc in no)
some_prepared P (Some d) x h = (d, (refl, ap (unwrapped x) h))

pub if_some : {X : Type 0} (A : X → Type 0) (o : Option X) (x : X) → o ≡ Some x → IfSome o A → A x
if_some A o x e h = subst (λ (q : Option _). IfSome q A) e h

pub if_ok : {X E : Type 0} (A B : X → Type 0) (r : Result X E) → IfOk r A → ((x : X) → A x → B x) → IfOk r B
if_ok A B (Ok x) h f = f x h
if_ok A B (Err e) h f = tt
