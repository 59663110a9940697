-- Processes gathered one after another, until one has no identifiers; and the place of the last.
use Rattle.std.proofs.Common.{◌≡◌, ℕ, suc, ◌+◌, ◌<◌, ◌≤◌, List, [], ◌∷◌, ◌++◌, length, map, drop, get_or, refl, sym, ap, subst, ◌∙◌, append_assoc, arith, Ok, Err, Some, None}
use Rattle.std.proofs.lemmas.List.{drop_more, drop_all, append-nil, map-append}
use Rattle.tla_token.specs.declared.place.Place.{Place}
use Rattle.tla_tree.specs.Tree.{Tree}
use Rattle.tla_value.specs.declared.stop.EvalStop.{EvalStop}
use Rattle.tla_value.specs.Value.{Value, Values, set, values_in, Outcome, ◌>>=◌}
use Rattle.tla_value.specs.Order.{set_from}
use Rattle.pcal_tree.specs.declared.algorithm.Process as declared_process
use Rattle.pcal_tree.specs.Algorithm as pure
use Rattle.pcal_tree.specs.Algorithm.{Process, process_routine}
use Rattle.pcal_tree.specs.InMemory.{process_at}
use Rattle.pcal_tree.specs.Program.{Program, Actor}
use Rattle.pcal_tree.specs.Processes.{identifiers_of, actors_of, all_actors, identifiers, apart, united, sorted}
use Rattle.value_forms.specs.Gives.{Stops}
use Rattle.step_spots.specs.declared.routine.Routine.{Routine}
use Rattle.step_spots.specs.InMemory.{routine_at}
use Rattle.step_moves.specs.declared.actor.Named.{Named}
use Rattle.step_moves.specs.declared.actor.Actor as code
use Rattle.step_moves.specs.InMemory.{actor_at, named_at, identifiers_in}
use Rattle.value_forms.proofs.StopLaws.{behind, then_stops, then_later}

-- ---- process by process

then_behind : (xs ys : List Actor) (o : Outcome (List Actor)) → behind (xs ++ ys) o ≡ behind xs (o >>= λ zs. Ok (ys ++ zs))
then_behind xs ys (Ok zs) = ap Ok (append_assoc xs ys zs)
then_behind xs ys (Err k) = refl

module _ (P : Program) (all : Outcome (List Actor)) where
  -- what is gathered so far, before what the rest gives, is all
  abbrev pub Gathering : List Actor → ℕ → List Process → Type 0
  Gathering vs n ps = behind vs (all_actors P n ps) ≡ all

  pub one_gathered : (vs next : List Actor) (n m : ℕ) (p : Process) (ps : List Process) (ws : Values) → identifiers_of P p ≡ Ok ws → next ≡ vs ++ actors_of (process_routine n p) ws → m ≡ n + 1
      → Gathering vs n (p ∷ ps) → Gathering next m ps
  one_gathered vs next n m p ps ws is e after h =
      let up : m ≡ suc n = omega (arith, after) in
      (λ i. behind (e i) (all_actors P (up i) ps))
      ∙ then_behind vs (actors_of (process_routine n p) ws) (all_actors P (suc n) ps)
      ∙ ap (λ (o : Outcome Values). behind vs (o >>= λ us. all_actors P (suc n) ps >>= λ more. Ok (actors_of (process_routine n p) us ++ more))) (sym is)
      ∙ h

  pub gathering_stops : (s : EvalStop) (vs : List Actor) (n : ℕ) (p : Process) (ps : List Process) → Stops s (identifiers_of P p) → Gathering vs n (p ∷ ps) → Stops s all
  gathering_stops s vs n p ps k h =
      let here : Stops s (all_actors P n (p ∷ ps)) = then_stops s (identifiers_of P p) (λ us. all_actors P (suc n) ps >>= λ more. Ok (actors_of (process_routine n p) us ++ more)) k in
      subst (Stops s) h (then_stops s (all_actors P n (p ∷ ps)) (λ zs. Ok (vs ++ zs)) here)

  pub all_gathered : (vs : List Actor) (n : ℕ) → Gathering vs n [] → all ≡ Ok vs
  all_gathered vs n h = sym h ∙ ap Ok (append-nil vs)

pub none_gathered : (P : Program) (n m : ℕ) (ps : List Process) (ts : List Tree) (none : List Named) → none ≡ [] → m ≡ n → Gathering P (all_actors P n ps) (map (named_at ts) none) m ps
none_gathered P n m ps ts none e same = (λ i. behind (map (named_at ts) (e i)) (all_actors P (same i) ps)) ∙ by (all_actors P n ps)
  where
    by : (o : Outcome (List Actor)) → behind [] o ≡ o
    by (Ok zs) = refl
    by (Err k) = refl

-- the processes from one on
pub from_process : (ts : List Tree) (ps : List declared_process.Process) (i : ℕ) (p : declared_process.Process) → p ≡ get_or ps i p → i < length ps
    → map (process_at ts) (drop i ps) ≡ process_at ts p ∷ map (process_at ts) (drop (i + 1) ps)
from_process ts ps i p is less = ap (map (process_at ts)) (drop_more ps i p less ∙ ap (λ (y : declared_process.Process). y ∷ drop (i + 1) ps) (sym is))

pub no_process : (ts : List Tree) (ps : List declared_process.Process) (i : ℕ) → length ps ≤ i → map (process_at ts) (drop i ps) ≡ []
no_process ts ps i le = ap (map (process_at ts)) (drop_all i ps le)

-- ---- together

abbrev placed_then : Program → Place → List Actor → Outcome (List Actor)
placed_then P at ws = united P at ws >>= λ us. Ok (sorted us)

abbrev pub gathered_then : Program → Place → Outcome (List Actor) → Outcome (List Actor)
gathered_then P at o = o >>= λ vs. apart [] vs >>= placed_then P at

abbrev pub union_of : List Actor → Value
union_of vs = set (set_from (identifiers vs))

pub named_identifiers : (ts : List Tree) (all : List Named) → identifiers (map (named_at ts) all) ≡ identifiers_in all
named_identifiers ts [] = refl
named_identifiers ts (a ∷ all) = ap (λ (vs : List Value). a.identifier ∷ vs) (named_identifiers ts all)

pub stopped_first : (P : Program) (at : Place) (s : EvalStop) (o : Outcome (List Actor)) → Stops s o → Stops s (gathered_then P at o)
stopped_first P at s o k = then_stops s o (λ vs. apart [] vs >>= placed_then P at) k

pub stopped_apart : (P : Program) (at : Place) (s : EvalStop) (o : Outcome (List Actor)) (vs : List Actor) → o ≡ Ok vs → Stops s (apart [] vs) → Stops s (gathered_then P at o)
stopped_apart P at s o vs e k =
    then_later s vs o (λ us. apart [] us >>= placed_then P at) e (then_stops s (apart [] vs) (placed_then P at) k)

pub stopped_over : (P : Program) (at : Place) (s : EvalStop) (o : Outcome (List Actor)) (vs : List Actor) → o ≡ Ok vs → apart [] vs ≡ Ok vs → Stops s (P.check at (union_of vs)) → Stops s (gathered_then P at o)
stopped_over P at s o vs e a k =
    then_later s vs o (λ us. apart [] us >>= placed_then P at) e
    (then_later s vs (apart [] vs) (placed_then P at) a
    (then_stops s (united P at vs) (λ us. Ok (sorted us)) (then_stops s (P.check at (union_of vs)) (λ _. Ok vs) k)))

pub all_in_order : (P : Program) (at : Place) (o : Outcome (List Actor)) (vs : List Actor) (w : Value) → o ≡ Ok vs → apart [] vs ≡ Ok vs → P.check at (union_of vs) ≡ Ok w
    → gathered_then P at o ≡ Ok (sorted vs)
all_in_order P at o vs w e a u =
    ap (gathered_then P at) e
    ∙ ap (λ (q : Outcome (List Actor)). q >>= placed_then P at) a
    ∙ ap (λ (q : Outcome Value). (q >>= λ _. Ok vs) >>= λ us. Ok (sorted us)) u

-- ---- one identifier after another

abbrev pub AddsNamed : List Tree → Routine → List Named → List Named → List Value → List Value → Type 0
AddsNamed ts u old new all left =
    map (named_at ts) new ++ actors_of (routine_at ts u) (values_in left) ≡ map (named_at ts) old ++ actors_of (routine_at ts u) (values_in all)

pub named_more : (ts : List Tree) (u : Routine) (vs : List Value) (i : ℕ) (v : Value) → v ≡ get_or vs i v → i < length vs → (old new next : List Named) (k : Value)
    → next ≡ new ++ record { identifier = k; own = u } ∷ [] → k ≡ v → AddsNamed ts u old new vs (drop i vs) → AddsNamed ts u old next vs (drop (i + 1) vs)
named_more ts u vs i v is less old new next k n made h =
    let rest = actors_of (routine_at ts u) (values_in (drop (i + 1) vs)) in
    let first : drop i vs ≡ v ∷ drop (i + 1) vs = drop_more vs i v less ∙ ap (λ (y : Value). y ∷ drop (i + 1) vs) (sym is) in
    ap (λ (zs : List Named). map (named_at ts) zs ++ rest) (n ∙ ap (λ (z : Value). new ++ record { identifier = z; own = u } ∷ []) made)
    ∙ ap (λ (zs : List Actor). zs ++ rest) (map-append (named_at ts) new (record { identifier = v; own = u } ∷ []))
    ∙ append_assoc (map (named_at ts) new) (record { self = Some v; own = routine_at ts u } ∷ []) rest
    ∙ ap (λ (zs : List Value). map (named_at ts) new ++ actors_of (routine_at ts u) (values_in zs)) (sym first)
    ∙ h

pub named_all : (ts : List Tree) (u : Routine) (vs : List Value) (i : ℕ) (old new : List Named) → length vs ≤ i → AddsNamed ts u old new vs (drop i vs)
    → map (named_at ts) new ≡ map (named_at ts) old ++ actors_of (routine_at ts u) (values_in vs)
named_all ts u vs i old new le h =
    sym (append-nil (map (named_at ts) new)) ∙ ap (λ (zs : List Value). map (named_at ts) new ++ actors_of (routine_at ts u) (values_in zs)) (sym (drop_all i vs le)) ∙ h

-- ---- the identifiers, once more

pub identifier_more : (all : List Named) (i : ℕ) (one : Named) → one ≡ get_or all i one → i < length all → (old new : List Value) (k : Value) → new ≡ old ++ k ∷ [] → k ≡ one.identifier
    → old ++ identifiers_in (drop i all) ≡ identifiers_in all → new ++ identifiers_in (drop (i + 1) all) ≡ identifiers_in all
identifier_more all i one is less old new k n made h =
    let rest = identifiers_in (drop (i + 1) all) in
    let first : identifiers_in (drop i all) ≡ one.identifier ∷ rest = ap identifiers_in (drop_more all i one less ∙ ap (λ (y : Named). y ∷ drop (i + 1) all) (sym is)) in
    ap (λ (vs : List Value). vs ++ rest) n ∙ append_assoc old (k ∷ []) rest ∙ ap (λ (z : Value). old ++ z ∷ rest) made ∙ ap (λ (vs : List Value). old ++ vs) (sym first) ∙ h

pub identifier_all : (all : List Named) (i : ℕ) (vs : List Value) → length all ≤ i → vs ++ identifiers_in (drop i all) ≡ identifiers_in all → vs ≡ identifiers_in all
identifier_all all i vs le h = sym (append-nil vs) ∙ ap (λ (zs : List Named). vs ++ identifiers_in zs) (sym (drop_all i all le)) ∙ h

-- ---- the one body

abbrev alone_with : pure.Routine → Outcome (List Actor)
alone_with v = Ok (record { self = None; own = v } ∷ [])

pub one_alone : (ts : List Tree) (u : Routine) (none all : List code.Actor) (v : pure.Routine) → none ≡ [] → all ≡ none ++ record { identifier = None; own = u } ∷ [] → routine_at ts u ≡ v
    → alone_with v ≡ Ok (map (actor_at ts) all)
one_alone ts u none all v e n own =
    ap alone_with (sym own)
    ∙ ap (λ (zs : List code.Actor). Ok (map (actor_at ts) zs)) (sym (n ∙ ap (λ (zs : List code.Actor). zs ++ record { identifier = None; own = u } ∷ []) e))
