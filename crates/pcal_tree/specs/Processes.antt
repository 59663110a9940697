-- The processes of an algorithm and their identifiers ("A PlusCal User's Manual", section 3.3, processes).
use Rattle.std.specs.Prelude.{◌≡◌, ℕ, suc, List, [], ◌∷◌, ◌++◌, Bool, true, false, cond, Option, Some, None, ◌⊎◌, map, Ok, Err}
use Rattle.std.specs.Ordering.{is_lt}
use Rattle.tla_token.specs.declared.place.Place.{Place}
use Rattle.tla_value.specs.declared.fault.FaultKind.TheVariants.{SameIdentifier}
use Rattle.tla_value.specs.Value.{Value, truth, set, Values, no_values, and, fault, Outcome, ◌>>=◌}
use Rattle.tla_value.specs.Order.{order, same, set_from}
use Rattle.tla_value.specs.Definitions.{no_state}
use Rattle.tla_value.specs.Meaning.{eval}
use Rattle.pcal_tree.specs.Algorithm.{Process, Main, alone, processes, Routine, process_routine, alone_routine, first_process}
use Rattle.tla_value.specs.Stops.{members_at}
use Rattle.pcal_tree.specs.Program.{Program, Actor, common_env}
use Rattle.tla_tree.specs.Tree.{root_place}

abbrev pub one_value : Bool → Place → Value → Outcome Values
one_value true at v = members_at at v
one_value false at v = Ok (and v no_values)

-- those of one process: the members of its set, or its one identifier
abbrev pub identifiers_of : Program → Process → Outcome Values
identifiers_of P p = do
  v ← (eval P.check p.identity (common_env P no_state)).value
  one_value p.several (root_place p.identity) v

abbrev pub actors_of : Routine → Values → List Actor
actors_of u no_values = []
actors_of u (and v vs) = record { self = Some v; own = u } ∷ actors_of u vs

-- all identifiers, process by process
abbrev pub all_actors : Program → ℕ → List Process → Outcome (List Actor)
all_actors P n [] = Ok []
all_actors P n (p ∷ ps) = do
  vs ← identifiers_of P p
  more ← all_actors P (suc n) ps
  Ok (actors_of (process_routine n p) vs ++ more)

abbrev pub identifier : Option Value → Value
identifier (Some v) = v
identifier None = truth false  -- the one body has none

abbrev pub identifiers : List Actor → List Value
identifiers vs = map (λ v. identifier v.self) vs

abbrev pub has_identifier : Value → List Actor → Bool
has_identifier w [] = false
has_identifier w (v ∷ vs) = cond (same w (identifier v.self)) true (has_identifier w vs)

-- no two processes share an identifier; the later one's name is the place
abbrev pub apart : List Actor → List Actor → Outcome (List Actor)
apart earlier [] = Ok earlier
apart earlier (v ∷ vs) = cond (has_identifier (identifier v.self) earlier) (Err (fault SameIdentifier v.own.name.place)) (apart (earlier ++ (v ∷ [])) vs)

-- the union of all identifiers is reached at the last process's name
abbrev pub last_place : Place → List Process → Place
last_place at [] = at
last_place at (p ∷ ps) = last_place p.name.place ps

abbrev pub united : Program → Place → List Actor → Outcome (List Actor)
united P at vs = do
  _ ← P.check at (set (set_from (identifiers vs)))
  Ok vs

-- in canonical order of their identifiers
abbrev pub placed : Actor → List Actor → List Actor
placed v [] = v ∷ []
placed v (w ∷ ws) = cond (is_lt (order (identifier v.self) (identifier w.self))) (v ∷ w ∷ ws) (w ∷ placed v ws)

abbrev pub sorted : List Actor → List Actor
sorted [] = []
sorted (v ∷ vs) = placed v (sorted vs)

abbrev pub actors_in : Program → Main → Outcome (List Actor)
actors_in P (alone ss) = Ok (record { self = None; own = alone_routine P.algorithm ss } ∷ [])
actors_in P (processes ps) = do
  vs ← all_actors P (first_process P.algorithm) ps
  ws ← apart [] vs
  us ← united P (last_place P.algorithm.name.place ps) ws
  Ok (sorted us)

-- the processes in canonical order, each with its identifier; or why they have none
abbrev pub actors : Program → Outcome (List Actor)
actors P = actors_in P P.algorithm.main

abbrev pub Proper : Program → Type 0
Proper P = (vs : List Actor) × (actors P ≡ Ok vs)

abbrev pub OneOf : {X : Type 0} → X → List X → Type 0
OneOf x [] = ⊥
OneOf x (y ∷ ys) = (x ≡ y) ⊎ OneOf x ys

abbrev pub IsActor : Program → Actor → Type 0
IsActor P v = (vs : List Actor) × (actors P ≡ Ok vs) × OneOf v vs
