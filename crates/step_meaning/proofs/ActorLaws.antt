-- The processes that run a routine, in memory, and their identifiers.
use Rattle.std.proofs.Common.{◌≡◌, ◌==◌, ℕ, Bool, true, false, cond, List, [], ◌∷◌, ◌++◌, map, Option, Some, None, Ok, refl, sym, ap, subst, ◌∙◌}
use Rattle.tla_tree.specs.Tree.{Tree}
use Rattle.tla_value.specs.Order.{set_from, IsBefore, IsAscending}
use Rattle.tla_value.specs.Value.{Value, set, values_in, ◌>>=◌}
use Rattle.tla_value.proofs.OrderSets.{before_next}
use Rattle.tla_value.proofs.Outcomes.{ok_is, bound_ok}
use Rattle.pcal_tree.specs.Algorithm.{Routine, Process, Main, alone, processes}
use Rattle.pcal_tree.specs.InitialStates.{running}
use Rattle.pcal_tree.specs.Processes.{identifier, identifiers, actors_in, all_actors, apart, united, sorted, last_place}
use Rattle.pcal_tree.specs.Algorithm.{first_process}
use Rattle.pcal_tree.specs.Program.{Program, Actor}
use Rattle.pcal_tree.proofs.ProcessesInOrder.{id, ids, apart_gives, sorted_ascending}
use Rattle.step_moves.specs.InMemory.{actor_at}
use Rattle.step_moves.specs.declared.actor.Actor as code
use Rattle.step_meaning.specs.Identified.{numbered_so, those, selves, HaveThese}

-- ---- those of a routine

pub running_those : (u : Routine) (vs : List Actor) → running u vs ≡ those (Some u.number) vs
running_those u [] = refl
running_those u (v ∷ vs) = ap (λ (rest : List Actor). cond (v.own.number == u.number) (v ∷ rest) rest) (running_those u vs)

one_first : (b : Bool) (v : Actor) (vs : List Actor) → selves (cond b (v ∷ vs) vs) ≡ selves (cond b (v ∷ []) []) ++ selves vs
one_first true v vs = refl
one_first false v vs = refl

pub those_first : (w : Option ℕ) (v : Actor) (vs : List Actor) → selves (those w (v ∷ vs)) ≡ selves (those w (v ∷ [])) ++ selves (those w vs)
those_first None v vs = refl
those_first (Some n) v vs = one_first (v.own.number == n) v (numbered_so n vs)

-- ---- identifiers

ids_selves : (vs : List Actor) → identifiers vs ≡ map identifier (selves vs)
ids_selves [] = refl
ids_selves (v ∷ vs) = ap (λ (l : List Value). identifier v.self ∷ l) (ids_selves vs)

ids_back : (ws : List Value) → map identifier (map Some ws) ≡ ws
ids_back [] = refl
ids_back (w ∷ ws) = ap (λ (l : List Value). w ∷ l) (ids_back ws)

pub have_ids : (vs : List Actor) (ws : List Value) → HaveThese vs ws → identifiers vs ≡ ws
have_ids vs ws h = ids_selves vs ∙ ap (map identifier) (sym h) ∙ ids_back ws

before_those : (w : Value) (n : ℕ) (vs : List Actor) → IsBefore w (ids vs) → IsAscending (ids vs) → IsBefore w (ids (numbered_so n vs))
before_those w n [] b a = tt
before_those w n (v ∷ vs) b a = by (v.own.number == n) (before_those w n vs (before_next w (id v) (ids vs) b a.0) a.1)
  where
    by : (c : Bool) → IsBefore w (ids (numbered_so n vs)) → IsBefore w (ids (cond c (v ∷ numbered_so n vs) (numbered_so n vs)))
    by true h = b
    by false h = h

numbered_ascending : (n : ℕ) (vs : List Actor) → IsAscending (ids vs) → IsAscending (ids (numbered_so n vs))
numbered_ascending n [] a = tt
numbered_ascending n (v ∷ vs) a = by (v.own.number == n) (numbered_ascending n vs a.1)
  where
    by : (c : Bool) → IsAscending (ids (numbered_so n vs)) → IsAscending (ids (cond c (v ∷ numbered_so n vs) (numbered_so n vs)))
    by true h = (before_those (id v) n vs a.0 a.1, h)
    by false h = h

those_ascending : (w : Option ℕ) (vs : List Actor) → IsAscending (ids vs) → IsAscending (ids (those w vs))
those_ascending None vs a = a
those_ascending (Some n) vs a = numbered_ascending n vs a

-- the identifiers of those of a routine ascend
pub ascending_of : (w : Option ℕ) (vs : List Actor) (ws : List Value) → HaveThese (those w vs) ws → IsAscending (ids vs) → IsAscending (values_in ws)
ascending_of w vs ws h a = subst (λ (us : List Value). IsAscending (values_in us)) (have_ids (those w vs) ws h) (those_ascending w vs a)

-- ---- all processes are in the order of their identifiers

sorted_are : (P : Program) (ps : List Process) (vs : List Actor) → actors_in P (processes ps) ≡ Ok vs → IsAscending (ids vs)
sorted_are P ps vs e =
    let a = bound_ok (all_actors P (first_process P.algorithm) ps) (λ us. apart [] us >>= (λ ws. united P (last_place P.algorithm.name.place ps) ws >>= (λ zs. Ok (sorted zs)))) vs e in
    let b = bound_ok (apart [] a.0) (λ ws. united P (last_place P.algorithm.name.place ps) ws >>= (λ zs. Ok (sorted zs))) vs a.2 in
    let c = bound_ok (united P (last_place P.algorithm.name.place ps) b.0) (λ zs. Ok (sorted zs)) vs b.2 in
    let d = bound_ok (P.check (last_place P.algorithm.name.place ps) (set (set_from (identifiers b.0)))) (λ x. Ok b.0) c.0 c.1 in
    let g = apart_gives [] a.0 b.0 b.1 in
    let same : a.0 ≡ c.0 = sym g.0 ∙ ok_is d.2 in
    subst (λ (zs : List Actor). IsAscending (ids zs)) (ap sorted same ∙ ok_is c.2) (sorted_ascending a.0 g.1)

pub actors_ascend : (P : Program) (m : Main) (vs : List Actor) → actors_in P m ≡ Ok vs → IsAscending (ids vs)
actors_ascend P (alone ss) vs e = subst (λ (zs : List Actor). IsAscending (ids zs)) (ok_is e) (tt, tt)
actors_ascend P (processes ps) vs e = sorted_are P ps vs e

-- the identifiers rest on no tree
pub ids_anywhere : (ts us : List Tree) (all : List code.Actor) → IsAscending (ids (map (actor_at ts) all)) → IsAscending (ids (map (actor_at us) all))
ids_anywhere ts us all a = subst (λ (l : List Value). IsAscending (values_in l)) (by all) a
  where
    by : (xs : List code.Actor) → identifiers (map (actor_at ts) xs) ≡ identifiers (map (actor_at us) xs)
    by [] = refl
    by (x ∷ xs) = ap (λ (l : List Value). identifier x.identifier ∷ l) (by xs)
