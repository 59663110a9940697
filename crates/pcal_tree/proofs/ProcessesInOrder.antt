-- The processes of an algorithm in the order of their identifiers: those that run one routine have the members of its set, in their order, and all together have the
-- members of ProcSet. Initial values of processes are written as functions over these sets, and the meaning walks through these lists.
use Rattle.std.proofs.Common.{◌≡◌, ℕ, suc, ◌<◌, List, [], ◌∷◌, ◌++◌, Bool, true, false, ◌||◌, ◌&&◌, ◌==◌, cond, Some, refl, sym, ◌∙◌, ap, subst, arith, Ok, Err}
use Rattle.std.proofs.Math.Bool.{or_assoc}
use Rattle.std.proofs.lemmas.Bool.{both_ways, eq-eqb, ne_eqb, or_parts}
use Rattle.std.specs.Ordering.{is_eq, is_lt}
use Rattle.std.specs.declared.cmp.Ordering.{Ordering}
use Rattle.std.specs.declared.cmp.Ordering.TheVariants.{Less, Equal, Greater}
use Rattle.tla_value.specs.declared.fault.FaultKind.TheVariants.{SameIdentifier}
use Rattle.tla_value.specs.Value.{Value, Values, no_values, and, values_in, Outcome, fault, ◌>>=◌}
use Rattle.tla_value.specs.Order.{order, same, holds, IsBefore, IsAscending}
use Rattle.tla_value.specs.OrderLaws.{same_is, same_self, after_before}
use Rattle.tla_value.proofs.OrderSets.{either_swap, before_next, same_members}
use Rattle.pcal_tree.specs.Algorithm.{Routine, Process, process_routine}
use Rattle.pcal_tree.specs.Program.{Program, Actor}
use Rattle.pcal_tree.specs.Processes.{identifier, identifiers, identifiers_of, actors_of, all_actors, has_identifier, apart, placed, sorted}
use Rattle.pcal_tree.specs.InitialStates.{running}
use Rattle.std.proofs.lemmas.List.{append-nil, append_assoc}
use Rattle.std.specs.Prelude.{◌≤◌}

abbrev pub id : Actor → Value
id v = identifier v.self

-- the identifiers of some processes, as values
abbrev pub ids : List Actor → Values
ids vs = values_in (identifiers vs)

-- ---- sorting

abbrev either_first : Bool → Actor → Actor → List Actor → List Actor
either_first b v w ws = cond b (v ∷ w ∷ ws) (w ∷ placed v ws)

pub holds_placed : (x : Value) (v : Actor) (ws : List Actor) → holds x (ids (placed v ws)) ≡ (same x (id v) || holds x (ids ws))
holds_placed x v [] = refl
holds_placed x v (w ∷ ws) = by (is_lt (order (id v) (id w))) (holds_placed x v ws)
  where
    by : (b : Bool) → holds x (ids (placed v ws)) ≡ (same x (id v) || holds x (ids ws)) → holds x (ids (either_first b v w ws)) ≡ (same x (id v) || (same x (id w) || holds x (ids ws)))
    by true h = refl
    by false h = ap (λ c. same x (id w) || c) h ∙ either_swap (same x (id w)) (same x (id v)) (holds x (ids ws))

pub holds_sorted : (x : Value) (vs : List Actor) → holds x (ids (sorted vs)) ≡ holds x (ids vs)
holds_sorted x [] = refl
holds_sorted x (v ∷ vs) = holds_placed x v (sorted vs) ∙ ap (λ c. same x (id v) || c) (holds_sorted x vs)

before_placed : (u : Value) (v : Actor) (ws : List Actor) → order u (id v) ≡ Less → IsBefore u (ids ws) → IsBefore u (ids (placed v ws))
before_placed u v [] a b = a
before_placed u v (w ∷ ws) a b = by (is_lt (order (id v) (id w)))
  where
    by : (c : Bool) → IsBefore u (ids (either_first c v w ws))
    by true = a
    by false = b

placed_ascending : (v : Actor) (ws : List Actor) → IsAscending (ids ws) → holds (id v) (ids ws) ≡ false → IsAscending (ids (placed v ws))
placed_ascending v [] a h = (tt, tt)
placed_ascending v (w ∷ ws) a h =
    let o = or_parts (same (id v) (id w)) (holds (id v) (ids ws)) h in
    by (order (id v) (id w)) refl o.0 (placed_ascending v ws a.1 o.1)
  where
    by : (r : Ordering) → order (id v) (id w) ≡ r → is_eq (order (id v) (id w)) ≡ false → IsAscending (ids (placed v ws)) → IsAscending (ids (either_first (is_lt r) v w ws))
    by Less e n k = (e, a)
    by Equal e n k = absurd (both_ways (is_eq (order (id v) (id w))) n (ap is_eq e))
    by Greater e n k = (before_placed (id w) v ws (after_before (id v) (id w) e) a.0, k)

-- no two have one identifier
abbrev pub Distinct : List Actor → Type 0
Distinct [] = Unit {0}
Distinct (v ∷ vs) = (holds (id v) (ids vs) ≡ false) × Distinct vs

pub sorted_ascending : (vs : List Actor) → Distinct vs → IsAscending (ids (sorted vs))
sorted_ascending [] d = tt
sorted_ascending (v ∷ vs) d = placed_ascending v (sorted vs) (sorted_ascending vs d.1) (holds_sorted (id v) vs ∙ d.0)

-- ---- identifiers that are apart

abbrev NoneIn : List Actor → List Actor → Type 0
NoneIn es [] = Unit {0}
NoneIn es (w ∷ ws) = (has_identifier (id w) es ≡ false) × NoneIn es ws

cond_none : (a b : Bool) → cond a true b ≡ false → (a ≡ false) × (b ≡ false)
cond_none false b e = (refl, e)
cond_none true b e = cc

has_front : (x : Value) (es : List Actor) (v : Actor) → has_identifier x (es ++ v ∷ []) ≡ false → (has_identifier x es ≡ false) × (same x (id v) ≡ false)
has_front x [] v e = (refl, (cond_none (same x (id v)) false e).0)
has_front x (z ∷ es) v e =
    let c = cond_none (same x (id z)) (has_identifier x (es ++ v ∷ [])) e in
    let d = has_front x es v c.1 in
    ((λ i. cond (c.0 i) true (d.0 i)), d.1)

not_same : (x y : Value) → same x y ≡ false → same y x ≡ false
not_same x y e = by (same y x) refl
  where
    by : (b : Bool) → same y x ≡ b → b ≡ false
    by true q = absurd (both_ways (same x y) e (ap (λ z. same x z) (same_is y x q) ∙ same_self x))
    by false q = refl

fewer_in : (es : List Actor) (v : Actor) (ws : List Actor) → NoneIn (es ++ v ∷ []) ws → NoneIn es ws × (holds (id v) (ids ws) ≡ false)
fewer_in es v [] h = (tt, refl)
fewer_in es v (w ∷ ws) h =
    let a = has_front (id w) es v h.0 in
    let b = fewer_in es v ws h.1 in
    ((a.0, b.0), (λ i. not_same (id w) (id v) a.1 i || b.1 i))

-- what `apart` gives is the list itself, and its identifiers differ
pub apart_gives : (es vs ws : List Actor) → apart es vs ≡ Ok ws → (ws ≡ es ++ vs) × Distinct vs × NoneIn es vs
apart_gives es [] ws e = (by e, tt, tt)
  where
    by : apart es [] ≡ Ok ws → ws ≡ es ++ []
    by e = ap (λ (o : Outcome (List Actor)). elim o [ Ok x ↦ x | Err k ↦ ws ]) (sym e) ∙ sym (append-nil es)
apart_gives es (v ∷ vs) ws e = by (has_identifier (id v) es) refl (apart_gives (es ++ v ∷ []) vs ws) e
  where
    by : (b : Bool) → has_identifier (id v) es ≡ b → (apart (es ++ v ∷ []) vs ≡ Ok ws → (ws ≡ (es ++ v ∷ []) ++ vs) × Distinct vs × NoneIn (es ++ v ∷ []) vs)
        → cond b (Err (fault SameIdentifier v.own.name.place)) (apart (es ++ v ∷ []) vs) ≡ Ok ws → (ws ≡ es ++ v ∷ vs) × Distinct (v ∷ vs) × NoneIn es (v ∷ vs)
    by true q h e = cc
    by false q h e =
        let k = h e in
        let f = fewer_in es v vs k.2 in
        (k.0 ∙ append_assoc es (v ∷ []) vs, (f.1, k.1), (q, f.0))

-- ---- the processes that run a routine

runs : Routine → Actor → Bool
runs u v = v.own.number == u.number

holds_cons : (x : Value) (u : Routine) (v : Actor) (vs : List Actor) → holds x (ids (running u (v ∷ vs))) ≡ ((runs u v && same x (id v)) || holds x (ids (running u vs)))
unfolding runs
holds_cons x u v vs = by (v.own.number == u.number)
  where
    by : (b : Bool) → holds x (ids (cond b (v ∷ running u vs) (running u vs))) ≡ ((b && same x (id v)) || holds x (ids (running u vs)))
    by true = refl
    by false = refl

running_placed : (x : Value) (u : Routine) (v : Actor) (ws : List Actor) → holds x (ids (running u (placed v ws))) ≡ holds x (ids (running u (v ∷ ws)))
running_placed x u v [] = refl
running_placed x u v (w ∷ ws) = by (is_lt (order (id v) (id w))) (running_placed x u v ws)
  where
    by : (b : Bool) → holds x (ids (running u (placed v ws))) ≡ holds x (ids (running u (v ∷ ws))) → holds x (ids (running u (either_first b v w ws))) ≡ holds x (ids (running u (v ∷ w ∷ ws)))
    by true h = refl
    by false h =
        holds_cons x u w (placed v ws)
        ∙ ap (λ c. (runs u w && same x (id w)) || c) (h ∙ holds_cons x u v ws)
        ∙ either_swap (runs u w && same x (id w)) (runs u v && same x (id v)) (holds x (ids (running u ws)))
        ∙ sym (holds_cons x u v (w ∷ ws) ∙ ap (λ c. (runs u v && same x (id v)) || c) (holds_cons x u w ws))

pub running_sorted : (x : Value) (u : Routine) (vs : List Actor) → holds x (ids (running u (sorted vs))) ≡ holds x (ids (running u vs))
running_sorted x u [] = refl
running_sorted x u (v ∷ vs) =
    running_placed x u v (sorted vs)
    ∙ holds_cons x u v (sorted vs)
    ∙ ap (λ c. (runs u v && same x (id v)) || c) (running_sorted x u vs)
    ∙ sym (holds_cons x u v vs)

before_running : (w : Value) (u : Routine) (vs : List Actor) → IsBefore w (ids vs) → IsAscending (ids vs) → IsBefore w (ids (running u vs))
before_running w u [] b a = tt
before_running w u (v ∷ vs) b a = by (v.own.number == u.number) (before_running w u vs (before_next w (id v) (ids vs) b a.0) a.1)
  where
    by : (c : Bool) → IsBefore w (ids (running u vs)) → IsBefore w (ids (cond c (v ∷ running u vs) (running u vs)))
    by true h = b
    by false h = h

pub running_ascending : (u : Routine) (vs : List Actor) → IsAscending (ids vs) → IsAscending (ids (running u vs))
running_ascending u [] a = tt
running_ascending u (v ∷ vs) a = by (v.own.number == u.number) (running_ascending u vs a.1)
  where
    by : (c : Bool) → IsAscending (ids (running u vs)) → IsAscending (ids (cond c (v ∷ running u vs) (running u vs)))
    by true h = (before_running (id v) u vs a.0 a.1, h)
    by false h = h

-- ---- all processes, process by process

pub ids_both : (vs ws : List Actor) (x : Value) → holds x (ids (vs ++ ws)) ≡ (holds x (ids vs) || holds x (ids ws))
ids_both [] ws x = refl
ids_both (v ∷ vs) ws x = ap (λ b. same x (id v) || b) (ids_both vs ws x) ∙ sym (or_assoc (same x (id v)) (holds x (ids vs)) (holds x (ids ws)))

pub ids_of_actors : (u : Routine) (vs : Values) → ids (actors_of u vs) ≡ vs
ids_of_actors u no_values = refl
ids_of_actors u (and v vs) = ap (and v) (ids_of_actors u vs)

running_both : (u : Routine) (vs ws : List Actor) → running u (vs ++ ws) ≡ running u vs ++ running u ws
running_both u [] ws = refl
running_both u (v ∷ vs) ws = by (v.own.number == u.number) (running_both u vs ws)
  where
    by : (b : Bool) → running u (vs ++ ws) ≡ running u vs ++ running u ws → cond b (v ∷ running u (vs ++ ws)) (running u (vs ++ ws)) ≡ cond b (v ∷ running u vs) (running u vs) ++ running u ws
    by true h = ap (λ zs. v ∷ zs) h
    by false h = h

running_own : (u w : Routine) (vs : Values) → (w.number == u.number) ≡ true → running u (actors_of w vs) ≡ actors_of w vs
running_own u w no_values e = refl
running_own u w (and v vs) e = (λ i. cond (e i) (record { self = Some v; own = w } ∷ running u (actors_of w vs)) (running u (actors_of w vs))) ∙ ap (λ zs. record { self = Some v; own = w } ∷ zs) (running_own u w vs e)

running_other : (u w : Routine) (vs : Values) → (w.number == u.number) ≡ false → running u (actors_of w vs) ≡ []
running_other u w no_values e = refl
running_other u w (and v vs) e = (λ i. cond (e i) (record { self = Some v; own = w } ∷ running u (actors_of w vs)) (running u (actors_of w vs))) ∙ running_other u w vs e

-- what all_actors gives is put together from what each process gives
pub all_parts : (P : Program) (n : ℕ) (p : Process) (ps : List Process) (vs : List Actor) → all_actors P n (p ∷ ps) ≡ Ok vs
    → (is : Values) × (more : List Actor) × (identifiers_of P p ≡ Ok is) × (all_actors P (suc n) ps ≡ Ok more) × (vs ≡ actors_of (process_routine n p) is ++ more)
all_parts P n p ps vs e = by (identifiers_of P p) refl (all_actors P (suc n) ps) refl e
  where
    by : (o : Outcome Values) → identifiers_of P p ≡ o → (r : Outcome (List Actor)) → all_actors P (suc n) ps ≡ r
        → (o >>= (λ is. r >>= (λ more. Ok (actors_of (process_routine n p) is ++ more)))) ≡ Ok vs
        → (is : Values) × (more : List Actor) × (identifiers_of P p ≡ Ok is) × (all_actors P (suc n) ps ≡ Ok more) × (vs ≡ actors_of (process_routine n p) is ++ more)
    by (Ok is) d (Ok more) f e = (is, more, d, f, ap (λ (o : Outcome (List Actor)). elim o [ Ok x ↦ x | Err k ↦ vs ]) (sym e))
    by (Ok is) d (Err k) f e = cc
    by (Err k) d r f e = cc

-- later processes have greater numbers
none_later : (P : Program) (u : Routine) (n : ℕ) → u.number < n → (ps : List Process) (vs : List Actor) → all_actors P n ps ≡ Ok vs → running u vs ≡ []
none_later P u n l [] vs e = ap (running u) (ap (λ (o : Outcome (List Actor)). elim o [ Ok x ↦ x | Err k ↦ vs ]) (sym e))
none_later P u n l (p ∷ ps) vs e =
    let (is, more, d, f, q) = all_parts P n p ps vs e in
    ap (running u) q
    ∙ running_both u (actors_of (process_routine n p) is) more
    ∙ (λ i. running_other u (process_routine n p) is (ne_eqb n u.number (λ (z : n ≡ u.number). omega (arith, l, z))) i ++ none_later P u (suc n) (omega (arith, l)) ps more f i)

-- a process with its number, among those from n on
pub data At : Process → ℕ → List Process → ℕ → Type 0 where
  at_first : (p : Process) (n : ℕ) (ps : List Process) → At p n (p ∷ ps) n
  at_later : (p q : Process) (m n : ℕ) (ps : List Process) → At p m ps (suc n) → At p m (q ∷ ps) n

not_before : (p : Process) (m n : ℕ) (ps : List Process) → At p m ps n → ◌≤◌ n m
not_before _ _ _ _ (at_first p n ps) = omega arith
not_before _ _ _ _ (at_later p q m n ps a) = let h = not_before p m (suc n) ps a in omega (arith, h)

-- those that run its routine are the actors of its identifiers
pub running_is : (P : Program) (p : Process) (m n : ℕ) (ps : List Process) (vs : List Actor) → At p m ps n → all_actors P n ps ≡ Ok vs
    → (is : Values) × (identifiers_of P p ≡ Ok is) × (running (process_routine m p) vs ≡ actors_of (process_routine m p) is)
running_is P _ _ _ _ vs (at_first p n ps) e =
    let (is, more, d, f, q) = all_parts P n p ps vs e in
    let u = process_routine n p in (
      is,
      d,
      ap (running u) q ∙ running_both u (actors_of u is) more
          ∙ (λ i. running_own u u is (eq-eqb n n refl) i ++ none_later P u (suc n) (omega arith) ps more f i)
          ∙ append-nil (actors_of u is),
    )
running_is P _ _ _ _ vs (at_later p r m n ps a) e =
    let (is, more, d, f, q) = all_parts P n r ps vs e in
    let u = process_routine m p in
    let (js, g, h) = running_is P p m (suc n) ps more a f in
    let less = not_before p m (suc n) ps a in (
      js,
      g,
      ap (running u) q ∙ running_both u (actors_of (process_routine n r) is) more
          ∙ (λ i. running_other u (process_routine n r) is (ne_eqb n m (λ (z : n ≡ m). omega (arith, less, z))) i ++ h i),
    )

-- each that runs the routine is an actor of it, with an identifier
abbrev pub Owned : Routine → Actor → Type 0
Owned u v = (v.own.number == u.number) ≡ true → v ≡ record { self = Some (id v); own = u }

abbrev pub AllOwned : Routine → List Actor → Type 0
AllOwned u [] = Unit {0}
AllOwned u (v ∷ vs) = Owned u v × AllOwned u vs

placed_owned : (u : Routine) (v : Actor) (ws : List Actor) → Owned u v → AllOwned u ws → AllOwned u (placed v ws)
placed_owned u v [] h k = (h, tt)
placed_owned u v (w ∷ ws) h k = by (is_lt (order (id v) (id w))) (placed_owned u v ws h k.1)
  where
    by : (b : Bool) → AllOwned u (placed v ws) → AllOwned u (either_first b v w ws)
    by true r = (h, k)
    by false r = (k.0, r)

sorted_owned : (u : Routine) (vs : List Actor) → AllOwned u vs → AllOwned u (sorted vs)
sorted_owned u [] k = tt
sorted_owned u (v ∷ vs) k = placed_owned u v (sorted vs) k.0 (sorted_owned u vs k.1)

running_owned : (u : Routine) (vs : List Actor) → AllOwned u vs → running u vs ≡ actors_of u (ids (running u vs))
running_owned u [] k = refl
running_owned u (v ∷ vs) k = by (v.own.number == u.number) refl (running_owned u vs k.1)
  where
    by : (b : Bool) → (v.own.number == u.number) ≡ b → running u vs ≡ actors_of u (ids (running u vs)) → cond b (v ∷ running u vs) (running u vs) ≡ actors_of u (ids (cond b (v ∷ running u vs) (running u vs)))
    by true q h = λ i. k.0 q i ∷ h i
    by false q h = h

-- the processes of one set in order: they have its members, in its order
pub running_in_order : (P : Program) (p : Process) (m n : ℕ) (ps : List Process) (vs : List Actor) (is : Values) → At p m ps n → all_actors P n ps ≡ Ok vs → identifiers_of P p ≡ Ok is → IsAscending is → Distinct vs
    → AllOwned (process_routine m p) vs → running (process_routine m p) (sorted vs) ≡ actors_of (process_routine m p) is
running_in_order P p m n ps vs is a e d up apart_all owned =
    let u = process_routine m p in
    let (js, g, h) = running_is P p m n ps vs a e in
    let one : js ≡ is = ap (λ (o : Outcome Values). elim o [ Ok x ↦ x | Err k ↦ is ]) (sym g ∙ d) in
    let members : ids (running u (sorted vs)) ≡ is =
    same_members (ids (running u (sorted vs))) is (running_ascending u (sorted vs) (sorted_ascending vs apart_all)) up
    (λ x. running_sorted x u vs ∙ ap (λ zs. holds x (ids zs)) h ∙ ap (holds x) (ids_of_actors u js ∙ one)) in
    running_owned u (sorted vs) (sorted_owned u vs owned) ∙ ap (actors_of u) members

-- ---- each that runs a routine is an actor of it

joined_owned : (u : Routine) (vs ws : List Actor) → AllOwned u vs → AllOwned u ws → AllOwned u (vs ++ ws)
joined_owned u [] ws h k = k
joined_owned u (v ∷ vs) ws h k = (h.0, joined_owned u vs ws h.1 k)

own_owned : (u : Routine) (vs : Values) → AllOwned u (actors_of u vs)
own_owned u no_values = tt
own_owned u (and v vs) = ((λ e. refl), own_owned u vs)

other_owned : (u w : Routine) (vs : Values) → (w.number == u.number) ≡ false → AllOwned u (actors_of w vs)
other_owned u w no_values e = tt
other_owned u w (and v vs) e = ((λ q. absurd (both_ways (w.number == u.number) e q)), other_owned u w vs e)

later_owned : (P : Program) (u : Routine) (n : ℕ) → u.number < n → (ps : List Process) (vs : List Actor) → all_actors P n ps ≡ Ok vs → AllOwned u vs
later_owned P u n l [] vs e = subst (AllOwned u) (ap (λ (o : Outcome (List Actor)). elim o [ Ok x ↦ x | Err k ↦ vs ]) e) tt
later_owned P u n l (p ∷ ps) vs e =
    let (is, more, d, f, q) = all_parts P n p ps vs e in
    subst (AllOwned u) (sym q) (joined_owned u (actors_of (process_routine n p) is) more (other_owned u (process_routine n p) is (ne_eqb n u.number (λ (z : n ≡ u.number). omega (arith, l, z)))) (later_owned P u (suc n) (omega (arith, l)) ps more f))

pub all_owned : (P : Program) (p : Process) (m n : ℕ) (ps : List Process) (vs : List Actor) → At p m ps n → all_actors P n ps ≡ Ok vs → AllOwned (process_routine m p) vs
all_owned P _ _ _ _ vs (at_first p n ps) e =
    let (is, more, d, f, q) = all_parts P n p ps vs e in
    let u = process_routine n p in
    subst (AllOwned u) (sym q) (joined_owned u (actors_of u is) more (own_owned u is) (later_owned P u (suc n) (omega arith) ps more f))
all_owned P _ _ _ _ vs (at_later p r m n ps a) e =
    let (is, more, d, f, q) = all_parts P n r ps vs e in
    let u = process_routine m p in
    let less = not_before p m (suc n) ps a in
    subst (AllOwned u) (sym q) (joined_owned u (actors_of (process_routine n r) is) more (other_owned u (process_routine n r) is (ne_eqb n m (λ (z : n ≡ m). omega (arith, less, z)))) (all_owned P p m (suc n) ps more a f))
