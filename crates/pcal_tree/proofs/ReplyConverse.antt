-- Where a script's step leads, the step by its choices is replied to with the state that it leads to: no two processes share an identifier.
use Rattle.std.proofs.Common.{◌≡◌, ◌⊎◌, List, [], ◌∷◌, ◌++◌, Bool, true, false, cond, Option, Some, None, Ok, Err, refl, sym, ap, subst, ◌∙◌, inl, inr, true≢false}
use Rattle.std.specs.Ordering.{is_lt}
use Rattle.tla_tree.specs.Tree.{Word}
use Rattle.tla_value.specs.Value.{Value, fault, Outcome, ◌>>=◌}
use Rattle.tla_value.specs.Order.{same, order}
use Rattle.tla_value.specs.OrderLaws.{same_self}
use Rattle.tla_value.proofs.Outcomes.{ok_is, bound_ok}
use Rattle.tla_value.specs.declared.fault.FaultKind.TheVariants.{SameIdentifier}
use Rattle.pcal_tree.specs.Algorithm.{Main, alone, processes, first_process, alone_routine}
use Rattle.pcal_tree.specs.Scope.{State}
use Rattle.pcal_tree.specs.Calls.{label_name, label_value}
use Rattle.pcal_tree.specs.Program.{Program, Actor}
use Rattle.pcal_tree.specs.Variables.{vars, Agree}
use Rattle.pcal_tree.specs.Processes.{actors_in, all_actors, apart, united, last_place, sorted, placed, identifier, has_identifier, OneOf, IsActor}
use Rattle.pcal_tree.specs.Step.{Stand, routines_of}
use Rattle.pcal_tree.specs.Script.{Turn, StepBy}
use Rattle.pcal_tree.specs.StepAnswers.{reached, replied, label_place, step_from, step_at, is_self, with_self, step_of, step_in, stepped}
use Rattle.pcal_tree.specs.laws.Steps.{StandsOnce}
use Rattle.pcal_tree.proofs.TroubleLaws.{found_stands, stand_is_found, IsSomething}
use Rattle.pcal_tree.proofs.ReplyLaws.{found_self}
use Rattle.pcal_tree.proofs.OneStand.{united_same}

-- ---- processes of one list differ in their identifiers

abbrev Distinct : List Actor → Type 0
Distinct vs = (v w : Actor) → OneOf v vs → OneOf w vs → v.self ≡ w.self → v ≡ w

has_it : (w : Actor) (vs : List Actor) → OneOf w vs → has_identifier (identifier w.self) vs ≡ true
has_it w [] h = absurd h
has_it w (v ∷ vs) (inl p) =
    let e : same (identifier w.self) (identifier v.self) ≡ true = ap (λ (u : Actor). same (identifier w.self) (identifier u.self)) (sym p) ∙ same_self (identifier w.self) in
    ap (λ (b : Bool). cond b true (has_identifier (identifier w.self) vs)) e
has_it w (v ∷ vs) (inr h) = by (has_it w vs h) (same (identifier w.self) (identifier v.self))
  where
    by : has_identifier (identifier w.self) vs ≡ true → (b : Bool) → cond b true (has_identifier (identifier w.self) vs) ≡ true
    by e true = refl
    by e false = e

in_joined : (v w : Actor) (vs : List Actor) → OneOf v (vs ++ (w ∷ [])) → OneOf v vs ⊎ (v ≡ w)
in_joined v w [] (inl p) = inr p
in_joined v w [] (inr h) = absurd h
in_joined v w (u ∷ vs) (inl p) = inl (inl p)
in_joined v w (u ∷ vs) (inr h) = by (in_joined v w vs h)
  where
    by : OneOf v vs ⊎ (v ≡ w) → OneOf v (u ∷ vs) ⊎ (v ≡ w)
    by (inl g) = inl (inr g)
    by (inr g) = inr g

one_more : (vs : List Actor) (w : Actor) → Distinct vs → has_identifier (identifier w.self) vs ≡ false → Distinct (vs ++ (w ∷ []))
one_more vs w d none u v g h e = by (in_joined u w vs g) (in_joined v w vs h)
  where
    never : (x : Actor) → OneOf x vs → x.self ≡ w.self → ⊥
    never x o s = true≢false (sym (has_it x vs o) ∙ ap (λ (y : Option Value). has_identifier (identifier y) vs) s ∙ none)

    by : OneOf u vs ⊎ (u ≡ w) → OneOf v vs ⊎ (v ≡ w) → u ≡ v
    by (inl a) (inl b) = d u v a b e
    by (inl a) (inr b) = absurd (never u a (e ∙ ap (λ (x : Actor). x.self) b))
    by (inr a) (inl b) = absurd (never v b (sym e ∙ ap (λ (x : Actor). x.self) a))
    by (inr a) (inr b) = a ∙ sym b

apart_distinct : (vs earlier ws : List Actor) → Distinct earlier → apart earlier vs ≡ Ok ws → Distinct ws
apart_distinct [] earlier ws d e = subst Distinct (ok_is e) d
apart_distinct (v ∷ vs) earlier ws d e = by (apart_distinct vs (earlier ++ (v ∷ [])) ws) (has_identifier (identifier v.self) earlier) refl e
  where
    by : (Distinct (earlier ++ (v ∷ [])) → apart (earlier ++ (v ∷ [])) vs ≡ Ok ws → Distinct ws) → (b : Bool) → has_identifier (identifier v.self) earlier ≡ b
        → cond b (Err (fault SameIdentifier v.own.name.place)) (apart (earlier ++ (v ∷ [])) vs) ≡ Ok ws → Distinct ws
    by ih true h e = cc
    by ih false h e = ih (one_more earlier v d h) e

in_placed : (u v : Actor) (ws : List Actor) → OneOf u (placed v ws) → (u ≡ v) ⊎ OneOf u ws
in_placed u v [] (inl p) = inl p
in_placed u v [] (inr h) = absurd h
in_placed u v (w ∷ ws) h = by (in_placed u v ws) (is_lt (order (identifier v.self) (identifier w.self))) h
  where
    behind : (u ≡ v) ⊎ OneOf u ws → (u ≡ v) ⊎ OneOf u (w ∷ ws)
    behind (inl p) = inl p
    behind (inr g) = inr (inr g)

    by : (OneOf u (placed v ws) → (u ≡ v) ⊎ OneOf u ws) → (b : Bool) → OneOf u (cond b (v ∷ w ∷ ws) (w ∷ placed v ws)) → (u ≡ v) ⊎ OneOf u (w ∷ ws)
    by ih true (inl p) = inl p
    by ih true (inr g) = inr g
    by ih false (inl p) = inr (inl p)
    by ih false (inr g) = behind (ih g)

pub in_sorted : (u : Actor) (vs : List Actor) → OneOf u (sorted vs) → OneOf u vs
in_sorted u [] h = h
in_sorted u (v ∷ vs) h = by (in_sorted u vs) (in_placed u v (sorted vs) h)
  where
    by : (OneOf u (sorted vs) → OneOf u vs) → (u ≡ v) ⊎ OneOf u (sorted vs) → OneOf u (v ∷ vs)
    by ih (inl p) = inl p
    by ih (inr g) = inr (ih g)

none_distinct : Distinct []
none_distinct v w g h e = absurd g

one_distinct : (x : Actor) → Distinct (x ∷ [])
one_distinct x v w (inl p) (inl q) e = p ∙ sym q
one_distinct x v w (inl p) (inr q) e = absurd q
one_distinct x v w (inr p) h e = absurd p

actors_distinct : (P : Program) (m : Main) (vs : List Actor) → actors_in P m ≡ Ok vs → Distinct vs
actors_distinct P (alone ss) vs e = subst Distinct (ok_is e) (one_distinct (record { self = None; own = alone_routine P.algorithm ss }))
actors_distinct P (processes ps) vs e =
    let at = last_place P.algorithm.name.place ps in
    let finish : List Actor → Outcome (List Actor) = λ us. united P at us >>= (λ ws. Ok (sorted ws)) in
    let all = bound_ok (all_actors P (first_process P.algorithm) ps) (λ us. apart [] us >>= finish) vs e in
    let each = bound_ok (apart [] all.0) finish vs all.2 in
    let one = bound_ok (united P at each.0) (λ ws. Ok (sorted ws)) vs each.2 in
    let same_list : sorted each.0 ≡ vs = ap sorted (united_same P at each.0 one.0 one.1) ∙ ok_is one.2 in
    subst Distinct same_list (λ v w g h s. apart_distinct all.0 [] each.0 none_distinct each.1 v w (in_sorted v each.0 g) (in_sorted w each.0 h) s)

-- ---- the process with an identifier

self_self : (a : Option Value) → is_self a a ≡ true
self_self (Some v) = same_self v
self_self None = refl

some_with : (vs : List Actor) (v : Actor) → OneOf v vs → IsSomething (with_self v.self vs)
some_with [] v h = absurd h
some_with (w ∷ vs) v h = by (some_with vs v) (is_self v.self w.self) refl h
  where
    by : (OneOf v vs → IsSomething (with_self v.self vs)) → (b : Bool) → is_self v.self w.self ≡ b → (v ≡ w) ⊎ OneOf v vs → IsSomething (cond b (Some w) (with_self v.self vs))
    by ih true e g = (w, refl)
    by ih false e (inl p) = absurd (true≢false (sym (self_self v.self) ∙ ap (λ (u : Actor). is_self v.self u.self) p ∙ e))
    by ih false e (inr g) = ih g

the_one : (vs : List Actor) (v : Actor) → Distinct vs → OneOf v vs → with_self v.self vs ≡ Some v
the_one vs v d h =
    let q = some_with vs v h in
    let f = found_self v.self vs q.0 q.1 in
    q.1 ∙ ap (λ (u : Actor). Some u) (d q.0 v f.0 h f.1)

-- ---- the reply

pub scripted : (P : Program) (n : Turn) (s t : State) → ((v : Actor) → IsActor P v → StandsOnce P s v) → StepBy P n s t
    → (u : State) × (l : Word) × (stepped P s n.who n.choices ≡ reached (u, l)) × Agree (vars P) u t
scripted P n s t once b =
    let v = b.0 in
    let d = b.1 in
    let vs = b.2.0 in
    let st = b.4 in
    let q = stand_is_found P d st.1 (routines_of P v) st.0 in
    let same_stand : q.0 ≡ d = sym (once v b.2 d q.0 st (found_stands P s v (label_value P d.routine d.label) q.0 st.2 q.1)) in
    let u = b.5.0 in
    let l = label_name P d.routine d.label in
    let who : with_self n.who vs ≡ Some v = ap (λ (o : Option Value). with_self o vs) (sym b.3) ∙ the_one vs v (actors_distinct P P.algorithm.main vs b.2.1) b.2.2 in (
      u,
      l,
      ap (step_in P s n.who n.choices) b.2.1
          ∙ ap (step_of P s n.choices) who
          ∙ ap (step_at P v s n.choices) st.2
          ∙ ap (step_from P v s n.choices) (q.1 ∙ ap (λ (e : Stand). Some e) same_stand)
          ∙ ap (replied (λ x. (x, l)) (label_place d.routine d.label)) b.5.1,
      b.5.2,
    )
