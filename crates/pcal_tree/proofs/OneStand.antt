-- Each process is at one label at most: written labels are apart, and what a process runs are routines of the algorithm.
use Rattle.std.proofs.Common.{◌≡◌, ℕ, suc, ◌+◌, ◌<◌, ◌≤◌, length, List, [], ◌∷◌, ◌++◌, Bool, true, false, ◌||◌, cond, bytes_eq, codes, Some, refl, sym, ◌∙◌, ap, subst, inl, inr, ◌⊎◌, arith, Ok, Err}
use Rattle.std.specs.Ordering.{is_lt}
use Rattle.std.specs.List.{AllByRecursion}
use Rattle.tla_token.specs.declared.place.Place.{Place}
use Rattle.tla_token.specs.Signs.{is_among}
use Rattle.tla_tree.specs.Tree.{Word}
use Rattle.tla_value.specs.declared.fault.FaultKind.TheVariants.{SameIdentifier}
use Rattle.tla_value.specs.Value.{Value, Values, no_values, and, Outcome, fault, over, set, text, ◌>>=◌}
use Rattle.tla_value.specs.Order.{order, set_from}
use Rattle.pcal_tree.specs.Algorithm.{Process, Main, alone, processes, Algorithm, Routine, numbered, first_procedure, first_process, procedure_routine, process_routine, alone_routine, procedure_routines, main_routines, routines}
use Rattle.pcal_tree.specs.Scope.{State}
use Rattle.pcal_tree.specs.StepStart.{at_label}
use Rattle.pcal_tree.specs.Program.{Program, Actor}
use Rattle.pcal_tree.specs.Calls.{label_name}
use Rattle.pcal_tree.specs.OffencesLabels.{label_words}
use Rattle.tla_value.specs.Outside.{Outside}
use Rattle.tla_value.proofs.Outcomes.{ok_is}
use Rattle.pcal_tree.specs.Names.{label, wanted, taken_at_start, given, naming, written_for}
use Rattle.pcal_tree.specs.Step.{Stand, routines_of, StandsAt}
use Rattle.pcal_tree.specs.laws.Apart.{FewNames, NoEndLabels}
use Rattle.pcal_tree.proofs.TroubleLaws.{one_left, one_right, label_listed}
use Rattle.pcal_tree.proofs.FreeNames.{given_apart}
use Rattle.pcal_tree.proofs.RoutineNames.{every_one, one_either, label_wanted, one_label}
use Rattle.pcal_tree.specs.Processes.{identifiers_of, identifiers, identifier, actors_of, all_actors, has_identifier, apart, last_place, united, placed, sorted, actors_in, OneOf, IsActor}
use Rattle.pcal_tree.specs.laws.Steps.{StandsOnce}
use Rattle.std.proofs.lemmas.Option.{same_Some}

-- ---- what a process runs

pub every_both : {X : Type 0} (Q : X → Type 0) (xs ys : List X) → AllByRecursion Q xs → AllByRecursion Q ys → AllByRecursion Q (xs ++ ys)
every_both Q [] ys h k = k
every_both Q (x ∷ xs) ys h k = (h.0, every_both Q xs ys h.1 k)

-- the routine of its own is one of these
abbrev Own : List Routine → Actor → Type 0
Own us v = OneOf v.own us

own_of : (u : Routine) (us : List Routine) (vs : Values) → OneOf u us → AllByRecursion (Own us) (actors_of u vs)
own_of u us no_values h = tt
own_of u us (and v vs) h = (h, own_of u us vs h)

own_all : (P : Program) (us : List Routine) (n : ℕ) (ps : List Process) → ((u : Routine) → OneOf u (numbered process_routine n ps) → OneOf u us)
    → (vs : List Actor) → all_actors P n ps ≡ Ok vs → AllByRecursion (Own us) vs
own_all P us n [] h vs e = subst (AllByRecursion (Own us)) (ok_is e) tt
own_all P us n (p ∷ ps) h vs e = by (own_all P us (suc n) ps (λ u k. h u (inr k))) (identifiers_of P p) e
  where
    by_rest : (is : Values) (o : Outcome (List Actor)) → ((ws : List Actor) → o ≡ Ok ws → AllByRecursion (Own us) ws)
        → o >>= (λ more. Ok (actors_of (process_routine n p) is ++ more)) ≡ Ok vs → AllByRecursion (Own us) vs
    by_rest is (Ok ws) ih e =
        subst (AllByRecursion (Own us)) (ok_is e)
        (every_both (Own us) (actors_of (process_routine n p) is) ws (own_of (process_routine n p) us is (h (process_routine n p) (inl refl)))
        (ih ws refl))
    by_rest is (Err k) ih e = cc

    by : ((ws : List Actor) → all_actors P (suc n) ps ≡ Ok ws → AllByRecursion (Own us) ws) → (o : Outcome Values)
        → o >>= (λ is. (all_actors P (suc n) ps) >>= (λ more. Ok (actors_of (process_routine n p) is ++ more))) ≡ Ok vs → AllByRecursion (Own us) vs
    by ih (Ok is) e = by_rest is (all_actors P (suc n) ps) ih e
    by ih (Err k) e = cc

own_apart : (us : List Routine) (earlier vs ws : List Actor) → AllByRecursion (Own us) earlier → AllByRecursion (Own us) vs → apart earlier vs ≡ Ok ws
    → AllByRecursion (Own us) ws
own_apart us earlier [] ws h k e = subst (AllByRecursion (Own us)) (ok_is e) h
own_apart us earlier (v ∷ vs) ws h k e =
    by (own_apart us (earlier ++ (v ∷ [])) vs ws (every_both (Own us) earlier (v ∷ []) h (k.0, tt)) k.1)
    (has_identifier (identifier v.self) earlier) e
  where
    by : (apart (earlier ++ (v ∷ [])) vs ≡ Ok ws → AllByRecursion (Own us) ws) → (b : Bool)
        → cond b (Err (fault SameIdentifier v.own.name.place)) (apart (earlier ++ (v ∷ [])) vs) ≡ Ok ws → AllByRecursion (Own us) ws
    by ih true e = cc
    by ih false e = ih e

own_placed : (us : List Routine) (v : Actor) (ws : List Actor) → Own us v → AllByRecursion (Own us) ws → AllByRecursion (Own us) (placed v ws)
own_placed us v [] h k = (h, tt)
own_placed us v (w ∷ ws) h k = by (is_lt (order (identifier v.self) (identifier w.self))) (own_placed us v ws h k.1)
  where
    by : (b : Bool) → AllByRecursion (Own us) (placed v ws) → AllByRecursion (Own us) (cond b (v ∷ w ∷ ws) (w ∷ placed v ws))
    by true ih = (h, k)
    by false ih = (k.0, ih)

own_sorted : (us : List Routine) (vs : List Actor) → AllByRecursion (Own us) vs → AllByRecursion (Own us) (sorted vs)
own_sorted us [] h = tt
own_sorted us (v ∷ vs) h = own_placed us v (sorted vs) h.0 (own_sorted us vs h.1)

pub united_same : (P : Program) (at : Place) (vs ws : List Actor) → united P at vs ≡ Ok ws → vs ≡ ws
united_same P at vs ws e = by (P.check at (set (set_from (identifiers vs)))) e
  where
    by : (o : Outcome Value) → o >>= (λ w. Ok vs) ≡ Ok ws → vs ≡ ws
    by (Ok v) e = ok_is e
    by (Err (fault k p)) e = cc
    by (Err (over p)) e = cc

own_main : (P : Program) (m : Main) (vs : List Actor) → actors_in P m ≡ Ok vs → AllByRecursion (Own (main_routines P.algorithm m)) vs
own_main P (alone ss) vs e = subst (AllByRecursion (Own (main_routines P.algorithm (alone ss)))) (ok_is e) (inl refl, tt)
own_main P (processes ps) vs e = by_all (all_actors P (first_process P.algorithm) ps) (own_all P us (first_process P.algorithm) ps (λ u h. h)) e
  where
    us : List Routine
    us = main_routines P.algorithm (processes ps)

    at : Place
    at = last_place P.algorithm.name.place ps

    by_union : (ws : List Actor) → AllByRecursion (Own us) ws → (o : Outcome (List Actor)) → united P at ws ≡ o
        → o >>= (λ us. Ok (sorted us)) ≡ Ok vs → AllByRecursion (Own us) vs
    by_union ws h (Ok ts) q e = subst (AllByRecursion (Own us)) (ok_is e) (own_sorted us ts (subst (AllByRecursion (Own us)) (united_same P at ws ts q) h))
    by_union ws h (Err k) q e = cc

    by_apart : (ws : List Actor) → AllByRecursion (Own us) ws → (o : Outcome (List Actor)) → apart [] ws ≡ o
        → o >>= (λ ts. (united P at ts) >>= (λ us. Ok (sorted us))) ≡ Ok vs → AllByRecursion (Own us) vs
    by_apart ws h (Ok ts) q e = by_union ts (own_apart us [] ws ts tt h q) (united P at ts) refl e
    by_apart ws h (Err k) q e = cc

    by_all : (o : Outcome (List Actor)) → ((ws : List Actor) → o ≡ Ok ws → AllByRecursion (Own us) ws)
        → o >>= (λ ws. (apart [] ws) >>= (λ ts. (united P at ts) >>= (λ us. Ok (sorted us)))) ≡ Ok vs → AllByRecursion (Own us) vs
    by_all (Ok ws) h e = by_apart ws (h ws refl) (apart [] ws) refl e
    by_all (Err k) h e = cc

pub own_is_main : (P : Program) (v : Actor) → IsActor P v → OneOf v.own (main_routines P.algorithm P.algorithm.main)
own_is_main P v h = every_one (Own (main_routines P.algorithm P.algorithm.main)) v h.0 (own_main P P.algorithm.main h.0 h.1) h.2

pub runs_routine : (P : Program) (v : Actor) (u : Routine) → IsActor P v → OneOf u (routines_of P v) → OneOf u (routines P.algorithm)
runs_routine P v u h (inl e) =
    one_right u (procedure_routines P.algorithm) (main_routines P.algorithm P.algorithm.main)
    (subst (λ w. OneOf w (main_routines P.algorithm P.algorithm.main)) (sym e) (own_is_main P v h))
runs_routine P v u h (inr k) = one_left u (procedure_routines P.algorithm) (main_routines P.algorithm P.algorithm.main) k

-- ---- routines have different numbers

record Spread (us : List Routine) (low high : ℕ) : Type 0 where
  within : (u : Routine) → OneOf u us → (low ≤ u.number) × (u.number < high)
  once : (u w : Routine) → OneOf u us → OneOf w us → u.number ≡ w.number → u ≡ w

spread_numbered : {A : Type 0} (f : ℕ → A → Routine) → ((n : ℕ) (x : A) → (f n x).number ≡ n) → (n : ℕ) (xs : List A)
    → Spread (numbered f n xs) n (n + length xs)
spread_numbered f is n [] = record { within = λ u h. absurd h; once = λ u w h k e. absurd h }
spread_numbered {A = A} f is n (x ∷ xs) = by (spread_numbered f is (suc n) xs)
  where
    rest : List Routine
    rest = numbered f (suc n) xs

    here : (u : Routine) → u ≡ f n x → u.number ≡ n
    here u e = ap (λ w. w.number) e ∙ is n x

    inside : Spread rest (suc n) (suc n + length xs) → (u : Routine) → OneOf u (f n x ∷ rest) → (n ≤ u.number) × (u.number < n + suc (length xs))
    inside s u (inl e) = (omega (arith, here u e), omega (arith, here u e))
    inside s u (inr h) = (omega (arith, (s.within u h).0), omega (arith, (s.within u h).1))

    equal : Spread rest (suc n) (suc n + length xs) → (u w : Routine) → OneOf u (f n x ∷ rest) → OneOf w (f n x ∷ rest) → u.number ≡ w.number → u ≡ w
    equal s u w (inl e) (inl q) same = e ∙ sym q
    equal s u w (inl e) (inr k) same = absurd (omega (arith, here u e, (s.within w k).0, same))
    equal s u w (inr h) (inl q) same = absurd (omega (arith, here w q, (s.within u h).0, same))
    equal s u w (inr h) (inr k) same = s.once u w h k same

    by : Spread rest (suc n) (suc n + length xs) → Spread (f n x ∷ rest) n (n + suc (length xs))
    by s = record { within = inside s; once = equal s }

spread_alone : (a : Algorithm) (m : Main) → (high : ℕ) × Spread (main_routines a m) (first_process a) high
spread_alone a (alone ss) = (
  suc (first_process a),
  record {
    within = λ u h. by_one u h;
    once = λ u w h k e. equal u w h k;
  },
)
  where
    by_one : (u : Routine) → OneOf u (alone_routine a ss ∷ []) → (first_process a ≤ u.number) × (u.number < suc (first_process a))
    by_one u (inl e) = let n : u.number ≡ first_process a = ap (λ w. w.number) e in (omega arith, omega arith)
    by_one u (inr h) = absurd h

    equal : (u w : Routine) → OneOf u (alone_routine a ss ∷ []) → OneOf w (alone_routine a ss ∷ []) → u ≡ w
    equal u w (inl e) (inl q) = e ∙ sym q
    equal u w (inl e) (inr k) = absurd k
    equal u w (inr h) k = absurd h
spread_alone a (processes ps) = (first_process a + length ps, spread_numbered process_routine (λ n x. refl) (first_process a) ps)

pub one_number : (a : Algorithm) (u w : Routine) → OneOf u (routines a) → OneOf w (routines a) → u.number ≡ w.number → u ≡ w
one_number a u w h k e =
    by (spread_numbered procedure_routine (λ n x. refl) (first_procedure a) a.procedures) (spread_alone a a.main)
    (one_either u (procedure_routines a) (main_routines a a.main) h) (one_either w (procedure_routines a) (main_routines a a.main) k)
  where
    by : Spread (procedure_routines a) (first_procedure a) (first_procedure a + length a.procedures)
        → ((high : ℕ) × Spread (main_routines a a.main) (first_process a) high) → OneOf u (procedure_routines a) ⊎ OneOf u (main_routines a a.main)
        → OneOf w (procedure_routines a) ⊎ OneOf w (main_routines a a.main) → u ≡ w
    by s t (inl p) (inl q) = s.once u w p q e
    by s t (inl p) (inr q) = absurd (omega (arith, (s.within u p).1, (t.1.within w q).0, e))
    by s t (inr p) (inl q) = absurd (omega (arith, (s.within w q).1, (t.1.within u p).0, e))
    by s t (inr p) (inr q) = t.1.once u w p q e

-- ---- one label

text_is : (x y : Word) → ◌≡◌ {A = Outcome Value} (Ok (text x)) (Ok (text y)) → x ≡ y
text_is x y e = cc

-- a label that is neither Done nor Error has its written name
label_written : (P : Program) (u : Routine) (l : Word) → is_among (codes "Done" ∷ codes "Error" ∷ []) l ≡ false
    → label_name P u l ≡ P.naming.label u.number l
label_written P u l e = by (bytes_eq (codes "Done") l) (bytes_eq (codes "Error") l) e
  where
    by : (b c : Bool) → (b || (c || false)) ≡ false → cond (b || c) l (P.naming.label u.number l) ≡ P.naming.label u.number l
    by true c e = cc
    by false true e = cc
    by false false e = refl

same_stand : (d e : Stand) → at_label d.routine d.label ≡ Some d.begins → at_label e.routine e.label ≡ Some e.begins → d.routine ≡ e.routine
    → d.label ≡ e.label → d ≡ e
same_stand d e p q r l =
    let b : d.begins ≡ e.begins = same_Some _ _ (sym p ∙ (λ i. at_label (r i) (l i)) ∙ q) in
    λ i. record { routine = r i; label = l i; begins = b i }

pub stands_once : (P : Program) (o : Outside) → P.naming ≡ naming P.algorithm o → FewNames P.algorithm o → NoEndLabels P.algorithm
    → (s : State) (v : Actor) → IsActor P v → StandsOnce P s v
stands_once P o named few clear s v actor d e h k = same_stand d e h.1 k.1 (one_number a d.routine e.routine (runs d h) (runs e k) same.0) same.1
  where
    a : Algorithm
    a = P.algorithm

    runs : (f : Stand) → StandsAt P s v f → OneOf f.routine (routines a)
    runs f h = runs_routine P v f.routine actor h.0

    in_body : (f : Stand) → StandsAt P s v f → OneOf f.label (label_words f.routine.body)
    in_body f h = label_listed f.routine f.label f.begins h.1

    no_end : (f : Stand) → StandsAt P s v f → is_among (codes "Done" ∷ codes "Error" ∷ []) f.label ≡ false
    no_end f h =
        every_one (λ l. is_among (codes "Done" ∷ codes "Error" ∷ []) l ≡ false) f.label (label_words f.routine.body)
        (every_one (λ u. AllByRecursion (λ l. is_among (codes "Done" ∷ codes "Error" ∷ []) l ≡ false) (label_words u.body)) f.routine (routines a) clear
        (runs f h)) (in_body f h)

    written_name : (f : Stand) → StandsAt P s v f → label_name P f.routine f.label ≡ written_for (given a o) f.routine.number label f.label
    written_name f h = label_written P f.routine f.label (no_end f h) ∙ ap (λ n. n.label f.routine.number f.label) named

    same : (d.routine.number ≡ e.routine.number) × (d.label ≡ e.label)
    same =
        one_label o.extended (taken_at_start a o) (wanted a) d.routine.number e.routine.number d.label e.label
        (given_apart o.extended (taken_at_start a o) (wanted a) few)
        (label_wanted a d.routine d.label (runs d h) (in_body d h)) (label_wanted a e.routine e.label (runs e k) (in_body e k))
        (sym (written_name d h) ∙ text_is (label_name P d.routine d.label) (label_name P e.routine e.label) (sym h.2 ∙ k.2) ∙ written_name e k)
