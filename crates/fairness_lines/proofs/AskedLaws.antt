-- Demands that are listed one after another are those that are defined.
use Rattle.std.proofs.Common.{◌≡◌, ℕ, zero, suc, ◌+◌, ◌<◌, ◌≤◌, Bool, true, false, cond, List, [], ◌∷◌, ◌++◌, length, drop, get_or, map, Some, None, refl, sym, ap, ◌∙◌, subst, append-nil, append_assoc, arith}
use Rattle.std.specs.Prelude.{filter}
use Rattle.std.specs.List.{flat_map, AllByRecursion}
use Rattle.std.proofs.lemmas.List.{drop_more, drop_all, map-append}
use Rattle.std.proofs.lemmas.Simd.{map-map}
use Rattle.tla_tree.specs.Tree.{Word, Tree}
use Rattle.pcal_tree.specs.declared.mark.Fairness.{Fairness}
use Rattle.pcal_tree.specs.declared.mark.Fairness.TheVariants as wish
use Rattle.pcal_tree.specs.declared.algorithm.Procedure as declared
use Rattle.pcal_tree.specs.Algorithm.{Main, alone, processes, Process, Routine, numbered, procedure_routine, first_process, Algorithm, Naming}
use Rattle.pcal_tree.specs.InMemory.{procedure_at}
use Rattle.pcal_tree.specs.Takers.{Takers, Taken, taken_process}
use Rattle.fairness.specs.ReachedProcedures.{reached}
use Rattle.fairness.specs.Demands.{all_steps, label_steps, demands_in, demands_of, main_demands, demands}
use Rattle.fairness.specs.MarkedLabels.{strong_labels}
use Rattle.fairness_lines.specs.declared.demands.Demand as code
use Rattle.marked_labels.specs.declared.labels.Wanted.TheVariants as wanted
use Rattle.marked_labels.specs.Wanted.{written_label, labels_of}
use Rattle.fairness_lines.specs.Asked.{Asked, of_all, of_routine, of_label, asked, asked_in, asked_of_process, asked_of_processes, asked_of_main, strength_of}
use Rattle.fairness_lines.specs.DemandsAt.{asked_at, all_asked}
use Rattle.fairness_lines.proofs.NamesFound.{only_some, none_some}
use Rattle.marked_labels.proofs.LabelLaws.{chosen_strong}

-- ---- one more

pub pushed : (ts : List Tree) (old : List code.Demand) (d : code.Demand) → all_asked ts (old ++ d ∷ []) ≡ all_asked ts old ++ asked_at ts d ∷ []
pushed ts old d = map-append (asked_at ts) old (d ∷ [])

pub all_push : {X : Type 0} (Q : X → Type 0) (xs : List X) (x : X) → AllByRecursion Q xs → Q x → AllByRecursion Q (xs ++ x ∷ [])
all_push Q [] x h k = (k, tt)
all_push Q (y ∷ ys) x h k = (h.0, all_push Q ys x h.1 k)

pub all_at : {X : Type 0} (Q : X → Type 0) (xs : List X) (i : ℕ) (x : X) → AllByRecursion Q xs → x ≡ get_or xs i x → i < length xs → Q x
all_at Q [] i x h is less = absurd (let no : ⊥ = omega (arith, less) in no)
all_at Q (y ∷ ys) zero x h is less = subst Q (sym is) h.0
all_at Q (y ∷ ys) (suc i) x h is less = all_at Q ys i x h.1 is (omega (arith, less))

pub map_more : {X A : Type 0} (g : X → A) (xs : List X) (i : ℕ) (x : X) → x ≡ get_or xs i x → i < length xs → (old new whole : List A) → new ≡ old ++ g x ∷ []
    → old ++ map g (drop i xs) ≡ whole → new ++ map g (drop (i + 1) xs) ≡ whole
map_more g xs i x is less old new whole e h =
    ap (λ ys. ys ++ map g (drop (i + 1) xs)) e ∙ append_assoc old (g x ∷ []) (map g (drop (i + 1) xs))
    ∙ ap (λ ys. old ++ map g ys) (ap (λ y. y ∷ drop (i + 1) xs) is ∙ sym (drop_more xs i x less)) ∙ h

pub map_none : {X A : Type 0} (g : X → A) (xs : List X) (i : ℕ) (new whole : List A) → length xs ≤ i → new ++ map g (drop i xs) ≡ whole → new ≡ whole
map_none g xs i new whole less h = sym (append-nil new) ∙ ap (λ ys. new ++ map g ys) (sym (drop_all i xs less)) ∙ h

-- what is made of numbered elements, one after another
module _ {X A : Type 0} (h : ℕ → List X → List A) (first : ℕ → X → List A) (cons : (n : ℕ) (x : X) (xs : List X) → h n (x ∷ xs) ≡ first n x ++ h (suc n) xs) (nil : (n : ℕ) → h n [] ≡ []) where
  pub numbered_more : (xs : List X) (i n m : ℕ) (x : X) → x ≡ get_or xs i x → i < length xs → m ≡ n + 1 → (old new whole : List A) → new ≡ old ++ first n x
      → old ++ h n (drop i xs) ≡ whole → new ++ h m (drop (i + 1) xs) ≡ whole
  numbered_more xs i n m x is less q old new whole e k =
      let next : m ≡ suc n = omega (arith, q) in
      ap (λ (j : ℕ). new ++ h j (drop (i + 1) xs)) next
      ∙ ap (λ (ys : List A). ys ++ h (suc n) (drop (i + 1) xs)) e
      ∙ append_assoc old (first n x) (h (suc n) (drop (i + 1) xs))
      ∙ ap (λ (ys : List A). old ++ ys) (sym (cons n x (drop (i + 1) xs)))
      ∙ ap (λ (ys : List X). old ++ h n ys) (ap (λ (y : X). y ∷ drop (i + 1) xs) is ∙ sym (drop_more xs i x less))
      ∙ k

  pub numbered_none : (xs : List X) (i n : ℕ) (new whole : List A) → length xs ≤ i → new ++ h n (drop i xs) ≡ whole → new ≡ whole
  numbered_none xs i n new whole less k =
      sym (append-nil new) ∙ ap (λ (ys : List A). new ++ ys) (sym (nil n)) ∙ ap (λ (ys : List X). new ++ h n ys) (sym (drop_all i xs less)) ∙ k

-- ---- procedures that are reached

module _ (f : Naming) (t : Takers) (k : ℕ) (strong : Bool) (R : Word → Bool) (ts : List Tree) where
  abbrev pub those : ℕ → List declared.Procedure → List Asked
  those n ps = flat_map (asked_in f t k strong) (filter (λ u. R u.name.word) (numbered procedure_routine n (map (procedure_at ts) ps)))

  abbrev pub that : ℕ → declared.Procedure → List Asked
  that n p = cond (R p.name.word) (asked_in f t k strong (procedure_routine n (procedure_at ts p))) []

  pub those_cons : (n : ℕ) (p : declared.Procedure) (ps : List declared.Procedure) → those n (p ∷ ps) ≡ that n p ++ those (suc n) ps
  those_cons n p ps = by (R p.name.word)
    where
      by : (b : Bool) → flat_map (asked_in f t k strong) (cond b (procedure_routine n (procedure_at ts p) ∷ filter (λ u. R u.name.word) (numbered procedure_routine (suc n) (map (procedure_at ts) ps))) (filter (λ u. R u.name.word) (numbered procedure_routine (suc n) (map (procedure_at ts) ps))))
          ≡ cond b (asked_in f t k strong (procedure_routine n (procedure_at ts p))) [] ++ those (suc n) ps
      by true = refl
      by false = refl

-- ---- a process

module _ (f : Naming) (t : Taken) where
  labels_asked : (u : Routine) → map (asked f) (map (label_steps t u) (strong_labels u.body)) ≡ map (of_label t.takers t.routine.number u.number) (labels_of f u.number wanted.Strong u.body)
  labels_asked u =
      map-map (asked f) (label_steps t u) (strong_labels u.body)
      ∙ sym (map-map (of_label t.takers t.routine.number u.number) (written_label f u.number) (strong_labels u.body))
      ∙ ap (λ (ls : List Word). map (of_label t.takers t.routine.number u.number) (map (written_label f u.number) ls)) (sym (chosen_strong u.body))

  routine_asked : (strong : Bool) (u : Routine) → map (asked f) (demands_in t strong u) ≡ asked_in f t.takers t.routine.number strong u
  routine_asked true u = refl
  routine_asked false u = ap (λ (ls : List Asked). of_routine t.takers t.routine.number false u.number u.body ∷ ls) (labels_asked u)

  routines_asked : (strong : Bool) (us : List Routine) → map (asked f) (flat_map (demands_in t strong) us) ≡ flat_map (asked_in f t.takers t.routine.number strong) us
  routines_asked strong [] = refl
  routines_asked strong (u ∷ us) =
      map-append (asked f) (demands_in t strong u) (flat_map (demands_in t strong) us) ∙ (λ i. routine_asked strong u i ++ routines_asked strong us i)

  pub fair_asked : (a : Algorithm) (w : Fairness) (strong : Bool) → strength_of w ≡ Some strong
      → map (asked f) (demands_of a w t) ≡ flat_map (asked_in f t.takers t.routine.number strong) (t.routine ∷ reached a t.routine)
  fair_asked a wish.Unfair strong e = absurd (none_some strong e)
  fair_asked a wish.Weak strong e =
      subst (λ (b : Bool). map (asked f) (demands_of a wish.Weak t) ≡ flat_map (asked_in f t.takers t.routine.number b) (t.routine ∷ reached a t.routine)) (only_some false strong e)
      (routines_asked false (t.routine ∷ reached a t.routine))
  fair_asked a wish.Strong strong e =
      subst (λ (b : Bool). map (asked f) (demands_of a wish.Strong t) ≡ flat_map (asked_in f t.takers t.routine.number b) (t.routine ∷ reached a t.routine)) (only_some true strong e)
      (routines_asked true (t.routine ∷ reached a t.routine))

  pub unfair_asked : (a : Algorithm) (w : Fairness) → strength_of w ≡ None → map (asked f) (demands_of a w t) ≡ []
  unfair_asked a wish.Unfair e = refl
  unfair_asked a wish.Weak e = absurd (none_some false (sym e))
  unfair_asked a wish.Strong e = absurd (none_some true (sym e))

-- ---- an algorithm

processes_asked : (f : Naming) (a : Algorithm) (n : ℕ) (ps : List Process)
    → map (asked f) (flat_map (λ ds. ds) (numbered (λ n p. demands_of a p.fairness (taken_process n p)) n ps)) ≡ asked_of_processes f a n ps
processes_asked f a n [] = refl
processes_asked f a n (p ∷ ps) =
    map-append (asked f) (demands_of a p.fairness (taken_process n p)) _ ∙ ap (λ (ls : List Asked). asked_of_process f a n p ++ ls) (processes_asked f a (suc n) ps)

main_asked : (f : Naming) (a : Algorithm) (m : Main) → map (asked f) (main_demands a m) ≡ asked_of_main f a m
main_asked f a (alone ss) = refl
main_asked f a (processes ps) = processes_asked f a (first_process a) ps

pub all_asked_is : (f : Naming) (a : Algorithm) → map (asked f) (demands a) ≡ cond a.fair (of_all ∷ []) [] ++ asked_of_main f a a.main
all_asked_is f a = by a.fair
  where
    by : (b : Bool) → map (asked f) (cond b (all_steps ∷ []) [] ++ main_demands a a.main) ≡ cond b (of_all ∷ []) [] ++ asked_of_main f a a.main
    by true = ap (λ (ls : List Asked). of_all ∷ ls) (main_asked f a a.main)
    by false = main_asked f a a.main
