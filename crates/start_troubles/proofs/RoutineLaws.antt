-- The variables of routines, one routine after another.
use Rattle.std.proofs.Common.{◌≡◌, ℕ, zero, suc, ◌+◌, ◌<◌, ◌≤◌, Bool, true, false, List, [], ◌∷◌, length, map, get_or, Ok, refl, ap, arith}
use Rattle.tla_value.specs.declared.stop.EvalStop.{EvalStop}
use Rattle.tla_value.specs.Value.{Outcome, and_then}
use Rattle.pcal_tree.specs.Algorithm.{Routine, numbered}
use Rattle.pcal_tree.specs.Program.{Program, Actor}
use Rattle.pcal_tree.specs.Scope.{State}
use Rattle.value_forms.specs.Gives.{Stops}
use Rattle.written_traces.specs.AskedStarts.{as_written, procedures_asked, processes_asked}
use Rattle.start_troubles.specs.Asked.{procedure_asked, process_asked}
use Rattle.start_troubles.proofs.AskedLaws.{all_asked, AskedFrom, asked_next, asked_not, asked_stops, asked_done}

pub procedures_all : (P : Program) (vs : List Actor) (s : State) (us : List Routine) → all_asked (procedure_asked (as_written P) P vs s) us ≡ procedures_asked (as_written P) P vs us s
procedures_all P vs s [] = refl
procedures_all P vs s (u ∷ us) = ap (and_then (procedure_asked (as_written P) P vs s u)) (procedures_all P vs s us)

pub processes_all : (P : Program) (vs : List Actor) (s : State) (us : List Routine) → all_asked (process_asked (as_written P) P vs s) us ≡ processes_asked (as_written P) P vs us s
processes_all P vs s [] = refl
processes_all P vs s (u ∷ us) = ap (and_then (process_asked (as_written P) P vs s u)) (processes_all P vs s us)

-- ---- routines with their numbers

module _ {A C : Type 0} (f : ℕ → C → Routine) (g : A → C) where
  numbered_at : (n k : ℕ) (xs : List A) (i : ℕ) (x : A) → k ≡ n + i → i < length xs → x ≡ get_or xs i x → f k (g x) ≡ get_or (numbered f n (map g xs)) i (f k (g x))
  numbered_at n k [] i x e less is = absurd (omega (arith, less))
  numbered_at n k (y ∷ xs) zero x e less is = let same : k ≡ n = omega (arith, e) in λ j. f (same j) (g (is j))
  numbered_at n k (y ∷ xs) (suc i) x e less is = numbered_at (suc n) k xs i x (omega (arith, e)) (omega (arith, less)) is

  numbered_many : (n : ℕ) (xs : List A) → length (numbered f n (map g xs)) ≡ length xs
  numbered_many n [] = refl
  numbered_many n (x ∷ xs) = ap suc (numbered_many (suc n) xs)

  module _ (one : Routine → Outcome Bool) (n : ℕ) (list : List A) where
    abbrev all : List Routine
    all = numbered f n (map g list)

    abbrev pub TurnsFrom : ℕ → Type 0
    TurnsFrom i = AskedFrom one all i

    within : (i : ℕ) → i < length list → i < length all
    within i less = omega (arith, less, numbered_many n list)

    pub turns_next : (i : ℕ) (x : A) (k : ℕ) → i < length list → x ≡ get_or list i x → k ≡ n + i → one (f k (g x)) ≡ Ok true → TurnsFrom i → TurnsFrom (i + 1)
    turns_next i x k less is e q h = asked_next one all i (f k (g x)) (within i less) (numbered_at n k list i x e less is) q h

    pub turns_not : (i : ℕ) (x : A) (k : ℕ) → i < length list → x ≡ get_or list i x → k ≡ n + i → one (f k (g x)) ≡ Ok false → TurnsFrom i → all_asked one all ≡ Ok false
    turns_not i x k less is e q h = asked_not one all i (f k (g x)) (within i less) (numbered_at n k list i x e less is) q h

    pub turns_stop : (i : ℕ) (x : A) (k : ℕ) (s : EvalStop) → i < length list → x ≡ get_or list i x → k ≡ n + i → Stops s (one (f k (g x))) → TurnsFrom i → Stops s (all_asked one all)
    turns_stop i x k s less is e q h = asked_stops one all i (f k (g x)) s (within i less) (numbered_at n k list i x e less is) q h

    pub turns_done : (i : ℕ) → length list ≤ i → TurnsFrom i → all_asked one all ≡ Ok true
    turns_done i le h = asked_done one all i (omega (arith, le, numbered_many n list)) h
