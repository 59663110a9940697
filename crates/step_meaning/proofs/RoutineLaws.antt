-- First values of the variables of routines, one routine after another.
use Rattle.std.proofs.Common.{◌≡◌, ℕ, zero, suc, ◌+◌, ◌<◌, ◌≤◌, Bool, true, false, ◌||◌, bytes_eq, List, [], ◌∷◌, ◌++◌, length, map, drop, get_or, refl, sym, ap, subst, ◌∙◌, arith}
use Rattle.std.proofs.lemmas.List.{drop_more, drop_all}
use Rattle.std.proofs.lemmas.Slice.Eq.{bytes_eq-Decides}
use Rattle.tla_token.specs.Signs.{is_among}
use Rattle.tla_tree.specs.Tree.{Word, Each}
use Rattle.pcal_tree.specs.Algorithm.{Routine, locals, numbered, procedure_routines, main_routines}
use Rattle.pcal_tree.specs.Program.{Program, Actor}
use Rattle.pcal_tree.specs.Scope.{State}
use Rattle.pcal_tree.specs.Variables.{pc, stack, stack_for, declared, written_all, written_by_all, vars}
use Rattle.step_walks.specs.FirstValues.{as_written}
use Rattle.step_walks.specs.Flows.{Flow, falls, onward}
use Rattle.step_walks.specs.StartFlows.{procedures_flow, processes_flow}
use Rattle.step_choices.specs.declared.pause.Pause.{Pause}
use Rattle.step_choices.specs.Pauses.{Pauses}
use Rattle.step_moves.proofs.SettingLaws.{among_later, among_before}
use Rattle.step_meaning.specs.Ready.{procedure_flow, process_flow}
use Rattle.step_meaning.proofs.FlowLaws.{through, pauses_onward, pauses_is}

-- ---- names

or_right : (b : Bool) {c : Bool} → c ≡ true → (b || c) ≡ true
or_right true e = refl
or_right false e = e

each_more : (P Q : Word → Type 0) → ((x : Word) → P x → Q x) → (xs : List Word) → Each P xs → Each Q xs
each_more P Q f [] h = tt
each_more P Q f (x ∷ xs) h = (f x h.0, each_more P Q f xs h.1)

all_among : (xs : List Word) → Each (λ x. is_among xs x ≡ true) xs
all_among [] = tt
all_among (y ∷ ys) =
    (ap (λ (b : Bool). b || is_among ys y) ((bytes_eq-Decides y y).1 refl), each_more (λ x. is_among ys x ≡ true) (λ x. is_among (y ∷ ys) x ≡ true) (λ x e. or_right (bytes_eq y x) e) ys (all_among ys))

each_left : (P : Word → Type 0) (xs ys : List Word) → Each P (xs ++ ys) → Each P xs
each_left P [] ys h = tt
each_left P (x ∷ xs) ys h = (h.0, each_left P xs ys h.1)

each_right : (P : Word → Type 0) (xs ys : List Word) → Each P (xs ++ ys) → Each P ys
each_right P [] ys h = h
each_right P (x ∷ xs) ys h = each_right P xs ys h.1

module _ (P : Program) where
  abbrev us : List Routine
  us = procedure_routines P.algorithm

  abbrev globals : List Word
  globals = declared P.algorithm.globals

  abbrev own : List Word
  own = written_by_all P us

  abbrev main : List Word
  main = written_by_all P (main_routines P.algorithm P.algorithm.main)

  abbrev before : List Word
  before = globals ++ (pc ∷ stack_for us)

  abbrev IsVariable : Word → Type 0
  IsVariable x = is_among (vars P) x ≡ true

  pub globals_among : Each IsVariable globals
  globals_among = each_more (λ x. is_among globals x ≡ true) IsVariable (λ x e. among_before (before ++ own) main x (among_before before own x (among_before globals (pc ∷ stack_for us) x e))) globals (all_among globals)

  pub procedures_among : Each IsVariable own
  procedures_among = each_more (λ x. is_among own x ≡ true) IsVariable (λ x e. among_before (before ++ own) main x (among_later before own x e)) own (all_among own)

  pub processes_among : Each IsVariable main
  processes_among = each_more (λ x. is_among main x ≡ true) IsVariable (λ x e. among_later (before ++ own) main x e) main (all_among main)

  pub stack_among : (u : Routine) (rest : List Routine) → us ≡ u ∷ rest → IsVariable stack
  stack_among u rest e =
      among_before (before ++ own) main stack (among_before before own stack (among_later globals (pc ∷ stack_for us) stack
      (subst (λ (ws : List Routine). is_among (pc ∷ stack_for ws) stack ≡ true) (sym e) refl)))

-- ---- routines with their numbers

module _ {A C : Type 0} (f : ℕ → C → Routine) (g : A → C) where
  pub routine_known : (N : Word → Type 0) (P : Program) (n k : ℕ) (xs : List A) (i : ℕ) (x : A) → k ≡ n + i → i < length xs → x ≡ get_or xs i x → Each N (written_by_all P (numbered f n (map g xs)))
      → Each N (written_all P (f k (g x)) (locals (f k (g x))))
  routine_known N P n k [] i x e less is h = absurd (omega (arith, less))
  routine_known N P n k (y ∷ xs) zero x e less is h =
      let same : k ≡ n = omega (arith, e) in
      subst (λ (z : ℕ × A). Each N (written_all P (f z.0 (g z.1)) (locals (f z.0 (g z.1))))) (λ j. (sym same j, sym is j)) (each_left N (written_all P (f n (g y)) (locals (f n (g y)))) (written_by_all P (numbered f (suc n) (map g xs))) h)
  routine_known N P n k (y ∷ xs) (suc i) x e less is h =
      routine_known N P (suc n) k xs i x (omega (arith, e)) (omega (arith, less)) is (each_right N (written_all P (f n (g y)) (locals (f n (g y)))) (written_by_all P (numbered f (suc n) (map g xs))) h)

-- the prepared one of a number
pub numbered_at : {A B C D : Type 0} (k : A → B) (f : ℕ → D → B) (g : C → D) (n m : ℕ) (ys : List A) (xs : List C) (i : ℕ) (y : A) (x : C) → m ≡ n + i → map k ys ≡ numbered f n (map g xs) → i < length xs → y ≡ get_or ys i y → x ≡ get_or xs i x → k y ≡ f m (g x)
numbered_at k f g n m ys [] i y x j e less iy ix = absurd (omega (arith, less))
numbered_at k f g n m [] (w ∷ xs) i y x j e less iy ix = absurd (let no : ⊥ = cc in no)
numbered_at {B = B} k f g n m (v ∷ ys) (w ∷ xs) zero y x j e less iy ix =
    let same : m ≡ n = omega (arith, j) in
    ap k iy ∙ ap (λ (l : List B). elim l [ [] ↦ k v | z ∷ zs ↦ z ]) e ∙ (λ r. f (sym same r) (g (sym ix r)))
numbered_at {B = B} k f g n m (v ∷ ys) (w ∷ xs) (suc i) y x j e less iy ix =
    numbered_at k f g (suc n) m ys xs i y x (omega (arith, j)) (ap (λ (l : List B). elim l [ [] ↦ map k ys | z ∷ zs ↦ zs ]) e) (omega (arith, less)) iy ix

pub numbered_many : {A B C D : Type 0} (k : A → B) (f : ℕ → D → B) (g : C → D) (n : ℕ) (ys : List A) (xs : List C) → map k ys ≡ numbered f n (map g xs) → length ys ≡ length xs
numbered_many k f g n [] [] e = refl
numbered_many k f g n [] (w ∷ xs) e = absurd (let no : ⊥ = cc in no)
numbered_many k f g n (v ∷ ys) [] e = absurd (let no : ⊥ = cc in no)
numbered_many {B = B} k f g n (v ∷ ys) (w ∷ xs) e = ap suc (numbered_many k f g (suc n) ys xs (ap (λ (l : List B). elim l [ [] ↦ map k ys | z ∷ zs ↦ zs ]) e))

-- ---- one after another

-- what comes of routines, by what comes of one
abbrev pub in_turn : (Routine → State → List ℕ → Flow State) → List Routine → State → List ℕ → Flow State
in_turn one [] s ns = falls s ns
in_turn one (u ∷ us) s ns = onward (one u s ns) (λ t ms. in_turn one us t ms)

module _ {A C : Type 0} (f : ℕ → C → Routine) (g : A → C) (one : Routine → State → List ℕ → Flow State) (n : ℕ) (list : List A) (s0 : State) (ns0 : List ℕ) where
  abbrev turns : ℕ → List A → State → List ℕ → Flow State
  turns k xs s ns = in_turn one (numbered f k (map g xs)) s ns

  abbrev pub TurnsFrom : ℕ → State → List ℕ → Type 0
  TurnsFrom i s ns = turns (n + i) (drop i list) s ns ≡ turns n list s0 ns0

  pub turns_begun : TurnsFrom 0 s0 ns0
  turns_begun = let same : n + 0 ≡ n = omega arith in ap (λ (k : ℕ). turns k list s0 ns0) same

  first_turn : (i : ℕ) (x : A) (s : State) (ns : List ℕ) → i < length list → x ≡ get_or list i x → turns (n + i) (drop i list) s ns ≡ onward (one (f (n + i) (g x)) s ns) (λ t ms. turns (n + (i + 1)) (drop (i + 1) list) t ms)
  first_turn i x s ns less is =
      let next : suc (n + i) ≡ n + (i + 1) = omega arith in
      ap (λ (xs : List A). turns (n + i) xs s ns) (drop_more list i x less ∙ ap (λ (z : A). z ∷ drop (i + 1) list) (sym is))
      ∙ (λ j. onward (one (f (n + i) (g x)) s ns) (λ t ms. turns (next j) (drop (i + 1) list) t ms))

  pub turns_next : (i : ℕ) (x : A) (k : ℕ) (s t : State) (ns ms : List ℕ) → i < length list → x ≡ get_or list i x → k ≡ n + i → one (f k (g x)) s ns ≡ falls t ms → TurnsFrom i s ns → TurnsFrom (i + 1) t ms
  turns_next i x k s t ns ms less is e q h =
      sym (through (one (f (n + i) (g x)) s ns) t ms (λ z ls. turns (n + (i + 1)) (drop (i + 1) list) z ls) (ap (λ (m : ℕ). one (f m (g x)) s ns) (sym e) ∙ q)) ∙ sym (first_turn i x s ns less is) ∙ h

  pub turns_pause : (i : ℕ) (x : A) (k : ℕ) (s : State) (ns : List ℕ) (q : Pause) → i < length list → x ≡ get_or list i x → k ≡ n + i → Pauses q (one (f k (g x)) s ns) → TurnsFrom i s ns → Pauses q (turns n list s0 ns0)
  turns_pause i x k s ns q less is e r h =
      pauses_is q (onward (one (f (n + i) (g x)) s ns) (λ t ms. turns (n + (i + 1)) (drop (i + 1) list) t ms)) (turns n list s0 ns0) (sym (first_turn i x s ns less is) ∙ h)
      (pauses_onward q (one (f (n + i) (g x)) s ns) (λ t ms. turns (n + (i + 1)) (drop (i + 1) list) t ms)
      (subst (λ (m : ℕ). Pauses q (one (f m (g x)) s ns)) e r))

  pub turns_done : (i : ℕ) (s : State) (ns : List ℕ) → length list ≤ i → TurnsFrom i s ns → turns n list s0 ns0 ≡ falls s ns
  turns_done i s ns le h = sym h ∙ ap (λ (xs : List A). turns (n + i) xs s ns) (drop_all i list le)

pub procedures_in_turn : (P : Program) (vs : List Actor) (us : List Routine) (s : State) (ns : List ℕ) → procedures_flow (as_written P []) P vs us s ns ≡ in_turn (λ u t ms. procedure_flow P u vs t ms) us s ns
procedures_in_turn P vs [] s ns = refl
procedures_in_turn P vs (u ∷ us) s ns = λ i. onward (procedure_flow P u vs s ns) (λ t ms. procedures_in_turn P vs us t ms i)

pub processes_in_turn : (P : Program) (vs : List Actor) (us : List Routine) (s : State) (ns : List ℕ) → processes_flow (as_written P []) P vs us s ns ≡ in_turn (λ u t ms. process_flow P u vs t ms) us s ns
processes_in_turn P vs [] s ns = refl
processes_in_turn P vs (u ∷ us) s ns = λ i. onward (process_flow P u vs s ns) (λ t ms. processes_in_turn P vs us t ms i)
