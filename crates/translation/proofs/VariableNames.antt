-- The variables of the translation, one by one: globals, pc, the stack and the written names of each routine's own; those of different routines are written apart.
use Rattle.std.proofs.Common.{◌≡◌, ℕ, suc, List, [], ◌∷◌, ◌++◌, Bool, true, false, ◌||◌, cond, bytes_eq, map, filter, ◌⊎◌, inl, inr, refl, sym, ◌∙◌, ap, subst}
use Rattle.std.proofs.lemmas.Bool.{or_left, or_right}
use Rattle.std.proofs.lemmas.Slice.Eq.{bytes_eq-Decides}
use Rattle.tla_token.specs.Signs.{is_among}
use Rattle.tla_tree.specs.Tree.{Word, Each}
use Rattle.pcal_tree.specs.Algorithm.{locals, Procedure, Process, Main, alone, processes, Routine, numbered, first_procedure, procedure_routine, procedure_routines, main_routines, routines}
use Rattle.pcal_tree.specs.Names.{variable, Want, Given, give, written_for}
use Rattle.pcal_tree.specs.Processes.{OneOf}
use Rattle.pcal_tree.specs.Program.{Program, written}
use Rattle.pcal_tree.specs.Variables.{declared, pc, stack, written_all, written_by_all, stack_for, vars}
use Rattle.pcal_tree.specs.laws.Apart.{Apart}
use Rattle.pcal_tree.proofs.RoutineNames.{one_either}
use Rattle.pcal_tree.proofs.TroubleLaws.{one_left, one_right}
use Rattle.action_builder.specs.OwnVariables.{own_under, own_variables}
use Rattle.translation.proofs.RoutinesNamed.{each_map, among_later, among_before}
use Rattle.translation.proofs.WrittenIdentifiers.{want_of, Looked, looked, one_given}

-- ---- lists

pub each_joined : (Q : Word → Type 0) (xs ys : List Word) → Each Q xs → Each Q ys → Each Q (xs ++ ys)
each_joined Q [] ys h k = k
each_joined Q (x ∷ xs) ys h k = (h.0, each_joined Q xs ys h.1 k)

pub each_to : (Q R : Word → Type 0) → ((x : Word) → Q x → R x) → (xs : List Word) → Each Q xs → Each R xs
each_to Q R f [] h = tt
each_to Q R f (x ∷ xs) h = (f x h.0, each_to Q R f xs h.1)

pub each_two : (A B C : Word → Type 0) → ((x : Word) → A x → B x → C x) → (xs : List Word) → Each A xs → Each B xs → Each C xs
each_two A B C f [] h k = tt
each_two A B C f (x ∷ xs) h k = (f x h.0 k.0, each_two A B C f xs h.1 k.1)

pub each_from : (Q : Word → Type 0) (xs : List Word) → ((x : Word) → OneOf x xs → Q x) → Each Q xs
each_from Q [] h = tt
each_from Q (x ∷ xs) h = (h x (inl refl), each_from Q xs (λ y k. h y (inr k)))

-- what no member is isn't among them
pub none_among : (xs : List Word) (x : Word) → Each (λ y. bytes_eq y x ≡ false) xs → is_among xs x ≡ false
none_among [] x h = refl
none_among (y ∷ ys) x h = λ i. h.0 i || none_among ys x h.1 i

pub one_is_among : (xs : List Word) (x : Word) → OneOf x xs → is_among xs x ≡ true
one_is_among [] x h = absurd h
one_is_among (y ∷ ys) x (inl e) = or_left (bytes_eq y x) (is_among ys x) ((bytes_eq-Decides y x).1 (sym e))
one_is_among (y ∷ ys) x (inr h) = or_right (bytes_eq y x) (is_among ys x) (one_is_among ys x h)

-- ---- the variables

module _ (P : Program) (Q : Word → Type 0) where
  written_each : (us : List Routine) → ((u : Routine) → OneOf u us → (x : Word) → OneOf x (declared (locals u)) → Q (written P u x)) → Each Q (written_by_all P us)
  written_each [] h = tt
  written_each (u ∷ us) h =
      each_joined Q (written_all P u (locals u)) (written_by_all P us) (each_map Q (written P u) (declared (locals u)) (h u (inl refl)))
      (written_each us (λ w k. h w (inr k)))

  pub stack_each : (us : List Routine) → Q stack → Each Q (stack_for us)
  stack_each [] h = tt
  stack_each (u ∷ us) h = (h, tt)

  abbrev pub EachLocal : List Routine → Type 0
  EachLocal us = (u : Routine) → OneOf u us → (x : Word) → OneOf x (declared (locals u)) → Q (written P u x)

  pub vars_each : Each Q (declared P.algorithm.globals) → Q pc → Q stack → EachLocal (routines P.algorithm) → Each Q (vars P)
  vars_each g p s h =
      let us = procedure_routines P.algorithm in
      let ms = main_routines P.algorithm P.algorithm.main in
      each_joined Q ((declared P.algorithm.globals ++ (pc ∷ stack_for us)) ++ written_by_all P us) (written_by_all P ms)
      (each_joined Q (declared P.algorithm.globals ++ (pc ∷ stack_for us)) (written_by_all P us) (each_joined Q (declared P.algorithm.globals) (pc ∷ stack_for us) g (p, stack_each us s))
      (written_each us (λ u k. h u (one_left u us ms k)))) (written_each ms (λ u k. h u (one_right u us ms k)))

  filtered : (f : Routine → Bool) (u : Routine) (us : List Routine) → OneOf u (filter f us) → OneOf u us × (f u ≡ true)
  filtered f u [] h = absurd h
  filtered f u (w ∷ us) h = by (f w) refl (filtered f u us) h
    where
      by : (b : Bool) → f w ≡ b → (OneOf u (filter f us) → OneOf u us × (f u ≡ true)) → OneOf u (cond b (w ∷ filter f us) (filter f us)) → OneOf u (w ∷ us) × (f u ≡ true)
      by true e g (inl q) = (inl q, ap f q ∙ e)
      by true e g (inr k) = (let r = g k in (inr r.0, r.1))
      by false e g k = (let r = g k in (inr r.0, r.1))

  numbered_spread : (n : ℕ) (ps : List Procedure) (u : Routine) → OneOf u (numbered procedure_routine n ps) → u.spread ≡ true
  numbered_spread n [] u k = absurd k
  numbered_spread n (p ∷ ps) u (inl e) = ap (λ (w : Routine). w.spread) e
  numbered_spread n (p ∷ ps) u (inr k) = numbered_spread (suc n) ps u k

  -- those that are functions of identifiers
  pub own_each : Q pc → Each Q (stack_for (procedure_routines P.algorithm)) → ((u : Routine) → OneOf u (routines P.algorithm) → u.spread ≡ true → (x : Word) → OneOf x (declared (locals u)) → Q (written P u x)) → Each Q (own_variables P)
  own_each p s h = by P.algorithm.main refl
    where
      us : List Routine
      us = procedure_routines P.algorithm

      by : (m : Main) → P.algorithm.main ≡ m → Each Q (own_under P us (main_routines P.algorithm m) m)
      by (alone ss) e = tt
      by (processes ps) e =
          let ms = main_routines P.algorithm (processes ps) in
          let there : (u : Routine) → OneOf u ms → OneOf u (main_routines P.algorithm P.algorithm.main) = λ u k. subst (λ m. OneOf u (main_routines P.algorithm m)) (sym e) k in (
            p,
            each_joined Q (stack_for us ++ written_by_all P us) (written_by_all P (filter (λ u. u.spread) ms))
                (each_joined Q (stack_for us) (written_by_all P us) s
                (written_each us (λ u k. h u (one_left u us (main_routines P.algorithm P.algorithm.main) k) (numbered_spread (first_procedure P.algorithm) P.algorithm.procedures u k))))
                (written_each (filter (λ u. u.spread) ms) (λ u k. let r = filtered (λ u. u.spread) u ms k in h u (one_right u us (main_routines P.algorithm P.algorithm.main) (there u r.0)) r.1)),
          )

-- ---- a routine's own variables are among these

module _ (P : Program) where
  pub map_among : (f : Word → Word) (xs : List Word) (x : Word) → OneOf x xs → is_among (map f xs) (f x) ≡ true
  map_among f [] x h = absurd h
  map_among f (y ∷ ys) x (inl e) = or_left (bytes_eq (f y) (f x)) (is_among (map f ys) (f x)) ((bytes_eq-Decides (f y) (f x)).1 (ap f (sym e)))
  map_among f (y ∷ ys) x (inr k) = or_right (bytes_eq (f y) (f x)) (is_among (map f ys) (f x)) (map_among f ys x k)

  written_among : (us : List Routine) (u : Routine) (x : Word) → OneOf u us → OneOf x (declared (locals u)) → is_among (written_by_all P us) (written P u x) ≡ true
  written_among [] u x h k = absurd h
  written_among (w ∷ us) u x (inl e) k =
      among_before (written_all P w (locals w)) (written_by_all P us) (written P u x)
      (subst (λ z. is_among (written_all P z (locals z)) (written P u x) ≡ true) e (map_among (written P u) (declared (locals u)) x k))
  written_among (w ∷ us) u x (inr h) k = among_later (written_all P w (locals w)) (written_by_all P us) (written P u x) (written_among us u x h k)

  pub local_among : (u : Routine) (x : Word) → OneOf u (routines P.algorithm) → OneOf x (declared (locals u)) → is_among (vars P) (written P u x) ≡ true
  local_among u x h k = by (one_either u us ms h)
    where
      us : List Routine
      us = procedure_routines P.algorithm

      ms : List Routine
      ms = main_routines P.algorithm P.algorithm.main

      front : List Word
      front = declared P.algorithm.globals ++ (pc ∷ stack_for us)

      by : OneOf u us ⊎ OneOf u ms → is_among (vars P) (written P u x) ≡ true
      by (inl p) =
          among_before (front ++ written_by_all P us) (written_by_all P ms) (written P u x) (among_later front (written_by_all P us) (written P u x) (written_among us u x p k))
      by (inr p) = among_later (front ++ written_by_all P us) (written_by_all P ms) (written P u x) (written_among ms u x p k)

  kept_by_filter : (f : Routine → Bool) (u : Routine) (us : List Routine) → OneOf u us → f u ≡ true → OneOf u (filter f us)
  kept_by_filter f u [] h e = absurd h
  kept_by_filter f u (w ∷ us) h e = by (f w) refl (λ k. kept_by_filter f u us k e) h
    where
      by : (b : Bool) → f w ≡ b → (OneOf u us → OneOf u (filter f us)) → OneOf u (w ∷ us) → OneOf u (cond b (w ∷ filter f us) (filter f us))
      by true q g (inl p) = inl p
      by true q g (inr k) = inr (g k)
      by false q g (inl p) = absurd (never (sym e ∙ ap f p ∙ q))
        where
          never : true ≡ false → ⊥
          never r = cc
      by false q g (inr k) = g k

  -- with processes, those of a routine whose variables are functions
  pub spread_among : (ps : List Process) (m : Main) (u : Routine) (x : Word) → m ≡ processes ps → u.spread ≡ true → OneOf u (procedure_routines P.algorithm ++ main_routines P.algorithm m) → OneOf x (declared (locals u))
      → is_among (own_under P (procedure_routines P.algorithm) (main_routines P.algorithm m) m) (written P u x) ≡ true
  spread_among ps (alone ss) u x e s h k = cc
  spread_among ps (processes qs) u x e s h k =
      among_later (pc ∷ []) ((stack_for us ++ written_by_all P us) ++ written_by_all P (filter (λ u. u.spread) ms)) (written P u x) (by (one_either u us ms h))
    where
      us : List Routine
      us = procedure_routines P.algorithm

      ms : List Routine
      ms = main_routines P.algorithm (processes qs)

      by : OneOf u us ⊎ OneOf u ms → is_among ((stack_for us ++ written_by_all P us) ++ written_by_all P (filter (λ u. u.spread) ms)) (written P u x) ≡ true
      by (inl p) =
          among_before (stack_for us ++ written_by_all P us) (written_by_all P (filter (λ u. u.spread) ms)) (written P u x)
          (among_later (stack_for us) (written_by_all P us) (written P u x) (written_among us u x p k))
      by (inr p) =
          among_later (stack_for us ++ written_by_all P us) (written_by_all P (filter (λ u. u.spread) ms)) (written P u x)
          (written_among (filter (λ u. u.spread) ms) u x (kept_by_filter (λ u. u.spread) u ms p s) k)

-- ---- written apart

-- names with the same written one are one, of one unit
pub one_variable : (extended taken : List Word) (ws : List Want) (n m : ℕ) (x y : Word) → Apart (give extended taken ws)
    → OneOf (want_of n variable x) ws → OneOf (want_of m variable y) ws → written_for (give extended taken ws) n variable x ≡ written_for (give extended taken ws) m variable y → (n ≡ m) × (x ≡ y)
one_variable extended taken ws n m x y a h k e = by (looked extended taken ws n variable x h) (looked extended taken ws m variable y k)
  where
    by : Looked (give extended taken ws) n variable x → Looked (give extended taken ws) m variable y → (n ≡ m) × (x ≡ y)
    by f g =
        let same : f.found ≡ g.found = one_given (give extended taken ws) f.found g.found a f.listed g.listed (sym f.written ∙ e ∙ g.written) in
        let at : want_of n variable x ≡ want_of m variable y = sym f.is ∙ ap (λ (u : Given). u.want) same ∙ g.is in
        (ap (λ (w : Want). w.unit) at, ap (λ (w : Want). w.word) at)
