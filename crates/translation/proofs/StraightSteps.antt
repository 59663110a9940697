-- Assignments one after the other, to different variables that are assigned nowhere before: items can be written for them.
use Rattle.std.proofs.Common.{◌≡◌, List, [], ◌∷◌, ◌++◌, Bool, true, false, ◌||◌, bytes_eq, Option, Some, ◌⊎◌, inl, inr, refl, sym, subst, ◌∙◌}
use Rattle.std.proofs.lemmas.Bool.{both_ways}
use Rattle.std.proofs.lemmas.Slice.Eq.{bytes_eq-Decides}
use Rattle.tla_token.specs.Signs.{is_among}
use Rattle.tla_token.proofs.Spelled.{same_bytes}
use Rattle.tla_tree.specs.Tree.{Word, Tree, Graft, graft}
use Rattle.tla_value.specs.Grafts.{owned}
use Rattle.module_tree.specs.Formulas.{self}
use Rattle.pcal_tree.specs.Algorithm.{declares, Routine, Assignments, no_assignments, assignment, assign, Statements, done, then, mark, Algorithm}
use Rattle.pcal_tree.specs.Expand.{graft_left, graft_assignments, graft_all}
use Rattle.pcal_tree.specs.Paths.{root, some_word, roots}
use Rattle.pcal_tree.specs.Program.{Program}
use Rattle.pcal_tree.specs.Reads.{Reading, readings_of}
use Rattle.pcal_tree.specs.Variables.{vars}
use Rattle.action_builder.specs.Assigned.{Names, more, head_of, without, heads}
use Rattle.action_builder.specs.OwnVariables.{is_own_variable}
use Rattle.action_builder.specs.laws.Jumps.{AllUnlike}
use Rattle.action_builder.specs.laws.Ready.{Readable, IsWithin, LeftSides, FineSides, FineAssignments, Apart}
use Rattle.action_builder.proofs.Main.{append_cases, in_front, behind}
use Rattle.translation.specs.laws.FreshReads.{fresh, ReadsFresh}
use Rattle.translation.specs.laws.StepNames.{StepNames}
use Rattle.translation.specs.laws.StepParts.{Readied}
use Rattle.translation.proofs.NamedBodies.{head_root}
use Rattle.translation.proofs.PutTrees.{root_left, side_put, side_root}
use Rattle.translation.proofs.StepNames.{GlobalsOf, own_left, own_root, without_within, own_reads, side_reads, fine_of, variable_fresh}
use Rattle.translation.proofs.StepsOnce as steps
use Rattle.action_builder.proofs.Names.{each_name}

-- the variables that are assigned one after the other
abbrev pub all_roots : Statements → List Word
all_roots (then at (assign ms) rest) = roots ms ++ all_roots rest
all_roots _ = []

unlike_either : (xs ys : List Word) → AllUnlike (xs ++ ys) → AllUnlike ys × ((x : Word) → steps.In xs x → steps.In ys x → ⊥)
unlike_either [] ys h = (h, λ x m n. absurd (nothing x m))
  where
    nothing : (x : Word) → steps.In [] x → ⊥
    nothing x m = cc
unlike_either (z ∷ xs) ys h = (let k = unlike_either xs ys h.1 in (k.0, λ x m n. by x (bytes_eq z x) refl m n k.1))
  where
    by : (x : Word) (b : Bool) → bytes_eq z x ≡ b → (b || is_among xs x) ≡ true → steps.In ys x → ((x : Word) → steps.In xs x → steps.In ys x → ⊥) → ⊥
    by x true e m n f = both_ways (bytes_eq z x) (each_name (λ y. bytes_eq z y ≡ false) (xs ++ ys) h.0 x (behind xs ys x n)) e
    by x false e m n f = f x m n

module _ (P : Program) (u : Routine) (N : Word → Type 0) (k : StepNames P u N) where
  abbrev a : Algorithm
  a = P.algorithm

  abbrev ds : List Reading
  ds = readings_of a

  abbrev vs : List Word
  vs = vars P

  abbrev U : Readable
  U = fresh ds

  abbrev h : Graft
  h = owned self (is_own_variable P)

  -- whatever else is assigned that is no global
  abbrev pub ReadsAnyhow : Names → Tree → Type 0
  ReadsAnyhow A e = (B : Names) → GlobalsOf P u N k A B → ReadsFresh ds N B e

  -- left sides are variables that are no globals
  abbrev pub WritesAnyhow : Names → Assignments → Type 0
  WritesAnyhow A no_assignments = Unit {0}
  WritesAnyhow A (assignment l e ms) =
      ((x : Word) × (root l ≡ Some x) × (is_among vs x ≡ true) × (declares a.globals x ≡ false)) × ReadsAnyhow A l × ReadsAnyhow A e × WritesAnyhow A ms

  abbrev pub AllAnyhow : Names → Statements → Type 0
  AllAnyhow A done = Unit {0}
  AllAnyhow A (then at (assign ms) rest) = WritesAnyhow A ms × AllAnyhow A rest
  AllAnyhow A _ = ⊥

  -- ---- one statement

  own_head : (l : Tree) (x : Word) → root l ≡ Some x → head_of (graft_left h l) ≡ x
  own_head l x e = head_root (graft_left h l) x (side_root h (λ y. y) (own_root P u N k) l x e)

  heads_within : (A : Names) (ms : Assignments) → WritesAnyhow A ms → (y : Word) → steps.In (heads (graft_assignments h ms)) y → steps.In (roots ms) y
  heads_within A no_assignments w y m = m
  heads_within A (assignment l e ms) w y m = by (bytes_eq (head_of (graft_left h l)) y) refl m (heads_within A ms w.3 y)
    where
      x : Word
      x = w.0.0

      root_in : steps.In (some_word (root l)) x
      root_in = subst (λ (o : Option Word). steps.In (some_word o) x) (sym w.0.1) (λ i. itself i || false)
        where
          itself : bytes_eq w.0.0 w.0.0 ≡ true
          itself = (bytes_eq-Decides w.0.0 w.0.0).1 refl

      by : (b : Bool) → bytes_eq (head_of (graft_left h l)) y ≡ b → (b || is_among (without (head_of (graft_left h l)) (heads (graft_assignments h ms))) y) ≡ true → (steps.In (heads (graft_assignments h ms)) y → steps.In (roots ms) y)
          → steps.In (some_word (root l) ++ roots ms) y
      by true q n f = subst (λ (z : Word). steps.In (some_word (root l) ++ roots ms) z) (sym (own_head l x w.0.1) ∙ same_bytes _ y q) (in_front (some_word (root l)) (roots ms) x root_in)
      by false q n f = behind (some_word (root l)) (roots ms) y (f (without_within P u N k _ (heads (graft_assignments h ms)) y n))

  -- its roots are such variables
  Is : Word → Type 0
  Is x = (is_among vs x ≡ true) × (declares a.globals x ≡ false)

  roots_are : (A : Names) (ms : Assignments) → WritesAnyhow A ms → (y : Word) → steps.In (roots ms) y → (is_among vs y ≡ true) × (declares a.globals y ≡ false)
  roots_are A no_assignments w y m = absurd (nothing y m)
    where
      nothing : (x : Word) → steps.In [] x → ⊥
      nothing x m = cc
  roots_are A (assignment l e ms) w y m = by (append_cases (some_word (root l)) (roots ms) y m) (roots_are A ms w.3 y)
    where
      one : steps.In (w.0.0 ∷ []) y → (is_among vs y ≡ true) × (declares a.globals y ≡ false)
      one n = at (bytes_eq w.0.0 y) refl n
        where
          at : (b : Bool) → bytes_eq w.0.0 y ≡ b → (b || false) ≡ true → (is_among vs y ≡ true) × (declares a.globals y ≡ false)
          at true e z = subst (λ (x : Word). (is_among vs x ≡ true) × (declares a.globals x ≡ false)) (same_bytes w.0.0 y e) (w.0.2, w.0.3)
          at false e z = absurd (never z)
            where
              never : false ≡ true → ⊥
              never q = cc

      by : steps.In (some_word (root l)) y ⊎ steps.In (roots ms) y → (steps.In (roots ms) y → (is_among vs y ≡ true) × (declares a.globals y ≡ false)) → (is_among vs y ≡ true) × (declares a.globals y ≡ false)
      by (inl n) f = one (subst (λ (o : Option Word). steps.In (some_word o) y) w.0.1 n)
      by (inr n) f = f n

  lefts : (A : Names) (ms : Assignments) → WritesAnyhow A ms → LeftSides (is_among vs) (graft_assignments h ms)
  lefts A no_assignments w = tt
  lefts A (assignment l e ms) w = (side_put (is_among vs) (is_among vs) h (own_left P u N k) l (root_left (is_among vs) w.0.0 w.0.2 l w.0.1), lefts A ms w.3)

  sides : (A B : Names) → IsWithin B (is_among vs) → GlobalsOf P u N k A B → (ms : Assignments) → WritesAnyhow A ms → FineSides U B (graft_assignments h ms)
  sides A B i q no_assignments w = tt
  sides A B i q (assignment l e ms) w = (
    fine_of P u N k B i (graft_left h l) (side_reads P u N k B B h (own_reads P u N k B) l (w.1 B q)),
    fine_of P u N k B i (graft h e) (own_reads P u N k B e (w.2 B q)),
    sides A B i q ms w.3,
  )

  writes_fine : (A B : Names) → IsWithin B (is_among vs) → GlobalsOf P u N k A B → (ms : Assignments) → WritesAnyhow A ms → FineAssignments U vs B (graft_assignments h ms)
  writes_fine A B i q ms w = record {
    left = lefts A ms w;
    sides = sides A B i q ms w;
    readable = λ y m. variable_fresh P u N k B y (roots_are A ms w y (heads_within A ms w y m)).0;
  }

  -- ---- one after the other

  more_cases : (B : Names) (ys : List Word) (y : Word) → more B ys y ≡ true → (B y ≡ true) ⊎ steps.In ys y
  more_cases B ys y m = by (B y) refl m
    where
      by : (b : Bool) → B y ≡ b → (b || is_among ys y) ≡ true → (B y ≡ true) ⊎ steps.In ys y
      by true e n = inl e
      by false e n = inr n

  not_more : (B : Names) (ys : List Word) (y : Word) → B y ≡ false → (steps.In ys y → ⊥) → more B ys y ≡ false
  not_more B ys y e f = by (more B ys y) (λ m. at (more_cases B ys y m))
    where
      at : (B y ≡ true) ⊎ steps.In ys y → ⊥
      at (inl q) = both_ways (B y) e q
      at (inr n) = f n

      by : (b : Bool) → (b ≡ true → ⊥) → b ≡ false
      by true f = absurd (f refl)
      by false f = refl

  pub straight_ready : (A B : Names) → IsWithin B (is_among vs) → GlobalsOf P u N k A B → (b : Statements) → AllAnyhow A b → Apart B (all_roots b) → AllUnlike (all_roots b) → Readied U vs B (graft_all h b)
  straight_ready A B i q done w p d = record { settled = tt; fine = tt; once = tt }
  straight_ready A B i q (then at (assign ms) rest) w p d =
      let f = writes_fine A B i q ms w.0 in
      let e = unlike_either (roots ms) (all_roots rest) d in
      let hs = heads (graft_assignments h ms) in
      let x = straight_ready A (more B hs) (λ y m. in_more y (more_cases B hs y m)) (λ y g m. of_more y g (more_cases B hs y m)) rest w.1
      (λ y m. not_more B hs y (p y (behind (roots ms) (all_roots rest) y m)) (λ n. e.1 y (heads_within A ms w.0 y n) m)) e.0 in
      record { settled = (f.left, x.settled); fine = (f, x.fine); once = ((λ y m. p y (in_front (roots ms) (all_roots rest) y (heads_within A ms w.0 y m))), x.once) }
    where
      in_more : (y : Word) → (B y ≡ true) ⊎ steps.In (heads (graft_assignments h ms)) y → is_among vs y ≡ true
      in_more y (inl m) = i y m
      in_more y (inr m) = (roots_are A ms w.0 y (heads_within A ms w.0 y m)).0

      of_more : (y : Word) → declares a.globals y ≡ true → (B y ≡ true) ⊎ steps.In (heads (graft_assignments h ms)) y → A y ≡ true
      of_more y g (inl m) = q y g m
      of_more y g (inr m) = absurd (both_ways (declares a.globals y) (roots_are A ms w.0 y (heads_within A ms w.0 y m)).1 g)
  straight_ready A B i q (then at st rest) w p d = absurd w
  straight_ready A B i q (mark l m rest) w p d = absurd w
