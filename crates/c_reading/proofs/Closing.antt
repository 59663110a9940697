-- What stands open in a list of statements is closed by two tokens at most for each form.
use Rattle.std.proofs.Common.{◌≡◌, ℕ, zero, suc, ◌+◌, ◌*◌, ◌≤◌, false, List, [], ◌++◌, length, Option, Some, None, Ok, refl, ◌∙◌, arith}
use Rattle.tla_token.specs.declared.place.Place.{Place}
use Rattle.tla_token.specs.Places.{nowhere}
use Rattle.tla_tree.specs.Lexical.{Token}
use Rattle.tla_tree.specs.Lexical as tk
use Rattle.pcal_tree.specs.GrammarParts.{Labels, no_labels, skip, mark}
use Rattle.pcal_tree.specs.GrammarC.{simple, either, compound, Labelled, labelled, else_then, last_branch, Sequence, last_statement}
use Rattle.syntax_reading.proofs.BesideAround.{binds_deep}
use Rattle.syntax_reading.specs.TokenReaders.{first, Parts}
use Rattle.c_reading.specs.ReadStatements.{Arms, first_arm, later_arm, Test, with_opening, while_opening, Stack, bottom, in_block, in_then, in_else, in_body, in_either, State, begin, ended, with_before, joined, tested, opened, before_or, ask_or, closed, run, AreApart, closing, rest, open_stack, depth}
use Rattle.c_reading.proofs.Behind.{ask_of, ask_at}
use Rattle.c_reading.proofs.Elsewhere.{either_ends, same_after, same_run}

-- a list is read up to the `}` after it
abbrev pub IsClosed : Parts → ℕ → State → List Token → Place → List Token → Type 0
IsClosed m n s us p ts = (ss : Sequence) × (run m n s (us ++ mark p tk.close_brace ts) ≡ Ok (ss, mark p tk.close_brace ts))

as_closed : (m : Parts) (n : ℕ) (s t : State) (us : List Token) (p : Place) (ts : List Token) → run m n s (us ++ mark p tk.close_brace ts) ≡ run m n t (us ++ mark p tk.close_brace ts) → IsClosed m n t us p ts → IsClosed m n s us p ts
as_closed m n s t us p ts e r = (r.0, e ∙ r.1)

abbrev skips : Labelled
skips = labelled no_labels (simple (skip nowhere))

-- an `if` with its `else`, and an `either` with another branch
abbrev with_else : Labels → Test → Labelled → Option Place → Labelled
with_else ls t a s = tested ls t a (else_then s nowhere skips)

abbrev with_arm : Labels → Place → Labelled → Option Place → Labelled
with_arm ls q a s = labelled ls (either q a (last_branch s nowhere skips))

module _ (m : Parts) (p : Place) (ts : List Token) where
  -- what closes this, with the brace
  abbrev all : Stack → List Token
  all st = closing st ++ mark p tk.close_brace ts

  -- where no `or` must come, none comes first
  no_or_next : (st : Stack) → AreApart st → before_or st ≡ false → ask_of (first (all st)).kind ≡ ask_or → ⊥
  no_or_next (bottom b) i e k = cc
  no_or_next (in_block ls q b st) i e k = cc
  no_or_next (in_then ls t st) i e k = cc
  no_or_next (in_else ls t a s q st) i e k = no_or_next st i e k
  no_or_next (in_body ls o st) i e k = no_or_next st i e k
  no_or_next (in_either (first_arm ls q) st) i e k = cc
  no_or_next (in_either (later_arm t a s q) st) i e k = no_or_next st i.1 i.0 k

  no_or_at : (st : Stack) → AreApart st → before_or st ≡ false → ask_at (all st) ≡ ask_or → ⊥
  no_or_at (bottom b) i e k = cc
  no_or_at (in_block ls q b st) i e k = cc
  no_or_at (in_then ls t st) i e k = cc
  no_or_at (in_else ls t a s q st) i e k = no_or_at st i e k
  no_or_at (in_body ls o st) i e k = no_or_at st i e k
  no_or_at (in_either (first_arm ls q) st) i e k = cc
  no_or_at (in_either (later_arm t a s q) st) i e k = no_or_at st i.1 i.0 k

  -- it ends at the last branch of an `either`
  arm_ends : (n : ℕ) (t : Arms) (c : Labelled) (o : Option Place) (q : Place) (a : Labelled) (s : Option Place) (st : Stack) → AreApart st → before_or st ≡ false
      → run m n (ended a s (in_either (later_arm t c o q) st)) (all st) ≡ run m n (ended (joined t c (last_branch o q a)) s st) (all st)
  arm_ends n t c o q a None st i e = same_run m n a (in_either (later_arm t c o q) st) (joined t c (last_branch o q a)) st (all st) (either_ends (ask_at (all st)) t c o q a st (no_or_at st i e))
  arm_ends n t c o q a (Some z) st i e =
      same_after m n z a (in_either (later_arm t c o q) st) (joined t c (last_branch o q a)) st (all st) (either_ends (ask_of (first (all st)).kind) t c o q a st (no_or_next st i e))

  -- it ends where nothing asks what comes
  ends_so : (n : ℕ) (a : Labelled) (x : Stack) (b : Labelled) (y : Stack) (s : Option Place) (us : List Token) → closed (ask_at us) a x ≡ closed (ask_at us) b y → closed (ask_of (first us).kind) a x ≡ closed (ask_of (first us).kind) b y
      → run m n (ended a s x) us ≡ run m n (ended b s y) us
  ends_so n a x b y None us e k = same_run m n a x b y us e
  ends_so n a x b y (Some z) us e k = same_after m n z a x b y us k

  closed_after : (st : Stack) → AreApart st → (n : ℕ) → suc (length (closing st)) ≤ n → (a : Labelled) (s : Option Place) → IsClosed m n (ended a s st) (closing st) p ts
  closed_after (bottom b) i n l a s = by n l s
    where
      by : (n : ℕ) → 1 ≤ n → (s : Option Place) → IsClosed m n (ended a s (bottom b)) [] p ts
      by zero l s = absurd (omega (arith, l))
      by (suc n) l None = (with_before b (last_statement a None), refl)
      by (suc n) l (Some z) = (with_before b (last_statement a (Some z)), refl)
  closed_after (in_block ls q b st) i n l a s = by n l s (closed_after st i)
    where
      by : (n : ℕ) → suc (suc (length (closing st))) ≤ n → (s : Option Place) → ((n : ℕ) → suc (length (closing st)) ≤ n → (a : Labelled) (s : Option Place) → IsClosed m n (ended a s st) (closing st) p ts)
          → IsClosed m n (ended a s (in_block ls q b st)) (closing (in_block ls q b st)) p ts
      by zero l s k = absurd (omega (arith, l))
      by (suc n) l None k = k n (omega (arith, l)) (labelled ls (compound q (with_before b (last_statement a None)) nowhere)) None
      by (suc n) l (Some z) k = k n (omega (arith, l)) (labelled ls (compound q (with_before b (last_statement a (Some z))) nowhere)) None
  closed_after (in_then ls t st) i n l a s = by n l s (closed_after st i)
    where
      by : (n : ℕ) → suc (suc (suc (length (closing st)))) ≤ n → (s : Option Place) → ((n : ℕ) → suc (length (closing st)) ≤ n → (a : Labelled) (s : Option Place) → IsClosed m n (ended a s st) (closing st) p ts)
          → IsClosed m n (ended a s (in_then ls t st)) (closing (in_then ls t st)) p ts
      by zero l s k = absurd (omega (arith, l))
      by (suc zero) l s k = absurd (omega (arith, l))
      by (suc (suc n)) l None k = as_closed m n (ended skips None (in_else ls t a None nowhere st)) (ended (with_else ls t a None) None st) (closing st) p ts (ends_so n skips (in_else ls t a None nowhere st) (with_else ls t a None) st None (all st) refl refl) (k n (omega (arith, l)) (with_else ls t a None) None)
      by (suc (suc n)) l (Some z) k =
          as_closed m n (ended skips None (in_else ls t a (Some z) nowhere st)) (ended (with_else ls t a (Some z)) None st) (closing st) p ts (ends_so n skips (in_else ls t a (Some z) nowhere st) (with_else ls t a (Some z)) st None (all st) refl refl) (k n (omega (arith, l)) (with_else ls t a (Some z)) None)
  closed_after (in_else ls t c o q st) i n l a s =
      (let it = tested ls t c (else_then o q a) in
      as_closed m n (ended a s (in_else ls t c o q st)) (ended it s st) (closing st) p ts (ends_so n a (in_else ls t c o q st) it st s (all st) refl refl) (closed_after st i n l it s))
  closed_after (in_body ls o st) i n l a s =
      (let it = opened ls o a in
      as_closed m n (ended a s (in_body ls o st)) (ended it s st) (closing st) p ts (ends_so n a (in_body ls o st) it st s (all st) refl refl) (closed_after st i n l it s))
  closed_after (in_either (first_arm ls q) st) i n l a s = by n l s (closed_after st i.1)
    where
      by : (n : ℕ) → suc (suc (suc (length (closing st)))) ≤ n → (s : Option Place) → ((n : ℕ) → suc (length (closing st)) ≤ n → (a : Labelled) (s : Option Place) → IsClosed m n (ended a s st) (closing st) p ts)
          → IsClosed m n (ended a s (in_either (first_arm ls q) st)) (closing (in_either (first_arm ls q) st)) p ts
      by zero l s k = absurd (omega (arith, l))
      by (suc zero) l s k = absurd (omega (arith, l))
      by (suc (suc n)) l None k = as_closed m n (ended skips None (in_either (later_arm (first_arm ls q) a None nowhere) st)) (ended (with_arm ls q a None) None st) (closing st) p ts (arm_ends n (first_arm ls q) a None nowhere skips None st i.1 i.0) (k n (omega (arith, l)) (with_arm ls q a None) None)
      by (suc (suc n)) l (Some z) k =
          as_closed m n (ended skips None (in_either (later_arm (first_arm ls q) a (Some z) nowhere) st)) (ended (with_arm ls q a (Some z)) None st) (closing st) p ts (arm_ends n (first_arm ls q) a (Some z) nowhere skips None st i.1 i.0) (k n (omega (arith, l)) (with_arm ls q a (Some z)) None)
  closed_after (in_either (later_arm t c o q) st) i n l a s =
      (let it = joined t c (last_branch o q a) in
      as_closed m n (ended a s (in_either (later_arm t c o q) st)) (ended it s st) (closing st) p ts (arm_ends n t c o q a s st i.1 i.0) (closed_after st i.1 n l it s))

pub closed_by_rest : (m : Parts) (n : ℕ) (s : State) → AreApart (open_stack s) → (p : Place) (ts : List Token) → suc (length (rest s)) ≤ n → IsClosed m n s (rest s) p ts
closed_by_rest m zero s i p ts l = absurd (omega (arith, l))
closed_by_rest m (suc n) (begin ls st) i p ts l = closed_after m p ts st i n (omega (arith, l)) (labelled ls (simple (skip nowhere))) None
closed_by_rest m (suc n) (ended a s st) i p ts l = closed_after m p ts st i (suc n) l a s

-- ---- how many tokens that are
pub few_closing : (st : Stack) → length (closing st) ≤ 2 * depth st
few_closing (bottom b) = omega arith
few_closing (in_block ls p b st) = (let h = few_closing st in omega (arith, h))
few_closing (in_then ls t st) = (let h = few_closing st in omega (arith, h))
few_closing (in_else ls t a s p st) = (let h = few_closing st in omega (arith, h))
few_closing (in_body ls (with_opening p q bs r) st) = (let h = few_closing st in let i = binds_deep (depth st) bs in omega (arith, h, i))
few_closing (in_body ls (while_opening p q e r) st) = (let h = few_closing st in omega (arith, h))
few_closing (in_either (first_arm ls p) st) = (let h = few_closing st in omega (arith, h))
few_closing (in_either (later_arm t a s p) st) = (let h = few_closing st in omega (arith, h))

pub few_rest : (s : State) → length (rest s) ≤ 2 * depth (open_stack s) + 1
few_rest (begin ls st) = (let h = few_closing st in omega (arith, h))
few_rest (ended a s st) = (let h = few_closing st in omega (arith, h))
