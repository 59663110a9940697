-- Reading within the limits beside reading without: lists of statements. Each state says how many forms were open at the tokens that were passed.
use Rattle.std.proofs.Common.{◌≡◌, ℕ, zero, suc, ◌+◌, ◌≤◌, Bool, true, false, List, [], ◌++◌, Option, Some, None, refl, ap, ◌∙◌, append_assoc, arith}
use Rattle.std.proofs.lemmas.List.{append-nil}
use Rattle.tla_token.specs.declared.place.Place.{Place}
use Rattle.tla_tree.specs.Tree.{Word, Name}
use Rattle.tla_tree.specs.Lexical.{TokenView}
use Rattle.tla_tree.specs.Lexical as tk
use Rattle.tla_tree.specs.Reader.{Reader, refuses}
use Rattle.tla_tree.specs.FirstStop.{Open}
use Rattle.pcal_tree.specs.GrammarParts.{Labels, no_labels, labels, maybe_semicolon, Simple}
use Rattle.pcal_tree.specs.GrammarC.{simple, compound, Labelled, labelled, Else, no_else, else_then, Branches, last_branch, more_branches, Sequence, last_statement, more_statements}
use Rattle.pcal_tree.specs.OpenForms.{here, plain, expression_opens, binds_open, after_binds, simple_opens, c_labelled, c_else, c_branches, c_sequence}
use Rattle.syntax_reading.specs.TokenReaders.{limited_parts, pick}
use Rattle.syntax_reading.specs.ReadAround.{with_label}
use Rattle.syntax_reading.specs.ReadSimple.{simple_words}
use Rattle.syntax_reading.proofs.Beside.{Sits, sits, sits_on, sits_here, Beside, BesideAt, BothAt, beside_gives, beside_refuses, beside_bind, beside_then, beside_next, beside_stays, beside_same, beside_moved, beside_skip, beside_opened, beside_mark, beside_pick}
use Rattle.syntax_reading.proofs.BesideAround.{sits_after, sits_moved, sits_less, binds_sit, binds_deep, with_label_opens}
use Rattle.syntax_reading.proofs.BesideParts.{unlimited_parts, beside_expr, beside_colon, beside_binds}
use Rattle.syntax_reading.proofs.BesideSimple.{beside_named, beside_words}
use Rattle.syntax_reading.proofs.Lower.{lowered_beside}
use Rattle.c_reading.specs.ReadStatements.{Before, none, after, Arms, first_arm, later_arm, Test, if_test, Opening, with_opening, while_opening, Stack, bottom, in_block, in_then, in_else, in_body, in_either, depth, State, begin, ended, Turn, on, done, with_before, joined, tested, opened}
use Rattle.c_reading.specs.ReadStatements.{before_or, opens, either_if, ends_simple, after_name, statement_words, statement_by, Ask, ask_else, ask_or, ask_other, closed, takes_else, takes_or, closing_words, is_divided, another_if, list_by, ended_by, step, turned, run, read_sequence}

-- ---- the forms that were open at the tokens that were passed
abbrev pub before_opens : ℕ → Before → List Open
before_opens d none = []
before_opens d (after b a s) = before_opens d b ++ c_labelled d a ++ plain d (maybe_semicolon s)

abbrev pub arms_open : ℕ → Arms → List Open
arms_open d (first_arm ls p) = plain d (labels ls) ++ here (d + 1)
arms_open d (later_arm t a s p) = arms_open d t ++ c_labelled (d + 1) a ++ plain (d + 1) (maybe_semicolon s) ++ here (d + 1)

abbrev pub test_opens : ℕ → Test → List Open
test_opens d (if_test p q e r) = here (d + 1) ++ here (d + 1) ++ expression_opens (d + 1) e ++ here (d + 1)

abbrev pub opening_opens : ℕ → Opening → List Open
opening_opens d (with_opening p q bs r) = here d ++ here d ++ binds_open d bs ++ here (after_binds d bs)
opening_opens d (while_opening p q e r) = here (d + 1) ++ here (d + 1) ++ expression_opens (d + 1) e ++ here (d + 1)

abbrev pub stack_opens : Stack → List Open
stack_opens (bottom b) = before_opens 0 b
stack_opens (in_block ls p b st) = stack_opens st ++ plain (depth st) (labels ls) ++ here (depth st + 1) ++ before_opens (depth st + 1) b
stack_opens (in_then ls t st) = stack_opens st ++ plain (depth st) (labels ls) ++ test_opens (depth st) t
stack_opens (in_else ls t a s p st) = stack_opens st ++ plain (depth st) (labels ls) ++ test_opens (depth st) t ++ c_labelled (depth st + 1) a ++ plain (depth st + 1) (maybe_semicolon s) ++ here (depth st + 1)
stack_opens (in_body ls o st) = stack_opens st ++ plain (depth st) (labels ls) ++ opening_opens (depth st) o
stack_opens (in_either t st) = stack_opens st ++ arms_open (depth st) t

-- how many are open at a `;` that comes, where as little ends as can
abbrev pub divider_depth : Stack → ℕ
divider_depth (bottom b) = 0
divider_depth (in_block ls p b st) = depth st + 1
divider_depth (in_then ls t st) = depth st + 1
divider_depth (in_else ls t a s p st) = divider_depth st
divider_depth (in_body ls o st) = divider_depth st
divider_depth (in_either t st) = depth st + 1

abbrev pub state_opens : State → List Open
state_opens (begin ls st) = stack_opens st ++ plain (depth st) (labels ls)
state_opens (ended a s st) = stack_opens st ++ c_labelled (depth st) a ++ plain (divider_depth st) (maybe_semicolon s)

abbrev pub turn_opens : Turn → List Open
turn_opens (on s) = state_opens s
turn_opens (done ss) = c_sequence 0 ss

-- ---- parts together
pub with_before_opens : (d : ℕ) (b : Before) (ss : Sequence) → c_sequence d (with_before b ss) ≡ before_opens d b ++ c_sequence d ss
with_before_opens d none ss = refl
with_before_opens d (after b a s) ss = with_before_opens d b (more_statements a s ss) ∙ simp append_assoc refl

pub joined_opens : (d : ℕ) (t : Arms) (a : Labelled) (bs : Branches) → c_labelled d (joined t a bs) ≡ arms_open d t ++ c_labelled (d + 1) a ++ c_branches (d + 1) bs
joined_opens d (first_arm ls p) a bs = simp append_assoc refl
joined_opens d (later_arm t c s p) a bs = joined_opens d t c (more_branches s p a bs) ∙ simp append_assoc refl

pub tested_opens : (d : ℕ) (ls : Labels) (t : Test) (a : Labelled) (b : Else) → c_labelled d (tested ls t a b) ≡ plain d (labels ls) ++ test_opens d t ++ c_labelled (d + 1) a ++ c_else (d + 1) b
tested_opens d ls (if_test p q e r) a b = simp append_assoc refl

tested_alone : (d : ℕ) (ls : Labels) (t : Test) (a : Labelled) → c_labelled d (tested ls t a no_else) ≡ plain d (labels ls) ++ test_opens d t ++ c_labelled (d + 1) a
tested_alone d ls t a = tested_opens d ls t a no_else ∙ append-nil (plain d (labels ls) ++ test_opens d t ++ c_labelled (d + 1) a)

-- ---- as many forms may be open as are
pub divider_low : (st : Stack) → divider_depth st ≤ depth st
divider_low (bottom b) = omega arith
divider_low (in_block ls p b st) = omega arith
divider_low (in_then ls t st) = omega arith
divider_low (in_else ls t a s p st) = (let h = divider_low st in omega (arith, h))
divider_low (in_body ls (with_opening p q bs r) st) = (let h = divider_low st in let k = binds_deep (depth st) bs in omega (arith, h, k))
divider_low (in_body ls (while_opening p q e r) st) = (let h = divider_low st in omega (arith, h))
divider_low (in_either t st) = omega arith

pub stack_sits : (x : List Open) (st : Stack) → Sits (depth st) (x ++ stack_opens st)
stack_sits x (bottom b) = sits
stack_sits x (in_block ls p b st) = sits_after x (sits_on (before_opens (depth st + 1) b) (sits_here (depth st + 1) (stack_opens st ++ plain (depth st) (labels ls))))
stack_sits x (in_then ls (if_test p q e r) st) =
    (let d = depth st in
    sits_after x (sits_after (stack_opens st ++ plain d (labels ls)) (sits_here (d + 1) (here (d + 1) ++ here (d + 1) ++ expression_opens (d + 1) e))))
stack_sits x (in_else ls t a s p st) =
    (let d = depth st in
    sits_after x (sits_here (d + 1) (stack_opens st ++ plain d (labels ls) ++ test_opens d t ++ c_labelled (d + 1) a ++ plain (d + 1) (maybe_semicolon s))))
stack_sits x (in_body ls (with_opening p q bs r) st) =
    (let d = depth st in
    sits_after x (sits_after (stack_opens st ++ plain d (labels ls)) (sits_here (after_binds d bs) (here d ++ here d ++ binds_open d bs))))
stack_sits x (in_body ls (while_opening p q e r) st) =
    (let d = depth st in
    sits_after x (sits_after (stack_opens st ++ plain d (labels ls)) (sits_here (d + 1) (here (d + 1) ++ here (d + 1) ++ expression_opens (d + 1) e))))
stack_sits x (in_either (first_arm ls p) st) = sits_after x (sits_after (stack_opens st) (sits_here (depth st + 1) (plain (depth st) (labels ls))))
stack_sits x (in_either (later_arm t a s p) st) =
    (let d = depth st in
    sits_after x (sits_after (stack_opens st) (sits_here (d + 1) (arms_open d t ++ c_labelled (d + 1) a ++ plain (d + 1) (maybe_semicolon s)))))

-- ---- what ends where a token comes: the counts are the same, and no more forms are open there than at a `;`
abbrev pub AllCounted : List Open → ℕ → Option (Labelled × Stack) → Type 0
AllCounted z n None = Unit {0}
AllCounted z n (Some (a, st)) = (stack_opens st ++ c_labelled (depth st) a ≡ z) × (depth st ≤ n)

pub closes_counted : (st : Stack) (q : Ask) (a : Labelled) (z : List Open) (n : ℕ) → stack_opens st ++ c_labelled (depth st) a ≡ z → divider_depth st ≤ n → AllCounted z n (closed q a st)
closes_counted (bottom b) ask_else a z n e l = tt
closes_counted (bottom b) ask_or a z n e l = tt
closes_counted (bottom b) ask_other a z n e l = (e, l)
closes_counted (in_block ls p b st) ask_else a z n e l = tt
closes_counted (in_block ls p b st) ask_or a z n e l = tt
closes_counted (in_block ls p b st) ask_other a z n e l = (e, l)
closes_counted (in_then ls t st) ask_else a z n e l = (e, l)
closes_counted (in_then ls t st) ask_or a z n e l = closes_counted st ask_or (tested ls t a no_else) z n (ap (λ (y : List Open). stack_opens st ++ y) (tested_alone (depth st) ls t a) ∙ simp append_assoc refl ∙ e) (let h = divider_low st in omega (arith, h, l))
closes_counted (in_then ls t st) ask_other a z n e l = closes_counted st ask_other (tested ls t a no_else) z n (ap (λ (y : List Open). stack_opens st ++ y) (tested_alone (depth st) ls t a) ∙ simp append_assoc refl ∙ e) (let h = divider_low st in omega (arith, h, l))
closes_counted (in_else ls t b s p st) q a z n e l = closes_counted st q (tested ls t b (else_then s p a)) z n (ap (λ (y : List Open). stack_opens st ++ y) (tested_opens (depth st) ls t b (else_then s p a)) ∙ simp append_assoc refl ∙ e) l
closes_counted (in_body ls (with_opening u v bs w) st) q a z n e l = closes_counted st q (opened ls (with_opening u v bs w) a) z n (simp append_assoc refl ∙ e) l
closes_counted (in_body ls (while_opening u v c w) st) q a z n e l = closes_counted st q (opened ls (while_opening u v c w) a) z n (simp append_assoc refl ∙ e) l
closes_counted (in_either t st) ask_or a z n e l = (e, l)
closes_counted (in_either (first_arm ls p) st) ask_else a z n e l = tt
closes_counted (in_either (first_arm ls p) st) ask_other a z n e l = tt
closes_counted (in_either (later_arm t c s p) st) ask_else a z n e l =
    closes_counted st ask_else (joined t c (last_branch s p a)) z n (ap (λ (y : List Open). stack_opens st ++ y) (joined_opens (depth st) t c (last_branch s p a)) ∙ simp append_assoc refl ∙ e) (let h = divider_low st in omega (arith, h, l))
closes_counted (in_either (later_arm t c s p) st) ask_other a z n e l =
    closes_counted st ask_other (joined t c (last_branch s p a)) z n (ap (λ (y : List Open). stack_opens st ++ y) (joined_opens (depth st) t c (last_branch s p a)) ∙ simp append_assoc refl ∙ e) (let h = divider_low st in omega (arith, h, l))

-- ---- a statement comes
module _ (e : ℕ) (x : List Open) where
  abbrev all : Turn → List Open
  all t = x ++ turn_opens t

  abbrev at : Labels → Stack → List Open
  at ls st = x ++ stack_opens st ++ plain (depth st) (labels ls)

  pub at_sits : (ls : Labels) (st : Stack) → Sits (depth st) (at ls st)
  at_sits ls st = sits_on (plain (depth st) (labels ls)) (stack_sits x st)

  simple_beside : (ls : Labels) (st : Stack) {y : List Open} {r q : Reader Simple} → Beside y (λ z. at ls st ++ simple_opens (depth st) z) r q → Beside y all (ends_simple ls st r) (ends_simple ls st q)
  simple_beside ls st h = beside_bind h (λ s. beside_gives (on (ended (labelled ls (simple s)) None st)) (simp (append_assoc, append-nil) refl))

  name_beside : (n : ℕ) (ls : Labels) (st : Stack) (y : Name) (p : Place) (k : TokenView) → BesideAt p k (at ls st ++ here (depth st)) all (after_name (limited_parts e) n ls st y p k) (after_name (unlimited_parts e) n ls st y p k)
  name_beside n ls st y p (tk.mark tk.colon) =
      beside_stays (beside_bind (beside_colon (depth st) (at ls st ++ here (depth st)) (sits_on (here (depth st)) (at_sits ls st))) (λ c.
      beside_gives (on (begin (with_label ls y c) st)) (rw (with_label_opens (depth st) ls y c) (simp append_assoc refl))))
  name_beside n ls st y p k = beside_stays (simple_beside ls st (beside_named e (depth st) n (at ls st) (at_sits ls st) y p k))

  either_beside : (w : Word) (ls : Labels) (st : Stack) (p : Place) (b : Bool) → BesideAt p (tk.reserved w) (at ls st) all (either_if b (limited_parts e) ls p st) (either_if b (unlimited_parts e) ls p st)
  either_beside w ls st p true = beside_stays beside_refuses
  either_beside w ls st p false = beside_opened (depth st + 1) refl (beside_gives (opens (in_either (first_arm ls p) st)) (simp (append_assoc, append-nil) refl))

  words_beside : (n : ℕ) (ls : Labels) (st : Stack) (p : Place) (w : Word) → BothAt p w (at ls st) all (statement_words (limited_parts e) n ls st p) (statement_words (unlimited_parts e) n ls st p)
  words_beside n ls st p w =
      (let d = depth st in
      let y = at ls st in
      let s = sits_here (d + 1) y in
      let u = y ++ here (d + 1) ++ here (d + 1) in
      let v = sits_here (d + 1) (y ++ here (d + 1)) in (
        refl,
        beside_opened (d + 1) refl (beside_bind (beside_mark (d + 1) s tk.open_bracket) (λ q. beside_bind (beside_expr e (d + 1) u v) (λ a. beside_bind (beside_mark (d + 1) (sits_on (expression_opens (d + 1) a) v) tk.close_bracket) (λ r.
            beside_gives (opens (in_then ls (if_test p q a r) st)) (simp (append_assoc, append-nil) refl))))),
        (
          refl,
          either_beside w ls st p (before_or st),
          (
            refl,
            beside_skip d (at_sits ls st) refl (beside_bind (beside_mark d (sits_on (here d) (at_sits ls st)) tk.open_bracket) (λ q. beside_bind (beside_binds e n d (y ++ here d ++ here d)) (λ bs. beside_bind (beside_mark (after_binds d bs) (binds_sit d (y ++ here d ++ here d) bs) tk.close_bracket) (λ r.
                beside_gives (opens (in_body ls (with_opening p q bs r) st)) (simp (append_assoc, append-nil) refl))))),
            (
              refl,
              beside_opened (d + 1) refl (beside_bind (beside_mark (d + 1) s tk.open_bracket) (λ q. beside_bind (beside_expr e (d + 1) u v) (λ a. beside_bind (beside_mark (d + 1) (sits_on (expression_opens (d + 1) a) v) tk.close_bracket) (λ r.
                  beside_gives (opens (in_body ls (while_opening p q a r) st)) (simp (append_assoc, append-nil) refl))))),
              tt,
            ),
          ),
        ),
      ))

  statement_beside : (n : ℕ) (ls : Labels) (st : Stack) (p : Place) (k : TokenView) → BesideAt p k (at ls st) all (statement_by (limited_parts e) n ls st p k) (statement_by (unlimited_parts e) n ls st p k)
  statement_beside n ls st p (tk.word y) = beside_skip (depth st) (at_sits ls st) refl (beside_next (name_beside n ls st (record { place = p; word = y })))
  statement_beside n ls st p (tk.reserved w) =
      beside_pick w (statement_words (limited_parts e) n ls st p) (statement_words (unlimited_parts e) n ls st p) (ends_simple ls st (pick w (simple_words (limited_parts e) p) refuses)) (ends_simple ls st (pick w (simple_words (unlimited_parts e) p) refuses)) (words_beside n ls st p w)
      (beside_then (beside_pick w (simple_words (limited_parts e) p) (simple_words (unlimited_parts e) p) refuses refuses (beside_words e (depth st) (at ls st) (at_sits ls st) p w) (beside_stays beside_refuses))
      (λ s. beside_gives (on (ended (labelled ls (simple s)) None st)) (simp (append_assoc, append-nil) refl)))
  statement_beside n ls st p (tk.mark tk.open_brace) = beside_opened (depth st + 1) refl (beside_gives (opens (in_block ls p none st)) (simp (append_assoc, append-nil) refl))
  statement_beside n ls st p k = beside_stays beside_refuses

  -- ---- after a statement, with the counts z of it and what stands open around it
  module _ (z : List Open) (n : ℕ) (s : Option Place) (sz : Sits n (x ++ z)) where
    -- at a token where d are open
    abbrev lower : ℕ → List Open
    lower d = x ++ z ++ plain d (maybe_semicolon s)

    pub lower_sits : (d : ℕ) → d ≤ n → Sits d (lower d)
    lower_sits d l = sits_on (plain d (maybe_semicolon s)) (sits_less d l sz)

    else_beside : (p : Place) (w : Word) (o : Option (Labelled × Stack)) → AllCounted z n o → BesideAt p (tk.reserved w) (lower n) all (takes_else s p o) (takes_else s p o)
    else_beside p w (Some (a, in_then ls t st)) c =
        (let d = depth st + 1 in
        lowered_beside (x ++ z) n d c.1 sz s
        (beside_skip d (lower_sits d c.1) refl (beside_gives (opens (in_else ls t a s p st)) (simp (append_assoc, append-nil) refl ∙ ap (λ (y : List Open). x ++ y ++ plain d (maybe_semicolon s) ++ here d) c.0))))
    else_beside p w o c = beside_stays beside_refuses

    or_beside : (p : Place) (w : Word) (o : Option (Labelled × Stack)) → AllCounted z n o → BesideAt p (tk.reserved w) (lower n) all (takes_or s p o) (takes_or s p o)
    or_beside p w (Some (a, in_either t st)) c =
        (let d = depth st + 1 in
        lowered_beside (x ++ z) n d c.1 sz s
        (beside_skip d (lower_sits d c.1) refl (beside_gives (opens (in_either (later_arm t a s p) st)) (simp (append_assoc, append-nil) refl ∙ ap (λ (y : List Open). x ++ y ++ plain d (maybe_semicolon s) ++ here d) c.0))))
    or_beside p w o c = beside_stays beside_refuses

    another_beside : (m : ℕ) (a : Labelled) (st : Stack) (d : ℕ) → d ≤ n → at no_labels st ≡ lower d → (p : Place) (k : TokenView) (b : Bool)
        → BesideAt p k (lower n) all (another_if b (statement_by (limited_parts e) m no_labels st p k)) (another_if b (statement_by (unlimited_parts e) m no_labels st p k))
    another_beside m a st d l i p k true = lowered_beside (x ++ z) n d l sz s (beside_same i (statement_beside m no_labels st p k))
    another_beside m a st d l i p k false = beside_stays beside_refuses

    list_beside : (m : ℕ) (p : Place) (k : TokenView) (o : Option (Labelled × Stack)) → AllCounted z n o → BesideAt p k (lower n) all (list_by (limited_parts e) m s p k o) (list_by (unlimited_parts e) m s p k o)
    list_beside m p (tk.mark tk.close_brace) (Some (a, bottom b)) c =
        lowered_beside (x ++ z) n 0 c.1 sz s
        (beside_stays (beside_gives (done (with_before b (last_statement a s))) (ap (λ (y : List Open). x ++ y) (with_before_opens 0 b (last_statement a s)) ∙ simp append_assoc refl ∙ ap (λ (y : List Open). x ++ y ++ plain 0 (maybe_semicolon s)) c.0)))
    list_beside m p (tk.mark tk.close_brace) (Some (a, in_block ls q b st)) c =
        (let d = depth st + 1 in
        let ss = last_statement a s in
        let opened_there = stack_opens st ++ plain (depth st) (labels ls) ++ here d in
        lowered_beside (x ++ z) n d c.1 sz s
        (beside_skip d (lower_sits d c.1) refl (beside_gives (on (ended (labelled ls (compound q (with_before b ss) p)) None st))
        (simp (append_assoc, append-nil) refl ∙ ap (λ (y : List Open). x ++ (opened_there ++ y) ++ here d) (with_before_opens d b ss) ∙ simp append_assoc refl ∙ ap (λ (y : List Open). x ++ y ++ plain d (maybe_semicolon s) ++ here d) c.0))))
    list_beside m p k (Some (a, bottom b)) c = another_beside m a (bottom (after b a s)) 0 c.1 (simp (append_assoc, append-nil) refl ∙ ap (λ (y : List Open). x ++ y ++ plain 0 (maybe_semicolon s)) c.0) p k (is_divided s a)
    list_beside m p k (Some (a, in_block ls q b st)) c =
        (let d = depth st + 1 in
        another_beside m a (in_block ls q (after b a s) st) d c.1 (simp (append_assoc, append-nil) refl ∙ ap (λ (y : List Open). x ++ y ++ plain d (maybe_semicolon s)) c.0) p k (is_divided s a))
    list_beside m p k o c = beside_stays beside_refuses

  abbrev front : Labelled → Stack → List Open
  front a st = stack_opens st ++ c_labelled (depth st) a

  pub front_sits : (a : Labelled) (st : Stack) → Sits (divider_depth st) (x ++ front a st)
  front_sits a st = sits_less (divider_depth st) (divider_low st) (sits_moved (append_assoc x (stack_opens st) (c_labelled (depth st) a)) (sits_on (c_labelled (depth st) a) (stack_sits x st)))

  ended_beside : (n : ℕ) (a : Labelled) (s : Option Place) (st : Stack) (p : Place) (k : TokenView) → BesideAt p k (x ++ state_opens (ended a s st)) all (ended_by (limited_parts e) n a s st p k) (ended_by (unlimited_parts e) n a s st p k)
  ended_beside n a None st p (tk.mark tk.semicolon) = beside_skip (divider_depth st) (sits_moved (simp (append_assoc, append-nil) refl) (front_sits a st)) refl (beside_gives (on (ended a (Some p) st)) (simp (append_assoc, append-nil) refl))
  ended_beside n a s st p (tk.reserved w) =
      (let z = front a st in
      let d = divider_depth st in
      let f = front_sits a st in
      beside_same (simp append_assoc refl)
      (beside_pick w (closing_words a s st p) (closing_words a s st p) (list_by (limited_parts e) n s p (tk.reserved w) (closed ask_other a st)) (list_by (unlimited_parts e) n s p (tk.reserved w) (closed ask_other a st))
      (refl, else_beside z d s f p w (closed ask_else a st) (closes_counted st ask_else a z d refl (omega arith)), (refl, or_beside z d s f p w (closed ask_or a st) (closes_counted st ask_or a z d refl (omega arith)), tt))
      (list_beside z d s f n p (tk.reserved w) (closed ask_other a st) (closes_counted st ask_other a z d refl (omega arith)))))
  ended_beside n a s st p k = (let z = front a st in let d = divider_depth st in beside_same (simp append_assoc refl) (list_beside z d s (front_sits a st) n p k (closed ask_other a st) (closes_counted st ask_other a z d refl (omega arith))))

  pub step_beside : (n : ℕ) (s : State) → Beside (x ++ state_opens s) all (step (limited_parts e) n s) (step (unlimited_parts e) n s)
  step_beside n (begin ls st) = beside_moved (simp append_assoc refl) (beside_next (statement_beside n ls st))
  step_beside n (ended a s st) = beside_next (ended_beside n a s st)

  pub run_beside : (n : ℕ) (s : State) → Beside (x ++ state_opens s) (λ ss. x ++ c_sequence 0 ss) (run (limited_parts e) n s) (run (unlimited_parts e) n s)
  run_beside zero s = beside_refuses
  run_beside (suc n) s = beside_bind (step_beside n s) (by (run_beside n))
    where
      by : ((s : State) → Beside (x ++ state_opens s) (λ ss. x ++ c_sequence 0 ss) (run (limited_parts e) n s) (run (unlimited_parts e) n s)) → (t : Turn) → Beside (all t) (λ ss. x ++ c_sequence 0 ss) (turned (run (limited_parts e) n) t) (turned (run (unlimited_parts e) n) t)
      by h (on t) = h t
      by h (done ss) = beside_gives ss refl

  pub beside_sequence : (n : ℕ) → Beside x (λ ss. x ++ c_sequence 0 ss) (read_sequence (limited_parts e) n) (read_sequence (unlimited_parts e) n)
  beside_sequence n = beside_moved (simp append-nil refl) (run_beside n (begin no_labels (bottom none)))
