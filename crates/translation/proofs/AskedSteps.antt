-- Where no rule on labels is broken, and no definition is used after a variable that it reads was assigned, each part of a step has what is asked of it.
use Rattle.std.proofs.Common.{◌≡◌, List, [], ◌∷◌, ◌++◌, map, Bool, true, false, ◌||◌, not, bytes_eq, Option, Some, None, option_map, ◌⊎◌, inl, inr, refl, sym, ap, subst, ◌∙◌}
use Rattle.std.proofs.lemmas.Bool.{or_parts}
use Rattle.std.proofs.lemmas.Option.{same_Some}
use Rattle.std.proofs.lemmas.Slice.Eq.{bytes_eq-Decides}
use Rattle.std.specs.List.{list_any, AllByRecursion}
use Rattle.tla_token.specs.declared.place.Place.{Place}
use Rattle.tla_token.specs.Signs.{is_among}
use Rattle.tla_token.proofs.Spelled.{same_bytes}
use Rattle.tla_tree.specs.Tree.{Word, Name, words, Form, Tree, Trees, Every, EveryOf}
use Rattle.tla_tree.specs.laws.Writable.{IsWritable, AreWritable}
use Rattle.tla_value.proofs.Facts.{each_weaker, every_weaker, every_of_weaker}
use Rattle.pcal_tree.specs.Algorithm.{Assignments, no_assignments, assignment, Binds, no_binds, one_of, is, Statement, assign, await, print, assert, skip, branch, either, with, while, goto, macro, call, return, Statements, done, then, mark, Branches, no_branches, or, Procedure}
use Rattle.pcal_tree.specs.BoundNames.{names_of_binds}
use Rattle.pcal_tree.specs.OffencesStale.{used_by_call, jumps_use}
use Rattle.pcal_tree.specs.Paths as path
use Rattle.pcal_tree.specs.Paths.{Effects, Path, root, some_word, roots, joined, after_one, after, after_some, has_assigned, rounds}
use Rattle.pcal_tree.specs.Reads.{named, used, used_by_all, used_by_assignments, used_by_binds, Reading, through}
use Rattle.pcal_tree.specs.Run.{Partner, partner_of}
use Rattle.pcal_tree.specs.Spots.{Spot, after_path, Further, spots_of_one, spots, spots_of_some}
use Rattle.pcal_tree.specs.laws.Expansion.{ThroughoutAssignments, ThroughoutBinds, ThroughoutOne, Throughout, ThroughoutSome}
use Rattle.action_builder.specs.Assigned.{Names, more}
use Rattle.action_builder.specs.Settled.{jumps_one, jumps, jumps_some}
use Rattle.action_builder.specs.laws.Ready.{IsWithin, Apart}
use Rattle.action_builder.specs.laws.Settling.{Stops}
use Rattle.action_builder.proofs.Main.{append_cases, in_front, behind}
use Rattle.translation.specs.laws.FreshReads.{fresh, Plain, ReadsFresh, AllReadFresh, SidesReadFresh, BindsReadFresh, AllFresh, MayReturn, asked}
use Rattle.translation.specs.laws.JumpsEnd.{JumpEnds, JumpsEnd, AllJumpsEnd}
use Rattle.translation.specs.laws.PlacedStatements.{PlacedOne, Placed, AllPlaced}
use Rattle.translation.specs.laws.StepParts.{Asked, AskedOne, AskedIn, AskedSome, goes_on}
use Rattle.translation.specs.laws.StepsOnce.{set_by, set_in, set_in_some, none_set, SetsOnceOne, SetsOnce, SetsOnceSome, JumpsOnceOne, JumpsOnce, JumpsOnceSome}
use Rattle.translation.specs.laws.WritableAlgorithm.{AreWritableAssignments, AreWritableBinds, IsWritableStatement, AreWritableStatements, AreWritableBranches}
use Rattle.translation.proofs.StepsOnce.{In, OnPath, IsReached, Has, apart_of, joined_left, joined_right, joined_reached}
use Rattle.translation.proofs.NamesFree.{AllOf, both_of, BindsOf, names_free, all_free}

-- ---- what a path has after statements that don't jump

-- from a path p to a path q on which those of ws are assigned
record Onward (ws : List Word) (p q : Path) : Type 0 where
  reached : IsReached p → IsReached q
  goes : (x : Word) → OnPath p x → OnPath q x
  assigns : IsReached p → (x : Word) → In ws x → OnPath q x

still_there : (p : Path) → Onward [] p (option_map (λ xs. [] ++ xs) p)
still_there None = record { reached = λ h. h; goes = λ x h. h; assigns = λ h x m. absurd h }
still_there (Some xs) = record { reached = λ h. h; goes = λ x h. h; assigns = λ h x m. absurd (nothing x m) }
  where
    nothing : (x : Word) → In [] x → ⊥
    nothing x m = cc

more_there : (ys : List Word) (p : Path) → Onward ys p (option_map (λ xs. ys ++ xs) p)
more_there ys None = record { reached = λ h. h; goes = λ x h. h; assigns = λ h x m. absurd h }
more_there ys (Some xs) = record { reached = λ h. h; goes = λ x h. behind ys xs x h; assigns = λ h x m. in_front ys xs x m }

then_onward : (ws us : List Word) (p q r : Path) → Onward ws p q → Onward us q r → Onward (ws ++ us) p r
then_onward ws us p q r h k = record {
  reached = λ i. k.reached (h.reached i);
  goes = λ x i. k.goes x (h.goes x i);
  assigns = λ i x m. by i x (append_cases ws us x m);
}
  where
    by : IsReached p → (x : Word) → In ws x ⊎ In us x → OnPath r x
    by i x (inl m) = k.goes x (h.assigns i x m)
    by i x (inr m) = k.assigns (h.reached i) x m

both_onward : (ws us : List Word) (p q r : Path) → Onward ws p q → (IsReached p → (x : Word) → In us x → OnPath r x) → Onward (ws ++ us) p (joined q r)
both_onward ws us p q r h k = record {
  reached = λ i. joined_reached q r (h.reached i);
  goes = λ x i. joined_left q r x (h.goes x i);
  assigns = λ i x m. by i x (append_cases ws us x m);
}
  where
    by : IsReached p → (x : Word) → In ws x ⊎ In us x → OnPath (joined q r) x
    by i x (inl m) = joined_left q r x (h.assigns i x m)
    by i x (inr m) = joined_right q r x (k i x m)

has_onward : (A : Names) (ws : List Word) (p q : Path) → Has A p → Onward ws p q → Has (more A ws) q
has_onward A ws p q h k = (k.reached h.0, λ x m. by x (A x) refl m)
  where
    by : (x : Word) (b : Bool) → A x ≡ b → (b || is_among ws x) ≡ true → OnPath q x
    by x true e m = k.goes x (h.1 x e)
    by x false e m = k.assigns h.0 x m

module _ (C V : Word → Bool) where
  mutual
    one_onward : (st : Statement) → jumps_one st ≡ false → IsWritableStatement C V st → (l : Bool) (p : Path) → Onward (set_by st) p (after_one path.assigned st l p)
    one_onward (assign ms) j w l p = more_there (roots ms) p
    one_onward (branch e a b) j w l p =
        let k = or_parts (jumps a) (jumps b) j in
        both_onward (set_in a) (set_in b) p (after path.assigned a false p) (after path.assigned b false p) (all_onward a k.0 w.1 false p) (all_onward b k.1 w.2 false p).assigns
    one_onward (either no_branches) j w l p = absurd w
    one_onward (either (or b bs)) j w l p =
        let k = or_parts (jumps b) (jumps_some bs) j in
        both_onward (set_in b) (set_in_some bs) p (after path.assigned b false p) (after_some path.assigned bs p) (all_onward b k.0 w.0 false p) (some_onward bs k.1 w.1 p)
    one_onward (with bs b) j w l p = all_onward b j w.1 false p
    one_onward (while e b) j w l p = cc
    one_onward (goto m) j w l p = cc
    one_onward (macro m ts) j w l p = absurd w
    one_onward (call q ts) j w l p = cc
    one_onward return j w l p = cc
    one_onward (await e) j w l p = still_there p
    one_onward (print e) j w l p = still_there p
    one_onward (assert e) j w l p = still_there p
    one_onward skip j w l p = still_there p

    all_onward : (b : Statements) → jumps b ≡ false → AreWritableStatements C V b → (l : Bool) (p : Path) → Onward (set_in b) p (after path.assigned b l p)
    all_onward done j w l p = record { reached = λ h. h; goes = λ x h. h; assigns = λ h x m. absurd (nothing x m) }
      where
        nothing : (x : Word) → In [] x → ⊥
        nothing x m = cc
    all_onward (then at st rest) j w l p =
        let k = or_parts (jumps_one st) (jumps rest) j in
        then_onward (set_by st) (set_in rest) p (after_one path.assigned st l p) (after path.assigned rest false (after_one path.assigned st l p)) (one_onward st k.0 w.0 l p)
        (all_onward rest k.1 w.1 false (after_one path.assigned st l p))
    all_onward (mark m n rest) j w l p = cc

    some_onward : (bs : Branches) → jumps_some bs ≡ false → AreWritableBranches C V bs → (p : Path) → IsReached p → (x : Word) → In (set_in_some bs) x → OnPath (after_some path.assigned bs p) x
    some_onward no_branches j w p h x m = cc
    some_onward (or b bs) j w p h x m =
        let k = or_parts (jumps b) (jumps_some bs) j in
        (both_onward (set_in b) (set_in_some bs) p (after path.assigned b false p) (after_some path.assigned bs p) (all_onward b k.0 w.0 false p) (some_onward bs k.1 w.1 p)).assigns h x m

  -- ---- what is assigned is a variable

  abbrev AreOf : List Word → Type 0
  AreOf xs = (x : Word) → In xs x → V x ≡ true

  both_are : (xs ys : List Word) → AreOf xs → AreOf ys → AreOf (xs ++ ys)
  both_are xs ys h k x m = by (append_cases xs ys x m)
    where
      by : In xs x ⊎ In ys x → V x ≡ true
      by (inl n) = h x n
      by (inr n) = k x n

  none_are : AreOf []
  none_are x m = cc

  pub roots_are : (ms : Assignments) → AreWritableAssignments V ms → AreOf (roots ms)
  roots_are no_assignments w = none_are
  roots_are (assignment l e ms) w = both_are (some_word (root l)) (roots ms) (λ x m. root_is (root l) w.0.1.0 w.0.1.1 w.0.1.2 x m) (roots_are ms w.2)
    where
      root_is : (o : Option Word) (y : Word) → o ≡ Some y → V y ≡ true → (x : Word) → In (some_word o) x → V x ≡ true
      root_is None y e v x m = cc
      root_is (Some z) y e v x m = by (bytes_eq z x) refl m
        where
          by : (b : Bool) → bytes_eq z x ≡ b → (b || false) ≡ true → V x ≡ true
          by true q k = ap V (sym (same_bytes z x q) ∙ same_Some z y e) ∙ v
          by false q k = cc

  mutual
    one_are : (st : Statement) → IsWritableStatement C V st → AreOf (set_by st)
    one_are (assign ms) w = roots_are ms w.0
    one_are (branch e a b) w = both_are (set_in a) (set_in b) (all_are a w.1) (all_are b w.2)
    one_are (either no_branches) w = none_are
    one_are (either (or b bs)) w = both_are (set_in b) (set_in_some bs) (all_are b w.0) (some_are bs w.1)
    one_are (with bs b) w = all_are b w.1
    one_are (while e b) w = none_are
    one_are (goto m) w = none_are
    one_are (macro m ts) w = none_are
    one_are (call q ts) w = none_are
    one_are return w = none_are
    one_are (await e) w = none_are
    one_are (print e) w = none_are
    one_are (assert e) w = none_are
    one_are skip w = none_are

    all_are : (b : Statements) → AreWritableStatements C V b → AreOf (set_in b)
    all_are done w = none_are
    all_are (then at st rest) w = both_are (set_by st) (set_in rest) (one_are st w.0) (all_are rest w.1)
    all_are (mark m n rest) w = none_are

    some_are : (bs : Branches) → AreWritableBranches C V bs → AreOf (set_in_some bs)
    some_are no_branches w = none_are
    some_are (or b bs) w = both_are (set_in b) (set_in_some bs) (all_are b w.0) (some_are bs w.1)

  within_more : (A : Names) (xs : List Word) → IsWithin A V → AreOf xs → IsWithin (more A xs) V
  within_more A xs h k x m = by (A x) refl m
    where
      by : (b : Bool) → A x ≡ b → (b || is_among xs x) ≡ true → V x ≡ true
      by true e n = h x e
      by false e n = k x n

-- ---- names that are used

pub two_fine : (Q : Spot → Type 0) (xs ys : List Spot) → AllByRecursion Q (xs ++ ys) → AllByRecursion Q xs × AllByRecursion Q ys
two_fine Q [] ys h = (tt, h)
two_fine Q (x ∷ xs) ys h = (let k = two_fine Q xs ys h.1 in ((h.0, k.0), k.1))

module _ (ds : List Reading) where
  -- no path to it has assigned what it reads as a definition
  abbrev pub IsFine : Spot → Type 0
  IsFine s = has_assigned s.path (through ds s.name.word) ≡ false

  abbrev pub AreFine : List Spot → Type 0
  AreFine ss = AllByRecursion IsFine ss

  -- none of them is a definition that reads a variable
  abbrev pub Unread : List Word → Type 0
  Unread xs = (x : Word) → In xs x → through ds x ≡ []

  abbrev Fresh : Names → Word → Type 0
  Fresh A x = fresh ds A x ≡ true

  none_of : (A : Names) (ys : List Word) → Apart A ys → not (list_any A ys) ≡ true
  none_of A [] h = refl
  none_of A (y ∷ ys) h = by (A y) (h y (here y ys)) (none_of A ys (λ x m. h x (later (bytes_eq y x) (is_among ys x) m)))
    where
      here : (y : Word) (ys : List Word) → In (y ∷ ys) y
      here y ys = (λ i. itself y i || is_among ys y)
        where
          itself : (z : Word) → bytes_eq z z ≡ true
          itself z = (bytes_eq-Decides z z).1 refl

      later : (b c : Bool) → c ≡ true → (b || c) ≡ true
      later true c e = refl
      later false c e = e

      by : (b : Bool) → b ≡ false → not (list_any A ys) ≡ true → not (b || list_any A ys) ≡ true
      by true e k = cc
      by false e k = k

  unread_fresh : (A : Names) (x : Word) → through ds x ≡ [] → Fresh A x
  unread_fresh A x e = ap (λ (ys : List Word). not (list_any A ys)) e

  path_fresh : (A : Names) (p : Path) (ns : List Name) → Has A p → AreFine (after_path p ns) → AllOf (Fresh A) ns
  path_fresh A p [] h k = tt
  path_fresh A p (n ∷ ns) h k = (none_of A (through ds n.word) (apart_of A p (through ds n.word) h k.0), path_fresh A p ns h k.1)

  -- ---- expressions

  module _ (N : Word → Type 0) (unread : (x : Word) → N x → through ds x ≡ []) where
    binds_fresh : (A : Names) (m : Form) (at : Place) → Plain N m at → BindsOf (Fresh A) m at
    binds_fresh A m at h = each_weaker N (Fresh A) (λ x n. unread_fresh A x (unread x n)) _ h.0

    known_fresh : (A : Names) (xs : List Word) → Unread xs → (x : Word) → In xs x → Fresh A x
    known_fresh A xs u x m = unread_fresh A x (u x m)

    pub tree_fresh : (A : Names) (xs : List Word) → Unread xs → (e : Tree) → IsWritable e → Every (Plain N) e → AllOf (Fresh A) (used e xs) → ReadsFresh ds N A e
    tree_fresh A xs u e w t h = record {
      free = names_free (Fresh A) e xs w (every_weaker (Plain N) (BindsOf (Fresh A)) (binds_fresh A) e t) (known_fresh A xs u) h;
      plain = t;
    }

    trees_fresh : (A : Names) (xs : List Word) → Unread xs → (ts : Trees) → AreWritable ts → EveryOf (Plain N) ts → AllOf (Fresh A) (used_by_all ts xs) → AllReadFresh ds N A ts
    trees_fresh A xs u ts w t h = record {
      free = all_free (Fresh A) ts xs w (every_of_weaker (Plain N) (BindsOf (Fresh A)) (binds_fresh A) ts t) (known_fresh A xs u) h;
      plain = t;
    }

    sides_fresh : (V : Word → Bool) (A : Names) (xs : List Word) → Unread xs → (ms : Assignments) → AreWritableAssignments V ms → ThroughoutAssignments (Plain N) ms → AllOf (Fresh A) (used_by_assignments ms xs) → SidesReadFresh ds N A ms
    sides_fresh V A xs u no_assignments w t h = tt
    sides_fresh V A xs u (assignment l e ms) w t h =
        let k = both_of (Fresh A) (used l xs) _ h in
        let i = both_of (Fresh A) (used e xs) (used_by_assignments ms xs) k.1 in
        (tree_fresh A xs u l w.0.0 t.0 k.0, tree_fresh A xs u e w.1 t.1 i.0, sides_fresh V A xs u ms w.2 t.2 i.1)

    unread_more : (x : Word) (xs : List Word) → N x → Unread xs → Unread (x ∷ xs)
    unread_more x xs n u y m = by (bytes_eq x y) refl m
      where
        by : (b : Bool) → bytes_eq x y ≡ b → (b || is_among xs y) ≡ true → through ds y ≡ []
        by true e k = ap (through ds) (sym (same_bytes x y e)) ∙ unread x n
        by false e k = u y k

    names_fresh : (A : Names) (xs : List Word) → Unread xs → (bs : Binds) → AreWritableBinds bs → ThroughoutBinds (Plain N) N bs → AllOf (Fresh A) (used_by_binds bs xs) → BindsReadFresh ds N A bs
    names_fresh A xs u no_binds w t h = tt
    names_fresh A xs u (one_of x e bs) w t h =
        let k = both_of (Fresh A) (used e xs) (used_by_binds bs (x.word ∷ xs)) h in
        (tree_fresh A xs u e w.1 t.0 k.0, t.1, names_fresh A (x.word ∷ xs) (unread_more x.word xs t.1 u) bs w.2 t.2 k.1)
    names_fresh A xs u (is x e bs) w t h =
        let k = both_of (Fresh A) (used e xs) (used_by_binds bs (x.word ∷ xs)) h in
        (tree_fresh A xs u e w.1 t.0 k.0, t.1, names_fresh A (x.word ∷ xs) (unread_more x.word xs t.1 u) bs w.2 t.2 k.1)

    bound_unread : (xs : List Word) → Unread xs → (bs : Binds) → ThroughoutBinds (Plain N) N bs → Unread (words (names_of_binds bs) ++ xs)
    bound_unread xs u no_binds t = u
    bound_unread xs u (one_of x e bs) t = unread_more x.word (words (names_of_binds bs) ++ xs) t.1 (bound_unread xs u bs t.2)
    bound_unread xs u (is x e bs) t = unread_more x.word (words (names_of_binds bs) ++ xs) t.1 (bound_unread xs u bs t.2)

  all_named : (A : Names) (at : Place) (ns : List Name) → AllOf (Fresh A) (map (λ n. named n.word at) ns) → AllFresh ds A ns
  all_named A at [] h = tt
  all_named A at (n ∷ ns) h = (h.0, all_named A at ns h.1)

-- ---- statements

no_label : (A : Names) → false ≡ true → (x : Word) → A x ≡ false
no_label A e = cc

-- after a label a loop is as it is after any number of rounds
round_is : (e : Tree) (b : Statements) (l : Bool) (p : Path) → l ≡ true → after_one path.assigned (while e b) l p ≡ p
round_is e b true p h = refl
round_is e b false p h = cc

partner_may : (r w l : Bool) (rest : Statements) → Placed r w l rest → MayReturn r (partner_of rest)
partner_may r w l done h = tt
partner_may r w l (mark m k rest) h = tt
partner_may r w l (then at return rest) h = h.0
partner_may r w l (then at (goto m) rest) h = tt
partner_may r w l (then at (assign ms) rest) h = tt
partner_may r w l (then at (await e) rest) h = tt
partner_may r w l (then at (print e) rest) h = tt
partner_may r w l (then at (assert e) rest) h = tt
partner_may r w l (then at skip rest) h = tt
partner_may r w l (then at (branch e a b) rest) h = tt
partner_may r w l (then at (either bs) rest) h = tt
partner_may r w l (then at (with bs b) rest) h = tt
partner_may r w l (then at (while e b) rest) h = tt
partner_may r w l (then at (macro m ts) rest) h = tt
partner_may r w l (then at (call m ts) rest) h = tt

module _ (ds : List Reading) (ps : List Procedure) (C V : Word → Bool) (N : Word → Type 0) (E : Effects) (r : Bool) (unread : (x : Word) → N x → through ds x ≡ []) where
  abbrev R : Asked
  R = asked ds ps C V N E r

  abbrev U : Further
  U = jumps_use ps

  stops_asked : (A : Names) (b : Statements) → IsWithin A V → Stops b → AskedIn R A b
  stops_asked A done h s = h
  stops_asked A (then at st rest) h s = absurd s
  stops_asked A (mark m k rest) h s = h

  follows : (w l : Bool) (A : Names) (p : Path) (st : Statement) (rest : Statements) → goes_on st ≡ true → Has A p → IsWithin A V → PlacedOne r w l st → JumpEnds st rest → IsWritableStatement C V st
      → (Has (more A (set_by st)) (after_one path.assigned st l p) → AskedIn R (more A (set_by st)) rest) → AskedIn R (more A (set_by st)) rest
  follows w l A p st rest g h v q e i f = by st g q e i (λ j. f (has_onward A (set_by st) p (after_one path.assigned st l p) h (one_onward C V st j i l p))) f
    where
      within : (st : Statement) → IsWritableStatement C V st → IsWithin (more A (set_by st)) V
      within st i = within_more C V A (set_by st) v (one_are C V st i)

      by : (st : Statement) → goes_on st ≡ true → PlacedOne r w l st → JumpEnds st rest → IsWritableStatement C V st → (jumps_one st ≡ false → AskedIn R (more A (set_by st)) rest)
          → (Has (more A (set_by st)) (after_one path.assigned st l p) → AskedIn R (more A (set_by st)) rest) → AskedIn R (more A (set_by st)) rest
      by (branch e a b) g q k i f o = split (jumps a || jumps b) refl
        where
          split : (c : Bool) → (jumps a || jumps b) ≡ c → AskedIn R (more A (set_by (branch e a b))) rest
          split true z = stops_asked (more A (set_by (branch e a b))) rest (within (branch e a b) i) (k.2 z)
          split false z = f z
      by (either bs) g q k i f o = split (jumps_some bs) refl
        where
          split : (c : Bool) → jumps_some bs ≡ c → AskedIn R (more A (set_by (either bs))) rest
          split true z = stops_asked (more A (set_by (either bs))) rest (within (either bs) i) (k.1 z)
          split false z = f z
      by (with bs b) g q k i f o = split (jumps b) refl
        where
          split : (c : Bool) → jumps b ≡ c → AskedIn R (more A (set_by (with bs b))) rest
          split true z = stops_asked (more A (set_by (with bs b))) rest (within (with bs b) i) (k.1 z)
          split false z = f z
      by (while e b) g q k i f o = o (subst (Has (more A [])) (sym (round_is e b l p q.0)) (h.0, λ x m. h.1 x (or_none (A x) m)))
        where
          or_none : (c : Bool) → (c || false) ≡ true → c ≡ true
          or_none true e = refl
          or_none false e = e
      by (goto m) g q k i f o = cc
      by (macro m ts) g q k i f o = absurd i
      by (call m ts) g q k i f o = cc
      by return g q k i f o = cc
      by (assign ms) g q k i f o = f refl
      by (await e) g q k i f o = f refl
      by (print e) g q k i f o = f refl
      by (assert e) g q k i f o = f refl
      by skip g q k i f o = f refl

  mutual
    one_asked : (w l : Bool) (A : Names) (p : Path) (xs : List Word) (at : Place) (st : Statement) (j : Partner) (rest : Statements) → Has A p → IsWithin A V → (l ≡ true → (x : Word) → A x ≡ false) → Unread ds xs
        → SetsOnceOne A st → JumpsOnceOne E A st j → MayReturn r j → PlacedOne r w l st → JumpEnds st rest → IsWritableStatement C V st → ThroughoutOne (Plain N) N st → AreFine ds (spots_of_one U l p at st xs) → AskedOne R A st j
    one_asked w l A p xs at (assign ms) j rest h v n u s k mr q e i t f =
        (v, s, i.0, sides_fresh ds N unread V A xs u ms i.0 t (path_fresh ds A p (used_by_assignments ms xs) h f))
    one_asked w l A p xs at (await a) j rest h v n u s k mr q e i t f = (v, tree_fresh ds N unread A xs u a i t (path_fresh ds A p (used a xs) h f))
    one_asked w l A p xs at (print a) j rest h v n u s k mr q e i t f = (v, tree_fresh ds N unread A xs u a i t (path_fresh ds A p (used a xs) h f))
    one_asked w l A p xs at (assert a) j rest h v n u s k mr q e i t f = (v, tree_fresh ds N unread A xs u a i t (path_fresh ds A p (used a xs) h f))
    one_asked w l A p xs at skip j rest h v n u s k mr q e i t f = tt
    one_asked w l A p xs at (branch a b c) j rest h v n u s k mr q e i t f =
        let x = two_fine (IsFine ds) (after_path p (used a xs)) _ f in
        let y = two_fine (IsFine ds) (spots U false p b xs) (spots U false p c xs) x.1 in (
          (v, tree_fresh ds N unread A xs u a i.0 t.0 (path_fresh ds A p (used a xs) h x.0)),
          list_asked w false A p xs b h v (no_label A) u s.0 k.0 q.0 e.0 i.1 t.1 y.0,
          list_asked w false A p xs c h v (no_label A) u s.1 k.1 q.1 e.1 i.2 t.2 y.1,
        )
    one_asked w l A p xs at (either no_branches) j rest h v n u s k mr q e i t f = tt
    one_asked w l A p xs at (either (or b bs)) j rest h v n u s k mr q e i t f =
        let y = two_fine (IsFine ds) (spots U false p b xs) (spots_of_some U p bs xs) f in
        (list_asked w false A p xs b h v (no_label A) u s.0 k.0 q.0 e.0.0 i.0 t.0 y.0, some_asked w A p xs bs h v u s.1 k.1 q.1 e.0.1 i.1 t.1 y.1)
    one_asked w l A p xs at (with bs b) j rest h v n u s k mr q e i t f =
        let y = two_fine (IsFine ds) (after_path p (used_by_binds bs xs)) (spots U false p b (words (names_of_binds bs) ++ xs)) f in (
          (v, names_fresh ds N unread A xs u bs i.0 t.0 (path_fresh ds A p (used_by_binds bs xs) h y.0)),
          list_asked true false A p (words (names_of_binds bs) ++ xs) b h v (no_label A) (bound_unread ds N unread xs u bs t.0) s k q e.0 i.1 t.1 y.1,
        )
    one_asked w l A p xs at (while a b) j rest h v n u s k mr q e i t f =
        let o = after_one path.assigned (while a b) l p in
        let y = two_fine (IsFine ds) (after_path o (used a xs)) (spots U false o b xs) f in
        let g = subst (Has A) (sym (round_is a b l p q.0)) h in
        let z : none_set ≡ A = (λ d x. sym (n q.0 x) d) in (
          (v, tree_fresh ds N unread A xs u a i.0 t.0 (path_fresh ds A o (used a xs) g y.0)),
          list_asked w false A o xs b g v (no_label A) u (subst (λ (B : Names). SetsOnce B b) z s) (subst (λ (B : Names). JumpsOnce E B b) z k) q.1 e i.1 t.1 y.1,
        )
    one_asked w l A p xs at (goto m) j rest h v n u s k mr q e i t f = v
    one_asked w l A p xs at (macro m ts) j rest h v n u s k mr q e i t f = absurd i
    one_asked w l A p xs at (call m ts) j rest h v n u s k mr q e i t f =
        let y = both_of (Fresh ds A) (used_by_all ts xs) (U at (call m ts)) (path_fresh ds A p (used_by_all ts xs ++ U at (call m ts)) h f) in
        (v, trees_fresh ds N unread A xs u ts i.1 t y.0, i.0, k, all_named ds A at (used_by_call ps m) y.1.1, mr)
    one_asked w l A p xs at return j rest h v n u s k mr q e i t f = (v, q, k)

    pub list_asked : (w l : Bool) (A : Names) (p : Path) (xs : List Word) (b : Statements) → Has A p → IsWithin A V → (l ≡ true → (x : Word) → A x ≡ false) → Unread ds xs
        → SetsOnce A b → JumpsOnce E A b → Placed r w l b → JumpsEnd b → AreWritableStatements C V b → Throughout (Plain N) N b → AreFine ds (spots U l p b xs) → AskedIn R A b
    list_asked w l A p xs done h v n u s k q e i t f = v
    list_asked w l A p xs (mark m a rest) h v n u s k q e i t f = v
    list_asked w l A p xs (then at st rest) h v n u s k q e i t f =
        let y = two_fine (IsFine ds) (spots_of_one U l p at.first st xs) (spots U false (after_one path.assigned st l p) rest xs) f in (
          one_asked w l A p xs at.first st (partner_of rest) rest h v n u s.0 k.0 (partner_may r w false rest q.1) q.0 e.0 i.0 t.0 y.0,
          λ g. follows w l A p st rest g h v q.0 e.0 i.0 (λ o. list_asked w false (more A (set_by st)) (after_one path.assigned st l p) xs rest o (within_more C V A (set_by st) v (one_are C V st i.0)) (no_label (more A (set_by st))) u
              s.1 k.1 q.1 e.1 i.1 t.1 y.1),
        )

    some_asked : (w : Bool) (A : Names) (p : Path) (xs : List Word) (bs : Branches) → Has A p → IsWithin A V → Unread ds xs
        → SetsOnceSome A bs → JumpsOnceSome E A bs → AllPlaced r w bs → AllJumpsEnd bs → AreWritableBranches C V bs → ThroughoutSome (Plain N) N bs → AreFine ds (spots_of_some U p bs xs) → AskedSome R A bs
    some_asked w A p xs no_branches h v u s k q e i t f = tt
    some_asked w A p xs (or b bs) h v u s k q e i t f =
        let y = two_fine (IsFine ds) (spots U false p b xs) (spots_of_some U p bs xs) f in
        (list_asked w false A p xs b h v (no_label A) u s.0 k.0 q.0 e.0 i.0 t.0 y.0, some_asked w A p xs bs h v u s.1 k.1 q.1 e.1 i.1 t.1 y.1)
