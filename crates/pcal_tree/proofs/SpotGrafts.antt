-- What is seen in a body with arguments put in is what is seen in the body, with the arguments put in.
use Rattle.std.proofs.Common.{◌≡◌, List, [], ◌∷◌, ◌++◌, Bool, true, false, cond, Option, Some, None, refl, sym, ◌∙◌, ap, map}
use Rattle.std.specs.List.{flat_map}
use Rattle.std.proofs.lemmas.Grind.{flat_map-append}
use Rattle.std.proofs.lemmas.List.{append-nil, map-append}
use Rattle.tla_token.specs.declared.place.Place.{Place}
use Rattle.tla_tree.specs.Tree.{Word, name, operator_call, Tree, node, Trees, no_trees, tree, grafted_name, graft, grafts}
use Rattle.pcal_tree.specs.Algorithm.{nowhere, Name, Assignments, no_assignments, assignment, Binds, no_binds, one_of, is, Statement, assign, await, print, assert, skip, branch, either, with, while, goto, macro, call, return, Statements, done, then, mark, Branches, no_branches, or, Procedure}
use Rattle.pcal_tree.specs.Run.{arguments}
use Rattle.pcal_tree.specs.Expand.{placed_at, graft_left, graft_assignments, graft_binds, graft_one, graft_all, graft_some}
use Rattle.pcal_tree.specs.OffencesStale.{jumps_use}
use Rattle.pcal_tree.specs.Paths.{root, roots, some_word, again, rounds}
use Rattle.pcal_tree.specs.Reads.{named}
use Rattle.pcal_tree.specs.laws.MacroSummaries.{argument, variable_of}
use Rattle.pcal_tree.specs.laws.MacroSpots.{Use, value, left, other, uses, uses_of_all, left_uses, uses_of_assignments, uses_of_binds, Origin, assigned, Trail, At, unlabelled, at_label, inside, Seen, on_trail, CallSeen, joined, assigning, one_end, end_of, end_of_some, one_seen, seen_in, seen_in_some, Put, put_origin, put_trail, put_use, put_seen, put_at}
use Rattle.pcal_tree.proofs.ExpandRuns.{same_argument}
use Rattle.pcal_tree.proofs.TargetLaws.{root_after, root_left}

-- where there are no macros a call uses its arguments
abbrev pub no_calls : CallSeen
no_calls m ts s = record { seen = on_trail s.trail (uses_of_all ts); end = inside s }

abbrev pub putting : List Name → Trees → List Origin → Put
putting ps ts os = record { before = os; arguments = argument ps ts }

-- ---- expressions

mutual
  uses_graft : (ps : List Name) (ts : Trees) (os : List Origin) (t : Tree) → uses (graft (arguments ps ts) t) ≡ flat_map (put_use (putting ps ts os)) (uses t)
  uses_graft ps ts os (node (name x) at us) =
      ap (λ (o : Option Tree). uses (grafted_name o (name x) at (grafts (arguments ps ts) us))) (same_argument ps ts x at nowhere) ∙ by (argument ps ts x)
    where
      by : (o : Option Tree) → uses (grafted_name o (name x) at (grafts (arguments ps ts) us))
          ≡ flat_map (put_use (record { before = os; arguments = λ y. o })) (value (named x at) ∷ [])
      by (Some t) = sym (append-nil (uses t))
      by None = refl
  uses_graft ps ts os (node (operator_call f) at us) = ap (λ (vs : List Use). other (named f at) ∷ vs) (all_graft ps ts os us)
  uses_graft ps ts os (node m at us) = all_graft ps ts os us

  all_graft : (ps : List Name) (ts : Trees) (os : List Origin) (us : Trees)
      → uses_of_all (grafts (arguments ps ts) us) ≡ flat_map (put_use (putting ps ts os)) (uses_of_all us)
  all_graft ps ts os no_trees = refl
  all_graft ps ts os (tree t us) =
      (λ i. uses_graft ps ts os t i ++ all_graft ps ts os us i) ∙ sym (flat_map-append (put_use (putting ps ts os)) (uses t) (uses_of_all us))

left_graft : (ps : List Name) (ts : Trees) (os : List Origin) (l : Tree) → left_uses (graft_left (arguments ps ts) l) ≡ flat_map (put_use (putting ps ts os)) (left_uses l)
left_graft ps ts os (node (name x) at us) =
    ap (λ (o : Option Tree). left_uses (placed_at at (grafted_name o (name x) at (grafts (arguments ps ts) us)))) (same_argument ps ts x at nowhere) ∙ by (argument ps ts x)
  where
    by : (o : Option Tree) → left_uses (placed_at at (grafted_name o (name x) at (grafts (arguments ps ts) us)))
        ≡ flat_map (put_use (record { before = os; arguments = λ y. o })) (left (named x at) ∷ [])
    by (Some t) = sym (append-nil (left_uses (placed_at at t)))
    by None = refl
left_graft ps ts os (node (operator_call f) at us) = ap (λ (vs : List Use). other (named f at) ∷ vs) (all_graft ps ts os us)
left_graft ps ts os (node m at us) = all_graft ps ts os us

assignments_graft : (ps : List Name) (ts : Trees) (os : List Origin) (ms : Assignments)
    → uses_of_assignments (graft_assignments (arguments ps ts) ms) ≡ flat_map (put_use (putting ps ts os)) (uses_of_assignments ms)
assignments_graft ps ts os no_assignments = refl
assignments_graft ps ts os (assignment l e ms) =
    let P = put_use (putting ps ts os) in
    (λ i. left_graft ps ts os l i ++ (uses_graft ps ts os e i ++ assignments_graft ps ts os ms i))
    ∙ ap (λ (vs : List Use). flat_map P (left_uses l) ++ vs) (sym (flat_map-append P (uses e) (uses_of_assignments ms)))
    ∙ sym (flat_map-append P (left_uses l) (uses e ++ uses_of_assignments ms))

binds_graft : (ps : List Name) (ts : Trees) (os : List Origin) (bs : Binds) → uses_of_binds (graft_binds (arguments ps ts) bs) ≡ flat_map (put_use (putting ps ts os)) (uses_of_binds bs)
binds_graft ps ts os no_binds = refl
binds_graft ps ts os (one_of x e bs) =
    (λ i. uses_graft ps ts os e i ++ binds_graft ps ts os bs i) ∙ sym (flat_map-append (put_use (putting ps ts os)) (uses e) (uses_of_binds bs))
binds_graft ps ts os (is x e bs) =
    (λ i. uses_graft ps ts os e i ++ binds_graft ps ts os bs i) ∙ sym (flat_map-append (put_use (putting ps ts os)) (uses e) (uses_of_binds bs))

-- ---- paths

roots_put : (ps : List Name) (ts : Trees) (os : List Origin) (ms : Assignments)
    → map assigned (roots (graft_assignments (arguments ps ts) ms)) ≡ flat_map (put_origin (putting ps ts os)) (map assigned (roots ms))
roots_put ps ts os no_assignments = refl
roots_put ps ts os (assignment l e ms) =
    map-append assigned (some_word (root (graft_left (arguments ps ts) l))) (roots (graft_assignments (arguments ps ts) ms))
    ∙ (λ i. map assigned (some_word (root_left ps ts l i)) ++ roots_put ps ts os ms i)
    ∙ ap (λ (xs : List Origin). xs ++ flat_map P (map assigned (roots ms))) (one (root l))
    ∙ sym (flat_map-append P (map assigned (some_word (root l))) (map assigned (roots ms)))
    ∙ ap (flat_map P) (sym (map-append assigned (some_word (root l)) (roots ms)))
  where
    P : Origin → List Origin
    P = put_origin (putting ps ts os)

    one : (o : Option Word) → map assigned (some_word (root_after (argument ps ts) o)) ≡ flat_map P (map assigned (some_word o))
    one None = refl
    one (Some x) = sym (append-nil (map assigned (some_word (variable_of (argument ps ts x) x))))

joined_put : (P : Put) (q r : Trail) → joined (put_trail P q) (put_trail P r) ≡ put_trail P (joined q r)
joined_put P None r = refl
joined_put P (Some xs) None = refl
joined_put P (Some xs) (Some ys) = ap (λ (os : List Origin). Some os) (sym (flat_map-append (put_origin P) xs ys))

again_put : (P : Put) (f g : Trail → Trail) → ((q : Trail) → f (put_trail P q) ≡ put_trail P (g q)) → (q : Trail) → again f (put_trail P q) ≡ put_trail P (again g q)
again_put P f g h None = refl
again_put P f g h (Some os) = h (Some os)

rounds_put : (P : Put) (f g : Trail → Trail) → ((q : Trail) → f (put_trail P q) ≡ put_trail P (g q)) → (q : Trail)
    → rounds joined f (put_trail P q) ≡ put_trail P (rounds joined g q)
rounds_put P f g h None = ap (again f) (h None) ∙ again_put P f g h (g None)
rounds_put P f g h (Some os) = ap (λ (r : Trail). joined r (put_trail P (Some os))) (h (Some os)) ∙ joined_put P (g (Some os)) (Some os)

cond_put : (P : Put) (l : Bool) (q r : Trail) → cond l (put_trail P q) (put_trail P r) ≡ put_trail P (cond l q r)
cond_put P true q r = refl
cond_put P false q r = refl

assigning_put : (ps : List Name) (ts : Trees) (os : List Origin) (ms : Assignments) (q : Trail)
    → assigning (graft_assignments (arguments ps ts) ms) (put_trail (putting ps ts os) q) ≡ put_trail (putting ps ts os) (assigning ms q)
assigning_put ps ts os ms None = refl
assigning_put ps ts os ms (Some xs) =
    let P = put_origin (putting ps ts os) in
    ap (λ (ys : List Origin). Some ys)
    (ap (λ (ys : List Origin). ys ++ flat_map P xs) (roots_put ps ts os ms) ∙ sym (flat_map-append P (map assigned (roots ms)) xs))

mutual
  pub one_end_graft : (ps : List Name) (ts : Trees) (os : List Origin) (st : Statement) (s : At)
      → one_end no_calls (graft_one (arguments ps ts) st) (put_at (putting ps ts os) s) ≡ put_at (putting ps ts os) (one_end no_calls st s)
  one_end_graft ps ts os (assign ms) s = ap unlabelled (assigning_put ps ts os ms s.trail)
  one_end_graft ps ts os (await e) s = refl
  one_end_graft ps ts os (print e) s = refl
  one_end_graft ps ts os (assert e) s = refl
  one_end_graft ps ts os skip s = refl
  one_end_graft ps ts os (branch e a b) s =
      (λ i. unlabelled (joined (end_graft ps ts os a (inside s) i).trail (end_graft ps ts os b (inside s) i).trail))
      ∙ ap unlabelled (joined_put (putting ps ts os) (end_of no_calls a (inside s)).trail (end_of no_calls b (inside s)).trail)
  one_end_graft ps ts os (either bs) s = ap unlabelled (end_some_graft ps ts os bs s)
  one_end_graft ps ts os (with bs b) s = ap inside (end_graft ps ts os b (inside s))
  one_end_graft ps ts os (while e b) s =
      let P = putting ps ts os in
      let F = λ (q : Trail). (end_of no_calls (graft_all (arguments ps ts) b) (unlabelled q)).trail in
      let G = λ (q : Trail). (end_of no_calls b (unlabelled q)).trail in
      ap (λ (r : Trail). unlabelled (cond s.labelled (put_trail P s.trail) r)) (rounds_put P F G (λ q i. (end_graft ps ts os b (unlabelled q) i).trail) s.trail)
      ∙ ap unlabelled (cond_put P s.labelled s.trail (rounds joined G s.trail))
  one_end_graft ps ts os (goto l) s = refl
  one_end_graft ps ts os (macro m us) s = refl
  one_end_graft ps ts os (call q us) s = refl
  one_end_graft ps ts os return s = refl

  pub end_graft : (ps : List Name) (ts : Trees) (os : List Origin) (b : Statements) (s : At)
      → end_of no_calls (graft_all (arguments ps ts) b) (put_at (putting ps ts os) s) ≡ put_at (putting ps ts os) (end_of no_calls b s)
  end_graft ps ts os done s = refl
  end_graft ps ts os (then at st rest) s =
      ap (end_of no_calls (graft_all (arguments ps ts) rest)) (one_end_graft ps ts os st s) ∙ end_graft ps ts os rest (one_end no_calls st s)
  end_graft ps ts os (mark l k rest) s = end_graft ps ts os rest at_label

  end_some_graft : (ps : List Name) (ts : Trees) (os : List Origin) (bs : Branches) (s : At)
      → end_of_some no_calls (graft_some (arguments ps ts) bs) (put_at (putting ps ts os) s) ≡ put_trail (putting ps ts os) (end_of_some no_calls bs s)
  end_some_graft ps ts os no_branches s = refl
  end_some_graft ps ts os (or b bs) s =
      (λ i. joined (end_graft ps ts os b (inside s) i).trail (end_some_graft ps ts os bs s i))
      ∙ joined_put (putting ps ts os) (end_of no_calls b (inside s)).trail (end_of_some no_calls bs s)

-- ---- what is seen

on_put : (P : Put) (q : Trail) (us : List Use) → on_trail (put_trail P q) (flat_map (put_use P) us) ≡ flat_map (put_seen P) (on_trail q us)
on_put P q [] = refl
on_put P q (u ∷ us) =
    map-append (λ v. record { use_of = v; trail = put_trail P q }) (put_use P u) (flat_map (put_use P) us)
    ∙ ap (λ (ss : List Seen). put_seen P (record { use_of = u; trail = q }) ++ ss) (on_put P q us)

seen_by : (P : Put) (q : Trail) (us vs : List Use) → vs ≡ flat_map (put_use P) us → on_trail (put_trail P q) vs ≡ flat_map (put_seen P) (on_trail q us)
seen_by P q us vs e = ap (on_trail (put_trail P q)) e ∙ on_put P q us

others_put : (P : Put) (ns : List Name) → map other ns ≡ flat_map (put_use P) (map other ns)
others_put P [] = refl
others_put P (n ∷ ns) = ap (λ (us : List Use). other n ∷ us) (others_put P ns)

seen_both : (P : Put) (xs ys us vs : List Seen) → xs ≡ flat_map (put_seen P) us → ys ≡ flat_map (put_seen P) vs → (xs ++ ys) ≡ flat_map (put_seen P) (us ++ vs)
seen_both P xs ys us vs e f = (λ i. e i ++ f i) ∙ sym (flat_map-append (put_seen P) us vs)

mutual
  one_seen_graft : (ps : List Name) (ts : Trees) (os : List Origin) (qs : List Procedure) (at : Place) (st : Statement) (s : At)
      → one_seen no_calls qs at (graft_one (arguments ps ts) st) (put_at (putting ps ts os) s) ≡ flat_map (put_seen (putting ps ts os)) (one_seen no_calls qs at st s)
  one_seen_graft ps ts os qs at (assign ms) s =
      seen_by (putting ps ts os) s.trail (uses_of_assignments ms) (uses_of_assignments (graft_assignments (arguments ps ts) ms)) (assignments_graft ps ts os ms)
  one_seen_graft ps ts os qs at (await e) s = seen_by (putting ps ts os) s.trail (uses e) (uses (graft (arguments ps ts) e)) (uses_graft ps ts os e)
  one_seen_graft ps ts os qs at (print e) s = seen_by (putting ps ts os) s.trail (uses e) (uses (graft (arguments ps ts) e)) (uses_graft ps ts os e)
  one_seen_graft ps ts os qs at (assert e) s = seen_by (putting ps ts os) s.trail (uses e) (uses (graft (arguments ps ts) e)) (uses_graft ps ts os e)
  one_seen_graft ps ts os qs at skip s = refl
  one_seen_graft ps ts os qs at (branch e a b) s =
      let g = arguments ps ts in
      let P = putting ps ts os in
      let A = seen_in no_calls qs (graft_all g a) (put_at P (inside s)) in
      let B = seen_in no_calls qs (graft_all g b) (put_at P (inside s)) in
      let C = seen_in no_calls qs a (inside s) in
      let D = seen_in no_calls qs b (inside s) in
      seen_both P (on_trail (put_trail P s.trail) (uses (graft g e))) (A ++ B) (on_trail s.trail (uses e)) (C ++ D)
      (seen_by P s.trail (uses e) (uses (graft g e)) (uses_graft ps ts os e))
      (seen_both P A B C D (seen_graft ps ts os qs a (inside s)) (seen_graft ps ts os qs b (inside s)))
  one_seen_graft ps ts os qs at (either bs) s = seen_some_graft ps ts os qs bs s
  one_seen_graft ps ts os qs at (with bs b) s =
      let g = arguments ps ts in
      let P = putting ps ts os in
      seen_both P (on_trail (put_trail P s.trail) (uses_of_binds (graft_binds g bs))) (seen_in no_calls qs (graft_all g b) (put_at P (inside s)))
      (on_trail s.trail (uses_of_binds bs)) (seen_in no_calls qs b (inside s))
      (seen_by P s.trail (uses_of_binds bs) (uses_of_binds (graft_binds g bs)) (binds_graft ps ts os bs)) (seen_graft ps ts os qs b (inside s))
  one_seen_graft ps ts os qs at (while e b) s =
      let g = arguments ps ts in
      let P = putting ps ts os in
      let r = one_end no_calls (while e b) s in
      (λ i. on_trail (one_end_graft ps ts os (while e b) s i).trail (uses (graft g e)) ++ seen_in no_calls qs (graft_all g b) (inside (one_end_graft ps ts os (while e b) s i)))
      ∙ seen_both P (on_trail (put_trail P r.trail) (uses (graft g e))) (seen_in no_calls qs (graft_all g b) (put_at P (inside r)))
      (on_trail r.trail (uses e)) (seen_in no_calls qs b (inside r))
      (seen_by P r.trail (uses e) (uses (graft g e)) (uses_graft ps ts os e)) (seen_graft ps ts os qs b (inside r))
  one_seen_graft ps ts os qs at (goto l) s =
      let ns = jumps_use qs at (goto l) in
      seen_by (putting ps ts os) s.trail (map other ns) (map other ns) (others_put (putting ps ts os) ns)
  one_seen_graft ps ts os qs at (macro m us) s = seen_by (putting ps ts os) s.trail (uses_of_all us) (uses_of_all (grafts (arguments ps ts) us)) (all_graft ps ts os us)
  one_seen_graft ps ts os qs at (call q us) s =
      let g = arguments ps ts in
      let P = putting ps ts os in
      let ns = jumps_use qs at (call q us) in
      seen_by P s.trail (uses_of_all us ++ map other ns) (uses_of_all (grafts g us) ++ map other ns)
      ((λ i. all_graft ps ts os us i ++ others_put P ns i) ∙ sym (flat_map-append (put_use P) (uses_of_all us) (map other ns)))
  one_seen_graft ps ts os qs at return s = refl

  pub seen_graft : (ps : List Name) (ts : Trees) (os : List Origin) (qs : List Procedure) (b : Statements) (s : At)
      → seen_in no_calls qs (graft_all (arguments ps ts) b) (put_at (putting ps ts os) s) ≡ flat_map (put_seen (putting ps ts os)) (seen_in no_calls qs b s)
  seen_graft ps ts os qs done s = refl
  seen_graft ps ts os qs (then at st rest) s =
      let g = arguments ps ts in
      let P = putting ps ts os in
      (λ i. one_seen_graft ps ts os qs at.first st s i ++ seen_in no_calls qs (graft_all g rest) (one_end_graft ps ts os st s i))
      ∙ ap (λ (ss : List Seen). flat_map (put_seen P) (one_seen no_calls qs at.first st s) ++ ss) (seen_graft ps ts os qs rest (one_end no_calls st s))
      ∙ sym (flat_map-append (put_seen P) (one_seen no_calls qs at.first st s) (seen_in no_calls qs rest (one_end no_calls st s)))
  seen_graft ps ts os qs (mark l k rest) s = seen_graft ps ts os qs rest at_label

  seen_some_graft : (ps : List Name) (ts : Trees) (os : List Origin) (qs : List Procedure) (bs : Branches) (s : At)
      → seen_in_some no_calls qs (graft_some (arguments ps ts) bs) (put_at (putting ps ts os) s) ≡ flat_map (put_seen (putting ps ts os)) (seen_in_some no_calls qs bs s)
  seen_some_graft ps ts os qs no_branches s = refl
  seen_some_graft ps ts os qs (or b bs) s =
      let g = arguments ps ts in
      let P = putting ps ts os in
      seen_both P (seen_in no_calls qs (graft_all g b) (put_at P (inside s))) (seen_in_some no_calls qs (graft_some g bs) (put_at P s))
      (seen_in no_calls qs b (inside s)) (seen_in_some no_calls qs bs s) (seen_graft ps ts os qs b (inside s)) (seen_some_graft ps ts os qs bs s)
