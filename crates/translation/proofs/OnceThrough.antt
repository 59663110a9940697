-- Where the rule on assigning twice is not broken, no statement assigns a variable beside a part of it with macro calls written out.
use Rattle.std.proofs.Common.{◌≡◌, List, [], ◌∷◌, Bool, true, false, ◌&&◌, ◌||◌, cond, bytes_eq, reverse, Option, Some, None, refl, sym, ap, subst, ◌∙◌}
use Rattle.std.proofs.Math.Bool.{and_assoc}
use Rattle.tla_tree.specs.Tree.{Word, Name, name, Tree, node, Trees, no_trees, tree, Graft, graft, grafts}
use Rattle.pcal_tree.specs.Algorithm.{Span, Assignments, no_assignments, assignment, Binds, no_binds, one_of, is, Statement, assign, await, print, assert, skip, branch, either, with, while, goto, macro, call, return, Statements, done, then, mark, Branches, no_branches, or, Macro, Algorithm}
use Rattle.pcal_tree.specs.Expand.{placed_at, graft_left, graft_assignments, graft_binds, graft_one, graft_all, graft_some, followed_by, expand_one, expand, expand_some, written_out}
use Rattle.pcal_tree.specs.OffencesLabels.{label_offences}
use Rattle.pcal_tree.specs.OffencesSteps.{inside, in_macro, effect_of_body, called_with, effect_within, nothing_put, call_effect}
use Rattle.pcal_tree.specs.Paths.{root, is_whole, same_word, clashes_with, clashes}
use Rattle.pcal_tree.specs.Run.{arguments}
use Rattle.pcal_tree.specs.laws.MacroSummaries.{argument}
use Rattle.pcal_tree.proofs.TargetLaws.{Anywhere, put_for, root_after, whole_after, root_side, whole_side, arguments_anywhere, called_anywhere, root_left, resolved_twice, whole_twice}
use Rattle.translation.specs.laws.AcceptedAlgorithm.{EachAssignsOnce}
use Rattle.translation.specs.laws.AssignedOnce.{AssignsOnce, AssignOnce, AllAssignOnce}
use Rattle.translation.proofs.OnceStatements.{IsOnceBy, AreOnceBy, AllOnceBy, all_visited, followed_once, bodies_once}

-- ---- assignments with left sides that are alike

abbrev Alike : Assignments → Assignments → Type 0
Alike no_assignments no_assignments = Unit {0}
Alike (assignment l e ms) (assignment k f ns) = (root l ≡ root k) × (is_whole l ≡ is_whole k) × Alike ms ns
Alike _ _ = ⊥

clashes_with_alike : (l k : Tree) → root l ≡ root k → is_whole l ≡ is_whole k → (ms ns : Assignments) → Alike ms ns → clashes_with l ms ≡ clashes_with k ns
clashes_with_alike l k r w no_assignments no_assignments h = refl
clashes_with_alike l k r w (assignment m e ms) (assignment n f ns) h =
    λ i. (same_word (r i) (h.0 i) && (w i || h.1 i)) || clashes_with_alike l k r w ms ns h.2 i
clashes_with_alike l k r w no_assignments (assignment n f ns) h = absurd h
clashes_with_alike l k r w (assignment m e ms) no_assignments h = absurd h

clashes_alike : (ms ns : Assignments) → Alike ms ns → clashes ms ≡ clashes ns
clashes_alike no_assignments no_assignments h = refl
clashes_alike (assignment l e ms) (assignment k f ns) h = λ i. clashes_with_alike l k h.0 h.1 ms ns h.2 i || clashes_alike ms ns h.2 i
clashes_alike no_assignments (assignment k f ns) h = absurd h
clashes_alike (assignment l e ms) no_assignments h = absurd h

-- ---- what is put in twice is put in once

module _ (ps : List Name) (us : Trees) (g : Graft) (free : Anywhere g) where
  abbrev inner : Graft
  inner = called_with ps (grafts g us) g

  roots_twice : (o : Option Word) → root_after (put_for inner) o ≡ root_after (put_for g) (root_after (argument ps us) o)
  roots_twice None = refl
  roots_twice (Some x) = resolved_twice ps us g free x

  wholes_twice : (o : Option Word) → whole_after (put_for inner) o ≡ (whole_after (argument ps us) o && whole_after (put_for g) (root_after (argument ps us) o))
  wholes_twice None = refl
  wholes_twice (Some x) = whole_twice ps us g free x

  pub side_root : (l : Tree) → root (graft_left inner l) ≡ root (graft_left g (graft_left (arguments ps us) l))
  side_root l =
      root_side inner (called_anywhere ps (grafts g us) g free) l ∙ (roots_twice (root l)
      ∙ sym (root_side g free (graft_left (arguments ps us) l) ∙ ap (root_after (put_for g)) (root_left ps us l)))

  side_whole : (l : Tree) → is_whole (graft_left inner l) ≡ is_whole (graft_left g (graft_left (arguments ps us) l))
  side_whole l =
      whole_side inner (called_anywhere ps (grafts g us) g free) l ∙ (ap (λ (b : Bool). is_whole l && b) (wholes_twice (root l))
      ∙ (sym (and_assoc (is_whole l) (whole_after (argument ps us) (root l)) (whole_after (put_for g) (root_after (argument ps us) (root l))))
      ∙ sym (whole_side g free (graft_left (arguments ps us) l)
      ∙ (λ i. whole_side (arguments ps us) (arguments_anywhere ps us) l i && whole_after (put_for g) (root_left ps us l i)))))

  sides_alike : (ms : Assignments) → Alike (graft_assignments inner ms) (graft_assignments g (graft_assignments (arguments ps us) ms))
  sides_alike no_assignments = tt
  sides_alike (assignment l e ms) = (side_root l, side_whole l, sides_alike ms)

  mutual
    one_twice : (st : Statement) → AssignsOnce (graft_one inner st) → AssignsOnce (graft_one g (graft_one (arguments ps us) st))
    one_twice (assign ms) h = sym (clashes_alike _ _ (sides_alike ms)) ∙ h
    one_twice (branch e a b) h = (all_twice a h.0, all_twice b h.1)
    one_twice (either bs) h = some_twice bs h
    one_twice (with bs b) h = all_twice b h
    one_twice (while e b) h = all_twice b h
    one_twice (await e) h = tt
    one_twice (print e) h = tt
    one_twice (assert e) h = tt
    one_twice skip h = tt
    one_twice (goto l) h = tt
    one_twice (macro m ts) h = tt
    one_twice (call m ts) h = tt
    one_twice return h = tt

    all_twice : (b : Statements) → AssignOnce (graft_all inner b) → AssignOnce (graft_all g (graft_all (arguments ps us) b))
    all_twice done h = tt
    all_twice (then at st rest) h = (one_twice st h.0, all_twice rest h.1)
    all_twice (mark l k rest) h = all_twice rest h

    some_twice : (bs : Branches) → AllAssignOnce (graft_some inner bs) → AllAssignOnce (graft_some g (graft_some (arguments ps us) bs))
    some_twice no_branches h = tt
    some_twice (or b bs) h = (all_twice b h.0, some_twice bs h.1)

-- ---- macro calls written out

pub followed_put : (g : Graft) (a b : Statements) → graft_all g (followed_by a b) ≡ followed_by (graft_all g a) (graft_all g b)
followed_put g done b = refl
followed_put g (then at st a) b = ap (λ (c : Statements). then at (graft_one g st) c) (followed_put g a b)
followed_put g (mark l k a) b = ap (λ (c : Statements). mark l k c) (followed_put g a b)

-- a call that assigns nothing twice by itself, with g around it
abbrev IsOnceCall : List Macro → Type 0
IsOnceCall ms = (g : Graft) → Anywhere g → (at : Span) (m : Word) (us : Trees) → (effect_within ms g m (grafts g us)).twice ≡ false → AssignOnce (graft_all g (written_out ms at m us))

module _ (ms : List Macro) (calls : IsOnceCall ms) (g : Graft) (free : Anywhere g) where
  mutual
    one_within : (at : Span) (st : Statement) (rest : Statements) → IsOnceBy (in_macro (effect_within ms g)) (graft_one g st) → AssignOnce (graft_all g rest) → AssignOnce (graft_all g (expand_one (written_out ms) at st rest))
    one_within at (macro m ts) rest h k =
        subst AssignOnce (sym (followed_put g (written_out ms at m ts) rest)) (followed_once (graft_all g (written_out ms at m ts)) (graft_all g rest) (calls g free at m ts h) k)
    one_within at (branch e a b) rest h k = ((all_within a h.0, all_within b h.1), k)
    one_within at (either bs) rest h k = (some_within bs h, k)
    one_within at (with bs b) rest h k = (all_within b h, k)
    one_within at (while e b) rest h k = (all_within b h, k)
    one_within at (assign ns) rest h k = (h, k)
    one_within at (await e) rest h k = (tt, k)
    one_within at (print e) rest h k = (tt, k)
    one_within at (assert e) rest h k = (tt, k)
    one_within at skip rest h k = (tt, k)
    one_within at (goto l) rest h k = (tt, k)
    one_within at (call p ts) rest h k = (tt, k)
    one_within at return rest h k = (tt, k)

    all_within : (b : Statements) → AreOnceBy (in_macro (effect_within ms g)) (graft_all g b) → AssignOnce (graft_all g (expand (written_out ms) b))
    all_within done h = tt
    all_within (then at st rest) h = one_within at st (expand (written_out ms) rest) h.0 (all_within rest h.1)
    all_within (mark l k rest) h = all_within rest h

    some_within : (bs : Branches) → AllOnceBy (in_macro (effect_within ms g)) (graft_some g bs) → AllAssignOnce (graft_some g (expand_some (written_out ms) bs))
    some_within no_branches h = tt
    some_within (or b bs) h = (all_within b h.0, some_within bs h.1)

call_within : (ms : List Macro) → IsOnceCall ms
call_within [] g free at m us h = (tt, tt)
call_within (d ∷ older) g free at m us h = by (call_within older) (bytes_eq d.name.word m) h
  where
    by : IsOnceCall older → (b : Bool)
        → (cond b (effect_of_body (in_macro (effect_within older (called_with d.params (grafts g us) g))) (graft_all (called_with d.params (grafts g us) g) d.body)) (effect_within older g m (grafts g us))).twice ≡ false
        → AssignOnce (graft_all g (cond b (graft_all (arguments d.params us) (expand (written_out older) d.body)) (written_out older at m us)))
    by f true k =
        all_twice d.params us g free (expand (written_out older) d.body)
        (all_within older f (called_with d.params (grafts g us) g) (called_anywhere d.params (grafts g us) g free) d.body
        (all_visited (in_macro (effect_within older (called_with d.params (grafts g us) g))) (λ ns. refl) (inside (Some [])) (graft_all (called_with d.params (grafts g us) g) d.body) k))
    by f false k = f g free at m us k

-- ---- where nothing is put in

mutual
  tree_unput : (t : Tree) → graft nothing_put t ≡ t
  tree_unput (node (name x) at ts) = ap (node (name x) at) (trees_unput ts)
  tree_unput (node m at ts) = ap (node m at) (trees_unput ts)

  trees_unput : (ts : Trees) → grafts nothing_put ts ≡ ts
  trees_unput no_trees = refl
  trees_unput (tree t ts) = λ i. tree (tree_unput t i) (trees_unput ts i)

side_unput : (l : Tree) → graft_left nothing_put l ≡ l
side_unput (node m at ts) = ap (placed_at at) (tree_unput (node m at ts))

assignments_unput : (ms : Assignments) → graft_assignments nothing_put ms ≡ ms
assignments_unput no_assignments = refl
assignments_unput (assignment l e ms) = λ i. assignment (side_unput l i) (tree_unput e i) (assignments_unput ms i)

binds_unput : (bs : Binds) → graft_binds nothing_put bs ≡ bs
binds_unput no_binds = refl
binds_unput (one_of x e bs) = λ i. one_of x (tree_unput e i) (binds_unput bs i)
binds_unput (is x e bs) = λ i. is x (tree_unput e i) (binds_unput bs i)

mutual
  one_unput : (st : Statement) → graft_one nothing_put st ≡ st
  one_unput (assign ms) = ap assign (assignments_unput ms)
  one_unput (await e) = ap await (tree_unput e)
  one_unput (print e) = ap print (tree_unput e)
  one_unput (assert e) = ap assert (tree_unput e)
  one_unput skip = refl
  one_unput (branch e a b) = λ i. branch (tree_unput e i) (all_unput a i) (all_unput b i)
  one_unput (either bs) = ap either (some_unput bs)
  one_unput (with bs b) = λ i. with (binds_unput bs i) (all_unput b i)
  one_unput (while e b) = λ i. while (tree_unput e i) (all_unput b i)
  one_unput (goto l) = refl
  one_unput (macro m ts) = ap (macro m) (trees_unput ts)
  one_unput (call p ts) = ap (call p) (trees_unput ts)
  one_unput return = refl

  pub all_unput : (b : Statements) → graft_all nothing_put b ≡ b
  all_unput done = refl
  all_unput (then at st rest) = λ i. then at (one_unput st i) (all_unput rest i)
  all_unput (mark l k rest) = ap (mark l k) (all_unput rest)

  some_unput : (bs : Branches) → graft_some nothing_put bs ≡ bs
  some_unput no_branches = refl
  some_unput (or b bs) = λ i. or (all_unput b i) (some_unput bs i)

call_once : (ms : List Macro) (at : Span) (m : Word) (ts : Trees) → (call_effect ms m ts).twice ≡ false → AssignOnce (written_out ms at m ts)
call_once ms at m ts h =
    subst AssignOnce (all_unput (written_out ms at m ts))
    (call_within ms nothing_put (λ x p q. refl) at m ts (ap (λ (us : Trees). (effect_within ms nothing_put m us).twice) (trees_unput ts) ∙ h))

pub accepted_once : (a : Algorithm) → label_offences a ≡ [] → EachAssignsOnce a
accepted_once a e u k = bodies_once a (call_effect (reverse a.macros)) (call_once (reverse a.macros)) e u k
