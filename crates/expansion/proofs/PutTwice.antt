-- Statements with arguments put in and then other trees, as where a call is in a macro's body; and lists one after another.
use Rattle.std.proofs.Common.{◌≡◌, List, refl, sym, ap, ◌∙◌, Option, Some, None}
use Rattle.tla_token.specs.declared.place.Place.{Place}
use Rattle.tla_tree.specs.Tree.{Name, name, Tree, node, Trees, Graft, graft, grafts, grafted_name}
use Rattle.pcal_tree.specs.Algorithm.{Span, Assignments, no_assignments, assignment, Binds, no_binds, one_of, is, Statement, assign, await, print, assert, skip, branch, either, with, while, goto, macro, call, return, Statements, done, then, mark, Branches, no_branches, or, Macro}
use Rattle.pcal_tree.specs.Run.{arguments}
use Rattle.pcal_tree.specs.Expand.{placed_at, graft_left, graft_assignments, graft_binds, graft_one, graft_all, graft_some, followed_by, Writing, expand_one, expand, written_out}
use Rattle.pcal_tree.specs.OffencesSteps.{called_with, nothing_put}
use Rattle.pcal_tree.proofs.TargetLaws.{Anywhere}
use Rattle.expansion_size.proofs.GraftLaws.{graft_called, grafts_called, graft_none, grafts_none}
use Rattle.macro_arguments.proofs.TreeLaws.{left_none}
use Rattle.expansion.specs.Written.{put_out}

-- ---- a left side keeps its place

pub placed_again : (g : Graft) → Anywhere g → (t : Tree) (at : Place) → graft_left g (placed_at at t) ≡ placed_at at (graft g t)
placed_again g free (node (name x) p ts) at = by (g x at) (g x p) (free x at p)
  where
    by : (a b : Option Tree) → a ≡ b → placed_at at (grafted_name a (name x) at (grafts g ts)) ≡ placed_at at (grafted_name b (name x) p (grafts g ts))
    by a b h = ap (λ (o : Option Tree). placed_at at (grafted_name o (name x) at (grafts g ts))) h ∙ place b
      where
        place : (o : Option Tree) → placed_at at (grafted_name o (name x) at (grafts g ts)) ≡ placed_at at (grafted_name o (name x) p (grafts g ts))
        place (Some t) = refl
        place None = refl
placed_again g free (node m p ts) at = refl

-- ---- arguments put in, and then other trees

module _ (g : Graft) (free : Anywhere g) (ps : List Name) (us : Trees) where
  abbrev inner : Graft
  inner = called_with ps (grafts g us) g

  left_twice : (l : Tree) → graft_left g (graft_left (arguments ps us) l) ≡ graft_left inner l
  left_twice (node m at ts) = placed_again g free (graft (arguments ps us) (node m at ts)) at ∙ ap (placed_at at) (graft_called g ps us (node m at ts))

  assignments_twice : (ms : Assignments) → graft_assignments g (graft_assignments (arguments ps us) ms) ≡ graft_assignments inner ms
  assignments_twice no_assignments = refl
  assignments_twice (assignment l e ms) = λ z. assignment (left_twice l z) (graft_called g ps us e z) (assignments_twice ms z)

  binds_twice : (bs : Binds) → graft_binds g (graft_binds (arguments ps us) bs) ≡ graft_binds inner bs
  binds_twice no_binds = refl
  binds_twice (one_of x e bs) = λ z. one_of x (graft_called g ps us e z) (binds_twice bs z)
  binds_twice (is x e bs) = λ z. is x (graft_called g ps us e z) (binds_twice bs z)

  mutual
    one_twice : (st : Statement) → graft_one g (graft_one (arguments ps us) st) ≡ graft_one inner st
    one_twice (assign ms) = ap assign (assignments_twice ms)
    one_twice (await e) = ap await (graft_called g ps us e)
    one_twice (print e) = ap print (graft_called g ps us e)
    one_twice (assert e) = ap assert (graft_called g ps us e)
    one_twice skip = refl
    one_twice (branch e a b) = λ z. branch (graft_called g ps us e z) (all_twice a z) (all_twice b z)
    one_twice (either bs) = ap either (some_twice bs)
    one_twice (with bs b) = λ z. with (binds_twice bs z) (all_twice b z)
    one_twice (while e b) = λ z. while (graft_called g ps us e z) (all_twice b z)
    one_twice (goto l) = refl
    one_twice (macro m ts) = ap (macro m) (grafts_called g ps us ts)
    one_twice (call p ts) = ap (call p) (grafts_called g ps us ts)
    one_twice return = refl

    -- putting trees into what has arguments put in is putting in the arguments with the trees put in
    pub all_twice : (b : Statements) → graft_all g (graft_all (arguments ps us) b) ≡ graft_all inner b
    all_twice done = refl
    all_twice (then at st rest) = λ z. then at (one_twice st z) (all_twice rest z)
    all_twice (mark l k rest) = ap (mark l k) (all_twice rest)

    some_twice : (bs : Branches) → graft_some g (graft_some (arguments ps us) bs) ≡ graft_some inner bs
    some_twice no_branches = refl
    some_twice (or b bs) = λ z. or (all_twice b z) (some_twice bs z)

-- ---- nothing put in

assignments_none : (ms : Assignments) → graft_assignments nothing_put ms ≡ ms
assignments_none no_assignments = refl
assignments_none (assignment l e ms) = λ z. assignment (left_none l z) (graft_none e z) (assignments_none ms z)

binds_none : (bs : Binds) → graft_binds nothing_put bs ≡ bs
binds_none no_binds = refl
binds_none (one_of x e bs) = λ z. one_of x (graft_none e z) (binds_none bs z)
binds_none (is x e bs) = λ z. is x (graft_none e z) (binds_none bs z)

mutual
  one_none : (st : Statement) → graft_one nothing_put st ≡ st
  one_none (assign ms) = ap assign (assignments_none ms)
  one_none (await e) = ap await (graft_none e)
  one_none (print e) = ap print (graft_none e)
  one_none (assert e) = ap assert (graft_none e)
  one_none skip = refl
  one_none (branch e a b) = λ z. branch (graft_none e z) (all_none a z) (all_none b z)
  one_none (either bs) = ap either (some_none bs)
  one_none (with bs b) = λ z. with (binds_none bs z) (all_none b z)
  one_none (while e b) = λ z. while (graft_none e z) (all_none b z)
  one_none (goto l) = refl
  one_none (macro m ts) = ap (macro m) (grafts_none ts)
  one_none (call p ts) = ap (call p) (grafts_none ts)
  one_none return = refl

  pub all_none : (b : Statements) → graft_all nothing_put b ≡ b
  all_none done = refl
  all_none (then at st rest) = λ z. then at (one_none st z) (all_none rest z)
  all_none (mark l k rest) = ap (mark l k) (all_none rest)

  some_none : (bs : Branches) → graft_some nothing_put bs ≡ bs
  some_none no_branches = refl
  some_none (or b bs) = λ z. or (all_none b z) (some_none bs z)

-- ---- lists one after another

pub joined_done : (a : Statements) → followed_by a done ≡ a
joined_done done = refl
joined_done (then at st a) = ap (then at st) (joined_done a)
joined_done (mark l k a) = ap (mark l k) (joined_done a)

pub joined_again : (a b c : Statements) → followed_by (followed_by a b) c ≡ followed_by a (followed_by b c)
joined_again done b c = refl
joined_again (then at st a) b c = ap (then at st) (joined_again a b c)
joined_again (mark l k a) b c = ap (mark l k) (joined_again a b c)

graft_joined : (g : Graft) (a b : Statements) → graft_all g (followed_by a b) ≡ followed_by (graft_all g a) (graft_all g b)
graft_joined g done b = refl
graft_joined g (then at st a) b = ap (then at (graft_one g st)) (graft_joined g a b)
graft_joined g (mark l k a) b = ap (mark l k) (graft_joined g a b)

module _ (X : Writing) where
  expand_one_joined : (at : Span) (st : Statement) (a b : Statements) → expand_one X at st (followed_by a b) ≡ followed_by (expand_one X at st a) b
  expand_one_joined at (macro m ts) a b = sym (joined_again (X at m ts) a b)
  expand_one_joined at (branch e c d) a b = refl
  expand_one_joined at (either bs) a b = refl
  expand_one_joined at (with bs c) a b = refl
  expand_one_joined at (while e c) a b = refl
  expand_one_joined at (assign ms) a b = refl
  expand_one_joined at (await e) a b = refl
  expand_one_joined at (print e) a b = refl
  expand_one_joined at (assert e) a b = refl
  expand_one_joined at skip a b = refl
  expand_one_joined at (goto l) a b = refl
  expand_one_joined at (call p ts) a b = refl
  expand_one_joined at return a b = refl

  expand_joined : (a b : Statements) → expand X (followed_by a b) ≡ followed_by (expand X a) (expand X b)
  expand_joined done b = refl
  expand_joined (then at st a) b = ap (expand_one X at st) (expand_joined a b) ∙ expand_one_joined at st (expand X a) (expand X b)
  expand_joined (mark l k a) b = ap (mark l k) (expand_joined a b)

pub put_joined : (ms : List Macro) (g : Graft) (a b : Statements) → put_out ms g (followed_by a b) ≡ followed_by (put_out ms g a) (put_out ms g b)
put_joined ms g a b = ap (graft_all g) (expand_joined (written_out ms) a b) ∙ graft_joined g (expand (written_out ms) a) (expand (written_out ms) b)
