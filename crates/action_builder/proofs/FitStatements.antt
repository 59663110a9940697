-- Statements whose trees can be written but that their names are of some kind, and of which each meets what is asked besides.
use Rattle.std.proofs.Common.{◌≡◌, true, List, [], ◌∷◌, ◌++◌, bytes_eq, ◌⊎◌, inl, inr, refl, sym, subst, ◌∙◌, Option, Some, None}
use Rattle.tla_token.specs.declared.place.Place.{Place}
use Rattle.tla_tree.specs.Tree.{Word, Form, name, strict, apply, select, Tree, node, Trees, no_trees, tree, Graft, grafted_node, graft, grafts}
use Rattle.tla_tree.specs.laws.Writable.{IsIdentifier}
use Rattle.pcal_tree.specs.Algorithm.{Assignments, no_assignments, assignment, Binds, no_binds, one_of, is, Statement, assign, await, print, assert, skip, branch, either, with, while, goto, macro, call, return, Statements, done, then, mark, Branches, no_branches, or}
use Rattle.pcal_tree.specs.Expand.{placed_at, graft_left, graft_assignments, graft_binds, graft_one, graft_all, graft_some}
use Rattle.action_builder.specs.Assigned.{head_of, head_first}
use Rattle.action_builder.specs.Written.{Key, fixed, subs, keys_in, keys_of, keys_first, old_stack}
use Rattle.action_builder.specs.laws.InParts.{SomeKeys, Beside, InParts}
use Rattle.action_builder.proofs.FitTrees.{Fits, AllFit, IsPut, Puts, graft_fits, grafts_fit, fits_more}

-- ---- assignments

-- left sides of variables
abbrev pub AssignmentsFit : (Word → Type 0) → Assignments → Type 0
AssignmentsFit N no_assignments = Unit {0}
AssignmentsFit N (assignment l e ms) = IsIdentifier (head_of l) × Fits N l × Fits N e × AssignmentsFit N ms

-- ---- statements

abbrev pub BindsFit : (Word → Type 0) → Binds → Type 0
BindsFit N no_binds = Unit {0}
BindsFit N (one_of x e bs) = IsIdentifier x.word × Fits N e × BindsFit N bs
BindsFit N (is x e bs) = IsIdentifier x.word × Fits N e × BindsFit N bs

-- the name of the old stack, bound alone
abbrev pub OldFits : (Word → Type 0) → Binds → Type 0
OldFits N (is x e no_binds) = (bytes_eq old_stack x.word ≡ true) × Fits N e
OldFits N _ = ⊥

abbrev pub OrOld : (Word → Type 0) → Word → Type 0
OrOld N x = N x ⊎ (bytes_eq old_stack x ≡ true)

-- J: what is asked of each statement besides
abbrev mutual
  pub StatementFits : (Word → Type 0) → (Statement → Type 0) → Statement → Type 0
  StatementFits N J (assign ms) = AssignmentsFit N ms
  StatementFits N J (await e) = Fits N e
  StatementFits N J (print e) = Fits N e
  StatementFits N J (assert e) = Fits N e
  StatementFits N J skip = Unit {0}
  StatementFits N J (branch e a b) = Fits N e × StatementsFit N J a × StatementsFit N J b
  StatementFits N J (either bs) = OrsFit N J bs
  StatementFits N J (with bs b) = (BindsFit N bs × StatementsFit N J b) ⊎ (OldFits N bs × StatementsFit (OrOld N) J b)
  StatementFits N J (while e b) = Fits N e × StatementsFit N J b
  StatementFits N J (goto l) = Unit {0}
  StatementFits N J (macro m ts) = AllFit N ts
  StatementFits N J (call p ts) = AllFit N ts
  StatementFits N J return = Unit {0}

  pub StatementsFit : (Word → Type 0) → (Statement → Type 0) → Statements → Type 0
  StatementsFit N J done = Unit {0}
  StatementsFit N J (then at st rest) = J st × StatementFits N J st × StatementsFit N J rest
  StatementsFit N J (mark l k rest) = IsIdentifier l.word × StatementsFit N J rest

  pub OrsFit : (Word → Type 0) → (Statement → Type 0) → Branches → Type 0
  OrsFit N J no_branches = Unit {0}
  OrsFit N J (or b bs) = StatementsFit N J b × OrsFit N J bs

-- what is asked of a statement for which items are written: no jump, call or loop is left, and there is a way
abbrev pub IsPlain : Statement → Type 0
IsPlain (assign ms) = InParts ms
IsPlain (either no_branches) = ⊥
IsPlain (while e b) = ⊥
IsPlain (goto l) = ⊥
IsPlain (macro m ts) = ⊥
IsPlain (call p ts) = ⊥
IsPlain return = ⊥
IsPlain _ = Unit {0}

-- ---- trees put in

head_node : (g : Graft) (h : Word → Word) → ((x : Word) (at : Place) (ts : Trees) → head_of (grafted_node g (name x) at ts) ≡ h x) → h [] ≡ []
    → (m : Form) (at : Place) (ts us : Trees) → head_first us ≡ h (head_first ts) → head_of (grafted_node g m at us) ≡ h (head_of (node m at ts))
head_node g h k z (name x) at ts us e = k x at us
head_node g h k z (strict apply) at ts us e = e
head_node g h k z (strict (select a)) at ts us e = e
head_node g h k z m at ts us e = sym z

mutual
  -- the variable of a left side is that of what is put in for it
  pub head_graft : (g : Graft) (h : Word → Word) → ((x : Word) (at : Place) (ts : Trees) → head_of (grafted_node g (name x) at ts) ≡ h x) → h [] ≡ [] → (l : Tree) → head_of (graft g l) ≡ h (head_of l)
  head_graft g h k z (node m at ts) = head_node g h k z m at ts (grafts g ts) (head_grafts g h k z ts)

  head_grafts : (g : Graft) (h : Word → Word) → ((x : Word) (at : Place) (ts : Trees) → head_of (grafted_node g (name x) at ts) ≡ h x) → h [] ≡ [] → (ts : Trees) → head_first (grafts g ts) ≡ h (head_first ts)
  head_grafts g h k z no_trees = sym z
  head_grafts g h k z (tree t ts) = head_graft g h k z t

head_placed : (at : Place) (t : Tree) → head_of (placed_at at t) ≡ head_of t
head_placed at (node m p ts) = refl

pub head_left : (g : Graft) (l : Tree) → head_of (graft_left g l) ≡ head_of (graft g l)
head_left g (node m at ts) = head_placed at (graft g (node m at ts))

-- ---- subscripts and fields stay

some_before : (ks js : List Key) → SomeKeys ks → SomeKeys (ks ++ js)
some_before [] js h = absurd h
some_before (k ∷ ks) js h = tt

pub some_after : (ks js : List Key) → SomeKeys js → SomeKeys (ks ++ js)
some_after [] js h = h
some_after (k ∷ ks) js h = tt

more_keys : (ks js us vs : List Key) → (SomeKeys ks → SomeKeys us) → (SomeKeys js → SomeKeys vs) → SomeKeys (ks ++ js) → SomeKeys (us ++ vs)
more_keys [] js us vs f g h = some_after us vs (g h)
more_keys (k ∷ ks) js us vs f g h = some_before us vs (f tt)

keys_node : (g : Graft) (m : Form) (at : Place) (ts us : Trees) → (SomeKeys (keys_first ts) → SomeKeys (keys_first us)) → SomeKeys (keys_in m (keys_first ts)) → SomeKeys (keys_of (grafted_node g m at us))
keys_node g (name x) at ts us k h = absurd h
keys_node g (strict (select a)) at ts us k h = some_after (keys_first us) (fixed a ∷ []) tt
keys_node g m at ts us k h = k h

subs_graft : (g : Graft) (ts : Trees) → SomeKeys (subs ts) → SomeKeys (subs (grafts g ts))
subs_graft g no_trees h = h
subs_graft g (tree t ts) h = tt

mutual
  keys_graft : (g : Graft) (l : Tree) → SomeKeys (keys_of l) → SomeKeys (keys_of (graft g l))
  keys_graft g (node m at ts) h = keys_node g m at ts (grafts g ts) (keys_grafts g ts) h

  keys_grafts : (g : Graft) (ts : Trees) → SomeKeys (keys_first ts) → SomeKeys (keys_first (grafts g ts))
  keys_grafts g no_trees h = h
  keys_grafts g (tree t ts) h = more_keys (keys_of t) (subs ts) (keys_of (graft g t)) (subs (grafts g ts)) (keys_graft g t) (subs_graft g ts) h

keys_placed : (at : Place) (t : Tree) → SomeKeys (keys_of t) → SomeKeys (keys_of (placed_at at t))
keys_placed at (node m p ts) h = h

keys_left : (g : Graft) (l : Tree) → SomeKeys (keys_of l) → SomeKeys (keys_of (graft_left g l))
keys_left g (node m at ts) h = keys_placed at (graft g (node m at ts)) (keys_graft g (node m at ts) h)

-- variables of a kind
abbrev pub HeadsAre : (Word → Type 0) → Assignments → Type 0
HeadsAre Q no_assignments = Unit {0}
HeadsAre Q (assignment l e ms) = Q (head_of l) × HeadsAre Q ms

-- where different variables of the kind have different ones put in for them
module _ (g : Graft) (h : Word → Word) (heads : (l : Tree) → head_of (graft_left g l) ≡ h (head_of l)) (Q : Word → Type 0) (apart : (x y : Word) → Q x → Q y → bytes_eq (h x) (h y) ≡ true → bytes_eq x y ≡ true) where
  beside_graft : (l : Tree) (ms : Assignments) → Q (head_of l) → HeadsAre Q ms → Beside l ms → Beside (graft_left g l) (graft_assignments g ms)
  beside_graft l no_assignments i f b = tt
  beside_graft l (assignment m e ms) i f b = (
    λ q.
        let k = b.0 (apart (head_of l) (head_of m) i f.0 (sym (λ j. bytes_eq (heads l j) (heads m j)) ∙ q)) in
        (keys_left g l k.0, keys_left g m k.1),
    beside_graft l ms i f.1 b.1,
  )

  pub parts_graft : (ms : Assignments) → HeadsAre Q ms → InParts ms → InParts (graft_assignments g ms)
  parts_graft no_assignments f b = tt
  parts_graft (assignment l e ms) f b = (beside_graft l ms f.0 f.1 b.0, parts_graft ms f.1 b.1)

-- ---- statements with trees put in

-- the name of the old stack is left as it is
abbrev pub LeavesOld : Graft → Type 0
LeavesOld g = (x : Word) (at : Place) → bytes_eq old_stack x ≡ true → g x at ≡ None

put_more : (M N : Word → Type 0) → ((x : Word) → M x → N x) → (o : Option Tree) (x : Word) → IsPut M o x → IsPut N o x
put_more M N k (Some t) x h = fits_more M N k t h
put_more M N k None x h = k x h

puts_old : (M N : Word → Type 0) (g : Graft) → Puts M N g → LeavesOld g → Puts (OrOld M) (OrOld N) g
puts_old M N g p old x at (inl m) = put_more N (OrOld N) (λ y n. inl n) (g x at) x (p x at m)
puts_old M N g p old x at (inr e) = subst (λ (o : Option Tree). IsPut (OrOld N) o x) (sym (old x at e)) (inr e)

placed_fits : (N : Word → Type 0) (at : Place) (t : Tree) → Fits N t → Fits N (placed_at at t)
placed_fits N at (node m p ts) h = h

left_fits : (M N : Word → Type 0) (g : Graft) → Puts M N g → (l : Tree) → Fits M l → Fits N (graft_left g l)
left_fits M N g p (node m at ts) h = placed_fits N at (graft g (node m at ts)) (graft_fits M N g p (node m at ts) h)

-- what is put in for variables of left sides are left sides, and what is asked besides is met
module _ (g : Graft) (J K : Statement → Type 0) (old : LeavesOld g) (heads : (l : Tree) → IsIdentifier (head_of l) → IsIdentifier (head_of (graft_left g l))) (asked : (L : Word → Type 0) (st : Statement) → J st → StatementFits L J st → K (graft_one g st)) where
  assignments_fit : (M N : Word → Type 0) → Puts M N g → (ms : Assignments) → AssignmentsFit M ms → AssignmentsFit N (graft_assignments g ms)
  assignments_fit M N p no_assignments h = tt
  assignments_fit M N p (assignment l e ms) h = (heads l h.0, left_fits M N g p l h.1, graft_fits M N g p e h.2, assignments_fit M N p ms h.3)

  binds_fit : (M N : Word → Type 0) → Puts M N g → (bs : Binds) → BindsFit M bs → BindsFit N (graft_binds g bs)
  binds_fit M N p no_binds h = tt
  binds_fit M N p (one_of x e bs) h = (h.0, graft_fits M N g p e h.1, binds_fit M N p bs h.2)
  binds_fit M N p (is x e bs) h = (h.0, graft_fits M N g p e h.1, binds_fit M N p bs h.2)

  old_fits : (M N : Word → Type 0) → Puts M N g → (bs : Binds) → OldFits M bs → OldFits N (graft_binds g bs)
  old_fits M N p no_binds h = absurd h
  old_fits M N p (one_of x e bs) h = absurd h
  old_fits M N p (is x e no_binds) h = (h.0, graft_fits M N g p e h.1)
  old_fits M N p (is x e (one_of y f bs)) h = absurd h
  old_fits M N p (is x e (is y f bs)) h = absurd h

  mutual
    pub graft_one_fits : (M N : Word → Type 0) → Puts M N g → (st : Statement) → StatementFits M J st → StatementFits N K (graft_one g st)
    graft_one_fits M N p (assign ms) h = assignments_fit M N p ms h
    graft_one_fits M N p (await e) h = graft_fits M N g p e h
    graft_one_fits M N p (print e) h = graft_fits M N g p e h
    graft_one_fits M N p (assert e) h = graft_fits M N g p e h
    graft_one_fits M N p skip h = tt
    graft_one_fits M N p (branch e a b) h = (graft_fits M N g p e h.0, graft_all_fits M N p a h.1, graft_all_fits M N p b h.2)
    graft_one_fits M N p (either bs) h = graft_ors_fit M N p bs h
    graft_one_fits M N p (with bs b) (inl h) = inl (binds_fit M N p bs h.0, graft_all_fits M N p b h.1)
    graft_one_fits M N p (with bs b) (inr h) = inr (old_fits M N p bs h.0, graft_all_fits (OrOld M) (OrOld N) (puts_old M N g p old) b h.1)
    graft_one_fits M N p (while e b) h = (graft_fits M N g p e h.0, graft_all_fits M N p b h.1)
    graft_one_fits M N p (goto l) h = tt
    graft_one_fits M N p (macro m ts) h = grafts_fit M N g p ts h
    graft_one_fits M N p (call q ts) h = grafts_fit M N g p ts h
    graft_one_fits M N p return h = tt

    pub graft_all_fits : (M N : Word → Type 0) → Puts M N g → (ss : Statements) → StatementsFit M J ss → StatementsFit N K (graft_all g ss)
    graft_all_fits M N p done h = tt
    graft_all_fits M N p (then at st rest) h = (asked M st h.0 h.1, graft_one_fits M N p st h.1, graft_all_fits M N p rest h.2)
    graft_all_fits M N p (mark l k rest) h = (h.0, graft_all_fits M N p rest h.1)

    graft_ors_fit : (M N : Word → Type 0) → Puts M N g → (bs : Branches) → OrsFit M J bs → OrsFit N K (graft_some g bs)
    graft_ors_fit M N p no_branches h = tt
    graft_ors_fit M N p (or b bs) h = (graft_all_fits M N p b h.0, graft_ors_fit M N p bs h.1)
