-- Statements that can be written, with their written names.
use Rattle.std.proofs.Common.{◌≡◌, List, [], ◌∷◌, Bool, true, false, ◌||◌, ◌&&◌, cond, bytes_eq, Some, None, inl, inr, refl, sym, ap, subst, ◌∙◌, arith}
use Rattle.std.proofs.lemmas.Bool.{or_parts}
use Rattle.std.proofs.lemmas.Slice.Eq.{bytes_eq-Decides}
use Rattle.tla_token.specs.Signs.{is_among}
use Rattle.tla_token.specs.declared.place.Place.{Place}
use Rattle.tla_tree.specs.Tree.{Word, Form, name, Each, strict, apply, select, Tree, node, Trees, no_trees, tree, grafted_node, grafted_name}
use Rattle.tla_tree.specs.laws.Writable.{IsIdentifier, IsWritable, count}
use Rattle.pcal_tree.specs.Algorithm.{Assignments, no_assignments, assignment, Binds, no_binds, one_of, is, Statement, assign, await, print, assert, skip, branch, either, with, while, goto, macro, call, return, Statements, done, then, mark, Branches, no_branches, or, Routine, declares, locals}
use Rattle.pcal_tree.specs.Expand.{graft_left, graft_one, graft_all}
use Rattle.pcal_tree.specs.Paths.{root_form, root, root_of_first, is_whole, same_word, clash, clashes_with, clashes}
use Rattle.pcal_tree.specs.Processes.{OneOf}
use Rattle.pcal_tree.specs.Program.{Program, written}
use Rattle.pcal_tree.specs.Variables.{declared}
use Rattle.action_builder.specs.Assigned.{head_of, head_first}
use Rattle.action_builder.specs.Written.{sub, fixed, keys_of, keys_first, subs, old_stack}
use Rattle.action_builder.specs.WrittenNames.{renames}
use Rattle.action_builder.proofs.FitTrees.{Fits, IsPut, Puts, name_fits, writable_fits, writable_all_fit}
use Rattle.action_builder.proofs.FitStatements.{AssignmentsFit, BindsFit, StatementFits, StatementsFit, OrsFit, HeadsAre, some_after, LeavesOld, head_graft, head_left, parts_graft, graft_all_fits}
use Rattle.action_builder.specs.laws.InParts.{SomeKeys, Beside, InParts}
use Rattle.action_builder.proofs.FitSettled.{IsLoose}
use Rattle.translation.specs.laws.WritableAlgorithm.{IsLeftSide, AreWritableAssignments, AreWritableBinds, IsWritableStatement, AreWritableStatements, AreWritableBranches}
use Rattle.action_builder.proofs.Names.{each_name}

true_false : true ≡ false → ⊥
true_false e = cc

-- ---- left sides

head_node : (m : Form) (at : Place) (ts : Trees) (x : Word) → (root_of_first ts ≡ Some x → head_first ts ≡ x) → root_form m (root_of_first ts) ≡ Some x → head_of (node m at ts) ≡ x
head_node (name y) at ts x k e = ap (λ o. elim o as (λ p. Word) [ None ↦ [] | (Some z) ↦ z ]) e
head_node (strict apply) at ts x k e = k e
head_node (strict (select a)) at ts x k e = k e
head_node m at ts x k e = cc

mutual
  pub head_root : (l : Tree) (x : Word) → root l ≡ Some x → head_of l ≡ x
  head_root (node m at ts) x e = head_node m at ts x (head_first_root ts x) e

  head_first_root : (ts : Trees) (x : Word) → root_of_first ts ≡ Some x → head_first ts ≡ x
  head_first_root no_trees x e = cc
  head_first_root (tree t ts) x e = head_root t x e

apply_keys : (ts : Trees) → count ts ≡ 2 → SomeKeys (keys_first ts)
apply_keys no_trees e = absurd (omega (arith, e))
apply_keys (tree f no_trees) e = absurd (omega (arith, e))
apply_keys (tree f (tree i us)) e = some_after (keys_of f) (sub i ∷ subs us) tt

part_keys : (l : Tree) (x : Word) → root l ≡ Some x → is_whole l ≡ false → IsWritable l → SomeKeys (keys_of l)
part_keys (node (name y) at ts) x e w h = cc
part_keys (node (strict apply) at ts) x e w h = apply_keys ts h.0
part_keys (node (strict (select a)) at ts) x e w h = some_after (keys_first ts) (fixed a ∷ []) tt
part_keys (node m at ts) x e w h = cc

-- ---- no part beside its whole

module _ (V : Word → Bool) where
  parts_of : (l m : Tree) → IsLeftSide V l → IsLeftSide V m → clash l m ≡ false → bytes_eq (head_of l) (head_of m) ≡ true → SomeKeys (keys_of l) × SomeKeys (keys_of m)
  parts_of l m h k c e =
      let x = h.1.0 in
      let y = k.1.0 in
      let same : same_word (root l) (root m) ≡ true = (λ i. same_word (h.1.1 i) (k.1.1 i)) ∙ sym (λ i. bytes_eq (head_root l x h.1.1 i) (head_root m y k.1.1 i)) ∙ e in
      let apart = or_parts (is_whole l) (is_whole m) (sym (ap (λ b. b && (is_whole l || is_whole m)) same) ∙ c) in
      (part_keys l x h.1.1 apart.0 h.0, part_keys m y k.1.1 apart.1 k.0)

  beside_of : (l : Tree) (ms : Assignments) → IsLeftSide V l → AreWritableAssignments V ms → clashes_with l ms ≡ false → Beside l ms
  beside_of l no_assignments h k c = tt
  beside_of l (assignment m e ms) h k c = (let d = or_parts (clash l m) (clashes_with l ms) c in (parts_of l m h k.0 d.0, beside_of l ms h k.2 d.1))

  in_parts : (ms : Assignments) → AreWritableAssignments V ms → clashes ms ≡ false → InParts ms
  in_parts no_assignments k c = tt
  in_parts (assignment l e ms) k c = (let d = or_parts (clashes_with l ms) (clashes ms) c in (beside_of l ms k.0 k.2 d.0, in_parts ms k.2 d.1))

  heads_known : (ms : Assignments) → AreWritableAssignments V ms → HeadsAre (λ x. V x ≡ true) ms
  heads_known no_assignments k = tt
  heads_known (assignment l e ms) k = (ap V (head_root l k.0.1.0 k.0.1.1) ∙ k.0.1.2, heads_known ms k.2)

-- ---- statements

-- what is asked of a statement besides, before its names are written
abbrev pub IsOpen : (Word → Bool) → (Word → Bool) → Statement → Type 0
IsOpen C V (assign ms) = HeadsAre (λ x. V x ≡ true) ms × InParts ms
IsOpen C V (either no_branches) = ⊥
IsOpen C V (goto l) = IsIdentifier l
IsOpen C V (macro m ts) = ⊥
IsOpen C V (call p ts) = C p.word ≡ true
IsOpen C V _ = Unit {0}

fits : (t : Tree) → IsWritable t → Fits IsIdentifier t
fits t h = writable_fits IsIdentifier (λ x i. i) t h

module _ (C V : Word → Bool) (known : (x : Word) → V x ≡ true → IsIdentifier x) where
  open_assignments : (ms : Assignments) → AreWritableAssignments V ms → AssignmentsFit IsIdentifier ms
  open_assignments no_assignments h = tt
  open_assignments (assignment l e ms) h =
      (subst IsIdentifier (sym (head_root l h.0.1.0 h.0.1.1)) (known h.0.1.0 h.0.1.2), fits l h.0.0, fits e h.1, open_assignments ms h.2)

  open_binds : (bs : Binds) → AreWritableBinds bs → BindsFit IsIdentifier bs
  open_binds no_binds h = tt
  open_binds (one_of x e bs) h = (h.0, fits e h.1, open_binds bs h.2)
  open_binds (is x e bs) h = (h.0, fits e h.1, open_binds bs h.2)

  mutual
    open_one : (st : Statement) → IsWritableStatement C V st → IsOpen C V st × StatementFits IsIdentifier (IsOpen C V) st
    open_one (assign ms) h = ((heads_known V ms h.0, in_parts V ms h.0 h.1), open_assignments ms h.0)
    open_one (await e) h = (tt, fits e h)
    open_one (print e) h = (tt, fits e h)
    open_one (assert e) h = (tt, fits e h)
    open_one skip h = (tt, tt)
    open_one (branch e a b) h = (tt, (fits e h.0, open_all a h.1, open_all b h.2))
    open_one (either no_branches) h = absurd h
    open_one (either (or b bs)) h = (tt, (open_all b h.0, open_some bs h.1))
    open_one (with bs b) h = (tt, inl (open_binds bs h.0, open_all b h.1))
    open_one (while e b) h = (tt, (fits e h.0, open_all b h.1))
    open_one (goto l) h = (h, tt)
    open_one (macro m ts) h = absurd h
    open_one (call p ts) h = (h.0, writable_all_fit IsIdentifier (λ x i. i) ts h.1)
    open_one return h = (tt, tt)

    pub open_all : (ss : Statements) → AreWritableStatements C V ss → StatementsFit IsIdentifier (IsOpen C V) ss
    open_all done h = tt
    open_all (then at st rest) h = (let k = open_one st h.0 in (k.0, k.1, open_all rest h.1))
    open_all (mark l k rest) h = (h.0, open_all rest h.1)

    open_some : (bs : Branches) → AreWritableBranches C V bs → OrsFit IsIdentifier (IsOpen C V) bs
    open_some no_branches h = tt
    open_some (or b bs) h = (open_all b h.0, open_some bs h.1)

-- ---- written names

pub among_one : (xs : List Word) (x : Word) → is_among xs x ≡ true → OneOf x xs
among_one [] x e = absurd (true_false (sym e))
among_one (y ∷ ys) x e = by (among_one ys x) (bytes_eq y x) refl e
  where
    by : (is_among ys x ≡ true → OneOf x ys) → (b : Bool) → bytes_eq y x ≡ b → (b || is_among ys x) ≡ true → OneOf x (y ∷ ys)
    by f true q d = inl (sym ((bytes_eq-Decides y x).0 q))
    by f false q d = inr (f d)

-- what is asked of the written names of a routine's variables: they are identifiers, apart, and no globals
pub record VariablesNamed (P : Program) (u : Routine) (G : Word → Bool) : Type 0 where
  pub identifiers : Each IsIdentifier (declared (locals u))
  pub named : (x : Word) → OneOf x (declared (locals u)) → IsIdentifier (written P u x)
  pub apart : (x y : Word) → OneOf x (declared (locals u)) → OneOf y (declared (locals u)) → bytes_eq (written P u x) (written P u y) ≡ true → bytes_eq x y ≡ true
  pub new : (x : Word) → OneOf x (declared (locals u)) → G (written P u x) ≡ false

module _ (P : Program) (u : Routine) (G : Word → Bool) (h : VariablesNamed P u G) where
  abbrev own_name : Word → Bool
  own_name x = declares (locals u) x

  abbrev renamed_word : Word → Word
  renamed_word x = cond (own_name x) (written P u x) x

  own_one : (x : Word) → own_name x ≡ true → OneOf x (declared (locals u))
  own_one x e = among_one (declared (locals u)) x e

  no_word : own_name [] ≡ false
  no_word = by (own_name []) refl
    where
      by : (b : Bool) → own_name [] ≡ b → b ≡ false
      by true e = absurd (true_false (sym (each_name IsIdentifier (declared (locals u)) h.identifiers [] e).0.1))
      by false e = refl

  pub renames_put : Puts IsIdentifier IsIdentifier (renames P u)
  renames_put x at i = by (own_name x) refl
    where
      by : (b : Bool) → own_name x ≡ b → IsPut IsIdentifier (cond b (Some (node (name (written P u x)) at no_trees)) None) x
      by true e = name_fits IsIdentifier at (written P u x) (h.named x (own_one x e))
      by false e = i

  name_head : (x : Word) (at : Place) (ts : Trees) → head_of (grafted_node (renames P u) (name x) at ts) ≡ renamed_word x
  name_head x at ts = by (own_name x)
    where
      by : (b : Bool) → head_of (grafted_name (cond b (Some (node (name (written P u x)) at no_trees)) None) (name x) at ts) ≡ cond b (written P u x) x
      by true = refl
      by false = refl

  left_head : (l : Tree) → head_of (graft_left (renames P u) l) ≡ renamed_word (head_of l)
  left_head l = head_left (renames P u) l ∙ head_graft (renames P u) renamed_word name_head (ap (λ b. cond b (written P u []) []) no_word) l

  renamed_identifier : (x : Word) → IsIdentifier x → IsIdentifier (renamed_word x)
  renamed_identifier x i = by (own_name x) refl
    where
      by : (b : Bool) → own_name x ≡ b → IsIdentifier (cond b (written P u x) x)
      by true e = h.named x (own_one x e)
      by false e = i

  abbrev Known : Word → Type 0
  Known x = (G x || own_name x) ≡ true

  global : (x : Word) → own_name x ≡ false → Known x → G x ≡ true
  global x e k = by (G x) (sym (ap (λ b. G x || b) e) ∙ k)
    where
      by : (b : Bool) → (b || false) ≡ true → b ≡ true
      by true q = refl
      by false q = q

  differs : (x y : Word) → own_name x ≡ true → own_name y ≡ false → Known y → bytes_eq (written P u x) y ≡ true → ⊥
  differs x y e d k q = true_false (sym (global y d k) ∙ sym (ap G ((bytes_eq-Decides (written P u x) y).0 q)) ∙ h.new x (own_one x e))

  flip : (x y : Word) → bytes_eq x y ≡ true → bytes_eq y x ≡ true
  flip x y e = (bytes_eq-Decides y x).1 (sym ((bytes_eq-Decides x y).0 e))

  renamed_apart : (x y : Word) → Known x → Known y → bytes_eq (renamed_word x) (renamed_word y) ≡ true → bytes_eq x y ≡ true
  renamed_apart x y k l = by (own_name x) (own_name y) refl refl
    where
      by : (b c : Bool) → own_name x ≡ b → own_name y ≡ c → bytes_eq (cond b (written P u x) x) (cond c (written P u y) y) ≡ true → bytes_eq x y ≡ true
      by true true e d q = h.apart x y (own_one x e) (own_one y d) q
      by true false e d q = absurd (differs x y e d l q)
      by false true e d q = absurd (differs y x d e k (flip x (written P u y) q))
      by false false e d q = q

  leaves_old : LeavesOld (renames P u)
  leaves_old x at e = by (own_name x) refl
    where
      by : (b : Bool) → own_name x ≡ b → cond b (Some (node (name (written P u x)) at no_trees)) None ≡ None
      by true d =
          absurd (true_false (sym (subst IsIdentifier (sym ((bytes_eq-Decides old_stack x).0 e)) (each_name IsIdentifier (declared (locals u)) h.identifiers x d)).0.0))
      by false d = refl

  module _ (C : Word → Bool) (D : Word → Type 0) (procedures : (x : Word) → C x ≡ true → D x) where
    named_asked : (L : Word → Type 0) (st : Statement) → IsOpen C (λ x. G x || own_name x) st → StatementFits L (IsOpen C (λ x. G x || own_name x)) st → IsLoose D (graft_one (renames P u) st)
    named_asked L (assign ms) a f = parts_graft (renames P u) renamed_word left_head Known renamed_apart ms a.0 a.1
    named_asked L (await e) a f = tt
    named_asked L (print e) a f = tt
    named_asked L (assert e) a f = tt
    named_asked L skip a f = tt
    named_asked L (branch e x y) a f = tt
    named_asked L (either no_branches) a f = absurd a
    named_asked L (either (or b bs)) a f = tt
    named_asked L (with bs b) a f = tt
    named_asked L (while e b) a f = tt
    named_asked L (goto l) a f = a
    named_asked L (macro m ts) a f = absurd a
    named_asked L (call p ts) a f = procedures p.word a
    named_asked L return a f = tt

    pub named_all : (ss : Statements) → StatementsFit IsIdentifier (IsOpen C (λ x. G x || own_name x)) ss → StatementsFit IsIdentifier (IsLoose D) (graft_all (renames P u) ss)
    named_all ss f =
        graft_all_fits (renames P u) (IsOpen C (λ x. G x || own_name x)) (IsLoose D) leaves_old
        (λ l i. subst IsIdentifier (sym (left_head l)) (renamed_identifier (head_of l) i)) named_asked IsIdentifier IsIdentifier renames_put ss f
