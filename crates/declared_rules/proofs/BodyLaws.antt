-- The parts of each kind of statement in memory, and of what is in a list of them.
use Rattle.std.proofs.Common.{◌≡◌, ℕ, ◌+◌, ◌<◌, ◌≤◌, List, [], ◌∷◌, ◌++◌, length, map, drop, get_or, Vec, Global, refl, sym, ap, ◌∙◌}
use Rattle.std.specs.List.{flat_map}
use Rattle.std.proofs.lemmas.List.{drop_more, drop_all}
use Rattle.tla_token.specs.declared.place.Place.{Place}
use Rattle.tla_tree.specs.Tree.{Name, Tree}
use Rattle.tla_tree.specs.Pool.{at, trees_at}
use Rattle.pcal_tree.specs.declared.mark.Mark.{Mark}
use Rattle.pcal_tree.specs.declared.algorithm.Span.{Span}
use Rattle.pcal_tree.specs.declared.algorithm.Assignment.{Assignment}
use Rattle.pcal_tree.specs.declared.algorithm.Bind.{Bind}
use Rattle.pcal_tree.specs.declared.algorithm.Bind.TheVariants as bind
use Rattle.pcal_tree.specs.declared.algorithm.Simple as declared_simple
use Rattle.pcal_tree.specs.declared.algorithm.Simple.TheVariants as simple
use Rattle.pcal_tree.specs.declared.algorithm.Stmt.{Stmt}
use Rattle.pcal_tree.specs.declared.algorithm.Stmt.TheVariants.{Label, Simple, If, Either, With, While}
use Rattle.pcal_tree.specs.Algorithm.{branch, either, with, while, Statements, then, mark}
use Rattle.pcal_tree.specs.InMemory.{span_of, simple_at, assignments_at, binds_at, Before, stmt_at, statements_at, branches_at}
use Rattle.pcal_tree.specs.BoundNames.{names_of_binds}
use Rattle.pcal_tree.proofs.InMemoryEach.{label_at, simple_in_list_at, if_at, either_at, with_at, while_at}
use Rattle.declared_rules.specs.declared.walk.Walked.{Walked}
use Rattle.declared_rules.specs.Parts.{Part, expression, bound, takes, labels, in_trees, in_assignments, in_binds, in_one, in_body, in_branches, expr_parts, assignment_parts, bind_parts, bind_name, simple_parts, body_parts}
use Rattle.declared_rules.specs.Walking.{Adds, AddsStmt}
use Rattle.declared_rules.proofs.WalkLaws.{adds_none, adds_then, adds_as}

-- ---- what stands in one

pub trees_parts : (ts : List Tree) (es : List ℕ) → flat_map (expr_parts ts) es ≡ in_trees (trees_at ts es)
trees_parts ts [] = refl
trees_parts ts (e ∷ es) = ap (λ (l : List Part). expression (at ts e) ∷ l) (trees_parts ts es)

assigned_parts : (ts : List Tree) (ms : List Assignment) → flat_map (assignment_parts ts) ms ≡ in_assignments (assignments_at ts ms)
assigned_parts ts [] = refl
assigned_parts ts (m ∷ ms) = ap (λ (l : List Part). expression (at ts m.left) ∷ expression (at ts m.right) ∷ l) (assigned_parts ts ms)

with_parts : (ts : List Tree) (bs : List Bind) → flat_map (bind_parts ts) bs ≡ in_binds (binds_at ts bs)
with_parts ts [] = refl
with_parts ts (bind.Among x e ∷ bs) = ap (λ (l : List Part). expression (at ts e) ∷ l) (with_parts ts bs)
with_parts ts (bind.Is x e ∷ bs) = ap (λ (l : List Part). expression (at ts e) ∷ l) (with_parts ts bs)

with_names : (ts : List Tree) (bs : List Bind) → map bind_name bs ≡ names_of_binds (binds_at ts bs)
with_names ts [] = refl
with_names ts (bind.Among x e ∷ bs) = ap (λ (l : List Name). x ∷ l) (with_names ts bs)
with_names ts (bind.Is x e ∷ bs) = ap (λ (l : List Name). x ∷ l) (with_names ts bs)

simple_is : (ts : List Tree) (p : Place) (x : declared_simple.Simple) → simple_parts ts p x ≡ in_one p (simple_at ts x)
simple_is ts p (simple.Assign ms) = assigned_parts ts ms.items
simple_is ts p (simple.Await e) = refl
simple_is ts p (simple.Print e) = refl
simple_is ts p (simple.Assert e) = refl
simple_is ts p simple.Skip = refl
simple_is ts p (simple.Goto x) = refl
simple_is ts p (simple.Macro x es) = trees_parts ts es.items
simple_is ts p (simple.Call x es) = trees_parts ts es.items
simple_is ts p simple.Return = refl

-- ---- each kind of statement

standing : (ts : List Tree) (j k : Walked) (s : Stmt) (f : Before) (these : List Part) → stmt_at ts s ≡ f → ((rest : Statements) → in_body (f rest) ≡ these ++ in_body rest) → Adds ts j k these → AddsStmt ts s j k
standing ts j k s f these e a g = record { these = these; ahead = λ rest. ap (λ (f : Before). in_body (f rest)) e ∙ a rest; adds = g }

pub label_adds : (ts : List Tree) (j k : Walked) (x : Name) (m : Mark) → Adds ts j k (labels x ∷ []) → AddsStmt ts (Label x m) j k
label_adds ts j k x m g = standing ts j k (Label x m) (mark x m) (labels x ∷ []) (label_at ts x m) (λ rest. refl) g

pub simple_adds : (ts : List Tree) (j k : Walked) (s : Span) (x : declared_simple.Simple) → Adds ts j k (simple_parts ts s.first x) → AddsStmt ts (Simple s x) j k
simple_adds ts j k s x g = standing ts j k (Simple s x) (then (span_of s) (simple_at ts x)) (in_one s.first (simple_at ts x)) (simple_in_list_at ts s x) (λ rest. refl) (adds_as ts j k _ _ (simple_is ts s.first x) g)

pub if_adds : (ts : List Tree) (i j k l : Walked) (s : Span) (e : ℕ) (a b : Vec Stmt Global) → Adds ts i j (expr_parts ts e) → Adds ts j k (body_parts ts a.items) → Adds ts k l (body_parts ts b.items)
    → AddsStmt ts (If s e a b) i l
if_adds ts i j k l s e a b g h m =
    standing ts i l (If s e a b) (then (span_of s) (branch (at ts e) (statements_at ts a.items) (statements_at ts b.items)))
    (in_one s.first (branch (at ts e) (statements_at ts a.items) (statements_at ts b.items))) (if_at ts s e a b) (λ rest. refl)
    (adds_then ts i j l (expr_parts ts e) _ g (adds_then ts j k l _ _ h m))

pub either_adds : (ts : List Tree) (j k : Walked) (s : Span) (bs : Vec (Vec Stmt Global) Global) → Adds ts j k (in_branches (branches_at ts bs.items)) → AddsStmt ts (Either s bs) j k
either_adds ts j k s bs g = standing ts j k (Either s bs) (then (span_of s) (either (branches_at ts bs.items))) (in_branches (branches_at ts bs.items)) (either_at ts s bs) (λ rest. refl) g

pub with_adds : (ts : List Tree) (i j k l : Walked) (s : Span) (bs : Vec Bind Global) (b : Vec Stmt Global) → Adds ts i j (bound (map bind_name bs.items) ∷ takes (map bind_name bs.items) ∷ []) → Adds ts j k (flat_map (bind_parts ts) bs.items)
    → Adds ts k l (body_parts ts b.items) → AddsStmt ts (With s bs b) i l
with_adds ts i j k l s bs b f g h =
    standing ts i l (With s bs b) (then (span_of s) (with (binds_at ts bs.items) (statements_at ts b.items)))
    (in_one s.first (with (binds_at ts bs.items) (statements_at ts b.items))) (with_at ts s bs b) (λ rest. refl)
    (adds_then ts i j l _ _ (adds_as ts i j _ _ (ap (λ (ns : List Name). bound ns ∷ takes ns ∷ []) (with_names ts bs.items)) f)
    (adds_then ts j k l _ _ (adds_as ts j k _ _ (with_parts ts bs.items) g) h))

pub while_adds : (ts : List Tree) (j k l : Walked) (s : Span) (e : ℕ) (b : Vec Stmt Global) → Adds ts j k (expr_parts ts e) → Adds ts k l (body_parts ts b.items) → AddsStmt ts (While s e b) j l
while_adds ts j k l s e b g h =
    standing ts j l (While s e b) (then (span_of s) (while (at ts e) (statements_at ts b.items))) (in_one s.first (while (at ts e) (statements_at ts b.items))) (while_at ts s e b) (λ rest. refl)
    (adds_then ts j k l (expr_parts ts e) _ g h)

-- ---- lists: what is left of one still gives the whole

pub body_then : (ts : List Tree) (j k l : Walked) (ss : List Stmt) (i : ℕ) (s : Stmt) → s ≡ get_or ss i s → i < length ss → AddsStmt ts s j k → Adds ts k l (body_parts ts (drop (i + 1) ss))
    → Adds ts j l (body_parts ts (drop i ss))
body_then ts j k l ss i s e less n g =
    adds_as ts j l _ _
    (sym (n.ahead (statements_at ts (drop (i + 1) ss))) ∙ ap (λ (ys : List Stmt). in_body (statements_at ts ys)) (ap (λ (y : Stmt). y ∷ drop (i + 1) ss) e ∙ sym (drop_more ss i s less)))
    (adds_then ts j k l n.these _ n.adds g)

pub body_done : (ts : List Tree) (k : Walked) (ss : List Stmt) (i : ℕ) → length ss ≤ i → Adds ts k k (body_parts ts (drop i ss))
body_done ts k ss i less = adds_as ts k k _ _ (ap (body_parts ts) (sym (drop_all i ss less))) (adds_none ts k)

pub branches_then : (ts : List Tree) (j k l : Walked) (bs : List (Vec Stmt Global)) (i : ℕ) (b : Vec Stmt Global) → b ≡ get_or bs i b → i < length bs → Adds ts j k (body_parts ts b.items)
    → Adds ts k l (in_branches (branches_at ts (drop (i + 1) bs))) → Adds ts j l (in_branches (branches_at ts (drop i bs)))
branches_then ts j k l bs i b e less n g =
    adds_as ts j l _ _
    (ap (λ (ys : List (Vec Stmt Global)). in_branches (branches_at ts ys)) (ap (λ (y : Vec Stmt Global). y ∷ drop (i + 1) bs) e ∙ sym (drop_more bs i b less)))
    (adds_then ts j k l (body_parts ts b.items) _ n g)

pub branches_over : (ts : List Tree) (k : Walked) (bs : List (Vec Stmt Global)) (i : ℕ) → length bs ≤ i → Adds ts k k (in_branches (branches_at ts (drop i bs)))
branches_over ts k bs i less = adds_as ts k k _ _ (ap (λ (ys : List (Vec Stmt Global)). in_branches (branches_at ts ys)) (sym (drop_all i bs less))) (adds_none ts k)
