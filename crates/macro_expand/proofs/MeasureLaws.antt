-- Measures of statements part by part: what carries one measure over to another, macro calls written out, arguments put in.
use Rattle.std.proofs.Common.{◌≡◌, ℕ, ◌+◌, suc, List, [], ◌∷◌, map, Bool, true, false, cond, max, refl, sym, ap, ◌∙◌, arith}
use Rattle.tla_tree.specs.Tree.{Word, Name, Tree, Trees, no_trees, tree, Graft, graft, grafts}
use Rattle.pcal_tree.specs.Algorithm.{Span, Assignments, no_assignments, assignment, Binds, no_binds, one_of, is, Statement, assign, await, print, assert, skip, branch, either, with, while, goto, macro, call, return, Statements, done, then, mark, Branches, no_branches, or, Start, unset, equals, among, Declaration, Definition, Procedure, Process, Main, alone, processes, Algorithm}
use Rattle.pcal_tree.specs.Expand.{Writing, expand, expand_one, expand_some, followed_by, graft_left, graft_assignments, graft_binds, graft_one, graft_all, graft_some}
use Rattle.macro_expand.specs.Measured.{Measure, Calls, of_trees, of_assignments, of_binds, how_many, of_one, of_all, of_some, of_each, of_start, of_declared, of_procedure, of_process, of_main, of_algorithm}

-- ---- from one measure to another

pub record Carries (X Y : Type 0) (M : Measure X) (N : Measure Y) (h : X → Y) : Type 0 where
  pub nothing : h M.nothing ≡ N.nothing
  pub both : (x y : X) → h (M.both x y) ≡ N.both (h x) (h y)
  pub expression : (t : Tree) → h (M.expression t) ≡ N.expression t
  pub left : (t : Tree) → h (M.left t) ≡ N.left t
  pub statement : (x : X) → h (M.statement x) ≡ N.statement (h x)
  pub inside : (k : ℕ) (x : X) → h (M.inside k x) ≡ N.inside k (h x)
  pub label : (x : X) → h (M.label x) ≡ N.label (h x)

two : {X Y : Type 0} {M : Measure X} {N : Measure Y} {h : X → Y} (H : Carries X Y M N h) {x y : X} {u v : Y} → h x ≡ u → h y ≡ v → h (M.both x y) ≡ N.both u v
two {N = N} H {x = x} {y = y} p q = H.both x y ∙ (λ z. N.both (p z) (q z))

one : {X Y : Type 0} {M : Measure X} {N : Measure Y} {h : X → Y} (H : Carries X Y M N h) {x : X} {u : Y} → h x ≡ u → h (M.statement x) ≡ N.statement u
one {N = N} H {x = x} p = H.statement x ∙ (λ z. N.statement (p z))

deep : {X Y : Type 0} {M : Measure X} {N : Measure Y} {h : X → Y} (H : Carries X Y M N h) (k : ℕ) {x : X} {u : Y} → h x ≡ u → h (M.inside k x) ≡ N.inside k u
deep {N = N} H k {x = x} p = H.inside k x ∙ (λ z. N.inside k (p z))

pub carry_trees : {X Y : Type 0} {M : Measure X} {N : Measure Y} {h : X → Y} (H : Carries X Y M N h) (ts : Trees) → h (of_trees M ts) ≡ of_trees N ts
carry_trees H no_trees = H.nothing
carry_trees H (tree t ts) = two H (H.expression t) (carry_trees H ts)

carry_assignments : {X Y : Type 0} {M : Measure X} {N : Measure Y} {h : X → Y} (H : Carries X Y M N h) (ms : Assignments) → h (of_assignments M ms) ≡ of_assignments N ms
carry_assignments H no_assignments = H.nothing
carry_assignments H (assignment l e ms) = two H (H.left l) (two H (H.expression e) (carry_assignments H ms))

carry_binds : {X Y : Type 0} {M : Measure X} {N : Measure Y} {h : X → Y} (H : Carries X Y M N h) (bs : Binds) → h (of_binds M bs) ≡ of_binds N bs
carry_binds H no_binds = H.nothing
carry_binds H (one_of x e bs) = two H (H.expression e) (carry_binds H bs)
carry_binds H (is x e bs) = two H (H.expression e) (carry_binds H bs)

mutual
  carry_one : {X Y : Type 0} {M : Measure X} {N : Measure Y} {h : X → Y} (H : Carries X Y M N h) (C : Calls X) (D : Calls Y) → ((m : Word) (ts : Trees) → h (C m ts) ≡ D m ts) → (st : Statement) → h (of_one M C st) ≡ of_one N D st
  carry_one H C D c (assign ms) = one H (carry_assignments H ms)
  carry_one H C D c (await e) = one H (H.expression e)
  carry_one H C D c (print e) = one H (H.expression e)
  carry_one H C D c (assert e) = one H (H.expression e)
  carry_one H C D c skip = one H H.nothing
  carry_one H C D c (branch e a b) = one H (two H (H.expression e) (deep H 1 (two H (carry_all H C D c a) (carry_all H C D c b))))
  carry_one H C D c (either bs) = one H (deep H 1 (carry_some H C D c bs))
  carry_one H C D c (with bs b) = one H (two H (carry_binds H bs) (deep H (how_many bs) (carry_all H C D c b)))
  carry_one H C D c (while e b) = one H (two H (H.expression e) (deep H 1 (carry_all H C D c b)))
  carry_one H C D c (goto l) = one H H.nothing
  carry_one H C D c (macro m ts) = c m ts
  carry_one H C D c (call p ts) = one H (carry_trees H ts)
  carry_one H C D c return = one H H.nothing

  pub carry_all : {X Y : Type 0} {M : Measure X} {N : Measure Y} {h : X → Y} (H : Carries X Y M N h) (C : Calls X) (D : Calls Y) → ((m : Word) (ts : Trees) → h (C m ts) ≡ D m ts) → (b : Statements) → h (of_all M C b) ≡ of_all N D b
  carry_all H C D c done = H.nothing
  carry_all H C D c (then at st rest) = two H (carry_one H C D c st) (carry_all H C D c rest)
  carry_all {M = M} {N = N} H C D c (mark l k rest) = H.label (of_all M C rest) ∙ (λ z. N.label (carry_all H C D c rest z))

  carry_some : {X Y : Type 0} {M : Measure X} {N : Measure Y} {h : X → Y} (H : Carries X Y M N h) (C : Calls X) (D : Calls Y) → ((m : Word) (ts : Trees) → h (C m ts) ≡ D m ts) → (bs : Branches) → h (of_some M C bs) ≡ of_some N D bs
  carry_some H C D c no_branches = H.nothing
  carry_some H C D c (or b bs) = two H (carry_all H C D c b) (carry_some H C D c bs)

carry_each : {X Y A : Type 0} {M : Measure X} {N : Measure Y} {h : X → Y} (H : Carries X Y M N h) (f : A → X) (g : A → Y) → ((a : A) → h (f a) ≡ g a) → (xs : List A) → h (of_each M f xs) ≡ of_each N g xs
carry_each H f g e [] = H.nothing
carry_each H f g e (a ∷ rest) = two H (e a) (carry_each H f g e rest)

carry_start : {X Y : Type 0} {M : Measure X} {N : Measure Y} {h : X → Y} (H : Carries X Y M N h) (s : Start) → h (of_start M s) ≡ of_start N s
carry_start H unset = H.nothing
carry_start H (equals e) = H.expression e
carry_start H (among e) = H.expression e

carry_declared : {X Y : Type 0} {M : Measure X} {N : Measure Y} {h : X → Y} (H : Carries X Y M N h) (ds : List Declaration) → h (of_declared M ds) ≡ of_declared N ds
carry_declared {M = M} {N = N} H ds = carry_each H (λ (d : Declaration). of_start M d.start) (λ (d : Declaration). of_start N d.start) (λ d. carry_start H d.start) ds

carry_main : {X Y : Type 0} {M : Measure X} {N : Measure Y} {h : X → Y} (H : Carries X Y M N h) (C : Calls X) (D : Calls Y) → ((m : Word) (ts : Trees) → h (C m ts) ≡ D m ts) → (m : Main) → h (of_main M C m) ≡ of_main N D m
carry_main H C D c (alone b) = carry_all H C D c b
carry_main {M = M} {N = N} H C D c (processes ps) = carry_each H (of_process M C) (of_process N D) (λ p. two H (H.expression p.identity) (two H (carry_declared H p.variables) (carry_all H C D c p.body))) ps

pub carry_algorithm : {X Y : Type 0} {M : Measure X} {N : Measure Y} {h : X → Y} (H : Carries X Y M N h) (C : Calls X) (D : Calls Y) → ((m : Word) (ts : Trees) → h (C m ts) ≡ D m ts) → (a : Algorithm) → h (of_algorithm M C a) ≡ of_algorithm N D a
carry_algorithm {M = M} {N = N} H C D c a =
    two H (carry_declared H a.globals)
    (two H (carry_each H (λ (d : Definition). M.expression d.body) (λ (d : Definition). N.expression d.body) (λ d. H.expression d.body) a.definitions)
    (two H (carry_each H (of_procedure M C) (of_procedure N D) (λ p. two H (carry_declared H p.params) (two H (carry_declared H p.variables) (carry_all H C D c p.body))) a.procedures)
    (carry_main H C D c a.main)))

-- ---- macro calls written out

pub record Joins (Y : Type 0) (N : Measure Y) : Type 0 where
  pub nothing : (x : Y) → N.both N.nothing x ≡ x
  pub three : (x y z : Y) → N.both (N.both x y) z ≡ N.both x (N.both y z)
  pub label : (x y : Y) → N.both (N.label x) y ≡ N.label (N.both x y)

of_joined : {Y : Type 0} {N : Measure Y} (J : Joins Y N) (D : Calls Y) (a b : Statements) → of_all N D (followed_by a b) ≡ N.both (of_all N D a) (of_all N D b)
of_joined {N = N} J D done b = sym (J.nothing (of_all N D b))
of_joined {N = N} J D (then at st a) b = (λ z. N.both (of_one N D st) (of_joined J D a b z)) ∙ sym (J.three (of_one N D st) (of_all N D a) (of_all N D b))
of_joined {N = N} J D (mark l k a) b = (λ z. N.label (of_joined J D a b z)) ∙ sym (J.label (of_all N D a) (of_all N D b))

mutual
  written_one : {Y : Type 0} {N : Measure Y} (J : Joins Y N) (C D : Calls Y) (X : Writing) → ((at : Span) (m : Word) (ts : Trees) → C m ts ≡ of_all N D (X at m ts)) → (at : Span) (st : Statement) (rest : Statements)
      → of_all N C rest ≡ of_all N D (expand X rest) → N.both (of_one N C st) (of_all N C rest) ≡ of_all N D (expand_one X at st (expand X rest))
  written_one {N = N} J C D X c at (assign ms) rest h = λ z. N.both (N.statement (of_assignments N ms)) (h z)
  written_one {N = N} J C D X c at (await e) rest h = λ z. N.both (N.statement (N.expression e)) (h z)
  written_one {N = N} J C D X c at (print e) rest h = λ z. N.both (N.statement (N.expression e)) (h z)
  written_one {N = N} J C D X c at (assert e) rest h = λ z. N.both (N.statement (N.expression e)) (h z)
  written_one {N = N} J C D X c at skip rest h = λ z. N.both (N.statement N.nothing) (h z)
  written_one {N = N} J C D X c at (branch e a b) rest h = λ z. N.both (N.statement (N.both (N.expression e) (N.inside 1 (N.both (written_all J C D X c a z) (written_all J C D X c b z))))) (h z)
  written_one {N = N} J C D X c at (either bs) rest h = λ z. N.both (N.statement (N.inside 1 (written_some J C D X c bs z))) (h z)
  written_one {N = N} J C D X c at (with bs b) rest h = λ z. N.both (N.statement (N.both (of_binds N bs) (N.inside (how_many bs) (written_all J C D X c b z)))) (h z)
  written_one {N = N} J C D X c at (while e b) rest h = λ z. N.both (N.statement (N.both (N.expression e) (N.inside 1 (written_all J C D X c b z)))) (h z)
  written_one {N = N} J C D X c at (goto l) rest h = λ z. N.both (N.statement N.nothing) (h z)
  written_one {N = N} J C D X c at (macro m ts) rest h = (λ z. N.both (c at m ts z) (h z)) ∙ sym (of_joined J D (X at m ts) (expand X rest))
  written_one {N = N} J C D X c at (call p ts) rest h = λ z. N.both (N.statement (of_trees N ts)) (h z)
  written_one {N = N} J C D X c at return rest h = λ z. N.both (N.statement N.nothing) (h z)

  pub written_all : {Y : Type 0} {N : Measure Y} (J : Joins Y N) (C D : Calls Y) (X : Writing) → ((at : Span) (m : Word) (ts : Trees) → C m ts ≡ of_all N D (X at m ts)) → (b : Statements) → of_all N C b ≡ of_all N D (expand X b)
  written_all J C D X c done = refl
  written_all J C D X c (then at st rest) = written_one J C D X c at st rest (written_all J C D X c rest)
  written_all {N = N} J C D X c (mark l k rest) = λ z. N.label (written_all J C D X c rest z)

  written_some : {Y : Type 0} {N : Measure Y} (J : Joins Y N) (C D : Calls Y) (X : Writing) → ((at : Span) (m : Word) (ts : Trees) → C m ts ≡ of_all N D (X at m ts)) → (bs : Branches) → of_some N C bs ≡ of_some N D (expand_some X bs)
  written_some J C D X c no_branches = refl
  written_some {N = N} J C D X c (or b bs) = λ z. N.both (written_all J C D X c b z) (written_some J C D X c bs z)

-- ---- trees put in: the one measure sees them, and the other one the names

pub record Puts (Y : Type 0) (N R : Measure Y) (g : Graft) : Type 0 where
  pub expression : (t : Tree) → N.expression (graft g t) ≡ R.expression t
  pub left : (t : Tree) → N.left (graft_left g t) ≡ R.left t
  pub nothing : N.nothing ≡ R.nothing
  pub both : (x y : Y) → N.both x y ≡ R.both x y
  pub statement : (x : Y) → N.statement x ≡ R.statement x
  pub inside : (k : ℕ) (x : Y) → N.inside k x ≡ R.inside k x
  pub label : (x : Y) → N.label x ≡ R.label x

pair : {Y : Type 0} {N R : Measure Y} {g : Graft} (P : Puts Y N R g) {x y u v : Y} → x ≡ u → y ≡ v → N.both x y ≡ R.both u v
pair {R = R} P {x = x} {y = y} p q = P.both x y ∙ (λ z. R.both (p z) (q z))

single : {Y : Type 0} {N R : Measure Y} {g : Graft} (P : Puts Y N R g) {x u : Y} → x ≡ u → N.statement x ≡ R.statement u
single {R = R} P {x = x} p = P.statement x ∙ (λ z. R.statement (p z))

sunk : {Y : Type 0} {N R : Measure Y} {g : Graft} (P : Puts Y N R g) (k : ℕ) {x u : Y} → x ≡ u → N.inside k x ≡ R.inside k u
sunk {R = R} P k {x = x} p = P.inside k x ∙ (λ z. R.inside k (p z))

pub put_trees : {Y : Type 0} {N R : Measure Y} {g : Graft} (P : Puts Y N R g) (ts : Trees) → of_trees N (grafts g ts) ≡ of_trees R ts
put_trees P no_trees = P.nothing
put_trees P (tree t ts) = pair P (P.expression t) (put_trees P ts)

put_assignments : {Y : Type 0} {N R : Measure Y} {g : Graft} (P : Puts Y N R g) (ms : Assignments) → of_assignments N (graft_assignments g ms) ≡ of_assignments R ms
put_assignments P no_assignments = P.nothing
put_assignments P (assignment l e ms) = pair P (P.left l) (pair P (P.expression e) (put_assignments P ms))

put_binds : {Y : Type 0} {N R : Measure Y} {g : Graft} (P : Puts Y N R g) (bs : Binds) → of_binds N (graft_binds g bs) ≡ of_binds R bs
put_binds P no_binds = P.nothing
put_binds P (one_of x e bs) = pair P (P.expression e) (put_binds P bs)
put_binds P (is x e bs) = pair P (P.expression e) (put_binds P bs)

as_many : (g : Graft) (bs : Binds) → how_many (graft_binds g bs) ≡ how_many bs
as_many g no_binds = refl
as_many g (one_of x e bs) = ap suc (as_many g bs)
as_many g (is x e bs) = ap suc (as_many g bs)

mutual
  put_one : {Y : Type 0} {N R : Measure Y} {g : Graft} (P : Puts Y N R g) (C D : Calls Y) → ((m : Word) (ts : Trees) → C m (grafts g ts) ≡ D m ts) → (st : Statement) → of_one N C (graft_one g st) ≡ of_one R D st
  put_one P C D c (assign ms) = single P (put_assignments P ms)
  put_one P C D c (await e) = single P (P.expression e)
  put_one P C D c (print e) = single P (P.expression e)
  put_one P C D c (assert e) = single P (P.expression e)
  put_one P C D c skip = single P P.nothing
  put_one P C D c (branch e a b) = single P (pair P (P.expression e) (sunk P 1 (pair P (put_all P C D c a) (put_all P C D c b))))
  put_one P C D c (either bs) = single P (sunk P 1 (put_some P C D c bs))
  put_one {N = N} {g = g} P C D c (with bs b) = single P (pair P (put_binds P bs) (ap (λ (k : ℕ). N.inside k (of_all N C (graft_all g b))) (as_many g bs) ∙ sunk P (how_many bs) (put_all P C D c b)))
  put_one P C D c (while e b) = single P (pair P (P.expression e) (sunk P 1 (put_all P C D c b)))
  put_one P C D c (goto l) = single P P.nothing
  put_one P C D c (macro m ts) = c m ts
  put_one P C D c (call p ts) = single P (put_trees P ts)
  put_one P C D c return = single P P.nothing

  pub put_all : {Y : Type 0} {N R : Measure Y} {g : Graft} (P : Puts Y N R g) (C D : Calls Y) → ((m : Word) (ts : Trees) → C m (grafts g ts) ≡ D m ts) → (b : Statements) → of_all N C (graft_all g b) ≡ of_all R D b
  put_all P C D c done = P.nothing
  put_all P C D c (then at st rest) = pair P (put_one P C D c st) (put_all P C D c rest)
  put_all {N = N} {R = R} {g = g} P C D c (mark l k rest) = P.label (of_all N C (graft_all g rest)) ∙ (λ z. R.label (put_all P C D c rest z))

  put_some : {Y : Type 0} {N R : Measure Y} {g : Graft} (P : Puts Y N R g) (C D : Calls Y) → ((m : Word) (ts : Trees) → C m (grafts g ts) ≡ D m ts) → (bs : Branches) → of_some N C (graft_some g bs) ≡ of_some R D bs
  put_some P C D c no_branches = P.nothing
  put_some P C D c (or b bs) = pair P (put_all P C D c b) (put_some P C D c bs)
