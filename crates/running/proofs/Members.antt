-- Each kind of list in memory: what its members stand for before the rest, and what the list does.
use Rattle.std.proofs.Common.{◌≡◌, ℕ, ◌≤◌, List, [], ◌∷◌, length, Vec, Global, refl, ap, ◌∙◌, sym, arith}
use Rattle.tla_tree.specs.Tree.{Tree, Trees, no_trees, tree, Graft, grafts}
use Rattle.tla_tree.specs.Pool.{at, trees_at, Keeps}
use Rattle.pcal_tree.specs.declared.algorithm.Assignment.{Assignment}
use Rattle.pcal_tree.specs.declared.algorithm.Bind.{Bind}
use Rattle.pcal_tree.specs.declared.algorithm.Bind.TheVariants as bind
use Rattle.pcal_tree.specs.declared.algorithm.Stmt.{Stmt}
use Rattle.pcal_tree.specs.declared.algorithm.Declaration as code
use Rattle.pcal_tree.specs.Algorithm.{Assignments, no_assignments, assignment, Binds, no_binds, one_of, is, Statements, done, Branches, no_branches, or, Declaration}
use Rattle.pcal_tree.specs.InMemory.{assignments_at, bind_at, binds_at, stmt_at, statements_at, branches_at, declaration_at, declarations_at, past_number, past_assignment, past_bind, past_stmt, past_statements, past_declaration}
use Rattle.pcal_tree.specs.Expand.{graft_assignments, graft_binds, graft_all, graft_some}
use Rattle.pcal_tree.proofs.InMemoryGrown.{start_at-kept, stmt_at-kept, statements_at-kept}
use Rattle.running.specs.Prepared.{graft_declarations}
use Rattle.running.proofs.MadeOnto.{onto, Grows, Made}

-- ---- what is made of what follows

module _ (h g : Graft) where
  abbrev pub numbers_twice : Trees → Trees
  numbers_twice us = grafts h (grafts g us)

  abbrev pub assignments_twice : Assignments → Assignments
  assignments_twice ms = graft_assignments h (graft_assignments g ms)

  abbrev pub binds_twice : Binds → Binds
  binds_twice bs = graft_binds h (graft_binds g bs)

  abbrev pub all_twice : Statements → Statements
  all_twice b = graft_all h (graft_all g b)

  abbrev pub some_twice : Branches → Branches
  some_twice bs = graft_some h (graft_some g bs)

  abbrev pub declarations_twice : List Declaration → List Declaration
  declarations_twice ds = graft_declarations h (graft_declarations g ds)

-- ---- members

abbrev pub number_before : List Tree → ℕ → Trees → Trees
number_before ts e = tree (at ts e)

abbrev pub assignment_before : List Tree → Assignment → Assignments → Assignments
assignment_before ts m = assignment (at ts m.left) (at ts m.right)

abbrev pub past_branch : Vec Stmt Global → ℕ
past_branch b = past_statements b.items

abbrev pub branch_before : List Tree → Vec Stmt Global → Branches → Branches
branch_before ts b = or (statements_at ts b.items)

abbrev pub declaration_before : List Tree → code.Declaration → List Declaration → List Declaration
declaration_before ts d ds = declaration_at ts d ∷ ds

-- ---- as the pool grows

pub numbers_grow : Grows past_number number_before
numbers_grow ts us k e h = λ j. tree (k.same e (omega (arith, h)) j)

pub assignments_grow : Grows past_assignment assignment_before
assignments_grow ts us k m h = λ j. assignment (k.same m.left (omega (arith, h)) j) (k.same m.right (omega (arith, h)) j)

pub binds_grow : Grows past_bind bind_at
binds_grow ts us k (bind.Among x e) h = λ j bs. one_of x (k.same e (omega (arith, h)) j) bs
binds_grow ts us k (bind.Is x e) h = λ j bs. is x (k.same e (omega (arith, h)) j) bs

pub stmts_grow : Grows past_stmt stmt_at
stmts_grow ts us k s h = stmt_at-kept ts us k s h

pub branches_grow : Grows past_branch branch_before
branches_grow ts us k b h = λ j. or (statements_at-kept ts us k b.items h j)

pub declaration_grown : (ts us : List Tree) → Keeps ts us → (d : code.Declaration) → past_declaration d ≤ length ts → declaration_at us d ≡ declaration_at ts d
declaration_grown ts us k d h = λ j. record { name = d.name; start = start_at-kept ts us k d.start h j }

pub declarations_grow : Grows past_declaration declaration_before
declarations_grow ts us k d h = λ j ds. declaration_grown ts us k d h j ∷ ds

-- ---- lists

numbers_onto : (ts : List Tree) (es : List ℕ) → trees_at ts es ≡ onto (number_before ts) no_trees es
numbers_onto ts [] = refl
numbers_onto ts (e ∷ es) = ap (number_before ts e) (numbers_onto ts es)

assignments_onto : (ts : List Tree) (ms : List Assignment) → assignments_at ts ms ≡ onto (assignment_before ts) no_assignments ms
assignments_onto ts [] = refl
assignments_onto ts (m ∷ ms) = ap (assignment_before ts m) (assignments_onto ts ms)

binds_onto : (ts : List Tree) (bs : List Bind) → binds_at ts bs ≡ onto (bind_at ts) no_binds bs
binds_onto ts [] = refl
binds_onto ts (b ∷ bs) = ap (bind_at ts b) (binds_onto ts bs)

stmts_onto : (ts : List Tree) (ss : List Stmt) → statements_at ts ss ≡ onto (stmt_at ts) done ss
stmts_onto ts [] = refl
stmts_onto ts (s ∷ ss) = ap (stmt_at ts s) (stmts_onto ts ss)

branches_onto : (ts : List Tree) (bs : List (Vec Stmt Global)) → branches_at ts bs ≡ onto (branch_before ts) no_branches bs
branches_onto ts [] = refl
branches_onto ts (b ∷ bs) = ap (branch_before ts b) (branches_onto ts bs)

declarations_onto : (ts : List Tree) (ds : List code.Declaration) → declarations_at ts ds ≡ onto (declaration_before ts) [] ds
declarations_onto ts [] = refl
declarations_onto ts (d ∷ ds) = ap (declaration_before ts d) (declarations_onto ts ds)

module _ (h g : Graft) (old ts : List Tree) where
  pub numbers_made : (rs es : List ℕ) → Made past_number number_before (numbers_twice h g) old ts rs es → trees_at ts rs ≡ grafts h (grafts g (trees_at old es))
  numbers_made rs es m = numbers_onto ts rs ∙ m.stand no_trees ∙ ap (numbers_twice h g) (sym (numbers_onto old es))

  pub assignments_made : (rs ms : List Assignment) → Made past_assignment assignment_before (assignments_twice h g) old ts rs ms → assignments_at ts rs ≡ graft_assignments h (graft_assignments g (assignments_at old ms))
  assignments_made rs ms m = assignments_onto ts rs ∙ m.stand no_assignments ∙ ap (assignments_twice h g) (sym (assignments_onto old ms))

  pub binds_made : (rs bs : List Bind) → Made past_bind bind_at (binds_twice h g) old ts rs bs → binds_at ts rs ≡ graft_binds h (graft_binds g (binds_at old bs))
  binds_made rs bs m = binds_onto ts rs ∙ m.stand no_binds ∙ ap (binds_twice h g) (sym (binds_onto old bs))

  pub stmts_made : (rs ss : List Stmt) → Made past_stmt stmt_at (all_twice h g) old ts rs ss → statements_at ts rs ≡ graft_all h (graft_all g (statements_at old ss))
  stmts_made rs ss m = stmts_onto ts rs ∙ m.stand done ∙ ap (all_twice h g) (sym (stmts_onto old ss))

  pub branches_made : (rs bs : List (Vec Stmt Global)) → Made past_branch branch_before (some_twice h g) old ts rs bs → branches_at ts rs ≡ graft_some h (graft_some g (branches_at old bs))
  branches_made rs bs m = branches_onto ts rs ∙ m.stand no_branches ∙ ap (some_twice h g) (sym (branches_onto old bs))

  pub declarations_made : (rs ds : List code.Declaration) → Made past_declaration declaration_before (declarations_twice h g) old ts rs ds → declarations_at ts rs ≡ graft_declarations h (graft_declarations g (declarations_at old ds))
  declarations_made rs ds m = declarations_onto ts rs ∙ m.stand [] ∙ ap (declarations_twice h g) (sym (declarations_onto old ds))
