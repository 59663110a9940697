-- Lists and branches in memory with more behind them, and that a pool that grows keeps what they stand for.
use Rattle.std.proofs.Common.{◌≡◌, ◌≤◌, List, [], ◌∷◌, ◌++◌, length, Vec, Global, refl, ap, ◌∙◌, arith}
use Rattle.tla_tree.specs.Tree.{Tree}
use Rattle.tla_tree.specs.Pool.{Keeps}
use Rattle.pcal_tree.specs.declared.algorithm.Stmt.{Stmt}
use Rattle.pcal_tree.specs.Algorithm.{Statements, Branches}
use Rattle.pcal_tree.specs.Algorithm as tree
use Rattle.pcal_tree.specs.InMemory.{stmt_at, statements_at, branches_at, past_stmt, past_statements, past_branches}
use Rattle.pcal_tree.proofs.InMemoryGrown.{stmt_at-kept, statements_at-kept}
use Rattle.pcal_tree.proofs.InMemoryEach.{past_one_more}
use Rattle.algorithm_reader.specs.ListsRead.{in_list, in_branches, ListStands}

pub in_list-append : (ts : List Tree) (xs ys : List Stmt) (rest : Statements) → in_list ts (xs ++ ys) rest ≡ in_list ts xs (in_list ts ys rest)
in_list-append ts [] ys rest = refl
in_list-append ts (x ∷ xs) ys rest = ap (stmt_at ts x) (in_list-append ts xs ys rest)

pub in_list-all : (ts : List Tree) (xs : List Stmt) → statements_at ts xs ≡ in_list ts xs tree.done
in_list-all ts [] = refl
in_list-all ts (x ∷ xs) = ap (stmt_at ts x) (in_list-all ts xs)

pub in_branches-append : (ts : List Tree) (xs ys : List (Vec Stmt Global)) (rest : Branches) → in_branches ts (xs ++ ys) rest ≡ in_branches ts xs (in_branches ts ys rest)
in_branches-append ts [] ys rest = refl
in_branches-append ts (x ∷ xs) ys rest = ap (tree.or (statements_at ts x.items)) (in_branches-append ts xs ys rest)

pub in_branches-all : (ts : List Tree) (xs : List (Vec Stmt Global)) → branches_at ts xs ≡ in_branches ts xs tree.no_branches
in_branches-all ts [] = refl
in_branches-all ts (x ∷ xs) = ap (tree.or (statements_at ts x.items)) (in_branches-all ts xs)

-- one more
pub one_more_stands : (ts : List Tree) (xs ys : List Stmt) (s : Stmt) (f g : Statements → Statements) → ListStands ts xs f → ys ≡ xs ++ s ∷ [] → past_stmt s ≤ length ts → ((rest : Statements) → f (stmt_at ts s rest) ≡ g rest) → ListStands ts ys g
one_more_stands ts xs ys s f g h e b q = rw e (record {
  below = omega (arith, past_one_more past_stmt xs s, h.below, b);
  tree = λ rest. in_list-append ts xs (s ∷ []) rest ∙ h.tree (stmt_at ts s rest) ∙ q rest;
})

-- the whole list
pub all_of_list : {ts : List Tree} {xs : List Stmt} {f : Statements → Statements} → ListStands ts xs f → statements_at ts xs ≡ f tree.done
all_of_list {ts} {xs} h = in_list-all ts xs ∙ h.tree tree.done

-- as the pool grows
module _ (ts us : List Tree) (k : Keeps ts us) where
  in_list-kept : (xs : List Stmt) (rest : Statements) → past_statements xs ≤ length ts → in_list us xs rest ≡ in_list ts xs rest
  in_list-kept [] rest h = refl
  in_list-kept (x ∷ xs) rest h = λ j. stmt_at-kept ts us k x (omega (arith, h)) j (in_list-kept xs rest (omega (arith, h)) j)

  pub in_branches-kept : (bs : List (Vec Stmt Global)) (rest : Branches) → past_branches bs ≤ length ts → in_branches us bs rest ≡ in_branches ts bs rest
  in_branches-kept [] rest h = refl
  in_branches-kept (b ∷ bs) rest h = λ j. tree.or (statements_at-kept ts us k b.items (omega (arith, h)) j) (in_branches-kept bs rest (omega (arith, h)) j)

  pub list_kept : (xs : List Stmt) (f : Statements → Statements) → ListStands ts xs f → ListStands us xs f
  list_kept xs f h = record { below = omega (arith, h.below, k.longer); tree = λ rest. in_list-kept xs rest h.below ∙ h.tree rest }
