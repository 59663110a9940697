-- Where nothing is left, nothing is taken.
use Rattle.std.proofs.Common.{◌≡◌, ℕ, ◌-◌, nat_lt, Bool, true, false, cond, List, [], ◌∷◌, bytes_eq, refl, ap, ◌∙◌, eq-eqb}
use Rattle.tla_token.specs.Limits.{deepest_expression}
use Rattle.tla_tree.specs.Tree.{Word, Tree, Trees, no_trees, tree, Graft, graft, grafts}
use Rattle.tla_tree.specs.Nesting.{tree_nesting}
use Rattle.pcal_tree.specs.Algorithm.{Assignments, no_assignments, assignment, Binds, no_binds, one_of, is, Statement, assign, await, print, assert, skip, branch, either, with, while, goto, macro, call, return, Statements, done, then, mark, Branches, no_branches, or, Macro}
use Rattle.pcal_tree.specs.OffencesSteps.{called_with}
use Rattle.macro_expand.specs.Measured.{Calls, of_trees, of_assignments, of_binds, how_many, of_one, of_all, of_some}
use Rattle.macro_expand.specs.Size.{nodes, subscript_nodes, left_nesting}
use Rattle.expansion_size.specs.declared.left.Left.{Left}
use Rattle.expansion_size.specs.Spent.{none_left, spend}
use Rattle.expansion_size.specs.Budget.{After, inside, budget, calls}

pub spend_stays : (n k : ℕ) (b : Bool) (l : Left) → l.nodes ≡ 0 → spend n k b l ≡ l
spend_stays n k b l h = ap (λ (z : Bool). cond z l (cond b none_left (cond (nat_lt n l.nodes) (record { nodes = l.nodes - n; labels = l.labels - k }) none_left))) (eq-eqb l.nodes 0 h)

module _ (l : Left) (h : l.nodes ≡ 0) where
  abbrev Stays : After → Type 0
  Stays f = (d : ℕ) → f d l ≡ l

  two : (f k : After) → Stays f → Stays k → Stays (λ d l. k d (f d l))
  two f k p q d = ap (k d) (p d) ∙ q d

  one : (f : After) → Stays f → Stays (λ d l. f d (spend 1 0 false l))
  one f p d = ap (f d) (spend_stays 1 0 false l h) ∙ p d

  deep : (k : ℕ) (f : After) → Stays f → Stays (inside k f)
  deep k f p d = by (nat_lt d k)
    where
      by : (b : Bool) → cond b (spend 0 0 true l) (f (d - k) l) ≡ l
      by true = spend_stays 0 0 true l h
      by false = p (d - k)

  module _ (g : Graft) where
    tree_stays : (t : Tree) → Stays ((budget g).expression t)
    tree_stays t d = spend_stays (nodes (graft g t)) 0 (nat_lt deepest_expression (tree_nesting (graft g t))) l h

    side_stays : (t : Tree) → Stays ((budget g).left t)
    side_stays t d =
        ap (spend (subscript_nodes (graft g t)) 0 (nat_lt deepest_expression (left_nesting (graft g t)))) (spend_stays 1 0 false l h)
        ∙ spend_stays (subscript_nodes (graft g t)) 0 (nat_lt deepest_expression (left_nesting (graft g t))) l h

    trees_stay : (ts : Trees) → Stays (of_trees (budget g) ts)
    trees_stay no_trees = λ d. refl
    trees_stay (tree t ts) = two ((budget g).expression t) (of_trees (budget g) ts) (tree_stays t) (trees_stay ts)

    sides_stay : (ms : Assignments) → Stays (of_assignments (budget g) ms)
    sides_stay no_assignments = λ d. refl
    sides_stay (assignment s e ms) =
        two ((budget g).left s) ((budget g).both ((budget g).expression e) (of_assignments (budget g) ms)) (side_stays s) (two ((budget g).expression e) (of_assignments (budget g) ms) (tree_stays e) (sides_stay ms))

    binds_stay : (bs : Binds) → Stays (of_binds (budget g) bs)
    binds_stay no_binds = λ d. refl
    binds_stay (one_of x e bs) = two ((budget g).expression e) (of_binds (budget g) bs) (tree_stays e) (binds_stay bs)
    binds_stay (is x e bs) = two ((budget g).expression e) (of_binds (budget g) bs) (tree_stays e) (binds_stay bs)

    module _ (C : Calls After) (c : (m : Word) (ts : Trees) → Stays (C m ts)) where
      mutual
        one_stays : (st : Statement) → Stays (of_one (budget g) C st)
        one_stays (assign ms) = one (of_assignments (budget g) ms) (sides_stay ms)
        one_stays (await e) = one ((budget g).expression e) (tree_stays e)
        one_stays (print e) = one ((budget g).expression e) (tree_stays e)
        one_stays (assert e) = one ((budget g).expression e) (tree_stays e)
        one_stays skip = one (λ d l. l) (λ d. refl)
        one_stays (branch e a b) =
            one ((budget g).both ((budget g).expression e) (inside 1 ((budget g).both (of_all (budget g) C a) (of_all (budget g) C b))))
            (two ((budget g).expression e) (inside 1 ((budget g).both (of_all (budget g) C a) (of_all (budget g) C b))) (tree_stays e)
            (deep 1 ((budget g).both (of_all (budget g) C a) (of_all (budget g) C b)) (two (of_all (budget g) C a) (of_all (budget g) C b) (all_stay a) (all_stay b))))
        one_stays (either bs) = one (inside 1 (of_some (budget g) C bs)) (deep 1 (of_some (budget g) C bs) (some_stay bs))
        one_stays (with bs b) =
            one ((budget g).both (of_binds (budget g) bs) (inside (how_many bs) (of_all (budget g) C b)))
            (two (of_binds (budget g) bs) (inside (how_many bs) (of_all (budget g) C b)) (binds_stay bs) (deep (how_many bs) (of_all (budget g) C b) (all_stay b)))
        one_stays (while e b) =
            one ((budget g).both ((budget g).expression e) (inside 1 (of_all (budget g) C b)))
            (two ((budget g).expression e) (inside 1 (of_all (budget g) C b)) (tree_stays e) (deep 1 (of_all (budget g) C b) (all_stay b)))
        one_stays (goto x) = one (λ d l. l) (λ d. refl)
        one_stays (macro m ts) = c m ts
        one_stays (call p ts) = one (of_trees (budget g) ts) (trees_stay ts)
        one_stays return = one (λ d l. l) (λ d. refl)

        all_stay : (b : Statements) → Stays (of_all (budget g) C b)
        all_stay done = λ d. refl
        all_stay (then at st rest) = two (of_one (budget g) C st) (of_all (budget g) C rest) (one_stays st) (all_stay rest)
        all_stay (mark x k rest) = λ d. ap (of_all (budget g) C rest d) (spend_stays 0 1 false l h) ∙ all_stay rest d

        some_stay : (bs : Branches) → Stays (of_some (budget g) C bs)
        some_stay no_branches = λ d. refl
        some_stay (or b bs) = two (of_all (budget g) C b) (of_some (budget g) C bs) (all_stay b) (some_stay bs)

  either_way : (b : Bool) (f k : After) → Stays f → Stays k → Stays (cond b f k)
  either_way true f k p q = p
  either_way false f k p q = q

  pub calls_stay : (ms : List Macro) (g : Graft) (m : Word) (ts : Trees) → Stays (calls ms g m ts)
  calls_stay [] g m ts = one (inside 1 (λ d l. l)) (deep 1 (λ d l. l) (λ d. refl))
  calls_stay (o ∷ older) g m ts =
      either_way (bytes_eq o.name.word m) (of_all (budget (called_with o.params (grafts g ts) g)) (calls older (called_with o.params (grafts g ts) g)) o.body) (calls older g m ts)
      (all_stay (called_with o.params (grafts g ts) g) (calls older (called_with o.params (grafts g ts) g)) (calls_stay older (called_with o.params (grafts g ts) g)) o.body)
      (calls_stay older g m ts)
