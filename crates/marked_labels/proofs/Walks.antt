-- Lists of what is in statements, made by a walk over them.
use Rattle.std.proofs.Common.{◌≡◌, ℕ, ◌+◌, ◌<◌, ◌≤◌, List, [], ◌∷◌, ◌++◌, length, drop, get_or, Vec, Global, refl, sym, ap, ◌∙◌, append-nil, append_assoc}
use Rattle.std.proofs.lemmas.List.{drop_more, drop_all}
use Rattle.tla_tree.specs.Tree.{Name, Tree}
use Rattle.tla_tree.specs.Pool.{at}
use Rattle.pcal_tree.specs.declared.mark.Mark.{Mark}
use Rattle.pcal_tree.specs.declared.algorithm.Span.{Span}
use Rattle.pcal_tree.specs.declared.algorithm.Bind.{Bind}
use Rattle.pcal_tree.specs.declared.algorithm.Simple as declared_simple
use Rattle.pcal_tree.specs.declared.algorithm.Stmt.{Stmt}
use Rattle.pcal_tree.specs.declared.algorithm.Stmt.TheVariants.{Label, Simple, If, Either, With, While}
use Rattle.pcal_tree.specs.Algorithm as pure
use Rattle.pcal_tree.specs.Algorithm.{Statement, branch, either, with, while, Statements, done, then, mark, Branches, no_branches, or}
use Rattle.pcal_tree.specs.InMemory.{span_of, simple_at, binds_at, Before, stmt_at, statements_at, branches_at}
use Rattle.pcal_tree.proofs.InMemoryEach.{label_at, simple_in_list_at, if_at, either_at, with_at, while_at}
use Rattle.marked_labels.specs.Added.{AddsAt}

-- what a list of statements has is what each of them has, one after another
pub record IsWalk {X : Type 0} (all : Statements → List X) (some : Branches → List X) (inside : Statement → List X) (here : Name → Mark → List X) : Type 0 where
  pub of_none : all done ≡ []
  pub of_label : (l : Name) (k : Mark) (rest : Statements) → all (mark l k rest) ≡ here l k ++ all rest
  pub of_one : (p : pure.Span) (st : Statement) (rest : Statements) → all (then p st rest) ≡ inside st ++ all rest
  pub of_if : (e : Tree) (a b : Statements) → inside (branch e a b) ≡ all a ++ all b
  pub of_either : (bs : Branches) → inside (either bs) ≡ some bs
  pub of_with : (bs : pure.Binds) (b : Statements) → inside (with bs b) ≡ all b
  pub of_while : (e : Tree) (b : Statements) → inside (while e b) ≡ all b
  pub of_no_branch : some no_branches ≡ []
  pub of_branch : (b : Statements) (bs : Branches) → some (or b bs) ≡ all b ++ some bs

module _ {X : Type 0} (all : Statements → List X) (some : Branches → List X) (inside : Statement → List X) (here : Name → Mark → List X) (w : IsWalk all some inside here) (ts : List Tree) where
  -- ---- one more place of a list: what is left still gives the whole

  pub left_more : (ss : List Stmt) (i : ℕ) (old new whole : List X) → AddsAt all ts ss i old new → old ++ all (statements_at ts (drop i ss)) ≡ whole
      → new ++ all (statements_at ts (drop (i + 1) ss)) ≡ whole
  left_more ss i old new whole a h =
      let rest = all (statements_at ts (drop (i + 1) ss)) in
      ap (λ (xs : List X). xs ++ rest) a.adds ∙ append_assoc old a.these rest ∙ ap (λ (xs : List X). old ++ xs) (sym a.ahead) ∙ h

  pub left_none : (ss : List Stmt) (i : ℕ) (new whole : List X) → length ss ≤ i → new ++ all (statements_at ts (drop i ss)) ≡ whole → new ≡ whole
  left_none ss i new whole less h =
      sym (append-nil new) ∙ ap (λ (xs : List X). new ++ xs) (sym w.of_none) ∙ ap (λ (ys : List Stmt). new ++ all (statements_at ts ys)) (sym (drop_all i ss less)) ∙ h

  pub branch_more : (bs : List (Vec Stmt Global)) (i : ℕ) (b : Vec Stmt Global) → b ≡ get_or bs i b → i < length bs → (old new whole : List X)
      → new ≡ old ++ all (statements_at ts b.items) → old ++ some (branches_at ts (drop i bs)) ≡ whole → new ++ some (branches_at ts (drop (i + 1) bs)) ≡ whole
  branch_more bs i b is less old new whole a h =
      let rest = some (branches_at ts (drop (i + 1) bs)) in
      ap (λ (xs : List X). xs ++ rest) a
      ∙ append_assoc old (all (statements_at ts b.items)) rest
      ∙ ap (λ (xs : List X). old ++ xs) (sym (w.of_branch (statements_at ts b.items) (branches_at ts (drop (i + 1) bs))))
      ∙ ap (λ (ys : List (Vec Stmt Global)). old ++ some (branches_at ts ys)) (ap (λ (y : Vec Stmt Global). y ∷ drop (i + 1) bs) is ∙ sym (drop_more bs i b less))
      ∙ h

  pub branch_none : (bs : List (Vec Stmt Global)) (i : ℕ) (new whole : List X) → length bs ≤ i → new ++ some (branches_at ts (drop i bs)) ≡ whole → new ≡ whole
  branch_none bs i new whole less h =
      sym (append-nil new) ∙ ap (λ (xs : List X). new ++ xs) (sym w.of_no_branch) ∙ ap (λ (ys : List (Vec Stmt Global)). new ++ some (branches_at ts ys)) (sym (drop_all i bs less)) ∙ h

  -- ---- each kind of statement

  module _ (ss : List Stmt) (i : ℕ) (s : Stmt) (is : s ≡ get_or ss i s) (less : i < length ss) (old new : List X) where
    from_here : statements_at ts (drop i ss) ≡ stmt_at ts s (statements_at ts (drop (i + 1) ss))
    from_here = ap (λ (ys : List Stmt). statements_at ts ys) (drop_more ss i s less ∙ ap (λ (y : Stmt). y ∷ drop (i + 1) ss) (sym is))

    at_this : (g : Before) (these : List X) → stmt_at ts s ≡ g → all (g (statements_at ts (drop (i + 1) ss))) ≡ these ++ all (statements_at ts (drop (i + 1) ss)) → new ≡ old ++ these
        → AddsAt all ts ss i old new
    at_this g these e h a = record {
      these = these;
      ahead = ap all (from_here ∙ ap (λ (k : Before). k (statements_at ts (drop (i + 1) ss))) e) ∙ h;
      adds = a;
    }

    one : (p : Span) (st : Statement) (these : List X) → inside st ≡ these
        → all (then (span_of p) st (statements_at ts (drop (i + 1) ss))) ≡ these ++ all (statements_at ts (drop (i + 1) ss))
    one p st these e =
        w.of_one (span_of p) st (statements_at ts (drop (i + 1) ss)) ∙ ap (λ (xs : List X). xs ++ all (statements_at ts (drop (i + 1) ss))) e

    pub label_adds : (x : Name) (m : Mark) → s ≡ Label x m → new ≡ old ++ here x m → AddsAt all ts ss i old new
    label_adds x m e a = at_this (mark x m) (here x m) (ap (stmt_at ts) e ∙ label_at ts x m) (w.of_label x m (statements_at ts (drop (i + 1) ss))) a

    pub simple_adds : (p : Span) (x : declared_simple.Simple) → s ≡ Simple p x → new ≡ old ++ inside (simple_at ts x) → AddsAt all ts ss i old new
    simple_adds p x e a = at_this (then (span_of p) (simple_at ts x)) _ (ap (stmt_at ts) e ∙ simple_in_list_at ts p x) (one p (simple_at ts x) _ refl) a

    pub if_adds : (p : Span) (e : ℕ) (a b : Vec Stmt Global) (between : List X) → s ≡ If p e a b
        → between ≡ old ++ all (statements_at ts a.items) → new ≡ between ++ all (statements_at ts b.items) → AddsAt all ts ss i old new
    if_adds p e a b between q h k =
        at_this (then (span_of p) (branch (at ts e) (statements_at ts a.items) (statements_at ts b.items))) _ (ap (stmt_at ts) q ∙ if_at ts p e a b)
        (one p (branch (at ts e) (statements_at ts a.items) (statements_at ts b.items)) _ (w.of_if (at ts e) (statements_at ts a.items) (statements_at ts b.items)))
        (k ∙ ap (λ (xs : List X). xs ++ all (statements_at ts b.items)) h ∙ append_assoc old (all (statements_at ts a.items)) (all (statements_at ts b.items)))

    pub either_adds : (p : Span) (bs : Vec (Vec Stmt Global) Global) → s ≡ Either p bs → new ≡ old ++ some (branches_at ts bs.items) → AddsAt all ts ss i old new
    either_adds p bs q h =
        at_this (then (span_of p) (either (branches_at ts bs.items))) _ (ap (stmt_at ts) q ∙ either_at ts p bs) (one p (either (branches_at ts bs.items)) _ (w.of_either (branches_at ts bs.items))) h

    pub with_adds : (p : Span) (bs : Vec Bind Global) (b : Vec Stmt Global) → s ≡ With p bs b → new ≡ old ++ all (statements_at ts b.items) → AddsAt all ts ss i old new
    with_adds p bs b q h =
        at_this (then (span_of p) (with (binds_at ts bs.items) (statements_at ts b.items))) _ (ap (stmt_at ts) q ∙ with_at ts p bs b)
        (one p (with (binds_at ts bs.items) (statements_at ts b.items)) _ (w.of_with (binds_at ts bs.items) (statements_at ts b.items))) h

    pub while_adds : (p : Span) (e : ℕ) (b : Vec Stmt Global) → s ≡ While p e b → new ≡ old ++ all (statements_at ts b.items) → AddsAt all ts ss i old new
    while_adds p e b q h =
        at_this (then (span_of p) (while (at ts e) (statements_at ts b.items))) _ (ap (stmt_at ts) q ∙ while_at ts p e b)
        (one p (while (at ts e) (statements_at ts b.items)) _ (w.of_while (at ts e) (statements_at ts b.items))) h
