-- What is left after each kind of statement, and after lists.
use Rattle.std.proofs.Common.{◌≡◌, ℕ, suc, ◌+◌, ◌-◌, ◌<◌, ◌≤◌, nat_lt, nat_eq, Bool, true, false, cond, List, [], ◌∷◌, length, drop, get_or, Vec, Global, refl, sym, ap, ◌∙◌}
use Rattle.std.proofs.lemmas.List.{drop_more, drop_all}
use Rattle.tla_tree.specs.Tree.{Tree, Graft}
use Rattle.tla_tree.specs.Pool.{at}
use Rattle.pcal_tree.specs.declared.algorithm.Span.{Span}
use Rattle.pcal_tree.specs.declared.algorithm.Assignment.{Assignment}
use Rattle.pcal_tree.specs.declared.algorithm.Bind.{Bind}
use Rattle.pcal_tree.specs.declared.algorithm.Bind.TheVariants.{Among, Is}
use Rattle.pcal_tree.specs.declared.algorithm.Stmt.{Stmt}
use Rattle.pcal_tree.specs.declared.algorithm.Stmt.TheVariants.{If, Either, With, While}
use Rattle.pcal_tree.specs.declared.algorithm.Macro.{Macro}
use Rattle.pcal_tree.specs.Algorithm.{Statements}
use Rattle.pcal_tree.specs.InMemory.{assignments_at, bind_at, binds_at, Before, stmt_at, statements_at, branches_at}
use Rattle.pcal_tree.proofs.InMemoryEach.{if_at, either_at, with_at, while_at}
use Rattle.macro_expand.specs.Measured.{of_assignments, of_binds, how_many}
use Rattle.expansion_size.specs.declared.left.Left.{Left}
use Rattle.expansion_size.specs.declared.frames.Frames.{Frames}
use Rattle.expansion_size.specs.Spent.{spend}
use Rattle.expansion_size.specs.Budget.{After, inside, budget}
use Rattle.expansion_size.specs.FramesIn.{put_by, after_all, after_some}

-- ---- sides and binds

module _ (g : Graft) (ts : List Tree) where
  pub sides_more : (ms : List Assignment) (i d : ℕ) (o : Assignment) (l k r : Left) → o ≡ get_or ms i o → i < length ms → k ≡ (budget g).left (at ts o.left) d l → r ≡ (budget g).expression (at ts o.right) d k
      → of_assignments (budget g) (assignments_at ts (drop (i + 1) ms)) d r ≡ of_assignments (budget g) (assignments_at ts (drop i ms)) d l
  sides_more ms i d o l k r here within p q =
      ap (of_assignments (budget g) (assignments_at ts (drop (i + 1) ms)) d) (q ∙ ap ((budget g).expression (at ts o.right) d) p)
      ∙ ap (λ (os : List Assignment). of_assignments (budget g) (assignments_at ts os) d l) (ap (λ (n : Assignment). n ∷ drop (i + 1) ms) here ∙ sym (drop_more ms i o within))

  pub sides_done : (ms : List Assignment) (i d : ℕ) (l : Left) → length ms ≤ i → of_assignments (budget g) (assignments_at ts (drop i ms)) d l ≡ l
  sides_done ms i d l h = ap (λ (os : List Assignment). of_assignments (budget g) (assignments_at ts os) d l) (drop_all i ms h)

  pub binds_more : (bs : List Bind) (i d e : ℕ) (o : Bind) (l k : Left) → o ≡ get_or bs i o → i < length bs → k ≡ (budget g).expression (at ts e) d l
      → of_binds (budget g) (bind_at ts o (binds_at ts (drop (i + 1) bs))) d l ≡ of_binds (budget g) (binds_at ts (drop (i + 1) bs)) d ((budget g).expression (at ts e) d l)
      → of_binds (budget g) (binds_at ts (drop (i + 1) bs)) d k ≡ of_binds (budget g) (binds_at ts (drop i bs)) d l
  binds_more bs i d e o l k here within p q =
      ap (of_binds (budget g) (binds_at ts (drop (i + 1) bs)) d) p
      ∙ sym q
      ∙ ap (λ (os : List Bind). of_binds (budget g) (binds_at ts os) d l) (ap (λ (n : Bind). n ∷ drop (i + 1) bs) here ∙ sym (drop_more bs i o within))

  pub binds_done : (bs : List Bind) (i d : ℕ) (l : Left) → length bs ≤ i → of_binds (budget g) (binds_at ts (drop i bs)) d l ≡ l
  binds_done bs i d l h = ap (λ (os : List Bind). of_binds (budget g) (binds_at ts os) d l) (drop_all i bs h)

pub as_many : (ts : List Tree) (bs : List Bind) → how_many (binds_at ts bs) ≡ length bs
as_many ts [] = refl
as_many ts (Among x e ∷ bs) = ap suc (as_many ts bs)
as_many ts (Is x e ∷ bs) = ap suc (as_many ts bs)

-- ---- inside forms of statements

past_again : (l : Left) → spend 0 0 true (spend 0 0 true l) ≡ spend 0 0 true l
past_again l = by (nat_eq l.nodes 0) refl
  where
    by : (z : Bool) → nat_eq l.nodes 0 ≡ z → spend 0 0 true (cond z l (record { nodes = 0; labels = 0 })) ≡ cond z l (record { nodes = 0; labels = 0 })
    by true e = ap (λ (z : Bool). cond z l (record { nodes = 0; labels = 0 })) e
    by false e = refl

pub inside_both : (k d : ℕ) (f h : After) (l : Left) → inside k h d (inside k f d l) ≡ inside k (λ d l. h d (f d l)) d l
inside_both k d f h l = by (nat_lt d k)
  where
    by : (b : Bool) → cond b (spend 0 0 true (cond b (spend 0 0 true l) (f (d - k) l))) (h (d - k) (cond b (spend 0 0 true l) (f (d - k) l))) ≡ cond b (spend 0 0 true l) (h (d - k) (f (d - k) l))
    by true = past_again l
    by false = refl

-- ---- statements

module _ (ts : List Tree) (ms : List Macro) (f : Frames) (d : ℕ) where
  -- what is left after a statement and the rest, where it is so before the rest
  stands_so : (s : Stmt) (b : Before) (rest : Statements) (l : Left) → stmt_at ts s ≡ b → after_all ts ms f (b rest) d l ≡ after_all ts ms f (stmt_at ts s rest) d l
  stands_so s b rest l h = λ z. after_all ts ms f (sym h z rest) d l

  pub if_left : (s : Span) (e : ℕ) (a b : Vec Stmt Global) (rest : Statements) (l i j k : Left) → i ≡ (budget (put_by ts f)).expression (at ts e) d (spend 1 0 false l)
      → j ≡ inside 1 (after_all ts ms f (statements_at ts a.items)) d i → k ≡ inside 1 (after_all ts ms f (statements_at ts b.items)) d j
      → after_all ts ms f rest d k ≡ after_all ts ms f (stmt_at ts (If s e a b) rest) d l
  if_left s e a b rest l i j k p q r =
      ap (after_all ts ms f rest d)
      (r ∙ ap (inside 1 (after_all ts ms f (statements_at ts b.items)) d) q
      ∙ inside_both 1 d (after_all ts ms f (statements_at ts a.items)) (after_all ts ms f (statements_at ts b.items)) i
      ∙ ap (inside 1 (λ d l. after_all ts ms f (statements_at ts b.items) d (after_all ts ms f (statements_at ts a.items) d l)) d) p)
      ∙ stands_so (If s e a b) _ rest l (if_at ts s e a b)

  pub either_left : (s : Span) (bs : Vec (Vec Stmt Global) Global) (rest : Statements) (l k : Left) → k ≡ inside 1 (after_some ts ms f (branches_at ts bs.items)) d (spend 1 0 false l)
      → after_all ts ms f rest d k ≡ after_all ts ms f (stmt_at ts (Either s bs) rest) d l
  either_left s bs rest l k h = ap (after_all ts ms f rest d) h ∙ stands_so (Either s bs) _ rest l (either_at ts s bs)

  pub with_left : (s : Span) (bs : Vec Bind Global) (a : Vec Stmt Global) (rest : Statements) (l i k : Left) → i ≡ of_binds (budget (put_by ts f)) (binds_at ts bs.items) d (spend 1 0 false l)
      → k ≡ inside (length bs.items) (after_all ts ms f (statements_at ts a.items)) d i → after_all ts ms f rest d k ≡ after_all ts ms f (stmt_at ts (With s bs a) rest) d l
  with_left s bs a rest l i k p q =
      ap (after_all ts ms f rest d) (q ∙ (λ z. inside (sym (as_many ts bs.items) z) (after_all ts ms f (statements_at ts a.items)) d (p z))) ∙ stands_so (With s bs a) _ rest l (with_at ts s bs a)

  pub while_left : (s : Span) (e : ℕ) (a : Vec Stmt Global) (rest : Statements) (l i k : Left) → i ≡ (budget (put_by ts f)).expression (at ts e) d (spend 1 0 false l)
      → k ≡ inside 1 (after_all ts ms f (statements_at ts a.items)) d i → after_all ts ms f rest d k ≡ after_all ts ms f (stmt_at ts (While s e a) rest) d l
  while_left s e a rest l i k p q = ap (after_all ts ms f rest d) (q ∙ ap (inside 1 (after_all ts ms f (statements_at ts a.items)) d) p) ∙ stands_so (While s e a) _ rest l (while_at ts s e a)
  -- ---- lists
