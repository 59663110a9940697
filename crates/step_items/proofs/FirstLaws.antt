-- The first statement of a list in memory, by its kind.
use Rattle.std.proofs.Common.{◌≡◌, ℕ, List, ◌∷◌, Bool, Vec, Global, sym, ap, subst, ◌∙◌}
use Rattle.tla_tree.specs.Tree.{Word, Name, Tree, graft}
use Rattle.tla_tree.specs.Pool.{at}
use Rattle.pcal_tree.specs.declared.mark.Mark.{Mark}
use Rattle.pcal_tree.specs.declared.algorithm.Span as code_span
use Rattle.pcal_tree.specs.declared.algorithm.Bind.{Bind}
use Rattle.pcal_tree.specs.declared.algorithm.Simple as code_simple
use Rattle.pcal_tree.specs.declared.algorithm.Stmt.{Stmt}
use Rattle.pcal_tree.specs.declared.algorithm.Stmt.TheVariants.{Label, Simple, If, Either, With, While}
use Rattle.pcal_tree.specs.Algorithm.{Span, Binds, Statement, Branches, branch, either, with, while, Statements, done, then, mark, Routine}
use Rattle.pcal_tree.specs.Run.{label_of}
use Rattle.pcal_tree.specs.Expand.{graft_binds, graft_all, graft_some}
use Rattle.pcal_tree.specs.InMemory.{span_of, Before, simple_at, binds_at, branches_at, stmt_at, statements_at}
use Rattle.pcal_tree.specs.Program.{Program}
use Rattle.pcal_tree.proofs.InMemoryEach.{label_at, simple_in_list_at, if_at, either_at, with_at, while_at}
use Rattle.action_builder.specs.Settled.{jumps_one}
use Rattle.action_builder.specs.WrittenNames.{renames}
use Rattle.step_forms.proofs.LeftLaws.{put_label}
use Rattle.step_items.specs.Writing.{jumps_of, own_of, named, ends_first, branch_part, either_part, with_part, to_write_first, Plain, Fits}
use Rattle.step_items.proofs.ListLaws.{first_branch, first_either, first_with}

-- ---- what is asked of the items of a list's first statement; R: what is said of them

module _ (P : Program) (u : Routine) (here l : Word) (R : Statements → Bool → Type 0) where
  -- by what the list is
  pub by_whole : (whole shape : Statements) → whole ≡ shape → (Fits P (to_write_first P u here l shape) shape → R (to_write_first P u here l shape) (ends_first shape))
      → Fits P (to_write_first P u here l whole) whole → R (to_write_first P u here l whole) (ends_first whole)
  by_whole whole shape e h = subst (λ (ss : Statements). Fits P (to_write_first P u here l ss) ss → R (to_write_first P u here l ss) (ends_first ss)) (sym e) h

  -- S: what the statement becomes
  pub by_kind : (whole : Statements) (s : Span) (st : Statement) (rest S : Statements) → whole ≡ then s st rest → to_write_first P u here l (then s st rest) ≡ S → (Fits P S (then s st done) → R S (jumps_one st))
      → Fits P (to_write_first P u here l whole) whole → R (to_write_first P u here l whole) (ends_first whole)
  by_kind whole s st rest S e m h =
      by_whole whole (then s st rest) e (λ f. subst (λ (T : Statements). R T (jumps_one st)) (sym m) (h (record { plain = subst (Plain P) m f.plain; fresh = (f.fresh.0, tt) })))

-- ---- in memory

module _ (P : Program) (u : Routine) (ts : List Tree) (rest : List Stmt) where
  one_is : (one s : Stmt) (f : Before) → one ≡ s → stmt_at ts s ≡ f → named P u ts (one ∷ rest) ≡ graft_all (renames P u) (f (statements_at ts rest))
  one_is one s f e h = ap (λ (y : Stmt). named P u ts (y ∷ rest)) e ∙ ap (λ (g : Before). graft_all (renames P u) (g (statements_at ts rest))) h

  pub label_is : (one : Stmt) (y : Name) (m : Mark) → one ≡ Label y m → named P u ts (one ∷ rest) ≡ mark y m (named P u ts rest)
  label_is one y m e = one_is one (Label y m) (mark y m) e (label_at ts y m)

  pub simple_is : (one : Stmt) (s : code_span.Span) (y : code_simple.Simple) → one ≡ Simple s y → named P u ts (one ∷ rest) ≡ graft_all (renames P u) (then (span_of s) (simple_at ts y) (statements_at ts rest))
  simple_is one s y e = one_is one (Simple s y) (then (span_of s) (simple_at ts y)) e (simple_in_list_at ts s y)

  pub if_is : (one : Stmt) (s : code_span.Span) (e : ℕ) (a b : Vec Stmt Global) (cs ds : List Stmt) → one ≡ If s e a b → cs ≡ a.items → ds ≡ b.items
      → named P u ts (one ∷ rest) ≡ then (span_of s) (branch (graft (renames P u) (at ts e)) (named P u ts cs) (named P u ts ds)) (named P u ts rest)
  if_is one s e a b cs ds is c d =
      one_is one (If s e a b) (then (span_of s) (branch (at ts e) (statements_at ts a.items) (statements_at ts b.items))) is (if_at ts s e a b)
      ∙ (λ j. then (span_of s) (branch (graft (renames P u) (at ts e)) (named P u ts (sym c j)) (named P u ts (sym d j))) (named P u ts rest))

  pub either_is : (one : Stmt) (s : code_span.Span) (bs : Vec (Vec Stmt Global) Global) (cs : List (Vec Stmt Global)) → one ≡ Either s bs → cs ≡ bs.items
      → named P u ts (one ∷ rest) ≡ then (span_of s) (either (graft_some (renames P u) (branches_at ts cs))) (named P u ts rest)
  either_is one s bs cs is c =
      one_is one (Either s bs) (then (span_of s) (either (branches_at ts bs.items))) is (either_at ts s bs)
      ∙ (λ j. then (span_of s) (either (graft_some (renames P u) (branches_at ts (sym c j)))) (named P u ts rest))

  pub with_is : (one : Stmt) (s : code_span.Span) (bs : Vec Bind Global) (a : Vec Stmt Global) (cs : List Bind) (ds : List Stmt) → one ≡ With s bs a → cs ≡ bs.items → ds ≡ a.items
      → named P u ts (one ∷ rest) ≡ then (span_of s) (with (graft_binds (renames P u) (binds_at ts cs)) (named P u ts ds)) (named P u ts rest)
  with_is one s bs a cs ds is c d =
      one_is one (With s bs a) (then (span_of s) (with (binds_at ts bs.items) (statements_at ts a.items))) is (with_at ts s bs a)
      ∙ (λ j. then (span_of s) (with (graft_binds (renames P u) (binds_at ts (sym c j))) (named P u ts (sym d j))) (named P u ts rest))

  pub while_is : (one : Stmt) (s : code_span.Span) (e : ℕ) (a : Vec Stmt Global) (cs : List Stmt) → one ≡ While s e a → cs ≡ a.items
      → named P u ts (one ∷ rest) ≡ then (span_of s) (while (graft (renames P u) (at ts e)) (named P u ts cs)) (named P u ts rest)
  while_is one s e a cs is c =
      one_is one (While s e a) (then (span_of s) (while (at ts e) (statements_at ts a.items))) is (while_at ts s e a)
      ∙ (λ j. then (span_of s) (while (graft (renames P u) (at ts e)) (named P u ts (sym c j))) (named P u ts rest))

  -- the label of what follows; w: the same
  pub follow_is : (l w : Word) → w ≡ label_of (statements_at ts rest) l → w ≡ label_of (named P u ts rest) l
  follow_is l w h = h ∙ sym (put_label (renames P u) (statements_at ts rest) l)

-- ---- what each becomes

module _ (P : Program) (u : Routine) (here l w : Word) (s : Span) (rest : Statements) (h : w ≡ label_of rest l) where
  pub branch_first : (t : Tree) (a b : Statements) → to_write_first P u here l (then s (branch t a b) rest) ≡ graft_all (own_of P) (branch_part (jumps_of P u) w s t a b)
  branch_first t a b = ap (graft_all (own_of P)) (first_branch (jumps_of P u) here l s t a b rest ∙ ap (λ (z : Word). branch_part (jumps_of P u) z s t a b) (sym h))

  pub either_first : (bs : Branches) → to_write_first P u here l (then s (either bs) rest) ≡ graft_all (own_of P) (either_part (jumps_of P u) w s bs)
  either_first bs = ap (graft_all (own_of P)) (first_either (jumps_of P u) here l s bs rest ∙ ap (λ (z : Word). either_part (jumps_of P u) z s bs) (sym h))

  pub with_first : (bs : Binds) (b : Statements) → to_write_first P u here l (then s (with bs b) rest) ≡ graft_all (own_of P) (with_part (jumps_of P u) w s bs b)
  with_first bs b = ap (graft_all (own_of P)) (first_with (jumps_of P u) here l s bs b rest ∙ ap (λ (z : Word). with_part (jumps_of P u) z s bs b) (sym h))
