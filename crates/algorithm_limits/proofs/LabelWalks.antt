-- The labels of each kind of statement, counted one after another.
use Rattle.std.proofs.Common.{◌≡◌, ℕ, ◌+◌, ◌<◌, ◌≤◌, Bool, true, false, List, [], ◌∷◌, ◌++◌, length, map, drop, get_or, Vec, Global, refl, sym, ap, ◌∙◌}
use Rattle.std.proofs.lemmas.List.{drop_more, drop_all, map-append}
use Rattle.std.specs.List.{flat_map}
use Rattle.tla_tree.specs.Tree.{Tree}
use Rattle.tla_tree.specs.Pool.{at}
use Rattle.pcal_tree.specs.declared.mark.Mark.{Mark}
use Rattle.pcal_tree.specs.declared.algorithm.Span.{Span}
use Rattle.pcal_tree.specs.declared.algorithm.Bind.{Bind}
use Rattle.pcal_tree.specs.declared.algorithm.Simple as declared_simple
use Rattle.pcal_tree.specs.declared.algorithm.Simple.TheVariants as simple
use Rattle.pcal_tree.specs.declared.algorithm.Stmt.{Stmt}
use Rattle.pcal_tree.specs.declared.algorithm.Stmt.TheVariants.{Label, Simple, If, Either, With, While}
use Rattle.pcal_tree.specs.declared.algorithm.Main as code_main
use Rattle.pcal_tree.specs.declared.algorithm.Main.TheVariants as main
use Rattle.pcal_tree.specs.declared.algorithm.Algorithm as code
use Rattle.pcal_tree.specs.Algorithm.{Name, Statement, branch, either, with, while, assign, await, print, assert, skip, goto, macro, call, return, Statements, done, then, mark, Branches, no_branches, or, Macro, Procedure, Process}
use Rattle.pcal_tree.specs.InMemory.{span_of, simple_at, Before, stmt_at, statements_at, branches_at, macro_at, procedure_at, process_at, main_at, algorithm_at}
use Rattle.pcal_tree.specs.OffencesLabels.{Label as Counted, labels, labels_of_one, labels_of_some, labels_of_main}
use Rattle.pcal_tree.specs.OffencesCounts.{all_label_names}
use Rattle.pcal_tree.proofs.InMemoryEach.{label_at, simple_in_list_at, if_at, either_at, with_at, while_at}
use Rattle.algorithm_limits.specs.declared.count.Count.{Count}
use Rattle.algorithm_limits.specs.Counting.{counted_one, counted}
use Rattle.algorithm_limits.specs.LabelNames.{names_of_one, label_names, names_of_some}
use Rattle.algorithm_limits.specs.LabelsIn.{macro_labels, procedure_labels, process_labels, main_labels, labels_in}
use Rattle.algorithm_limits.proofs.Counts.{counted_append}

-- ---- they are the labels that rules speak of

mutual
  of_one : (st : Statement) → map (λ (l : Counted). l.name) (labels_of_one st) ≡ names_of_one st
  of_one (branch e a b) = map-append (λ (l : Counted). l.name) (labels false a) (labels false b) ∙ (λ i. named false a i ++ named false b i)
  of_one (either bs) = of_some bs
  of_one (with bs b) = named false b
  of_one (while e b) = named false b
  of_one (assign ms) = refl
  of_one (await e) = refl
  of_one (print e) = refl
  of_one (assert e) = refl
  of_one skip = refl
  of_one (goto x) = refl
  of_one (macro x es) = refl
  of_one (call x es) = refl
  of_one return = refl

  pub named : (l : Bool) (ss : Statements) → map (λ (l : Counted). l.name) (labels l ss) ≡ label_names ss
  named l done = refl
  named l (mark n k rest) = ap (λ (xs : List Name). n ∷ xs) (named true rest)
  named l (then at st rest) = map-append (λ (l : Counted). l.name) (labels_of_one st) (labels false rest) ∙ (λ i. of_one st i ++ named false rest i)

  of_some : (bs : Branches) → map (λ (l : Counted). l.name) (labels_of_some bs) ≡ names_of_some bs
  of_some no_branches = refl
  of_some (or b bs) = map-append (λ (l : Counted). l.name) (labels false b) (labels_of_some bs) ∙ (λ i. named false b i ++ of_some bs i)

named_each : {A B : Type 0} (g : A → B) (body : B → Statements) (names : A → List Name) → ((x : A) → label_names (body (g x)) ≡ names x) → (xs : List A)
    → map (λ (l : Counted). l.name) (flat_map (λ (y : B). labels false (body y)) (map g xs)) ≡ flat_map names xs
named_each g body names h [] = refl
named_each g body names h (x ∷ xs) =
    map-append (λ (l : Counted). l.name) (labels false (body (g x))) (flat_map (λ y. labels false (body y)) (map g xs))
    ∙ (λ i. (named false (body (g x)) ∙ h x) i ++ named_each g body names h xs i)

module _ (ts : List Tree) where
  named_main : (m : code_main.Main) → map (λ (l : Counted). l.name) (labels_of_main (main_at ts m)) ≡ main_labels ts m
  named_main (main.Alone ss) = named false (statements_at ts ss.items)
  named_main (main.Processes ps) = named_each (process_at ts) (λ (p : Process). p.body) (process_labels ts) (λ p. refl) ps.items

  pub labels_are : (a : code.Algorithm) → all_label_names (algorithm_at ts a) ≡ labels_in ts a
  labels_are a =
      map-append (λ (l : Counted). l.name) (flat_map (λ (d : Macro). labels false d.body) (map (macro_at ts) a.macros.items)) (flat_map (λ (p : Procedure). labels false p.body) (map (procedure_at ts) a.procedures.items) ++ labels_of_main (main_at ts a.main))
      ∙ (λ i. named_each (macro_at ts) (λ (d : Macro). d.body) (macro_labels ts) (λ d. refl) a.macros.items i
      ++ (map-append (λ (l : Counted). l.name) (flat_map (λ (p : Procedure). labels false p.body) (map (procedure_at ts) a.procedures.items)) (labels_of_main (main_at ts a.main))
      ∙ (λ j. named_each (procedure_at ts) (λ (p : Procedure). p.body) (procedure_labels ts) (λ p. refl) a.procedures.items j ++ named_main a.main j)) i)

-- ---- each kind of statement, before the rest of its list

no_labels : (ts : List Tree) (x : declared_simple.Simple) → names_of_one (simple_at ts x) ≡ []
no_labels ts (simple.Assign ms) = refl
no_labels ts (simple.Await e) = refl
no_labels ts (simple.Print e) = refl
no_labels ts (simple.Assert e) = refl
no_labels ts simple.Skip = refl
no_labels ts (simple.Goto x) = refl
no_labels ts (simple.Macro x es) = refl
no_labels ts (simple.Call x es) = refl
no_labels ts simple.Return = refl

module _ (ts : List Tree) (c : Count) (rest : Statements) where
  -- as the list with the statement, which stands for this
  before : (stmt : Stmt) (f : Before) → stmt_at ts stmt ≡ f → counted c (label_names (f rest)) ≡ counted c (label_names (stmt_at ts stmt rest))
  before stmt f e = ap (λ (g : Before). counted c (label_names (g rest))) (sym e)

  -- a count that goes on with the rest
  then_rest : (d : Count) (xs : List Name) → d ≡ counted c xs → counted d (label_names rest) ≡ counted c (xs ++ label_names rest)
  then_rest d xs e = ap (λ (b : Count). counted b (label_names rest)) e ∙ sym (counted_append c xs (label_names rest))

  pub label_counted : (x : Name) (m : Mark) → counted (counted_one c x.place) (label_names rest) ≡ counted c (label_names (stmt_at ts (Label x m) rest))
  label_counted x m = before (Label x m) (mark x m) (label_at ts x m)

  pub simple_counted : (s : Span) (x : declared_simple.Simple) → counted c (label_names rest) ≡ counted c (label_names (stmt_at ts (Simple s x) rest))
  simple_counted s x =
      ap (λ (xs : List Name). counted c (xs ++ label_names rest)) (sym (no_labels ts x)) ∙ before (Simple s x) (then (span_of s) (simple_at ts x)) (simple_in_list_at ts s x)

  pub if_counted : (b d : Count) (s : Span) (e : ℕ) (u v : Vec Stmt Global) → b ≡ counted c (label_names (statements_at ts u.items)) → d ≡ counted b (label_names (statements_at ts v.items))
      → counted d (label_names rest) ≡ counted c (label_names (stmt_at ts (If s e u v) rest))
  if_counted b d s e u v p q =
      then_rest d (label_names (statements_at ts u.items) ++ label_names (statements_at ts v.items)) (q ∙ ap (λ (b : Count). counted b (label_names (statements_at ts v.items))) p ∙ sym (counted_append c (label_names (statements_at ts u.items)) (label_names (statements_at ts v.items))))
      ∙ before (If s e u v) (then (span_of s) (branch (at ts e) (statements_at ts u.items) (statements_at ts v.items))) (if_at ts s e u v)

  pub either_counted : (d : Count) (s : Span) (bs : Vec (Vec Stmt Global) Global) → d ≡ counted c (names_of_some (branches_at ts bs.items)) → counted d (label_names rest) ≡ counted c (label_names (stmt_at ts (Either s bs) rest))
  either_counted d s bs p = then_rest d (names_of_some (branches_at ts bs.items)) p ∙ before (Either s bs) (then (span_of s) (either (branches_at ts bs.items))) (either_at ts s bs)

  pub with_counted : (d : Count) (s : Span) (bs : Vec Bind Global) (u : Vec Stmt Global) → d ≡ counted c (label_names (statements_at ts u.items)) → counted d (label_names rest) ≡ counted c (label_names (stmt_at ts (With s bs u) rest))
  with_counted d s bs u p = then_rest d (label_names (statements_at ts u.items)) p ∙ before (With s bs u) _ (with_at ts s bs u)

  pub while_counted : (d : Count) (s : Span) (e : ℕ) (u : Vec Stmt Global) → d ≡ counted c (label_names (statements_at ts u.items)) → counted d (label_names rest) ≡ counted c (label_names (stmt_at ts (While s e u) rest))
  while_counted d s e u p = then_rest d (label_names (statements_at ts u.items)) p ∙ before (While s e u) _ (while_at ts s e u)

-- ---- one more in a loop

module _ (ts : List Tree) where
  pub stmt_more : (c d : Count) (ss : List Stmt) (i : ℕ) (s : Stmt) → s ≡ get_or ss i s → i < length ss → ((rest : Statements) → counted d (label_names rest) ≡ counted c (label_names (stmt_at ts s rest)))
      → counted d (label_names (statements_at ts (drop (i + 1) ss))) ≡ counted c (label_names (statements_at ts (drop i ss)))
  stmt_more c d ss i s e l h =
      h (statements_at ts (drop (i + 1) ss))
      ∙ ap (λ (ys : List Stmt). counted c (label_names (statements_at ts ys))) (ap (λ (y : Stmt). y ∷ drop (i + 1) ss) e ∙ sym (drop_more ss i s l))

  pub stmts_done : (c : Count) (ss : List Stmt) (i : ℕ) → length ss ≤ i → counted c (label_names (statements_at ts (drop i ss))) ≡ c
  stmts_done c ss i l = ap (λ (ys : List Stmt). counted c (label_names (statements_at ts ys))) (drop_all i ss l)

  pub branch_more : (c d : Count) (bs : List (Vec Stmt Global)) (i : ℕ) (b : Vec Stmt Global) → b ≡ get_or bs i b → i < length bs → d ≡ counted c (label_names (statements_at ts b.items))
      → counted d (names_of_some (branches_at ts (drop (i + 1) bs))) ≡ counted c (names_of_some (branches_at ts (drop i bs)))
  branch_more c d bs i b e l h =
      ap (λ (b : Count). counted b (names_of_some (branches_at ts (drop (i + 1) bs)))) h
      ∙ sym (counted_append c (label_names (statements_at ts b.items)) (names_of_some (branches_at ts (drop (i + 1) bs))))
      ∙ ap (λ (ys : List (Vec Stmt Global)). counted c (names_of_some (branches_at ts ys))) (ap (λ (y : Vec Stmt Global). y ∷ drop (i + 1) bs) e ∙ sym (drop_more bs i b l))

  pub branches_done : (c : Count) (bs : List (Vec Stmt Global)) (i : ℕ) → length bs ≤ i → counted c (names_of_some (branches_at ts (drop i bs))) ≡ c
  branches_done c bs i l = ap (λ (ys : List (Vec Stmt Global)). counted c (names_of_some (branches_at ts ys))) (drop_all i bs l)
