-- What is left after lists of declarations and routines, and after all parts of an algorithm.
use Rattle.std.proofs.Common.{◌≡◌, ℕ, ◌+◌, ◌<◌, ◌≤◌, List, ◌∷◌, length, map, drop, get_or, sym, ap, ◌∙◌}
use Rattle.std.proofs.lemmas.List.{drop_more, drop_all}
use Rattle.tla_token.specs.Limits.{deepest_statement}
use Rattle.tla_tree.specs.Tree.{Tree, Graft}
use Rattle.pcal_tree.specs.declared.algorithm.Algorithm as code
use Rattle.pcal_tree.specs.Algorithm as pure
use Rattle.pcal_tree.specs.InMemory.{declarations_at, definitions_at, procedure_at, main_at, algorithm_at}
use Rattle.macro_expand.specs.Measured.{Calls, of_each, of_declared, of_procedure, of_main, of_algorithm}
use Rattle.macro_expand.specs.Size.{expanded_size}
use Rattle.expansion_size.specs.declared.left.Left.{Left}
use Rattle.expansion_size.specs.Spent.{all_left, spent}
use Rattle.expansion_size.specs.declared.frames.Frames.TheVariants.{Outside}
use Rattle.expansion_size.specs.Budget.{After, budget, calls}
use Rattle.expansion_size.specs.FramesIn.{put_by, newest_first}
use Rattle.expansion_size.proofs.FrameLaws.{put_outside}
use Rattle.expansion_size.proofs.WrittenOut.{same_as_expanded}

-- ---- lists

module _ {A B : Type 0} (g : Graft) (f : B → After) (h : A → B) (xs : List A) where
  pub each_more : (i d : ℕ) (x : A) (l k : Left) → x ≡ get_or xs i x → i < length xs → k ≡ f (h x) d l → of_each (budget g) f (map h (drop (i + 1) xs)) d k ≡ of_each (budget g) f (map h (drop i xs)) d l
  each_more i d x l k here within is =
      ap (of_each (budget g) f (map h (drop (i + 1) xs)) d) is
      ∙ ap (λ (ys : List A). of_each (budget g) f (map h ys) d l) (ap (λ (y : A). y ∷ drop (i + 1) xs) here ∙ sym (drop_more xs i x within))

  pub each_done : (i d : ℕ) (l : Left) → length xs ≤ i → of_each (budget g) f (map h (drop i xs)) d l ≡ l
  each_done i d l e = ap (λ (ys : List A). of_each (budget g) f (map h ys) d l) (drop_all i xs e)

-- ---- all parts

module _ (ts : List Tree) (a : code.Algorithm) where
  -- outside macros
  abbrev pub g : Graft
  g = put_by ts Outside

  -- at calls in the text
  abbrev pub C : Calls After
  C = calls (newest_first ts a.macros.items) g

  pub in_order : (i j k m : Left) → i ≡ of_declared (budget g) (declarations_at ts a.globals.items) deepest_statement all_left
      → j ≡ of_each (budget g) (λ (o : pure.Definition). (budget g).expression o.body) (definitions_at ts a.definitions.items) deepest_statement i
      → k ≡ of_each (budget g) (of_procedure (budget g) C) (map (procedure_at ts) a.procedures.items) deepest_statement j
      → m ≡ of_main (budget g) C (main_at ts a.main) deepest_statement k
      → m ≡ spent (expanded_size (algorithm_at ts a)) deepest_statement all_left
  in_order i j k m p q r s =
      s
      ∙ ap (of_main (budget g) C (main_at ts a.main) deepest_statement)
      (r ∙ ap (of_each (budget g) (of_procedure (budget g) C) (map (procedure_at ts) a.procedures.items) deepest_statement)
      (q ∙ ap (of_each (budget g) (λ (o : pure.Definition). (budget g).expression o.body) (definitions_at ts a.definitions.items) deepest_statement) p))
      ∙ (λ z. of_algorithm (budget (put_outside ts z)) (calls (newest_first ts a.macros.items) (put_outside ts z)) (algorithm_at ts a) deepest_statement all_left)
      ∙ (λ z. same_as_expanded (algorithm_at ts a) z deepest_statement all_left)
