-- Parameters and their arguments, one after another.
use Rattle.std.proofs.Common.{◌≡◌, ℕ, zero, suc, ◌+◌, ◌<◌, ◌≤◌, min, List, [], ◌∷◌, ◌++◌, length, map, take, get_or, refl, sym, ap, ◌∙◌, add-one, arith}
use Rattle.tla_tree.specs.Tree.{Word, Tree}
use Rattle.tla_tree.specs.Pool.{at}
use Rattle.pcal_tree.specs.declared.algorithm.Declaration.{Declaration as Kept}
use Rattle.draft.specs.RoutineNames.{words_of}
use Rattle.proc_stack.specs.Made.{Sides}
use Rattle.proc_stack.specs.Pieces.{argument_sides, arguments_sides}

module _ (w : Word → Word) (ts : List Tree) where
  abbrev pub given : List Kept → List ℕ → List Sides
  given ps es = arguments_sides w (words_of ps) (map (at ts) es)

  one_more : (ps : List Kept) (es : List ℕ) (i : ℕ) (p : Kept) (e : ℕ) → p ≡ get_or ps i p → e ≡ get_or es i e → i < length ps → i < length es
      → given (take (suc i) ps) (take (suc i) es) ≡ given (take i ps) (take i es) ++ argument_sides w p.name.word (at ts e) ∷ []
  one_more [] es i p e is js l k = absurd (let n : ⊥ = omega (arith, l) in n)
  one_more (q ∷ ps) [] i p e is js l k = absurd (let n : ⊥ = omega (arith, k) in n)
  one_more (q ∷ ps) (f ∷ es) zero p e is js l k = λ j. argument_sides w (sym is j).name.word (at ts (sym js j)) ∷ []
  one_more (q ∷ ps) (f ∷ es) (suc i) p e is js l k =
      ap (λ (s : List Sides). argument_sides w q.name.word (at ts f) ∷ s) (one_more ps es i p e is js (omega (arith, l)) (omega (arith, k)))

  pub arguments_more : (ps : List Kept) (es : List ℕ) (i : ℕ) (p : Kept) (e : ℕ) → p ≡ get_or ps i p → e ≡ get_or es i e → i < length ps → i < length es
      → given (take i ps) (take i es) ++ argument_sides w p.name.word (at ts e) ∷ [] ≡ given (take (i + 1) ps) (take (i + 1) es)
  arguments_more ps es i p e is js l k = sym (one_more ps es i p e is js l k) ∙ ap (λ n. given (take n ps) (take n es)) (sym (add-one i))

  pub arguments_all : (ps : List Kept) (es : List ℕ) (i : ℕ) → min (length ps) (length es) ≤ i → given (take i ps) (take i es) ≡ given ps es
  arguments_all [] es zero l = refl
  arguments_all [] es (suc i) l = refl
  arguments_all (p ∷ ps) [] zero l = refl
  arguments_all (p ∷ ps) [] (suc i) l = refl
  arguments_all (p ∷ ps) (e ∷ es) zero l = absurd (let n : ⊥ = omega (arith, l) in n)
  arguments_all (p ∷ ps) (e ∷ es) (suc i) l = ap (λ (s : List Sides). argument_sides w p.name.word (at ts e) ∷ s) (arguments_all ps es i (omega (arith, l)))
