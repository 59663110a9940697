-- What is found in a macro's body whatever labels are missing, and what rounds of a loop make of paths.
use Rattle.std.proofs.Common.{◌≡◌, List, [], ◌++◌, Bool, true, false, ◌||◌, Some, None, refl, sym, ◌∙◌, ap, cond}
use Rattle.std.specs.List.{list_any}
use Rattle.std.proofs.lemmas.List.Folds.{list_any-append}
use Rattle.tla_tree.specs.Tree.{Word}
use Rattle.pcal_tree.specs.Algorithm.{Statement, Statements}
use Rattle.pcal_tree.specs.Paths.{Effects, Path, joined, again, rounds, after, is_reached}
use Rattle.pcal_tree.specs.laws.MacroSummaries.{Found, found}
use Rattle.pcal_tree.proofs.EffectLaws.{Alike}
use Rattle.label_steps.specs.Gathered.{gathered_generally, names_there, FoundAlike}
use Rattle.label_steps.proofs.GatherLaws.{met_all}
use Rattle.label_steps.proofs.PathShapes.{Seen, seen, one_of, past, seen_alike, seen_joined, Shape, list_shape}

-- what is found in a body is what is met along its paths, whatever labels are missing
pub general_is : (S : Statement → Found) (b : Statements) → FoundAlike (gathered_generally S (Some []) b) (found S false (Some []) b)
general_is S b = met_all S b false None (Some []) (Some []) (λ f. refl)

-- ---- rounds

abbrev there : Seen → Bool
there None = false
there (Some a) = a

seen_there : (f : Word → Bool) (p : Path) → list_any f (names_there p) ≡ there (seen f p)
seen_there f None = refl
seen_there f (Some xs) = refl

module _ (g : Path → Path) (m : Shape g) where
  some_rounds : (xs : List Word) → Alike (rounds joined g (Some xs)) (Some (xs ++ names_there (g (Some []))))
  some_rounds xs = seen_alike (rounds joined g (Some xs)) (Some (xs ++ names_there (g (Some [])))) (λ f.
      seen_joined f (g (Some xs)) (Some xs)
      ∙ ap (λ (u : Seen). one_of u (Some (list_any f xs))) (m.is f (Some xs))
      ∙ by (seen f m.kept) (seen f m.fresh) (list_any f xs)
      ∙ ap (λ (u : Seen). Some (list_any f xs || there u)) (sym (m.is f (Some [])))
      ∙ ap (λ (b : Bool). Some (list_any f xs || b)) (sym (seen_there f (g (Some []))))
      ∙ ap Some (sym (list_any-append f xs (names_there (g (Some []))))))
    where
      by : (t a : Seen) (x : Bool) → one_of (one_of (past t (Some x)) a) (Some x) ≡ Some (x || there (one_of (past t (Some false)) a))
      by None None true = refl
      by None None false = refl
      by None (Some true) true = refl
      by None (Some true) false = refl
      by None (Some false) true = refl
      by None (Some false) false = refl
      by (Some true) None true = refl
      by (Some true) None false = refl
      by (Some false) None true = refl
      by (Some false) None false = refl
      by (Some true) (Some a) true = refl
      by (Some true) (Some a) false = refl
      by (Some false) (Some a) true = refl
      by (Some false) (Some true) false = refl
      by (Some false) (Some false) false = refl

  none_rounds : Alike (rounds joined g None) (cond (is_reached (g None)) (g (Some [])) None)
  none_rounds = seen_alike (again g (g None)) (cond (is_reached (g None)) (g (Some [])) None) (λ f. by f (g None) refl)
    where
      once_more : (t a : Seen) (y : Bool) → Some y ≡ one_of (past t None) a → one_of (past t (Some y)) a ≡ one_of (past t (Some false)) a
      once_more None a y e = refl
      once_more (Some true) a y e = refl
      once_more (Some false) None y e = cc
      once_more (Some false) (Some a) true e = ap (λ (u : Seen). one_of (Some true) u) (sym e) ∙ ap (λ (u : Seen). one_of (Some false) u) e
      once_more (Some false) (Some a) false e = refl

      by : (f : Word → Bool) (o : Path) → g None ≡ o → seen f (again g o) ≡ seen f (cond (is_reached o) (g (Some [])) None)
      by f None e = refl
      by f (Some ys) e =
          m.is f (Some ys) ∙ once_more (seen f m.kept) (seen f m.fresh) (list_any f ys) (ap (seen f) (sym e) ∙ m.is f None)
          ∙ sym (m.is f (Some []))

-- any number of rounds, from what the body does from a path without names and from no path
pub rounds_from_some : (E : Effects) (b : Statements) (xs : List Word)
    → Alike (rounds joined (λ q. after E b false q) (Some xs)) (Some (xs ++ names_there (after E b false (Some []))))
rounds_from_some E b xs = some_rounds (λ q. after E b false q) (list_shape E b false) xs

pub rounds_from_none : (E : Effects) (b : Statements)
    → Alike (rounds joined (λ q. after E b false q) None) (cond (is_reached (after E b false None)) (after E b false (Some [])) None)
rounds_from_none E b = none_rounds (λ q. after E b false q) (list_shape E b false)
