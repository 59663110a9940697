-- The test before an action of fairness is true exactly where the process is at none of the labels that are left out.
use Rattle.std.proofs.Common.{◌≡◌, List, [], ◌∷◌, false, not, map, Ok, refl, ◌∙◌, ap}
use Rattle.std.specs.Prelude.{◌||◌, bytes_eq}
use Rattle.std.proofs.lemmas.Map.Text.{is_eq-slice_cmp}
use Rattle.tla_token.specs.Places.{nowhere}
use Rattle.tla_token.specs.Signs.{is_among}
use Rattle.tla_tree.specs.Tree.{Word, Tree, set_of}
use Rattle.tla_value.specs.Value.{Value, truth, text, values_in, ◌>>=◌}
use Rattle.tla_value.specs.Order.{same, holds}
use Rattle.tla_value.specs.OrderLaws.{same_equivalence}
use Rattle.tla_value.specs.Stops.{plain}
use Rattle.tla_value.specs.Strict.{strict_test, same_truth}
use Rattle.tla_value.specs.Meaning.{Env, eval, evals, part_values}
use Rattle.tla_value.proofs.OrderSets.{holds_set_from}
use Rattle.tla_tree.specs.TreeOf.{trees_from}
use Rattle.module_tree.specs.Formulas.{named, quoted, at, is_in, set}
use Rattle.pcal_tree.specs.Takers.{Takers}
use Rattle.pcal_tree.specs.Variables.{pc}
use Rattle.fairness.specs.FairnessLines.{identifier_of, guard_of}
use Rattle.fairness.specs.laws.LinesOfObligations.{LeavesOut}

one_text : (x l : Word) → same (text l) (text x) ≡ bytes_eq x l
one_text x l = same_equivalence.symm (text l) (text x) ∙ is_eq-slice_cmp x l

held : (xs : List Word) (l : Word) → holds (text l) (values_in (map text xs)) ≡ is_among xs l
held [] l = refl
held (x ∷ xs) l = λ i. one_text x l i || held xs l i

quoted_values : (xs : List Word) (env : Env) → part_values (evals plain (trees_from (map quoted xs))) env ≡ Ok (map text xs)
quoted_values [] env = refl
quoted_values (x ∷ xs) env = ap (λ o. o >>= (λ vs. Ok (text x ∷ vs))) (quoted_values xs env)

-- a value is tested by the members of a set of strings
quoted_test : (xs : List Word) (env : Env) (w : Value) → (eval plain (set (map quoted xs)) env).test nowhere w ≡ Ok (holds w (values_in (map text xs)))
quoted_test xs env w = (λ i. quoted_values xs env i >>= strict_test plain set_of nowhere nowhere w) ∙ ap Ok (holds_set_from w (map text xs))

pub tested : (e : Tree) (xs : List Word) (env : Env) (w : Value) → (eval plain e env).value ≡ Ok w → (eval plain (is_in false e (set (map quoted xs))) env).value ≡ Ok (truth (not (holds w (values_in (map text xs)))))
tested e xs env w is =
    (λ i. is i >>= (λ v. (eval plain (set (map quoted xs)) env).test nowhere v >>= (λ b. Ok (truth (same_truth false b)))))
    ∙ (λ i. quoted_test xs env w i >>= (λ b. Ok (truth (same_truth false b))))

pub guard_leaves_out : (t : Takers) (xs : List Word) → LeavesOut (identifier_of t) xs (guard_of t xs)
guard_leaves_out t [] env l at_l = refl
guard_leaves_out t (x ∷ xs) env l at_l = tested (at (named pc) (identifier_of t)) (x ∷ xs) env (text l) at_l ∙ ap (λ b. Ok (truth (not b))) (held (x ∷ xs) l)
