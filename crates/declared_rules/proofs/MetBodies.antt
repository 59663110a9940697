-- The names that lists bind, one after another.
use Rattle.std.proofs.Common.{◌≡◌, ℕ, List, [], ◌∷◌, ◌++◌, ◌||◌, bytes_eq, refl, sym, ap, ◌∙◌}
use Rattle.std.specs.List.{flat_map}
use Rattle.std.proofs.lemmas.List.{map-append}
use Rattle.std.proofs.lemmas.Grind.{flat_map-append}
use Rattle.tla_token.specs.Signs.{is_among}
use Rattle.tla_tree.specs.Tree.{Name, Word, Tree, words}
use Rattle.tla_tree.specs.Pool.{at, trees_at}
use Rattle.pcal_tree.specs.BoundNames.{Lists, all_of, lists_in, lists_in_all}
use Rattle.pcal_tree.proofs.SetLaws.{or_mixed}
use Rattle.declared_rules.specs.Met.{bound_words, expr_words}
use Rattle.declared_rules.proofs.MetWalks.{among_both}

pub bound_both : (xs ys : Lists) → bound_words xs ++ bound_words ys ≡ bound_words (xs ++ ys)
bound_both xs ys = sym (ap words (flat_map-append (λ (xs : List Name). xs) xs ys) ∙ map-append (λ (x : Name). x.word) (all_of xs) (all_of ys))

pub trees_words : (ts : List Tree) (es : List ℕ) → flat_map (expr_words ts) es ≡ bound_words (lists_in_all (trees_at ts es))
trees_words ts [] = refl
trees_words ts (e ∷ es) = ap (λ l. expr_words ts e ++ l) (trees_words ts es) ∙ bound_both (lists_in (at ts e)) (lists_in_all (trees_at ts es))

-- a name and its expression, before those that follow
pub one_bound : (w x : Word) (ls ms : Lists) (ns rest : List Word) → is_among rest w ≡ (is_among ns w || is_among (bound_words ms) w)
    → is_among ((x ∷ bound_words ls) ++ rest) w ≡ (is_among (x ∷ ns) w || is_among (bound_words (ls ++ ms)) w)
one_bound w x ls ms ns rest h =
    among_both (x ∷ bound_words ls) rest w
    ∙ ap (λ b. (bytes_eq x w || is_among (bound_words ls) w) || b) h
    ∙ or_mixed (bytes_eq x w) (is_among (bound_words ls) w) (is_among ns w) (is_among (bound_words ms) w)
    ∙ ap (λ b. (bytes_eq x w || is_among ns w) || b) (sym (among_both (bound_words ls) (bound_words ms) w) ∙ ap (λ l. is_among l w) (bound_both ls ms))
