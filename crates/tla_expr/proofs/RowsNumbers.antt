-- Worked rows: numbers that are read, and what has the trees of phrases.
use Rattle.std.proofs.Common.{◌≡◌, ℕ, ◌<◌, List, [], ◌∷◌, map, refl, sym, ap, subst, arith}
use Rattle.tla_token.specs.declared.place.Place.{Place}
use Rattle.tla_token.specs.declared.token.Kind.TheVariants as kind
use Rattle.tla_token.specs.declared.token.Token as code_token
use Rattle.tla_token.specs.declared.token.Tokens.{Tokens}
use Rattle.tla_token.specs.Limits.{past_numbers}
use Rattle.tla_token.specs.TokensSeen.{token_seen}
use Rattle.tla_tree.specs.Tree.{Tree}
use Rattle.tla_tree.specs.Lexical as tk
use Rattle.tla_tree.specs.TokenViews.{views}
use Rattle.tla_tree.specs.Spelling.{Phrase, last, more, tree_of}
use Rattle.tla_tree.specs.Reader.{next}
use Rattle.expr_nodes.specs.ReadIn.{seen}
use Rattle.tla_expr.specs.Numbers.{NumbersFit}
use Rattle.tla_expr.specs.ReadTrees.{HasTree, HaveTrees}
use Rattle.tla_expr.proofs.NumbersGiven.{AllFit, of_text, seen_fit}

-- the one token of these, at the beginning of a line
abbrev single : ℕ → code_token.Token
single n = record { kind = kind.Number n; at = 0; place = record { line = 1; col = 1 } }

one_fits : (v : Tokens) (n : ℕ) → v.items.items ≡ single n ∷ [] → n < past_numbers → NumbersFit v
one_fits v n e h = seen_fit v (subst (λ (us : List code_token.Token). AllFit (views (map (token_seen v.bytes.items) us))) (sym e) (of_text (tk.number n) h, tt))

-- so seven is read, and 2^127 isn't
seven_fits : (v : Tokens) → v.items.items ≡ single 7 ∷ [] → NumbersFit v
seven_fits v e = one_fits v 7 e (omega arith)

too_big : (v : Tokens) → v.items.items ≡ single past_numbers ∷ [] → NumbersFit v → ⊥
too_big v e h = (let k = h 0 0 past_numbers (ap (λ (us : List code_token.Token). (next 0 (seen v.bytes.items us)).kind) e) in omega (arith, k))

-- ---- trees
its_tree : (a : Phrase) → HasTree (tree_of a ∷ []) 0 a
its_tree a = record { below = omega arith; tree = refl }

other_tree : (a : Phrase) (t : Tree) → HasTree (t ∷ tree_of a ∷ []) 1 a
other_tree a t = record { below = omega arith; tree = refl }

two_trees : (a b : Phrase) (p : Place) → HaveTrees (tree_of b ∷ tree_of a ∷ []) (1 ∷ 0 ∷ []) (more a p (last b))
two_trees a b p = record { below = (omega arith, (omega arith, tt)); trees = refl }
