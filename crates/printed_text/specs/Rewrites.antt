-- The promise of a rewriting: the algorithm is printed where it stands, all else is as it was, and what is read there again is the same algorithm
-- ("A PlusCal User's Manual", section 2.1 and appendix A).
use Rattle.std.specs.Prelude.{◌≡◌, true, Some}
use Rattle.tla_token.specs.Tokens.{stretch}
use Rattle.pcal_tree.specs.Algorithm.{Algorithm}
use Rattle.pcal_tree.specs.Placeless.{placeless}
use Rattle.pcal_tree.specs.Grammar.{Syntax, Spells}
use Rattle.pcal_tree.specs.Printed.{Text}
use Rattle.module_tree.specs.AlgorithmText.{AlgorithmText, algorithm_in, algorithm_tokens}
use Rattle.module_tree.specs.laws.Swaps.{is_paired}
use Rattle.printed_text.specs.Rewritten.{Rewritten}

-- an algorithm stands in w, and whatever is read of its tokens, in either syntax, is this tree in this syntax, places aside
pub record StandsIn (s : Syntax) (g : Algorithm) (w : Text) : Type 0 where
  pub text : AlgorithmText
  pub is_text : algorithm_in w ≡ Some text
  pub tree : Algorithm
  pub spelled : Spells s (algorithm_tokens w text) tree
  pub same : (t : Syntax) (h : Algorithm) → Spells t (algorithm_tokens w text) h → (t ≡ s) × (placeless h ≡ placeless g)

-- w is x rewritten in this syntax. Where the old algorithm opens and closes comments otherwise than in pairs, those of the text around may begin or end
-- elsewhere in w, and nothing is said of what is read there.
pub record Rewrites (s : Syntax) (x w : Text) : Type 0 where
  pub written : Rewritten s x w
  pub again : is_paired 0 (stretch x written.old.from written.old.rest.to) ≡ true → StandsIn s written.tree w
