-- The parts that are read off a file before its algorithm is read ("A PlusCal User's Manual", sections 2.1 and 2.2).
use Rattle.std.specs.Prelude.{◌≡◌, ℕ, not, Some, is_some}
use Rattle.tla_token.specs.Places.{place_at}
use Rattle.tla_token.specs.Tokens.{stretch}
use Rattle.tla_token.specs.TokensSeen.{tokens_seen}
use Rattle.module_tree.specs.declared.parts.Parts.{Parts}
use Rattle.module_tree.specs.TextFront.{Text}
use Rattle.module_tree.specs.Walk.{walk}
use Rattle.module_tree.specs.FileParts.{title, module_end, region_of, spot, before_spot, after_spot}
use Rattle.module_tree.specs.AlgorithmText.{AlgorithmText, algorithm_in, is_c}
use Rattle.module_tree.specs.FileUnits.{tokens_in}

-- these are the file's parts
pub record Splits (x : Text) (p : Parts) : Type 0 where
  pub text : p.text.now ≡ x
  pub title : title (walk x) ≡ Some (stretch x p.title.from p.title.to)
  pub spot : spot (walk x) ≡ Some (record { from = p.spot.from; to = p.spot.to })
  pub is_new : is_some (region_of (walk x)) ≡ not p.is_new
  pub found : AlgorithmText
  pub algorithm : algorithm_in x ≡ Some found
  pub begins : found.from ≡ p.algorithm.from
  pub ends : found.rest.to ≡ p.algorithm.to
  pub is_c : is_c found.rest.stage ≡ p.is_c
  pub before : tokens_seen p.before ≡ tokens_in (before_spot (walk x))
  pub before_end : p.before.end ≡ place_at x p.spot.from
  pub after : tokens_seen p.after ≡ tokens_in (after_spot (walk x))
  pub at_end : ℕ
  pub ended : module_end (walk x) ≡ Some at_end
  pub after_end : p.after.end ≡ place_at x at_end
