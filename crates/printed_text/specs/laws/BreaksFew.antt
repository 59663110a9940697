-- What the laws of printed algorithms in files speak of: the few rules that such a file can break.
use Rattle.std.specs.Prelude.{◌≡◌}
use Rattle.std.specs.List.{flat_map}
use Rattle.tla_token.specs.declared.place.Place.{Place}
use Rattle.tla_token.specs.declared.rule.Refusal.{Refusal}
use Rattle.tla_token.specs.declared.rule.Rule.TheVariants.{TooDeep}
use Rattle.tla_token.specs.AlgorithmOffences.{too_many_tokens, algorithm_offences as token_offences}
use Rattle.pcal_tree.specs.Grammar.{Syntax}
use Rattle.pcal_tree.specs.OffencesSyntax.{RefusesTokens}
use Rattle.pcal_tree.specs.Printed.{Text}
use Rattle.module_tree.specs.Walk.{walk}
use Rattle.module_tree.specs.FileOffences.{file_offences, outside_region, options_in}
use Rattle.module_tree.specs.AlgorithmText.{AlgorithmText, algorithm_tokens}

-- the file w with the algorithm a in this syntax breaks no rule of 1 to 15 but, maybe, these three
pub record BreaksFew (s : Syntax) (w : Text) (a : AlgorithmText) : Type 0 where
  -- of those on the file, that on options (10)
  pub file : file_offences w ≡ flat_map (options_in w) (outside_region w (walk w))
  -- of those on its words and numbers, that on how many tokens there are (13)
  pub words : token_offences (algorithm_tokens w a) ≡ too_many_tokens (algorithm_tokens w a)
  -- of those on what the tokens spell, that on how many forms are open in one another (14)
  pub spelling : (end : Place) (r : Refusal) → RefusesTokens s (algorithm_tokens w a) end r → r.rule ≡ TooDeep
