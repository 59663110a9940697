-- What `translate` promises of each module that it accepts: the written text reads as exactly one module, whose Next and Init, where no expression
-- that is reached faults, are true just of the steps and the initial states of the algorithm in the text that was read.
use Rattle.std.specs.Prelude.{◌≡◌, ◌⊎◌, ℕ, List, Some}
use Rattle.tla_token.specs.Tokens.{Token, TokAlgorithm}
use Rattle.pcal_tree.specs.Algorithm.{Algorithm}
use Rattle.pcal_tree.specs.Grammar.{SpellsP, SpellsC}
use Rattle.pcal_tree.specs.Labelled.{labelled}
use Rattle.module_tree.specs.AlgorithmText.{AlgorithmText, algorithm_in}
use Rattle.promise.specs.Options.{Options}
use Rattle.promise.specs.Translates.{Translates}

-- the algorithm a is in the text x, in one of the two syntaxes
pub record Stands (x : List ℕ) (a : Algorithm) : Type 0 where
  pub text : AlgorithmText
  pub is_text : algorithm_in x ≡ Some text
  pub tokens : List Token
  pub tok : TokAlgorithm x text.from text.rest.to tokens
  pub spelled : SpellsP tokens a ⊎ SpellsC tokens a

-- w is the text x with the translation of the algorithm that is in it, labels added where they are forced or there are none, and with the
-- stuttering end or without it
pub record Headline (options : Options) (x w : List ℕ) : Type 0 where
  pub algorithm : Algorithm
  pub stands : Stands x algorithm
  pub translates : Translates options.no_terminating x (labelled options.label algorithm) w
