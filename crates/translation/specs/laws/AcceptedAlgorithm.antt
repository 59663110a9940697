-- An algorithm of a text, with labels added, that breaks no rule on tokens, names and labels ("A PlusCal User's Manual", section 3).
use Rattle.std.specs.Prelude.{◌≡◌, ◌<◌, ℕ, List, [], Bool, length, reverse}
use Rattle.tla_token.specs.AlgorithmOffences.{algorithm_offences}
use Rattle.tla_token.specs.Tokens.{Token, TokAlgorithm}
use Rattle.tla_value.specs.Outside.{Outside}
use Rattle.pcal_tree.specs.Algorithm.{Routine, routines, Algorithm}
use Rattle.pcal_tree.specs.Expand.{expanded}
use Rattle.pcal_tree.specs.Grammar.{Syntax, Spells}
use Rattle.pcal_tree.specs.Labelled.{labelled}
use Rattle.pcal_tree.specs.OffencesLabels.{label_offences}
use Rattle.pcal_tree.specs.OffencesOfNames.{name_offences}
use Rattle.pcal_tree.specs.Processes.{OneOf}
use Rattle.translation.specs.laws.AssignedOnce.{AssignOnce}
use Rattle.tla_token.specs.Limits.{past_text}
use Rattle.module_tree.specs.TextFront.{Text}
use Rattle.module_tree.specs.Walk.{walk}
use Rattle.module_tree.specs.laws.Outsides.{HasOutside}

-- none of the rules on tokens, names and labels is broken, in a module with this outside
pub record IsAccepted (o : Outside) (a : Algorithm) : Type 0 where
  pub syntax : Syntax
  pub text : List ℕ
  pub from : ℕ
  pub to : ℕ
  pub tokens : List Token
  pub tok : TokAlgorithm text from to tokens
  pub rules : algorithm_offences tokens ≡ []
  pub typed : Algorithm  -- before labels are added
  pub spelled : Spells syntax tokens typed
  pub forced : Bool  -- labels are added to every algorithm
  pub labels_added : labelled forced typed ≡ a
  pub names : name_offences a o ≡ []
  pub labels : label_offences a ≡ []

-- in a file within the limit of bytes, which has o outside
pub record IsAcceptedInFile (o : Outside) (a : Algorithm) : Type 0 where
  pub file : Text
  pub accepted : IsAccepted o a
  pub short : length file < past_text
  pub outside : HasOutside (walk file) o

-- no statement of a body, its macro calls written out, assigns a variable beside a part of it
abbrev pub EachAssignsOnce : Algorithm → Type 0
EachAssignsOnce a = (u : Routine) → OneOf u (routines a) → AssignOnce (expanded (reverse a.macros) u.body)
