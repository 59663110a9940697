-- What it means that some tokens complete those that were passed to an algorithm, and are few ("A PlusCal User's Manual", appendix A).
use Rattle.std.specs.Prelude.{◌≡◌, ℕ, ◌+◌, ◌*◌, ◌≤◌, List, [], ◌++◌, length, map, get_or}
use Rattle.tla_tree.specs.Lexical.{Token}
use Rattle.tla_tree.specs.FirstStop.{Open}
use Rattle.pcal_tree.specs.Grammar.{Syntax, Text, Good, spell}
use Rattle.pcal_tree.specs.OpenForms.{opens}

-- the forms of expressions and of statements that are open at a token
abbrev pub forms : Open → ℕ
forms o = o.expressions + o.statements

-- with these tokens they are an algorithm; and they are at most 16 for each form that is open at the first of them, and 16
pub record Completes (syntax : Syntax) (passed fix : List Token) : Type 0 where
  pub whole : Text
  pub good : Good syntax whole
  pub spelled : spell whole [] ≡ passed ++ fix
  pub few : length fix ≤ 16 * get_or (map forms (opens whole)) (length passed) 0 + 16
