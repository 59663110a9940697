-- How it is told whether a value is a member of an expression's set: most sets are listed for it, some are not.
use Rattle.std.specs.Prelude.{◌≡◌, List, Some}
use Rattle.tla_token.specs.declared.place.Place.{Place}
use Rattle.tla_tree.specs.Tree.{Word, Form, strings, name, strict, operator_call}
use Rattle.tla_pool.specs.FormOf.{strict_of}
use Rattle.tla_value.specs.Limits.{bounded}
use Rattle.tla_value.specs.Meaning.{Env, Denotation, meaning_of}
use Rattle.tla_value.specs.Standard.{sequences, standard_name, standard_sense}
use Rattle.eval_operators.specs.declared.member.TestBy.{TestBy}
use Rattle.eval_operators.specs.declared.member.TestBy.TheVariants.{Text, Standard, Parts, Sequences, Listed}
use Rattle.eval_operators.specs.Tested.{IsListed}

abbrev pub TestsBy : TestBy → Form → Env → Type 0
TestsBy Text m env = m ≡ strings
TestsBy (Standard x) m env = (m ≡ name x.now) × ((at : Place) → env.now x.now at ≡ standard_name x.now at)
TestsBy (Parts o) m env = m ≡ strict (strict_of o.now)
TestsBy Sequences m env = (f : Word) × (m ≡ operator_call f) × (env.defs f ≡ Some (standard_sense bounded sequences))
TestsBy Listed m env = (at : Place) (ds : List Denotation) → IsListed (meaning_of bounded m at ds env)
