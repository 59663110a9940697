-- Files of constants, tried by computation.
use Rattle.std.proofs.Common.{◌≡◌, ℕ, pos, false, List, [], ◌∷◌, Some, None, refl, codes, arith, inl, inr, map}
use Rattle.tla_token.specs.declared.place.Place.{Place}
use Rattle.tla_token.specs.declared.rule.Rule.TheVariants.{BadLine}
use Rattle.tla_token.specs.Places.{nowhere}
use Rattle.tla_tree.specs.Tree.{Word}
use Rattle.tla_value.specs.Value.{Value, int, model, set}
use Rattle.tla_value.specs.Order.{set_from}
use Rattle.tla_value.specs.Outside.{Outside}
use Rattle.tla_value.specs.ValueText.{digits, named, braces, no_spellings, spelling}
use Rattle.tla_value.specs.ValueSeen.{SpellsFrom}
use Rattle.step_runner.specs.Fronts.{Text}
use Rattle.step_runner.specs.Items.{item_begins}
use Rattle.step_runner.specs.Config.{SpellsConfig, ConfigOffends, constants_of}
use Rattle.step_runner.proofs.Spelled.{value_here}
use Rattle.step_runner.proofs.Offended.{no_item, old_name}

abbrev N : Word
N = codes "N"

abbrev S : Word
S = codes "S"

abbrev an_int : ℕ → Value
an_int k = int (pos k)

-- a module with these constants
abbrev constants : List Word → Outside
constants ws = record { extended = []; constants = map (λ w. record { word = w; place = nowhere }) ws; definitions = []; opaque = [] }

abbrev at : ℕ → ℕ → Place
at l c = record { line = l; col = c }

-- ---- what is spelled

-- items go on in the next line, and comments stand in values too
abbrev config : Text
config = codes "N = 2 \\* two\nS = {p1, \\* one\n 7}"

two : SpellsFrom config 4 5 (an_int 2)
two = value_here config 4 5 1 (an_int 2) (omega arith) refl refl refl (search) (search) (digits 2, tt, refl, refl, refl)

abbrev p_and_seven : Value
p_and_seven = set (set_from (model (codes "p1") ∷ an_int 7 ∷ []))

a_set : SpellsFrom config 17 32 p_and_seven
a_set = value_here config 17 32 9 p_and_seven (omega arith) refl refl refl (search) (search) (braces (spelling (named (codes "p1")) (spelling (digits 7) no_spellings)), search, search, refl, refl)

both : SpellsConfig (constants (N ∷ S ∷ [])) config ((N, an_int 2) ∷ (S, p_and_seven) ∷ [])
both = (32, (5, (4, refl, two), (32, (17, refl, a_set), refl)), refl, refl, refl)

none : SpellsConfig (constants []) (codes " \\* none\n") []
none = (0, refl, refl, refl, refl)

-- `defaultInitValue` is given by itself
given : constants_of ((N, an_int 2) ∷ []) (codes "defaultInitValue") ≡ Some (model (codes "defaultInitValue"))
given = refl

-- ---- offences

abbrev twice : Text
twice = codes "N = 2\n N = 3"

first_two : SpellsFrom twice 4 5 (an_int 2)
first_two = value_here twice 4 5 1 (an_int 2) (omega arith) refl refl refl (search) (search) (digits 2, tt, refl, refl, refl)

repeated : ConfigOffends (constants (N ∷ [])) twice (record { rule = BadLine; place = at 2 2 })
repeated = (7, ((N, an_int 2) ∷ [], 5, (5, (4, refl, first_two), refl), refl, refl, inl (old_name false (N ∷ []) (N ∷ []) twice 7 N 11 (omega arith) refl refl)), refl)

unknown : ConfigOffends (constants (N ∷ [])) (codes "defaultInitValue = 1") (record { rule = BadLine; place = at 1 1 })
unknown = (0, ([], 0, refl, refl, refl, inl (old_name false (N ∷ []) [] (codes "defaultInitValue = 1") 0 (codes "defaultInitValue") 19 (omega arith) refl refl)), refl)

abbrev one : Text
one = codes "N = 2 \n"

only_two : SpellsFrom one 4 5 (an_int 2)
only_two = value_here one 4 5 1 (an_int 2) (omega arith) refl refl refl (search) (search) (digits 2, tt, refl, refl, refl)

-- at the file's end
missing : ConfigOffends (constants (N ∷ S ∷ [])) one (record { rule = BadLine; place = at 2 1 })
missing = (7, ((N, an_int 2) ∷ [], 5, (5, (4, refl, only_two), refl), refl, refl, inr (refl, refl)), refl)

-- a comment of the other kind is none here
no_comment : ConfigOffends (constants (N ∷ [])) (codes " (* none *) N = 1") (record { rule = BadLine; place = at 1 2 })
no_comment = (1, ([], 0, refl, refl, refl, inl (no_item false (N ∷ []) [] (codes " (* none *) N = 1") 1 (omega arith) refl)), refl)

no_name : item_begins false (codes "1 = N") 0 ≡ None
no_name = refl

two_signs : item_begins false (codes "N == 1") 0 ≡ None
two_signs = refl
