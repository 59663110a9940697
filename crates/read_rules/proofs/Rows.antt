-- Worked rows: levels of definitions, and what is read too early, by computation.
use Rattle.std.proofs.Common.{◌≡◌, ℕ, List, [], ◌∷◌, false, codes, refl}
use Rattle.tla_token.specs.declared.place.Place.{Place}
use Rattle.tla_token.specs.declared.rule.Rule.TheVariants.{InitLater}
use Rattle.tla_tree.specs.Tree.{Word, Name, Tree, node, name, no_trees}
use Rattle.pcal_tree.specs.Algorithm.{Start, unset, equals, done, alone, Declaration, Definition, Algorithm}
use Rattle.read_rules.specs.Levels.{levels}
use Rattle.read_rules.specs.EarlyReads.{order_offences_by}

abbrev at : ℕ → Place
at n = record { line = 1; col = n }

abbrev named : Word → Name
named w = record { word = w; place = at 0 }

abbrev read : ℕ → Word → Tree
read n w = node (name w) (at n) no_trees

abbrev defined : Word → Word → Definition
defined w v = record { name = named w; params = []; body = read 90 v }

abbrev declared_as : Word → Start → Declaration
declared_as w s = record { name = named w; start = s }

abbrev x : Word
x = codes "x"

abbrev y : Word
y = codes "y"

abbrev D : Word
D = codes "D"

abbrev E : Word
E = codes "E"

-- D == y, E == D, where x is declared before y
through_another : levels (x ∷ y ∷ []) (defined E D ∷ defined D y ∷ []) ≡ (E, 2) ∷ (D, 2) ∷ []
through_another = refl

-- E == D, D == y: D isn't known yet in E
not_yet_defined : levels (x ∷ y ∷ []) (defined D y ∷ defined E D ∷ []) ≡ (D, 2) ∷ (E, 0) ∷ []
not_yet_defined = refl

-- the definition reads its parameter
own_parameter : levels (x ∷ []) (record { name = named D; params = named x ∷ []; body = read 90 x } ∷ []) ≡ (D, 0) ∷ []
own_parameter = refl

abbrev algorithm : List Declaration → Algorithm
algorithm gs = record { name = named (codes "One"); fair = false; globals = gs; definitions = defined D y ∷ defined E D ∷ []; macros = []; procedures = []; main = alone done }

-- variables x = E, y
too_early : order_offences_by (algorithm (declared_as x (equals (read 5 E)) ∷ declared_as y unset ∷ [])) ≡ record { rule = InitLater; place = at 5 } ∷ []
too_early = refl

-- variables y, x = E
late_enough : order_offences_by (algorithm (declared_as y unset ∷ declared_as x (equals (read 5 E)) ∷ [])) ≡ []
late_enough = refl

-- a variable isn't there in its own initial value
its_own : order_offences_by (algorithm (declared_as x (equals (read 5 x)) ∷ declared_as y unset ∷ [])) ≡ record { rule = InitLater; place = at 5 } ∷ []
its_own = refl
