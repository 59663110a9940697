-- The conjunct of Init for a variable, in parts: its first value, spread over the members of a set or not, and the formula of it
-- ("A PlusCal User's Manual", sections 3.3 and 3.4).
use Rattle.std.specs.Prelude.{◌≡◌, List, [], ◌∷◌, Bool, true, false}
use Rattle.tla_token.specs.Places.{nowhere}
use Rattle.tla_token.specs.Signs.{is_among}
use Rattle.tla_tree.specs.Tree.{Word, Tree, node, cases, graft}
use Rattle.tla_tree.specs.TreeOf.{trees_from}
use Rattle.module_tree.specs.Formulas.{self, named, unset_value, equal, is_in, function_of_self, functions_from}
use Rattle.pcal_tree.specs.Algorithm.{Start, unset, equals, among, Declaration, Routine, locals, declares}
use Rattle.pcal_tree.specs.Takers.{Takers, each_of, single, Taken}
use Rattle.pcal_tree.specs.Program.{Program, written}
use Rattle.written_names.specs.Units.{naming_of}
use Rattle.prime_subst.specs.declared.localising.Local.{Local}
use Rattle.action_builder.specs.SingleProcess.{in_place_of}
use Rattle.action_builder.specs.InitialFormulas.{written_in, plain_start, start_by, is_taker, first_pc, arms}

-- x = v, or x \in v
abbrev pub formula : Bool → Word → Tree → Tree
formula false x v = equal (named x) v
formula true x v = is_in true (named x) v

-- for each member of a set: [self \in S |-> v], or [S -> v]
abbrev pub spread_by : Takers → Bool → Tree → Tree
spread_by (each_of s) false v = function_of_self s v
spread_by (each_of s) true v = functions_from s v
spread_by _ b v = v

abbrev pub is_choice : Start → Bool
is_choice (among e) = true
is_choice _ = false

-- the value, or the set of which it is one, with f of an expression and g of a set
abbrev pub first_value : (Tree → Tree) → (Tree → Tree) → Start → Tree
first_value f g unset = unset_value
first_value f g (equals e) = f e
first_value f g (among e) = g e

-- a single process's expression in place of `self`
abbrev pub for_takers : Takers → Tree → Tree
for_takers (single e) t = graft (in_place_of self e) t
for_takers _ t = t

-- an expression of a routine as Init has it
abbrev pub started_in : Program → Routine → Takers → Tree → Tree
started_in P u t e = for_takers t (written_in P u e)

-- a set of first values; where there is one value for each member of a set, it is outside of all processes
abbrev pub set_in : Program → Routine → Takers → Tree → Tree
set_in P u (each_of s) e = e
set_in P u t e = started_in P u t e

-- of a variable or parameter
abbrev pub local_start : Program → Routine → Takers → Declaration → Tree
local_start P u t d = start_by P u t (written P u d.name.word) d.start

-- a local is of the routine
pub record IsLocal (l : Local) (P : Program) (u : Routine) : Type 0 where
  pub number : u.number ≡ l.unit
  pub naming : naming_of l.naming.now ≡ P.naming
  pub names : (x : Word) → is_among l.locals.now x ≡ declares (locals u) x

-- of a variable that all processes share
abbrev pub global_start : Declaration → Tree
global_start d = plain_start (λ e. e) d.name.word d.start

-- ---- pc

-- an arm of the CASE by processes
abbrev pub arm : Program → Taken → List Tree
arm P t = is_taker t.takers ∷ first_pc P t ∷ []

abbrev pub cases_of : Program → List Taken → Tree
cases_of P ts = node (cases false) nowhere (trees_from (arms P ts))
