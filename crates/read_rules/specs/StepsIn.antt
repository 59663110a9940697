-- What statements do that have none in them, in memory.
use Rattle.std.specs.Prelude.{◌≡◌, List, [], ◌∷◌, ◌++◌, Bool, true, false, map, cond, bytes_eq}
use Rattle.tla_token.specs.declared.place.Place.{Place}
use Rattle.tla_tree.specs.Tree.{Word, words}
use Rattle.pcal_tree.specs.Algorithm.{Name, Statement, assign, await, print, assert, goto, call, return, Procedure}
use Rattle.pcal_tree.specs.OffencesStale.{used_by_call, jumps_use}
use Rattle.pcal_tree.specs.Paths.{roots}
use Rattle.pcal_tree.specs.Reads.{named}
use Rattle.pcal_tree.specs.laws.MacroSpots.{Use, other, uses, uses_of_all, uses_of_assignments}
use Rattle.read_rules.specs.declared.steps.Jump.{Jump}
use Rattle.read_rules.specs.declared.walk.Step.{Step}
use Rattle.read_rules.specs.Joins.{Joins}
use Rattle.read_rules.specs.UsesIn.{uses_of}

-- the names that a call of the first procedure of a name uses
abbrev pub jump_words : List Jump → Word → List Word
jump_words [] x = []
jump_words (j ∷ js) x = cond (bytes_eq j.name x) (words j.uses.items) (jump_words js x)

abbrev pub AreJumps : List Jump → List Procedure → Type 0
AreJumps js ps = (q : Name) → words (used_by_call ps q) ≡ jump_words js q.word

abbrev pub others_at : Place → List Word → List Use
others_at at xs = map (λ x. other (named x at)) xs

-- what a statement uses; of a macro call nothing here
abbrev pub simple_uses : List Procedure → Place → Statement → List Use
simple_uses ps at (assign ms) = uses_of_assignments ms
simple_uses ps at (await e) = uses e
simple_uses ps at (print e) = uses e
simple_uses ps at (assert e) = uses e
simple_uses ps at (goto l) = map other (jumps_use ps at (goto l))
simple_uses ps at (call q ts) = uses_of_all ts ++ map other (jumps_use ps at (call q ts))
simple_uses ps at _ = []

abbrev pub simple_roots : Statement → List Word
simple_roots (assign ms) = roots ms
simple_roots _ = []

abbrev pub simple_stops : Statement → Bool
simple_stops (goto l) = true
simple_stops (call q ts) = true
simple_stops return = true
simple_stops _ = false

pub record DoesSimple (ps : List Procedure) (at : Place) (st : Statement) (s : Step) : Type 0 where
  pub uses : uses_of s.uses.items ≡ simple_uses ps at st
  pub names : Joins [] s.names (simple_roots st)
  pub stops : s.stops ≡ simple_stops st
