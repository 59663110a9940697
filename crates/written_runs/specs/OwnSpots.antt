-- The labels of a routine with its statements prepared: macro calls written out, with the written names, and a process's own variables at its identifier ("A PlusCal
-- User's Manual", section 4, on names in the translation).
use Rattle.std.specs.Prelude.{◌≡◌, List, map}
use Rattle.pcal_tree.specs.Algorithm.{Routine}
use Rattle.pcal_tree.specs.Program.{Program}
use Rattle.pcal_tree.specs.Step.{Stand}
use Rattle.pcal_tree.specs.StepStart.{Begin}
use Rattle.step_walks.specs.WrittenFlows.{own_statements}
use Rattle.step_spots.specs.Spots.{Spot}

-- v is u with its statements prepared; its variables may be prepared too, on which no label rests
pub record HasOwnStatements (P : Program) (u v : Routine) : Type 0 where
  pub number : v.number ≡ u.number
  pub body : v.body ≡ own_statements P u u.body
  pub exit : v.exit ≡ u.exit

abbrev pub prepared_begin : Program → Routine → Begin → Begin
prepared_begin P u b = record { items = own_statements P u b.items; exit = b.exit }

abbrev pub prepared_spot : Program → Routine → Spot → Spot
prepared_spot P u s = record { name = s.name; begins = prepared_begin P u s.begins }

abbrev pub prepared_spots : Program → Routine → List Spot → List Spot
prepared_spots P u ss = map (prepared_spot P u) ss

-- in v
abbrev pub prepared_stand : Program → Routine → Routine → Stand → Stand
prepared_stand P u v d = record { routine = v; label = d.label; begins = prepared_begin P u d.begins }
