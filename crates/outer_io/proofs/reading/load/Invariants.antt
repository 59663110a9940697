-- What was read is the front of the text, and is counted.
use Rattle.std.proofs.Common.{◌≡◌, ◌-◌, ◌≤◌, length, take}
use Rattle.outer_io.specs.Outer.{RoseBy, Tells}
use Rattle.outer_io.proofs.reading.load.Given as goal

abbrev pub invariant-pieces : goal.invariant-pieces
invariant-pieces g l = record {
  short : length l.out.items ≤ l.most;
  front : Tells (g.H.Shelf.texts l.initial.shelf) l.name (λ text. l.out.items ≡ take (length l.out.items) text);
  given : RoseBy (length l.out.items) (g.H.Shelf.given l.initial.shelf) (g.H.Shelf.given l.shelf);
  texts_stay : g.H.Shelf.texts l.shelf ≡ g.H.Shelf.texts l.initial.shelf;
  given_grows : g.H.Shelf.given l.initial.shelf ≤ g.H.Shelf.given l.shelf;
  faults_stay : g.H.Shelf.faults l.shelf ≡ g.H.Shelf.faults l.initial.shelf;
}

abbrev pub decreases-pieces : goal.decreases-pieces
decreases-pieces g l = l.most - length l.out.items
