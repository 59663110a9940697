-- What was passed has another name.
use Rattle.std.proofs.Common.{◌≡◌, drop}
use Rattle.outer_io.specs.Outer.{text_at, texts_in}
use Rattle.outer_io.proofs.memory.find.Given as goal

abbrev pub invariant-loop-title : goal.invariant-loop-title
invariant-loop-title l = text_at (texts_in (drop l.title-index l.texts)) l.name ≡ text_at (texts_in l.texts) l.name
