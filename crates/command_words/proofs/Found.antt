-- The value that was found under a name is that of the first row of this name.
use Rattle.std.proofs.Common.{◌≡◌, sym}
use Rattle.clap.specs.Walk.{Text, first_of, rows_of}
use Rattle.clap.specs.Matches.{first_value}
use Rattle.clap.specs.declared.parser.matches.Found.{Found}
use Rattle.clap.proofs.WalkLemmas.{first_value-rows}

pub row_value : (f : Found) (id : Text) → first_of id (rows_of f) ≡ first_value f id
row_value f id = sym (first_value-rows f id)
