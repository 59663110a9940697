-- Proves what the shelf did when all files were read, and where one of them wasn't.
use Rattle.running.specs.Names.{names_of}
use Rattle.running.specs.Reading.{files_in}
use Rattle.running.proofs.FilesRead.{module_read, config_read, third_read}
use Rattle.running.proofs.reading.load_three.Goals as goal

pub returns-clause-read : goal.returns-clause-read
returns-clause-read g c =
    let n = names_of c.args.names.now in
    let f = files_in (record { source = c.in_ok-source.source; config = c.in_ok-config.config; third = c.in_ok-third.third }) in
    let shelf = c.args.shelf.now in
    let one = c.load_one.new.shelf in
    let two = c.load_one-2.new.shelf in
    let first = module_read g.H.Shelf.texts g.H.Shelf.given g.H.Shelf.faults n f shelf one c.in_ok-source.ensures.read in
    let second = config_read g.H.Shelf.texts g.H.Shelf.given g.H.Shelf.faults n f shelf one two first c.in_ok-config.ensures.read in
    third_read g.H.Shelf.texts g.H.Shelf.given g.H.Shelf.faults n f shelf two c.load_one-3.new.shelf second c.in_ok-third.ensures.read
