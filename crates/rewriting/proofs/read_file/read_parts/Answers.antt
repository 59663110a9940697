-- What reading the tokens is answered is what the file is.
use Rattle.rewriting.proofs.FileRead.{ok_answer, err_answer}
use Rattle.rewriting.proofs.read_file.read_parts.Goals as goal

pub returns-in-Ok-reserve-clause-clean : goal.returns-in-Ok-reserve-clause-clean
returns-in-Ok-reserve-clause-clean c =
    ok_answer c.args.parts.now.text.now c.args.parts.now c.requires.parts c.requires.fine c.in-Ok.tokens c.in-Ok.ensures.found c.read_in.result c.read_in.ensures.answered

pub returns-in-Ok-reserve-clause-stopped : goal.returns-in-Ok-reserve-clause-stopped
returns-in-Ok-reserve-clause-stopped c =
    err_answer c.args.parts.now.text.now c.args.parts.now c.requires.parts c.requires.fine c.in-Ok.tokens c.in-Ok.ensures.found c.read_in.result c.read_in.ensures.refused
