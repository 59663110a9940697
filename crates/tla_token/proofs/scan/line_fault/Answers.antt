-- The part behind the quote is the first of the text from there on.
use Rattle.std.proofs.Common.{ap, ◌∙◌}
use Rattle.std.proofs.lemmas.List.{take_rest}
use Rattle.tla_token.specs.Scan.{front}
use Rattle.tla_token.proofs.Scans.{line_found, line_none}
use Rattle.tla_token.proofs.scan.line_fault.Goals as goal

pub returns-in-None : goal.returns-in-None
returns-in-None c = line_none c.args.text.now c.args.quote (c.in-None.ensures.part ∙ ap front (take_rest c.args.text.now c.args.quote))

pub returns-in-Some : goal.returns-in-Some
returns-in-Some c =
    line_found c.args.text.now c.args.quote c.in-Some.part c.piece_of.result.now c.part_fault.result (c.in-Some.ensures.part ∙ ap front (take_rest c.args.text.now c.args.quote))
    (rw take_rest at c.piece_of.ensures.value) c.part_fault.ensures
