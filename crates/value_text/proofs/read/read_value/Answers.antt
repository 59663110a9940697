-- Proves what is asked of `read_value`.
use Rattle.value_text.specs.InSight.{ahead}
use Rattle.value_text.proofs.Ends.{spells_there, refused_by}
use Rattle.value_text.proofs.read.read_value.Goals as goal

pub returns-in-Ok-clause-read : goal.returns-in-Ok-clause-read
returns-in-Ok-clause-read c = spells_there c.args.text.now c.args.at c.value.new.at c.in-Ok.v c.in-Ok.ensures.read c.in-Ok.ensures.moved.0 c.in-Ok.ensures.moved.1 c.in-Ok.ensures.way

pub returns-in-Err-NoValue-clause-refused : goal.returns-in-Err-NoValue-clause-refused
returns-in-Err-NoValue-clause-refused c = λ r e.
    refused_by c.args.text.now c.args.at (ahead c.args.text.now c.value.new.at) c.in-Err-NoValue.field-0 c.place_of.result r c.in-Err-NoValue.ensures.read c.in-Err-NoValue.field-0-is c.place_of.ensures.value e
