use Rattle.std.proofs.lemmas.List.{take_rest}
use Rattle.module_split.proofs.SegmentFronts.{region_front}
use Rattle.module_split.proofs.walk.begin_front.Goals as goal

pub returns-in-Some-clause-front : goal.returns-in-Some-clause-front
returns-in-Some-clause-front c =
    region_front c.args.marked c.args.text.now c.in-Some.n c.line_len.result c.requires.begins c.in-Some.ensures.found (rw take_rest at c.line_len.ensures)
