-- The walk over the front of the text is that between the lines.
use Rattle.module_split.specs.Walking.{state_of}
use Rattle.region_split.proofs.RegionInside.{inside_read}
use Rattle.region_split.proofs.inside.inside.Goals as goal

pub returns-in-Region-clause-walked : goal.returns-in-Region-clause-walked
returns-in-Region-clause-walked c =
    inside_read c.args.text.now c.args.old c.in-Region.len c.in-Region.is c.requires.solid c.requires.placed (λ v. v.items) c.walk_on.result (state_of c.behind_line.result) c.behind_line.ensures.state
    c.walk_on.ensures.solid c.walk_on.ensures.walked
