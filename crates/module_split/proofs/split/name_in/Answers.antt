use Rattle.std.proofs.Common.{◌≤◌, ap, ◌∙◌, Some, arith}
use Rattle.module_split.proofs.SplitTitle.{stretch_in}
use Rattle.module_split.proofs.split.name_in.Goals as goal

pub returns : goal.returns
returns c =
    let x = c.args.text.now in
    let d = c.args.line in
    let size : c.in-Some.name.to ≤ d.len = omega (arith, c.in-Some.ensures.within, c.bytes_of.ensures.size) in
    (rw c.bytes_of.ensures.value at c.in-Some.ensures.title) ∙ ap Some (stretch_in x d.at d.len c.in-Some.name.from c.in-Some.name.to size)
