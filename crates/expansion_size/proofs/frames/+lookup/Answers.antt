-- Proves that what stands for a name is found in the innermost call with such a parameter.
use Rattle.std.proofs.Common.{sym, ap, ◌∙◌}
use Rattle.expansion_size.specs.declared.frames.Frames.{Frames}
use Rattle.expansion_size.specs.FramesIn.{put_by}
use Rattle.expansion_size.proofs.FrameLaws.{found_here, found_around}
use Rattle.expansion_size.proofs.frames.+lookup.Goals as goal

pub returns-in-Some-clause-tree : goal.returns-in-Some-clause-tree
returns-in-Some-clause-tree t c = λ ts p.
    found_here ts c.in-Called.params c.in-Called.arguments c.in-Called.around c.args.name.now p c.in-Some.argument (c.in-Some.ensures.tree ts p)
    ∙ ap (λ (f : Frames). put_by ts f c.args.name.now p) (sym c.in-Called.is)

pub returns-in-None-clause-tree : goal.returns-in-None-clause-tree
returns-in-None-clause-tree t c = λ ts p.
    c.lookup.ensures.tree ts p
    ∙ found_around ts c.in-Called.params c.in-Called.arguments c.in-Called.around c.args.name.now p (c.in-None.ensures.tree ts p)
    ∙ ap (λ (f : Frames). put_by ts f c.args.name.now p) (sym c.in-Called.is)
