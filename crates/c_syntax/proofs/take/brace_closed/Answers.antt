-- Proves what is asked of `brace_closed`.
use Rattle.std.proofs.Common.{rules, ◌∷◌, [], ◌++◌, refl, ap, ◌∙◌}
use Rattle.c_syntax.specs.declared.open.Frame.{Frame}
use Rattle.c_syntax.proofs.Ending.{innermost_is}
use Rattle.c_syntax.proofs.Taking.{brace_at_bottom, brace_taken_by, brace_of_others}
use Rattle.c_syntax.proofs.take.brace_closed.Goals as goal

pub returns-in_default : goal.returns-in_default
returns-in_default c ts s a st h = brace_at_bottom ts c.args.state s c.args.place a st (search rules) h

pub returns-in-Block : goal.returns-in-Block
returns-in-Block c ts s a st h =
    brace_taken_by ts c.args.state _ c.in-Some.open.depth s c.args.place a st
    (c.in-Some.ensures.items ∙ ap (λ (f : Frame). c.pop.new.self.items ++ record { frame = f; depth = c.in-Some.open.depth } ∷ []) c.in-Block.is) refl refl refl h

pub returns-in_default-frame : goal.returns-in_default-frame
returns-in_default-frame c ts s a st h =
    brace_of_others ts c.in-Some.open.frame s c.args.place a st c.in_default-frame.not-Block (innermost_is ts c.args.state.stack.items c.pop.new.self.items c.in-Some.open st c.in-Some.ensures.items h.stack).0.frame
