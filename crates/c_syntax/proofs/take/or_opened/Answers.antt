-- Proves what is asked of `or_opened`.
use Rattle.std.proofs.Common.{◌∷◌, [], ◌++◌, ap, ◌∙◌}
use Rattle.c_syntax.specs.declared.open.Frame.{Frame}
use Rattle.c_syntax.proofs.Ending.{innermost_is}
use Rattle.c_syntax.proofs.Taking.{or_taken_by, or_of_others}
use Rattle.c_syntax.proofs.take.or_opened.Goals as goal

pub returns-in_ok-opened-in-Either : goal.returns-in_ok-opened-in-Either
returns-in_ok-opened-in-Either c ts s p a st h =
    let said = c.in_ok-opened-in-Either.ensures in
    or_taken_by ts c.args.state c.in_ok-opened-in-Either.field-0 c.pop.new.self.items c.in-Either.begun c.in-Either.before c.push.new.self c.in-Some.open.depth s p a st
    (c.in-Some.ensures.items ∙ ap (λ (f : Frame). c.pop.new.self.items ++ record { frame = f; depth = c.in-Some.open.depth } ∷ []) c.in-Either.is) c.in_ok-push-in-Either.ensures.items said.list said.point said.stack said.depth h

pub returns-in_default-frame : goal.returns-in_default-frame
returns-in_default-frame c ts s p a st h =
    or_of_others ts c.in-Some.open.frame s p a st c.in_default-frame.not-Either (innermost_is ts c.args.state.stack.items c.pop.new.self.items c.in-Some.open st c.in-Some.ensures.items h.stack).0.frame
