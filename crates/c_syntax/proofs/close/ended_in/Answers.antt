-- Proves what is asked of `ended_in`.
use Rattle.std.proofs.Common.{subst}
use Rattle.std.proofs.lemmas.Result.{IfOk-weaker}
use Rattle.c_syntax.specs.StatesRead.{FrameStands}
use Rattle.c_syntax.specs.declared.open.Frame.{Frame}
use Rattle.c_syntax.proofs.EndsOne.{then_ended, else_ended, with_ended, while_ended, either_ended}
use Rattle.c_syntax.proofs.close.ended_in.Goals as goal

pub returns-in-Then : goal.returns-in-Then
returns-in-Then c = IfOk-weaker c.one_more.result _ _
    (λ ss e ts a st h l k i. then_ended ts a st c.in-Then.begun c.in-Then.test c.args.last c.args.list c.new.result ss.items c.new.ensures.items e (subst (λ (f : Frame). FrameStands ts f st) c.in-Then.is h) l k)
    c.one_more.ensures

pub returns-in-Else : goal.returns-in-Else
returns-in-Else c = IfOk-weaker c.one_more-in-Else.result _ _
    (λ ss e ts a st h l k i. else_ended ts a st c.in-Else.begun c.in-Else.test c.args.last c.in-Else.then c.args.list ss.items e (subst (λ (f : Frame). FrameStands ts f st) c.in-Else.is h) l k)
    c.one_more-in-Else.ensures

pub returns-in-With : goal.returns-in-With
returns-in-With c = IfOk-weaker c.one_more-in-With.result _ _
    (λ ss e ts a st h l k i. with_ended ts a st c.in-With.begun c.in-With.binds c.args.last c.args.list ss.items e (subst (λ (f : Frame). FrameStands ts f st) c.in-With.is h) l k)
    c.one_more-in-With.ensures

pub returns-in-While : goal.returns-in-While
returns-in-While c = IfOk-weaker c.one_more-in-While.result _ _
    (λ ss e ts a st h l k i. while_ended ts a st c.in-While.begun c.in-While.test c.args.last c.args.list ss.items e (subst (λ (f : Frame). FrameStands ts f st) c.in-While.is h) l k)
    c.one_more-in-While.ensures

pub returns-in_ok-push-in-Either : goal.returns-in_ok-push-in-Either
returns-in_ok-push-in-Either c = IfOk-weaker c.one_more-in-Either.result _ _
    (λ ss e ts a st h l k i. either_ended ts a st c.in-Either.begun c.in-Either.before c.push.new.self c.args.last c.args.list ss.items c.in_ok-push-in-Either.ensures.items e (subst (λ (f : Frame). FrameStands ts f st) c.in-Either.is h) l k i)
    c.one_more-in-Either.ensures
