-- Proves what is asked of `take_or`.
use Rattle.std.proofs.Common.{◌++◌, ◌∷◌, [], ap, ◌∙◌}
use Rattle.expr_nodes.specs.Ahead.{ahead}
use Rattle.syntax_reading.specs.TokenReaders.{first}
use Rattle.algorithm_reader.proofs.Gathered.{refused_as}
use Rattle.p_syntax.specs.declared.open.Frame.{Frame}
use Rattle.p_syntax.specs.declared.open.Frame.TheVariants as frame
use Rattle.p_syntax.proofs.Closed.{innermost_stands}
use Rattle.p_syntax.proofs.Endings.{not_either, or_read, or_refused}
use Rattle.p_syntax.proofs.ending.take_or.Goals as goal

pub returns-in_ok-opened-in-Either-clause-read : goal.returns-in_ok-opened-in-Either-clause-read
returns-in_ok-opened-in-Either-clause-read c ts d st h k e =
    let v = c.args.tokens.now in
    let f = frame.Either c.in-Either.place c.in-Either.branches in
    let n = innermost_stands ts c.args.state.stack.items f c.in-Some.around st k (c.in-Some.ensures.some ∙ ap (λ (g : Frame). c.in-Some.around.stack.items ++ record { frame = g; before = c.in-Some.around.list; depth = c.in-Some.around.depth } ∷ []) c.in-Either.is) in
    let said = c.in_ok-opened-in-Either.ensures in
    or_read v ts c.args.state c.in-Some.around c.in_ok-opened-in-Either.field-0 c.args.at d h c.in-Either.branches c.push.new.self c.in-Either.place (first (ahead v c.args.at)).place st n e c.in_ok-push-in-Either.ensures.items
    (record { list = said.list; stack = said.stack; point = said.point; depth = said.depth })

pub returns-in_default-clause-read : goal.returns-in_default-clause-read
returns-in_default-clause-read c ts d st h k e =
    let us = ahead c.args.tokens.now c.args.at in
    let n = innermost_stands ts c.args.state.stack.items c.in-Some.open c.in-Some.around st k c.in-Some.ensures.some in
    refused_as _ us _ c.refused_there-in_default.ensures (or_refused ts c.in-Some.open c.in-Some.around st d (first us).place us n (not_either c.in-Some.open c.in_default.not-Either))
