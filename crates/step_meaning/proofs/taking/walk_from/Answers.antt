-- Proves what comes of the statements after a label.
use Rattle.std.proofs.Common.{Ok, Err, ap, subst}
use Rattle.tla_tree.specs.Tree.{Word, Name}
use Rattle.pcal_tree.specs.Run.{no_partner}
use Rattle.step_spots.specs.Targets.{target_word}
use Rattle.step_flow.specs.Ends.{Ends, list_from}
use Rattle.step_meaning.proofs.WalkLaws.{finish_pauses, err_walks, walks_over, walks_on, jump_stops}
use Rattle.step_meaning.proofs.taking.walk_from.Goals as goal

pub returns-in_err-end-clause-walks : goal.returns-in_err-end-clause-walks
returns-in_err-end-clause-walks c v u r =
    let named = ap (λ (n : Name). n.word) c.label.view_is in
    err_walks c.from_residual.result c.in_err-end.field-0.0 c.statements.new.going c.args.choices.now _ c.from_residual.ensures
    (finish_pauses c.in_err-end.field-0.0 _ _
    (subst (λ (w : Word). Ends (Err c.in_err-end.field-0.0) c.statements.new.going c.args.choices.now (list_from c.args.runner.now v u w c.args.spot.now.items.now (target_word c.args.spot.now.exit) no_partner c.args.going.now c.args.choices.now)) named
    (c.in_err-end.ensures.ends v u no_partner r)))

pub returns-in_err-go_to-in-Falls-clause-walks : goal.returns-in_err-go_to-in-Falls-clause-walks
returns-in_err-go_to-in-Falls-clause-walks c v u r =
    let named = ap (λ (n : Name). n.word) c.label.view_is in
    err_walks c.from_residual-in_err-go_to-in-Falls.result c.in_err-go_to-in-Falls.field-0.0 c.go_to.new.going c.args.choices.now _ c.from_residual-in_err-go_to-in-Falls.ensures
    (jump_stops c.args.runner.now v u c.args.spot.now c.args.choices.now c.args.going.now c.statements.new.going c.go_to.new.going c.in_ok-end.end c.in_err-go_to-in-Falls.field-0.0 c.in-Falls.is
    (subst (λ (w : Word). Ends (Ok c.in_ok-end.end) c.statements.new.going c.args.choices.now (list_from c.args.runner.now v u w c.args.spot.now.items.now (target_word c.args.spot.now.exit) no_partner c.args.going.now c.args.choices.now)) named
    (c.in_ok-end.ensures.ends v u no_partner r))
    (c.in_err-go_to-in-Falls.ensures.ends v u r))

pub returns-in-Over-clause-walks : goal.returns-in-Over-clause-walks
returns-in-Over-clause-walks c v u r =
    let named = ap (λ (n : Name). n.word) c.label.view_is in
    walks_over c.args.runner.now v u c.args.spot.now c.args.choices.now c.args.going.now c.statements.new.going c.in_ok-end.end c.in-Over.is
    (subst (λ (w : Word). Ends (Ok c.in_ok-end.end) c.statements.new.going c.args.choices.now (list_from c.args.runner.now v u w c.args.spot.now.items.now (target_word c.args.spot.now.exit) no_partner c.args.going.now c.args.choices.now)) named
    (c.in_ok-end.ensures.ends v u no_partner r))

pub returns-in_ok-go_to-in-Falls-clause-walks : goal.returns-in_ok-go_to-in-Falls-clause-walks
returns-in_ok-go_to-in-Falls-clause-walks c v u r =
    let named = ap (λ (n : Name). n.word) c.label.view_is in
    walks_on c.args.runner.now v u c.args.spot.now c.args.choices.now c.args.going.now c.statements.new.going c.go_to.new.going c.in_ok-end.end c.in_ok-go_to-in-Falls.field-0 c.in-Falls.is
    (subst (λ (w : Word). Ends (Ok c.in_ok-end.end) c.statements.new.going c.args.choices.now (list_from c.args.runner.now v u w c.args.spot.now.items.now (target_word c.args.spot.now.exit) no_partner c.args.going.now c.args.choices.now)) named
    (c.in_ok-end.ensures.ends v u no_partner r))
    (c.in_ok-go_to-in-Falls.ensures.ends v u r)
