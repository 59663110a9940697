-- Proves what is asked of `all_fronted`.
use Rattle.std.proofs.Common.{◌∙◌, ap}
use Rattle.std.specs.Prelude.{◌++◌, ◌∷◌, map}
use Rattle.space_forms.proofs.SpaceLaws.{fronted_next}
use Rattle.space_forms.proofs.spaces.all_fronted.Goals as goal

pub loop-w-preserved : goal.loop-w-preserved
loop-w-preserved c =
    c.in_ok-add_fronted.ensures ∙ ap (λ l. l ++ map (λ t. c.w-item.result ∷ t) c.args.rows.now) c.loop-w.invariant ∙ fronted_next c.args.members.now c.args.rows.now c.loop-w.w-index c.w-item.result c.loop-w-test.true c.w-item.is
