-- Proves what is asked of `write_blanks`.
use Rattle.std.proofs.Common.{ℕ, List, [], ◌∷◌, ◌++◌, ap, ◌∙◌, append_assoc}
use Rattle.module_tree.specs.Layout.{blanks}
use Rattle.module_lines.proofs.Blanks.{blanks_more}
use Rattle.module_lines.proofs.line.write_blanks.Goals as goal

pub loop-i-preserved : goal.loop-i-preserved
loop-i-preserved c =
    c.in_ok-push.ensures.ok ∙ ap (λ (w : List ℕ). w ++ 32 ∷ []) c.loop-i.invariant ∙ append_assoc c.args.into.now (blanks c.loop-i._i) (32 ∷ [])
    ∙ ap (λ (w : List ℕ). c.args.into.now ++ w) (blanks_more c.loop-i._i)
