-- Proves that so many units have no names.
use Rattle.std.proofs.Common.{List, [], ◌∷◌, ◌++◌, replicate, ap, ◌∙◌}
use Rattle.std.proofs.lemmas.List.{replicate_more}
use Rattle.tla_tree.specs.Tree.{Word}
use Rattle.written_names.specs.declared.naming.UnitNames.{UnitNames}
use Rattle.written_names.specs.Giving.{Pairs}
use Rattle.written_names.specs.Units.{no_names}
use Rattle.written_names.proofs.give.nameless.Goals as goal

pub loop-i-preserved : goal.loop-i-preserved
loop-i-preserved c =
    c.in_ok-push.ensures.items
    ∙ (ap (λ (us : List UnitNames). us ++ record { title = c.new-in-loop-i.result; variables = c.new-in-loop-i-2.result; labels = c.new-in-loop-i-3.result } ∷ []) c.loop-i.invariant
    ∙ (ap (λ (w : Word). replicate c.loop-i._i no_names ++ record { title = w; variables = c.new-in-loop-i-2.result; labels = c.new-in-loop-i-3.result } ∷ []) (c.new-in-loop-i.ensures ∙ c.new.ensures.items)
    ∙ (ap (λ (ps : Pairs). replicate c.loop-i._i no_names ++ record { title = []; variables = ps; labels = c.new-in-loop-i-3.result } ∷ []) c.new-in-loop-i-2.ensures
    ∙ (ap (λ (ps : Pairs). replicate c.loop-i._i no_names ++ record { title = []; variables = []; labels = ps } ∷ []) c.new-in-loop-i-3.ensures
    ∙ replicate_more c.loop-i._i no_names))))
