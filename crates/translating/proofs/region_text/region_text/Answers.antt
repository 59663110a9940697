-- Proves that the text is that of the translation, and why there is none.
use Rattle.std.proofs.Common.{◌≡◌, ◌∙◌, ◌++◌, [], length, ap, Some, Err}
use Rattle.tla_token.specs.declared.rule.Stop.{Stop}
use Rattle.pcal_tree.specs.InMemory.{algorithm_at}
use Rattle.pcal_tree.specs.Offences.{first}
use Rattle.macro_expand.specs.TooLarge.{too_large}
use Rattle.module_tree.specs.Layout.{layout}
use Rattle.module_tree.specs.Module.{Region}
use Rattle.translating.proofs.WholeLaws.{stop_of}
use Rattle.translating.proofs.region_text.region_text.Goals as goal

pub returns-in-Err-clause-stopped : goal.returns-in-Err-clause-stopped
returns-in-Err-clause-stopped c =
    stop_of c.in-Err.stop (λ r. first (too_large (algorithm_at c.args.pool.now c.args.checked.algorithm)) ≡ Some r) (λ r e. (c.in-Err.ensures.refused r).0 (ap (λ (s : Stop). Err s) e))

pub returns-clause-made : goal.returns-clause-made
returns-clause-made c = λ o h naming few.
    let none : c.new-text.result ≡ [] = c.new-text.ensures ∙ c.new.ensures.items in
    let is = c.in-Ok.ensures.built o h naming few in
    record {
      text = c.in_ok-write_region.ensures.ok ∙ (λ i. none i ++ layout (is i));
      variables = c.len.ensures ∙ ap (λ (r : Region). length r.variables) is;
    }
