-- Proves that one more macro is known.
use Rattle.std.proofs.Common.{◌∷◌, [], List, length, refl, ap, ◌∙◌, arith}
use Rattle.std.proofs.lemmas.List.{length-append}
use Rattle.tla_tree.specs.Tree.{Word}
use Rattle.algorithm_limits.specs.Numbers.{with_number}
use Rattle.pcal_tree.specs.InMemory.{macro_at}
use Rattle.label_steps.specs.declared.known.Known.{Known}
use Rattle.label_steps.specs.declared.put.Summary.{Summary}
use Rattle.label_steps.specs.MacrosIn.{summary_after}
use Rattle.label_steps.proofs.KnownLaws.{knows_more}
use Rattle.label_steps.proofs.around.Around.learn.Goals as goal

pub returns-clause-known : goal.returns-clause-known
returns-clause-known c = λ ms k name own inside.
    let before = c.args.self.now.known in
    let after : Known = record { params = before.params; numbers = c.set.new.self; summaries = c.push.new.self } in
    let all = ap (λ (ss : List Summary). length ss) c.in_ok-push.ensures.items in
    let more = length-append before.summaries.items (c.in_ok-summary.summary ∷ []) in
    knows_more before after ms (summary_after ms (macro_at c.args.pool.now c.args.one.now)) c.in_ok-summary.summary c.len-number.result k (c.in_ok-summary.ensures ms k name own inside) refl c.in_ok-push.ensures.items
    (omega (arith, c.len-number.ensures, all, more)) (c.in_ok-set.ensures ∙ ap (λ (x : Word). with_number before.numbers x c.len-number.result) c.in_ok-name_of.ensures)
