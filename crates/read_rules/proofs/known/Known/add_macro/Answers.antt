-- Proves that the newest macro is known.
use Rattle.std.proofs.lemmas.Result.{on_ok_weaker}
use Rattle.std.proofs.Common.{ℕ, List, [], ◌∷◌, refl, ap, ◌∙◌, length}
use Rattle.std.proofs.lemmas.List.{length-append}
use Rattle.tla_tree.specs.Tree.{Word}
use Rattle.algorithm_limits.specs.Numbers.{with_number}
use Rattle.read_rules.specs.declared.known.Summary.{Summary}
use Rattle.read_rules.specs.declared.steps.Jump.{Jump}
use Rattle.read_rules.proofs.known.Known.add_macro.Goals as goal

pub returns : goal.returns
returns c =
    on_ok_weaker c.set.result
    (λ done.
    let k = c.args.self.now in
    let s = c.args.summary in
    let n = length c.as_slice-summaries.result.now in
    record {
      summaries = c.in_ok-push.ensures.items;
      numbers =
          done ∙ ap (λ (x : Word). with_number k.numbers x n) c.in_ok-copied.ensures
          ∙ ap (λ (m : ℕ). with_number k.numbers c.args.name.now m) (ap (λ (ss : List Summary). length ss) c.as_slice-summaries.ensures.value ∙ ap (λ (ss : List Summary). length ss) c.in_ok-push.ensures.items ∙ length-append k.summaries.items (s ∷ []));
      jumps = refl {A = List Jump};
    }) c.set.ensures
