-- Proves that the newest definition is known.
use Rattle.std.proofs.lemmas.Result.{on_ok_weaker}
use Rattle.std.proofs.Common.{ℕ, List, [], ◌∷◌, ap, ◌∙◌, length}
use Rattle.std.proofs.lemmas.List.{length-append}
use Rattle.tla_tree.specs.Tree.{Word}
use Rattle.algorithm_limits.specs.Numbers.{with_number}
use Rattle.read_rules.specs.declared.names.Names.{Names}
use Rattle.read_rules.proofs.definitions.Reads.add_definition.Goals as goal

pub returns : goal.returns
returns c =
    on_ok_weaker c.set.result
    (λ done.
    let r = c.args.self.now in
    let s = c.args.variables in
    let n = length c.as_slice-lists.result.now in
    record {
      lists = c.in_ok-push.ensures.items;
      numbers =
          done ∙ ap (λ (x : Word). with_number r.numbers x n) c.in_ok-copied.ensures
          ∙ ap (λ (m : ℕ). with_number r.numbers c.args.name.now m) (ap (λ (ls : List Names). length ls) c.as_slice-lists.ensures.value ∙ ap (λ (ls : List Names). length ls) c.in_ok-push.ensures.items ∙ length-append r.lists.items (s ∷ []));
    }) c.set.ensures
