-- Proves that what is kept of a procedure tells what its first values offend.
use Rattle.std.proofs.Common.{◌≡◌, List, ap, ◌∙◌, subst}
use Rattle.std.proofs.lemmas.Result.{on_ok_weaker}
use Rattle.indexmap.specs.IndexMap.{insert_entry}
use Rattle.algorithm_limits.proofs.Tables.{equal}
use Rattle.pcal_tree.specs.declared.algorithm.Declaration.{Declaration}
use Rattle.pcal_tree.specs.declared.algorithm.Procedure.{Procedure}
use Rattle.pcal_tree.specs.InMemory.{declarations_at}
use Rattle.pcal_tree.specs.OffencesRebind.{starts_rebind}
use Rattle.declared_rules.specs.declared.kept.Kept.{Kept}
use Rattle.declared_rules.specs.Telling.{Adds}
use Rattle.declared_rules.proofs.KeepLaws.{found_tells}
use Rattle.declared_rules.proofs.kept.Keeps.procedure.Goals as goal

pub returns-in-Ok : goal.returns-in-Ok
returns-in-Ok c =
    on_ok_weaker c.add.result
    (λ a.
    let ts = c.args.pool.now in
    let g = c.args.sight.now in
    let d : Kept = record { params = c.new-kept.result.params; found = c.starts.new.self } in
    record {
      kept = d;
      params = c.new-kept.ensures.params;
      tells = λ K.
          found_tells g K c.new-kept.result.found c.starts.new.self (λ ms s. starts_rebind ms K (declarations_at ts c.args.procedure.now.variables.items) s) c.new-kept.ensures.found
          (subst (λ (ds : List Declaration). Adds g K c.new-kept.result.found c.starts.new.self (λ ms r. starts_rebind ms K (declarations_at ts ds) r)) (c.deref.ensures.value ∙ ap (λ (p : Procedure). p.variables.items) c.procedure.view_is)
          (c.in-Ok.ensures K));
      puts = subst (λ (p : Procedure). c.add.new.self.kept.entries ≡ insert_entry equal c.args.self.now.kept.entries p.name.word d) c.procedure.view_is a;
    }) c.add.ensures
