-- Proves that a macro is gone through.
use Rattle.std.proofs.Common.{◌≡◌, refl, subst}
use Rattle.std.proofs.lemmas.Result.{on_ok_weaker}
use Rattle.indexmap.specs.IndexMap.{insert_entry}
use Rattle.algorithm_limits.proofs.Tables.{equal}
use Rattle.pcal_tree.specs.declared.algorithm.Macro.{Macro}
use Rattle.pcal_tree.specs.InMemory.{statements_at}
use Rattle.pcal_tree.specs.OffencesRebind.{any_name, body_rebinds}
use Rattle.declared_rules.proofs.KeepLaws.{found_tells}
use Rattle.declared_rules.proofs.bind_walk.Walk.one_macro.Goals as goal

pub returns-in-Ok : goal.returns-in-Ok
returns-in-Ok c =
    on_ok_weaker c.add.result
    (λ a.
    let d = c.gone_through.new.kept in
    let h = c.in-Ok.ensures in
    record {
      kept = d;
      params = h.params c.new-kept.ensures.params;
      tells = λ C ps k.
          found_tells c.args.far.now any_name c.new-kept.result.found d.found (λ ms s. body_rebinds ms ps (C ms) (statements_at c.args.pool.now c.args.one.now.body.items) s) c.new-kept.ensures.found (h.found C ps k);
      text = h.text;
      puts = subst (λ (m : Macro). c.add.new.self.kept.entries ≡ insert_entry equal c.args.calls.now.macros.kept.entries m.name.word d) c.one.view_is a;
      procedures = refl;
      process = refl;
    }) c.add.ensures
