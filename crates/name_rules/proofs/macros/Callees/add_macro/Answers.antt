-- Proves that one more macro is known.
use Rattle.std.proofs.Common.{◌≡◌, subst}
use Rattle.std.proofs.lemmas.Result.{on_ok_weaker}
use Rattle.indexmap.specs.IndexMap.{insert_entry}
use Rattle.tla_tree.specs.Tree.{Word}
use Rattle.algorithm_limits.proofs.Tables.{equal}
use Rattle.pcal_tree.specs.declared.algorithm.Macro.{Macro}
use Rattle.name_rules.proofs.macros.Callees.add_macro.Goals as goal

pub returns-in-Ok : goal.returns-in-Ok
returns-in-Ok c =
    on_ok_weaker c.keep.result
    (λ a. record {
      uses = c.fill.new.self;
      keeps = λ C ps m. c.in-Ok.ensures C ps c.new-uses.ensures.params c.new-uses.ensures.found m;
      puts =
          subst (λ (d : Macro). c.keep.new.self.macros.entries ≡ insert_entry equal c.args.self.now.macros.entries d.name.word c.fill.new.self) c.one.view_is
          (subst (λ (w : Word). c.keep.new.self.macros.entries ≡ insert_entry equal c.args.self.now.macros.entries w c.fill.new.self) c.in_ok-name.ensures a.0);
      procedures = a.1;
    }) c.keep.ensures
