-- Proves what is asked of `write_main`.
use Rattle.std.proofs.Common.{List, map, sym, subst}
use Rattle.pcal_tree.specs.declared.algorithm.Main.{Main}
use Rattle.pcal_tree.specs.declared.algorithm.Process.{Process}
use Rattle.pcal_tree.specs.declared.algorithm.Stmt.{Stmt}
use Rattle.pcal_tree.specs.Algorithm.{alone}
use Rattle.pcal_tree.specs.Printed.{main, process_lines}
use Rattle.pcal_tree.specs.InMemory.{statements_at, process_at, main_at}
use Rattle.pcal_tree.specs.Syntaxes.{syntax_of}
use Rattle.syntax_print.specs.Adding.{Adds}
use Rattle.syntax_print.proofs.Lines.{on_ok}
use Rattle.syntax_print.proofs.Units.{main_of_processes}
use Rattle.syntax_print.proofs.write_unit.write_main.Goals as goal

pub returns-in-Alone : goal.returns-in-Alone
returns-in-Alone c =
    let s = syntax_of c.args.syntax in
    let ts = c.args.pool.now in
    on_ok c.write_alone.result _ _ (λ a. subst (λ (m : Main). Adds c.args.into.now c.write_alone.new.into (main s (main_at ts m))) (sym c.in-Alone.is)
    (subst (λ (ss : List Stmt). Adds c.args.into.now c.write_alone.new.into (main s (alone (statements_at ts ss)))) c.deref.ensures.value a)) c.write_alone.ensures

pub returns-in-Processes : goal.returns-in-Processes
returns-in-Processes c =
    let s = syntax_of c.args.syntax in
    let ts = c.args.pool.now in
    on_ok c.write_processes.result _ _ (λ a. subst (λ (m : Main). Adds c.args.into.now c.write_processes.new.into (main s (main_at ts m))) (sym c.in-Processes.is)
    (main_of_processes s c.args.into.now c.write_processes.new.into (map (process_at ts) c.in-Processes.list.items)
    (subst (λ (ps : List Process). Adds c.args.into.now c.write_processes.new.into (process_lines s (map (process_at ts) ps))) c.deref-in-Processes.ensures.value a))) c.write_processes.ensures
