-- Proves that what runs is looked at.
use Rattle.std.proofs.lemmas.Result.{on_ok_weaker}
use Rattle.std.proofs.Common.{List, map, sym, subst}
use Rattle.std.specs.List.{flat_map}
use Rattle.pcal_tree.specs.declared.algorithm.Main.{Main}
use Rattle.pcal_tree.specs.declared.algorithm.Process.{Process}
use Rattle.pcal_tree.specs.declared.algorithm.Stmt.{Stmt}
use Rattle.pcal_tree.specs.InMemory.{statements_at, process_at, main_at}
use Rattle.pcal_tree.specs.OffencesRebind.{any_name, body_rebinds, process_rebinds, main_rebinds}
use Rattle.declared_rules.specs.Telling.{Adds}
use Rattle.declared_rules.proofs.bind_walk.Walk.main.Goals as goal

pub returns-in-Alone : goal.returns-in-Alone
returns-in-Alone c =
    on_ok_weaker c.body.result
    (λ a C ps h k o.
    let ts = c.args.pool.now in
    subst (λ (m : Main). Adds c.args.near.now any_name c.args.self.now c.body.new.self (λ ms r. main_rebinds ms ps (C ms) r (main_at ts m))) (sym c.in-Alone.is)
    (subst (λ (ys : List Stmt). Adds c.args.near.now any_name c.args.self.now c.body.new.self (λ ms r. body_rebinds ms ps (C ms) (statements_at ts ys) r)) c.deref.ensures.value (a C ps k))) c.body.ensures

pub returns-in-Processes : goal.returns-in-Processes
returns-in-Processes c =
    on_ok_weaker c.processes.result
    (λ a C ps h k o.
    let ts = c.args.pool.now in
    subst (λ (m : Main). Adds c.args.near.now any_name c.args.self.now c.processes.new.self (λ ms r. main_rebinds ms ps (C ms) r (main_at ts m))) (sym c.in-Processes.is)
    (subst (λ (qs : List Process). Adds c.args.near.now any_name c.args.self.now c.processes.new.self (λ ms r. flat_map (process_rebinds ms ps (C ms) r) (map (process_at ts) qs))) c.deref-in-Processes.ensures.value
    (a C ps h k o))) c.processes.ensures
