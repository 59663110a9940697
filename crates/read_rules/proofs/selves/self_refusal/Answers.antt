-- Proves that the first offence is found.
use Rattle.std.proofs.Common.{List, None, map, sym, ap, ◌∙◌}
use Rattle.std.specs.List.{flat_map}
use Rattle.std.proofs.lemmas.Result.{IfOk-weaker}
use Rattle.pcal_tree.specs.declared.algorithm.Declaration.{Declaration}
use Rattle.pcal_tree.specs.declared.algorithm.Definition.{Definition}
use Rattle.pcal_tree.specs.declared.algorithm.Main.{Main}
use Rattle.pcal_tree.specs.declared.algorithm.Process.{Process}
use Rattle.pcal_tree.specs.declared.algorithm.Stmt.{Stmt}
use Rattle.pcal_tree.specs.Algorithm as tree
use Rattle.pcal_tree.specs.InMemory.{declarations_at, definitions_at, statements_at, process_at, main_at, algorithm_at}
use Rattle.pcal_tree.specs.Offences.{first}
use Rattle.pcal_tree.specs.OffencesSelf.{selves, used_by_starts, used_outside}
use Rattle.algorithm_answer.specs.Joined.{joined}
use Rattle.read_rules.proofs.SelfLaws.{used_by_definition, used_by_identity, all_selves}
use Rattle.read_rules.proofs.selves.self_refusal.Goals as goal

pub returns-in-Alone : goal.returns-in-Alone
returns-in-Alone c =
    let ts = c.args.pool.now in
    let a : tree.Algorithm = algorithm_at ts c.args.algorithm.now in
    let found = c.in_ok-found.found in
    IfOk-weaker c.with_alone.result _ _ (λ r h.
    all_selves c.in_ok-globals.globals found r a
    (c.in_ok-globals.ensures ∙ ap (λ (ds : List Declaration). joined None (first (selves (used_by_starts (declarations_at ts ds))))) c.deref.ensures.value)
    (c.in_ok-found.ensures ∙ ap (λ (ds : List Definition). joined c.in_ok-globals.globals (first (selves (flat_map used_by_definition (definitions_at ts ds))))) c.deref-2.ensures.value)
    (h ∙ ap (λ (ss : List Stmt). joined found (first (selves (used_outside a (tree.alone (statements_at ts ss)))))) c.deref-in-Alone.ensures.value
    ∙ ap (λ (m : Main). joined found (first (selves (used_outside a (main_at ts m))))) (sym c.in-Alone.is)))
    c.with_alone.ensures

pub returns-in-Processes : goal.returns-in-Processes
returns-in-Processes c =
    let ts = c.args.pool.now in
    let a : tree.Algorithm = algorithm_at ts c.args.algorithm.now in
    let found = c.in_ok-found.found in
    IfOk-weaker c.with_processes.result _ _ (λ r h.
    all_selves c.in_ok-globals.globals found r a
    (c.in_ok-globals.ensures ∙ ap (λ (ds : List Declaration). joined None (first (selves (used_by_starts (declarations_at ts ds))))) c.deref.ensures.value)
    (c.in_ok-found.ensures ∙ ap (λ (ds : List Definition). joined c.in_ok-globals.globals (first (selves (flat_map used_by_definition (definitions_at ts ds))))) c.deref-2.ensures.value)
    (h ∙ ap (λ (ps : List Process). joined found (first (selves (flat_map used_by_identity (map (process_at ts) ps))))) c.deref-in-Processes.ensures.value
    ∙ ap (λ (m : Main). joined found (first (selves (used_outside a (main_at ts m))))) (sym c.in-Processes.is)))
    c.with_processes.ensures
