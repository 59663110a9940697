-- Proves that the first offence of an algorithm is found, by what is known.
use Rattle.std.proofs.Common.{List, map, reverse, sym, ap, ◌∙◌}
use Rattle.std.specs.List.{flat_map}
use Rattle.pcal_tree.specs.declared.algorithm.Procedure.{Procedure}
use Rattle.pcal_tree.specs.Algorithm as tree
use Rattle.pcal_tree.specs.InMemory.{procedure_at, algorithm_at}
use Rattle.pcal_tree.specs.Offences.{first}
use Rattle.pcal_tree.specs.OffencesStale.{stale_in_procedure, stale_in_main}
use Rattle.pcal_tree.specs.Reads.{readings_of}
use Rattle.algorithm_answer.specs.Joined.{joined}
use Rattle.algorithm_answer.proofs.Joins.{first_append}
use Rattle.read_rules.specs.Pruned.{macros_pruned}
use Rattle.read_rules.specs.RefusalsIn.{looking}
use Rattle.read_rules.specs.WantedIn.{wants}
use Rattle.read_rules.proofs.PruneLaws.{pruned_first}
use Rattle.read_rules.proofs.WantedLaws.{harmless, no_parameter}
use Rattle.read_rules.proofs.stale.refusal_by.Goals as goal

pub returns : goal.returns
returns c = λ read names known.
    let ts = c.args.pool.now in
    let a : tree.Algorithm = algorithm_at ts c.args.algorithm.now in
    let rs = readings_of a in
    let ps = a.procedures in
    let w = c.args.wanted.now in
    let T = wants w in
    let ms = macros_pruned T ps (reverse a.macros) in
    let L = looking ms ps in
    let procedures = c.in_ok-procedures.ensures ms ps rs known read ∙ ap (λ (qs : List Procedure). first (flat_map (stale_in_procedure L rs) (map (procedure_at ts) qs))) c.deref.ensures.value in
    let main = c.in_ok-main.ensures ms ps rs known read in
    c.least.ensures ∙ (λ i. joined (procedures i) (main i)) ∙ sym (first_append (flat_map (stale_in_procedure L rs) ps) (stale_in_main L rs a.main))
    ∙ pruned_first T a (no_parameter ts w c.args.algorithm.now.macros.items names) (harmless w rs read)
