-- Proves that the first offence of the three rules is found.
use Rattle.std.proofs.Common.{◌++◌, List, reverse, sym, ap, ◌∙◌, subst}
use Rattle.pcal_tree.specs.declared.algorithm.Definition.{Definition}
use Rattle.pcal_tree.specs.Algorithm as tree
use Rattle.pcal_tree.specs.InMemory.{definitions_at, algorithm_at}
use Rattle.pcal_tree.specs.Offences.{first}
use Rattle.pcal_tree.specs.OffencesReads.{process_offences, own_offences, order_offences}
use Rattle.pcal_tree.specs.Variables.{declared}
use Rattle.algorithm_answer.specs.Joined.{joined}
use Rattle.algorithm_answer.proofs.Joins.{first_append}
use Rattle.read_rules.specs.Levels.{levels, levels_of}
use Rattle.read_rules.specs.NumbersIn.{AreLevels}
use Rattle.read_rules.proofs.EarlyTold.{processes_told, order_told}
use Rattle.read_rules.proofs.reads.refusal_by.Goals as goal

pub returns-in_ok-own-in-Ok : goal.returns-in_ok-own-in-Ok
returns-in_ok-own-in-Ok c = λ numbers.
    let ts = c.args.pool.now in
    let a : tree.Algorithm = algorithm_at ts c.args.algorithm.now in
    let gs = declared a.globals in
    let told = subst (λ (ds : List Definition). AreLevels c.in_ok-levels.levels (levels gs (reverse (definitions_at ts ds)))) c.deref.ensures.value (c.in_ok-levels.ensures gs numbers) in
    let identities = c.in-Ok.ensures gs (levels_of a) numbers told ∙ ap first (sym (processes_told a)) in
    let order = c.in_ok-order-in-Ok.ensures (levels_of a) told ∙ ap first (sym (order_told a)) in
    c.least-in-Ok.ensures
    ∙ (λ i. joined (identities i) ((c.least.ensures ∙ (λ j. joined (c.in_ok-own-in-Ok.ensures j) (order j)) ∙ sym (first_append (own_offences a) (order_offences a))) i))
    ∙ sym (first_append (process_offences a) (own_offences a ++ order_offences a))
