-- Proves that an expression without these names is the same one.
use Rattle.std.proofs.Common.{sym, subst, ◌∙◌}
use Rattle.std.proofs.lemmas.Result.{IfOk-weaker}
use Rattle.tla_token.specs.Signs.{is_among}
use Rattle.tla_tree.specs.Tree.{Every, name, node, no_trees}
use Rattle.tla_tree.specs.Pool.{at}
use Rattle.name_bits.specs.NamesIn.{names_in}
use Rattle.written_names.specs.Units.{naming_of}
use Rattle.prime_subst.specs.Readers.{Lacks}
use Rattle.prime_subst.proofs.LeftAlone.{left_alone}
use Rattle.prime_subst.proofs.localising.localise.Goals as goal

pub returns-clause-same : goal.returns-clause-same
returns-clause-same c =
    let local = c.args.local.now in
    let own = c.args.own.now in
    let of = is_among (names_in own.order.now own.own.now) in
    let whole = at c.args.pool.now c.args.e in
    let said = c.in_ok-renamed.ensures in
    IfOk-weaker c.with_own.result _ _
    (λ r h first second.
    let alone = left_alone (is_among local.locals.now) (λ x p. node (name ((naming_of local.naming.now).local local.unit x)) p no_trees) whole first in
    h (subst (Every (Lacks of)) (sym (said.tree ∙ alone)) second) ∙ said.same first)
    c.with_own.ensures.same
