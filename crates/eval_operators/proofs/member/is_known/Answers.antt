-- Proves what is asked of `is_known`.
use Rattle.std.proofs.Common.{◌∙◌, sym, ap}
use Rattle.std.specs.Option.{option_copied}
use Rattle.tla_value.specs.Definitions.{or_sense}
use Rattle.tla_value.specs.Standard.{standard_name}
use Rattle.eval_scopes.specs.Contexts.{outside}
use Rattle.eval_scopes.proofs.NameLemmas.{bound_name, defined_name, outer_name}
use Rattle.eval_operators.proofs.ListedLemmas.{just_listed, use_listed, listed_by}
use Rattle.eval_operators.proofs.member.is_known.Goals as goal

pub returns-in-Some-clause-known : goal.returns-in-Some-clause-known
returns-in-Some-clause-known g c = λ h at.
    let env = outside g.N.Names.look c.args.cx.now in
    listed_by _ _ (bound_name c.args.cx.now.pool.now c.args.cx.now.defs.now env c.args.scope.now c.args.x.now at _ (sym c.find.ensures ∙ ap option_copied c.in-Some.is)) (just_listed _)

pub returns-in-Some-seen_latest-clause-known : goal.returns-in-Some-seen_latest-clause-known
returns-in-Some-seen_latest-clause-known g c = λ h at.
    let env = outside g.N.Names.look c.args.cx.now in
    listed_by _ _ (defined_name c.args.cx.now.pool.now c.args.cx.now.defs.now env c.args.scope.now c.args.x.now at c.in-Some-seen_latest._k (sym c.find.ensures ∙ ap option_copied c.in_default.is) (sym c.seen_latest.ensures ∙ c.in-Some-seen_latest.is)) (use_listed c.args.cx.now.pool.now c.args.cx.now.defs.now c.in-Some-seen_latest._k env at _)

pub returns-in-Some-value-clause-known : goal.returns-in-Some-value-clause-known
returns-in-Some-value-clause-known g c = λ h at.
    let env = outside g.N.Names.look c.args.cx.now in
    listed_by _ _
    (outer_name c.args.cx.now.pool.now c.args.cx.now.defs.now env c.args.scope.now c.args.x.now at (sym c.find.ensures ∙ ap option_copied c.in_default.is) (sym c.seen_latest.ensures ∙ c.in_default-seen_latest.is)
    ∙ ap (λ o. or_sense o (standard_name c.args.x.now at)) (sym c.value.ensures ∙ ap option_copied c.in-Some-value.is)) (just_listed _)

pub returns-in-None-clause-unknown : goal.returns-in-None-clause-unknown
returns-in-None-clause-unknown g c = λ h at.
    let env = outside g.N.Names.look c.args.cx.now in
    outer_name c.args.cx.now.pool.now c.args.cx.now.defs.now env c.args.scope.now c.args.x.now at (sym c.find.ensures ∙ ap option_copied c.in_default.is) (sym c.seen_latest.ensures ∙ c.in_default-seen_latest.is)
    ∙ ap (λ o. or_sense o (standard_name c.args.x.now at)) (sym c.value.ensures ∙ ap option_copied c.in-None.is)
