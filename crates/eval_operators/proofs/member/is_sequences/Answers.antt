-- Proves what is asked of `is_sequences`.
use Rattle.std.proofs.Common.{◌∙◌, sym, ap, Some}
use Rattle.std.specs.Option.{option_map}
use Rattle.tla_value.specs.Limits.{bounded}
use Rattle.tla_value.specs.Standard.{standard_called, standard_sense}
use Rattle.eval_scopes.specs.Contexts.{outside}
use Rattle.eval_operators.specs.Standards.{standard_in}
use Rattle.eval_scopes.proofs.NameLemmas.{defined_call, outer_call}
use Rattle.eval_operators.proofs.ListedLemmas.{use_listed, called_listed, undefined_listed, standard_listed}
use Rattle.eval_operators.proofs.member.is_sequences.Goals as goal

pub returns-in-Some-clause-no : goal.returns-in-Some-clause-no
returns-in-Some-clause-no g c = λ h at vs.
    let env = outside g.N.Names.look c.args.cx.now in
    called_listed at _ _ vs (defined_call c.args.cx.now.pool.now c.args.cx.now.defs.now env c.args.scope.now c.args.f.now c.in-Some._k (sym c.seen_latest.ensures ∙ c.in-Some.is)) (use_listed c.args.cx.now.pool.now c.args.cx.now.defs.now c.in-Some._k env at vs)

pub returns-in-Some-standard_named-clause-yes : goal.returns-in-Some-standard_named-clause-yes
returns-in-Some-standard_named-clause-yes g c = λ h.
    let env = outside g.N.Names.look c.args.cx.now in
    outer_call c.args.cx.now.pool.now c.args.cx.now.defs.now env c.args.scope.now c.args.f.now (sym c.seen_latest.ensures ∙ c.in_default.is)
    ∙ ap (standard_called bounded) (sym c.standard_named.ensures ∙ ap (option_map standard_in) c.in-Some-standard_named.is) ∙ ap (λ q. Some (standard_sense bounded q)) (c.is_sequence_set.ensures.yes h)

pub returns-in-Some-standard_named-clause-no : goal.returns-in-Some-standard_named-clause-no
returns-in-Some-standard_named-clause-no g c = λ h at vs.
    let env = outside g.N.Names.look c.args.cx.now in
    called_listed at _ _ vs (outer_call c.args.cx.now.pool.now c.args.cx.now.defs.now env c.args.scope.now c.args.f.now (sym c.seen_latest.ensures ∙ c.in_default.is)
    ∙ ap (standard_called bounded) (sym c.standard_named.ensures ∙ ap (option_map standard_in) c.in-Some-standard_named.is)) (standard_listed (standard_in c.in-Some-standard_named.o) at vs (c.is_sequence_set.ensures.no h))

pub returns-in-None-clause-no : goal.returns-in-None-clause-no
returns-in-None-clause-no g c = λ h at vs.
    let env = outside g.N.Names.look c.args.cx.now in
    undefined_listed at _ vs (outer_call c.args.cx.now.pool.now c.args.cx.now.defs.now env c.args.scope.now c.args.f.now (sym c.seen_latest.ensures ∙ c.in_default.is)
    ∙ ap (standard_called bounded) (sym c.standard_named.ensures ∙ ap (option_map standard_in) c.in-None.is))
