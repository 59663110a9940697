-- Proves what is asked of `test_of`.
use Rattle.std.proofs.Common.{refl}
use Rattle.eval_scopes.specs.Contexts.{env_of, outside}
use Rattle.eval_scopes.proofs.NameLemmas.{primed_name}
use Rattle.eval_operators.proofs.ListedLemmas.{listed_by, other_listed, or_listed}
use Rattle.eval_operators.proofs.member.test_of.Goals as goal

pub returns-in_default : goal.returns-in_default
returns-in_default g c =
    let look = g.N.Names.look in let cx = c.args.cx.now in
    other_listed c.args.form.now (env_of look cx c.args.scope.now) c.in_default.not-Strings c.in_default.not-Name c.in_default.not-Strict c.in_default.not-Call
    (λ x at. listed_by _ _ (primed_name cx.pool.now cx.defs.now (outside look cx) c.args.scope.now x at) (or_listed _ _ (λ p v. refl)))
