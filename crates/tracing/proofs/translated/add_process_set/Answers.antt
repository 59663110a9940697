-- Proves that the definition of ProcSet is added, where there is one.
use Rattle.std.proofs.Common.{refl}
use Rattle.tracing.proofs.TranslatedLaws.{set_missing, set_added, set_within}
use Rattle.tracing.proofs.translated.add_process_set.Goals as goal

pub returns-in-None-clause-added : goal.returns-in-None-clause-added
returns-in-None-clause-added c = λ ts. set_missing ts c.args.defs.now c.args.set c.in-None.is

pub returns-clause-added : goal.returns-clause-added
returns-clause-added c = λ ts.
    set_added ts c.args.defs.now c.push.new.self _ c.args.set c.in-Some.body c.in-Some.is (c.in_ok-name.ensures, c.new-params.ensures, refl, refl) c.in_ok-push.ensures.ok

pub returns-clause-within : goal.returns-clause-within
returns-clause-within c = λ m h k.
    set_within m c.args.defs.now c.push.new.self _ c.args.set c.in-Some.body c.in-Some.is refl c.in_ok-push.ensures.ok h k
