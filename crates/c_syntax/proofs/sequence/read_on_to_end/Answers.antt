-- Proves what is asked of `read_on_to_end`.
use Rattle.std.proofs.Common.{refl, arith}
use Rattle.std.proofs.lemmas.Result.{err_from_is_err_and}
use Rattle.tla_tree.proofs.PoolNumbers.{Keeps-then}
use Rattle.c_syntax.proofs.Sequences.{goes_on, ends_there, fails_there}
use Rattle.c_syntax.proofs.sequence.read_on_to_end.Goals as goal

pub loop-turn-init : goal.loop-turn-init
loop-turn-init c =
    record {
      run = λ n s e h. record { steps = n; enough = e; now = s; stands = h; is = refl };
      kept = record { longer = omega arith; same = λ i h. refl };
      inside = c.requires.there;
      further = omega arith;
    }

pub loop-turn-preserved : goal.loop-turn-preserved
loop-turn-preserved c =
    let v = c.args.tokens.now in
    let kept = c.loop-turn.invariant in
    let said = c.in_ok-turn.ensures in
    let further = rw c.in-On.is at said.further in
    record {
      run = (λ n s e h. let so = kept.run n s e h in goes_on v _ _ _ _ kept.inside so _ _ _ further (λ k l. rw c.in-On.is at (said.read k so.now l so.stands)));
      kept = Keeps-then _ _ _ kept.kept said.kept;
      inside = said.inside;
      further = omega (arith, kept.further, further);
    }

pub returns-in-Done-clause-read : goal.returns-in-Done-clause-read
returns-in-Done-clause-read c n s e h =
    let said = c.in_ok-turn.ensures in
    let kept = c.loop-turn.invariant in
    let so = kept.run n s e h in
    ends_there c.args.tokens.now _ _ _ _ kept.inside so _ _ _ (λ k l. rw c.in-Done.is at (said.read k so.now l so.stands))

pub returns-in_err-turn-clause-read : goal.returns-in_err-turn-clause-read
returns-in_err-turn-clause-read c n s e h =
    let kept = c.loop-turn.invariant in
    let so = kept.run n s e h in
    let p = err_from_is_err_and c.from_residual.result c.from_residual.ensures.1 in
    rw (p.1, p.2) (fails_there c.args.tokens.now _ _ _ _ kept.inside so c.in_err-turn.field-0.0 (λ k l. c.in_err-turn.ensures.read k so.now l so.stands))
