-- Proves what is asked of `read_procedures`.
use Rattle.std.proofs.Common.{refl, arith, map}
use Rattle.std.proofs.lemmas.Result.{err_from_is_err_and}
use Rattle.tla_token.specs.Places.{nowhere}
use Rattle.tla_tree.proofs.PoolNumbers.{Keeps-then}
use Rattle.pcal_tree.specs.InMemory.{procedure_at, past_procedure}
use Rattle.pcal_tree.specs.Grammar.{procedure_tree}
use Rattle.syntax_reading.specs.ReadRoutines as reader
use Rattle.algorithm_reader.specs.PartsRead.{parts_in}
use Rattle.algorithm_reader.proofs.Gathered.{none_in_pool, one_more_in_pool, one_fails_in_pool}
use Rattle.algorithm_reader.proofs.NoMore.{no_more_in_pool, tree_told}
use Rattle.algorithm_reader.proofs.Grown.{procedures_stay}
use Rattle.algorithm_reader.proofs.ProcedureRounds.{procedures_go_on, procedures_fail, procedures_end}
use Rattle.algorithm_reader.proofs.procedures.read_procedures.Goals as goal

pub loop-next-init : goal.loop-next-init
loop-next-init g c =
    record {
      in_pool = none_in_pool (reader.read_procedures (parts_in c.args.tokens.now) (g.W.Ways.readers (parts_in c.args.tokens.now))) (map procedure_tree) procedure_at past_procedure c.args.tokens.now c.args.pool.now c.args.at c.new-list.result.items c.new-list.ensures.items c.requires.there;
      kept = record { longer = omega arith; same = λ i h. refl };
      inside = c.requires.there;
      further = omega arith;
    }

pub loop-next-preserved : goal.loop-next-preserved
loop-next-preserved g c =
    let v = c.args.tokens.now in
    let f = g.W.Ways.readers (parts_in v) in
    let word = c.in-Some.ensures in
    let said = c.in_ok-one.ensures in
    let us = c.read_procedure.new.pool in
    let on = procedures_go_on (parts_in v) f v c.loop-next.from c.in-Some.next word.there word.rest c.in_ok-one.end (procedure_at us c.in_ok-one.one) in
    record {
      in_pool = (λ n h. one_more_in_pool (reader.read_procedures (parts_in v) f) (map procedure_tree) procedure_at past_procedure v c.loop-next.pool us n c.args.at c.loop-next.from c.in_ok-one.end c.loop-next.list.items c.push.new.self.items
          c.in_ok-one.one (c.loop-next.invariant.in_pool n h) said.kept (procedures_stay _ _ said.kept) (said.read n nowhere (omega (arith, h, c.loop-next.invariant.further, word.further))).told.below c.in_ok-push.ensures.items (omega (arith, said.further, word.further)) said.inside
          (λ k l b. on k (λ p. tree_told (said.read k p (omega (arith, b, word.further))))));
      kept = Keeps-then _ _ _ c.loop-next.invariant.kept said.kept;
      inside = said.inside;
      further = omega (arith, c.loop-next.invariant.further, said.further, word.further);
    }

pub returns-clause-read : goal.returns-clause-read
returns-clause-read g c n h =
    let v = c.args.tokens.now in
    let f = g.W.Ways.readers (parts_in v) in
    let all = no_more_in_pool (reader.read_procedures (parts_in v) f) (map procedure_tree) procedure_at past_procedure v c.loop-next.pool n c.args.at c.loop-next.from c.loop-next.from c.loop-next.list.items (c.loop-next.invariant.in_pool n h)
    (λ k. procedures_end (parts_in v) f v c.loop-next.from k c.in_default.ensures.none) in
    record { what = all.what; is = all.is; told = record { below = all.told.below; tree = all.told.tree } }

pub returns-in_err-one-clause-read : goal.returns-in_err-one-clause-read
returns-in_err-one-clause-read g c n h =
    let v = c.args.tokens.now in
    let f = g.W.Ways.readers (parts_in v) in
    let word = c.in-Some.ensures in
    let p = err_from_is_err_and c.from_residual.result c.from_residual.ensures.1 in
    let e = c.in_err-one.field-0.0 in
    rw (p.1, p.2) (one_fails_in_pool (reader.read_procedures (parts_in v) f) (map procedure_tree) procedure_at past_procedure v c.loop-next.pool n c.args.at c.loop-next.from c.loop-next.list.items (c.loop-next.invariant.in_pool n h) e
    (λ k l b. procedures_fail (parts_in v) f v c.loop-next.from c.in-Some.next word.there word.rest e k (λ q. c.in_err-one.ensures.read k q (omega (arith, b, word.further)))))
