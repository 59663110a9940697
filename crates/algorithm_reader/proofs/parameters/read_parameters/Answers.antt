-- Proves what is asked of `read_parameters`.
use Rattle.std.proofs.Common.{refl, arith}
use Rattle.std.proofs.lemmas.Result.{err_from_is_err_and}
use Rattle.tla_tree.proofs.PoolNumbers.{Keeps-then}
use Rattle.expr_nodes.specs.Ahead.{ahead}
use Rattle.pcal_tree.specs.InMemory.{declaration_at, past_declaration}
use Rattle.pcal_tree.specs.GrammarParts.{parameters_of}
use Rattle.syntax_reading.specs.ReadParts.{read_parameters as parameters_reader}
use Rattle.algorithm_reader.specs.PartsRead.{parts_in}
use Rattle.algorithm_reader.proofs.Gathered.{none_in_pool, one_more_in_pool, last_in_pool, one_fails_in_pool}
use Rattle.algorithm_reader.proofs.GatheredVariables.{declaration_told, declarations_stay, parameters_go_on, parameters_end, parameters_fail}
use Rattle.algorithm_reader.proofs.parameters.read_parameters.Goals as goal

pub loop-list-init : goal.loop-list-init
loop-list-init c =
    record {
      in_pool = none_in_pool (parameters_reader (parts_in c.args.tokens.now)) parameters_of declaration_at past_declaration c.args.tokens.now c.args.pool.now c.args.at c.new-list.result.items c.new-list.ensures.items c.requires.there;
      kept = record { longer = omega arith; same = λ i h. refl };
      inside = c.requires.there;
      further = omega arith;
    }

pub loop-list-preserved : goal.loop-list-preserved
loop-list-preserved c =
    let v = c.args.tokens.now in
    let said = c.in_ok-parameter.ensures in
    let comma = c.in-Some.ensures in
    let us = c.read_declaration.new.pool in
    let on = parameters_go_on (parts_in v) v c.loop-list.from c.in_ok-parameter.end _ (declaration_told said.read) c.in-Some.behind comma.there comma.rest in
    record {
      in_pool = (λ n h. one_more_in_pool (parameters_reader (parts_in v)) parameters_of declaration_at past_declaration v c.loop-list.pool us n c.args.at c.loop-list.from c.in-Some.behind c.loop-list.list.items c.push.new.self.items
          c.in_ok-parameter.parameter (c.loop-list.invariant.in_pool n h) said.kept (declarations_stay _ _ said.kept) said.read.told.below c.in_ok-push.ensures.items (omega (arith, said.further, comma.no_less)) comma.inside (λ k l b. on k));
      kept = Keeps-then _ _ _ c.loop-list.invariant.kept said.kept;
      inside = comma.inside;
      further = omega (arith, c.loop-list.invariant.further, said.further, comma.no_less);
    }

pub returns-in-None-clause-read : goal.returns-in-None-clause-read
returns-in-None-clause-read c n h =
    let v = c.args.tokens.now in
    let said = c.in_ok-parameter.ensures in
    let us = c.read_declaration.new.pool in
    let last = parameters_end (parts_in v) v c.loop-list.from c.in_ok-parameter.end _ (declaration_told said.read) c.in-None.ensures.none in
    let all = last_in_pool (parameters_reader (parts_in v)) parameters_of declaration_at past_declaration v c.loop-list.pool us n c.args.at c.loop-list.from c.in_ok-parameter.end c.loop-list.list.items c.push.new.self.items
    c.in_ok-parameter.parameter (c.loop-list.invariant.in_pool n h) said.kept (declarations_stay _ _ said.kept) said.read.told.below c.in_ok-push.ensures.items (λ k l b. last k) in
    record { what = all.what; is = all.is; told = record { below = all.told.below; tree = all.told.tree } }

pub returns-in_err-parameter-clause-read : goal.returns-in_err-parameter-clause-read
returns-in_err-parameter-clause-read c n h =
    let v = c.args.tokens.now in
    let p = err_from_is_err_and c.from_residual.result c.from_residual.ensures.1 in
    let e = c.in_err-parameter.field-0.0 in
    rw (p.1, p.2) (one_fails_in_pool (parameters_reader (parts_in v)) parameters_of declaration_at past_declaration v c.loop-list.pool n c.args.at c.loop-list.from c.loop-list.list.items (c.loop-list.invariant.in_pool n h) e (λ k l b. parameters_fail (parts_in v) e (ahead v c.loop-list.from) c.in_err-parameter.ensures.read k))
