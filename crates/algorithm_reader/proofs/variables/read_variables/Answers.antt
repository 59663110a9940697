-- Proves what is asked of `read_variables`.
use Rattle.std.proofs.Common.{refl, arith}
use Rattle.std.proofs.lemmas.Result.{err_from_is_err_and}
use Rattle.tla_tree.proofs.PoolNumbers.{Keeps-then}
use Rattle.expr_nodes.specs.Ahead.{ahead}
use Rattle.pcal_tree.specs.InMemory.{declaration_at, past_declaration}
use Rattle.pcal_tree.specs.GrammarParts.{declarations}
use Rattle.syntax_reading.specs.ReadParts.{read_variables as variables_reader}
use Rattle.algorithm_reader.specs.PartsRead.{parts_in}
use Rattle.algorithm_reader.proofs.Gathered.{none_in_pool, one_more_in_pool, last_in_pool, one_fails_in_pool}
use Rattle.algorithm_reader.proofs.GatheredVariables.{declaration_told, declarations_stay, separator_told, variables_go_on, variables_end, variables_fail}
use Rattle.algorithm_reader.proofs.variables.read_variables.Goals as goal

pub loop-list-init : goal.loop-list-init
loop-list-init c =
    record {
      in_pool = none_in_pool (variables_reader c.args.among (parts_in c.args.tokens.now)) declarations declaration_at past_declaration c.args.tokens.now c.args.pool.now c.args.at c.new-list.result.items c.new-list.ensures.items c.requires.there;
      kept = record { longer = omega arith; same = λ i h. refl };
      inside = c.requires.there;
      further = omega arith;
    }

pub loop-list-preserved : goal.loop-list-preserved
loop-list-preserved c =
    let v = c.args.tokens.now in
    let read = variables_reader c.args.among (parts_in v) in
    let said = c.in_ok-declaration.ensures in
    let behind = c.past_separator_to_name-another.ensures in
    let us = c.read_declaration.new.pool in
    let on = variables_go_on c.args.among (parts_in v) v c.loop-list.from c.in_ok-declaration.end c.past_separator_to_name-another.result.1 _ (declaration_told said.read) (separator_told _ behind.read c.if-not-another.false) in
    record {
      in_pool = (λ n h. one_more_in_pool read declarations declaration_at past_declaration v c.loop-list.pool us n c.args.at c.loop-list.from c.past_separator_to_name-another.result.1 c.loop-list.list.items c.push.new.self.items
          c.in_ok-declaration.declaration (c.loop-list.invariant.in_pool n h) said.kept (declarations_stay _ _ said.kept) said.read.told.below c.in_ok-push.ensures.items (omega (arith, said.further, behind.no_less)) behind.inside (λ k l b. on k));
      kept = Keeps-then _ _ _ c.loop-list.invariant.kept said.kept;
      inside = behind.inside;
      further = omega (arith, c.loop-list.invariant.further, said.further, behind.no_less);
    }

pub returns-then-not-another-clause-read : goal.returns-then-not-another-clause-read
returns-then-not-another-clause-read c n h =
    let v = c.args.tokens.now in
    let read = variables_reader c.args.among (parts_in v) in
    let said = c.in_ok-declaration.ensures in
    let behind = c.past_separator_to_name-another.ensures in
    let us = c.read_declaration.new.pool in
    let last = variables_end c.args.among (parts_in v) v c.loop-list.from c.in_ok-declaration.end c.past_separator_to_name-another.result.1 _ (declaration_told said.read) (separator_told _ behind.read c.if-not-another.true) in
    let all = last_in_pool read declarations declaration_at past_declaration v c.loop-list.pool us n c.args.at c.loop-list.from c.past_separator_to_name-another.result.1 c.loop-list.list.items c.push.new.self.items
    c.in_ok-declaration.declaration (c.loop-list.invariant.in_pool n h) said.kept (declarations_stay _ _ said.kept) said.read.told.below c.in_ok-push.ensures.items (λ k l b. last k) in
    record { what = all.what; is = all.is; told = record { below = all.told.below; tree = all.told.tree } }

pub returns-in_err-declaration-clause-read : goal.returns-in_err-declaration-clause-read
returns-in_err-declaration-clause-read c n h =
    let v = c.args.tokens.now in
    let p = err_from_is_err_and c.from_residual.result c.from_residual.ensures.1 in
    let e = c.in_err-declaration.field-0.0 in
    rw (p.1, p.2) (one_fails_in_pool (variables_reader c.args.among (parts_in v)) declarations declaration_at past_declaration v c.loop-list.pool n c.args.at c.loop-list.from c.loop-list.list.items (c.loop-list.invariant.in_pool n h) e (λ k l b. variables_fail c.args.among (parts_in v) e (ahead v c.loop-list.from) c.in_err-declaration.ensures.read k))
