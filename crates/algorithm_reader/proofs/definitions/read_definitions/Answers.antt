-- Proves what is asked of `read_definitions`.
use Rattle.std.proofs.Common.{refl, arith, sym, ◌∙◌, length}
use Rattle.std.proofs.lemmas.Result.{err_from_is_err_and}
use Rattle.tla_tree.proofs.PoolNumbers.{Keeps-then}
use Rattle.expr_nodes.specs.Ahead.{ahead}
use Rattle.pcal_tree.specs.InMemory.{definition_at, past_definition}
use Rattle.pcal_tree.specs.GrammarParts.{definitions_of}
use Rattle.syntax_reading.specs.ReadParts.{read_definitions as definitions_reader}
use Rattle.algorithm_reader.specs.PartsRead.{parts_in}
use Rattle.algorithm_reader.proofs.Gathered.{none_in_pool, one_more_in_pool, last_in_pool, one_fails_in_pool}
use Rattle.algorithm_reader.proofs.GatheredDefinitions.{definition_told, definitions_stay, definitions_go_on, definitions_end, definitions_fail}
use Rattle.algorithm_reader.proofs.definitions.read_definitions.Goals as goal

pub loop-list-init : goal.loop-list-init
loop-list-init c =
    record {
      in_pool = none_in_pool (definitions_reader (parts_in c.args.tokens.now)) definitions_of definition_at past_definition c.args.tokens.now c.args.pool.now c.args.at c.new-list.result.items c.new-list.ensures.items c.requires.there;
      kept = record { longer = omega arith; same = λ i h. refl };
      inside = c.requires.there;
      further = omega arith;
    }

pub loop-list-preserved : goal.loop-list-preserved
loop-list-preserved c =
    let v = c.args.tokens.now in
    let said = c.in_ok-definition.ensures in
    let us = c.read_definition.new.pool in
    let name = sym c.is_next_name.ensures ∙ c.if-not-is_next_name.false in
    record {
      in_pool = (λ n h. one_more_in_pool (definitions_reader (parts_in v)) definitions_of definition_at past_definition v c.loop-list.pool us n c.args.at c.loop-list.from c.in_ok-definition.end c.loop-list.list.items c.push.new.self.items
          c.in_ok-definition.definition (c.loop-list.invariant.in_pool n h) said.kept (definitions_stay _ _ said.kept) (said.read (length v.items.items) (omega arith)).told.below c.in_ok-push.ensures.items said.further said.inside
          (λ k l b. definitions_go_on (parts_in v) v c.loop-list.from c.in_ok-definition.end k _ (definition_told (said.read k b)) name));
      kept = Keeps-then _ _ _ c.loop-list.invariant.kept said.kept;
      inside = said.inside;
      further = omega (arith, c.loop-list.invariant.further, said.further);
    }

pub returns-then-not-is_next_name-clause-read : goal.returns-then-not-is_next_name-clause-read
returns-then-not-is_next_name-clause-read c n h =
    let v = c.args.tokens.now in
    let said = c.in_ok-definition.ensures in
    let us = c.read_definition.new.pool in
    let name = sym c.is_next_name.ensures ∙ c.if-not-is_next_name.true in
    let all = last_in_pool (definitions_reader (parts_in v)) definitions_of definition_at past_definition v c.loop-list.pool us n c.args.at c.loop-list.from c.in_ok-definition.end c.loop-list.list.items c.push.new.self.items
    c.in_ok-definition.definition (c.loop-list.invariant.in_pool n h) said.kept (definitions_stay _ _ said.kept) (said.read (length v.items.items) (omega arith)).told.below c.in_ok-push.ensures.items
    (λ k l b. definitions_end (parts_in v) v c.loop-list.from c.in_ok-definition.end k _ (definition_told (said.read k b)) name) in
    record { what = all.what; is = all.is; told = record { below = all.told.below; tree = all.told.tree } }

pub returns-in_err-definition-clause-read : goal.returns-in_err-definition-clause-read
returns-in_err-definition-clause-read c n h =
    let v = c.args.tokens.now in
    let p = err_from_is_err_and c.from_residual.result c.from_residual.ensures.1 in
    let e = c.in_err-definition.field-0.0 in
    rw (p.1, p.2) (one_fails_in_pool (definitions_reader (parts_in v)) definitions_of definition_at past_definition v c.loop-list.pool n c.args.at c.loop-list.from c.loop-list.list.items (c.loop-list.invariant.in_pool n h) e (λ k l b. definitions_fail (parts_in v) e (ahead v c.loop-list.from) k (c.in_err-definition.ensures.read k b)))
