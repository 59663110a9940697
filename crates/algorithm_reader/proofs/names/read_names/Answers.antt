-- Proves what is asked of `read_names`.
use Rattle.std.proofs.Common.{List, sym, subst, arith}
use Rattle.std.proofs.lemmas.Result.{err_from_is_err_and}
use Rattle.tla_tree.specs.Tree.{Name}
use Rattle.pcal_tree.specs.GrammarParts.{names_of}
use Rattle.expr_nodes.specs.Ahead.{ahead}
use Rattle.syntax_reading.specs.ReadParts.{read_names as names_reader}
use Rattle.algorithm_reader.proofs.Gathered.{SoFar, none_so_far, one_more, last_one, one_fails}
use Rattle.algorithm_reader.proofs.GatheredNames.{name_and_more, last_of_names, no_first_name}
use Rattle.algorithm_reader.proofs.names.read_names.Goals as goal

pub loop-names-init : goal.loop-names-init
loop-names-init c =
    record {
      so_far = (λ n h. subst (λ (l : List Name). SoFar names_reader names_of c.args.tokens.now n c.args.at c.args.at l) (sym c.new-names.ensures.items) (none_so_far names_reader names_of c.args.tokens.now n c.args.at h c.requires));
      inside = c.requires;
      further = omega arith;
    }

pub loop-names-preserved : goal.loop-names-preserved
loop-names-preserved c =
    let v = c.args.tokens.now in
    let said = c.in_ok-name.ensures in
    let comma = c.in-Some.ensures in
    record {
      so_far = (λ n h. subst (λ (l : List Name). SoFar names_reader names_of v n c.args.at c.in-Some.behind l) (sym c.in_ok-push.ensures.items)
          (one_more names_reader names_of v n c.args.at c.loop-names.from c.in-Some.behind c.loop-names.names.items c.in_ok-name.name (c.loop-names.invariant.so_far n h) (omega (arith, said.further, comma.no_less)) comma.inside
          (λ k l b. name_and_more v c.loop-names.from c.in_ok-name.next c.in_ok-name.name said.value c.in-Some.behind comma.there comma.rest k)));
      inside = comma.inside;
      further = omega (arith, c.loop-names.invariant.further, said.further, comma.no_less);
    }

pub returns-in-None-clause-read : goal.returns-in-None-clause-read
returns-in-None-clause-read c n h =
    let v = c.args.tokens.now in
    rw c.in_ok-push.ensures.items (last_one names_reader names_of v n c.args.at c.loop-names.from c.in_ok-name.next c.loop-names.names.items c.in_ok-name.name (c.loop-names.invariant.so_far n h) (λ k l b. last_of_names v c.loop-names.from c.in_ok-name.next c.in_ok-name.name c.in_ok-name.ensures.value c.in-None.ensures.none k))

pub returns-in_err-name-clause-read : goal.returns-in_err-name-clause-read
returns-in_err-name-clause-read c n h =
    let v = c.args.tokens.now in
    let p = err_from_is_err_and c.from_residual.result c.from_residual.ensures.1 in
    rw (p.1, p.2) (one_fails names_reader names_of v n c.args.at c.loop-names.from c.loop-names.names.items (c.loop-names.invariant.so_far n h) c.in_err-name.field-0.0 (λ k l b. no_first_name c.in_err-name.field-0.0 (ahead v c.loop-names.from) c.in_err-name.ensures.value k))
