-- Proves that the first offence of declarations is found.
use Rattle.std.proofs.Common.{List, ap, ◌∙◌}
use Rattle.tla_token.specs.declared.rule.Refusal.{Refusal}
use Rattle.pcal_tree.specs.InMemory.{declaration_at}
use Rattle.pcal_tree.specs.Offences.{first}
use Rattle.algorithm_answer.specs.Joined.{joined}
use Rattle.read_rules.specs.Own.{own_in_declaration}
use Rattle.read_rules.proofs.FoundLaws.{found_more, found_all, flat_mapped}
use Rattle.read_rules.proofs.own.with_declarations.Goals as goal

pub loop-i-preserved : goal.loop-i-preserved
loop-i-preserved c = λ p b.
    found_more (λ d. own_in_declaration p (declaration_at c.args.pool.now d)) c.args.list.now c.loop-i.i c.index-list-i.result c.args.so_far c.loop-i.found c.in_ok-found.found c.index-list-i.is c.loop-i-test.true
    (c.in_ok-found.ensures p b) (c.loop-i.invariant p b)

pub returns : goal.returns
returns c = λ p b.
    found_all (λ d. own_in_declaration p (declaration_at c.args.pool.now d)) c.args.list.now c.loop-i.i c.args.so_far c.loop-i.found c.loop-i-test.false (c.loop-i.invariant p b)
    ∙ ap (λ (rs : List Refusal). joined c.args.so_far (first rs)) (flat_mapped (own_in_declaration p) (declaration_at c.args.pool.now) c.args.list.now)
