-- Proves that the first offence of statements is found.
use Rattle.std.proofs.Common.{List, [], ◌++◌, sym, ap, ◌∙◌, subst}
use Rattle.std.specs.List.{flat_map}
use Rattle.tla_token.specs.declared.rule.Refusal.{Refusal}
use Rattle.tla_tree.specs.Tree.{Word}
use Rattle.pcal_tree.specs.Algorithm.{Name}
use Rattle.pcal_tree.specs.InMemory.{statements_at}
use Rattle.pcal_tree.specs.Offences.{first}
use Rattle.pcal_tree.specs.OffencesSelf.{selves}
use Rattle.algorithm_answer.specs.Joined.{joined}
use Rattle.read_rules.specs.BodyNames.{names_in}
use Rattle.read_rules.proofs.NamesOfBodies.{body_names}
use Rattle.module_outside.specs.SightIn.{Binds}
use Rattle.module_outside.proofs.SightLaws.{none_bound}
use Rattle.read_rules.specs.Using.{if_self}
use Rattle.read_rules.proofs.SelfLaws.{selves_kept}
use Rattle.read_rules.proofs.selves.with_body.Goals as goal

pub returns-in-Ok : goal.returns-in-Ok
returns-in-Ok c =
    let b = statements_at c.args.pool.now c.args.stmts.now in
    let names = c.in-Ok.ensures.meets [] (subst (λ (hs : List Word). Binds hs []) (sym c.new-2.ensures) none_bound) ∙ ap (λ (ns : List Name). ns ++ flat_map if_self (names_in b [])) c.new.ensures.items in
    c.with_names-found.ensures
    ∙ ap (λ (ns : List Name). joined c.args.so_far (first (selves ns))) (c.deref.ensures.value ∙ names)
    ∙ ap (λ (rs : List Refusal). joined c.args.so_far (first rs)) (selves_kept (names_in b []) ∙ ap selves (sym (body_names b)))
