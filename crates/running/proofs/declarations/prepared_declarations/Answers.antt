-- Proves that each of the declarations is made.
use Rattle.std.proofs.Common.{◌∷◌, ap, ◌∙◌, arith}
use Rattle.tla_tree.proofs.PoolNumbers.{Keeps-then, past_at}
use Rattle.pcal_tree.specs.InMemory.{past_declaration}
use Rattle.running.specs.Prepared.{names_put, own_put, graft_declaration}
use Rattle.running.proofs.MadeOnto.{made_more, made_all}
use Rattle.running.proofs.Members.{declaration_before, declarations_twice, declaration_grown, declarations_grow, declarations_made}
use Rattle.running.proofs.declarations.prepared_declarations.Goals as goal

pub declaration-requires : goal.declaration-requires
declaration-requires c =
    let past = past_at past_declaration c.args.list.now c.loop-one.one-index c.one-item.result c.one-item.is c.loop-one-test.true in omega (arith, past, c.requires, c.loop-one.invariant.0.longer)

pub loop-one-preserved : goal.loop-one-preserved
loop-one-preserved c =
    let o = c.one-item.result in
    let past = past_at past_declaration c.args.list.now c.loop-one.one-index o c.one-item.is c.loop-one-test.true in
    let old = c.args.pool.now in
    let ts = c.loop-one.pool in
    let h = own_put c.args.places.now.own in
    let g = names_put c.args.places.now.local in
    let said = c.in_ok-declaration.ensures in
    let kept = c.loop-one.invariant.0 in
    let same = said.made ∙ ap (λ d. graft_declaration h (graft_declaration g d)) (declaration_grown old ts kept o (omega (arith, past, c.requires))) in (
      Keeps-then _ _ _ kept said.kept,
      made_more past_declaration declaration_before (declarations_twice h g) declarations_grow old ts c.declaration.new.pool said.kept c.loop-one.made.items c.args.list.now c.loop-one.one-index o c.in_ok-declaration.field-0
          c.loop-one.invariant.1 c.one-item.is c.loop-one-test.true said.within
          (λ ds j. same j ∷ declarations_twice h g ds) c.push.new.self.items c.in_ok-push.ensures.items,
    )

pub returns-clause-tree : goal.returns-clause-tree
returns-clause-tree c =
    let old = c.args.pool.now in
    let h = own_put c.args.places.now.own in
    let g = names_put c.args.places.now.local in
    declarations_made h g old c.loop-one.pool c.loop-one.made.items c.args.list.now
    (made_all past_declaration declaration_before (declarations_twice h g) old c.loop-one.pool c.loop-one.made.items c.args.list.now c.loop-one.one-index c.loop-one-test.false c.loop-one.invariant.1)
