-- Proves that variables have their numbers.
use Rattle.std.proofs.Common.{◌≡◌, List, ◌∷◌, [], ◌++◌, length, take, subst, arith}
use Rattle.std.proofs.lemmas.List.{length-map, length-take, take_all}
use Rattle.tla_tree.specs.Tree.{Word}
use Rattle.pcal_tree.specs.declared.algorithm.Declaration.{Declaration}
use Rattle.read_rules.specs.NumbersIn.{declared_in, AreNumbers}
use Rattle.read_rules.proofs.NumberLaws.{declared_more}
use Rattle.read_rules.proofs.levels.number_variables.Goals as goal

pub loop-i-preserved : goal.loop-i-preserved
loop-i-preserved c =
    let ds = c.args.list.now in
    let i = c.loop-i.i in
    let gs = declared_in (take i ds) in
    let all : length gs ≡ length (take i ds) = length-map (take i ds) (λ (d : Declaration). d.name.word) in
    subst (λ (ws : List Word). AreNumbers c.number_next.new.numbers ws) (declared_more ds i c.index-list-i.result c.index-list-i.is c.loop-i-test.true)
    (subst (λ (d : Declaration). AreNumbers c.number_next.new.numbers (gs ++ d.name.word ∷ [])) c.declaration.view_is
    (c.in_ok-number_next.ensures gs (let few = length-take i ds in omega (arith, all, few, c.loop-i-test.true)) c.loop-i.invariant))

pub returns : goal.returns
returns c = subst (λ (ds : List Declaration). AreNumbers c.loop-i.numbers (declared_in ds)) (take_all c.loop-i.i c.args.list.now c.loop-i-test.false) c.loop-i.invariant
