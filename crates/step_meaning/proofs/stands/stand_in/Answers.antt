-- Proves that the label is found that the value names.
use Rattle.std.proofs.Common.{◌≡◌, ◌≤◌, List, map, refl, sym, ap, ◌∙◌, arith}
use Rattle.std.specs.Option.{option_map}
use Rattle.tla_tree.specs.Tree.{Name}
use Rattle.pcal_tree.specs.Calls.{label_value}
use Rattle.pcal_tree.specs.FirstTrouble.{stand_at}
use Rattle.pcal_tree.specs.InMemory.{past_statements}
use Rattle.pcal_tree.specs.StepAnswers.{label_place}
use Rattle.step_moves.specs.Programs.{program_at}
use Rattle.step_spots.specs.declared.walk.Spot as code
use Rattle.step_spots.specs.InMemory.{spot_at, routine_at, past_spots}
use Rattle.step_spots.specs.declared.routine.Routine as spots
use Rattle.step_spots.specs.Spots.{Spot, spot_named, place_of}
use Rattle.step_spots.proofs.SpotLaws.{place_listed}
use Rattle.step_meaning.specs.declared.stands.Stand.{Stand}
use Rattle.step_meaning.specs.StandsAt.{IsPlaced}
use Rattle.step_meaning.proofs.FoundLaws.{found, missed, if_three}
use Rattle.step_meaning.proofs.stands.stand_in.Goals as goal

pub returns-then-eq-clause-found : goal.returns-then-eq-clause-found
returns-then-eq-clause-found c =
    let ts = c.args.program.now.pool.now in
    let P = program_at c.args.program.now in
    let v = routine_at ts c.args.routine in
    let named = ap (λ (n : Name). n.word) c.name.view_is in
    c.first_stand.ensures.found ts
    ∙ (λ k. stand_at v (named k) (option_map (λ (s : Spot). s.begins) (spot_named (map (spot_at ts) (c.deref.ensures.value k)) (named k))))
    ∙ sym (found ts P c.args.label.now v c.in_ok-all.all.items c.loop-i.i c.index-spot.result.now c.in_ok-value.value c.index-spot.ensures (omega (arith, c.loop-i-test.true, c.len-i-end.ensures, c.in_ok-all.all.ok))
    (c.in_ok-value.ensures P v refl refl ∙ ap (label_value P v) named) (sym c.if-eq.ensures))
    ∙ c.loop-i.invariant

pub returns-then-eq-clause-placed : goal.returns-then-eq-clause-placed
returns-then-eq-clause-placed c =
    let ts = c.args.program.now.pool.now in
    let v = routine_at ts c.args.routine in
    if_three (λ (s : Stand). s.routine ≡ c.args.routine) (λ (s : Stand). past_statements s.spot.items.now ≤ past_spots c.deref.result.now)
    (λ (s : Stand). place_of (spot_named (map (spot_at ts) c.deref.result.now) s.spot.label.now.word) ≡ s.spot.label.now.place) (IsPlaced c.args.program.now) c.first_stand.result
    c.first_stand.ensures.routine c.first_stand.ensures.within (c.first_stand.ensures.place ts)
    (λ one same below at. record {
      within = omega (arith, below, ap past_spots c.deref.ensures.value, c.in_ok-all.ensures.within, c.requires.within);
      place =
          ap (λ (r : spots.Routine). label_place (routine_at ts r) one.spot.label.now.word) same
          ∙ place_listed v one.spot.label.now.word
          ∙ ap (λ (ss : List Spot). place_of (spot_named ss one.spot.label.now.word)) (sym (c.in_ok-all.ensures.list ts))
          ∙ ap (λ (ss : List code.Spot). place_of (spot_named (map (spot_at ts) ss) one.spot.label.now.word)) (sym c.deref.ensures.value)
          ∙ at;
    })

pub loop-i-preserved : goal.loop-i-preserved
loop-i-preserved c =
    let ts = c.args.program.now.pool.now in
    let P = program_at c.args.program.now in
    let v = routine_at ts c.args.routine in
    let named = ap (λ (n : Name). n.word) c.name.view_is in
    sym (missed ts P c.args.label.now v c.in_ok-all.all.items c.loop-i.i c.index-spot.result.now c.in_ok-value.value c.index-spot.ensures (omega (arith, c.loop-i-test.true, c.len-i-end.ensures, c.in_ok-all.all.ok))
    (c.in_ok-value.ensures P v refl refl ∙ ap (label_value P v) named) (sym c.if-eq.ensures))
    ∙ c.loop-i.invariant
