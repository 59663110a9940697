-- A text is no module where something is wrong with its segments.
use Rattle.std.proofs.Common.{sym}
use Rattle.region_split.proofs.PartsFound.{no_sound, none_end, some_end, no_region, region_solid, region_placed}
use Rattle.region_split.proofs.parts.parts_among.Goals as goal

pub returns-then-not-is_sound : goal.returns-then-not-is_sound
returns-then-not-is_sound c =
    no_sound c.args.text.now c.args.stands.now c.requires.walk (λ k. (let f = rw (c.is_sound.ensures.no k) at c.if-not-is_sound.true in absurd cc))

pub returns-then-is_none : goal.returns-then-is_none
returns-then-is_none c = none_end c.args.text.now c.args.stands.now c.tail.result c.is_none.result c.requires.walk c.tail.ensures c.is_none.ensures c.if-is_none.true

pub returns-in-None : goal.returns-in-None
returns-in-None c = no_region c.args.text.now c.args.stands.now c.requires.walk c.in-None.ensures

pub parts_around-requires-clause-ended : goal.parts_around-requires-clause-ended
parts_around-requires-clause-ended c = some_end c.args.text.now c.args.stands.now c.tail.result c.is_none.result c.requires.walk c.tail.ensures c.is_none.ensures c.if-is_none.false

pub inside-requires-clause-solid : goal.inside-requires-clause-solid
inside-requires-clause-solid c = region_solid c.args.text.now c.args.stands.now _ c.requires.solid (sym c.in-Some.ensures)

pub inside-requires-clause-placed : goal.inside-requires-clause-placed
inside-requires-clause-placed c = region_placed c.args.text.now c.args.stands.now _ c.requires.walk c.requires.solid (sym c.in-Some.ensures)
