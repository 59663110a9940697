-- The parts are those of the file; where something is wrong between the lines, the text is no module.
use Rattle.std.proofs.Common.{refl, ap, ◌∙◌, ◌++◌, []}
use Rattle.module_split.specs.StandsSeen.{stands_seen}
use Rattle.module_split.specs.SplitSeen.{plain_tokens}
use Rattle.region_split.proofs.PartsFound.{unsound_inside, ended_inside, none_there, titled, parted}
use Rattle.region_split.proofs.parts.parts_around.Goals as goal

pub returns-then-not-is_sound : goal.returns-then-not-is_sound
returns-then-not-is_sound c =
    unsound_inside c.args.text.now c.args.stands.now c.args.old c.args.within.now c.requires.walk c.requires.old c.requires.inside
    (λ k. (let f = rw (c.is_sound.ensures.no k) at c.if-not-is_sound.true in absurd cc))

pub returns-then-is_some : goal.returns-then-is_some
returns-then-is_some c =
    ended_inside c.args.text.now c.args.stands.now c.args.old c.args.within.now c.tail.result c.is_some.result c.requires.walk c.requires.old c.requires.inside c.tail.ensures c.is_some.ensures c.if-is_some.true

pub title_of-requires-clause-titled : goal.title_of-requires-clause-titled
title_of-requires-clause-titled c = titled c.args.text.now c.args.stands.now c.args.old c.requires.walk c.requires.solid c.requires.old

pub returns : goal.returns
returns c =
    let x = c.args.text.now in
    parted x c.args.stands.now c.args.within.now c.args.old c.region_index-index.result _ c.requires.walk c.requires.solid c.requires.old c.requires.sound c.requires.ended c.requires.inside
    (c.if-not-is_sound.ensures.yes refl) (none_there c.args.within.now c.tail.result c.is_some.result c.tail.ensures c.is_some.ensures c.if-is_some.false)
    c.region_index-index.ensures c.title_of.ensures c.in_ok-tokens_among.ensures.tokens c.in_ok-tokens_among-2.ensures.tokens
    (c.in_ok-tokens_among-3.ensures.tokens ∙ ap (λ ds. plain_tokens (stands_seen x ds) ++ []) c.behind.ensures)
