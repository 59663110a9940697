use Rattle.std.proofs.Common.{refl, ◌∙◌}
use Rattle.module_split.proofs.SplitMade.{titled, no_spot, no_algorithm, parts_made}
use Rattle.module_split.proofs.split.parts_of.Goals as goal

pub unreachable-requires : goal.unreachable-requires
unreachable-requires c = no_spot c.args.text.now c.args.stands.now c.args.gap c.requires.walk c.requires.fine c.requires.gap c.in_default.is

pub unreachable-requires-in_default-found : goal.unreachable-requires-in_default-found
unreachable-requires-in_default-found c = no_algorithm c.args.text.now c.args.stands.now c.args.found c.requires.walk c.requires.fine c.requires.found c.in_default-found.is

pub title_of-requires-clause-titled : goal.title_of-requires-clause-titled
title_of-requires-clause-titled c = titled c.args.text.now c.args.stands.now c.requires.walk c.requires.fine

pub returns : goal.returns
returns c =
    parts_made c.args.text.now c.args.stands.now c.args.gap c.args.found c.in-Some-found.algorithm _ c.in-Some.spot c.end_index.result c.requires.walk c.requires.fine c.requires.gap c.requires.found c.in-Some-found.is c.in-Some.is refl c.title_of.ensures refl refl refl
    c.is_c.ensures c.in_ok-tokens_among.ensures.tokens c.in_ok-tokens_among-2.ensures.tokens
    (c.in_ok-tokens_among.ensures.ends ∙ c.place_near-spot_place.ensures) c.end_index.ensures.value (c.in_ok-tokens_among-2.ensures.ends ∙ c.place_near-end_place.ensures)
