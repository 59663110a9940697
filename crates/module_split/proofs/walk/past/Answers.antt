use Rattle.std.proofs.lemmas.List.{take_rest}
use Rattle.module_split.proofs.WalkSteps.{goes_past}
use Rattle.module_split.proofs.walk.past.Goals as goal

pub returns : goal.returns
returns c =
    goes_past c.args.text.now c.args.walker c.args.front c.args.known c.piece_of-piece.result.now c.place_after.result c.is_headed_after.result c.is_marked_after.result c.saturating_sub.result
    c.requires.at c.requires.front c.requires.known (rw take_rest at c.piece_of-piece.ensures.value) c.place_after.ensures.value c.place_after.ensures.line c.place_after.ensures.col
    c.is_headed_after.ensures c.is_marked_after.ensures c.saturating_sub.ensures
