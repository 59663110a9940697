-- A turn writes a piece more.
use Rattle.std.proofs.Common.{◌≡◌, arith, length, ◌-◌, take, drop, length-drop}
use Rattle.std.proofs.lemmas.List.{take_rest}
use Rattle.outer_io.proofs.Pieces.{grows_more}
use Rattle.outer_io.proofs.writing.put_all.Goals as goal

pub pieces-preserved : goal.pieces-preserved
pieces-preserved g c =
    let b = c.args.bytes.now in
    let e : take (length b - c.pieces.at) (drop c.pieces.at b) ≡ drop c.pieces.at b = take_rest b c.pieces.at in
    record {
      within = let w = c.in_ok-at.ensures.within in let v = rw e at w in omega (arith, length-drop c.pieces.at b);
      grows = grows_more _ _ _ _ _ _ c.pieces.invariant.grows (let w = c.in_ok-at.ensures.grows in rw e at w);
      faults_stay = omega (arith, c.in_ok-at.ensures.ok_faults, c.pieces.invariant.faults_stay);
    }
