-- A turn reads a piece more.
use Rattle.std.proofs.Common.{◌≡◌, ◌≤◌, ◌+◌, ◌++◌, take, length, arith, length-append}
use Rattle.std.proofs.lemmas.List.{length-take-le}
use Rattle.outer_io.specs.Outer.{Tells, IsPiece}
use Rattle.outer_io.proofs.Pieces.{front_more, rose_more}
use Rattle.outer_io.proofs.reading.load.Goals as goal

pub pieces-preserved : goal.pieces-preserved
pieces-preserved g c =
    let out = c.pieces.out.items in
    let n = c.in_ok-n.n in
    let buffer = c.fetch.new.into in
    let room : n ≤ length buffer = omega (arith, c.in_ok-n.ensures.room) in
    let items : c.extend_from_slice.new.self.items ≡ out ++ take n buffer = c.in_ok-extend_from_slice.ensures.items in
    let longer : length (out ++ take n buffer) ≡ length out + n = simp (length-append, length-take-le n buffer room) in
    let from : c.len.result ≡ length out = omega (arith, c.len.ensures, c.pieces.out.ok) in
    let piece : Tells (g.H.Shelf.texts c.args.shelf.now) c.args.name.now (IsPiece (length out) n buffer) = rw (c.pieces.invariant.texts_stay, from) at c.in_ok-n.ensures.piece in
    record {
      short = rw (items, longer) (omega (arith, c.len-in-pieces.ensures));
      front = rw items (front_more _ _ _ _ room c.pieces.invariant.front piece);
      given = rw (items, longer) (rose_more _ _ _ _ _ c.pieces.invariant.given c.in_ok-n.ensures.given);
      texts_stay = cc;
      given_grows = omega arith;
      faults_stay = omega (arith, c.in_ok-n.ensures.ok_faults, c.pieces.invariant.faults_stay);
    }
