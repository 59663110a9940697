-- Texts that are read in pieces, and bytes that are written in pieces.
use Rattle.std.proofs.Common.{◌≡◌, ℕ, ◌+◌, ◌≤◌, List, ◌++◌, length, take, drop, Option, Some, None, IfSome, ap, ◌∙◌, arith, append_assoc, length-append}
use Rattle.std.proofs.lemmas.List.{length-take-le}
use Rattle.std.proofs.Math.Seq.{take-add}
use Rattle.outer_io.specs.Outer.{IsPiece, Grows, RoseBy}

-- bytes written in two pieces
pub grows_more : (old mid new : Option (List ℕ)) (i n : ℕ) (bytes : List ℕ) → Grows old mid (take i bytes) → Grows mid new (take n (drop i bytes)) → Grows old new (take (i + n) bytes)
grows_more None mid new i n bytes g h = rw g at h
grows_more (Some old) mid new i n bytes g h =
    let k : new ≡ Some ((old ++ take i bytes) ++ take n (drop i bytes)) = rw g at h in
    let e : (old ++ take i bytes) ++ take n (drop i bytes) ≡ old ++ (take i bytes ++ take n (drop i bytes)) = append_assoc old (take i bytes) (take n (drop i bytes)) in
    rw (take-add i n bytes) (k ∙ ap Some e)

joined : (out buffer text : List ℕ) (n : ℕ) → n ≤ length buffer → out ≡ take (length out) text → take n buffer ≡ take n (drop (length out) text) → out ++ take n buffer ≡ take (length (out ++ take n buffer)) text
joined out buffer text n l e p =
    let k : length (out ++ take n buffer) ≡ length out + n = simp (length-append, length-take-le n buffer l) in
    rw (k, take-add (length out) n text) cc

-- a text read up to some place, and a piece more of it
pub front_more : (told : Option (List ℕ)) (out buffer : List ℕ) (n : ℕ) → n ≤ length buffer
    → IfSome told (λ text. out ≡ take (length out) text) → IfSome told (IsPiece (length out) n buffer)
    → IfSome told (λ text. out ++ take n buffer ≡ take (length (out ++ take n buffer)) text)
front_more None out buffer n l f p = tt
front_more (Some text) out buffer n l f p = joined out buffer text n l f p.same

-- a count that rose by i and then by n
pub rose_more : (a b c i n : ℕ) → RoseBy i a b → RoseBy n b c → RoseBy (i + n) a c
rose_more a b c i n h k = record { no_less = omega arith; no_more = omega arith }
