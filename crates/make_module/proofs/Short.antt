-- How long made modules are: a line of a label below 10,000 has at most 58 bytes.
use Rattle.std.proofs.Common.{ℕ, zero, suc, ◌+◌, ◌*◌, ◌^◌, ◌<◌, ◌≤◌, length, length-append, arith}
use Rattle.std.specs.Fmt.{decimal}
use Rattle.std.proofs.lemmas.Fmt.{length-decimal-le}
use Rattle.make_module.specs.Big.{next_number, kind_of, statement_text, line_text, lines_from, big}

short_number : (k : ℕ) → k < 10000 → length (decimal k) ≤ 4
short_number k h = length-decimal-le 4 k (omega arith) (omega arith) (omega arith)

short_statement : (kind k : ℕ) → k < 10000 → length (statement_text kind k) ≤ 48
short_statement zero k h = simp length-append (omega (arith, short_number k h))
short_statement (suc zero) k h = simp length-append (omega (arith, short_number k h))
short_statement (suc (suc zero)) k h = simp length-append (omega (arith, short_number k h))
short_statement (suc (suc (suc n))) k h = omega arith

short_line : (k g : ℕ) → k < 10000 → length (line_text k g) ≤ 58
short_line k g h = simp length-append (omega (arith, short_number k h, short_statement (kind_of g) k h))

short_lines : (n k g : ℕ) → n + k ≤ 10000 → length (lines_from n k g) ≤ 58 * n
short_lines zero k g h = omega arith
short_lines (suc n) k g h =
    let here = short_line k (next_number g) (omega (arith, h)) in
    let rest = short_lines n (suc k) (next_number g) (omega (arith, h)) in
    omega (arith, length-append (line_text k (next_number g)) (lines_from n (suc k) (next_number g)), here, rest)

pub short : (seed count : ℕ) → count ≤ 2000 → length (big seed count) < 2 ^ 17
short seed count h =
    let lines = short_lines count 1 seed (omega (arith, h)) in
    simp length-append (omega (arith, lines, h))
