-- Reading within the limits: what is read, and where it stops.
use Rattle.std.proofs.Common.{◌≡◌, ◌+◌, ◌*◌, ◌≤◌, suc, List, ◌∷◌, ◌++◌, length, Err, subst, length-append, arith}
use Rattle.tla_token.specs.declared.rule.Rule.{Rule}
use Rattle.tla_tree.specs.Lexical.{Token}
use Rattle.tla_tree.specs.Reader.{Out}
use Rattle.tla_tree.proofs.Alike.{Alike, fair_bind}
use Rattle.pcal_tree.specs.Grammar.{p_syntax, Text}
use Rattle.syntax_reading.specs.TokenReaders.{limited_parts}
use Rattle.syntax_reading.proofs.FairAround.{last_fair}
use Rattle.syntax_reading.proofs.StopsWithin.{ReadsWithin, limited_fair, same_refusal}
use Rattle.p_reading.specs.ReadAlgorithm.{read_algorithm, read_limited_algorithm}
use Rattle.p_reading.proofs.FairAlgorithm.{text_fair}
use Rattle.p_reading.proofs.BesideAlgorithm.{beside}
use Rattle.p_reading.proofs.WithinAlgorithm.{refused_ends}
use Rattle.p_reading.proofs.Stops.{reads_all}

-- a refusal is the same whatever follows
pub refused_again : (k : List Token) (t : Token) (r s : List Token) (q : Rule) → read_limited_algorithm (k ++ t ∷ r) ≡ Err (q, t ∷ r) → read_limited_algorithm (k ++ t ∷ s) ≡ Err (q, t ∷ s)
refused_again k t r s q o =
    let n = length (k ++ t ∷ r) in
    let m = length (k ++ t ∷ s) in
    let b = 4 + 4 * length k in
    let ln : b ≤ 4 * n = omega (arith, length-append k (t ∷ r)) in
    let lm : b ≤ 4 * m = omega (arith, length-append k (t ∷ s)) in
    let f = fair_bind (text_fair b (limited_parts (4 * n)) (limited_parts (4 * m)) (limited_fair b (4 * n) (4 * m) ln lm) (suc n) (suc m) b (omega arith) (omega (arith, ln)) (omega (arith, lm))) (λ y. last_fair y) in
    let both : Alike k t r s (read_limited_algorithm (k ++ t ∷ r)) (read_limited_algorithm (k ++ t ∷ s)) = f.alike k t r s (omega arith) in
    same_refusal k t r s q (read_limited_algorithm (k ++ t ∷ s)) (subst (λ (z : Out Text). Alike k t r s z (read_limited_algorithm (k ++ t ∷ s))) o both)

unfoldable pub reads_within : ReadsWithin p_syntax read_algorithm read_limited_algorithm
reads_within = record { all = reads_all; beside = beside; refused_again = refused_again; refused_ends = refused_ends }
