-- What was passed to an algorithm before a refusal is completed by the tokens that are told, and these are few.
use Rattle.std.proofs.Common.{◌≡◌, ℕ, ◌+◌, ◌*◌, ◌≤◌, List, [], ◌∷◌, ◌++◌, length, map, get_or, sym, ap, ◌∙◌, subst, arith, length-append}
use Rattle.std.proofs.lemmas.List.{append-nil}
use Rattle.tla_tree.specs.Lexical.{Token}
use Rattle.tla_tree.specs.FirstStop.{Open}
use Rattle.tla_tree.specs.Reader.{Stop}
use Rattle.pcal_tree.specs.Grammar.{Syntax, Good, spell}
use Rattle.pcal_tree.specs.OpenForms.{opens}
use Rattle.pcal_tree.proofs.OpensLaws.{as_many_opens}
use Rattle.syntax_reading.specs.Completes.{forms, Completes}
use Rattle.syntax_reading.proofs.Mends.{Suffice, Mend, none}

-- the count at the first of the tokens that complete
count_there : (front back : List Open) (l : ℕ) → length back ≡ l → Suffice 0 16 back l → l ≤ 16 * get_or (map forms (front ++ back)) (length front) 0 + 16
count_there [] [] l e k = omega (arith, e)
count_there [] (o ∷ back) l e k = omega (arith, k)
count_there (o ∷ front) back l e k = count_there front back l e k

pub completes_of : (syntax : Syntax) {told ts : List Token} {u : Stop} → (m : Mend (Good syntax) spell opens none 0 16 told ts u) → Completes syntax m.read told
completes_of syntax {told} {ts} {u} m =
    let same : m.fill.fix ≡ told = sym (append-nil m.fill.fix) ∙ m.fill.given in
    let all : spell m.fill.whole [] ≡ m.read ++ told = m.fill.tokens [] ∙ ap (λ (v : List Token). m.read ++ v) (append-nil m.fill.fix ∙ same) in
    let long : length m.fill.back ≡ length told = m.fill.long ∙ ap length same in
    let there : length m.front ≡ length m.read =
    (let a = ap length m.fill.opens in
    let b = length-append m.front m.fill.back in
    let c = as_many_opens m.fill.whole in
    let d = ap length all in
    let e = length-append m.read told in
    omega (arith, a, b, c, d, e, long)) in
    record {
      whole = m.fill.whole;
      good = m.fill.good;
      spelled = all;
      few = subst (λ (os : List Open). length told ≤ 16 * get_or (map forms os) (length m.read) 0 + 16) (sym m.fill.opens) (subst (λ (n : ℕ). length told ≤ 16 * get_or (map forms (m.front ++ m.fill.back)) n 0 + 16) there (count_there m.front m.fill.back (length told) long m.fill.enough));
    }
