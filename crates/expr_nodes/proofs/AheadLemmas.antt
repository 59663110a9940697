-- One token further on.
use Rattle.std.proofs.Common.{◌≡◌, ℕ, zero, suc, ◌+◌, List, [], ◌∷◌, drop, refl, ap, ◌∙◌, arith, length, false, ◌≤◌}
use Rattle.tla_token.specs.declared.token.Token as code_token
use Rattle.tla_token.specs.declared.token.Tokens.{Tokens}
use Rattle.tla_tree.specs.Lexical.{Mark}
use Rattle.tla_tree.specs.Reader.{tail, next, is_mark}
use Rattle.expr_nodes.specs.ReadIn.{seen}
use Rattle.expr_nodes.specs.Ahead.{ahead}

tail_from : (bytes : List ℕ) (ts : List code_token.Token) (i : ℕ) → seen bytes (drop (suc i) ts) ≡ tail (seen bytes (drop i ts))
tail_from bytes [] zero = refl
tail_from bytes [] (suc i) = refl
tail_from bytes (t ∷ ts) zero = refl
tail_from bytes (t ∷ ts) (suc i) = tail_from bytes ts i

pub ahead_tail : (v : Tokens) (i : ℕ) → ahead v (i + 1) ≡ tail (ahead v i)
ahead_tail v i = (let e : i + 1 ≡ suc i = omega arith in ap (ahead v) e ∙ tail_from v.bytes.items v.items.items i)

none_left : (ts : List code_token.Token) (i : ℕ) → length ts ≤ i → drop i ts ≡ []
none_left [] zero h = refl
none_left [] (suc i) h = refl
none_left (t ∷ ts) zero h = absurd (omega (arith, h))
none_left (t ∷ ts) (suc i) h = none_left ts i (omega (arith, h))

-- no mark is at the end
pub mark_at_end : (v : Tokens) (e i : ℕ) (m : Mark) → length v.items.items ≤ i → is_mark m (next e (ahead v i)).kind ≡ false
mark_at_end v e i m h = ap (λ (ts : List code_token.Token). is_mark m (next e (seen v.bytes.items ts)).kind) (none_left v.items.items i h)
