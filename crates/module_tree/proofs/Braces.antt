-- After a brace, or another token, of an algorithm in C-syntax.
use Rattle.std.proofs.Common.{◌≡◌, ℕ, ◌+◌, ◌-◌, ◌<◌, ◌≤◌, Bool, true, false, nat_le, refl, sym, ap, ◌∙◌}
use Rattle.std.specs.Prelude.{if◌then◌else◌}
use Rattle.std.proofs.lemmas.Bool.{le-leb, lt-leb}
use Rattle.tla_token.specs.declared.sign.Sign.TheVariants.{OpenCurly, CloseCurly}
use Rattle.tla_token.specs.Lexemes.{Kind, one}
use Rattle.module_tree.specs.AlgorithmText.{titled, open_c, past_c, next, next_p, next_c}
use Rattle.module_tree.specs.laws.AlgorithmEnd.{is_open_brace, is_close_brace}

pub opened_c : (d : ℕ) (k : Kind) → true ≡ is_open_brace k → open_c (d + 1) ≡ next_c d k
opened_c d (one OpenCurly) e = refl
opened_c d k e = absurd cc

pub other_c : (d : ℕ) (k : Kind) → false ≡ is_open_brace k → false ≡ is_close_brace k → open_c d ≡ next_c d k
other_c d (one OpenCurly) e f = absurd cc
other_c d (one CloseCurly) e f = absurd cc
other_c d k e f = refl

closed_is : (d : ℕ) (k : Kind) → true ≡ is_close_brace k → (if nat_le d 1 then past_c else open_c (d - 1)) ≡ next_c d k
closed_is d (one CloseCurly) e = refl
closed_is d k e = absurd cc

pub closed_last : (d : ℕ) (k : Kind) → true ≡ is_close_brace k → d ≤ 1 → past_c ≡ next_c d k
closed_last d k e l = (let t : nat_le d 1 ≡ true = le-leb d 1 l in ap (λ (b : Bool). if b then past_c else open_c (d - 1)) (sym t) ∙ closed_is d k e)

pub closed_more : (d : ℕ) (k : Kind) → true ≡ is_close_brace k → 1 < d → open_c (d - 1) ≡ next_c d k
closed_more d k e l = (let t : nat_le d 1 ≡ false = lt-leb d 1 l in ap (λ (b : Bool). if b then past_c else open_c (d - 1)) (sym t) ∙ closed_is d k e)

pub titled_open : (e : Bool) (k : Kind) → true ≡ is_open_brace k → open_c 1 ≡ next (titled e) k
titled_open e (one OpenCurly) h = refl
titled_open e k h = absurd cc

pub titled_other : (e : Bool) (k : Kind) → false ≡ is_open_brace k → next_p e k ≡ next (titled e) k
titled_other e (one OpenCurly) h = absurd cc
titled_other e k h = refl
