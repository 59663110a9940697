-- A byte more, where a comment is open.
use Rattle.std.proofs.Common.{◌≡◌, ℕ, zero, suc, ◌+◌, true, false, not, nat_eq, List, [], ◌∷◌, ◌++◌, length, Option, Some, None, if◌then◌else◌, refl, sym, ap, subst, ◌∙◌, arith, append_assoc, append-nil}
use Rattle.std.proofs.Math.Seq.{take-append_seam}
use Rattle.std.proofs.lemmas.Bool.{and_from, eqb-true}
use Rattle.tla_token.specs.declared.part.Class.TheVariants as class
use Rattle.tla_token.specs.Tokens.{block, line, is_pair, Closes}
use Rattle.tla_token.specs.Offences.{sound}
use Rattle.tla_token.specs.Cut.{plus, comment_len}
use Rattle.tla_token.specs.laws.Machine.{outlines, block as comment, line as rest_of_line, only, fresh, on, given, one_part, begun, in_block, closed, next}
use Rattle.tla_token.proofs.Words.{all_append}
use Rattle.tla_token.proofs.Parted.{len_closes}
use Rattle.tla_token.proofs.MachineStands.{last_byte, Blocks, Lines, Goes, waits, first_off, then_begun}
use Rattle.tla_token.proofs.MachineGoes.{choice, last_len, plus_none}
use Rattle.tla_token.proofs.MachineTexts.{chosen, left_out}

-- ---- nested comments

plus_plus : (m k : ℕ) (o : Option ℕ) → plus m (plus k o) ≡ plus (k + m) o
plus_plus m k None = refl
plus_plus m k (Some j) = ap Some (omega arith)

-- one byte more of a comment
blocks_on : (n d e : ℕ) (last now : Option ℕ) (w : List ℕ) (b k : ℕ) → (x : Blocks n d last w) → length (last_byte last) + 1 ≡ k + length (last_byte now)
    → ((t : List ℕ) → comment_len (suc d) (last_byte last ++ b ∷ t) ≡ plus k (comment_len (suc e) (last_byte now ++ t))) → Blocks (suc n) e now (w ++ b ∷ [])
blocks_on n d e last now w b k x size len =
    record {
      body = x.body ++ b ∷ [];
      is = ap (λ (u : List ℕ). u ++ b ∷ []) x.is;
      size = ap suc x.size ∙ ap (λ (m : ℕ). suc (suc m)) (last_len x.body b);
      done = k + x.done;
      split = omega (arith, last_len x.body b, x.split, size);
      len = λ t.
          ap (comment_len 1) (append_assoc x.body (b ∷ []) t)
          ∙ x.len (b ∷ t)
          ∙ ap (plus x.done) (len t)
          ∙ plus_plus x.done k (comment_len (suc e) (last_byte now ++ t));
    }

abbrev after_pair : ℕ → ℕ → ℕ → List ℕ → Option ℕ
after_pair d a b t = if is_pair 42 41 a b then plus 2 (comment_len d t) else plus 1 (comment_len (suc d) (b ∷ t))

opens_len : (d a b : ℕ) (t : List ℕ) → is_pair 40 42 a b ≡ true → comment_len (suc d) (a ∷ b ∷ t) ≡ plus 2 (comment_len (suc (suc d)) t)
opens_len d a b t k = chosen (is_pair 40 42 a b) (plus 2 (comment_len (suc (suc d)) t)) (after_pair d a b t) k

closes_one : (d a b : ℕ) (t : List ℕ) → is_pair 40 42 a b ≡ false → is_pair 42 41 a b ≡ true → comment_len (suc d) (a ∷ b ∷ t) ≡ plus 2 (comment_len d t)
closes_one d a b t k j =
    left_out (is_pair 40 42 a b) (plus 2 (comment_len (suc (suc d)) t)) (after_pair d a b t) k
    ∙ chosen (is_pair 42 41 a b) (plus 2 (comment_len d t)) (plus 1 (comment_len (suc d) (b ∷ t))) j

passes_one : (d a b : ℕ) (t : List ℕ) → is_pair 40 42 a b ≡ false → is_pair 42 41 a b ≡ false → comment_len (suc d) (a ∷ b ∷ t) ≡ plus 1 (comment_len (suc d) (b ∷ t))
passes_one d a b t k j =
    left_out (is_pair 40 42 a b) (plus 2 (comment_len (suc (suc d)) t)) (after_pair d a b t) k
    ∙ left_out (is_pair 42 41 a b) (plus 2 (comment_len d t)) (plus 1 (comment_len (suc d) (b ∷ t))) j

-- a comment of which the outermost ends with b
closes_at : (a b done : ℕ) (body : List ℕ) → length body ≡ done + 1 → comment_len 1 (body ++ b ∷ []) ≡ plus done (comment_len 1 (a ∷ b ∷ [])) → is_pair 40 42 a b ≡ false → is_pair 42 41 a b ≡ true
    → Closes 1 (body ++ b ∷ [])
closes_at a b done body split len k j =
    let whole = body ++ b ∷ [] in
    let size : done + (2 + 0) ≡ length whole = omega (arith, last_len body b, split) in
    let e : comment_len 1 whole ≡ Some (length whole) = len ∙ ap (plus done) (closes_one 0 a b [] k j) ∙ ap Some size in
    let f : comment_len 1 (whole ++ []) ≡ Some (length whole) = ap (comment_len 1) (append-nil whole) ∙ e in
    let C : List ℕ → Type 0 = λ u. Closes 1 u in
    subst C (take-append_seam whole []) (len_closes 1 (whole ++ []) (length whole) f).1

outermost : (n a : ℕ) (w : List ℕ) (b : ℕ) → Blocks n 0 (Some a) w → is_pair 40 42 a b ≡ false → is_pair 42 41 a b ≡ true → Goes (w ++ b ∷ []) (one_part class.Block (suc n), only fresh)
outermost n a w b x k j =
    let closes = closes_at a b x.done x.body x.split (x.len (b ∷ [])) k j in
    let size : suc n ≡ suc (suc (length (x.body ++ b ∷ []))) = ap suc x.size ∙ ap (λ (m : ℕ). suc (suc m)) (last_len x.body b) in
    record {
      pending = [];
      stands = refl;
      seen = λ t.
          ap (λ (u : List ℕ). outlines ((u ++ b ∷ []) ++ t)) x.is
          ∙ first_off (sound (block (x.body ++ b ∷ []))) t closes
          ∙ ap (λ (m : ℕ). one_part class.Block m ++ outlines t) (sym size);
    }

closed_goes : (n d a : ℕ) (w : List ℕ) (b : ℕ) → Blocks n d (Some a) w → is_pair 40 42 a b ≡ false → is_pair 42 41 a b ≡ true → Goes (w ++ b ∷ []) (closed (suc n) d)
closed_goes n zero a w b x k j = outermost n a w b x k j
closed_goes n (suc d) a w b x k j =
    waits (w ++ b ∷ []) (only (comment (suc n) d None)) (blocks_on n (suc d) d (Some a) None w b 2 x refl (λ t. closes_one (suc d) a b t k j))

pub block_goes : (n d : ℕ) (last : Option ℕ) (w : List ℕ) (b : ℕ) → Blocks n d last w → Goes (w ++ b ∷ []) (in_block n d last b)
block_goes n d None w b x = waits (w ++ b ∷ []) (only (comment (suc n) d (Some b))) (blocks_on n d d None (Some b) w b 0 x refl (λ t. plus_none (comment_len (suc d) (b ∷ t))))
block_goes n d (Some a) w b x =
    choice (w ++ b ∷ []) (is_pair 40 42 a b) (on (comment (suc n) (suc d) None)) (if is_pair 42 41 a b then closed (suc n) d else on (comment (suc n) d (Some b)))
    (λ k. waits (w ++ b ∷ []) (only (comment (suc n) (suc d) None)) (blocks_on n d (suc d) (Some a) None w b 2 x refl (λ t. opens_len d a b t k)))
    (λ k. choice (w ++ b ∷ []) (is_pair 42 41 a b) (closed (suc n) d) (on (comment (suc n) d (Some b))) (closed_goes n d a w b x k)
    (λ j. waits (w ++ b ∷ []) (only (comment (suc n) d (Some b))) (blocks_on n d d (Some a) (Some b) w b 1 x refl (λ t. passes_one d a b t k j))))

-- ---- comments to the line's end

lines_on : (n : ℕ) (w : List ℕ) (b : ℕ) → Lines n w → nat_eq b 10 ≡ false → Lines (suc n) (w ++ b ∷ [])
lines_on n w b x k =
    record {
      body = x.body ++ b ∷ [];
      is = ap (λ (u : List ℕ). u ++ b ∷ []) x.is;
      size = ap suc x.size ∙ ap (λ (m : ℕ). suc (suc m)) (last_len x.body b);
      all = all_append (λ c. not (nat_eq c 10)) x.body (b ∷ []) x.all (and_from (not (nat_eq b 10)) true (ap not k) refl);
    }

pub line_goes : (n : ℕ) (w : List ℕ) (b : ℕ) → Lines n w → Goes (w ++ b ∷ []) (next (rest_of_line n) b)
line_goes n w b x =
    choice (w ++ b ∷ []) (nat_eq b 10) (given (one_part class.Line n) (begun b)) (on (rest_of_line (suc n)))
    (λ k. then_begun w b (one_part class.Line n) (λ t.
    ap (λ (u : List ℕ). outlines (u ++ b ∷ t)) x.is
    ∙ first_off (sound (line x.body)) (b ∷ t) (x.all, eqb-true b 10 k)
    ∙ ap (λ (m : ℕ). one_part class.Line m ++ outlines (b ∷ t)) (sym x.size)))
    (λ k. waits (w ++ b ∷ []) (only (rest_of_line (suc n))) (lines_on n w b x k))
