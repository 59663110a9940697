-- The algorithm that was replaced, put in the place of the one that replaced it, gives the file that was read.
use Rattle.std.proofs.Common.{◌≡◌, ℕ, zero, suc, ◌+◌, ◌-◌, ◌≤◌, Bool, true, false, [], ◌∷◌, ◌++◌, length, take, drop, Option, Some, None, refl, sym, ap, subst, ◌∙◌, arith, append_assoc, length-append, find}
use Rattle.std.specs.Prelude.{if◌then◌else◌}
use Rattle.std.proofs.lemmas.Option.{none-some, same_Some}
use Rattle.std.proofs.lemmas.List.{take-append-drop, drop-drop}
use Rattle.std.proofs.Math.Seq.{take-append_seam, drop-append_seam}
use Rattle.tla_token.specs.Tokens.{stretch}
use Rattle.tla_token.specs.Offences.{Part, part_bytes}
use Rattle.module_tree.specs.TextFront.{Text}
use Rattle.module_tree.specs.Beginnings.{is_fair, opening}
use Rattle.module_tree.specs.ModuleParts.{kind_in}
use Rattle.module_tree.specs.Walk.{Located, walk}
use Rattle.module_tree.specs.FileParts.{within, beginnings_in, first_of, holds_algorithm}
use Rattle.module_tree.specs.AlgorithmText.{Stage, head, is_past, after_part, inner_part, Inside, with_part, inside, AlgorithmText, algorithm_in}
use Rattle.module_tree.specs.WithTranslation.{Swapped}
use Rattle.module_tree.specs.laws.Kept.{IsFine}
use Rattle.module_tree.proofs.WalkKept.{all_fine_in}
use Rattle.module_tree.proofs.AlgorithmSame.{at_comment}
use Rattle.module_tree.proofs.AlgorithmKept.{placed_at}

-- it ends after where it begins
ends_later : (st : Stage) (n k left : ℕ) (s : Text) → n ≤ (inside st n k left s).to
ends_later st n k zero s = same n
  where
    same : (n : ℕ) → n ≤ n
    same n = omega arith
ends_later st n k (suc left) [] = same n
  where
    same : (n : ℕ) → n ≤ n
    same n = omega arith
ends_later st n (suc k) (suc left) (b ∷ s) = (let m = ends_later st (suc n) k left s in omega (arith, m))
ends_later st n zero (suc left) (b ∷ s) = by (is_past st) refl (λ st k. ends_later st (suc n) k left s)
  where
    cut_by : Part → Inside
    cut_by q = with_part (n, q) (inside (after_part st (kind_in q)) (suc n) (length (part_bytes q) - 1) left s)

    by : (k : Bool) → is_past st ≡ k → ((st : Stage) (k : ℕ) → suc n ≤ (inside st (suc n) k left s).to) → n ≤ (inside st n zero (suc left) (b ∷ s)).to
    by true k deeper = (let e : (inside st n zero (suc left) (b ∷ s)).to ≡ n = rw k refl in omega (arith, e))
    by false k deeper =
        let q = inner_part left b s in
        let e : inside st n zero (suc left) (b ∷ s) ≡ cut_by q = ap (λ (k : Bool). if k then record { parts = []; stage = st; to = n } else cut_by q) k in
        let m = deeper (after_part st (kind_in q)) (length (part_bytes q) - 1) in
        subst (λ (i : Inside). n ≤ i.to) (sym e) (omega (arith, m))

record Bounds (x : Text) (a : AlgorithmText) : Type 0 where
  within_text : length (take a.from x) ≡ a.from
  forward : a.from ≤ a.rest.to

bounds : (x : Text) (a : AlgorithmText) → IsFine x → algorithm_in x ≡ Some a → Bounds x a
bounds x a fine is = by (find holds_algorithm (walk x)) refl
  where
    begun : (d : Located) → find holds_algorithm (walk x) ≡ Some d → (o : Option ℕ) → first_of (beginnings_in d) ≡ o → Bounds x a
    begun d f None o = (let g : None ≡ Some a = rw (f, o) at is in absurd (none-some a g))
    begun d f (Some n) o =
        let g : Some (at_comment x d n) ≡ Some a = rw (f, o) at is in
        let q = placed_at x d n (all_fine_in x fine).parts.fine f o in
        let s = drop n x in
        let left = d.at + 2 + length (within d.is) - n in
        let later = ends_later (head (if is_fair s then 1 else 0)) (n + length (opening s)) 0 (left - length (opening s)) (drop (length (opening s)) s) in
        let front : length (take n x) ≡ n =
        ap (λ (m : ℕ). length (take m x)) q.from ∙ ap (λ (u : Text). length (take (length q.p) u)) q.text ∙ ap length (take-append_seam q.p (q.v ++ q.r)) ∙ sym q.from in
        subst (Bounds x) (same_Some (at_comment x d n) a g) (record { within_text = front; forward = omega (arith, later) })

    by : (o : Option Located) → find holds_algorithm (walk x) ≡ o → Bounds x a
    by None f = (let g : None ≡ Some a = rw f at is in absurd (none-some a g))
    by (Some d) f = begun d f (first_of (beginnings_in d)) refl

pub swapped_back : (x u w : Text) (a b : AlgorithmText) → IsFine x → Swapped x u w → algorithm_in x ≡ Some a → algorithm_in w ≡ Some b → b.from ≡ a.from → b.rest.to ≡ a.from + length u
    → Swapped w (stretch x a.from a.rest.to) x
swapped_back x u w a b fine s is is_there from to =
    let r = bounds x a fine is in
    let same : s.old ≡ a = same_Some s.old a (sym s.is_old ∙ is) in
    let p = take a.from x in
    let q = drop a.rest.to x in
    let text : w ≡ p ++ (u ++ q) = s.is ∙ ap (λ (a : AlgorithmText). take a.from x ++ (u ++ drop a.rest.to x)) same in
    let front : take b.from w ≡ p =
    ap (λ (n : ℕ). take n w) (from ∙ sym r.within_text) ∙ ap (take (length p)) text ∙ take-append_seam p (u ++ q) in
    let size : b.rest.to ≡ length (p ++ u) = to ∙ ap (λ (n : ℕ). n + length u) (sym r.within_text) ∙ sym (length-append p u) in
    let back : drop b.rest.to w ≡ q = ap (λ (n : ℕ). drop n w) size ∙ ap (drop (length (p ++ u))) (text ∙ sym (append_assoc p u q)) ∙ drop-append_seam (p ++ u) q in
    let count : a.from + (a.rest.to - a.from) ≡ a.rest.to = (let f = r.forward in omega (arith, f)) in
    let rest : drop a.from x ≡ stretch x a.from a.rest.to ++ q =
    sym (take-append-drop (a.rest.to - a.from) (drop a.from x)) ∙ ap (λ (v : Text). stretch x a.from a.rest.to ++ v) (drop-drop (a.rest.to - a.from) a.from x ∙ ap (λ (n : ℕ). drop n x) count) in
    let whole : x ≡ p ++ (stretch x a.from a.rest.to ++ q) = sym (take-append-drop a.from x) ∙ ap (λ (v : Text). p ++ v) rest in
    record { old = b; is_old = is_there; is = whole ∙ (λ i. sym front i ++ (stretch x a.from a.rest.to ++ sym back i)) }
