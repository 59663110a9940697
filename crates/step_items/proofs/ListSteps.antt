-- One statement more of a list in memory has its items, as the pool grows.
use Rattle.std.proofs.lemmas.List.{take_all}
use Rattle.std.proofs.Common.{◌≡◌, ℕ, suc, zero, ◌+◌, ◌-◌, ◌<◌, ◌≤◌, List, [], ◌∷◌, false, true, length, get_or, drop, take, length-drop, Option, refl, sym, ap, subst, ◌∙◌, arith, add-one}
use Rattle.tla_tree.specs.Tree.{Word, Tree}
use Rattle.tla_tree.specs.Pool.{Keeps}
use Rattle.module_tree.specs.Formulas.{self}
use Rattle.module_write.specs.declared.«module».Item.{Item}
use Rattle.pcal_tree.specs.declared.algorithm.Stmt.{Stmt}
use Rattle.pcal_tree.specs.Algorithm.{Statements, Routine}
use Rattle.pcal_tree.specs.Expand.{graft_all}
use Rattle.pcal_tree.specs.InMemory.{past_stmt, past_statements}
use Rattle.pcal_tree.specs.Program.{Program}
use Rattle.pcal_tree.specs.Run.{unlabelled}
use Rattle.pcal_tree.proofs.InMemoryGrown.{statements_at-kept}
use Rattle.name_bits.specs.declared.bits.Bits.{Bits}
use Rattle.action_builder.specs.Settled.{jumps}
use Rattle.action_builder.specs.WrittenNames.{renames}
use Rattle.right_sides.specs.After.{put_items}
use Rattle.step_items.specs.Writing.{named, ends_first, to_write, to_write_first, Fits, Writes}
use Rattle.step_items.proofs.FarLaws.{Far, Both, fits_one, far_next, far_ends}
use Rattle.step_items.proofs.WeightLaws.{weight, weights, total_from, past_from, from_member}

pub keeps_all : (ts : List Tree) → Keeps ts ts
keeps_all ts = record { longer = omega arith; same = λ i h. refl }

-- statements by their written names stay
pub named_kept : (P : Program) (u : Routine) (ts us : List Tree) → Keeps ts us → (ss : List Stmt) → past_statements ss ≤ length ts → named P u us ss ≡ named P u ts ss
named_kept P u ts us k ss h = ap (graft_all (renames P u)) (statements_at-kept ts us k ss h)

module _ (P : Program) (u : Routine) (x : Option Tree) (ts us vs : List Tree) (k : Keeps ts us) (ss : List Stmt) (low : past_statements ss ≤ length ts) (i : ℕ) (s : Stmt) (rest : List Stmt) (is : s ≡ get_or ss i s) (less : i < length ss)
    (after_it : rest ≡ drop (i + 1) ss) where
  pub past_here : past_statements (s ∷ rest) ≤ length ts
  past_here = let p = past_from past_stmt ss i s is less in let e = ap (λ (r : List Stmt). past_statements (s ∷ r)) (after_it ∙ ap (λ (n : ℕ). drop n ss) (add-one i)) in omega (arith, p, e, low)

  here_is : named P u ts (drop i ss) ≡ named P u us (s ∷ rest)
  here_is =
      ap (named P u ts) (from_member ss i s is less ∙ ap (λ (n : ℕ). s ∷ drop n ss) (sym (add-one i)) ∙ ap (λ (r : List Stmt). s ∷ r) (sym after_it))
      ∙ sym (named_kept P u ts us k (s ∷ rest) past_here)

  rest_is : named P u us rest ≡ named P u ts (drop (i + 1) ss)
  rest_is = named_kept P u ts us k rest (let p = past_here in omega (arith, p)) ∙ ap (named P u ts) after_it

  module _ (before mid : List Item) (earlier so : Bits) (start here l : Word) (all : Statements) (far : Far P u x ts us before mid earlier so start here l all (named P u ts (drop i ss))) where
    far_here : Far P u x ts us before mid earlier so start here l all (named P u us (s ∷ rest))
    far_here = subst (Far P u x ts us before mid earlier so start here l all) here_is far

    pub fits_here : Fits P (to_write_first P u here l (named P u us (s ∷ rest))) (named P u us (s ∷ rest))
    fits_here = fits_one P u x us here l s rest far_here.fits

    module _ (after : List Item) (between one both : Bits) (b : Both P u x earlier so between) (c : Both P u x so one both)
        (said : Writes P (put_items self x) us vs mid after between one (to_write_first P u here l (named P u us (s ∷ rest)))) where
      pub list_more : ends_first (named P u us (s ∷ rest)) ≡ false → Far P u x ts vs before after earlier both start unlabelled l all (named P u ts (drop (i + 1) ss))
      list_more h = subst (Far P u x ts vs before after earlier both start unlabelled l all) rest_is (far_next P u x ts us vs us before mid after earlier so between one both start here l all rest s h b c far_here said)

      pub list_ends : ends_first (named P u us (s ∷ rest)) ≡ true → Writes P (put_items self x) ts vs before after earlier both (to_write P u start l all) × (true ≡ jumps all)
      list_ends h = far_ends P u x ts us vs before mid after earlier so between one both start here l all (named P u us (s ∷ rest)) h b c far_here said

-- ---- what is behind a member, as a slice of the list

abbrev pub behind : {A : Type 0} → List A → ℕ → List A
behind xs i = take (length xs - (i + 1)) (drop (i + 1) xs)

pub behind_is : {A : Type 0} (xs : List A) (i : ℕ) → behind xs i ≡ drop (i + 1) xs
behind_is xs i = take_all (length xs - (i + 1)) (drop (i + 1) xs) (omega (arith, length-drop (i + 1) xs))

behind_suc : {A : Type 0} (xs : List A) (i : ℕ) → behind xs i ≡ drop (suc i) xs
behind_suc xs i = behind_is xs i ∙ ap (λ (n : ℕ). drop n xs) (add-one i)

pub behind_weight : (ss : List Stmt) (i : ℕ) (s : Stmt) → s ≡ get_or ss i s → i < length ss → weight s + weights (behind ss i) ≤ weights ss
behind_weight ss i s is less = let t = total_from weight ss i s is less in let e = ap weights (behind_suc ss i) in omega (arith, t, e)

pub behind_past : (ss : List Stmt) (i : ℕ) (s : Stmt) → s ≡ get_or ss i s → i < length ss → past_statements (s ∷ behind ss i) ≤ past_statements ss
behind_past ss i s is less = let t = past_from past_stmt ss i s is less in let e = ap (λ (r : List Stmt). past_statements (s ∷ r)) (behind_suc ss i) in omega (arith, t, e)

pub drop_past : {A : Type 0} (xs : List A) (i : ℕ) → length xs ≤ i → drop i xs ≡ []
drop_past [] zero h = refl
drop_past [] (suc i) h = refl
drop_past (x ∷ xs) zero h = absurd (omega arith)
drop_past (x ∷ xs) (suc i) h = drop_past xs i (omega (arith, h))
