-- The set behind `x \in` as it grows, beside the element that it may be instead.
use Rattle.std.proofs.Common.{◌≡◌, ℕ, suc, ◌+◌, ◌^◌, ◌≤◌, ◌<◌, max, min, Bool, true, false, ◌||◌, ◌&&◌, not, nat_le, List, length, Result, Option, Some, None, Ok, Err, IfSome, MatchOption, refl, sym, ap, ◌∙◌, subst, arith, if◌then◌else◌}
use Rattle.std.proofs.lemmas.Bool.{leb-true, leb-false}
use Rattle.tla_token.specs.declared.place.Place.{Place}
use Rattle.tla_token.specs.declared.rule.Rule.{Rule}
use Rattle.tla_token.specs.declared.rule.Rule.TheVariants.{TooDeep}
use Rattle.tla_token.specs.declared.token.Tokens.{Tokens}
use Rattle.tla_tree.specs.declared.op.Op.{Op}
use Rattle.tla_tree.specs.declared.op.Op.TheVariants as op
use Rattle.tla_tree.specs.Tree.{Tree, Word}
use Rattle.tla_tree.specs.Pool.{Keeps}
use Rattle.tla_tree.specs.Lexical.{Token, token}
use Rattle.tla_tree.specs.Nesting.{chain, nesting_in}
use Rattle.tla_tree.specs.Spelling.{Phrase, name, infix_of, applied, is_above, can_be_left, can_be_right}
use Rattle.tla_tree.specs.Reader.{Limit, Readers, Out, Reader, Room, Context, then_read, next, tail, behind, right_of, bound, goes_on, element, on_left, fewest, chain_of, so_far, room, climb_by, climb_if, opened_after}
use Rattle.tla_tree.specs.Whole.{whole_in}
use Rattle.tla_tree.proofs.Opened.{in_climb}
use Rattle.tla_tree.proofs.Whole.{climb_is}
use Rattle.expr_nodes.specs.declared.cursor.Halt.{Halt}
use Rattle.expr_nodes.specs.declared.cursor.Halt.TheVariants as halt
use Rattle.expr_nodes.specs.declared.make.Read.{Read}
use Rattle.expr_operands.specs.declared.read_element.Parted.{Parted}
use Rattle.expr_nodes.specs.declared.shape.Shape.{Shape}
use Rattle.expr_nodes.specs.declared.view.View.{View}
use Rattle.expr_nodes.specs.declared.view.View.TheVariants as view
use Rattle.expr_nodes.specs.ViewSeen.{view_seen}
use Rattle.expr_nodes.specs.ShapeOf.{shape_of, infix_shape, may_have}
use Rattle.expr_nodes.specs.ReadIn.{MayBeIn, Fails, Told}
use Rattle.expr_nodes.specs.Ahead.{ahead}
use Rattle.expr_operands.specs.ShortForms.{IsParted, PartsTo, PartSteps, shape_if}
use Rattle.expr_nodes.proofs.MakeLemmas.{kept_in}
use Rattle.expr_rows.proofs.ReadLinks.{open_at, open_not}
use Rattle.expr_nodes.proofs.ShapeLemmas.{nesting_is, chain_is}

-- ---- what the element groups, beside the set
from_none : (n : ℕ) → 0 ≤ n
from_none n = omega arith

chain_nests : (linked : Bool) (a : Phrase) → (shape_of linked a).chain ≤ (shape_of linked a).nesting
chain_nests linked (infix_of a p o b) = omega arith
chain_nests linked a = from_none _

abbrev IsBeside : Bool → Phrase → Phrase → Type 0
IsBeside linked a e = ((shape_of linked a).chain ≤ (shape_of linked e).nesting + (shape_of linked e).chain) × ((shape_of linked e).chain ≤ (shape_of linked a).chain + 1)

pub may_kept : (linked : Bool) {ts us : List Tree} → Keeps ts us → (w : Option Read) (z : Option Phrase) → MayBeIn linked ts w z → MayBeIn linked us w z
may_kept linked k (Some e) (Some a) h = kept_in k h
may_kept linked k (Some e) None h = absurd h
may_kept linked k None (Some a) h = absurd h
may_kept linked k None None h = tt

pub may_shape : (linked : Bool) (ts : List Tree) (w : Option Read) (z : Option Phrase) → MayBeIn linked ts w z → may_have linked (shape_if w) z
may_shape linked ts (Some e) (Some a) h = h.shape
may_shape linked ts (Some e) None h = absurd h
may_shape linked ts None (Some a) h = absurd h
may_shape linked ts None None h = tt

module _ (linked : Bool) (p : Place) (x : Word) (q : Place) where
  alone : (a : Phrase) (t : Bool) → IfSome (if t then Some (infix_of (name p x) q op.In a) else None) (IsBeside linked a)
  alone a true = (let h = chain_nests linked a in (omega (arith, h), omega arith))
  alone a false = tt

  beside : (a : Phrase) → IfSome (element p x q a) (IsBeside linked a)
  beside (infix_of a r o b) = by (can_be_right op.In (infix_of a r o b)) (element p x q a) (beside a)
    where
      left : (e : Phrase) → IsBeside linked a e → (t : Bool) → IfSome (if t then Some (infix_of e r o b) else None) (IsBeside linked (infix_of a r o b))
      left e h true = (omega (arith, h.0), omega (arith, h.1))
      left e h false = tt

      by : (t : Bool) (l : Option Phrase) → IfSome l (IsBeside linked a) → IfSome (if t then Some (infix_of (name p x) q op.In (infix_of a r o b)) else on_left l r o b) (IsBeside linked (infix_of a r o b))
      by true l h = alone (infix_of a r o b) true
      by false None h = tt
      by false (Some e) h = left e h (can_be_left e r o)
  beside a = alone a (can_be_right op.In a)

  -- it is in the pool, and groups little
  pub element_room : {ts : List Tree} (us : List Tree) {n : Read} {y : Parted} {i : Phrase} → IsParted linked ts p x q n y i → length ts ≤ length us → (m : ℕ) → y.set.shape.chain + m < 2 ^ 31
      → MatchOption y.element (Unit {0}) (λ e. (e.id < length us) × (e.shape.chain + 1 + m < 2 ^ 32))
  element_room {ts} us {n} {y} {i} h l m low = by y.element (element p x q i) h.part (beside i)
    where
      by : (w : Option Read) (z : Option Phrase) → MayBeIn linked ts w z → IfSome z (IsBeside linked i) → MatchOption w (Unit {0}) (λ e. (e.id < length us) × (e.shape.chain + 1 + m < 2 ^ 32))
      by (Some e) (Some a) k b =
          let c : (shape_of linked a).chain ≡ e.shape.chain = ap (λ (s : Shape). s.chain) k.shape in
          let d : (shape_of linked i).chain ≡ y.set.shape.chain = ap (λ (s : Shape). s.chain) h.set.shape in
          (omega (arith, l, k.below), omega (arith, low, b.1, c, d))
      by (Some e) None k b = absurd k
      by None z k b = tt

  pub parted_kept : {ts us : List Tree} {n : Read} {y : Parted} {i : Phrase} → Keeps ts us → IsParted linked ts p x q n y i → IsParted linked us p x q n y i
  parted_kept {ts} {us} {n} {y} {i} k h = record { named = kept_in k h.named; set = kept_in k h.set; part = may_kept _ k y.element (element p x q i) h.part }

  pub shape_told : {ts : List Tree} {n : Read} {y : Parted} {i : Phrase} (w : Option Shape) → w ≡ shape_if y.element → IsParted linked ts p x q n y i → may_have linked w (element p x q i)
  shape_told {ts} {n} {y} {i} w e h = subst (λ (w : Option Shape). may_have linked w (element p x q i)) (sym e) (may_shape _ ts y.element (element p x q i) h.part)

  -- where it goes on, so few are grouped so far
  module _ (f : Limit → Readers) (b : ℕ) (i : Phrase) (r : Place) (o : Op) where
    abbrev IsLow : ℕ → Type 0
    IsLow k = k < b → (shape_of linked i).chain ≤ b + b

    low_element : (z : Option Phrase) → IfSome z (IsBeside linked i) → IfSome (chain_of (room linked f (Some b)) z r o) IsLow
    low_element None h = tt
    low_element (Some e) h = by (not (is_above op.In (applied o))) (can_be_left e r o) (nat_le (nesting_in linked e + 0) b) refl
      where
        by : (t u w : Bool) → nat_le (nesting_in linked e + 0) b ≡ w → IfSome (if t && (u && w) then Some (chain e) else None) IsLow
        by true true true g = λ l. (let k = leb-true (nesting_in linked e + 0) b g in omega (arith, k, l, h.0, nesting_is linked e, chain_is linked e))
        by true true false g = tt
        by true false w g = tt
        by false u w g = tt

    low_fewest : (t : Bool) (w : Option ℕ) → IfSome w IsLow → IfSome (fewest (if t || not true then Some (chain i) else None) w) IsLow
    low_fewest true None h = λ l. omega (arith, l, chain_is linked i)
    low_fewest true (Some n) h = by (nat_le b n) refl
      where
        by : (g : Bool) → nat_le b n ≡ g → min (chain i) n < b → (shape_of linked i).chain ≤ b + b
        by true e = λ l. (let k = leb-true b n e in omega (arith, k, l, chain_is linked i))
        by false e = λ l. h (leb-false b n e)
    low_fewest false w h = h

    pub low_so_far : IfSome (so_far (room linked f (Some b)) (behind p x q) i r o) IsLow
    low_so_far = low_fewest (nat_le (nesting_in linked i + 0) b) (chain_of (room linked f (Some b)) (element p x q i) r o) (low_element (element p x q i) (beside i))

    pub low_at : (w : Option ℕ) → w ≡ so_far (room linked f (Some b)) (behind p x q) i r o → (d : ℕ) → MatchOption w (⊥) (λ k. d + suc k ≡ b) → (shape_of linked i).chain ≤ b + b
    low_at w e d h = by w h (subst (λ (w : Option ℕ). IfSome w IsLow) (sym e) low_so_far)
      where
        by : (w : Option ℕ) → MatchOption w (⊥) (λ k. d + suc k ≡ b) → IfSome w IsLow → (shape_of linked i).chain ≤ b + b
        by (Some k) h l = l (omega (arith, h))
        by None h l = absurd h

pub less_by : (b d : ℕ) (w : Option ℕ) → MatchOption w (⊥) (λ k. d + suc k ≡ b) → d < b
less_by b d (Some k) h = omega (arith, h)
less_by b d None h = absurd h

pub grown_small : (s : Shape) (o : Op) (t y : Shape) (b d : ℕ) → y ≡ infix_shape s o t → s.nesting ≤ b + b + b + 1 → s.chain ≤ b + b → t.nesting ≤ d → d < b → y.nesting ≤ b + b + b + 1
grown_small s o t y b d e h k l m = (let n : y.nesting ≡ max s.nesting (s.chain + 1 + t.nesting) = ap (λ (s : Shape). s.nesting) e in omega (arith, n, h, k, l, m))

-- ---- where a form opens after the fewest that it can
opened_by : {linked : Bool} (b d : ℕ) (w : Option ℕ) → MatchOption w (⊥) (λ k. d + suc k ≡ b) → (g : Room → Readers → Reader Phrase) (ts : List Token) → opened_after (room linked (whole_in linked) (Some b)) w g ts ≡ g (room linked (whole_in linked) (Some d)) (whole_in linked (Some d)) ts
opened_by {linked} b d (Some k) h g ts = open_at d k b h g ts
opened_by {linked} b d None h g ts = absurd h

opened_too_deep : (linked : Bool) (b : ℕ) (w : Option ℕ) → MatchOption w (Unit {0}) (λ k. b ≤ k) → (g : Room → Readers → Reader Phrase) (ts : List Token) → opened_after (room linked (whole_in linked) (Some b)) w g ts ≡ Err (TooDeep, ts)
opened_too_deep linked b (Some k) h g ts = open_not _ k b h g ts
opened_too_deep linked b None h g ts = refl

-- ---- steps, wherever the phrase is
module _ (linked : Bool) (bytes : List ℕ) (b e : ℕ) (c : Context) (i : Phrase) (ts : List Token) (p : Place) (v : View) (n : token p (view_seen bytes v) ≡ next e ts) where
  at_next : (whole_in linked (Some b)).climb e c i ts ≡ climb_by (room linked (whole_in linked) (Some b)) (whole_in linked (Some b)) e c i p (view_seen bytes v) ts
  at_next = climb_is linked (Some b) e c i ts ∙ ap (λ (t : Token). climb_by (room linked (whole_in linked) (Some b)) (whole_in linked (Some b)) e c i t.place t.kind ts) (sym n)

  pub any_other : ((o : Op) → v ≡ view.Sign o → ⊥) → (whole_in linked (Some b)).climb e c i ts ≡ Ok (i, ts)
  any_other d = at_next ∙ by v d
    where
      by : (v : View) → ((o : Op) → v ≡ view.Sign o → ⊥) → climb_by (room linked (whole_in linked) (Some b)) (whole_in linked (Some b)) e c i p (view_seen bytes v) ts ≡ Ok (i, ts)
      by (view.Sign o) d = absurd (d o refl)
      by (view.Word s) d = refl
      by (view.Reserved s) d = refl
      by (view.Number k) d = refl
      by (view.BigNumber s) d = refl
      by (view.Quote s) d = refl
      by (view.Constant k) d = refl
      by (view.Mark m) d = refl
      by (view.Key k) d = refl
      by (view.Other s) d = refl

  module _ (o : Op) (is : v ≡ view.Sign o) where
    at_sign : (t : Bool) → goes_on (bound c) i p o ≡ t → (whole_in linked (Some b)).climb e c i ts ≡ climb_if t (room linked (whole_in linked) (Some b)) (whole_in linked (Some b)) e c i p o ts
    at_sign t g =
        at_next ∙ ap (λ (v : View). climb_by (room linked (whole_in linked) (Some b)) (whole_in linked (Some b)) e c i p (view_seen bytes v) ts) is
        ∙ ap (λ (t : Bool). climb_if t (room linked (whole_in linked) (Some b)) (whole_in linked (Some b)) e c i p o ts) g

    pub any_stops : goes_on (bound c) i p o ≡ false → (whole_in linked (Some b)).climb e c i ts ≡ Ok (i, ts)
    any_stops g = at_sign false g

    module _ (g : goes_on (bound c) i p o ≡ true) (w : Option ℕ) (at : w ≡ so_far (room linked (whole_in linked) (Some b)) c i p o) where
      any_goes : (whole_in linked (Some b)).climb e c i ts ≡ opened_after (room linked (whole_in linked) (Some b)) w (in_climb (whole_in linked (Some b)) e c i p o) ts
      any_goes = at_sign true g ∙ ap (λ (w : Option ℕ). opened_after (room linked (whole_in linked) (Some b)) w (in_climb (whole_in linked (Some b)) e c i p o) ts) (sym at)

      pub any_deep : MatchOption w (Unit {0}) (λ k. b ≤ k) → (whole_in linked (Some b)).climb e c i ts ≡ Err (TooDeep, ts)
      any_deep h = any_goes ∙ opened_too_deep _ b w h (in_climb (whole_in linked (Some b)) e c i p o) ts

      pub any_more : (d : ℕ) → MatchOption w (⊥) (λ k. d + suc k ≡ b) → (us : List Token) → us ≡ tail ts
          → (whole_in linked (Some b)).climb e c i ts ≡ then_read ((whole_in linked (Some d)).expr e (right_of o) us) (λ s. (whole_in linked (Some b)).climb e c (infix_of i p o s))
      any_more d h us t =
          any_goes ∙ opened_by b d w h (in_climb (whole_in linked (Some b)) e c i p o) ts
          ∙ ap (λ (us : List Token). then_read ((whole_in linked (Some d)).expr e (right_of o) us) (λ s. (whole_in linked (Some b)).climb e c (infix_of i p o s))) (sym t)

-- ---- refused in a step, and steps one after the other
module _ (linked : Bool) (v : Tokens) (new : List Tree) (p : Place) (x : Word) (q : Place) (n : Read) (on : Phrase → Reader Phrase) where
  pub part_fails : (a : Phrase) (ts : List Token) (o : Out Phrase) {r : Result (Option (Parted × ℕ)) Halt} {w u : Halt} → r ≡ Err w → w ≡ u → Fails u o → PartSteps linked v new p x q n on a ts r o
  part_fails a ts o {r} {w} {u} i j h = subst (λ (r : Result (Option (Parted × ℕ)) Halt). PartSteps linked v new p x q n on a ts r o) (sym i) (subst (λ (w : Halt). Fails w o) (sym j) h)

pub refused_at : {A : Type 0} (r : Rule) (ts : List Token) (o : Out A) (u : Halt) → u ≡ halt.Refused r (length ts) → o ≡ Err (r, ts) → Fails u o
refused_at r ts o u k h = subst (λ (u : Halt). Fails u o) (sym k) (subst (Fails (halt.Refused r (length ts))) (sym h) (refl, refl))

pub parts_on : {linked : Bool} (v : Tokens) {old new : List Tree} {p : Place} {x : Word} {q : Place} {n : Read} {y z : Parted} {i j : ℕ} (on : Phrase → Reader Phrase) {o : Out Phrase}
    → PartsTo linked v old p x q n y i on o → ((a : Phrase) → IsParted linked old p x q n y a → PartsTo linked v new p x q n z j on (on a (ahead v i))) → PartsTo linked v new p x q n z j on o
parts_on {linked} v on h k = (let g = k h.what h.told in record { what = g.what; told = g.told; is = h.is ∙ g.is })

pub told_same : {X A : Type 0} (P : X → A → Type 0) (f : X → List Token) (r : Result X Halt) (o p : Out A) → p ≡ o → Told P f r o → Told P f r p
told_same P f r o p e h = subst (λ (o : Out _). Told P f r o) (sym e) h

pub told_weaker : {X A : Type 0} (P Q : X → A → Type 0) (f : X → List Token) (r : Result X Halt) (o : Out A) → ((x : X) (a : A) → P x a → Q x a) → Told P f r o → Told Q f r o
told_weaker P Q f (Ok x) o g h = record { what = h.what; is = h.is; told = g x h.what h.told }
told_weaker P Q f (Err e) o g h = h
