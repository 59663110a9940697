-- Lists of statements, one statement after another: what is left of them, and which of them can be written.
use Rattle.std.proofs.Common.{◌≡◌, ℕ, suc, List, [], ◌∷◌, Bool, true, false, cond, ◌||◌, bytes_eq, refl, sym, ap, subst, ◌∙◌}
use Rattle.tla_token.specs.Signs.{is_among}
use Rattle.tla_tree.specs.Tree.{Word, Tree}
use Rattle.pcal_tree.specs.Algorithm.{Span, Binds, Statement, branch, either, with, Statements, done, then, mark, Branches, Routine}
use Rattle.pcal_tree.specs.Run.{unlabelled, label_of}
use Rattle.pcal_tree.specs.Expand.{graft_all, followed_by}
use Rattle.pcal_tree.specs.Program.{Program}
use Rattle.pcal_tree.specs.Variables.{vars}
use Rattle.name_bits.specs.declared.bits.Bits.{Bits}
use Rattle.name_bits.specs.NamesIn.{has, chosen, names_in}
use Rattle.action_builder.specs.Assigned.{Names}
use Rattle.action_builder.specs.Settled.{WrittenJumps, jumps_one, jumps, jumps_some, settled}
use Rattle.action_builder.specs.laws.Ready.{Settled}
use Rattle.step_forms.specs.LeftOver.{left_over}
use Rattle.step_forms.proofs.LeftLaws.{jumping_left, still_left, settled_left, put_followed}
use Rattle.step_forms.proofs.WrittenLaws.{Unmarked}
use Rattle.step_items.specs.Branching.{to_end}
use Rattle.step_forms.specs.PartsAssigned.{AllInParts}
use Rattle.step_items.specs.Writing.{jumps_of, own_of, first_part, ends_first, branch_part, either_part, with_part, to_write, to_finish, Plain}

-- ---- by a test

pub twice : {A : Type 0} (b : Bool) (x z y : A) → cond b (cond b x z) y ≡ cond b x y
twice true x z y = refl
twice false x z y = refl

pub under : {A B : Type 0} (f : A → B) (b : Bool) (x y : A) → cond b (f x) (f y) ≡ f (cond b x y)
under f true x y = refl
under f false x y = refl

-- ---- sets

or_both : (h a b : Bool) → (h || (a || b)) ≡ ((h || a) || (h || b))
or_both true a b = refl
or_both false a b = refl

or_first : (h a b : Bool) → (h || (a || b)) ≡ ((h || a) || b)
or_first true a b = refl
or_first false a b = refl

or_second : (h a b : Bool) → (h || (a || b)) ≡ (a || (h || b))
or_second true true b = refl
or_second true false b = refl
or_second false a b = refl

chosen_or : (p q r : ℕ → Bool) → ((i : ℕ) → r i ≡ (p i || q i)) → (n : ℕ) (ws : List Word) (x : Word) → is_among (chosen r n ws) x ≡ (is_among (chosen p n ws) x || is_among (chosen q n ws) x)
chosen_or p q r h n [] x = refl
chosen_or p q r h n (w ∷ ws) x = ap (λ b. is_among (cond b (w ∷ chosen r (suc n) ws) (chosen r (suc n) ws)) x) (h n) ∙ by (chosen_or p q r h (suc n) ws x) (p n) (q n)
  where
    by : is_among (chosen r (suc n) ws) x ≡ (is_among (chosen p (suc n) ws) x || is_among (chosen q (suc n) ws) x) → (a b : Bool)
        → is_among (cond (a || b) (w ∷ chosen r (suc n) ws) (chosen r (suc n) ws)) x
        ≡ (is_among (cond a (w ∷ chosen p (suc n) ws) (chosen p (suc n) ws)) x || is_among (cond b (w ∷ chosen q (suc n) ws) (chosen q (suc n) ws)) x)
    by ih true true = ap (λ b. bytes_eq w x || b) ih ∙ or_both (bytes_eq w x) (is_among (chosen p (suc n) ws) x) (is_among (chosen q (suc n) ws) x)
    by ih true false = ap (λ b. bytes_eq w x || b) ih ∙ or_first (bytes_eq w x) (is_among (chosen p (suc n) ws) x) (is_among (chosen q (suc n) ws) x)
    by ih false true = ap (λ b. bytes_eq w x || b) ih ∙ or_second (bytes_eq w x) (is_among (chosen p (suc n) ws) x) (is_among (chosen q (suc n) ws) x)
    by ih false false = ih

-- the names of two sets together
pub union_names : (vs : List Word) (a b c : Bits) → ((i : ℕ) → has c i ≡ (has a i || has b i)) → (x : Word) → is_among (names_in vs c) x ≡ (is_among (names_in vs a) x || is_among (names_in vs b) x)
union_names vs a b c h x = chosen_or (has a) (has b) (has c) h 0 vs x

-- ---- the first statement of a list

module _ (W : WrittenJumps) (here l : Word) where
  pub first_branch : (s : Span) (t : Tree) (a b rest : Statements) → first_part W here l (then s (branch t a b) rest) ≡ branch_part W (label_of rest l) s t a b
  first_branch s t a b rest = twice (jumps a || jumps b) _ _ _

  pub first_either : (s : Span) (bs : Branches) (rest : Statements) → first_part W here l (then s (either bs) rest) ≡ either_part W (label_of rest l) s bs
  first_either s bs rest = twice (jumps_some bs) _ _ _

  pub first_with : (s : Span) (bs : Binds) (b rest : Statements) → first_part W here l (then s (with bs b) rest) ≡ with_part W (label_of rest l) s bs b
  first_with s bs b rest = twice (jumps b) _ _ _ ∙ under (λ (c : Statements). then s (with bs c) done) (jumps b) (settled W unlabelled (label_of rest l) b) b

  -- one that ends the step, and one that does not
  pub first_ends : (ss : Statements) → ends_first ss ≡ true → first_part W here l ss ≡ left_over W here l ss
  first_ends done h = cc
  first_ends (then s st rest) h = (λ i. cond (h i) (settled W here l (then s st rest)) (then s st done)) ∙ sym (λ i. cond (h i || jumps rest) (settled W here l (then s st rest)) (then s st rest))
  first_ends (mark m k rest) h = refl

  pub first_stays : (s : Span) (st : Statement) (rest : Statements) → jumps_one st ≡ false → first_part W here l (then s st rest) ≡ then s st done
  first_stays s st rest h = λ i. cond (h i) (settled W here l (then s st rest)) (then s st done)

pub ends_jumps : (ss : Statements) → ends_first ss ≡ true → jumps ss ≡ true
ends_jumps done h = cc
ends_jumps (then s st rest) h = ap (λ b. b || jumps rest) h
ends_jumps (mark m k rest) h = refl

-- ---- what can be written

settled_parts : (V : Names) (a b : Statements) → Settled V (followed_by a b) → Settled V a × Settled V b
settled_parts V done b h = (tt, h)
settled_parts V (then s st a) b h = (let k = settled_parts V a b h.1 in ((h.0, k.0), k.1))
settled_parts V (mark l k a) b h = absurd h

inner_parts : (a b : Statements) → AllInParts (followed_by a b) → AllInParts a × AllInParts b
inner_parts done b h = (tt, h)
inner_parts (then s st a) b h = (let k = inner_parts a b h.1 in ((h.0, k.0), k.1))
inner_parts (mark l k a) b h = inner_parts a b h

pub plain_followed : (P : Program) (a b : Statements) → Plain P (followed_by a b) → Plain P a × Plain P b
plain_followed P a b h =
    let s = settled_parts (is_among (vars P)) a b h.settled in
    let p = inner_parts a b h.parts in
    (record { settled = s.0; parts = p.0 }, record { settled = s.1; parts = p.1 })

pub settled_unmarked : (V : Names) (a : Statements) → Settled V a → Unmarked a
settled_unmarked V done h = tt
settled_unmarked V (then s st a) h = settled_unmarked V a h.1
settled_unmarked V (mark l k a) h = h

pub plain_done : (P : Program) → Plain P done
plain_done P = record { settled = tt; parts = tt }

-- ---- a list and the jump behind it

module _ (P : Program) (u : Routine) (here l : Word) (ss : Statements) where
  pub finish_ends : jumps ss ≡ true → to_finish P u here l ss ≡ to_write P u here l ss
  finish_ends h = sym (ap (graft_all (own_of P)) (jumping_left (jumps_of P u) here l ss h))

  pub finish_more : jumps ss ≡ false → to_finish P u here l ss ≡ followed_by (to_write P u here l ss) (graft_all (own_of P) ((jumps_of P u).goto l))
  finish_more h =
      ap (graft_all (own_of P)) (settled_left (jumps_of P u) here l ss ∙ ap (λ b. cond b (left_over (jumps_of P u) here l ss) (followed_by (left_over (jumps_of P u) here l ss) ((jumps_of P u).goto l))) h)
      ∙ put_followed (own_of P) (left_over (jumps_of P u) here l ss) ((jumps_of P u).goto l)

  -- a list that does not jump stays
  pub write_still : jumps ss ≡ false → to_write P u here l ss ≡ graft_all (own_of P) ss
  write_still h = ap (graft_all (own_of P)) (still_left (jumps_of P u) here l ss h)

  -- where it ends its step or another does
  pub end_finish : (J : Bool) → J ≡ true → to_end P u J here l ss ≡ to_finish P u here l ss
  end_finish J h = ap (λ b. graft_all (own_of P) (cond b (settled (jumps_of P u) here l ss) ss)) h

  pub end_still : (J : Bool) → J ≡ false → jumps ss ≡ false → to_end P u J here l ss ≡ to_write P u here l ss
  end_still J h k = ap (λ b. graft_all (own_of P) (cond b (settled (jumps_of P u) here l ss) ss)) h ∙ sym (write_still k)

  finish_plain : (b : Bool) → jumps ss ≡ b → Plain P (to_finish P u here l ss) → Plain P (to_write P u here l ss)
  finish_plain true e h = subst (Plain P) (finish_ends e) h
  finish_plain false e h = (plain_followed P (to_write P u here l ss) (graft_all (own_of P) ((jumps_of P u).goto l)) (subst (Plain P) (finish_more e) h)).0

  -- what is left of it can be written, if it can with a jump behind it
  pub write_plain : Plain P (to_finish P u here l ss) → Plain P (to_write P u here l ss)
  write_plain h = finish_plain (jumps ss) refl h

  pub end_plain : (J : Bool) → (jumps ss ≡ true → J ≡ true) → Plain P (to_end P u J here l ss) → Plain P (to_write P u here l ss)
  end_plain J k h = by J refl (jumps ss) refl
    where
      by : (a : Bool) → J ≡ a → (b : Bool) → jumps ss ≡ b → Plain P (to_write P u here l ss)
      by true e b f = write_plain (subst (Plain P) (end_finish J e) h)
      by false e true f = cc (k f)
      by false e false f = subst (Plain P) (end_still J e f) h
