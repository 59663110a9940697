-- What statements make of a path: of each list either every path goes through it, having assigned a little more, or none does; and what comes of labels
-- inside it is the same for every path.
use Rattle.std.proofs.Common.{◌≡◌, List, [], ◌++◌, Bool, true, false, ◌||◌, Option, Some, None, refl, sym, ◌∙◌, ap}
use Rattle.std.specs.List.{list_any}
use Rattle.std.specs.Option.{option_map}
use Rattle.std.proofs.lemmas.List.Folds.{list_any-append}
use Rattle.std.proofs.Math.Bool.{or_self}
use Rattle.tla_tree.specs.Tree.{Word}
use Rattle.pcal_tree.specs.Algorithm.{Statement, assign, await, print, assert, skip, branch, either, with, while, goto, macro, call, return, Statements, done, then, mark, Branches, no_branches, or}
use Rattle.pcal_tree.specs.Paths.{Effects, Path, joined, again, rounds, after_one, after, after_some}
use Rattle.pcal_tree.proofs.EffectLaws.{Alike}
use Rattle.pcal_tree.proofs.SetLaws.{or_both}

-- ---- what a test sees of a path

-- whether a name passes the test, where a path is
abbrev pub Seen : Type 0
Seen = Option Bool

abbrev pub seen : (Word → Bool) → Path → Seen
seen f p = option_map (list_any f) p

-- by one path or the other
abbrev pub one_of : Seen → Seen → Seen
one_of None y = y
one_of (Some a) None = Some a
one_of (Some a) (Some b) = Some (a || b)

-- by the one and then the other
abbrev pub past : Seen → Seen → Seen
past None y = None
past (Some a) None = None
past (Some a) (Some b) = Some (a || b)

pub seen_alike : (p q : Path) → ((f : Word → Bool) → seen f p ≡ seen f q) → Alike p q
seen_alike None None e = tt
seen_alike (Some xs) (Some ys) e = λ f. some_is (list_any f xs) (list_any f ys) (e f)
  where
    some_is : (a b : Bool) → Some a ≡ Some b → a ≡ b
    some_is a b e = cc
seen_alike None (Some ys) e = absurd (none_some (list_any (λ w. true) ys) (e (λ w. true)))
  where
    none_some : (a : Bool) → None ≡ Some a → ⊥
    none_some a e = cc
seen_alike (Some xs) None e = absurd (some_none (list_any (λ w. true) xs) (e (λ w. true)))
  where
    some_none : (a : Bool) → Some a ≡ None → ⊥
    some_none a e = cc

pub seen_joined : (f : Word → Bool) (p q : Path) → seen f (joined p q) ≡ one_of (seen f p) (seen f q)
seen_joined f None q = refl
seen_joined f (Some xs) None = refl
seen_joined f (Some xs) (Some ys) = ap Some (list_any-append f xs ys)

-- so much more is assigned
abbrev pub moved : Path → Path → Path
moved None p = None
moved (Some ts) p = option_map (λ xs. ts ++ xs) p

pub seen_moved : (f : Word → Bool) (t p : Path) → seen f (moved t p) ≡ past (seen f t) (seen f p)
seen_moved f None p = refl
seen_moved f (Some ts) None = refl
seen_moved f (Some ts) (Some xs) = ap Some (list_any-append f ts xs)

-- ---- laws of what is seen

one_of_none : (x : Seen) → one_of x None ≡ x
one_of_none None = refl
one_of_none (Some a) = refl

past_none : (x : Seen) → past x None ≡ None
past_none None = refl
past_none (Some a) = refl

one_of_all : (x y z : Seen) → one_of (one_of x y) z ≡ one_of x (one_of y z)
one_of_all None y z = refl
one_of_all (Some a) None z = refl
one_of_all (Some a) (Some b) None = refl
one_of_all (Some a) (Some b) (Some c) = ap Some (or_both a b c)

past_all : (x y z : Seen) → past (past x y) z ≡ past x (past y z)
past_all None y z = refl
past_all (Some a) None z = refl
past_all (Some a) (Some b) None = refl
past_all (Some a) (Some b) (Some c) = ap Some (or_both a b c)

swapped : (x y : Seen) → one_of x y ≡ one_of y x
swapped None None = refl
swapped None (Some b) = refl
swapped (Some a) None = refl
swapped (Some true) (Some true) = refl
swapped (Some true) (Some false) = refl
swapped (Some false) (Some true) = refl
swapped (Some false) (Some false) = refl

past_each : (s x a : Seen) → past s (one_of x a) ≡ one_of (past s x) (past s a)
past_each None x a = refl
past_each (Some c) None a = refl
past_each (Some c) (Some b) None = refl
past_each (Some true) (Some b) (Some a) = refl
past_each (Some false) (Some b) (Some a) = refl

each_past : (t s x : Seen) → past (one_of t s) x ≡ one_of (past t x) (past s x)
each_past None s x = refl
each_past (Some a) None None = refl
each_past (Some a) None (Some c) = refl
each_past (Some a) (Some b) None = refl
each_past (Some true) (Some b) (Some c) = refl
each_past (Some false) (Some true) (Some true) = refl
each_past (Some false) (Some true) (Some false) = refl
each_past (Some false) (Some false) (Some c) = sym (ap Some (or_self c))

mixed : (w x y z : Seen) → one_of (one_of w x) (one_of y z) ≡ one_of (one_of w y) (one_of x z)
mixed w x y z =
    one_of_all w x (one_of y z) ∙ ap (one_of w) (sym (one_of_all x y z) ∙ ap (λ (u : Seen). one_of u z) (swapped x y) ∙ one_of_all y x z)
    ∙ sym (one_of_all w y (one_of x z))

-- ---- shapes

-- what comes of any path: what is kept of it has assigned this more, and besides there is what comes of labels inside
pub record Shape (g : Path → Path) : Type 0 where
  pub kept : Path
  pub fresh : Path
  pub is : (f : Word → Bool) (p : Path) → seen f (g p) ≡ one_of (past (seen f kept) (seen f p)) (seen f fresh)

-- nothing but what comes of labels inside
cut : (q : Path) → Shape (λ p. q)
cut q = record { kept = None; fresh = q; is = λ f p. refl }

unchanged : Shape (λ p. p)
unchanged = record { kept = Some []; fresh = None; is = λ f p. by (seen f p) }
  where
    by : (x : Seen) → x ≡ one_of (past (Some false) x) None
    by None = refl
    by (Some a) = refl

longer : (ts : List Word) → Shape (λ p. option_map (λ xs. ts ++ xs) p)
longer ts = record { kept = Some ts; fresh = None; is = λ f p. seen_moved f (Some ts) p ∙ sym (one_of_none (past (seen f (Some ts)) (seen f p))) }

in_turn : (g h : Path → Path) → Shape g → Shape h → Shape (λ p. h (g p))
in_turn g h m n = record {
  kept = moved n.kept m.kept;
  fresh = joined (moved n.kept m.fresh) n.fresh;
  is = λ f p.
      let s = seen f n.kept in
      let t = seen f m.kept in
      let x = seen f p in
      let a = seen f m.fresh in
      let b = seen f n.fresh in
      n.is f (g p)
      ∙ ap (λ (u : Seen). one_of (past s u) b) (m.is f p)
      ∙ ap (λ (u : Seen). one_of u b) (past_each s (past t x) a)
      ∙ one_of_all (past s (past t x)) (past s a) b
      ∙ (λ i. one_of ((sym (past_all s t x) ∙ ap (λ (u : Seen). past u x) (sym (seen_moved f n.kept m.kept))) i)
      ((ap (λ (u : Seen). one_of u b) (sym (seen_moved f n.kept m.fresh)) ∙ sym (seen_joined f (moved n.kept m.fresh) n.fresh)) i));
}

both_ways : (g h : Path → Path) → Shape g → Shape h → Shape (λ p. joined (g p) (h p))
both_ways g h m n = record {
  kept = joined m.kept n.kept;
  fresh = joined m.fresh n.fresh;
  is = λ f p.
      let t = seen f m.kept in
      let s = seen f n.kept in
      let x = seen f p in
      let a = seen f m.fresh in
      let b = seen f n.fresh in
      seen_joined f (g p) (h p)
      ∙ (λ i. one_of (m.is f p i) (n.is f p i))
      ∙ mixed (past t x) a (past s x) b
      ∙ (λ i. one_of ((sym (each_past t s x) ∙ ap (λ (u : Seen). past u x) (sym (seen_joined f m.kept n.kept))) i) (sym (seen_joined f m.fresh n.fresh) i));
}

-- ---- rounds

-- from a path that is there
round_some : (t a : Seen) (x : Bool) → one_of (one_of (past t (Some x)) a) (Some x) ≡ one_of (past (one_of (Some false) (one_of t a)) (Some x)) (one_of (past t a) a)
round_some None None x = refl
round_some None (Some true) x = refl
round_some None (Some false) true = refl
round_some None (Some false) false = refl
round_some (Some true) None x = refl
round_some (Some false) None x = ap Some (or_self x)
round_some (Some true) (Some a) x = refl
round_some (Some false) (Some true) true = refl
round_some (Some false) (Some true) false = refl
round_some (Some false) (Some false) true = refl
round_some (Some false) (Some false) false = refl

module _ (g : Path → Path) (m : Shape g) where
  -- where no path is, one may begin at a label inside
  round_none : (f : Word → Bool) (o : Path) → g None ≡ o → seen f (again g o) ≡ one_of (past (seen f m.kept) (seen f m.fresh)) (seen f m.fresh)
  round_none f None e = by (seen f m.kept) (seen f m.fresh) (ap (seen f) (sym e) ∙ m.is f None)
    where
      by : (t a : Seen) → None ≡ one_of (past t None) a → None ≡ one_of (past t a) a
      by None a k = k
      by (Some b) None k = refl
      by (Some b) (Some c) k = cc
  round_none f (Some ys) e = m.is f (Some ys) ∙ ap (λ (u : Seen). one_of (past (seen f m.kept) u) (seen f m.fresh)) (there (seen f m.kept) (seen f m.fresh) (ap (seen f) (sym e) ∙ m.is f None))
    where
      there : (t a : Seen) → seen f (Some ys) ≡ one_of (past t None) a → seen f (Some ys) ≡ a
      there t a k = k ∙ ap (λ (u : Seen). one_of u a) (past_none t)

  pub any_rounds : Shape (λ p. rounds joined g p)
  any_rounds = record { kept = joined (Some []) (joined m.kept m.fresh); fresh = joined (moved m.kept m.fresh) m.fresh; is = λ f p. by f p }
    where
      parts : (f : Word → Bool) (x : Seen)
          → one_of (past (one_of (Some false) (one_of (seen f m.kept) (seen f m.fresh))) x) (one_of (past (seen f m.kept) (seen f m.fresh)) (seen f m.fresh))
          ≡ one_of (past (seen f (joined (Some []) (joined m.kept m.fresh))) x) (seen f (joined (moved m.kept m.fresh) m.fresh))
      parts f x = λ i.
          one_of (past (sym (seen_joined f (Some []) (joined m.kept m.fresh) ∙ ap (one_of (Some false)) (seen_joined f m.kept m.fresh)) i) x)
          (sym (seen_joined f (moved m.kept m.fresh) m.fresh ∙ ap (λ (u : Seen). one_of u (seen f m.fresh)) (seen_moved f m.kept m.fresh)) i)

      by : (f : Word → Bool) (p : Path) → seen f (rounds joined g p) ≡ one_of (past (seen f (joined (Some []) (joined m.kept m.fresh))) (seen f p)) (seen f (joined (moved m.kept m.fresh) m.fresh))
      by f None =
          round_none f (g None) refl
          ∙ sym (ap (λ (u : Seen). one_of u (one_of (past (seen f m.kept) (seen f m.fresh)) (seen f m.fresh))) (past_none (one_of (Some false) (one_of (seen f m.kept) (seen f m.fresh)))))
          ∙ parts f None
      by f (Some xs) =
          seen_joined f (g (Some xs)) (Some xs)
          ∙ ap (λ (u : Seen). one_of u (seen f (Some xs))) (m.is f (Some xs))
          ∙ round_some (seen f m.kept) (seen f m.fresh) (list_any f xs)
          ∙ parts f (Some (list_any f xs))

-- ---- statements

module _ (E : Effects) where
  mutual
    one_shape : (st : Statement) (l : Bool) → Shape (λ p. after_one E st l p)
    one_shape (branch e a b) l = both_ways (λ p. after E a false p) (λ p. after E b false p) (list_shape a false) (list_shape b false)
    one_shape (either bs) l = some_shape bs
    one_shape (with bs b) l = list_shape b false
    one_shape (while e b) true = unchanged
    one_shape (while e b) false = any_rounds (λ p. after E b false p) (list_shape b false)
    one_shape (goto n) l = cut None
    one_shape (call n ts) l = cut None
    one_shape return l = cut None
    one_shape (assign ms) l = longer (E (assign ms)).variables
    one_shape (await e) l = longer (E (await e)).variables
    one_shape (print e) l = longer (E (print e)).variables
    one_shape (assert e) l = longer (E (assert e)).variables
    one_shape skip l = longer (E skip).variables
    one_shape (macro m ts) l = longer (E (macro m ts)).variables

    pub list_shape : (b : Statements) (l : Bool) → Shape (λ p. after E b l p)
    list_shape done l = unchanged
    list_shape (mark n k rest) l = cut (after E rest true (Some []))
    list_shape (then at st rest) l = in_turn (λ p. after_one E st l p) (λ p. after E rest false p) (one_shape st l) (list_shape rest false)

    some_shape : (bs : Branches) → Shape (λ p. after_some E bs p)
    some_shape no_branches = cut None
    some_shape (or b bs) = both_ways (λ p. after E b false p) (λ p. after_some E bs p) (list_shape b false) (some_shape bs)
