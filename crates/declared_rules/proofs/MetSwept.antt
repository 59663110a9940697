-- That the names of all marked expressions are added, from the greatest number down; and what is known at the start and in the end.
use Rattle.std.proofs.Common.{◌≡◌, ℕ, zero, suc, ◌<◌, ◌≤◌, List, [], ◌∷◌, ◌++◌, length, replicate, Bool, true, false, ◌&&◌, ◌||◌, refl, sym, ap, ◌∙◌, arith, append-nil}
use Rattle.std.specs.List.{flat_map}
use Rattle.std.proofs.lemmas.List.{map-append}
use Rattle.std.proofs.Math.Bool.{or_comm}
use Rattle.tla_token.specs.Signs.{is_among}
use Rattle.tla_token.specs.declared.place.Place.{Place}
use Rattle.tla_tree.specs.declared.op.Binder.{Binder}
use Rattle.tla_tree.specs.Tree.{Name, Word, Form, binding, local, Tree, node, words}
use Rattle.tla_tree.specs.Pool.{at, trees_at}
use Rattle.pcal_tree.specs.BoundNames.{all_of, lists_of, lists_in}
use Rattle.pcal_tree.proofs.SetLaws.{or_both}
use Rattle.declared_rules.specs.declared.met.Met.{Met}
use Rattle.written_names.specs.Giving.{SameNames}
use Rattle.declared_rules.specs.Met.{bound_words, binds, bound_by, holds, Adds, expr_words}
use Rattle.declared_rules.proofs.MetWalks.{among_both, or_nothing, adds_then, adds_as}
use Rattle.declared_rules.proofs.MetBodies.{bound_both, trees_words}

-- ---- one expression

words_grouped : (gs : List (List Name)) → flat_map words gs ≡ words (all_of gs)
words_grouped [] = refl
words_grouped (g ∷ gs) = ap (λ l. words g ++ l) (words_grouped gs) ∙ sym (map-append (λ (x : Name). x.word) g (all_of gs))

pub binder_words : (b : Binder) (gs : List (List Name)) → flat_map words gs ≡ bound_words (lists_of (binding b gs))
binder_words b gs = words_grouped gs ∙ ap words (sym (append-nil (all_of gs)))

pub local_words : (xs : List Name) → words xs ≡ bound_words (lists_of (local xs))
local_words xs = ap words (sym (append-nil xs))

pub node_adds : (ts : List Tree) (j k l : Met) (e : ℕ) (m : Form) (p : Place) (is : List ℕ) → at ts e ≡ node m p (trees_at ts is) → Adds ts j k (bound_words (lists_of m)) → Adds ts k l (flat_map (expr_words ts) is)
    → Adds ts j l (expr_words ts e)
node_adds ts j k l e m p is s g h =
    adds_as ts j l _ _
    (ap (λ x. bound_words (lists_of m) ++ x) (trees_words ts is) ∙ bound_both (lists_of m) _ ∙ ap (λ (t : Tree). bound_words (lists_in t)) (sym s))
    (adds_then ts j k l _ _ g h)

-- ---- all of them

bound_last : (ts : List Tree) (ms : List Bool) (m : Bool) (w : Word) → length ms < length ts → bound_by ts (ms ++ m ∷ []) w ≡ (bound_by ts ms w || (m && binds (at ts (length ms)) w))
bound_last [] ms m w l = absurd (omega (arith, l))
bound_last (t ∷ ts) [] m w l = or_none ts (m && binds t w)
  where
    or_none : (ts : List Tree) (a : Bool) → (a || bound_by ts [] w) ≡ a
    or_none [] true = refl
    or_none [] false = refl
    or_none (t ∷ ts) true = refl
    or_none (t ∷ ts) false = refl
bound_last (t ∷ ts) (n ∷ ms) m w l =
    ap (λ b. (n && binds t w) || b) (bound_last ts ms m w (omega (arith, l))) ∙ sym (or_both (n && binds t w) (bound_by ts ms w) (m && binds (at ts (length ms)) w))

one_longer : (ms : List Bool) (m : Bool) → length (ms ++ m ∷ []) ≡ suc (length ms)
one_longer [] m = refl
one_longer (b ∷ ms) m = ap suc (one_longer ms m)

-- what is held with the last mark
pub holds_last : (ts : List Tree) (old popped : Met) (m : Bool) (w : Word) → old.names ≡ popped.names → old.marks.items ≡ popped.marks.items ++ m ∷ [] → length old.marks.items ≤ length ts
    → holds ts old w ≡ (holds ts popped w || (m && is_among (expr_words ts (length popped.marks.items)) w))
holds_last ts old popped m w n e few =
    (λ i. is_among (n i) w || bound_by ts (e i) w)
    ∙ ap (λ b. is_among popped.names w || b) (bound_last ts popped.marks.items m w (shorter (length old.marks.items) few (ap length e ∙ one_longer popped.marks.items m)))
    ∙ sym (or_both (is_among popped.names w) (bound_by ts popped.marks.items w) (m && binds (at ts (length popped.marks.items)) w))
  where
    shorter : (n : ℕ) → n ≤ length ts → n ≡ suc (length popped.marks.items) → length popped.marks.items < length ts
    shorter n h k = omega (arith, h, k)

pub holds_unmarked : (ts : List Tree) (old popped : Met) (m : Bool) (w : Word) → m ≡ false → holds ts old w ≡ (holds ts popped w || (m && is_among (expr_words ts (length popped.marks.items)) w)) → holds ts popped w ≡ holds ts old w
holds_unmarked ts old popped m w f h = or_nothing (holds ts popped w) ∙ sym (h ∙ ap (λ b. holds ts popped w || (b && is_among (expr_words ts (length popped.marks.items)) w)) f)

pub holds_marked : (ts : List Tree) (old popped new : Met) (m : Bool) (e : ℕ) (w : Word) → m ≡ true → e ≡ length popped.marks.items → holds ts old w ≡ (holds ts popped w || (m && is_among (expr_words ts (length popped.marks.items)) w))
    → Adds ts popped new (expr_words ts e) → holds ts new w ≡ holds ts old w
holds_marked ts old popped new m e w f s h g =
    g.names w ∙ ap (λ n. holds ts popped w || is_among (expr_words ts n) w) s
    ∙ sym (h ∙ ap (λ b. holds ts popped w || (b && is_among (expr_words ts (length popped.marks.items)) w)) f)

no_marks : (ts : List Tree) (w : Word) → bound_by ts [] w ≡ false
no_marks [] w = refl
no_marks (t ∷ ts) w = refl

-- where no mark is left
pub holds_names : (ts : List Tree) (k : Met) (w : Word) → k.marks.items ≡ [] → is_among k.names w ≡ holds ts k w
holds_names ts k w e = or_nothing (is_among k.names w) ∙ ap (λ b. is_among k.names w || b) (sym (ap (λ ms. bound_by ts ms w) e ∙ no_marks ts w))

unmarked : (ts : List Tree) (n : ℕ) (w : Word) → bound_by ts (replicate n false) w ≡ false
unmarked [] n w = refl
unmarked (t ∷ ts) zero w = refl
unmarked (t ∷ ts) (suc n) w = unmarked ts n w

-- from nothing to all
pub all_taken : (ts : List Tree) (i j : Met) (n : ℕ) (outside own : List Word) (names : List Word) → i.names ≡ [] → i.marks.items ≡ replicate n false → Adds ts i j own
    → ((w : Word) → is_among names w ≡ (holds ts j w || is_among outside w)) → SameNames names (outside ++ own)
all_taken ts i j n outside own names e f g last w =
    last w ∙ ap (λ b. b || is_among outside w) (g.names w ∙ ap (λ b. b || is_among own w) none) ∙ or_comm (is_among own w) (is_among outside w) ∙ sym (among_both outside own w)
  where
    none : holds ts i w ≡ false
    none = (λ t. is_among (e t) w || bound_by ts (f t) w) ∙ unmarked ts n w

-- ---- lists of marks

pub less_marked : (ms ns : List Bool) (m : Bool) (n : ℕ) → ms ≡ ns ++ m ∷ [] → length ms ≤ n → length ns ≤ n
less_marked ms ns m n e l = let k = ap length e ∙ one_longer ns m in omega (arith, k, l)

pub none_marked : (ms : List Bool) → length ms ≡ 0 → ms ≡ []
none_marked [] e = refl
none_marked (m ∷ ms) e = absurd (omega (arith, e))
