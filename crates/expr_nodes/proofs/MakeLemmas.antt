-- What is put into a pool for a form is the phrase of that form.
use Rattle.std.proofs.Common.{Bool, ◌≡◌, ℕ, ◌+◌, ◌<◌, max, true, false, List, [], ◌∷◌, length, get_or, Result, Ok, Err, refl, sym, ap, ◌∙◌, subst, arith}
use Rattle.std.specs.Prelude.{IfOk}
use Rattle.tla_token.specs.declared.place.Place.{Place}
use Rattle.tla_tree.specs.declared.op.Op.{Op}
use Rattle.tla_tree.specs.declared.op.Op.TheVariants as op
use Rattle.expr_nodes.specs.declared.shape.Shape.{Shape}
use Rattle.expr_nodes.specs.declared.make.Read.{Read}
use Rattle.expr_nodes.specs.declared.make.Row.{Row}
use Rattle.expr_nodes.specs.declared.view.Constant.{Constant}
use Rattle.tla_tree.specs.Tree.{Word, Tree, Trees, Form, node, no_trees, tree}
use Rattle.tla_tree.specs.Tree as pure
use Rattle.tla_tree.specs.Shapes.{Shaped}
use Rattle.tla_tree.specs.Rank.{is_prefix}
use Rattle.tla_tree.specs.Spelling as spelled
use Rattle.tla_tree.specs.Spelling.{Field, Phrase, Phrases, last, more, tree_of, trees_of, start, operation}
use Rattle.expr_nodes.specs.ShapeOf.{primary_shape, apply_shape, select_shape, open_shape, infix_shape, prefix_shape, in_all}
use Rattle.expr_nodes.specs.ViewSeen.{constant_seen}
use Rattle.tla_tree.specs.Pool.{at, trees_at, Keeps}
use Rattle.expr_nodes.specs.ReadIn.{IsIn, AreIn, first_of}
use Rattle.expr_nodes.specs.Subscripts.{subscript_tree}
use Rattle.expr_nodes.proofs.ShapeLemmas.{start_is}

pub ok_three : {X E : Type 0} {P Q R S : X → Type 0} (r : Result X E) → IfOk r P → IfOk r Q → IfOk r R → ((x : X) → P x → Q x → R x → S x) → IfOk r S
ok_three (Ok x) p q r f = f x p q r
ok_three (Err e) p q r f = tt

-- ---- in a pool that grew
pub kept_in : {linked : Bool} {old new : List Tree} {x : Read} {a : Phrase} → Keeps old new → IsIn linked old x a → IsIn linked new x a
kept_in {linked} {old} {new} {x} {a} k h = record { below = omega (arith, k.longer, h.below); tree = k.same x.id h.below ∙ h.tree; shape = h.shape }

pub starts : {linked : Bool} {ts : List Tree} {x : Read} {a : Phrase} → IsIn linked ts x a → x.shape.start ≡ start a
starts {linked} {ts} {x} {a} h = sym (ap (λ (s : Shape). s.start) h.shape) ∙ start_is linked a

-- ---- primaries
pub number_in : {linked : Bool} {ts : List Tree} {x : Read} (p : Place) (n : ℕ) → x.id < length ts → at ts x.id ≡ node (pure.number n) p no_trees → x.shape ≡ primary_shape p 0 → IsIn linked ts x (spelled.number p n)
number_in p n l t s = record { below = l; tree = t; shape = sym s }

pub string_in : {linked : Bool} {ts : List Tree} {x : Read} (p : Place) (w v : Word) → x.id < length ts → at ts x.id ≡ node (pure.string w) p no_trees → w ≡ v → x.shape ≡ primary_shape p 0 → IsIn linked ts x (spelled.string p v)
string_in p w v l t e s = record { below = l; tree = t ∙ ap (λ (u : Word). node (pure.string u) p no_trees) e; shape = sym s }

pub constant_in : {linked : Bool} {ts : List Tree} {x : Read} (p : Place) (c : Constant) (f : Form) → x.id < length ts → at ts x.id ≡ node f p no_trees → f ≡ spelled.constant_form (constant_seen c) → x.shape ≡ primary_shape p 0 → IsIn linked ts x (spelled.constant p (constant_seen c))
constant_in p c f l t e s = record { below = l; tree = t ∙ ap (λ (f : Form). node f p no_trees) e; shape = sym s }

pub name_in : {linked : Bool} {ts : List Tree} {x : Read} (p : Place) (w v : Word) → x.id < length ts → at ts x.id ≡ node (pure.name w) p no_trees → w ≡ v → x.shape ≡ primary_shape p 0 → IsIn linked ts x (spelled.name p v)
name_in p w v l t e s = record { below = l; tree = t ∙ ap (λ (u : Word). node (pure.name u) p no_trees) e; shape = sym s }

pub primed_in : {linked : Bool} {ts : List Tree} {x : Read} (p q : Place) (w v : Word) → x.id < length ts → at ts x.id ≡ node (pure.next w) p no_trees → w ≡ v → x.shape ≡ primary_shape p 0 → IsIn linked ts x (spelled.primed p v q)
primed_in p q w v l t e s = record { below = l; tree = t ∙ ap (λ (u : Word). node (pure.next u) p no_trees) e; shape = sym s }

pub brackets_in : {linked : Bool} {ts : List Tree} {a x : Read} {i : Phrase} (p q : Place) → x.id ≡ a.id → x.shape ≡ primary_shape p (1 + a.shape.nesting) → IsIn linked ts a i → IsIn linked ts x (spelled.brackets p i q)
brackets_in {linked} {ts} {a} {x} {i} p q e s h = record {
  below = subst (λ (n : ℕ). n < length ts) (sym e) h.below;
  tree = ap (at ts) e ∙ h.tree;
  shape = ap (λ (s : Shape). primary_shape p (1 + s.nesting)) h.shape ∙ sym s;
}

pub no_set_in : {linked : Bool} {ts : List Tree} {x : Read} (p q : Place) → x.id < length ts → at ts x.id ≡ node (pure.strict pure.set_of) p no_trees → x.shape ≡ primary_shape p 1 → IsIn linked ts x (spelled.no_set p q)
no_set_in p q l t s = record { below = l; tree = t; shape = sym s }

pub no_tuple_in : {linked : Bool} {ts : List Tree} {x : Read} (p q : Place) → x.id < length ts → at ts x.id ≡ node (pure.strict pure.tuple) p no_trees → x.shape ≡ primary_shape p 1 → IsIn linked ts x (spelled.no_tuple p q)
no_tuple_in p q l t s = record { below = l; tree = t; shape = sym s }

pub functions_in : {linked : Bool} {old new : List Tree} {a b x : Read} {i j : Phrase} (p q r : Place) → x.id < length new → at new x.id ≡ node (pure.strict pure.functions) p (trees_at old (a.id ∷ b.id ∷ []))
    → x.shape ≡ primary_shape p (1 + max a.shape.nesting b.shape.nesting) → IsIn linked old a i → IsIn linked old b j → IsIn linked new x (spelled.functions p i q j r)
functions_in p q r l t s f g = record {
  below = l;
  tree = t ∙ (λ y. node (pure.strict pure.functions) p (tree (f.tree y) (tree (g.tree y) no_trees)));
  shape = (λ y. primary_shape p (1 + max (f.shape y).nesting (g.shape y).nesting)) ∙ sym s;
}

-- ---- rows
row_shape : {linked : Bool} {ts : List Tree} {is : List ℕ} {r : Row} {xs : Phrases} (p : Place) → AreIn linked ts is r xs → primary_shape p (1 + in_all linked xs) ≡ primary_shape p (1 + r.nesting)
row_shape p h = ap (λ (n : ℕ). primary_shape p (1 + n)) h.nesting

pub set_in : {linked : Bool} {old new : List Tree} {is : List ℕ} {r : Row} {x : Read} {xs : Phrases} (p q : Place) → x.id < length new → at new x.id ≡ node (pure.strict pure.set_of) p (trees_at old is)
    → x.shape ≡ primary_shape p (1 + r.nesting) → AreIn linked old is r xs → IsIn linked new x (spelled.set_of p xs q)
set_in p q l t s h = record { below = l; tree = t ∙ ap (node (pure.strict pure.set_of) p) h.trees; shape = row_shape p h ∙ sym s }

pub tuple_in : {linked : Bool} {old new : List Tree} {is : List ℕ} {r : Row} {x : Read} {xs : Phrases} (p q : Place) → x.id < length new → at new x.id ≡ node (pure.strict pure.tuple) p (trees_at old is)
    → x.shape ≡ primary_shape p (1 + r.nesting) → AreIn linked old is r xs → IsIn linked new x (spelled.tuple p xs q)
tuple_in p q l t s h = record { below = l; tree = t ∙ ap (node (pure.strict pure.tuple) p) h.trees; shape = row_shape p h ∙ sym s }

pub call_in : {linked : Bool} {old new : List Tree} {is : List ℕ} {r : Row} {x : Read} {xs : Phrases} (p q s : Place) (w v : Word) → x.id < length new → at new x.id ≡ node (pure.operator_call w) p (trees_at old is) → w ≡ v
    → x.shape ≡ primary_shape p (1 + r.nesting) → AreIn linked old is r xs → IsIn linked new x (spelled.call p v q xs s)
call_in p q s w v l t e d h = record { below = l; tree = t ∙ (λ y. node (pure.operator_call (e y)) p (h.trees y)); shape = row_shape p h ∙ sym d }

pub only_one : (is : List ℕ) (i : ℕ) → length is ≡ 1 → i ≡ get_or is 0 i → is ≡ i ∷ []
only_one [] i e d = absurd cc
only_one (j ∷ []) i e d = ap (λ (k : ℕ). k ∷ []) (sym d)
only_one (j ∷ k ∷ is) i e d = absurd (omega (arith, e))

-- a subscript is the number that is alone, or the tuple
pub one_subscript : (ts : List Tree) (is : List ℕ) (i : ℕ) (p : Place) → is ≡ i ∷ [] → at ts i ≡ subscript_tree p (trees_at ts is)
one_subscript ts is i p e = ap (λ (js : List ℕ). subscript_tree p (trees_at ts js)) (sym e)

pub more_subscripts : (ts : List Tree) (is : List ℕ) (p : Place) → (length is ≡ 1 → ⊥) → subscript_tree p (trees_at ts is) ≡ node (pure.strict pure.tuple) p (trees_at ts is)
more_subscripts ts [] p n = refl
more_subscripts ts (i ∷ []) p n = absurd (n refl)
more_subscripts ts (i ∷ j ∷ is) p n = refl

-- that of phrases
pub subscript_is : {p : Place} (ts : Trees) (xs : Phrases) → ts ≡ trees_of xs → start (first_of xs) ≡ p → subscript_tree p ts ≡ spelled.subscript xs
subscript_is {p} ts xs e f = ap (subscript_tree p) e ∙ by xs f
  where
    by : (xs : Phrases) → start (first_of xs) ≡ p → subscript_tree p (trees_of xs) ≡ spelled.subscript xs
    by (last a) f = refl
    by (more a q (last b)) f = ap (λ (r : Place). node (pure.strict pure.tuple) r (trees_of (more a q (last b)))) (sym f)
    by (more a q (more b r xs)) f = ap (λ (r : Place). node (pure.strict pure.tuple) r (trees_of (more a q (more b r xs)))) (sym f)

pub subscript_in : {linked : Bool} {ts : List Tree} {is : List ℕ} {r : Row} {xs : Phrases} → AreIn linked ts is r xs → subscript_tree r.first (trees_at ts is) ≡ spelled.subscript xs
subscript_in {linked} {ts} {is} {r} {xs} h = subscript_is (trees_at ts is) xs h.trees h.first

pub apply_in : {linked : Bool} {old mid new : List Tree} {is : List ℕ} {r : Row} {f x : Read} {a : Phrase} {xs : Phrases} (j : ℕ) (p q : Place) → Keeps old mid → x.id < length new → at new x.id ≡ node (pure.strict pure.apply) f.shape.start (trees_at mid (f.id ∷ j ∷ []))
    → at mid j ≡ spelled.subscript xs → x.shape ≡ apply_shape linked f.shape r.nesting → IsIn linked old f a → AreIn linked old is r xs → IsIn linked new x (spelled.apply a p xs q)
apply_in {linked} j p q k l t e s g h = record {
  below = l;
  tree = t ∙ (λ y. node (pure.strict pure.apply) (starts g y) (tree ((kept_in k g).tree y) (tree (e y) no_trees)));
  shape = (λ y. apply_shape linked (g.shape y) (h.nesting y)) ∙ sym s;
}

pub select_in : {linked : Bool} {old new : List Tree} {r x : Read} {a : Phrase} (p : Place) (f : Field) (w : Word) → x.id < length new → at new x.id ≡ node (pure.strict (pure.select w)) r.shape.start (trees_at old (r.id ∷ [])) → w ≡ f.text
    → x.shape ≡ select_shape linked r.shape → IsIn linked old r a → IsIn linked new x (spelled.select a p f)
select_in {linked} p f w l t e s g = record {
  below = l;
  tree = t ∙ (λ y. node (pure.strict (pure.select (e y))) (starts g y) (tree (g.tree y) no_trees));
  shape = (λ y. select_shape linked (g.shape y)) ∙ sym s;
}

-- ---- operators
two_parts : (o : Op) → is_prefix o ≡ false → Shaped (operation o) 2
two_parts op.Implies e = refl
two_parts op.Equivalent e = (refl, refl)
two_parts op.And e = refl
two_parts op.Or e = refl
two_parts op.Not e = absurd cc
two_parts op.Equal e = (refl, refl)
two_parts op.NotEqual e = (refl, refl)
two_parts op.Less e = (refl, refl)
two_parts op.Greater e = (refl, refl)
two_parts op.AtMost e = (refl, refl)
two_parts op.AtLeast e = (refl, refl)
two_parts op.In e = refl
two_parts op.NotIn e = refl
two_parts op.SubsetEq e = (refl, refl)
two_parts op.Override e = (refl, refl)
two_parts op.MapsTo e = (refl, refl)
two_parts op.Cup e = (refl, refl)
two_parts op.Cap e = (refl, refl)
two_parts op.Without e = (refl, refl)
two_parts op.Subset e = absurd cc
two_parts op.Union e = absurd cc
two_parts op.Range e = (refl, refl)
two_parts op.Domain e = absurd cc
two_parts op.Plus e = (refl, refl)
two_parts op.Modulo e = (refl, refl)
two_parts op.Minus e = (refl, refl)
two_parts op.Negate e = absurd cc
two_parts op.Times e = (refl, refl)
two_parts op.Concat e = (refl, refl)
two_parts op.Divide e = (refl, refl)

one_part : (o : Op) → is_prefix o ≡ true → Shaped (operation o) 1
one_part op.Not e = (refl, refl)
one_part op.Subset e = (refl, refl)
one_part op.Union e = (refl, refl)
one_part op.Domain e = (refl, refl)
one_part op.Negate e = (refl, refl)
one_part o e = absurd cc

pub infix_shaped : (f : Form) (o : Op) (n : ℕ) → f ≡ operation o → is_prefix o ≡ false → n ≡ 2 → Shaped f n
infix_shaped f o n e i d = rw (e, d) (two_parts o i)

pub prefix_shaped : (f : Form) (o : Op) (n : ℕ) → f ≡ operation o → is_prefix o ≡ true → n ≡ 1 → Shaped f n
prefix_shaped f o n e i d = rw (e, d) (one_part o i)

pub infix_in : {linked : Bool} {old new : List Tree} {a b x : Read} {i j : Phrase} (o : Op) (p : Place) (f : Form) → x.id < length new → at new x.id ≡ node f a.shape.start (trees_at old (a.id ∷ b.id ∷ [])) → f ≡ operation o
    → x.shape ≡ infix_shape a.shape o b.shape → IsIn linked old a i → IsIn linked old b j → IsIn linked new x (spelled.infix_of i p o j)
infix_in o p f l t e s g h = record {
  below = l;
  tree = t ∙ (λ y. node (e y) (starts g y) (tree (g.tree y) (tree (h.tree y) no_trees)));
  shape = (λ y. infix_shape (g.shape y) o (h.shape y)) ∙ sym s;
}

pub prefix_in : {linked : Bool} {old new : List Tree} {a x : Read} {i : Phrase} (o : Op) (p : Place) (f : Form) → x.id < length new → at new x.id ≡ node f p (trees_at old (a.id ∷ [])) → f ≡ operation o
    → x.shape ≡ prefix_shape p o a.shape → IsIn linked old a i → IsIn linked new x (spelled.prefix_of p o i)
prefix_in o p f l t e s g = record {
  below = l;
  tree = t ∙ (λ y. node (e y) p (tree (g.tree y) no_trees));
  shape = (λ y. prefix_shape p o (g.shape y)) ∙ sym s;
}

pub choice_in : {linked : Bool} {old new : List Tree} {a b c x : Read} {i j k : Phrase} (p q r : Place) → x.id < length new → at new x.id ≡ node pure.if_then_else p (trees_at old (a.id ∷ b.id ∷ c.id ∷ []))
    → x.shape ≡ open_shape p c.shape.boxes (1 + max (max a.shape.nesting b.shape.nesting) c.shape.nesting)
    → IsIn linked old a i → IsIn linked old b j → IsIn linked old c k → IsIn linked new x (spelled.if_then_else p i q j r k)
choice_in p q r l t s f g h = record {
  below = l;
  tree = t ∙ (λ y. node pure.if_then_else p (tree (f.tree y) (tree (g.tree y) (tree (h.tree y) no_trees))));
  shape = (λ y. open_shape p (h.shape y).boxes (1 + max (max (f.shape y).nesting (g.shape y).nesting) (h.shape y).nesting)) ∙ sym s;
}
