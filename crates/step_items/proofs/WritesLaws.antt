-- What is written behind items: nothing, items for statements one after another, and in a pool that has grown; and what is put in after that.
use Rattle.std.proofs.Common.{◌≡◌, ℕ, ◌≤◌, List, [], ◌∷◌, ◌++◌, append-nil, length, Bool, ◌||◌, Option, Some, None, Result, Ok, Err, IfOk, OnOk, refl, sym, ap, ◌∙◌, arith}
use Rattle.tla_token.specs.Signs.{is_among}
use Rattle.tla_token.specs.declared.place.Place.{Place}
use Rattle.tla_tree.specs.Tree.{Word, Tree}
use Rattle.tla_tree.specs.Pool.{Keeps}
use Rattle.module_tree.specs.Module.{test, Items, no_items, item}
use Rattle.module_tree.specs.Module as tree
use Rattle.module_write.specs.declared.«module».Item.{Item}
use Rattle.module_write.specs.InMemory.{item_at, items_at, past_item, past_items}
use Rattle.module_write.proofs.InMemoryGrown.{items_at-kept}
use Rattle.pcal_tree.specs.Algorithm.{Span, Assignments, assign, Statements, done, then}
use Rattle.pcal_tree.specs.Expand.{followed_by}
use Rattle.pcal_tree.specs.Program.{Program}
use Rattle.pcal_tree.proofs.InMemoryEach.{past_one_more}
use Rattle.pcal_tree.specs.Variables.{vars}
use Rattle.name_bits.specs.declared.bits.Bits.{Bits}
use Rattle.name_bits.specs.NamesIn.{names_in}
use Rattle.action_builder.specs.SingleProcess.{in_place_of}
use Rattle.action_builder.specs.Assigned.{Names, more, heads, assigned_in}
use Rattle.action_builder.specs.Written.{onto, filled, settings_of, branch_items, write}
use Rattle.action_builder.proofs.Sets.{member_append}
use Rattle.step_forms.proofs.WrittenLaws.{same_names, onto_none, onto_again, Unmarked, assigned_followed, write_followed, put_filled, put_branch}
use Rattle.right_sides.specs.declared.after.After.{After}
use Rattle.right_sides.specs.After.{put_one, put_items, after_items, AfterIn}
use Rattle.right_sides.proofs.AfterLaws.{items_last, after_items-kept}
use Rattle.step_items.specs.Writing.{Writes}

-- ---- what is put in for a name

pub filled_put : (y : Word) (x : Option Tree) (p : Place) (is : Items) → put_items y x (filled p is) ≡ filled p (put_items y x is)
filled_put y None p is = refl
filled_put y (Some e) p is = put_filled (in_place_of y e) p is

pub branch_put : (y : Word) (x : Option Tree) (vs : List Word) (p : Place) (is : Items) (all mine : List Word) → put_items y x (branch_items vs p is all mine) ≡ branch_items vs p (put_items y x is) all mine
branch_put y None vs p is all mine = refl
branch_put y (Some e) vs p is all mine = put_branch (in_place_of y e) vs p is all mine

pub test_put : (y : Word) (x : Option Tree) (e : Tree) → put_items y x (item (test e) no_items) ≡ item (test (put_one y x e)) no_items
test_put y None e = refl
test_put y (Some t) e = refl

-- a choice of nothing
pub none_put : (y : Word) (x : Option Tree) → put_items y x (item (tree.either tree.no_branches) no_items) ≡ item (tree.either tree.no_branches) no_items
none_put y None = refl
none_put y (Some e) = refl

pub after_kept : (ts us : List Tree) → Keeps ts us → (a : After) → AfterIn (length ts) a → after_items us a ≡ after_items ts a
after_kept ts us k a h = λ j is. after_items-kept ts us k a h is j

-- ---- what is written

-- items that are put in are put in one after another
abbrev pub Spreads : (Items → Items) → Type 0
Spreads g = (is js : Items) → g (onto is js) ≡ onto (g is) (g js)

module _ (P : Program) (g : Items → Items) where
  -- the variables of a set
  abbrev pub in_set : Bits → Names
  in_set b = is_among (names_in (vars P) b)

  pub writes_none : (ts us : List Tree) (before : List Item) (earlier none : Bits) → items_at us before ≡ items_at ts before → g no_items ≡ no_items → names_in (vars P) none ≡ [] → Writes P g ts us before before earlier none done
  writes_none ts us before earlier none e z n = record {
    items = e ∙ sym (onto_none (items_at ts before)) ∙ ap (onto (items_at ts before)) (sym z);
    names = λ x. ap (λ (xs : List Word). is_among xs x) n;
  }

  -- one list after another; between: what is assigned before the second, both: what the two assign
  pub writes_then : (ts us vs : List Tree) (before mid after : List Item) (earlier one between two both : Bits) (S T : Statements) → Spreads g → Unmarked S → ((x : Word) → in_set between x ≡ (in_set earlier x || in_set one x))
      → ((x : Word) → in_set both x ≡ (in_set one x || in_set two x)) → Writes P g ts us before mid earlier one S → Writes P g us vs mid after between two T → Writes P g ts vs before after earlier both (followed_by S T)
  writes_then ts us vs before mid after earlier one between two both S T spreads plain betweens boths h k =
      let set : in_set between ≡ more (in_set earlier) (assigned_in S) = same_names (in_set between) (more (in_set earlier) (assigned_in S)) (λ x. betweens x ∙ ap (λ (b : Bool). in_set earlier x || b) (h.names x)) in
      let first : Items = write (vars P) (in_set earlier) S in
      let second : Items = write (vars P) (more (in_set earlier) (assigned_in S)) T in
      record {
        items =
            k.items
            ∙ (λ i. onto (h.items i) (g (write (vars P) (set i) T)))
            ∙ onto_again (items_at ts before) (g first) (g second)
            ∙ ap (onto (items_at ts before)) (sym (spreads first second) ∙ ap g (sym (write_followed (vars P) (in_set earlier) S T plain)));
        names = λ x. boths x ∙ (λ i. h.names x i || k.names x i) ∙ sym (member_append (assigned_in S) (assigned_in T) x) ∙ ap (λ (xs : List Word). is_among xs x) (sym (assigned_followed S T plain));
      }

  -- the pool grows after it
  pub writes_grown : (ts us vs : List Tree) (before after : List Item) (earlier assigned : Bits) (S : Statements) → Keeps us vs → past_items after ≤ length us → Writes P g ts us before after earlier assigned S
      → Writes P g ts vs before after earlier assigned S
  writes_grown ts us vs before after earlier assigned S k b h = record { items = items_at-kept us vs k after b ∙ h.items; names = h.names }

  -- it had grown before it
  pub writes_from : (rs ts us : List Tree) (before after : List Item) (earlier assigned : Bits) (S : Statements) → Keeps rs ts → past_items before ≤ length rs → Writes P g ts us before after earlier assigned S
      → Writes P g rs us before after earlier assigned S
  writes_from rs ts us before after earlier assigned S k b h = record {
    items = h.items ∙ ap (λ (is : Items). onto is (g (write (vars P) (in_set earlier) S))) (items_at-kept rs ts k before b);
    names = h.names;
  }

-- ---- one assignment statement

-- on success both hold
pub both_ok : {A E : Type 0} (r : Result A E) (X : Type 0) (B Q : A → Type 0) → OnOk r X → IfOk r B → ((a : A) → X → B a → Q a) → IfOk r Q
both_ok (Ok a) X B Q h k f = f a h k
both_ok (Err e) X B Q h k f = tt

pub if_ok : {A E : Type 0} (r : Result A E) (B Q : A → Type 0) → IfOk r B → ((a : A) → B a → Q a) → IfOk r Q
if_ok (Ok a) B Q h f = f a h
if_ok (Err e) B Q h f = tt

-- settings for assignments are what is written for them as a statement
pub writes_settings : (P : Program) (ts us vs : List Tree) (before after : List Item) (a : After) (earlier assigned : Bits) (order : List Word) (s : Span) (ms ns : Assignments)
    → Keeps ts us → AfterIn (length ts) a → past_items before ≤ length ts → order ≡ vars P → ms ≡ ns
    → items_at vs after ≡ onto (items_at us before) (after_items us a (settings_of (is_among (names_in order earlier)) ms (heads ms) no_items)) → ((x : Word) → is_among (names_in order assigned) x ≡ is_among (heads ms) x)
    → Writes P (after_items ts a) ts vs before after earlier assigned (then s (assign ns) done)
writes_settings P ts us vs before after a earlier assigned order s ms ns k h b o m items names = record {
  items = items ∙ (λ j. onto (items_at-kept ts us k before b j) (after_kept ts us k a h j (settings_of (is_among (names_in (o j) earlier)) (m j) (heads (m j)) no_items)));
  names = λ x. (λ j. is_among (names_in (sym o j) assigned) x) ∙ names x ∙ (λ j. is_among (heads (m j)) x) ∙ ap (λ (xs : List Word). is_among xs x) (sym (append-nil (heads ns)));
}

-- ---- one item more

pub item_pushed : (ts us : List Tree) → Keeps ts us → (is ys : List Item) (i : Item) (t : tree.Item) → past_items is ≤ length ts → ys ≡ is ++ i ∷ [] → item_at us i ≡ t → items_at us ys ≡ onto (items_at ts is) (item t no_items)
item_pushed ts us k is ys i t b e same = ap (items_at us) e ∙ items_last us is i ∙ (λ j. onto (items_at-kept ts us k is b j) (item (same j) no_items))

pub past_pushed : (m n : ℕ) (is ys : List Item) (i : Item) → past_items is ≤ m → m ≤ n → past_item i ≤ n → ys ≡ is ++ i ∷ [] → past_items ys ≤ n
past_pushed m n is ys i h le one e =
    let all = ap past_items e in
    omega (arith, all, past_one_more past_item is i, h, le, one)
