-- The items of a list by columns, as the code reads them: what was read goes before what is still to come.
use Rattle.std.proofs.Common.{◌≡◌, ℕ, suc, ◌+◌, ◌≤◌, ◌<◌, max, Bool, true, false, ◌&&◌, nat_eq, List, length, Ok, Err, Some, refl, sym, ap, ◌∙◌, subst, arith}
use Rattle.tla_token.specs.declared.place.Place.{Place}
use Rattle.tla_token.specs.declared.rule.Rule.TheVariants.{TooDeep}
use Rattle.tla_token.specs.declared.token.Tokens.{Tokens}
use Rattle.tla_tree.specs.declared.op.Op.{Op}
use Rattle.tla_tree.specs.declared.op.Op.TheVariants as op
use Rattle.tla_tree.specs.Rank.{is_bullet, is_prefix}
use Rattle.tla_tree.specs.Tree.{Tree, node, no_trees, tree}
use Rattle.tla_tree.specs.Pool.{at, Keeps}
use Rattle.tla_tree.specs.Lexical.{Token}
use Rattle.tla_tree.specs.Spelling.{Phrase, Bullets, last_bullet, bullet, first_bullet, joined, joined_to, operation, tree_of, two}
use Rattle.tla_tree.specs.Reader.{Out, Reader, then_read, next, free, take, bullet_of, is_sign, bullets_if}
use Rattle.tla_tree.specs.Whole.{whole_in}
use Rattle.tla_tree.proofs.Whole.{bullets_is}
use Rattle.tla_tree.proofs.Opened.{in_bullets}
use Rattle.expr_nodes.specs.declared.cursor.Halt.{Halt}
use Rattle.expr_nodes.specs.declared.cursor.Halt.TheVariants as halt
use Rattle.expr_nodes.specs.declared.make.Read.{Read}
use Rattle.expr_nodes.specs.declared.shape.Boxes.{Boxes}
use Rattle.expr_nodes.specs.ShapeOf as shapes
use Rattle.expr_nodes.specs.ReadIn.{IsIn, AreItems, Reads, Fails}
use Rattle.expr_nodes.specs.Ahead.{ahead}
use Rattle.expr_rows.specs.HasRead.{one_item}
use Rattle.expr_rows.proofs.ReadLemmas.{fails_then}
use Rattle.expr_rows.proofs.ReadLinks.{open_at, open_not, then_two}
use Rattle.expr_rows.proofs.ReadRows.{put_after, after_nothing, after_more, fails_after_all}

pub bullet_between : (o : Op) → is_bullet o ≡ true → is_prefix o ≡ false
bullet_between op.And h = refl
bullet_between op.Or h = refl
bullet_between o h = absurd cc

-- ---- steps
abbrev pub is_next : ℕ → Op → ℕ → List Token → Bool
is_next e o c ts = is_sign o (next e ts).kind && nat_eq c (next e ts).place.col

abbrev pub bullets_on : Bool → ℕ → ℕ → Op → ℕ → Place × Phrase → Reader Bullets
bullets_on linked d e o c x ts = bullets_if (is_next e o c ts) (whole_in linked (Some d)) e o c x.0 x.1 ts

module _ (linked : Bool) (b e : ℕ) (o : Op) (c : ℕ) (ts : List Token) where
  bullets_deep : b ≤ 0 → (whole_in linked (Some b)).bullets e o c ts ≡ Err (TooDeep, ts)
  bullets_deep h = bullets_is linked (Some b) e o c ts ∙ open_not _ 0 b h (in_bullets e o c) ts

  pub deep_fails : (w : Halt) → w ≡ halt.Refused TooDeep (length ts) → b ≤ 0 → Fails w ((whole_in linked (Some b)).bullets e o c ts)
  deep_fails w i h = subst (λ (w : Halt). Fails w ((whole_in linked (Some b)).bullets e o c ts)) (sym i) (subst (λ (p : Out Bullets). Fails (halt.Refused TooDeep (length ts)) p) (sym (bullets_deep h)) (refl, refl))

  bullets_from : (d : ℕ) → d + 1 ≡ b → (whole_in linked (Some b)).bullets e o c ts ≡ then_read (one_item (whole_in linked (Some d)) e o c ts) (bullets_on linked d e o c)
  bullets_from d h = bullets_is linked (Some b) e o c ts ∙ open_at d 0 b h (in_bullets e o c) ts ∙ then_two (take e (bullet_of o c) ts) (λ p. (whole_in linked (Some d)).expr c free) (λ p a. (p, a)) (bullets_on linked d e o c)

  pub item_fails : (d : ℕ) (w : Halt) → d + 1 ≡ b → Fails w (one_item (whole_in linked (Some d)) e o c ts) → Fails w ((whole_in linked (Some b)).bullets e o c ts)
  item_fails d w h f = subst (Fails w) (sym (bullets_from d h)) (fails_then w _ (bullets_on linked d e o c) f)

  bullets_at : (d : ℕ) (x : Place × Phrase) (us : List Token) → d + 1 ≡ b → one_item (whole_in linked (Some d)) e o c ts ≡ Ok (x, us) → (whole_in linked (Some b)).bullets e o c ts ≡ bullets_on linked d e o c x us
  bullets_at d x us h g = bullets_from d h ∙ ap (λ (p : Out (Place × Phrase)). then_read p (bullets_on linked d e o c)) g

-- ---- the items so far, up to one that was read; so many of them
pub record BulletsSoFar (linked : Bool) (v : Tokens) (ts : List Tree) (b d e : ℕ) (o : Op) (c from i id : ℕ) (p : Place) (l : Boxes) (n k : ℕ) : Type 0 where
  pub now : Place × Phrase
  pub before : Bullets → Bullets
  pub read : (whole_in linked (Some b)).bullets e o c (ahead v from) ≡ put_after before (bullets_on linked d e o c now (ahead v i))
  pub all : AreItems linked ts o id p l n (before (last_bullet now.0 now.1))
  pub trees : (bs : Bullets) → joined o (before (bullet now.0 now.1 bs)) ≡ joined_to o p (at ts id) bs
  pub first : (bs : Bullets) → first_bullet (before (bullet now.0 now.1 bs)) ≡ p
  pub boxes : (bs : Bullets) → shapes.last_boxes linked (before (bullet now.0 now.1 bs)) ≡ shapes.last_boxes linked bs
  pub nesting : (bs : Bullets) → shapes.in_bullets linked (before (bullet now.0 now.1 bs)) ≡ max n (k + shapes.in_bullets linked bs)

abbrev pub IsItem : Bool → List Tree → Place → Read → Place × Phrase → Type 0
IsItem linked ts p x y = (y.0 ≡ p) × IsIn linked ts x y.1

module _ {linked : Bool} (v : Tokens) (e : ℕ) (o : Op) (c : ℕ) where
  pub bullets_first : {ts : List Tree} {x : Read} {p : Place} (b d from i : ℕ) → d + 1 ≡ b → Reads (IsItem linked ts p x) (ahead v i) (one_item (whole_in linked (Some d)) e o c (ahead v from))
      → BulletsSoFar linked v ts b d e o c from i x.id p x.shape.boxes (1 + x.shape.nesting) 1
  bullets_first {ts} {x} {p} b d from i h f = (let y = f.what in let g = f.told.1 in record {
    now = y;
    before = (λ bs. bs);
    read = bullets_at _ b e o c (ahead v from) d y (ahead v i) h f.is ∙ after_nothing (bullets_on linked d e o c y (ahead v i));
    all = record { below = g.below; tree = g.tree; first = f.told.0; boxes = (λ i. (g.shape i).boxes); nesting = (λ i. 1 + (g.shape i).nesting) };
    trees = (λ bs i. joined_to o (f.told.0 i) (sym g.tree i) bs);
    first = (λ bs. f.told.0);
    boxes = (λ bs. refl);
    nesting = (λ bs.
        let s : (shapes.shape_of linked y.1).nesting ≡ x.shape.nesting = λ i. (g.shape i).nesting in
        let m : 1 + max (shapes.shape_of linked y.1).nesting (shapes.in_bullets linked bs) ≡ max (1 + x.shape.nesting) (1 + shapes.in_bullets linked bs) = omega (arith, s) in
        m);
  })

  module _ {ts : List Tree} {b d id n k : ℕ} {p : Place} {l : Boxes} (from i : ℕ) (so : BulletsSoFar linked v ts b d e o c from i id p l n k) where
    pub bullets_end : is_next e o c (ahead v i) ≡ false → Reads (AreItems linked ts o id p l n) (ahead v i) ((whole_in linked (Some b)).bullets e o c (ahead v from))
    bullets_end h = record {
      what = so.before (last_bullet so.now.0 so.now.1);
      is = so.read ∙ ap (λ (t : Bool). put_after so.before (bullets_if t (whole_in linked (Some d)) e o c so.now.0 so.now.1 (ahead v i))) h;
      told = so.all;
    }

    module _ (h : is_next e o c (ahead v i) ≡ true) where
      past_one : (whole_in linked (Some b)).bullets e o c (ahead v from) ≡ put_after (λ bs. so.before (bullet so.now.0 so.now.1 bs)) ((whole_in linked (Some d)).bullets e o c (ahead v i))
      past_one =
          so.read ∙ ap (λ (t : Bool). put_after so.before (bullets_if t (whole_in linked (Some d)) e o c so.now.0 so.now.1 (ahead v i))) h
          ∙ after_more so.before (bullet so.now.0 so.now.1) ((whole_in linked (Some d)).bullets e o c (ahead v i))

      pub bullets_lost : (w : Halt) → Fails w ((whole_in linked (Some d)).bullets e o c (ahead v i)) → Fails w ((whole_in linked (Some b)).bullets e o c (ahead v from))
      bullets_lost w f = subst (Fails w) (sym past_one) (fails_after_all w (λ bs. so.before (bullet so.now.0 so.now.1 bs)) _ f)

      pub bullets_next : {us ws : List Tree} {x : Read} {q : Place} (f j m : ℕ) → f + 1 ≡ d → Keeps ts us → Reads (IsItem linked us q x) (ahead v j) (one_item (whole_in linked (Some f)) e o c (ahead v i))
          → m < length ws → at ws m ≡ node (operation o) p (two (at us id) (at us x.id)) → BulletsSoFar linked v ws b f e o c from j m p x.shape.boxes (max n (suc k + x.shape.nesting)) (suc k)
      bullets_next {us} {ws} {x} {q} f j m g keeps r below made =
          let y = r.what in
          let it = r.told.1 in
          let s : (shapes.shape_of linked y.1).nesting ≡ x.shape.nesting = λ i. (it.shape i).nesting in
          let grown : node (operation o) p (two (at ts id) (tree_of y.1)) ≡ at ws m = sym (made ∙ (λ i. node (operation o) p (tree (keeps.same id so.all.below i) (tree (it.tree i) no_trees)))) in
          record {
            now = y;
            before = (λ bs. so.before (bullet so.now.0 so.now.1 bs));
            read = past_one ∙ ap (put_after (λ bs. so.before (bullet so.now.0 so.now.1 bs))) (bullets_at _ d e o c (ahead v i) f y (ahead v j) g r.is);
            all = record {
              below = below;
              tree = sym (so.trees (last_bullet y.0 y.1) ∙ grown);
              first = so.first (last_bullet y.0 y.1);
              boxes = so.boxes (last_bullet y.0 y.1) ∙ (λ i. (it.shape i).boxes);
              nesting = (let a = so.nesting (last_bullet y.0 y.1) in let z : max n (k + (1 + (shapes.shape_of linked y.1).nesting)) ≡ max n (suc k + x.shape.nesting) = omega (arith, s) in a ∙ z);
            };
            trees = (λ bs. so.trees (bullet y.0 y.1 bs) ∙ ap (λ (t : Tree). joined_to o p t bs) grown);
            first = (λ bs. so.first (bullet y.0 y.1 bs));
            boxes = (λ bs. so.boxes (bullet y.0 y.1 bs));
            nesting = (λ bs.
                let a = so.nesting (bullet y.0 y.1 bs) in
                let z : max n (k + (1 + max (shapes.shape_of linked y.1).nesting (shapes.in_bullets linked bs))) ≡ max (max n (suc k + x.shape.nesting)) (suc k + shapes.in_bullets linked bs) = omega (arith, s) in
                a ∙ z);
          }
