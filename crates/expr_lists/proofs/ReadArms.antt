-- The arms of CASE, as the code reads them: what was read goes before what is still to come.
use Rattle.std.proofs.Common.{◌≡◌, ℕ, zero, suc, max, Bool, true, false, ◌&&◌, not, List, [], ◌∷◌, ◌++◌, Ok, Err, Some, refl, sym, ap, ◌∙◌, subst, arith}
use Rattle.std.proofs.lemmas.List.{append_assoc}
use Rattle.tla_token.specs.declared.place.Place.{Place}
use Rattle.tla_token.specs.declared.token.Tokens.{Tokens}
use Rattle.tla_tree.specs.Tree.{Tree, no_trees, tree}
use Rattle.tla_tree.specs.Pool.{Keeps}
use Rattle.tla_tree.specs.Shapes.{IsPaired}
use Rattle.tla_tree.specs.Lexical.{TokenView, Token}
use Rattle.tla_tree.specs.Lexical as tk
use Rattle.tla_tree.specs.Spelling.{Phrase, takes_box, Arms, last_arm, other_arm, arm}
use Rattle.tla_tree.specs.Reader.{Out, Readers, then_read, ◌>>=◌, gives, peek, next, tail, free, a_mark, is_mark, is_key, arms_by, arms_if, arms_other}
use Rattle.tla_tree.specs.Whole.{whole_in}
use Rattle.tla_tree.proofs.PoolNumbers.{Keeps-then}
use Rattle.tla_tree.proofs.Whole.{arms_is}
use Rattle.expr_nodes.specs.declared.cursor.Halt.{Halt}
use Rattle.expr_nodes.specs.declared.make.Read.{Read}
use Rattle.expr_nodes.specs.declared.shape.Shape.{Shape}
use Rattle.expr_nodes.specs.ShapeOf.{shape_of}
use Rattle.expr_nodes.specs.ReadIn.{IsIn, AreArms, Reads, Fails}
use Rattle.expr_nodes.specs.Ahead.{ahead}
use Rattle.expr_rows.specs.HasRead.{behind_mark, one_arm, is_arm_next}
use Rattle.expr_nodes.proofs.MakeLemmas.{kept_in}
use Rattle.expr_rows.proofs.ReadLemmas.{fails_then}
use Rattle.expr_rows.proofs.ReadLinks.{then_one, then_two}
use Rattle.expr_rows.proofs.ReadRows.{put_after, after_nothing, after_more, fails_after_all}

-- ---- one arm, and one before others
arm_last : {linked : Bool} {ts : List Tree} {x y : Read} {a b : Phrase} (p : Place) → IsIn linked ts x a → IsIn linked ts y b → AreArms linked ts false (x.id ∷ y.id ∷ []) (max x.shape.nesting y.shape.nesting) (last_arm a p b)
arm_last {linked} {ts} {x} {y} {a} {b} p f g = record {
  below = (f.below, (g.below, tt));
  other = refl;
  trees = (λ i. tree (f.tree i) (tree (g.tree i) no_trees));
  nesting = (λ i. max (f.shape i).nesting (g.shape i).nesting);
}

arm_before : {linked : Bool} {ts : List Tree} {x y : Read} {a b : Phrase} (p q : Place) {t : Bool} {is : List ℕ} {n : ℕ} {xs : Arms} → IsIn linked ts x a → IsIn linked ts y b → AreArms linked ts t is n xs
    → AreArms linked ts t (x.id ∷ y.id ∷ is) (max (max x.shape.nesting y.shape.nesting) n) (arm a p b q xs)
arm_before {linked} {ts} {x} {y} {a} {b} p q {t} {is} {n} {xs} f g h = record {
  below = (f.below, (g.below, h.below));
  other = h.other;
  trees = (λ i. tree (f.tree i) (tree (g.tree i) (h.trees i)));
  nesting = (λ i. max (max (f.shape i).nesting (g.shape i).nesting) (h.nesting i));
}

before_other : {linked : Bool} {ts : List Tree} {x y z : Read} {a b c : Phrase} (p q r s : Place) → IsIn linked ts x a → IsIn linked ts y b → IsIn linked ts z c
    → AreArms linked ts true (x.id ∷ y.id ∷ z.id ∷ []) (max (max x.shape.nesting y.shape.nesting) z.shape.nesting) (other_arm a p b q r s c)
before_other {linked} {ts} {x} {y} {z} {a} {b} {c} p q r s f g h = record {
  below = (f.below, (g.below, (h.below, tt)));
  other = refl;
  trees = (λ i. tree (f.tree i) (tree (g.tree i) (tree (h.tree i) no_trees)));
  nesting = (λ i. max (max (f.shape i).nesting (g.shape i).nesting) (h.shape i).nesting);
}

pub moved : {linked : Bool} {us : List Tree} {t : Bool} {is js : List ℕ} {m n : ℕ} {xs : Arms} → is ≡ js → m ≡ n → AreArms linked us t is m xs → AreArms linked us t js n xs
moved {linked} {us} {t} {is} {js} {m} {n} {xs} e f h = subst (λ (ks : List ℕ). AreArms linked us t ks n xs) e (subst (λ (k : ℕ). AreArms linked us t is k xs) f h)

-- tests and results in pairs, two for each arm
pub paired_more : (n : ℕ) → IsPaired n → IsPaired (suc (suc n))
paired_more zero h = absurd h
paired_more (suc n) h = h

-- ---- steps
module _ (r : Readers) (e : ℕ) (a : Phrase) (p : Place) (b : Phrase) (q : Place) (ts : List Token) where
  box_goes : (k : TokenView) → is_mark tk.box k && not (takes_box q.col b) ≡ true → arms_by r e a p b q k ts ≡ peek e (arms_other r e a p b q) (tail ts)
  box_goes (tk.mark tk.box) h = by (takes_box q.col b) h
    where
      by : (t : Bool) → not t ≡ true → arms_if t r e a p b q ts ≡ peek e (arms_other r e a p b q) (tail ts)
      by false h = refl
      by true h = absurd cc
  box_goes k h = absurd cc

  box_stops : (k : TokenView) → is_mark tk.box k && not (takes_box q.col b) ≡ false → arms_by r e a p b q k ts ≡ Ok (last_arm a p b, ts)
  box_stops (tk.mark tk.box) h = by (takes_box q.col b) h
    where
      by : (t : Bool) → not t ≡ false → arms_if t r e a p b q ts ≡ Ok (last_arm a p b, ts)
      by false h = absurd cc
      by true h = refl
  box_stops k h = refl

  at_other : (s : Place) (k : TokenView) → is_key tk.other_key k ≡ true → arms_other r e a p b q s k ts ≡ then_read (behind_mark r e tk.arrow (tail ts)) (λ x. gives (other_arm a p b q s x.0 x.1))
  at_other s (tk.key tk.other_key) h = then_two (a_mark e tk.arrow (tail ts)) (λ t. r.expr e free) (λ t c. (t, c)) (λ x. gives (other_arm a p b q s x.0 x.1))
  at_other s k h = absurd cc

  at_arm : (s : Place) (k : TokenView) → is_key tk.other_key k ≡ false → arms_other r e a p b q s k ts ≡ then_read (r.arms e ts) (λ xs. gives (arm a p b q xs))
  at_arm s (tk.key tk.other_key) h = absurd cc
  at_arm s k h = refl

module _ (r : Readers) (e : ℕ) where
  by_arm : (o : Out Phrase) → then_read o (λ a. a_mark e tk.arrow >>= λ p. r.expr e free >>= λ b. peek e (arms_by r e a p b)) ≡ then_read {A = Phrase × Place × Phrase} (then_read o (λ a. behind_mark r e tk.arrow >>= λ x. gives (a, x.0, x.1))) (λ x. peek e (arms_by r e x.0 x.1 x.2))
  by_arm (Ok x) =
      then_two (a_mark e tk.arrow x.1) (λ p. r.expr e free) (λ p b. (p, b)) (λ y. peek e (arms_by r e x.0 y.0 y.1))
      ∙ then_one (behind_mark r e tk.arrow x.1) (λ y. (x.0, y.0, y.1)) (λ y. peek e (arms_by r e y.0 y.1 y.2))
  by_arm (Err s) = refl

-- ---- the arms so far, up to one that was read
pub record ArmsSoFar (linked : Bool) (v : Tokens) (ts : List Tree) (b e from i : ℕ) (is : List ℕ) (n : ℕ) (last : Shape) : Type 0 where
  pub test : Phrase
  pub arrow : Place
  pub value : Phrase
  pub shape : shape_of linked value ≡ last
  pub before : Arms → Arms
  pub read : (whole_in linked (Some b)).arms e (ahead v from) ≡ put_after before (arms_by (whole_in linked (Some b)) e test arrow value (next e (ahead v i)).place (next e (ahead v i)).kind (ahead v i))
  pub all : AreArms linked ts false is n (before (last_arm test arrow value))
  pub others : (q : Place) (us : List Tree) (t : Bool) (js : List ℕ) (m : ℕ) (xs : Arms) → Keeps ts us → AreArms linked us t js m xs → AreArms linked us t (is ++ js) (max n m) (before (arm test arrow value q xs))
  pub other : (q r s : Place) (us : List Tree) (x : Read) (c : Phrase) → Keeps ts us → IsIn linked us x c → AreArms linked us true (is ++ x.id ∷ []) (max n x.shape.nesting) (before (other_arm test arrow value q r s c))

module _ (linked : Bool) (v : Tokens) (b e : ℕ) where
  arms_from : (ts : List Token) → (whole_in linked (Some b)).arms e ts ≡ then_read (one_arm (whole_in linked (Some b)) e ts) (λ x. peek e (arms_by (whole_in linked (Some b)) e x.0 x.1 x.2))
  arms_from ts = arms_is linked (Some b) e ts ∙ by_arm (whole_in linked (Some b)) e ((whole_in linked (Some b)).expr e free ts)

  arms_at : (x : Phrase × Place × Phrase) (ts us : List Token) → one_arm (whole_in linked (Some b)) e ts ≡ Ok (x, us) → (whole_in linked (Some b)).arms e ts ≡ arms_by (whole_in linked (Some b)) e x.0 x.1 x.2 (next e us).place (next e us).kind us
  arms_at x ts us h = arms_from ts ∙ ap (λ (o : Out (Phrase × Place × Phrase)). then_read o (λ x. peek e (arms_by (whole_in linked (Some b)) e x.0 x.1 x.2))) h

  pub arms_first : {ts : List Tree} {x y : Read} (from i : ℕ) → Reads (λ z. IsIn linked ts x z.0 × IsIn linked ts y z.2) (ahead v i) (one_arm (whole_in linked (Some b)) e (ahead v from))
      → ArmsSoFar linked v ts b e from i (x.id ∷ y.id ∷ []) (max x.shape.nesting y.shape.nesting) y.shape
  arms_first {ts} {x} {y} from i h = (let a = h.what in record {
    test = a.0;
    arrow = a.1;
    value = a.2;
    shape = h.told.1.shape;
    before = (λ xs. xs);
    read = arms_at a (ahead v from) (ahead v i) h.is ∙ after_nothing (arms_by (whole_in linked (Some b)) e a.0 a.1 a.2 (next e (ahead v i)).place (next e (ahead v i)).kind (ahead v i));
    all = arm_last a.1 h.told.0 h.told.1;
    others = (λ q us t js m xs k g. arm_before a.1 q (kept_in k h.told.0) (kept_in k h.told.1) g);
    other = (λ q r s us z c k g. before_other a.1 q r s (kept_in k h.told.0) (kept_in k h.told.1) g);
  })

  pub first_fails : (from : ℕ) (w : Halt) → Fails w (one_arm (whole_in linked (Some b)) e (ahead v from)) → Fails w ((whole_in linked (Some b)).arms e (ahead v from))
  first_fails from w h = subst (Fails w) (sym (arms_from (ahead v from))) (fails_then w _ (λ x. peek e (arms_by (whole_in linked (Some b)) e x.0 x.1 x.2)) h)

  module _ {ts : List Tree} {is : List ℕ} {n : ℕ} {last : Shape} (from i : ℕ) (so : ArmsSoFar linked v ts b e from i is n last) where
    pub arms_end : ((a : Phrase) → shape_of linked a ≡ last → is_arm_next e a (ahead v i) ≡ false) → Reads (AreArms linked ts false is n) (ahead v i) ((whole_in linked (Some b)).arms e (ahead v from))
    arms_end c = record {
      what = so.before (last_arm so.test so.arrow so.value);
      is = so.read ∙ ap (put_after so.before) (box_stops (whole_in linked (Some b)) e so.test so.arrow so.value (next e (ahead v i)).place (ahead v i) (next e (ahead v i)).kind (c so.value so.shape));
      told = so.all;
    }

    -- past the `[]`
    module _ (c : (a : Phrase) → shape_of linked a ≡ last → is_arm_next e a (ahead v i) ≡ true) (j : ℕ) (t : ahead v j ≡ tail (ahead v i)) where
      past_box : (whole_in linked (Some b)).arms e (ahead v from) ≡ put_after so.before (peek e (arms_other (whole_in linked (Some b)) e so.test so.arrow so.value (next e (ahead v i)).place) (ahead v j))
      past_box = (let q = (next e (ahead v i)).place in
          so.read ∙ ap (put_after so.before) (box_goes (whole_in linked (Some b)) e so.test so.arrow so.value q (ahead v i) (next e (ahead v i)).kind (c so.value so.shape)
          ∙ ap (peek e (arms_other (whole_in linked (Some b)) e so.test so.arrow so.value q)) (sym t)))

      module _ (d : is_key tk.other_key (next e (ahead v j)).kind ≡ false) where
        past_arm : (whole_in linked (Some b)).arms e (ahead v from) ≡ put_after (λ xs. so.before (arm so.test so.arrow so.value (next e (ahead v i)).place xs)) ((whole_in linked (Some b)).arms e (ahead v j))
        past_arm = (let q = (next e (ahead v i)).place in
            past_box ∙ ap (put_after so.before) (at_arm (whole_in linked (Some b)) e so.test so.arrow so.value q (ahead v j) (next e (ahead v j)).place (next e (ahead v j)).kind d)
            ∙ after_more so.before (arm so.test so.arrow so.value q) ((whole_in linked (Some b)).arms e (ahead v j)))

        pub arms_fails : (w : Halt) → Fails w (one_arm (whole_in linked (Some b)) e (ahead v j)) → Fails w ((whole_in linked (Some b)).arms e (ahead v from))
        arms_fails w h = subst (Fails w) (sym past_arm) (fails_after_all w (λ xs. so.before (arm so.test so.arrow so.value (next e (ahead v i)).place xs)) _ (first_fails j w h))

        pub arms_next : {us : List Tree} {x y : Read} (k : ℕ) → Keeps ts us → Reads (λ z. IsIn linked us x z.0 × IsIn linked us y z.2) (ahead v k) (one_arm (whole_in linked (Some b)) e (ahead v j))
            → ArmsSoFar linked v us b e from k (is ++ x.id ∷ y.id ∷ []) (max n (max x.shape.nesting y.shape.nesting)) y.shape
        arms_next {us} {x} {y} k l h =
            let q = (next e (ahead v i)).place in
            let a = h.what in
            let big : (m : ℕ) → max n (max (max x.shape.nesting y.shape.nesting) m) ≡ max (max n (max x.shape.nesting y.shape.nesting)) m = λ m. omega arith in
            record {
              test = a.0;
              arrow = a.1;
              value = a.2;
              shape = h.told.1.shape;
              before = (λ xs. so.before (arm so.test so.arrow so.value q xs));
              read = past_arm ∙ ap (put_after (λ xs. so.before (arm so.test so.arrow so.value q xs))) (arms_at a (ahead v j) (ahead v k) h.is);
              all = so.others q us _ _ _ _ l (arm_last a.1 h.told.0 h.told.1);
              others = (λ p ws t js m xs g f. moved (sym (append_assoc is (x.id ∷ y.id ∷ []) js)) (big m) (so.others q ws t _ _ _ (Keeps-then _ _ _ l g) (arm_before a.1 p (kept_in g h.told.0) (kept_in g h.told.1) f)));
              other = (λ p r s ws z c g f. moved (sym (append_assoc is (x.id ∷ y.id ∷ []) (z.id ∷ []))) (big z.shape.nesting) (so.others q ws true _ _ _ (Keeps-then _ _ _ l g) (before_other a.1 p r s (kept_in g h.told.0) (kept_in g h.told.1) f)));
            }

      -- past `OTHER`
      module _ (d : is_key tk.other_key (next e (ahead v j)).kind ≡ true) (k : ℕ) (u : ahead v k ≡ tail (ahead v j)) where
        past_other : (whole_in linked (Some b)).arms e (ahead v from) ≡ put_after (λ (x : Place × Phrase). so.before (other_arm so.test so.arrow so.value (next e (ahead v i)).place (next e (ahead v j)).place x.0 x.1)) (behind_mark (whole_in linked (Some b)) e tk.arrow (ahead v k))
        past_other =
            let q = (next e (ahead v i)).place in
            let s = (next e (ahead v j)).place in
            past_box ∙ ap (put_after so.before) (at_other (whole_in linked (Some b)) e so.test so.arrow so.value q (ahead v j) s (next e (ahead v j)).kind d)
            ∙ after_more so.before (λ (x : Place × Phrase). other_arm so.test so.arrow so.value q s x.0 x.1) (behind_mark (whole_in linked (Some b)) e tk.arrow (tail (ahead v j)))
            ∙ ap (λ (ts : List Token). put_after (λ (x : Place × Phrase). so.before (other_arm so.test so.arrow so.value q s x.0 x.1)) (behind_mark (whole_in linked (Some b)) e tk.arrow ts)) (sym u)

        pub other_fails : (w : Halt) → Fails w (behind_mark (whole_in linked (Some b)) e tk.arrow (ahead v k)) → Fails w ((whole_in linked (Some b)).arms e (ahead v from))
        other_fails w h = subst (Fails w) (sym past_other) (fails_after_all w (λ (x : Place × Phrase). so.before (other_arm so.test so.arrow so.value (next e (ahead v i)).place (next e (ahead v j)).place x.0 x.1)) _ h)

        pub other_end : {us : List Tree} {x : Read} (l : ℕ) → Keeps ts us → Reads (λ z. IsIn linked us x z.1) (ahead v l) (behind_mark (whole_in linked (Some b)) e tk.arrow (ahead v k))
            → Reads (AreArms linked us true (is ++ x.id ∷ []) (max n x.shape.nesting)) (ahead v l) ((whole_in linked (Some b)).arms e (ahead v from))
        other_end {us} {x} l m h =
            let q = (next e (ahead v i)).place in
            let s = (next e (ahead v j)).place in
            record {
              what = so.before (other_arm so.test so.arrow so.value q s h.what.0 h.what.1);
              is = past_other ∙ ap (put_after (λ (x : Place × Phrase). so.before (other_arm so.test so.arrow so.value q s x.0 x.1))) h.is;
              told = so.other q s h.what.0 us x h.what.1 m h.told;
            }
