-- Expressions in a row, as the code reads them: what was read goes before what is still to come.
use Rattle.std.proofs.Common.{Bool, ◌≡◌, ℕ, max, true, false, List, [], ◌∷◌, ◌++◌, Ok, Err, Some, refl, sym, ap, ◌∙◌, subst, arith}
use Rattle.std.proofs.lemmas.List.{append_assoc}
use Rattle.tla_token.specs.declared.place.Place.{Place}
use Rattle.tla_token.specs.declared.token.Tokens.{Tokens}
use Rattle.tla_tree.specs.Tree.{Tree, no_trees, tree}
use Rattle.tla_tree.specs.Pool.{Keeps}
use Rattle.tla_tree.specs.Lexical.{TokenView, Token}
use Rattle.tla_tree.specs.Lexical as tk
use Rattle.tla_tree.specs.Spelling.{Phrase, Phrases, last, more}
use Rattle.tla_tree.specs.Reader.{Out, then_read, gives, peek, next, tail, free, is_mark, phrases_by}
use Rattle.tla_tree.specs.Whole.{whole_in}
use Rattle.tla_tree.proofs.Whole.{phrases_is}
use Rattle.tla_tree.proofs.SoundTokens.{mark_is}
use Rattle.expr_nodes.specs.declared.cursor.Halt.{Halt}
use Rattle.expr_nodes.specs.declared.cursor.Halt.TheVariants as halt
use Rattle.expr_nodes.specs.declared.make.Read.{Read}
use Rattle.expr_nodes.specs.declared.make.Row.{Row}
use Rattle.expr_nodes.specs.declared.shape.Shape.{Shape}
use Rattle.expr_nodes.specs.ReadIn.{IsIn, AreIn, Reads, Fails}
use Rattle.expr_nodes.specs.Ahead.{ahead}
use Rattle.expr_nodes.proofs.MakeLemmas.{kept_in, starts}
use Rattle.expr_rows.proofs.ReadLemmas.{fails_then}

-- ---- what is read, put after what was read
abbrev pub put_after : {A B : Type 0} → (A → B) → Out A → Out B
put_after f (Ok x) = Ok (f x.0, x.1)
put_after f (Err s) = Err s

pub after_nothing : {A : Type 0} (o : Out A) → o ≡ put_after (λ x. x) o
after_nothing (Ok x) = refl
after_nothing (Err s) = refl

pub after_more : {A B C : Type 0} (f : B → C) (g : A → B) (o : Out A) → put_after f (then_read o (λ x. gives (g x))) ≡ put_after (λ x. f (g x)) o
after_more f g (Ok x) = refl
after_more f g (Err s) = refl

pub fails_after_all : {A B : Type 0} (e : Halt) (f : A → B) (o : Out A) → Fails e o → Fails e (put_after f o)
fails_after_all halt.Memory f o h = tt
fails_after_all (halt.Refused r n) f (Ok x) h = absurd h
fails_after_all (halt.Refused r n) f (Err s) h = h

-- ---- one of them, and one before others
pub one_in : {linked : Bool} {ts : List Tree} {x : Read} {a : Phrase} → IsIn linked ts x a → AreIn linked ts (x.id ∷ []) (record { first = x.shape.start; nesting = x.shape.nesting }) (last a)
one_in {linked} {ts} {x} {a} h = record {
  below = (h.below, tt);
  trees = ap (λ (t : Tree). tree t no_trees) h.tree;
  nesting = ap (λ (s : Shape). s.nesting) h.shape;
  first = sym (starts h);
}

pub more_in : {linked : Bool} {ts : List Tree} {x : Read} {a : Phrase} (p : Place) {is : List ℕ} {r : Row} {xs : Phrases} → IsIn linked ts x a → AreIn linked ts is r xs
    → AreIn linked ts (x.id ∷ is) (record { first = x.shape.start; nesting = max x.shape.nesting r.nesting }) (more a p xs)
more_in {linked} {ts} {x} {a} p {is} {r} {xs} h g = record {
  below = (h.below, g.below);
  trees = (λ i. tree (h.tree i) (g.trees i));
  nesting = (λ i. max (h.shape i).nesting (g.nesting i));
  first = sym (starts h);
}

-- ---- the row so far, up to one that was read
pub record RowSoFar (linked : Bool) (v : Tokens) (ts : List Tree) (b e from i : ℕ) (is : List ℕ) (first : Place) (n : ℕ) : Type 0 where
  pub now : Phrase
  pub before : Phrases → Phrases
  pub read : (whole_in linked (Some b)).phrases e (ahead v from) ≡ put_after before (phrases_by (whole_in linked (Some b)) e now (next e (ahead v i)).place (next e (ahead v i)).kind (ahead v i))
  pub all : AreIn linked ts is (record { first = first; nesting = n }) (before (last now))
  pub others : (p : Place) (us : List Tree) (js : List ℕ) (r : Row) (xs : Phrases) → Keeps ts us → AreIn linked us js r xs → AreIn linked us (is ++ js) (record { first = first; nesting = max n r.nesting }) (before (more now p xs))

module _ (linked : Bool) (v : Tokens) (b e : ℕ) where
  phrases_at : (a : Phrase) (ts us : List Token) → (whole_in linked (Some b)).expr e free ts ≡ Ok (a, us) → (whole_in linked (Some b)).phrases e ts ≡ phrases_by (whole_in linked (Some b)) e a (next e us).place (next e us).kind us
  phrases_at a ts us h = phrases_is linked (Some b) e ts ∙ ap (λ (o : Out Phrase). then_read o (λ a. peek e (phrases_by (whole_in linked (Some b)) e a))) h

  by_comma : (a : Phrase) (p : Place) (k : TokenView) (us : List Token) → is_mark tk.comma k ≡ true → phrases_by (whole_in linked (Some b)) e a p k us ≡ then_read ((whole_in linked (Some b)).phrases e (tail us)) (λ xs. gives (more a p xs))
  by_comma a p k us h = ap (λ (k : TokenView). phrases_by (whole_in linked (Some b)) e a p k us) (mark_is tk.comma k h)

  by_none : (a : Phrase) (p : Place) (k : TokenView) (us : List Token) → is_mark tk.comma k ≡ false → phrases_by (whole_in linked (Some b)) e a p k us ≡ Ok (last a, us)
  by_none a p (tk.mark tk.comma) us h = (let no : true ≡ false = h in absurd cc)
  by_none a p k us h = refl

  pub row_first : {ts : List Tree} {x : Read} (from i : ℕ) → Reads (IsIn linked ts x) (ahead v i) ((whole_in linked (Some b)).expr e free (ahead v from)) → RowSoFar linked v ts b e from i (x.id ∷ []) x.shape.start x.shape.nesting
  row_first {ts} {x} from i h = record {
    now = h.what;
    before = (λ xs. xs);
    read = phrases_at h.what (ahead v from) (ahead v i) h.is ∙ after_nothing (phrases_by (whole_in linked (Some b)) e h.what (next e (ahead v i)).place (next e (ahead v i)).kind (ahead v i));
    all = one_in h.told;
    others = (λ p us js r xs k g. more_in p (kept_in k h.told) g);
  }

  -- past a comma
  past_comma : {ts : List Tree} {is : List ℕ} {first : Place} {n : ℕ} (from i j : ℕ) → (s : RowSoFar linked v ts b e from i is first n) → is_mark tk.comma (next e (ahead v i)).kind ≡ true → ahead v j ≡ tail (ahead v i)
      → (whole_in linked (Some b)).phrases e (ahead v from) ≡ put_after (λ xs. s.before (more s.now (next e (ahead v i)).place xs)) ((whole_in linked (Some b)).phrases e (ahead v j))
  past_comma from i j s c t =
      let p = (next e (ahead v i)).place in
      s.read ∙ ap (put_after s.before) (by_comma s.now p (next e (ahead v i)).kind (ahead v i) c)
      ∙ after_more s.before (more s.now p) ((whole_in linked (Some b)).phrases e (tail (ahead v i)))
      ∙ ap (λ (ts : List Token). put_after (λ xs. s.before (more s.now p xs)) ((whole_in linked (Some b)).phrases e ts)) (sym t)

  pub row_next : {ts us : List Tree} {x : Read} {is : List ℕ} {first : Place} {n : ℕ} (from i j k : ℕ) → RowSoFar linked v ts b e from i is first n → is_mark tk.comma (next e (ahead v i)).kind ≡ true → ahead v j ≡ tail (ahead v i)
      → Keeps ts us → Reads (IsIn linked us x) (ahead v k) ((whole_in linked (Some b)).expr e free (ahead v j)) → RowSoFar linked v us b e from k (is ++ x.id ∷ []) first (max n x.shape.nesting)
  row_next {ts} {us} {x} {is} {first} {n} from i j k s c t l h =
      let p = (next e (ahead v i)).place in
      record {
        now = h.what;
        before = (λ xs. s.before (more s.now p xs));
        read = past_comma from i j s c t ∙ ap (put_after (λ xs. s.before (more s.now p xs))) (phrases_at h.what (ahead v j) (ahead v k) h.is);
        all = s.others p us _ _ _ l (one_in h.told);
        others = (λ q ws js r xs m g.
            let a = s.others p ws _ _ _ (record { longer = omega (arith, l.longer, m.longer); same = λ d z. m.same d (omega (arith, l.longer, z)) ∙ l.same d z }) (more_in q (kept_in m h.told) g) in
            let big : max n (max x.shape.nesting r.nesting) ≡ max (max n x.shape.nesting) r.nesting = omega arith in
            subst (λ (w : ℕ). AreIn linked ws (is ++ (x.id ∷ []) ++ js) (record { first = first; nesting = w }) (s.before (more s.now p (more h.what q xs)))) big
            (subst (λ (ks : List ℕ). AreIn linked ws ks (record { first = first; nesting = max n (max x.shape.nesting r.nesting) }) (s.before (more s.now p (more h.what q xs)))) (sym (append_assoc is (x.id ∷ []) js)) a));
      }

  pub row_fails : {ts : List Tree} {is : List ℕ} {first : Place} {n : ℕ} (from i j : ℕ) (w : Halt) → RowSoFar linked v ts b e from i is first n → is_mark tk.comma (next e (ahead v i)).kind ≡ true → ahead v j ≡ tail (ahead v i)
      → Fails w ((whole_in linked (Some b)).expr e free (ahead v j)) → Fails w ((whole_in linked (Some b)).phrases e (ahead v from))
  row_fails from i j w s c t h =
      subst (Fails w) (sym (past_comma from i j s c t ∙ ap (put_after (λ xs. s.before (more s.now (next e (ahead v i)).place xs))) (phrases_is linked (Some b) e (ahead v j))))
      (fails_after_all w (λ xs. s.before (more s.now (next e (ahead v i)).place xs)) _ (fails_then w _ (λ a. peek e (phrases_by (whole_in linked (Some b)) e a)) h))

  pub row_end : {ts : List Tree} {is : List ℕ} {first : Place} {n : ℕ} (from i : ℕ) → RowSoFar linked v ts b e from i is first n → is_mark tk.comma (next e (ahead v i)).kind ≡ false
      → Reads (AreIn linked ts is (record { first = first; nesting = n })) (ahead v i) ((whole_in linked (Some b)).phrases e (ahead v from))
  row_end from i s c = record {
    what = s.before (last s.now);
    is = s.read ∙ ap (put_after s.before) (by_none s.now (next e (ahead v i)).place (next e (ahead v i)).kind (ahead v i) c);
    told = s.all;
  }

  pub first_fails : (from : ℕ) (w : Halt) → Fails w ((whole_in linked (Some b)).expr e free (ahead v from)) → Fails w ((whole_in linked (Some b)).phrases e (ahead v from))
  first_fails from w h = subst (Fails w) (sym (phrases_is linked (Some b) e (ahead v from))) (fails_then w _ (λ a. peek e (phrases_by (whole_in linked (Some b)) e a)) h)
