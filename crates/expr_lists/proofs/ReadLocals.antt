-- The definitions of LET, as the code reads them: what was read goes before what is still to come.
use Rattle.std.proofs.Common.{Bool, ◌≡◌, ℕ, max, List, [], ◌∷◌, ◌++◌, Option, Ok, Some, None, refl, sym, ap, ◌∙◌, subst, arith}
use Rattle.std.proofs.lemmas.List.{append_assoc}
use Rattle.tla_token.specs.declared.place.Place.{Place}
use Rattle.tla_token.specs.declared.token.Tokens.{Tokens}
use Rattle.tla_tree.specs.Tree.{Word, Name, Tree, tree}
use Rattle.tla_tree.specs.TreeOf.{trees_from}
use Rattle.tla_tree.specs.Pool.{Keeps}
use Rattle.tla_tree.specs.Lexical.{TokenView, Token}
use Rattle.tla_tree.specs.Lexical as tk
use Rattle.tla_tree.specs.Spelling.{Phrase, Locals, last_local, more_locals, named}
use Rattle.tla_tree.specs.Reader.{Out, Readers, then_read, ◌>>=◌, gives, peek, next, tail, free, took, a_mark, a_word, word_of, locals_by}
use Rattle.tla_tree.specs.Whole.{whole_in}
use Rattle.tla_tree.proofs.PoolNumbers.{Keeps-then}
use Rattle.tla_tree.proofs.Whole.{locals_is}
use Rattle.expr_nodes.specs.declared.cursor.Halt.{Halt}
use Rattle.expr_nodes.specs.declared.make.Read.{Read}
use Rattle.expr_nodes.specs.ReadIn.{IsIn, AreLocals, Reads, Fails}
use Rattle.expr_nodes.specs.Ahead.{ahead}
use Rattle.expr_rows.specs.HasRead.{behind_mark}
use Rattle.expr_nodes.proofs.MakeLemmas.{kept_in}
use Rattle.expr_rows.proofs.ReadLemmas.{fails_then}
use Rattle.expr_rows.proofs.ReadLinks.{then_two}
use Rattle.expr_rows.proofs.ReadRows.{put_after, after_nothing, after_more, fails_after_all}

-- ---- one definition, and one before others
definition_last : {linked : Bool} {ts : List Tree} {x : Read} {a : Phrase} (p : Place) (w : Word) (q : Place) → IsIn linked ts x a → AreLocals linked ts (named p w ∷ []) (x.id ∷ []) x.shape.nesting (last_local p w q a)
definition_last {linked} {ts} {x} {a} p w q f = record {
  below = (f.below, tt);
  names = refl;
  sides = (λ us i. tree (sym f.tree i) (trees_from us));
  nesting = (λ i. (f.shape i).nesting);
}

definition_before : {linked : Bool} {ts : List Tree} {x : Read} {a : Phrase} (p : Place) (w : Word) (q : Place) {xs : List Name} {is : List ℕ} {n : ℕ} {ls : Locals} → IsIn linked ts x a → AreLocals linked ts xs is n ls
    → AreLocals linked ts (named p w ∷ xs) (x.id ∷ is) (max x.shape.nesting n) (more_locals p w q a ls)
definition_before {linked} {ts} {x} {a} p w q {xs} {is} {n} {ls} f h = record {
  below = (f.below, h.below);
  names = ap (λ (ys : List Name). named p w ∷ ys) h.names;
  sides = (λ us i. tree (sym f.tree i) (h.sides us i));
  nesting = (λ i. max (f.shape i).nesting (h.nesting i));
}

moved : {linked : Bool} {us : List Tree} {xs ys : List Name} {is js : List ℕ} {m n : ℕ} {ls : Locals} → xs ≡ ys → is ≡ js → m ≡ n → AreLocals linked us xs is m ls → AreLocals linked us ys js n ls
moved {linked} {us} {xs} {ys} {is} {js} {m} {n} {ls} d e f h = subst (λ (zs : List Name). AreLocals linked us zs js n ls) d (subst (λ (ks : List ℕ). AreLocals linked us xs ks n ls) e (subst (λ (k : ℕ). AreLocals linked us xs is k ls) f h))

-- ---- steps
module _ (r : Readers) (e : ℕ) (p : Place) (w : Word) (q : Place) (a : Phrase) (s : Place) (ts : List Token) where
  name_goes : (x : Place × Word) (k : TokenView) → word_of s k ≡ Some x → locals_by r e p w q a s k ts ≡ then_read (r.locals e ts) (λ ls. gives (more_locals p w q a ls))
  name_goes x (tk.word y) h = refl
  name_goes x k h = absurd cc

  name_stops : (k : TokenView) → word_of s k ≡ None → locals_by r e p w q a s k ts ≡ Ok (last_local p w q a, ts)
  name_stops (tk.word y) h = absurd cc
  name_stops k h = refl

-- ---- the definitions so far, up to one that was read
pub record LocalsSoFar (linked : Bool) (v : Tokens) (ts : List Tree) (b e from i : ℕ) (xs : List Name) (is : List ℕ) (n : ℕ) : Type 0 where
  pub place : Place
  pub word : Word
  pub defines : Place
  pub side : Phrase
  pub before : Locals → Locals
  pub read : (whole_in linked (Some b)).locals e (ahead v from) ≡ put_after before (locals_by (whole_in linked (Some b)) e place word defines side (next e (ahead v i)).place (next e (ahead v i)).kind (ahead v i))
  pub all : AreLocals linked ts xs is n (before (last_local place word defines side))
  pub others : (us : List Tree) (ys : List Name) (js : List ℕ) (m : ℕ) (ls : Locals) → Keeps ts us → AreLocals linked us ys js m ls → AreLocals linked us (xs ++ ys) (is ++ js) (max n m) (before (more_locals place word defines side ls))

module _ (linked : Bool) (v : Tokens) (b e : ℕ) where
  locals_from : (x : Place × Word) (ts us : List Token) → a_word e ts ≡ Ok (x, us)
      → (whole_in linked (Some b)).locals e ts ≡ then_read (behind_mark (whole_in linked (Some b)) e tk.defines us) (λ y. peek e (locals_by (whole_in linked (Some b)) e x.0 x.1 y.0 y.1))
  locals_from x ts us h =
      locals_is linked (Some b) e ts
      ∙ ap (λ (o : Out (Place × Word)). then_read o (λ x. a_mark e tk.defines >>= λ q. (whole_in linked (Some b)).expr e free >>= λ a. peek e (locals_by (whole_in linked (Some b)) e x.0 x.1 q a))) h
      ∙ then_two (a_mark e tk.defines us) (λ q. (whole_in linked (Some b)).expr e free) (λ q a. (q, a)) (λ y. peek e (locals_by (whole_in linked (Some b)) e x.0 x.1 y.0 y.1))

  locals_at : (x : Place × Word) (y : Place × Phrase) (ts us ws : List Token) → a_word e ts ≡ Ok (x, us) → behind_mark (whole_in linked (Some b)) e tk.defines us ≡ Ok (y, ws)
      → (whole_in linked (Some b)).locals e ts ≡ locals_by (whole_in linked (Some b)) e x.0 x.1 y.0 y.1 (next e ws).place (next e ws).kind ws
  locals_at x y ts us ws h g = locals_from x ts us h ∙ ap (λ (o : Out (Place × Phrase)). then_read o (λ y. peek e (locals_by (whole_in linked (Some b)) e x.0 x.1 y.0 y.1))) g

  pub name_fails : (from : ℕ) (w : Halt) → Fails w (a_word e (ahead v from)) → Fails w ((whole_in linked (Some b)).locals e (ahead v from))
  name_fails from w h = subst (Fails w) (sym (locals_is linked (Some b) e (ahead v from))) (fails_then w _ (λ x. a_mark e tk.defines >>= λ q. (whole_in linked (Some b)).expr e free >>= λ a. peek e (locals_by (whole_in linked (Some b)) e x.0 x.1 q a)) h)

  pub first_fails : (from j : ℕ) (x : Place × Word) (w : Halt) → a_word e (ahead v from) ≡ Ok (x, ahead v j) → Fails w (behind_mark (whole_in linked (Some b)) e tk.defines (ahead v j)) → Fails w ((whole_in linked (Some b)).locals e (ahead v from))
  first_fails from j x w i h = subst (Fails w) (sym (locals_from x (ahead v from) (ahead v j) i)) (fails_then w _ (λ y. peek e (locals_by (whole_in linked (Some b)) e x.0 x.1 y.0 y.1)) h)

  pub locals_first : {ts : List Tree} {x : Read} (from j i : ℕ) (z : Place × Word) → a_word e (ahead v from) ≡ Ok (z, ahead v j) → Reads (λ y. IsIn linked ts x y.1) (ahead v i) (behind_mark (whole_in linked (Some b)) e tk.defines (ahead v j))
      → LocalsSoFar linked v ts b e from i (named z.0 z.1 ∷ []) (x.id ∷ []) x.shape.nesting
  locals_first {ts} {x} from j i z g h = (let y = h.what in record {
    place = z.0;
    word = z.1;
    defines = y.0;
    side = y.1;
    before = (λ xs. xs);
    read = locals_at z y (ahead v from) (ahead v j) (ahead v i) g h.is ∙ after_nothing (locals_by (whole_in linked (Some b)) e z.0 z.1 y.0 y.1 (next e (ahead v i)).place (next e (ahead v i)).kind (ahead v i));
    all = definition_last z.0 z.1 y.0 h.told;
    others = (λ us ys js m ls k f. definition_before z.0 z.1 y.0 (kept_in k h.told) f);
  })

  module _ {ts : List Tree} {xs : List Name} {is : List ℕ} {n : ℕ} (from i : ℕ) (so : LocalsSoFar linked v ts b e from i xs is n) where
    pub locals_end : word_of (next e (ahead v i)).place (next e (ahead v i)).kind ≡ None → Reads (AreLocals linked ts xs is n) (ahead v i) ((whole_in linked (Some b)).locals e (ahead v from))
    locals_end c = record {
      what = so.before (last_local so.place so.word so.defines so.side);
      is = so.read ∙ ap (put_after so.before) (name_stops (whole_in linked (Some b)) e so.place so.word so.defines so.side (next e (ahead v i)).place (ahead v i) (next e (ahead v i)).kind c);
      told = so.all;
    }

    module _ (z : Place × Word) (c : word_of (next e (ahead v i)).place (next e (ahead v i)).kind ≡ Some z) (j : ℕ) (t : ahead v j ≡ tail (ahead v i)) where
      past_name : a_word e (ahead v i) ≡ Ok (z, ahead v j)
      past_name = ap (λ (o : Option (Place × Word)). took o (ahead v i)) c ∙ ap (λ (us : List Token). Ok (z, us)) (sym t)

      past_one : (whole_in linked (Some b)).locals e (ahead v from) ≡ put_after (λ ls. so.before (more_locals so.place so.word so.defines so.side ls)) ((whole_in linked (Some b)).locals e (ahead v i))
      past_one =
          so.read ∙ ap (put_after so.before) (name_goes (whole_in linked (Some b)) e so.place so.word so.defines so.side (next e (ahead v i)).place (ahead v i) z (next e (ahead v i)).kind c)
          ∙ after_more so.before (more_locals so.place so.word so.defines so.side) ((whole_in linked (Some b)).locals e (ahead v i))

      pub locals_fails : (w : Halt) → Fails w (behind_mark (whole_in linked (Some b)) e tk.defines (ahead v j)) → Fails w ((whole_in linked (Some b)).locals e (ahead v from))
      locals_fails w h = subst (Fails w) (sym past_one) (fails_after_all w (λ ls. so.before (more_locals so.place so.word so.defines so.side ls)) _ (first_fails i j z w past_name h))

      pub locals_next : {us : List Tree} {x : Read} (k : ℕ) → Keeps ts us → Reads (λ y. IsIn linked us x y.1) (ahead v k) (behind_mark (whole_in linked (Some b)) e tk.defines (ahead v j))
          → LocalsSoFar linked v us b e from k (xs ++ named z.0 z.1 ∷ []) (is ++ x.id ∷ []) (max n x.shape.nesting)
      locals_next {us} {x} k l h =
          let y = h.what in
          let big : (m : ℕ) → max n (max x.shape.nesting m) ≡ max (max n x.shape.nesting) m = λ m. omega arith in
          record {
            place = z.0;
            word = z.1;
            defines = y.0;
            side = y.1;
            before = (λ ls. so.before (more_locals so.place so.word so.defines so.side ls));
            read = past_one ∙ ap (put_after (λ ls. so.before (more_locals so.place so.word so.defines so.side ls))) (locals_at z y (ahead v i) (ahead v j) (ahead v k) past_name h.is);
            all = so.others us _ _ _ _ l (definition_last z.0 z.1 y.0 h.told);
            others = (λ ws ys js m ls g f. moved (sym (append_assoc xs (named z.0 z.1 ∷ []) ys)) (sym (append_assoc is (x.id ∷ []) js)) (big m)
                (so.others ws _ _ _ _ (Keeps-then _ _ _ l g) (definition_before z.0 z.1 y.0 (kept_in g h.told) f)));
          }
