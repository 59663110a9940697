-- Binds, as the code reads them: what was read goes before what is still to come.
use Rattle.std.proofs.Common.{Bool, ◌≡◌, ℕ, max, true, false, List, [], ◌∷◌, ◌++◌, length, Ok, Some, refl, sym, ap, ◌∙◌, subst, arith}
use Rattle.std.proofs.lemmas.List.{append_assoc}
use Rattle.tla_token.specs.declared.place.Place.{Place}
use Rattle.tla_token.specs.declared.token.Tokens.{Tokens}
use Rattle.tla_tree.specs.declared.op.Op.TheVariants as op
use Rattle.tla_tree.specs.Tree.{Tree, Trees, tree, Name, Word}
use Rattle.tla_tree.specs.TreeOf.{trees_from}
use Rattle.tla_tree.specs.Pool.{Keeps}
use Rattle.tla_tree.specs.Lexical.{TokenView, Token}
use Rattle.tla_tree.specs.Lexical as tk
use Rattle.tla_tree.specs.Spelling.{Phrase, Binds, last_bind, bind, share, named, in_first, groups, sets_before}
use Rattle.tla_tree.specs.Reader.{Out, Reader, then_read, ◌>>=◌, gives, peek, next, tail, free, is_mark, is_sign, place_if, took, a_word, a_sign, binds_by, bind_rest}
use Rattle.tla_tree.specs.Whole.{whole_in}
use Rattle.tla_tree.proofs.Whole.{binds_is}
use Rattle.tla_tree.proofs.SoundTokens.{mark_is}
use Rattle.tla_tree.proofs.PoolNumbers.{Keeps-then, AllBelow-more, map_at-kept}
use Rattle.expr_nodes.specs.declared.cursor.Halt.{Halt}
use Rattle.expr_nodes.specs.declared.make.Read.{Read}
use Rattle.expr_nodes.specs.declared.shape.Shape.{Shape}
use Rattle.expr_nodes.specs.ReadIn.{IsIn, AreBound, Reads, Fails}
use Rattle.expr_nodes.specs.ShapeOf.{in_binds}
use Rattle.expr_nodes.specs.Ahead.{ahead}
use Rattle.expr_binders.specs.Grouped.{Grouped}
use Rattle.expr_nodes.proofs.MakeLemmas.{kept_in}
use Rattle.expr_rows.proofs.ReadLemmas.{fails_then, fails_on}
use Rattle.expr_rows.proofs.ReadPut.{then_gives, put_on, put_fails}

-- ---- names and groups
abbrev pub onto : List Name → List (List Name) → List (List Name)
onto xs [] = xs ∷ []
onto xs (g ∷ gs) = (xs ++ g) ∷ gs

onto_first : (x : Name) (gs : List (List Name)) → in_first x gs ≡ onto [] (in_first x gs)
onto_first x [] = refl
onto_first x (g ∷ gs) = refl

onto_none : (bs : Binds) → groups bs ≡ onto [] (groups bs)
onto_none (last_bind p x q a) = refl
onto_none (bind p x q a r bs) = refl
onto_none (share p x q bs) = onto_first (named p x) (groups bs)

onto_more : (xs : List Name) (x : Name) (gs : List (List Name)) → onto xs (in_first x gs) ≡ onto (xs ++ x ∷ []) gs
onto_more xs x [] = refl
onto_more xs x (g ∷ gs) = ap (λ (ys : List Name). ys ∷ gs) (sym (append_assoc xs (x ∷ []) g))

-- ---- in a pool that grew
pub kept_bound : {linked : Bool} {old new : List Tree} {gs : List (List Name)} {is : List ℕ} {n : ℕ} {bs : Binds} → Keeps old new → AreBound linked old gs is n bs → AreBound linked new gs is n bs
kept_bound {linked} {old} {new} {gs} {is} {n} {bs} k h = record {
  below = AllBelow-more (length old) (length new) is k.longer h.below;
  names = h.names;
  sets = (λ us. h.sets us ∙ ap (λ (ts : List Tree). trees_from (ts ++ us)) (sym (map_at-kept old new is k h.below)));
  nesting = h.nesting;
}

-- ---- one bind, and one before others
pub one_bound : {linked : Bool} {ts : List Tree} {x : Read} {a : Phrase} (p : Place) (w : Word) (q : Place) → IsIn linked ts x a → AreBound linked ts ((named p w ∷ []) ∷ []) (x.id ∷ []) x.shape.nesting (last_bind p w q a)
one_bound {linked} p w q h = record {
  below = (h.below, tt);
  names = refl;
  sets = (λ us. ap (λ (t : Tree). tree t (trees_from us)) (sym h.tree));
  nesting = ap (λ (s : Shape). s.nesting) h.shape;
}

pub bound_before : {linked : Bool} {ts : List Tree} {x : Read} {a : Phrase} {gs : List (List Name)} {is : List ℕ} {n : ℕ} {bs : Binds} (p : Place) (w : Word) (q r : Place) → IsIn linked ts x a → AreBound linked ts gs is n bs
    → AreBound linked ts ((named p w ∷ []) ∷ gs) (x.id ∷ is) (max x.shape.nesting n) (bind p w q a r bs)
bound_before {linked} p w q r h g = record {
  below = (h.below, g.below);
  names = ap (λ (gs : List (List Name)). (named p w ∷ []) ∷ gs) g.names;
  sets = (λ us y. tree (sym h.tree y) (g.sets us y));
  nesting = (λ y. max (h.shape y).nesting (g.nesting y));
}

-- ---- the readers' steps
module _ (linked : Bool) (b e : ℕ) (p : Place) (x : Word) (ts : List Token) where
  comma_next : is_mark tk.comma (next e ts).kind ≡ true
      → (whole_in linked (Some b)).binds e p x ts ≡ then_read (a_word e (tail ts)) (λ y. (whole_in linked (Some b)).binds e y.0 y.1 >>= λ bs. gives (share p x (next e ts).place bs))
  comma_next h = binds_is linked (Some b) e p x ts ∙ ap (λ (k : TokenView). binds_by (whole_in linked (Some b)) e p x (next e ts).place k ts) (mark_is tk.comma (next e ts).kind h)

  sign_next : is_mark tk.comma (next e ts).kind ≡ false
      → (whole_in linked (Some b)).binds e p x ts ≡ then_read (a_sign e op.In ts) (λ q. (whole_in linked (Some b)).expr e free >>= λ a. peek e (bind_rest (whole_in linked (Some b)) e p x q a))
  sign_next h = binds_is linked (Some b) e p x ts ∙ by (next e ts).place (next e ts).kind h
    where
      by : (s : Place) (k : TokenView) → is_mark tk.comma k ≡ false
          → binds_by (whole_in linked (Some b)) e p x s k ts ≡ then_read (took (place_if (is_sign op.In) s k) ts) (λ q. (whole_in linked (Some b)).expr e free >>= λ a. peek e (bind_rest (whole_in linked (Some b)) e p x q a))
      by s (tk.mark tk.comma) h = (let no : true ≡ false = h in absurd cc)
      by s (tk.sign op.In) h = refl
      by s k h = refl

-- after a set
module _ (linked : Bool) (b e : ℕ) (p : Place) (x : Word) (q : Place) (a : Phrase) (ts : List Token) where
  pub rest_none : is_mark tk.comma (next e ts).kind ≡ false → peek e (bind_rest (whole_in linked (Some b)) e p x q a) ts ≡ Ok (last_bind p x q a, ts)
  rest_none h = by (next e ts).kind h
    where
      by : (k : TokenView) → is_mark tk.comma k ≡ false → bind_rest (whole_in linked (Some b)) e p x q a (next e ts).place k ts ≡ Ok (last_bind p x q a, ts)
      by (tk.mark tk.comma) h = (let no : true ≡ false = h in absurd cc)
      by k h = refl

  rest_comma : is_mark tk.comma (next e ts).kind ≡ true
      → peek e (bind_rest (whole_in linked (Some b)) e p x q a) ts ≡ then_read (a_word e (tail ts)) (λ y. (whole_in linked (Some b)).binds e y.0 y.1 >>= λ bs. gives (bind p x q a (next e ts).place bs))
  rest_comma h = ap (λ (k : TokenView). bind_rest (whole_in linked (Some b)) e p x q a (next e ts).place k ts) (mark_is tk.comma (next e ts).kind h)

  -- past a comma, by the number of the token behind it
  module _ (c : is_mark tk.comma (next e ts).kind ≡ true) (us : List Token) (t : us ≡ tail ts) where
    past_comma : peek e (bind_rest (whole_in linked (Some b)) e p x q a) ts ≡ then_read (a_word e us) (λ y. (whole_in linked (Some b)).binds e y.0 y.1 >>= λ bs. gives (bind p x q a (next e ts).place bs))
    past_comma = rest_comma c ∙ ap (λ (us : List Token). then_read (a_word e us) (λ y. (whole_in linked (Some b)).binds e y.0 y.1 >>= λ bs. gives (bind p x q a (next e ts).place bs))) (sym t)

    pub rest_lost : (w : Halt) → Fails w (a_word e us) → Fails w (peek e (bind_rest (whole_in linked (Some b)) e p x q a) ts)
    rest_lost w h = subst (Fails w) (sym past_comma) (fails_then w (a_word e us) _ h)

    module _ (y : Place × Word) (vs : List Token) (k : a_word e us ≡ Ok (y, vs)) where
      past_word : peek e (bind_rest (whole_in linked (Some b)) e p x q a) ts ≡ then_read ((whole_in linked (Some b)).binds e y.0 y.1 vs) (λ bs. gives (bind p x q a (next e ts).place bs))
      past_word = past_comma ∙ ap (λ (o : Out (Place × Word)). then_read o (λ y. (whole_in linked (Some b)).binds e y.0 y.1 >>= λ bs. gives (bind p x q a (next e ts).place bs))) k

      pub rest_later : (w : Halt) → Fails w ((whole_in linked (Some b)).binds e y.0 y.1 vs) → Fails w (peek e (bind_rest (whole_in linked (Some b)) e p x q a) ts)
      rest_later w h = subst (Fails w) (sym past_word) (fails_then w ((whole_in linked (Some b)).binds e y.0 y.1 vs) _ h)

      pub rest_all : {old new : List Tree} {set : Read} {gs : List (List Name)} {is : List ℕ} {n : ℕ} {ws : List Token} → IsIn linked old set a → Keeps old new → Reads (AreBound linked new gs is n) ws ((whole_in linked (Some b)).binds e y.0 y.1 vs)
          → Reads (AreBound linked new ((named p x ∷ []) ∷ gs) (set.id ∷ is) (max set.shape.nesting n)) ws (peek e (bind_rest (whole_in linked (Some b)) e p x q a) ts)
      rest_all i l h = record {
        what = bind p x q a (next e ts).place h.what;
        is = past_word ∙ ap (λ (o : Out Binds). then_read o (λ bs. gives (bind p x q a (next e ts).place bs))) h.is;
        told = bound_before p x q (next e ts).place (kept_in l i) h.told;
      }

-- ---- the names of a group so far, reading being behind the last of them
pub record NamesSoFar (linked : Bool) (v : Tokens) (b e i : ℕ) (names : List Name) (o : Out Binds) : Type 0 where
  pub others : List Name
  pub place : Place
  pub word : Word
  pub all : names ≡ others ++ named place word ∷ []
  pub before : Binds → Binds
  pub is : o ≡ then_read ((whole_in linked (Some b)).binds e place word (ahead v i)) (λ bs. gives (before bs))
  pub grouped : (bs : Binds) → groups (before bs) ≡ onto others (groups bs)
  pub set_trees : (bs : Binds) (ts : Trees) → sets_before (before bs) ts ≡ sets_before bs ts
  pub opens : (bs : Binds) → in_binds linked (before bs) ≡ in_binds linked bs

module _ {linked : Bool} (v : Tokens) (b e : ℕ) where
  pub names_first : (i : ℕ) (p : Place) (x : Word) → NamesSoFar linked v b e i (named p x ∷ []) ((whole_in linked (Some b)).binds e p x (ahead v i))
  names_first i p x = record {
    others = [];
    place = p;
    word = x;
    all = refl;
    before = (λ bs. bs);
    is = sym (then_gives ((whole_in linked (Some b)).binds e p x (ahead v i)));
    grouped = onto_none;
    set_trees = (λ bs ts. refl);
    opens = (λ bs. refl);
  }

  pub names_next : {i : ℕ} {names : List Name} {o : Out Binds} (j k : ℕ) (y : Place × Word) → NamesSoFar linked v b e i names o → is_mark tk.comma (next e (ahead v i)).kind ≡ true → ahead v j ≡ tail (ahead v i)
      → a_word e (ahead v j) ≡ Ok (y, ahead v k) → NamesSoFar linked v b e k (names ++ named y.0 y.1 ∷ []) o
  names_next {i} {names} {o} j k y s c t h =
      let q = (next e (ahead v i)).place in
      let on : (whole_in linked (Some b)).binds e s.place s.word (ahead v i) ≡ then_read ((whole_in linked (Some b)).binds e y.0 y.1 (ahead v k)) (λ bs. gives (share s.place s.word q bs)) =
      comma_next _ b e s.place s.word (ahead v i) c
      ∙ ap (λ (ts : List Token). then_read (a_word e ts) (λ y. (whole_in linked (Some b)).binds e y.0 y.1 >>= λ bs. gives (share s.place s.word q bs))) (sym t)
      ∙ ap (λ (o : Out (Place × Word)). then_read o (λ y. (whole_in linked (Some b)).binds e y.0 y.1 >>= λ bs. gives (share s.place s.word q bs))) h in
      record {
        others = names;
        place = y.0;
        word = y.1;
        all = refl;
        before = (λ bs. s.before (share s.place s.word q bs));
        is = put_on s.before (share s.place s.word q) _ s.is on;
        grouped = (λ bs. s.grouped (share s.place s.word q bs) ∙ onto_more s.others (named s.place s.word) (groups bs) ∙ ap (λ (xs : List Name). onto xs (groups bs)) (sym s.all));
        set_trees = (λ bs ts. s.set_trees (share s.place s.word q bs) ts);
        opens = (λ bs. s.opens (share s.place s.word q bs));
      }

  pub name_lost : {i : ℕ} {names : List Name} {o : Out Binds} (j : ℕ) (w : Halt) → NamesSoFar linked v b e i names o → is_mark tk.comma (next e (ahead v i)).kind ≡ true → ahead v j ≡ tail (ahead v i) → Fails w (a_word e (ahead v j)) → Fails w o
  name_lost {i} {names} {o} j w s c t h =
      put_fails w s.before _ s.is (subst (Fails w) (sym (comma_next _ b e s.place s.word (ahead v i) c)) (fails_then w (a_word e (tail (ahead v i))) _ (subst (λ (ts : List Token). Fails w (a_word e ts)) t h)))

  pub sign_lost : {i : ℕ} {names : List Name} {o : Out Binds} (w : Halt) → NamesSoFar linked v b e i names o → is_mark tk.comma (next e (ahead v i)).kind ≡ false → Fails w (a_sign e op.In (ahead v i)) → Fails w o
  sign_lost {i} {names} {o} w s c h = put_fails w s.before _ s.is (subst (Fails w) (sym (sign_next _ b e s.place s.word (ahead v i) c)) (fails_then w (a_sign e op.In (ahead v i)) _ h))

  pub set_lost : {i : ℕ} {names : List Name} {o : Out Binds} (j : ℕ) (q : Place) (w : Halt) → NamesSoFar linked v b e i names o → is_mark tk.comma (next e (ahead v i)).kind ≡ false → a_sign e op.In (ahead v i) ≡ Ok (q, ahead v j)
      → Fails w ((whole_in linked (Some b)).expr e free (ahead v j)) → Fails w o
  set_lost {i} {names} {o} j q w s c f h =
      put_fails w s.before _ s.is (subst (Fails w) (sym (sign_next _ b e s.place s.word (ahead v i) c)) (fails_on w (a_sign e op.In (ahead v i)) _ (q, ahead v j) f (fails_then w ((whole_in linked (Some b)).expr e free (ahead v j)) _ h)))

  pub group_end : {i : ℕ} {names : List Name} {o : Out Binds} {us : List Tree} {set : Read} (j k : ℕ) (q : Place) → NamesSoFar linked v b e i names o → is_mark tk.comma (next e (ahead v i)).kind ≡ false → a_sign e op.In (ahead v i) ≡ Ok (q, ahead v j)
      → Reads (IsIn linked us set) (ahead v k) ((whole_in linked (Some b)).expr e free (ahead v j)) → Grouped linked v us (whole_in linked (Some b)) e names set k o
  group_end {i} {names} {o} {us} {set} j k q s c f h =
      let a = h.what in
      let rest : Place → Phrase → Reader Binds = λ q a. peek e (bind_rest (whole_in linked (Some b)) e s.place s.word q a) in
      let on : (whole_in linked (Some b)).binds e s.place s.word (ahead v i) ≡ rest q a (ahead v k) =
      sign_next _ b e s.place s.word (ahead v i) c
      ∙ ap (λ (o : Out Place). then_read o (λ q. (whole_in linked (Some b)).expr e free >>= λ a. rest q a)) f
      ∙ ap (λ (o : Out Phrase). then_read o (λ a. rest q a)) h.is in
      record {
        place = s.place;
        word = s.word;
        sign = q;
        what = a;
        before = s.before;
        is = s.is ∙ ap (λ (p : Out Binds). then_read p (λ bs. gives (s.before bs))) on;
        alone = record {
          below = (h.told.below, tt);
          names = s.grouped (last_bind s.place s.word q a) ∙ ap (λ (xs : List Name). xs ∷ []) (sym s.all);
          sets = (λ ws. s.set_trees (last_bind s.place s.word q a) (trees_from ws) ∙ ap (λ (t : Tree). tree t (trees_from ws)) (sym h.told.tree));
          nesting = s.opens (last_bind s.place s.word q a) ∙ ap (λ (w : Shape). w.nesting) h.told.shape;
        };
        first = (λ p ws gs js n bs l g. record {
          below = ((kept_in l h.told).below, g.below);
          names = s.grouped (bind s.place s.word q a p bs) ∙ (λ y. sym s.all y ∷ g.names y);
          sets = (λ xs. s.set_trees (bind s.place s.word q a p bs) (trees_from xs) ∙ (λ y. tree (sym (kept_in l h.told).tree y) (g.sets xs y)));
          nesting = s.opens (bind s.place s.word q a p bs) ∙ (λ y. max (h.told.shape y).nesting (g.nesting y));
        });
      }

-- ---- the groups so far, reading being behind the first name of the next one
pub record BindsSoFar (linked : Bool) (v : Tokens) (ts : List Tree) (b e i : ℕ) (gs : List (List Name)) (sets : List ℕ) (n : ℕ) (p : Place) (x : Word) (o : Out Binds) : Type 0 where
  pub before : Binds → Binds
  pub is : o ≡ then_read ((whole_in linked (Some b)).binds e p x (ahead v i)) (λ bs. gives (before bs))
  pub others : (us : List Tree) (hs : List (List Name)) (js : List ℕ) (m : ℕ) (bs : Binds) → Keeps ts us → AreBound linked us hs js m bs → AreBound linked us (gs ++ hs) (sets ++ js) (max n m) (before bs)

module _ {linked : Bool} (v : Tokens) (b e : ℕ) where
  pub binds_first : (ts : List Tree) (i : ℕ) (p : Place) (x : Word) → BindsSoFar linked v ts b e i [] [] 0 p x ((whole_in linked (Some b)).binds e p x (ahead v i))
  binds_first ts i p x = record {
    before = (λ bs. bs);
    is = sym (then_gives ((whole_in linked (Some b)).binds e p x (ahead v i)));
    others = (λ us hs js m bs k g. (let z : m ≡ max 0 m = omega arith in subst (λ (l : ℕ). AreBound linked us hs js l bs) z g));
  }

  pub group_lost : {ts : List Tree} {i : ℕ} {gs : List (List Name)} {sets : List ℕ} {n : ℕ} {p : Place} {x : Word} {o : Out Binds} (w : Halt) → BindsSoFar linked v ts b e i gs sets n p x o → Fails w ((whole_in linked (Some b)).binds e p x (ahead v i)) → Fails w o
  group_lost w s h = put_fails w s.before _ s.is h

  module _ {ts us : List Tree} {i : ℕ} {gs : List (List Name)} {sets : List ℕ} {n : ℕ} {p : Place} {x : Word} {o : Out Binds} {names : List Name} {set : Read} (k : ℕ) (s : BindsSoFar linked v ts b e i gs sets n p x o) where
    module _ (l : Keeps ts us) (g : Grouped linked v us (whole_in linked (Some b)) e names set k ((whole_in linked (Some b)).binds e p x (ahead v i))) where
      pub binds_end : is_mark tk.comma (next e (ahead v k)).kind ≡ false → Reads (AreBound linked us (gs ++ names ∷ []) (sets ++ set.id ∷ []) (max n set.shape.nesting)) (ahead v k) o
      binds_end c = record {
        what = s.before (g.before (last_bind g.place g.word g.sign g.what));
        is = put_on s.before g.before _ s.is g.is ∙ ap (λ (p : Out Binds). then_read p (λ bs. gives (s.before (g.before bs)))) (rest_none _ b e g.place g.word g.sign g.what (ahead v k) c);
        told = s.others us _ _ _ _ l g.alone;
      }

      pub next_lost : (j : ℕ) (w : Halt) → is_mark tk.comma (next e (ahead v k)).kind ≡ true → ahead v j ≡ tail (ahead v k) → Fails w (a_word e (ahead v j)) → Fails w o
      next_lost j w c t h =
          put_fails w (λ bs. s.before (g.before bs)) _ (put_on s.before g.before _ s.is g.is)
          (subst (Fails w) (sym (rest_comma _ b e g.place g.word g.sign g.what (ahead v k) c)) (fails_then w (a_word e (tail (ahead v k))) _ (subst (λ (ts : List Token). Fails w (a_word e ts)) t h)))

      pub binds_next : (j m : ℕ) (y : Place × Word) → is_mark tk.comma (next e (ahead v k)).kind ≡ true → ahead v j ≡ tail (ahead v k) → a_word e (ahead v j) ≡ Ok (y, ahead v m)
          → BindsSoFar linked v us b e m (gs ++ names ∷ []) (sets ++ set.id ∷ []) (max n set.shape.nesting) y.0 y.1 o
      binds_next j m y c t h =
          let q = (next e (ahead v k)).place in
          let more : Binds → Binds = bind g.place g.word g.sign g.what q in
          let on : peek e (bind_rest (whole_in linked (Some b)) e g.place g.word g.sign g.what) (ahead v k) ≡ then_read ((whole_in linked (Some b)).binds e y.0 y.1 (ahead v m)) (λ bs. gives (more bs)) =
          rest_comma _ b e g.place g.word g.sign g.what (ahead v k) c
          ∙ ap (λ (ts : List Token). then_read (a_word e ts) (λ y. (whole_in linked (Some b)).binds e y.0 y.1 >>= λ bs. gives (more bs))) (sym t)
          ∙ ap (λ (o : Out (Place × Word)). then_read o (λ y. (whole_in linked (Some b)).binds e y.0 y.1 >>= λ bs. gives (more bs))) h in
          record {
            before = (λ bs. s.before (g.before (more bs)));
            is = put_on (λ bs. s.before (g.before bs)) more _ (put_on s.before g.before _ s.is g.is) on;
            others = (λ ws hs js d bs r f.
                let z = s.others ws _ _ _ _ (Keeps-then _ _ _ l r) (g.first q ws hs js d bs r f) in
                let big : max n (max set.shape.nesting d) ≡ max (max n set.shape.nesting) d = omega arith in
                rw (append_assoc gs (names ∷ []) hs, append_assoc sets (set.id ∷ []) js, sym big) z);
          }
