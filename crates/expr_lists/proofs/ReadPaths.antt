-- Paths after `!`, as the code reads them: what was read goes before what is still to come.
use Rattle.std.proofs.Common.{Bool, ◌≡◌, ℕ, ◌+◌, ◌≤◌, max, true, false, List, [], ◌∷◌, ◌++◌, length, Ok, Err, Some, refl, sym, ap, ◌∙◌, subst, arith}
use Rattle.std.proofs.lemmas.List.{append_assoc, append-nil}
use Rattle.tla_token.specs.declared.place.Place.{Place}
use Rattle.tla_token.specs.declared.rule.Rule.TheVariants.{TooDeep}
use Rattle.tla_token.specs.declared.token.Tokens.{Tokens}
use Rattle.tla_tree.specs.Tree.{Tree, tree, PathStep}
use Rattle.tla_tree.specs.Tree as pure
use Rattle.tla_tree.specs.TreeOf.{trees_from}
use Rattle.tla_tree.specs.Pool.{Keeps}
use Rattle.tla_tree.specs.Lexical.{Mark, TokenView, Token}
use Rattle.tla_tree.specs.Lexical as tk
use Rattle.tla_tree.specs.Spelling.{Field, Phrases, Path, path_end, index, at_field}
use Rattle.tla_tree.specs.Reader.{Out, then_read, ◌>>=◌, gives, next, tail, is_mark, a_mark, a_field, room, path_by}
use Rattle.tla_tree.specs.Whole.{whole_in}
use Rattle.tla_tree.proofs.Whole.{path_is}
use Rattle.tla_tree.proofs.Opened.{in_index}
use Rattle.tla_tree.proofs.SoundTokens.{mark_is}
use Rattle.tla_tree.proofs.PoolNumbers.{Keeps-then, AllBelow-more, map_at-kept}
use Rattle.expr_nodes.specs.declared.cursor.Halt.{Halt}
use Rattle.expr_nodes.specs.declared.cursor.Halt.TheVariants as halt
use Rattle.expr_nodes.specs.ReadIn.{Reads, Fails}
use Rattle.expr_nodes.specs.Ahead.{ahead}
use Rattle.expr_lists.specs.Routed.{indexed, IsSubscript, IsPath}
use Rattle.expr_rows.proofs.ReadLemmas.{fails_then}
use Rattle.expr_rows.proofs.ReadLinks.{then_two, open_at, open_not}
use Rattle.expr_rows.proofs.ReadPut.{then_gives, put_on, put_fails}

-- ---- paths in a pool that grew, and longer ones
pub kept_path : {linked : Bool} {old new : List Tree} {ss : List PathStep} {is : List ℕ} {n : ℕ} {p : Path} → Keeps old new → IsPath linked old ss is n p → IsPath linked new ss is n p
kept_path {linked} {old} {new} {ss} {is} {n} {p} k h = record {
  below = AllBelow-more (length old) (length new) is k.longer h.below;
  steps = h.steps;
  subscripts = (λ us. h.subscripts us ∙ ap (λ (ts : List Tree). trees_from (ts ++ us)) (sym (map_at-kept old new is k h.below)));
  nesting = h.nesting;
}

none_in : {linked : Bool} (ts : List Tree) → IsPath linked ts [] [] 0 path_end
none_in {linked} ts = record { below = tt; steps = refl; subscripts = λ us. refl; nesting = refl }

index_in : {linked : Bool} {old ts : List Tree} {i k : ℕ} {xs : Phrases} {ss : List PathStep} {is : List ℕ} {n : ℕ} {path : Path} (p q : Place) → Keeps old ts → IsSubscript linked old i k xs → IsPath linked ts ss is n path
    → IsPath linked ts (pure.index ∷ ss) (i ∷ is) (max (1 + k) n) (index p xs q path)
index_in {linked} {old} {ts} {i} {k} {xs} {ss} {is} {n} {path} p q l h g = record {
  below = (omega (arith, l.longer, h.below), g.below);
  steps = ap (λ (ss : List PathStep). pure.index ∷ ss) g.steps;
  subscripts = (λ us y. tree (sym (l.same i h.below ∙ h.tree) y) (g.subscripts us y));
  nesting = (λ y. max (1 + h.nesting y) (g.nesting y));
}

field_in : {linked : Bool} {ts : List Tree} {ss : List PathStep} {is : List ℕ} {n : ℕ} {path : Path} (p : Place) (f : Field) → IsPath linked ts ss is n path → IsPath linked ts (pure.field f.text ∷ ss) is n (at_field p f path)
field_in {linked} p f g = record { below = g.below; steps = ap (λ (ss : List PathStep). pure.field f.text ∷ ss) g.steps; subscripts = g.subscripts; nesting = g.nesting }

-- ---- the path so far
pub record PathSoFar (linked : Bool) (v : Tokens) (ts : List Tree) (b e i : ℕ) (ss : List PathStep) (ids : List ℕ) (n : ℕ) (o : Out Path) : Type 0 where
  pub before : Path → Path
  pub is : o ≡ then_read ((whole_in linked (Some b)).path e (ahead v i)) (λ p. gives (before p))
  pub others : (us : List Tree) (rs : List PathStep) (js : List ℕ) (k : ℕ) (p : Path) → Keeps ts us → IsPath linked us rs js k p → IsPath linked us (ss ++ rs) (ids ++ js) (max n k) (before p)

module _ (linked : Bool) (v : Tokens) (b e : ℕ) where
  pub path_first : (ts : List Tree) (i : ℕ) → PathSoFar linked v ts b e i [] [] 0 ((whole_in linked (Some b)).path e (ahead v i))
  path_first ts i = record {
    before = (λ p. p);
    is = sym (then_gives ((whole_in linked (Some b)).path e (ahead v i)));
    others = (λ us rs js k p l g. (let z : k ≡ max 0 k = omega arith in subst (λ (w : ℕ). IsPath linked us rs js w p) z g));
  }

  -- ---- the readers' steps
  module _ (ts : List Token) where
    at_mark : (m : Mark) → is_mark m (next e ts).kind ≡ true → (whole_in linked (Some b)).path e ts ≡ path_by (room linked (whole_in linked) (Some b)) (whole_in linked (Some b)) e (next e ts).place (tk.mark m) ts
    at_mark m h = path_is linked (Some b) e ts ∙ ap (λ (k : TokenView). path_by (room linked (whole_in linked) (Some b)) (whole_in linked (Some b)) e (next e ts).place k ts) (mark_is m (next e ts).kind h)

    none_next : is_mark tk.open_square (next e ts).kind ≡ false → is_mark tk.dot (next e ts).kind ≡ false → (whole_in linked (Some b)).path e ts ≡ Ok (path_end, ts)
    none_next f g = path_is linked (Some b) e ts ∙ by (next e ts).kind f g
      where
        by : (k : TokenView) → is_mark tk.open_square k ≡ false → is_mark tk.dot k ≡ false → path_by (room linked (whole_in linked) (Some b)) (whole_in linked (Some b)) e (next e ts).place k ts ≡ Ok (path_end, ts)
        by (tk.mark tk.open_square) f g = (let no : true ≡ false = f in absurd cc)
        by (tk.mark tk.dot) f g = (let no : true ≡ false = g in absurd cc)
        by k f g = refl

    index_deep : is_mark tk.open_square (next e ts).kind ≡ true → b ≤ 0 → (whole_in linked (Some b)).path e ts ≡ Err (TooDeep, ts)
    index_deep h l = at_mark tk.open_square h ∙ open_not _ 0 b l (in_index (whole_in linked (Some b)) e (next e ts).place) ts

    index_next : is_mark tk.open_square (next e ts).kind ≡ true → (d : ℕ) → d + 1 ≡ b → (us : List Token) → us ≡ tail ts
        → (whole_in linked (Some b)).path e ts ≡ then_read (indexed (whole_in linked (Some d)) e us) (λ a. (whole_in linked (Some b)).path e >>= λ path. gives (index (next e ts).place a.0 a.1 path))
    index_next h d l us t =
        at_mark tk.open_square h ∙ open_at d 0 b l (in_index (whole_in linked (Some b)) e (next e ts).place) ts
        ∙ then_two ((whole_in linked (Some d)).phrases e (tail ts)) (λ xs. a_mark e tk.close_square) (λ xs q. (xs, q)) (λ (a : Phrases × Place). (whole_in linked (Some b)).path e >>= λ path. gives (index (next e ts).place a.0 a.1 path))
        ∙ ap (λ (us : List Token). then_read (indexed (whole_in linked (Some d)) e us) (λ a. (whole_in linked (Some b)).path e >>= λ path. gives (index (next e ts).place a.0 a.1 path))) (sym t)

    field_next : is_mark tk.dot (next e ts).kind ≡ true → (us : List Token) → us ≡ tail ts
        → (whole_in linked (Some b)).path e ts ≡ then_read (a_field e us) (λ f. (whole_in linked (Some b)).path e >>= λ path. gives (at_field (next e ts).place f path))
    field_next h us t = at_mark tk.dot h ∙ ap (λ (us : List Token). then_read (a_field e us) (λ f. (whole_in linked (Some b)).path e >>= λ path. gives (at_field (next e ts).place f path))) (sym t)

  module _ {ts : List Tree} {i : ℕ} {ss : List PathStep} {ids : List ℕ} {n : ℕ} {o : Out Path} (s : PathSoFar linked v ts b e i ss ids n o) where
    pub path_ends : is_mark tk.open_square (next e (ahead v i)).kind ≡ false → is_mark tk.dot (next e (ahead v i)).kind ≡ false → Reads (IsPath linked ts ss ids n) (ahead v i) o
    path_ends f g =
        let all = s.others ts _ _ _ _ (record { longer = omega arith; same = λ d z. refl }) (none_in ts) in
        let big : max n 0 ≡ n = omega arith in
        record {
          what = s.before path_end;
          is = s.is ∙ ap (λ (p : Out Path). then_read p (λ p. gives (s.before p))) (none_next (ahead v i) f g);
          told = subst (λ (w : ℕ). IsPath linked ts ss ids w (s.before path_end)) big (subst (λ (js : List ℕ). IsPath linked ts ss js (max n 0) (s.before path_end)) (append-nil ids)
              (subst (λ (rs : List PathStep). IsPath linked ts rs (ids ++ []) (max n 0) (s.before path_end)) (append-nil ss) all));
        }

    module _ (c : is_mark tk.open_square (next e (ahead v i)).kind ≡ true) where
      pub too_many : (w : Halt) → b ≤ 0 → w ≡ halt.Refused TooDeep (length (ahead v i)) → Fails w o
      too_many w l h = put_fails w s.before _ s.is (subst (Fails w) (sym (index_deep (ahead v i) c l)) (subst (λ (w : Halt). Fails {A = Path} w (Err (TooDeep, ahead v i))) (sym h) (refl, refl)))

      module _ (d j : ℕ) (l : d + 1 ≡ b) (t : ahead v j ≡ tail (ahead v i)) where
        pub index_lost : (w : Halt) → Fails w (indexed (whole_in linked (Some d)) e (ahead v j)) → Fails w o
        index_lost w h = put_fails w s.before _ s.is (subst (Fails w) (sym (index_next (ahead v i) c d l (ahead v j) t)) (fails_then w (indexed (whole_in linked (Some d)) e (ahead v j)) _ h))

        pub path_index : {us : List Tree} (k r m : ℕ) → Keeps ts us → Reads (λ a. IsSubscript linked us k m a.0) (ahead v r) (indexed (whole_in linked (Some d)) e (ahead v j))
            → PathSoFar linked v us b e r (ss ++ pure.index ∷ []) (ids ++ k ∷ []) (max n (1 + m)) o
        path_index {us} k r m u h =
            let p = (next e (ahead v i)).place in
            let a = h.what in
            let on : (whole_in linked (Some b)).path e (ahead v i) ≡ then_read ((whole_in linked (Some b)).path e (ahead v r)) (λ path. gives (index p a.0 a.1 path)) =
            index_next (ahead v i) c d l (ahead v j) t ∙ ap (λ (o : Out (Phrases × Place)). then_read o (λ a. (whole_in linked (Some b)).path e >>= λ path. gives (index p a.0 a.1 path))) h.is in
            record {
              before = (λ path. s.before (index p a.0 a.1 path));
              is = put_on s.before (index p a.0 a.1) _ s.is on;
              others = (λ ws rs js w path x z.
                  let all = s.others ws _ _ _ _ (Keeps-then _ _ _ u x) (index_in p a.1 x h.told z) in
                  let big : max n (max (1 + m) w) ≡ max (max n (1 + m)) w = omega arith in
                  rw (append_assoc ss (pure.index ∷ []) rs, append_assoc ids (k ∷ []) js, sym big) all);
            }

    module _ (j : ℕ) (c : is_mark tk.dot (next e (ahead v i)).kind ≡ true) (t : ahead v j ≡ tail (ahead v i)) where
      pub step_lost : (w : Halt) → Fails w (a_field e (ahead v j)) → Fails w o
      step_lost w h = put_fails w s.before _ s.is (subst (Fails w) (sym (field_next (ahead v i) c (ahead v j) t)) (fails_then w (a_field e (ahead v j)) _ h))

      pub path_field : (r : ℕ) (f : Field) → a_field e (ahead v j) ≡ Ok (f, ahead v r) → PathSoFar linked v ts b e r (ss ++ pure.field f.text ∷ []) ids n o
      path_field r f h =
          let p = (next e (ahead v i)).place in
          let on : (whole_in linked (Some b)).path e (ahead v i) ≡ then_read ((whole_in linked (Some b)).path e (ahead v r)) (λ path. gives (at_field p f path)) =
          field_next (ahead v i) c (ahead v j) t ∙ ap (λ (o : Out Field). then_read o (λ f. (whole_in linked (Some b)).path e >>= λ path. gives (at_field p f path))) h in
          record {
            before = (λ path. s.before (at_field p f path));
            is = put_on s.before (at_field p f) _ s.is on;
            others = (λ ws rs js w path x z. rw (append_assoc ss (pure.field f.text ∷ []) rs) (s.others ws _ _ _ _ x (field_in p f z)));
          }
