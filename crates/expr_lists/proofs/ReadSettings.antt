-- Settings, as the code reads them: what was read goes before what is still to come.
use Rattle.std.proofs.Common.{◌≡◌, ℕ, max, Bool, true, false, nat_eq, List, [], ◌∷◌, ◌++◌, length, map, Ok, Err, Some, refl, sym, ap, ◌∙◌, subst, arith}
use Rattle.std.proofs.lemmas.Bool.{eqb-true}
use Rattle.std.proofs.lemmas.List.{append_assoc, map_push, map-append}
use Rattle.tla_token.specs.declared.place.Place.{Place}
use Rattle.tla_token.specs.declared.rule.Rule.TheVariants.{Syntax}
use Rattle.tla_token.specs.declared.token.Tokens.{Tokens}
use Rattle.tla_pool.specs.declared.form.Step.{Step}
use Rattle.tla_pool.specs.FormOf.{steps_of}
use Rattle.tla_tree.specs.declared.op.Op.TheVariants as op
use Rattle.tla_tree.specs.Tree.{Tree, tree, PathStep, Slot}
use Rattle.tla_tree.specs.TreeOf.{trees_from}
use Rattle.tla_tree.specs.Pool.{at, AllBelow, Keeps}
use Rattle.tla_tree.specs.Shapes.{HasPath, HavePaths}
use Rattle.tla_tree.specs.Lexical.{TokenView, Token}
use Rattle.tla_tree.specs.Lexical as tk
use Rattle.tla_tree.specs.Spelling.{Phrase, Path, path_end, index, at_field, Settings, last_setting, setting, steps, subscripts, is_some_path, tree_of}
use Rattle.tla_tree.specs.Reader.{Out, then_read, ◌>>=◌, gives, peek, next, tail, free, is_mark, a_mark, a_sign, settings_by, setting_if}
use Rattle.tla_tree.specs.Whole.{whole_in}
use Rattle.tla_tree.proofs.Whole.{settings_is}
use Rattle.tla_tree.proofs.SoundTokens.{mark_is}
use Rattle.tla_tree.proofs.PoolNumbers.{Keeps-then, AllBelow-push}
use Rattle.expr_nodes.specs.declared.cursor.Halt.{Halt}
use Rattle.expr_nodes.specs.declared.cursor.Halt.TheVariants as halt
use Rattle.expr_nodes.specs.declared.make.Read.{Read}
use Rattle.expr_nodes.specs.ReadIn.{IsIn, AreSettings, Reads, Fails}
use Rattle.expr_nodes.specs.Ahead.{ahead}
use Rattle.expr_lists.specs.Routed.{IsPath}
use Rattle.expr_nodes.proofs.MakeLemmas.{kept_in}
use Rattle.expr_rows.proofs.ReadLemmas.{fails_then}
use Rattle.expr_lists.proofs.ReadPaths.{kept_path}
use Rattle.expr_rows.proofs.ReadPut.{then_gives, put_on, put_fails}

-- ---- paths that have a step
path_some : (p : Path) → HasPath (steps p) → is_some_path p ≡ true
path_some path_end h = absurd h
path_some (index p xs q path) h = refl
path_some (at_field p f path) h = refl

path_none : (p : Path) → steps p ≡ [] → is_some_path p ≡ false
path_none path_end e = refl
path_none (index p xs q path) e = absurd cc
path_none (at_field p f path) e = absurd cc

-- the steps of a path in code, by their number
pub none_there : (ss : List Step) (n : ℕ) → nat_eq n 0 ≡ true → n ≡ length ss → steps_of ss ≡ []
none_there [] n h e = refl
none_there (s ∷ ss) n h e = absurd (omega (arith, eqb-true n 0 h, e))

pub some_there : (ss : List Step) (n : ℕ) → nat_eq n 0 ≡ false → n ≡ length ss → HasPath (steps_of ss)
some_there [] n h e = (let no : true ≡ false = ap (λ (k : ℕ). nat_eq k 0) (sym e) ∙ h in absurd cc)
some_there (s ∷ ss) n h e = tt

-- settings so far, of which there may be none
abbrev pub MayHavePaths : List Slot → Type 0
MayHavePaths [] = Unit {0}
MayHavePaths (s ∷ ss) = HavePaths (s ∷ ss)

pub paths_push : (ss : List Slot) (s : Slot) → MayHavePaths ss → HasPath s.path → HavePaths (ss ++ s ∷ [])
paths_push [] s h g = g
paths_push (t ∷ []) s h g = (h, g)
paths_push (t ∷ u ∷ ss) s h g = (h.0, paths_push (u ∷ ss) s h.1 g)

pub paths_may : (ss : List Slot) → HavePaths ss → MayHavePaths ss
paths_may [] h = tt
paths_may (s ∷ ss) h = h

-- ---- numbers in two lists
below_both : (n : ℕ) (is js : List ℕ) → AllBelow n is → AllBelow n js → AllBelow n (is ++ js)
below_both n [] js h g = g
below_both n (i ∷ is) js h g = (h.0, below_both n is js h.1 g)

-- ---- one of them, and one before others
setting_alone : {linked : Bool} {old ts : List Tree} {x : Read} {a : Phrase} {ss : List PathStep} {is : List ℕ} {n : ℕ} {path : Path} (place p q : Place) → Keeps old ts → IsPath linked old ss is n path → IsIn linked ts x a
    → AreSettings linked ts place (record { path = ss; place = place } ∷ []) (is ++ x.id ∷ []) (max n x.shape.nesting) (last_setting p path q a)
setting_alone {linked} {old} {ts} {x} {a} {ss} {is} {n} {path} place p q k h g =
    let r = kept_path k h in
    record {
      below = AllBelow-push (length ts) is x.id r.below g.below;
      paths = ap (λ (ss : List PathStep). record { path = ss; place = place } ∷ []) r.steps;
      trees = ap trees_from (map_push (at ts) is x.id) ∙ ap (λ (t : Tree). trees_from (map (at ts) is ++ t ∷ [])) g.tree ∙ sym (r.subscripts (tree_of a ∷ []));
      nesting = (λ y. max (r.nesting y) (g.shape y).nesting);
    }

setting_before : {linked : Bool} {old mid ts : List Tree} {x : Read} {a : Phrase} {ss : List PathStep} {is : List ℕ} {n : ℕ} {path : Path} {qs : List Slot} {js : List ℕ} {m : ℕ} {more : Settings} (place p q r : Place)
    → Keeps old mid → Keeps mid ts → IsPath linked old ss is n path → IsIn linked mid x a → AreSettings linked ts place qs js m more
    → AreSettings linked ts place (record { path = ss; place = place } ∷ qs) ((is ++ x.id ∷ []) ++ js) (max (max n x.shape.nesting) m) (setting p path q a r more)
setting_before {linked} {old} {mid} {ts} {x} {a} {ss} {is} {n} {path} {qs} {js} {m} {more} place p q r k l h g z =
    let w = kept_path (Keeps-then _ _ _ k l) h in
    let y = kept_in l g in
    record {
      below = below_both (length ts) (is ++ x.id ∷ []) js (AllBelow-push (length ts) is x.id w.below y.below) z.below;
      paths = (λ i. record { path = w.steps i; place = place } ∷ z.paths i);
      trees =
          ap trees_from (map-append (at ts) (is ++ x.id ∷ []) js)
          ∙ ap (λ (ls : List Tree). trees_from (ls ++ map (at ts) js)) (map_push (at ts) is x.id)
          ∙ ap trees_from (append_assoc (map (at ts) is) (at ts x.id ∷ []) (map (at ts) js))
          ∙ ap (λ (t : Tree). trees_from (map (at ts) is ++ t ∷ map (at ts) js)) y.tree
          ∙ sym (w.subscripts (tree_of a ∷ map (at ts) js))
          ∙ ap (λ us. subscripts path (tree (tree_of a) us)) z.trees;
      nesting = (λ i. max (max (w.nesting i) (y.shape i).nesting) (z.nesting i));
    }

-- ---- the settings so far, reading being at the next one
pub record SettingsSoFar (linked : Bool) (v : Tokens) (ts : List Tree) (b e : ℕ) (place : Place) (i : ℕ) (slots : List Slot) (ids : List ℕ) (n : ℕ) (o : Out Settings) : Type 0 where
  pub before : Settings → Settings
  pub is : o ≡ then_read ((whole_in linked (Some b)).settings e (ahead v i)) (λ ss. gives (before ss))
  pub others : (us : List Tree) (qs : List Slot) (js : List ℕ) (k : ℕ) (ss : Settings) → Keeps ts us → AreSettings linked us place qs js k ss → AreSettings linked us place (slots ++ qs) (ids ++ js) (max n k) (before ss)

module _ (linked : Bool) (v : Tokens) (b e : ℕ) (place : Place) where
  pub settings_first : (ts : List Tree) (i : ℕ) → SettingsSoFar linked v ts b e place i [] [] 0 ((whole_in linked (Some b)).settings e (ahead v i))
  settings_first ts i = record {
    before = (λ ss. ss);
    is = sym (then_gives ((whole_in linked (Some b)).settings e (ahead v i)));
    others = (λ us qs js k ss l g. (let z : k ≡ max 0 k = omega arith in subst (λ (w : ℕ). AreSettings linked us place qs js w ss) z g));
  }

  rest_none : (p : Place) (path : Path) (q : Place) (a : Phrase) (r : Place) (k : TokenView) (ts : List Token) → is_mark tk.comma k ≡ false → settings_by (whole_in linked (Some b)) e p path q a r k ts ≡ Ok (last_setting p path q a, ts)
  rest_none p path q a r (tk.mark tk.comma) ts h = (let no : true ≡ false = h in absurd cc)
  rest_none p path q a r k ts h = refl

  rest_comma : (p : Place) (path : Path) (q : Place) (a : Phrase) (r : Place) (k : TokenView) (ts : List Token) → is_mark tk.comma k ≡ true
      → settings_by (whole_in linked (Some b)) e p path q a r k ts ≡ then_read ((whole_in linked (Some b)).settings e (tail ts)) (λ ss. gives (setting p path q a r ss))
  rest_comma p path q a r k ts h = ap (λ (k : TokenView). settings_by (whole_in linked (Some b)) e p path q a r k ts) (mark_is tk.comma k h)

  module _ {ts : List Tree} {i : ℕ} {slots : List Slot} {ids : List ℕ} {n : ℕ} {o : Out Settings} (s : SettingsSoFar linked v ts b e place i slots ids n o) where
    pub bang_lost : (w : Halt) → Fails w (a_mark e tk.bang (ahead v i)) → Fails w o
    bang_lost w h = put_fails w s.before _ s.is (subst (Fails w) (sym (settings_is linked (Some b) e (ahead v i))) (fails_then w (a_mark e tk.bang (ahead v i)) _ h))

    module _ (j : ℕ) (p : Place) (bang : a_mark e tk.bang (ahead v i) ≡ Ok (p, ahead v j)) where
      at_path : (whole_in linked (Some b)).settings e (ahead v i) ≡ then_read ((whole_in linked (Some b)).path e (ahead v j)) (λ path. setting_if (is_some_path path) (whole_in linked (Some b)) e p path)
      at_path = settings_is linked (Some b) e (ahead v i) ∙ ap (λ (o : Out Place). then_read o (λ p. (whole_in linked (Some b)).path e >>= λ path. setting_if (is_some_path path) (whole_in linked (Some b)) e p path)) bang

      pub path_lost : (w : Halt) → Fails w ((whole_in linked (Some b)).path e (ahead v j)) → Fails w o
      path_lost w h = put_fails w s.before _ s.is (subst (Fails w) (sym at_path) (fails_then w ((whole_in linked (Some b)).path e (ahead v j)) _ h))

      module _ {mid : List Tree} {rs : List PathStep} {js : List ℕ} {m : ℕ} (l : ℕ) (h : Reads (IsPath linked mid rs js m) (ahead v l) ((whole_in linked (Some b)).path e (ahead v j))) where
        past_path : (t : Bool) → is_some_path h.what ≡ t → (whole_in linked (Some b)).settings e (ahead v i) ≡ setting_if t (whole_in linked (Some b)) e p h.what (ahead v l)
        past_path t g =
            at_path ∙ ap (λ (o : Out Path). then_read o (λ path. setting_if (is_some_path path) (whole_in linked (Some b)) e p path)) h.is
            ∙ ap (λ (t : Bool). setting_if t (whole_in linked (Some b)) e p h.what (ahead v l)) g

        pub no_path : (w : Halt) → rs ≡ [] → w ≡ halt.Refused Syntax (length (ahead v l)) → Fails w o
        no_path w g x =
            put_fails w s.before _ s.is
            (subst (Fails w) (sym (past_path false (path_none h.what (h.told.steps ∙ g)))) (subst (λ (w : Halt). Fails {A = Settings} w (Err (Syntax, ahead v l))) (sym x) (refl, refl)))

        module _ (some : HasPath rs) where
          at_sign : (whole_in linked (Some b)).settings e (ahead v i) ≡ then_read (a_sign e op.Equal (ahead v l)) (λ q. (whole_in linked (Some b)).expr e free >>= λ a. peek e (settings_by (whole_in linked (Some b)) e p h.what q a))
          at_sign = past_path true (path_some h.what (subst HasPath (sym h.told.steps) some))

          pub equal_lost : (w : Halt) → Fails w (a_sign e op.Equal (ahead v l)) → Fails w o
          equal_lost w g = put_fails w s.before _ s.is (subst (Fails w) (sym at_sign) (fails_then w (a_sign e op.Equal (ahead v l)) _ g))

          module _ (c : ℕ) (q : Place) (equal : a_sign e op.Equal (ahead v l) ≡ Ok (q, ahead v c)) where
            at_side : (whole_in linked (Some b)).settings e (ahead v i) ≡ then_read ((whole_in linked (Some b)).expr e free (ahead v c)) (λ a. peek e (settings_by (whole_in linked (Some b)) e p h.what q a))
            at_side = at_sign ∙ ap (λ (o : Out Place). then_read o (λ q. (whole_in linked (Some b)).expr e free >>= λ a. peek e (settings_by (whole_in linked (Some b)) e p h.what q a))) equal

            pub side_lost : (w : Halt) → Fails w ((whole_in linked (Some b)).expr e free (ahead v c)) → Fails w o
            side_lost w g = put_fails w s.before _ s.is (subst (Fails w) (sym at_side) (fails_then w ((whole_in linked (Some b)).expr e free (ahead v c)) _ g))

            module _ {us : List Tree} {x : Read} (d : ℕ) (k : Keeps ts mid) (u : Keeps mid us) (g : Reads (IsIn linked us x) (ahead v d) ((whole_in linked (Some b)).expr e free (ahead v c))) where
              rest_at : (whole_in linked (Some b)).settings e (ahead v i) ≡ peek e (settings_by (whole_in linked (Some b)) e p h.what q g.what) (ahead v d)
              rest_at = at_side ∙ ap (λ (o : Out Phrase). then_read o (λ a. peek e (settings_by (whole_in linked (Some b)) e p h.what q a))) g.is

              pub settings_end : is_mark tk.comma (next e (ahead v d)).kind ≡ false
                  → Reads (AreSettings linked us place (slots ++ record { path = rs; place = place } ∷ []) (ids ++ (js ++ x.id ∷ [])) (max n (max m x.shape.nesting))) (ahead v d) o
              settings_end z = record {
                what = s.before (last_setting p h.what q g.what);
                is = s.is ∙ ap (λ (p : Out Settings). then_read p (λ ss. gives (s.before ss))) (rest_at ∙ rest_none p h.what q g.what (next e (ahead v d)).place (next e (ahead v d)).kind (ahead v d) z);
                told = s.others us _ _ _ _ (Keeps-then _ _ _ k u) (setting_alone place p q u h.told g.told);
              }

              pub settings_next : (f : ℕ) → is_mark tk.comma (next e (ahead v d)).kind ≡ true → ahead v f ≡ tail (ahead v d)
                  → SettingsSoFar linked v us b e place f (slots ++ record { path = rs; place = place } ∷ []) (ids ++ (js ++ x.id ∷ [])) (max n (max m x.shape.nesting)) o
              settings_next f z t =
                  let r = (next e (ahead v d)).place in
                  let on : (whole_in linked (Some b)).settings e (ahead v i) ≡ then_read ((whole_in linked (Some b)).settings e (ahead v f)) (λ ss. gives (setting p h.what q g.what r ss)) =
                  rest_at ∙ rest_comma p h.what q g.what r (next e (ahead v d)).kind (ahead v d) z
                  ∙ ap (λ (ts : List Token). then_read ((whole_in linked (Some b)).settings e ts) (λ ss. gives (setting p h.what q g.what r ss))) (sym t) in
                  record {
                    before = (λ ss. s.before (setting p h.what q g.what r ss));
                    is = put_on s.before (setting p h.what q g.what r) _ s.is on;
                    others = (λ ws qs ks w ss y a.
                        let all = s.others ws _ _ _ _ (Keeps-then _ _ _ k (Keeps-then _ _ _ u y)) (setting_before place p q r u y h.told g.told a) in
                        let big : max n (max (max m x.shape.nesting) w) ≡ max (max n (max m x.shape.nesting)) w = omega arith in
                        rw (append_assoc slots (record { path = rs; place = place } ∷ []) qs, append_assoc ids (js ++ x.id ∷ []) ks, sym big) all);
                  }
