-- Items and lists by their first token, as the code reads them.
use Rattle.std.specs.Prelude.{bytes_eq, codes}
use Rattle.std.proofs.Common.{Bool, true, false, ◌≡◌, ℕ, suc, ◌+◌, ◌≤◌, List, Vec, Global, length, Result, Err, refl, sym, ap, ◌∙◌, subst, arith}
use Rattle.tla_token.specs.declared.place.Place.{Place}
use Rattle.tla_token.specs.declared.rule.Rule.TheVariants.{TooDeep, Syntax}
use Rattle.tla_tree.specs.declared.op.Op.{Op}
use Rattle.tla_tree.specs.declared.op.Op.TheVariants as op
use Rattle.tla_tree.specs.Tree.{Word, Tree}
use Rattle.tla_tree.specs.Lexical.{TokenView, Token, token}
use Rattle.tla_tree.specs.Lexical as tk
use Rattle.tla_tree.specs.Reader.{Out, Reader, then_read, ◌>>=◌, gives, next, skip, is_sign}
use Rattle.tla_tree.proofs.SoundTokens.{sign_is}
use Rattle.expr_nodes.specs.declared.cursor.Halt.{Halt}
use Rattle.expr_nodes.specs.declared.cursor.Halt.TheVariants as halt
use Rattle.expr_nodes.specs.declared.view.Mark as code_mark
use Rattle.expr_nodes.specs.declared.view.Key.{Key}
use Rattle.expr_nodes.specs.declared.view.Key.TheVariants as key
use Rattle.expr_nodes.specs.declared.view.View.{View}
use Rattle.expr_nodes.specs.declared.view.View.TheVariants as view
use Rattle.tla_token.specs.declared.token.Span.{Span}
use Rattle.expr_nodes.specs.ReadIn.{Reads, Told, Fails}
use Rattle.expr_nodes.specs.ViewSeen.{key_seen, view_seen}
use Rattle.expr_rows.proofs.ReadLemmas.{told_then, fails_then}
use Rattle.module_tree.specs.Grammar.{ItemForm, either_form, ListForm}
use Rattle.module_write.specs.declared.«module».Item.{Item}
use Rattle.module_write.specs.declared.«module».Item.TheVariants.{Either}
use Rattle.region_reading.specs.Bound.{Bound, opened}
use Rattle.region_reading.specs.ItemReader.{unchanged_from, unchanged_if, item_by, list_by, whole_items}
use Rattle.region_reading.proofs.EnoughSteps.{item_is, list_is}
use Rattle.region_reading.proofs.BoundIsRead.{bound_shortens}
use Rattle.region_items.specs.Begins.{bound}
use Rattle.region_items.specs.Stand.{IsItem, AreBranches}
use Rattle.region_items.proofs.OpeningRead.{opened_more, opened_lost}
use Rattle.region_items.proofs.ItemsStand.{either_stands}

refused_here : {A : Type 0} (w : Halt) (ts : List Token) (o : Out A) → w ≡ halt.Refused Syntax (length ts) → o ≡ Err (Syntax, ts) → Fails w o
refused_here w ts o i j = rw (i, j) (refl, refl)

-- `UNCHANGED`
pub unchanged_told : {X : Type 0} (P : X → ItemForm → Type 0) (g : X → List Token) (r : Result X Halt) (l e : ℕ) (p : Place) (w : Word) (ts : List Token) → bytes_eq w (codes "UNCHANGED") ≡ true
    → Told P g r (opened (bound l) (λ n. skip (unchanged_from n e p)) ts) → Told P g r (unchanged_if (bytes_eq w (codes "UNCHANGED")) (bound l) e p ts)
unchanged_told P g r l e p w ts h told = subst (λ (b : Bool). Told P g r (unchanged_if b (bound l) e p ts)) (sym h) told

-- ---- items
module _ (bytes : List ℕ) (l e : ℕ) (ts : List Token) (p : Place) (w : View) (n : token p (view_seen bytes w) ≡ next e ts) where
  item_here : (k : View) → w ≡ k → whole_items.item (bound l) e ts ≡ item_by (bound l) whole_items e p (view_seen bytes k) ts
  item_here k i =
      item_is (bound l) (bound_shortens l) ts e ∙ ap (λ (t : Token). item_by (bound l) whole_items e t.place t.kind ts) (sym n)
      ∙ ap (λ (k : View). item_by (bound l) whole_items e p (view_seen bytes k) ts) i

  pub item_told : {X : Type 0} (P : X → ItemForm → Type 0) (g : X → List Token) (r : Result X Halt) (k : View) → w ≡ k → Told P g r (item_by (bound l) whole_items e p (view_seen bytes k) ts) → Told P g r (whole_items.item (bound l) e ts)
  item_told P g r k i h = subst (Told P g r) (sym (item_here k i)) h

  pub item_fails : (u : Halt) (k : View) → w ≡ k → Fails u (item_by (bound l) whole_items e p (view_seen bytes k) ts) → Fails u (whole_items.item (bound l) e ts)
  item_fails u k i h = subst (Fails u) (sym (item_here k i)) h

  -- no item begins with another token
  no_item : (k : View) → ((m : code_mark.Mark) → k ≡ view.Mark m → ⊥) → ((s : Span) → k ≡ view.Other s → ⊥) → ((s : Span) → k ≡ view.Word s → ⊥) → ((x : Key) → k ≡ view.Key x → ⊥) → ((o : Op) → k ≡ view.Sign o → ⊥)
      → item_by (bound l) whole_items e p (view_seen bytes k) ts ≡ Err (Syntax, ts)
  no_item (view.Mark m) d f g h i = absurd (d m refl)
  no_item (view.Other s) d f g h i = absurd (f s refl)
  no_item (view.Word s) d f g h i = absurd (g s refl)
  no_item (view.Key x) d f g h i = absurd (h x refl)
  no_item (view.Sign o) d f g h i = absurd (i o refl)
  no_item (view.Reserved s) d f g h i = refl
  no_item (view.Number m) d f g h i = refl
  no_item (view.BigNumber s) d f g h i = refl
  no_item (view.Quote s) d f g h i = refl
  no_item (view.Constant x) d f g h i = refl

  pub no_item_here : (u : Halt) → u ≡ halt.Refused Syntax (length ts) → ((m : code_mark.Mark) → w ≡ view.Mark m → ⊥) → ((s : Span) → w ≡ view.Other s → ⊥) → ((s : Span) → w ≡ view.Word s → ⊥) → ((x : Key) → w ≡ view.Key x → ⊥) → ((o : Op) → w ≡ view.Sign o → ⊥)
      → Fails u (whole_items.item (bound l) e ts)
  no_item_here u j d f g h i = item_fails u w refl (refused_here u ts _ j (no_item w d f g h i))

  no_key : (x : Key) → (x ≡ key.Exists → ⊥) → (x ≡ key.Let → ⊥) → (x ≡ key.If → ⊥) → item_by (bound l) whole_items e p (tk.key (key_seen x)) ts ≡ Err (Syntax, ts)
  no_key key.Exists d f g = absurd (d refl)
  no_key key.Let d f g = absurd (f refl)
  no_key key.If d f g = absurd (g refl)
  no_key x d f g = refl

  pub no_key_here : (u : Halt) → u ≡ halt.Refused Syntax (length ts) → (x : Key) → w ≡ view.Key x → (x ≡ key.Exists → ⊥) → (x ≡ key.Let → ⊥) → (x ≡ key.If → ⊥) → Fails u (whole_items.item (bound l) e ts)
  no_key_here u j x i d f g = item_fails u (view.Key x) i (refused_here u ts _ j (no_key x d f g))

  no_sign : (o : Op) → (o ≡ op.Or → ⊥) → item_by (bound l) whole_items e p (tk.sign o) ts ≡ Err (Syntax, ts)
  no_sign op.Or d = absurd (d refl)
  no_sign o d = refl

  pub no_sign_here : (u : Halt) → u ≡ halt.Refused Syntax (length ts) → (o : Op) → w ≡ view.Sign o → (o ≡ op.Or → ⊥) → Fails u (whole_items.item (bound l) e ts)
  no_sign_here u j o i d = item_fails u (view.Sign o) i (refused_here u ts _ j (no_sign o d))

  -- ---- branches
  abbrev either : Bound → Reader ItemForm
  either m = whole_items.branches m e p.col >>= λ bs. gives (either_form bs)

  module _ (o : Op) (i : w ≡ view.Sign o) (j : o ≡ op.Or) where
    at_or : w ≡ view.Sign op.Or
    at_or = i ∙ ap (λ (o : Op). view.Sign o) j

    pub either_deep : (u : Halt) → l ≤ 0 → u ≡ halt.Refused TooDeep (length ts) → Fails u (whole_items.item (bound l) e ts)
    either_deep u h k = item_fails u (view.Sign op.Or) at_or (opened_lost l either ts u h k)

    module _ (d f : ℕ) (us : List Token) (h : d + 1 ≡ l) (s : f ≡ e) (t : us ≡ ts) where
      either_here : whole_items.item (bound l) e ts ≡ then_read (whole_items.branches (bound d) f p.col us) (λ bs. gives (either_form bs))
      either_here =
          let less : suc d ≡ l = omega (arith, h) in
          item_here (view.Sign op.Or) at_or ∙ opened_more l d either ts less ∙ sym (λ y. then_read (whole_items.branches (bound d) (s y) p.col (t y)) (λ bs. gives (either_form bs)))

      pub either_told : {pool : List Tree} (bs : Vec (Vec Item Global) Global) {vs : List Token} → Reads (AreBranches pool bs.items) vs (whole_items.branches (bound d) f p.col us) → Reads (IsItem pool (Either bs)) vs (whole_items.item (bound l) e ts)
      either_told {pool} bs {vs} r =
          subst (λ (o : Out ItemForm). Reads (IsItem pool (Either bs)) vs o) (sym either_here)
          (told_then _ (λ bs. gives (either_form bs)) r (λ f is. record { what = either_form f; is = refl; told = either_stands bs is }))

      pub either_fails : (u : Halt) → Fails u (whole_items.branches (bound d) f p.col us) → Fails u (whole_items.item (bound l) e ts)
      either_fails u r = subst (Fails u) (sym either_here) (fails_then u _ (λ bs. gives (either_form bs)) r)

-- ---- lists
module _ (bytes : List ℕ) (l e : ℕ) (ts : List Token) (p : Place) (w : View) (n : token p (view_seen bytes w) ≡ next e ts) where
  list_here : whole_items.list (bound l) e ts ≡ list_by (bound l) whole_items e p (view_seen bytes w) ts
  list_here = list_is (bound l) (bound_shortens l) ts e ∙ ap (λ (t : Token). list_by (bound l) whole_items e t.place t.kind ts) (sym n)

  list_at_and : is_sign op.And (view_seen bytes w) ≡ true → whole_items.list (bound l) e ts ≡ opened (bound l) (λ m. whole_items.items m e p.col) ts
  list_at_and h = list_here ∙ ap (λ (k : TokenView). list_by (bound l) whole_items e p k ts) (sign_is op.And (view_seen bytes w) h)

  no_list : (k : TokenView) → is_sign op.And k ≡ false → list_by (bound l) whole_items e p k ts ≡ Err (Syntax, ts)
  no_list (tk.sign op.And) h = (let no : true ≡ false = h in absurd cc)
  no_list k h = refl

  pub no_list_here : (u : Halt) → u ≡ halt.Refused Syntax (length ts) → is_sign op.And (view_seen bytes w) ≡ false → Fails u (whole_items.list (bound l) e ts)
  no_list_here u j h = subst (Fails u) (sym list_here) (refused_here u ts _ j (no_list (view_seen bytes w) h))

  pub list_deep : (u : Halt) → is_sign op.And (view_seen bytes w) ≡ true → l ≤ 0 → u ≡ halt.Refused TooDeep (length ts) → Fails u (whole_items.list (bound l) e ts)
  list_deep u i h k = subst (Fails u) (sym (list_at_and i)) (opened_lost l (λ m. whole_items.items m e p.col) ts u h k)

  pub list_told : {X : Type 0} (P : X → ListForm → Type 0) (g : X → List Token) (r : Result X Halt) (d f : ℕ) (us : List Token) → is_sign op.And (view_seen bytes w) ≡ true → d + 1 ≡ l → f ≡ e → us ≡ ts
      → Told P g r (whole_items.items (bound d) f p.col us) → Told P g r (whole_items.list (bound l) e ts)
  list_told P g r d f us i h s t told =
      let less : suc d ≡ l = omega (arith, h) in
      subst (Told P g r) (sym (list_at_and i ∙ opened_more l d (λ m. whole_items.items m e p.col) ts less ∙ sym (λ y. whole_items.items (bound d) (s y) p.col (t y)))) told
