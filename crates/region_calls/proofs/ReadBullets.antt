-- Forms behind bullets, as the code reads them: what was read goes before what is still to come.
use Rattle.std.proofs.Common.{◌≡◌, ℕ, zero, suc, ◌≤◌, Bool, true, false, List, [], ◌∷◌, ◌++◌, length, drop, Ok, Some, None, if◌then◌else◌, refl, sym, ap, ◌∙◌, subst, arith}
use Rattle.std.proofs.lemmas.List.{append_assoc}
use Rattle.tla_token.specs.declared.place.Place.{Place}
use Rattle.tla_token.specs.declared.token.Token as code_token
use Rattle.tla_token.specs.declared.token.Tokens.{Tokens}
use Rattle.tla_tree.specs.declared.op.Op.{Op}
use Rattle.tla_tree.specs.declared.op.Op.TheVariants as op
use Rattle.tla_tree.specs.Tree.{Tree}
use Rattle.tla_tree.specs.Pool.{Keeps}
use Rattle.tla_tree.specs.Lexical.{Token}
use Rattle.tla_tree.specs.Reader.{Out, Reader, then_read, gives, peek, take, took, next, tail, is_sign, bullet_of}
use Rattle.tla_tree.specs.Whole.{read_bounded}
use Rattle.tla_tree.proofs.PoolNumbers.{Keeps-then}
use Rattle.expr_nodes.specs.declared.cursor.Halt.{Halt}
use Rattle.expr_nodes.specs.declared.cursor.Halt.TheVariants as halt
use Rattle.expr_nodes.specs.ReadIn.{seen, Reads, Fails}
use Rattle.expr_nodes.specs.Ahead.{ahead}
use Rattle.expr_rows.proofs.ReadLemmas.{fails_then}
use Rattle.expr_rows.proofs.ReadRows.{put_after, after_nothing, after_more, fails_after_all}
use Rattle.region_reading.specs.Bound.{Bound, a_phrase, opened_if}
use Rattle.region_reading.specs.NameReader.{is_bullet_in, bulleted_if, bulleted_step, bulleted_from}
use Rattle.region_reading.specs.CallReader.{way_in, spec_in}
use Rattle.region_reading.proofs.BoundLaws.{opened_is}
use Rattle.region_reading.proofs.BoundIsRead.{bound_shortens}
use Rattle.region_reading.proofs.EnoughSteps.{phrases_are, ways_are, specs_are}
use Rattle.region_items.specs.Begins.{bound}
use Rattle.region_items.proofs.OpeningRead.{opened_more}
use Rattle.region_calls.specs.Lists.{AreAll, column_in}

-- ---- bullets
none_left : (ts : List code_token.Token) (i : ℕ) → length ts ≤ i → drop i ts ≡ []
none_left [] zero h = refl
none_left [] (suc i) h = refl
none_left (t ∷ ts) zero h = absurd (omega (arith, h))
none_left (t ∷ ts) (suc i) h = none_left ts i (omega (arith, h))

-- no bullet is at the end
pub bullet_at_end : (v : Tokens) (e i : ℕ) (o : Op) (c : ℕ) → length v.items.items ≤ i → is_bullet_in o c (next e (ahead v i)).place (next e (ahead v i)).kind ≡ false
bullet_at_end v e i o c h = ap (λ (ts : List code_token.Token). is_bullet_in o c (next e (seen v.bytes.items ts)).place (next e (seen v.bytes.items ts)).kind) (none_left v.items.items i h)

bullet_took : (o : Op) (c : ℕ) (ts : List Token) → is_bullet_in o c (next 1 ts).place (next 1 ts).kind ≡ true → take 1 (bullet_of o c) ts ≡ Ok ((next 1 ts).place, tail ts)
bullet_took o c ts h = ap (λ (b : Bool). took (if b then Some (next 1 ts).place else None) ts) h

-- ---- the column of the first
module _ {A : Type 0} (l : ℕ) (o : Op) (f : Bound → ℕ → Reader (List (Place × A))) where
  pub column_read : (R : Out (List (Place × A)) → Type 0) (d c : ℕ) (ts : List Token) → is_sign o (next 1 ts).kind ≡ true → suc d ≡ l → c ≡ (next 1 ts).place.col
      → R (f (bound d) c ts) → R (opened_if (is_sign o (next 1 ts).kind) (bound l) (λ n. f n (next 1 ts).place.col) ts)
  column_read R d c ts h g k r =
      subst R (sym (ap (λ (b : Bool). opened_if b (bound l) (λ n. f n (next 1 ts).place.col) ts) h ∙ opened_more l d (λ n. f n (next 1 ts).place.col) ts g))
      (subst (λ (c : ℕ). R (f (bound d) c ts)) k r)

column_by : {A : Type 0} (w : Halt) (b : Bool) (l n : ℕ) (f : Bound → Reader A) (ts : List Token) → Fails {A = ℕ} w (opened_if b (bound l) (λ m. gives n) ts) → Fails w (opened_if b (bound l) f ts)
column_by halt.Memory b l n f ts h = tt
column_by (halt.Refused r k) false l n f ts h = h
column_by (halt.Refused r k) true zero n f ts h = h
column_by (halt.Refused r k) true (suc l) n f ts h = absurd (subst (Fails {A = ℕ} (halt.Refused r k)) (opened_is read_bounded l (λ m. gives n) ts) h)

pub column_lost : {A : Type 0} (w : Halt) (l : ℕ) (o : Op) (f : Bound → ℕ → Reader (List (Place × A))) (ts : List Token) → Fails w (column_in (bound l) o ts)
    → Fails w (opened_if (is_sign o (next 1 ts).kind) (bound l) (λ n. f n (next 1 ts).place.col) ts)
column_lost w l o f ts h = column_by w (is_sign o (next 1 ts).kind) l (next 1 ts).place.col (λ n. f n (next 1 ts).place.col) ts h

-- ---- the forms so far, up to a further bullet
module _ {X A : Type 0} (Q : List Tree → X → A → Type 0) (o : Op) (f : ℕ → Reader A) (c : ℕ) where
  abbrev on : Place → A → Reader (List (Place × A))
  on p a = peek 1 (λ q k. bulleted_if (is_bullet_in o c q k) (bulleted_from o f c) p a)

  abbrev behind : Place → Reader (List (Place × A))
  behind p ts = then_read (f c ts) (on p)

  pub record SoFar (pool : List Tree) (v : Tokens) (from i : ℕ) (xs : List X) : Type 0 where
    pub place : Place
    pub before : List (Place × A) → List (Place × A)
    pub read : bulleted_from o f c (ahead v from) ≡ put_after before (behind place (ahead v i))
    pub told : (us : List Tree) → Keeps pool us → (ys : List X) (fs : List (Place × A)) → AreAll (Q us) ys fs → AreAll (Q us) (xs ++ ys) (before fs)

  module _ (is : (ts : List Token) → bulleted_from o f c ts ≡ bulleted_step o f c (bulleted_from o f c) ts) where
    pub no_bullet : (w : Halt) (ts : List Token) → Fails w (take 1 (bullet_of o c) ts) → Fails w (bulleted_from o f c ts)
    no_bullet w ts h = subst (Fails w) (sym (is ts)) (fails_then w (take 1 (bullet_of o c) ts) behind h)

    pub so_first : {pool : List Tree} (v : Tokens) (from i : ℕ) (p : Place) → take 1 (bullet_of o c) (ahead v from) ≡ Ok (p, ahead v i) → SoFar pool v from i []
    so_first v from i p h = record {
      place = p;
      before = λ fs. fs;
      read = is (ahead v from) ∙ ap (λ (o : Out Place). then_read o behind) h ∙ after_nothing (behind p (ahead v i));
      told = λ us k ys fs t. t;
    }

    module _ {pool : List Tree} {xs : List X} (v : Tokens) (from i : ℕ) (so : SoFar pool v from i xs) where
      pub so_lost : (w : Halt) → Fails w (f c (ahead v i)) → Fails w (bulleted_from o f c (ahead v from))
      so_lost w h = subst (Fails w) (sym so.read) (fails_after_all w so.before (behind so.place (ahead v i)) (fails_then w (f c (ahead v i)) (on so.place) h))

      module _ {new : List Tree} {x : X} (j : ℕ) (k : Keeps pool new) (r : Reads (Q new x) (ahead v j) (f c (ahead v i))) where
        by_next : (b : Bool) → is_bullet_in o c (next 1 (ahead v j)).place (next 1 (ahead v j)).kind ≡ b
            → bulleted_from o f c (ahead v from) ≡ put_after so.before (bulleted_if b (bulleted_from o f c) so.place r.what (ahead v j))
        by_next b h =
            so.read ∙ ap (λ (p : Out A). put_after so.before (then_read p (on so.place))) r.is
            ∙ ap (λ (b : Bool). put_after so.before (bulleted_if b (bulleted_from o f c) so.place r.what (ahead v j))) h

        pub so_end : is_bullet_in o c (next 1 (ahead v j)).place (next 1 (ahead v j)).kind ≡ false → Reads (AreAll (Q new) (xs ++ x ∷ [])) (ahead v j) (bulleted_from o f c (ahead v from))
        so_end h = record {
          what = so.before ((so.place, r.what) ∷ []);
          is = by_next false h;
          told = so.told new k (x ∷ []) ((so.place, r.what) ∷ []) (r.told, tt);
        }

        pub so_more : ((old us : List Tree) (y : X) (a : A) → Keeps old us → Q old y a → Q us y a) → (n : ℕ) → is_bullet_in o c (next 1 (ahead v j)).place (next 1 (ahead v j)).kind ≡ true → ahead v n ≡ tail (ahead v j)
            → SoFar new v from n (xs ++ x ∷ [])
        so_more stays n h t =
            let q = (next 1 (ahead v j)).place in
            let taken : take 1 (bullet_of o c) (ahead v j) ≡ Ok (q, ahead v n) = bullet_took o c (ahead v j) h ∙ (λ i. Ok (q, sym t i)) in
            let rest : bulleted_from o f c (ahead v j) ≡ behind q (ahead v n) = is (ahead v j) ∙ ap (λ (o : Out Place). then_read o behind) taken in
            record {
              place = q;
              before = λ fs. so.before ((so.place, r.what) ∷ fs);
              read = by_next true h ∙ ap (λ (p : Out (List (Place × A))). put_after so.before (then_read p (λ fs. gives ((so.place, r.what) ∷ fs)))) rest
                  ∙ after_more so.before (λ fs. (so.place, r.what) ∷ fs) (behind q (ahead v n));
              told = λ us l ys fs e. subst (λ (zs : List X). AreAll (Q us) zs (so.before ((so.place, r.what) ∷ fs))) (sym (append_assoc xs (x ∷ []) ys))
                  (so.told us (Keeps-then pool new us k l) (x ∷ ys) ((so.place, r.what) ∷ fs) (stays new us x r.what l r.told, e));
            }

-- ---- each of the lists is one step over itself
pub ways_step : (l c : ℕ) (ts : List Token) → bulleted_from op.Or (way_in (bound l)) c ts ≡ bulleted_step op.Or (way_in (bound l)) c (bulleted_from op.Or (way_in (bound l)) c) ts
ways_step l c ts = ways_are (bound l) (bound_shortens l) c ts

pub specs_step : (l c : ℕ) (ts : List Token) → bulleted_from op.And (spec_in (bound l)) c ts ≡ bulleted_step op.And (spec_in (bound l)) c (bulleted_from op.And (spec_in (bound l)) c) ts
specs_step l c ts = specs_are (bound l) (bound_shortens l) c ts

pub phrases_step : (l c : ℕ) (ts : List Token) → bulleted_from op.And (a_phrase (bound l)) c ts ≡ bulleted_step op.And (a_phrase (bound l)) c (bulleted_from op.And (a_phrase (bound l)) c) ts
phrases_step l c ts = phrases_are (bound l) (bound_shortens l) c ts
