-- Calls of actions, the disjuncts of Next and the formulas of fairness, as chunks of a line.
use Rattle.std.proofs.Common.{◌≡◌, ℕ, ◌+◌, Bool, true, false, List, ◌++◌, Option, Some, None, refl, ap, ◌∙◌, append_assoc, codes, cond}
use Rattle.tla_token.specs.declared.place.Place.{Place}
use Rattle.tla_token.specs.Places.{after}
use Rattle.tla_token.specs.Lexemes.{name}
use Rattle.tla_tree.specs.declared.op.Op.TheVariants as op
use Rattle.tla_tree.specs.Tree.{Word, Tree}
use Rattle.tla_tree.specs.Lexical as tk
use Rattle.tla_tree.specs.Spelling.{Right}
use Rattle.tla_tree.specs.Written.{written}
use Rattle.tla_tree.specs.laws.InText.{ends_word}
use Rattle.tla_tree.proofs.FitTokens.{starts, word_fits}
use Rattle.tla_tree.proofs.FitTrees.{written_starts}
use Rattle.tla_tree.proofs.SpelledTokens.{sign_spelled}
use Rattle.module_tree.specs.Module.{Call, call, call_with, Way, one_way, some_way, Fairness}
use Rattle.module_tree.specs.Grammar.{see, CallForm, call_form, call_with_form, spell_call, call_of, GoodCall, WayForm, one_form, some_form, spell_way, way_of, GoodWay}
use Rattle.module_tree.specs.Layout.{call_text, way_text, over_text, guard_text, fairness_text}
use Rattle.module_tree.specs.Units.{OverForm, GuardForm, FairForm, spell_over, spell_guard, spell_fair, over_of, guard_of, fairness_of, GoodOver, GoodGuard, GoodFair}
use Rattle.module_tree.specs.laws.WritableRegion.{IsCall, IsWay, IsOver, IsGuard, IsFairness}
use Rattle.module_tree.specs.laws.PlacelessRegion.{call_placeless, way_placeless, over_placeless, perhaps_placeless, fairness_placeless}
use Rattle.module_tree.proofs.Chunks.{Chunk, any, passes_sign, join, one, space, nothing, narrowed, over}
use Rattle.module_tree.proofs.ExprChunks.{first, expr_at, name_at, name_over, name_starts}
use Rattle.module_tree.proofs.LineChunks.{spaced_sign, sign_blank, key_blank, colon_blank, close, open_round}

-- ---- calls

pub record CallAt (e : ℕ) (c : Call) (p : Place) : Type 0 where
  pub form : CallForm
  pub good : GoodCall e form
  pub same : call_placeless (call_of form) ≡ call_placeless c
  pub end : Place
  pub right : Right e end
  pub chunk : Chunk ends_word p (call_text c) (spell_call form) end

pub call_at : (k : ℕ) (c : Call) → IsCall c → (p : Place) → Right (1 + k) p → CallAt (1 + k) c p
call_at k (call x) h p r = record { form = call_form p x; good = r; same = refl; end = after p x; right = name_over (1 + k) p x h r; chunk = name_at p x h (first k p r) }
call_at k (call_with x e) h p r =
    let q = after p x in
    let rq = name_over (1 + k) p x h.0 r in
    let a = expr_at k false e h.1 (after q (codes "(")) (over (1 + k) q (codes "(") rq refl) in
    record {
      form = call_with_form p x q a.phrase a.end;
      good = (r, rq, a.good, a.right);
      same = ap (call_with x) a.tree;
      end = after a.end (codes ")");
      right = over (1 + k) a.end (codes ")") a.right refl;
      chunk = narrowed ends_word (join (join (join (name_at p x h.0 (first k p r)) (open_round q) (λ y i. refl)) a.chunk (λ y i. written_starts y e h.1 false i)) (close a.end) (λ y i. refl));
    }

pub call_starts : (c : Call) (x : List ℕ) → IsCall c → starts (call_text c ++ x) ≡ true
call_starts (call a) x h = name_starts a x h
call_starts (call_with a e) x h = (let w : List ℕ = codes "(" in ap starts (append_assoc ((a ++ w) ++ written e) (codes ")") x ∙ append_assoc (a ++ w) (written e) (codes ")" ++ x) ∙ append_assoc a w (written e ++ (codes ")" ++ x))) ∙ name_starts a _ h.0)

-- ---- the disjuncts of Next

pub record WayAt (e : ℕ) (y : Way) (p : Place) : Type 0 where
  pub form : WayForm
  pub good : GoodWay e form
  pub same : way_placeless (way_of form) ≡ way_placeless y
  pub end : Place
  pub chunk : Chunk ends_word p (way_text y) (spell_way form) end

pub way_at : (k : ℕ) (y : Way) → IsWay y → (p : Place) → Right (1 + k) p → WayAt (1 + k) y p
way_at k (one_way c) h p r = (let x = call_at k c h p r in record { form = one_form x.form; good = x.good; same = ap one_way x.same; end = x.end; chunk = x.chunk })
way_at k (some_way x s c) h p r =
    let q = after (after p (codes "\\E")) (codes " ") in
    let rq = over (1 + k) (after p (codes "\\E")) (codes " ") (over (1 + k) p (codes "\\E") r refl) refl in
    let b = after q x in
    let t = after b (codes " ") in
    let rt = over (1 + k) b (codes " ") (name_over (1 + k) q x h.0 rq) refl in
    let u = after (after t (codes "\\in")) (codes " ") in
    let a = expr_at k true s h.1 u (over (1 + k) (after t (codes "\\in")) (codes " ") (over (1 + k) t (codes "\\in") rt refl) refl) in
    let d = after a.end (codes " ") in
    let rd = over (1 + k) a.end (codes " ") a.right refl in
    let v = call_at k c h.2 (after (after d (codes ":")) (codes " ")) (over (1 + k) (after d (codes ":")) (codes " ") (over (1 + k) d (codes ":") rd refl) refl) in
    record {
      form = some_form p q x t a.phrase d v.form;
      good = (r, rq, rt, a.good, rd, v.good);
      same = (λ i. some_way x (a.tree i) (v.same i));
      end = v.end;
      chunk = join (join (join (join (join (join (key_blank p tk.exists_key) (space (after p (codes "\\E"))) (λ y e. refl)) (name_at q x h.0 (first k q rq)) (λ y e. refl)) (spaced_sign b op.In (sign_spelled op.In)) (λ y e. refl)) a.chunk (λ y e. refl)) (join (space a.end) (join (colon_blank d) (space (after d (codes ":"))) (λ y e. refl)) (λ y e. refl)) (λ y e. refl)) v.chunk (λ y e. refl);
    }

-- ---- fairness

pub record OverAt (e : ℕ) (o : Option (Word × Tree)) (p : Place) : Type 0 where
  pub form : Option OverForm
  pub good : GoodOver e form
  pub same : over_placeless (over_of form) ≡ over_placeless o
  pub end : Place
  pub right : Right e end
  pub chunk : Chunk any p (over_text o) (spell_over form) end

over_at : (k : ℕ) (o : Option (Word × Tree)) → IsOver o → (p : Place) → Right (1 + k) p → OverAt (1 + k) o p
over_at k None h p r = record { form = None; good = tt; same = refl; end = p; right = r; chunk = nothing p }
over_at k (Some (x, s)) h p r =
    let q = after (after p (codes "\\A")) (codes " ") in
    let rq = over (1 + k) (after p (codes "\\A")) (codes " ") (over (1 + k) p (codes "\\A") r refl) refl in
    let b = after q x in
    let t = after b (codes " ") in
    let rt = over (1 + k) b (codes " ") (name_over (1 + k) q x h.0 rq) refl in
    let u = after (after t (codes "\\in")) (codes " ") in
    let a = expr_at k true s h.1 u (over (1 + k) (after t (codes "\\in")) (codes " ") (over (1 + k) t (codes "\\in") rt refl) refl) in
    let d = after a.end (codes " ") in
    let rd = over (1 + k) a.end (codes " ") a.right refl in
    record {
      form = Some (record { all = p; at = q; name = x; in_at = t; set = a.phrase; colon = d });
      good = (r, rq, rt, a.good, rd);
      same = ap (λ (t : Tree). Some (x, t)) a.tree;
      end = after (after d (codes ":")) (codes " ");
      right = over (1 + k) (after d (codes ":")) (codes " ") (over (1 + k) d (codes ":") rd refl) refl;
      chunk = join (join (join (join (join (key_blank p tk.for_all_key) (space (after p (codes "\\A"))) (λ y e. refl)) (name_at q x h.0 (first k q rq)) (λ y e. refl)) (spaced_sign b op.In (sign_spelled op.In)) (λ y e. refl)) a.chunk (λ y e. refl)) (join (space a.end) (join (colon_blank d) (space (after d (codes ":"))) (λ y e. refl)) (λ y e. refl)) (λ y e. refl);
    }

-- what is in it begins with none of * > ], where what follows it does
pub record GuardAt (e : ℕ) (o : Option Tree) (p : Place) : Type 0 where
  pub form : Option GuardForm
  pub good : GoodGuard e form
  pub same : perhaps_placeless (guard_of form) ≡ perhaps_placeless o
  pub end : Place
  pub right : Right e end
  pub chunk : Chunk starts p (guard_text o) (spell_guard form) end
  pub begins : (x : List ℕ) → starts x ≡ true → starts (guard_text o ++ x) ≡ true

guard_at : (k : ℕ) (o : Option Tree) → IsGuard o → (p : Place) → Right (1 + k) p → GuardAt (1 + k) o p
guard_at k None h p r = record { form = None; good = tt; same = refl; end = p; right = r; chunk = narrowed starts (nothing p); begins = λ x s. s }
guard_at k (Some e) h p r =
    let a = expr_at k false e h (after p (codes "(")) (over (1 + k) p (codes "(") r refl) in
    let q = after a.end (codes ")") in
    let s = after q (codes " ") in
    let rs = over (1 + k) q (codes " ") (over (1 + k) a.end (codes ")") a.right refl) refl in
    let t = after s (codes "/\\") in
    record {
      form = Some (record { left = p; test = a.phrase; right = a.end; and_at = s });
      good = (r, a.good, a.right, rs);
      same = ap (λ (t : Tree). Some t) a.tree;
      end = after t (codes " ");
      right = over (1 + k) t (codes " ") (over (1 + k) s (codes "/\\") rs refl) refl;
      chunk = narrowed starts (join (join (open_round p) a.chunk (λ y i. written_starts y e h false i)) (join (close a.end) (join (space q) (join (sign_blank s op.And (sign_spelled op.And)) (space t) (λ y e. refl)) (λ y e. refl)) (λ y e. refl)) (λ y e. refl));
      begins = λ x i. refl;
    }

-- WF_vars or SF_vars
fair_word : (b : Bool) (p : Place) → Chunk ends_word p (cond b (codes "SF_vars") (codes "WF_vars")) (see p (tk.other (cond b (codes "SF_vars") (codes "WF_vars")))) (after p (cond b (codes "SF_vars") (codes "WF_vars")))
fair_word true p = one ends_word p (tk.other (codes "SF_vars")) (name (codes "SF_vars"), (refl, (refl, refl)), refl) (λ x e. word_fits (tk.other (codes "SF_vars")) (codes "SF_vars") x refl (refl, refl) tt e) (passes_sign p (tk.other (codes "SF_vars")) refl refl)
fair_word false p = one ends_word p (tk.other (codes "WF_vars")) (name (codes "WF_vars"), (refl, (refl, refl)), refl) (λ x e. word_fits (tk.other (codes "WF_vars")) (codes "WF_vars") x refl (refl, refl) tt e) (passes_sign p (tk.other (codes "WF_vars")) refl refl)

fair_over : (e : ℕ) (b : Bool) (p : Place) → Right e p → Right e (after p (cond b (codes "SF_vars") (codes "WF_vars")))
fair_over e true p r = over e p (codes "SF_vars") r refl
fair_over e false p r = over e p (codes "WF_vars") r refl

-- with the bracket after it
fair_open : (b : Bool) (p : Place) → (let q = after p (cond b (codes "SF_vars") (codes "WF_vars")) in Chunk starts p (cond b (codes "SF_vars(") (codes "WF_vars(")) (λ r. see p (tk.other (cond b (codes "SF_vars") (codes "WF_vars"))) (see q (tk.mark tk.open_bracket) r)) (after q (codes "(")))
fair_open true p = join (fair_word true p) (open_round (after p (codes "SF_vars"))) (λ y e. refl)
fair_open false p = join (fair_word false p) (open_round (after p (codes "WF_vars"))) (λ y e. refl)

pub record FairAt (e : ℕ) (f : Fairness) (p : Place) : Type 0 where
  pub form : FairForm
  pub good : GoodFair e form
  pub same : fairness_placeless (fairness_of form) ≡ fairness_placeless f
  pub end : Place
  pub chunk : Chunk any p (fairness_text f) (spell_fair form) end

pub fair_at : (k : ℕ) (f : Fairness) → IsFairness f → (p : Place) → Right (1 + k) p → FairAt (1 + k) f p
fair_at k f h p r =
    let o = over_at k f.over h.0 p r in
    let w : List ℕ = cond f.strong (codes "SF_vars") (codes "WF_vars") in
    let q = after o.end w in
    let rq = fair_over (1 + k) f.strong o.end o.right in
    let g = guard_at k f.guard h.1 (after q (codes "(")) (over (1 + k) q (codes "(") rq refl) in
    let c = call_at k f.action h.2 g.end g.right in
    record {
      form = record { over = o.form; at = o.end; strong = f.strong; left = q; guard = g.form; action = c.form; right = c.end };
      good = (o.good, o.right, rq, g.good, c.good, c.right);
      same = (λ i. record { over = o.same i; strong = f.strong; guard = g.same i; action = c.same i });
      end = after c.end (codes ")");
      chunk = join (join (join (join o.chunk (fair_open f.strong o.end) (λ y e. refl)) g.chunk g.begins) c.chunk (λ y e. call_starts f.action y h.2)) (close c.end) (λ y e. refl);
    }
