-- Formulas of fairness and conjuncts of Spec, by the next token.
use Rattle.std.proofs.Common.{◌≡◌, ℕ, suc, Bool, true, false, List, length, Ok, Option, Some, None, if◌then◌else◌, refl, sym, ap, ◌∙◌, subst}
use Rattle.std.specs.Prelude.{bytes_eq, codes}
use Rattle.tla_token.specs.declared.place.Place.{Place}
use Rattle.tla_token.specs.declared.rule.Rule.TheVariants.{Syntax}
use Rattle.tla_tree.specs.declared.op.Op.TheVariants as op
use Rattle.tla_tree.specs.Tree.{Tree, Word}
use Rattle.tla_tree.specs.Lexical.{TokenView, Token}
use Rattle.tla_tree.specs.Lexical as tk
use Rattle.tla_tree.specs.Reader.{Out, Reader, then_read, ◌>>=◌, gives, skip, peek, take, took, next, tail, is_mark, is_key, a_mark, a_sign, word_of}
use Rattle.module_tree.specs.Units.{OverForm, GuardForm, FairForm, SpecForm, start_line, fair_line}
use Rattle.outside_reading.specs.PlainUnits.{is_keyword}
use Rattle.expr_nodes.specs.declared.cursor.Halt.{Halt}
use Rattle.expr_nodes.specs.declared.cursor.Halt.TheVariants as halt
use Rattle.expr_nodes.specs.ReadIn.{Reads, Fails}
use Rattle.expr_rows.proofs.ReadLemmas.{fails_then, fails_after}
use Rattle.region_reading.specs.Bound.{Bound, deeper, a_phrase, opening}
use Rattle.region_reading.specs.NameReader.{a_title, is_title}
use Rattle.region_reading.specs.CallReader.{over_from, over_by, behind_over, guard_from, guard_by, behind_guard, strong_if, strong_of, fair_end, fair_with, fair_from, fair_in, start_if, steps_from, spec_by, spec_in}
use Rattle.region_items.specs.Begins.{bound}
use Rattle.region_items.proofs.OpeningRead.{opened_more}
use Rattle.module_write.specs.declared.«module».Fairness.{Fairness}
use Rattle.region_calls.specs.declared.fairness.SpecLine.TheVariants as line
use Rattle.region_calls.specs.Told.{AmongForm, among_in, IsAmong, IsOver, IsGuard, IsFair, IsSpec, guard_form, behind_bracket}
use Rattle.region_calls.proofs.Openings.{deeper_more, opening_more, reads_then, by_mark, by_for_all}
use Rattle.region_calls.proofs.CallSteps.{then_same, among_then}

-- ---- whether it is strong
strong_by : (p : Place) (k : TokenView) → strong_of p k ≡ strong_if (is_keyword (codes "SF_vars") k) (is_keyword (codes "WF_vars") k) p
strong_by p (tk.other w) = refl
strong_by p k = refl

module _ (e : ℕ) (ts : List Token) where
  strong_took : (s w : Bool) → is_keyword (codes "SF_vars") (next e ts).kind ≡ s → is_keyword (codes "WF_vars") (next e ts).kind ≡ w → take e strong_of ts ≡ took (strong_if s w (next e ts).place) ts
  strong_took s w h g = ap (λ (o : Option (Place × Bool)). took o ts) (strong_by (next e ts).place (next e ts).kind ∙ λ i. strong_if (h i) (g i) (next e ts).place)

  pub strong_sf : (us : List Token) → is_keyword (codes "SF_vars") (next e ts).kind ≡ true → us ≡ tail ts → Reads (λ (b : Place × Bool). b.1 ≡ true) us (take e strong_of ts)
  strong_sf us h t = record { what = ((next e ts).place, true); is = strong_took true _ h refl ∙ (λ i. Ok (((next e ts).place, true), sym t i)); told = refl }

  pub strong_wf : (us : List Token) → is_keyword (codes "SF_vars") (next e ts).kind ≡ false → is_keyword (codes "WF_vars") (next e ts).kind ≡ true → us ≡ tail ts → Reads (λ (b : Place × Bool). b.1 ≡ false) us (take e strong_of ts)
  strong_wf us h g t = record { what = ((next e ts).place, false); is = strong_took false true h g ∙ (λ i. Ok (((next e ts).place, false), sym t i)); told = refl }

  pub strong_no : is_keyword (codes "SF_vars") (next e ts).kind ≡ false → is_keyword (codes "WF_vars") (next e ts).kind ≡ false → Fails (halt.Refused Syntax (length ts)) (take e strong_of ts)
  strong_no h g = subst (Fails (halt.Refused Syntax (length ts))) (sym (strong_took false false h g)) (refl, refl)

-- ---- what stands before
abbrev over_with : Place → AmongForm → Reader (Option OverForm)
over_with p f = gives (Some (record { all = p; at = f.at; name = f.name; in_at = f.in_at; set = f.set; colon = f.colon }))

module _ (l d e k : ℕ) (ts us : List Token) (h : suc d ≡ l) (g : k ≡ e) (m : is_key tk.for_all_key (next e ts).kind ≡ true) (t : us ≡ tail ts) where
  over_open : peek e (over_by (bound l) e) ts ≡ then_read (among_in (bound d) k us) (over_with (next e ts).place)
  over_open =
      by_for_all (over_by (bound l) e) e ts m
      ∙ opened_more l d (λ n. skip (over_from n e (next e ts).place)) ts h
      ∙ (λ i. over_from (bound d) (sym g i) (next e ts).place (sym t i))
      ∙ sym (among_then (bound d) k (over_with (next e ts).place) us)

  pub over_read : {pool : List Tree} {x : Word × ℕ} {vs : List Token} → Reads (IsAmong pool x) vs (among_in (bound d) k us)
      → Reads (λ (f : Option OverForm). IsOver pool (Some x) f × (behind_over (bound l) f ≡ bound d)) vs (peek e (over_by (bound l) e) ts)
  over_read {pool} {x} {vs} r = subst (Reads (λ (f : Option OverForm). IsOver pool (Some x) f × (behind_over (bound l) f ≡ bound d)) vs) (sym over_open)
      (reads_then (Reads (λ (f : Option OverForm). IsOver pool (Some x) f × (behind_over (bound l) f ≡ bound d)) vs) (among_in (bound d) k us) (over_with (next e ts).place) r (λ f is. record {
        what = Some (record { all = (next e ts).place; at = f.at; name = f.name; in_at = f.in_at; set = f.set; colon = f.colon });
        is = refl;
        told = (record { below = is.set.below; over = λ i. Some (is.name i, is.set.tree i) }, deeper_more l d h);
      }))

  pub over_lost : (w : Halt) → Fails w (among_in (bound d) k us) → Fails w (peek e (over_by (bound l) e) ts)
  over_lost w f = subst (Fails w) (sym over_open) (fails_then w (among_in (bound d) k us) (over_with (next e ts).place) f)

-- ---- a test before the action
guard_same : (l d e : ℕ) (p : Place) (us : List Token) → suc d ≡ l → guard_from (bound l) (bound d) e p us ≡ behind_bracket (bound d) e p us
guard_same l d e p us h = then_same (a_phrase (bound d) e us) _ _ (λ a vs. then_same (a_mark e tk.close_bracket vs) _ _ (λ q ws.
    ap (λ (o : Out Place). then_read o (λ s. gives (Some (guard_form p a q s)))) (opening_more l d (a_sign e op.And) ws h)))

behind_is : (l d : ℕ) → suc d ≡ l → {pool : List Tree} {i : ℕ} (g : Option GuardForm) → IsGuard pool (Some i) g → behind_guard (bound l) g ≡ bound d
behind_is l d h (Some f) is = deeper_more l d h
behind_is l d h None is = (let no = is.guard in absurd cc)

module _ (l d e k : ℕ) (ts us : List Token) (h : suc d ≡ l) (g : k ≡ e) (m : is_mark tk.open_bracket (next e ts).kind ≡ true) (t : us ≡ tail ts) where
  guard_open : peek e (guard_by (bound l) e) ts ≡ behind_bracket (bound d) k (next e ts).place us
  guard_open =
      by_mark (guard_by (bound l) e) e ts tk.open_bracket m
      ∙ opened_more l d (λ n. skip (guard_from (bound l) n e (next e ts).place)) ts h
      ∙ guard_same l d e (next e ts).place (tail ts) h
      ∙ (λ i. behind_bracket (bound d) (sym g i) (next e ts).place (sym t i))

  pub guard_read : {pool : List Tree} {i : ℕ} {vs : List Token} → ((p : Place) → Reads (IsGuard pool (Some i)) vs (behind_bracket (bound d) k p us))
      → Reads (λ (g : Option GuardForm). IsGuard pool (Some i) g × (behind_guard (bound l) g ≡ bound d)) vs (peek e (guard_by (bound l) e) ts)
  guard_read f = (let r = f (next e ts).place in record { what = r.what; is = guard_open ∙ r.is; told = (r.told, behind_is l d h r.what r.told) })

  pub guard_lost : (w : Halt) → ((p : Place) → Fails w (behind_bracket (bound d) k p us)) → Fails w (peek e (guard_by (bound l) e) ts)
  guard_lost w f = subst (Fails w) (sym guard_open) (f (next e ts).place)

-- ---- formulas of fairness
pub fair_read : (R : Out FairForm → Type 0) {P : Option OverForm → Type 0} (l d e : ℕ) (ts us : List Token) → Reads (λ f. P f × (behind_over (bound l) f ≡ bound d)) us (peek e (over_by (bound l) e) ts)
    → ((f : Option OverForm) → P f → R (fair_from (bound d) e f us)) → R (fair_in (bound l) e ts)
fair_read R {P} l d e ts us r k = reads_then R _ (λ f. fair_from (behind_over (bound l) f) e f) r (λ f is. subst (λ (m : Bound). R (fair_from m e f us)) (sym is.1) (k f is.0))

module _ (R : Out FairForm → Type 0) {B : Place × Bool → Type 0} (l d e k : ℕ) (ts us vs : List Token) (o : Option OverForm) (p : Place)
    (h : suc d ≡ l) (i : k ≡ e) (r : Reads B us (take e strong_of ts)) (q : opening (bound l) (a_mark e tk.open_bracket) us ≡ Ok (p, vs)) where
  -- behind its bracket
  fair_inside : ((b : Place × Bool) → B b → R (fair_with (bound d) e o b p vs)) → R (fair_from (bound l) e o ts)
  fair_inside f = reads_then R _ (λ b. opening (bound l) (a_mark e tk.open_bracket) >>= λ p. fair_with (deeper (bound l)) e o b p) r (λ b is.
      subst (λ (t : Out Place). R (then_read t (λ p. fair_with (deeper (bound l)) e o b p))) (sym q) (subst (λ (m : Bound). R (fair_with m e o b p vs)) (sym (deeper_more l d h)) (f b is)))

  -- behind its test
  pub fair_tested : {G : Option GuardForm → Type 0} (n : ℕ) (ws : List Token) → Reads (λ g. G g × (behind_guard (bound d) g ≡ bound n)) ws (peek k (guard_by (bound d) k) vs)
      → ((b : Place × Bool) (g : Option GuardForm) → B b → G g → R (fair_end (bound n) e o b p g ws)) → R (fair_from (bound l) e o ts)
  fair_tested {G} n ws s f =
      let tested = subst (λ (e : ℕ). Reads (λ g. G g × (behind_guard (bound d) g ≡ bound n)) ws (peek e (guard_by (bound d) e) vs)) i s in
      fair_inside (λ b is. reads_then R _ (λ g. fair_end (behind_guard (bound d) g) e o b p g) tested (λ g j. subst (λ (m : Bound). R (fair_end m e o b p g ws)) (sym j.1) (f b g is j.0)))

pub fair_lost : {B : Place × Bool → Type 0} (w : Halt) (l d e k : ℕ) (ts us vs : List Token) (o : Option OverForm) (p : Place) → suc d ≡ l → k ≡ e → Reads B us (take e strong_of ts) → opening (bound l) (a_mark e tk.open_bracket) us ≡ Ok (p, vs)
    → Fails w (peek k (guard_by (bound d) k) vs) → Fails w (fair_from (bound l) e o ts)
fair_lost w l d e k ts us vs o p h i r q f =
    let tested = subst (λ (e : ℕ). Fails w (peek e (guard_by (bound d) e) vs)) i f in
    fair_inside (Fails w) l d e k ts us vs o p h i r q (λ b is. fails_then w (peek e (guard_by (bound d) e) vs) (λ g. fair_end (behind_guard (bound d) g) e o b p g) tested)

pub fair_unopened : {B : Place × Bool → Type 0} (w : Halt) (m : Bound) (e : ℕ) (ts us : List Token) (o : Option OverForm) → Reads B us (take e strong_of ts) → Fails w (opening m (a_mark e tk.open_bracket) us) → Fails w (fair_from m e o ts)
fair_unopened w m e ts us o r f =
    fails_after w (take e strong_of ts) (λ b. opening m (a_mark e tk.open_bracket) >>= λ p. fair_with (deeper m) e o b p) r
    (λ b is. fails_then w (opening m (a_mark e tk.open_bracket) us) (λ p. fair_with (deeper m) e o b p) f)

pub fair_stopped : (w : Halt) (m : Bound) (e : ℕ) (ts : List Token) → Fails w (peek e (over_by m e) ts) → Fails w (fair_in m e ts)
fair_stopped w m e ts f = fails_then w (peek e (over_by m e) ts) (λ o. fair_from (behind_over m o) e o) f

-- ---- conjuncts of Spec
module _ (e : ℕ) (ts : List Token) where
  pub spec_word : (m : Bound) (w : Place × Word) → word_of (next e ts).place (next e ts).kind ≡ Some w → spec_in m e ts ≡ then_read (a_title e (codes "Init") ts) (λ p. gives (start_line p))
  spec_word m w h = by (next e ts).kind h
    where
      start_is : (b : Bool) (p : Place) → start_if b p ts ≡ then_read (took (if b then Some p else None) ts) (λ p. gives (start_line p))
      start_is true p = refl
      start_is false p = refl

      by : (k : TokenView) → word_of (next e ts).place k ≡ Some w → spec_by m e (next e ts).place k ts ≡ then_read (took (if is_title (codes "Init") k then Some (next e ts).place else None) ts) (λ p. gives (start_line p))
      by (tk.word x) h = start_is (bytes_eq x (codes "Init")) (next e ts).place
      by k h = absurd cc

  pub spec_open : (l d k : ℕ) (us : List Token) → suc d ≡ l → k ≡ e → is_mark tk.box (next e ts).kind ≡ true → us ≡ tail ts → spec_in (bound l) e ts ≡ steps_from (bound d) k (next e ts).place us
  spec_open l d k us h g m t = by_mark (spec_by (bound l) e) e ts tk.box m ∙ opened_more l d (λ n. skip (steps_from n e (next e ts).place)) ts h ∙ (λ i. steps_from (bound d) (sym g i) (next e ts).place (sym t i))

  pub spec_read : (R : Out SpecForm → Type 0) (l d k : ℕ) (us : List Token) → suc d ≡ l → k ≡ e → is_mark tk.box (next e ts).kind ≡ true → us ≡ tail ts → ((p : Place) → R (steps_from (bound d) k p us)) → R (spec_in (bound l) e ts)
  spec_read R l d k us h g m t f = subst R (sym (spec_open l d k us h g m t)) (f (next e ts).place)

  pub spec_else : (m : Bound) → word_of (next e ts).place (next e ts).kind ≡ None → is_mark tk.box (next e ts).kind ≡ false → spec_in m e ts ≡ then_read (fair_in m e ts) (λ f. gives (fair_line f))
  spec_else m h g = by (next e ts).kind h g
    where
      by : (k : TokenView) → word_of (next e ts).place k ≡ None → is_mark tk.box k ≡ false → spec_by m e (next e ts).place k ts ≡ then_read (fair_in m e ts) (λ f. gives (fair_line f))
      by (tk.word x) h g = absurd cc
      by (tk.mark tk.box) h g = absurd cc
      by k h g = refl

  pub spec_fair : {pool : List Tree} {x : Fairness} {us : List Token} (m : Bound) → word_of (next e ts).place (next e ts).kind ≡ None → is_mark tk.box (next e ts).kind ≡ false
      → Reads (IsFair pool x) us (fair_in m e ts) → Reads (IsSpec pool (line.Fair x)) us (spec_in m e ts)
  spec_fair m h g r = record { what = fair_line r.what; is = spec_else m h g ∙ ap (λ (o : Out FairForm). then_read o (λ f. gives (fair_line f))) r.is; told = r.told }

  pub spec_lost : (w : Halt) (m : Bound) → word_of (next e ts).place (next e ts).kind ≡ None → is_mark tk.box (next e ts).kind ≡ false → Fails w (fair_in m e ts) → Fails w (spec_in m e ts)
  spec_lost w m h g f = subst (Fails w) (sym (spec_else m h g)) (fails_then w (fair_in m e ts) (λ f. gives (fair_line f)) f)
