-- Forms that open, as code reads them that counts down how many may open: brackets, Terminating and Termination.
use Rattle.std.proofs.Common.{◌≡◌, ℕ, suc, List, Ok, sym, ◌∙◌, subst}
use Rattle.std.specs.Prelude.{codes}
use Rattle.tla_token.specs.declared.place.Place.{Place}
use Rattle.tla_tree.specs.declared.op.Op.TheVariants as op
use Rattle.tla_tree.specs.Lexical.{Token}
use Rattle.tla_tree.specs.Lexical as tk
use Rattle.tla_tree.specs.Reader.{Out, Reader, then_read, ◌>>=◌, gives, take, bullet_of, a_mark, a_sign}
use Rattle.module_tree.specs.Units.{UnitForm, terminating_form, termination_form}
use Rattle.region_reading.specs.Bound.{Bound, deeper, a_phrase, opening}
use Rattle.region_reading.specs.NameReader.{a_keyword, a_title}
use Rattle.region_reading.specs.UnitReader.{terminating_after, terminating_from, termination_from}
use Rattle.region_items.specs.Begins.{bound}
use Rattle.region_calls.proofs.Openings.{deeper_more}
use Rattle.region_calls.proofs.CallSteps.{then_after, then_same}
use Rattle.region_units.specs.Brackets.{BracketForm, closed_in, bracketed_in, behind_bullet}

-- what is so behind what was read
on : {A B : Type 0} (R : Out B → Type 0) {o : Out A} (f : A → Reader B) {x : A × List Token} → o ≡ Ok x → R (f x.0 x.1) → R (then_read o f)
on R f e h = subst (λ (o : Out _). R (then_read o f)) (sym e) h

pub bracketed_so : (R : Out BracketForm → Type 0) (l d e : ℕ) (p : Place) (ts us : List Token) → suc d ≡ l → opening (bound l) (a_mark e tk.open_bracket) ts ≡ Ok (p, us) → R (closed_in (bound d) e p us) → R (bracketed_in (bound l) e ts)
bracketed_so R l d e p ts us h o r =
    on R (λ p. closed_in (deeper (bound l)) e p) o (subst (λ (m : Bound). R (closed_in m e p us)) (sym (deeper_more l d h)) r)

-- ---- one by one, or in brackets and then more
module _ {B : Type 0} (m : Bound) (e : ℕ) (k : BracketForm → Reader B) where
  abbrev bracketed_on : Reader B
  bracketed_on = opening m (a_mark e tk.open_bracket) >>= λ p. a_phrase (deeper m) e >>= λ a. a_mark e tk.close_bracket >>= λ q. k (record { left = p; inner = a; right = q })

  bracketed_then : (ts : List Token) → then_read (bracketed_in m e ts) k ≡ bracketed_on ts
  bracketed_then ts =
      then_after (opening m (a_mark e tk.open_bracket) ts) _ k ∙ then_same (opening m (a_mark e tk.open_bracket) ts) _ _ (λ p us.
      then_after (a_phrase (deeper m) e us) _ k ∙ then_same (a_phrase (deeper m) e us) _ _ (λ a vs. then_after (a_mark e tk.close_bracket vs) _ k))

-- ---- Terminating
behind_is : (m : Bound) (p q s : Place) (ts : List Token) → behind_bullet m p q s ts ≡ terminating_after m p q s ts
behind_is m p q s ts =
    bracketed_then m s.col (λ f. take 1 (bullet_of op.And s.col) >>= λ v. opening m (a_keyword s.col (codes "UNCHANGED")) >>= λ w. a_title s.col (codes "vars") >>= λ z.
    gives (terminating_form p q s f.left f.inner f.right v w z)) ts

pub terminating_so : (R : Out UnitForm → Type 0) (l d : ℕ) (p q s : Place) (ts us vs : List Token) → suc d ≡ l → a_mark 1 tk.defines ts ≡ Ok (q, us) → opening (bound l) (a_sign 1 op.And) us ≡ Ok (s, vs)
    → R (behind_bullet (bound d) p q s vs) → R (terminating_from (bound l) p ts)
terminating_so R l d p q s ts us vs h o n r =
    on R (λ q. opening (bound l) (a_sign 1 op.And) >>= λ s. terminating_after (deeper (bound l)) p q s) o
    (on R (λ s. terminating_after (deeper (bound l)) p q s) n
    (subst (λ (m : Bound). R (terminating_after m p q s vs)) (sym (deeper_more l d h)) (subst R (behind_is (bound d) p q s vs) r)))

-- ---- Termination
abbrev ended_in : Place → Place → Place → Place → BracketForm → Reader UnitForm
ended_in p q s t f = gives (termination_form p q s t f.left f.inner f.right)

pub termination_so : (R : Out UnitForm → Type 0) (l d : ℕ) (p q s t : Place) (ts us vs ws : List Token) → suc d ≡ l → a_mark 1 tk.defines ts ≡ Ok (q, us) → opening (bound l) (a_sign 1 op.Less) us ≡ Ok (s, vs)
    → a_sign 1 op.Greater vs ≡ Ok (t, ws) → R (then_read (bracketed_in (bound d) 1 ws) (ended_in p q s t)) → R (termination_from (bound l) p ts)
termination_so R l d p q s t ts us vs ws h o n i r =
    on R (λ q. opening (bound l) (a_sign 1 op.Less) >>= λ s. a_sign 1 op.Greater >>= λ t. bracketed_on (deeper (bound l)) 1 (ended_in p q s t)) o
    (on R (λ s. a_sign 1 op.Greater >>= λ t. bracketed_on (deeper (bound l)) 1 (ended_in p q s t)) n
    (on R (λ t. bracketed_on (deeper (bound l)) 1 (ended_in p q s t)) i
    (subst (λ (m : Bound). R (bracketed_on m 1 (ended_in p q s t) ws)) (sym (deeper_more l d h)) (subst R (bracketed_then (bound d) 1 (ended_in p q s t) ws) r))))
