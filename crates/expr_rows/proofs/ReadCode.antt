-- The readers' steps at what the code has looked at.
use Rattle.std.proofs.Common.{◌≡◌, ℕ, suc, ◌-◌, ◌≤◌, Bool, true, false, List, length, Result, Ok, Err, Some, refl, sym, ap, ◌∙◌, subst, arith}
use Rattle.std.proofs.lemmas.List.{length-map}
use Rattle.tla_token.specs.declared.place.Place.{Place}
use Rattle.tla_token.specs.declared.rule.Rule.TheVariants.{TooDeep}
use Rattle.tla_token.specs.declared.token.Token as code_token
use Rattle.tla_tree.specs.declared.op.Op.{Op}
use Rattle.expr_nodes.specs.declared.cursor.Halt.{Halt}
use Rattle.expr_nodes.specs.declared.cursor.Halt.TheVariants as halt
use Rattle.expr_nodes.specs.declared.shape.Context as code
use Rattle.expr_nodes.specs.declared.view.View.{View}
use Rattle.expr_nodes.specs.declared.view.View.TheVariants as view
use Rattle.tla_tree.specs.Lexical.{Token, token}
use Rattle.tla_tree.specs.Nesting.{chain}
use Rattle.tla_tree.specs.Spelling.{Phrase, infix_of}
use Rattle.expr_nodes.specs.ShapeOf.{context_seen}
use Rattle.expr_nodes.specs.ViewSeen.{view_seen}
use Rattle.tla_tree.specs.Reader.{Out, Reader, then_read, next, tail, right_of, bound, goes_on, climb_by, room}
use Rattle.tla_tree.specs.Whole.{whole_in}
use Rattle.expr_nodes.specs.ReadIn.{seen, Reads, Fails, Told}
use Rattle.expr_rows.proofs.ReadSteps.{climb_at, climb_stops, climb_deep, climb_more}
use Rattle.expr_rows.proofs.ReadLemmas.{fails_then}

-- a refusal at the first token that is left
pub fails_here : {A : Type 0} (bytes : List ℕ) (ts : List code_token.Token) (o : Out A) → o ≡ Err (TooDeep, seen bytes ts) → Fails (halt.Refused TooDeep (length ts)) o
fails_here bytes ts o e = subst (λ (o : Out _). Fails (halt.Refused TooDeep (length ts)) o) (sym e) (refl, length-map ts _)

pub told_after : {X A B : Type 0} {P : A → Type 0} {u : List Token} (Q : X → B → Type 0) (g : X → List Token) (r : Result X Halt) (o : Out A) (f : A → Reader B) → Reads P u o → ((a : A) → P a → Told Q g r (f a u)) → Told Q g r (then_read o f)
told_after {X} {A} {B} {P} {u} Q g r o f h k = subst (λ (o : Out A). Told Q g r (then_read o f)) (sym h.is) (k h.what h.told)

pub fails_step : {A B : Type 0} (e : Halt) (o : Out B) (p : Out A) (f : A → Reader B) → o ≡ then_read p f → Fails e p → Fails e o
fails_step e o p f i h = subst (λ (o : Out _). Fails e o) (sym i) (fails_then e p f h)

pub told_step : {X A B : Type 0} {P : A → Type 0} {u : List Token} (Q : X → B → Type 0) (g : X → List Token) (r : Result X Halt) (o : Out B) (p : Out A) (f : A → Reader B) → o ≡ then_read p f → Reads P u p → ((a : A) → P a → Told Q g r (f a u)) → Told Q g r o
told_step {X} {A} {B} {P} {u} Q g r o p f i h k = subst (λ (o : Out B). Told Q g r o) (sym i) (told_after Q g r p f h k)

module _ (linked : Bool) (bytes : List ℕ) (b e : ℕ) (c : code.Context) (a : Phrase) (ts : List code_token.Token) (p : Place) (v : View) (n : token p (view_seen bytes v) ≡ next e (seen bytes ts)) where
  pub climb_other : ((o : Op) → v ≡ view.Sign o → ⊥) → (whole_in linked (Some b)).climb e (context_seen c) a (seen bytes ts) ≡ Ok (a, seen bytes ts)
  climb_other d = climb_at _ b e c a (seen bytes ts) p (view_seen bytes v) n ∙ by v d
    where
      by : (v : View) → ((o : Op) → v ≡ view.Sign o → ⊥) → climb_by (room linked (whole_in linked) (Some b)) (whole_in linked (Some b)) e (context_seen c) a p (view_seen bytes v) (seen bytes ts) ≡ Ok (a, seen bytes ts)
      by (view.Sign o) d = absurd (d o refl)
      by (view.Word s) d = refl
      by (view.Reserved s) d = refl
      by (view.Number k) d = refl
      by (view.BigNumber s) d = refl
      by (view.Quote s) d = refl
      by (view.Constant k) d = refl
      by (view.Mark m) d = refl
      by (view.Key k) d = refl
      by (view.Other s) d = refl

  module _ (o : Op) (is : v ≡ view.Sign o) (k : ℕ) (at : k ≡ bound (context_seen c)) (r : Bool) (g : r ≡ goes_on k a p o) where
    sign_next : token p (view_seen bytes (view.Sign o)) ≡ next e (seen bytes ts)
    sign_next = subst (λ (v : View). token p (view_seen bytes v) ≡ next e (seen bytes ts)) is n

    goes : (t : Bool) → r ≡ t → goes_on (bound (context_seen c)) a p o ≡ t
    goes t f = ap (λ (k : ℕ). goes_on k a p o) (sym at) ∙ sym g ∙ f

    pub stops_here : r ≡ false → (whole_in linked (Some b)).climb e (context_seen c) a (seen bytes ts) ≡ Ok (a, seen bytes ts)
    stops_here f = climb_stops _ b e c a (seen bytes ts) p o sign_next (goes false f)

    pub deep_here : r ≡ true → b ≤ chain a → (whole_in linked (Some b)).climb e (context_seen c) a (seen bytes ts) ≡ Err (TooDeep, seen bytes ts)
    deep_here f l = climb_deep _ b e c a (seen bytes ts) p o sign_next (goes true f) l

    pub more_here : r ≡ true → (d : ℕ) → d ≡ b - chain a - 1 → suc (chain a) ≤ b → (rest : List code_token.Token) → seen bytes rest ≡ tail (seen bytes ts)
        → (whole_in linked (Some b)).climb e (context_seen c) a (seen bytes ts) ≡ then_read ((whole_in linked (Some d)).expr e (right_of o) (seen bytes rest)) (λ s. (whole_in linked (Some b)).climb e (context_seen c) (infix_of a p o s))
    more_here f d i l rest s =
        let j : b - suc (chain a) ≡ d = omega (arith, i, l) in
        climb_more _ b e c a (seen bytes ts) p o sign_next (goes true f) l
        ∙ (λ y. then_read ((whole_in linked (Some (j y))).expr e (right_of o) (sym s y)) (λ s. (whole_in linked (Some b)).climb e (context_seen c) (infix_of a p o s)))
