-- Uses of names are kept once where they are the same; and what a use offends.
use Rattle.std.proofs.Common.{◌≡◌, ℕ, List, ◌++◌, Bool, true, false, ◌&&◌, nat_eq, Option, None, refl, sym, ap, ◌∙◌, eqb-true, true≢false}
use Rattle.std.proofs.lemmas.Bool.{and_parts}
use Rattle.tla_token.specs.declared.rule.Refusal.{Refusal}
use Rattle.pcal_tree.specs.Offences.{first}
use Rattle.algorithm_answer.specs.Joined.{joined}
use Rattle.algorithm_answer.proofs.Joins.{joined_assoc, first_append}
use Rattle.pcal_tree.proofs.SetLaws.{Sound}
use Rattle.algorithm_limits.proofs.Tables.{equal, equal_is}
use Rattle.declared_rules.specs.declared.using.NameUse.{NameUse}
use Rattle.declared_rules.specs.declared.using.Kind.{Kind}
use Rattle.declared_rules.specs.declared.using.Kind.TheVariants as kind
use Rattle.declared_rules.specs.contracts.using.KindPartialEq.TheImpl.{eq-value as kinds}
use Rattle.declared_rules.specs.contracts.using.NameUsePartialEq.TheImpl.{eq-value as same}

fields_sound : (kinds : Kind → Kind → Bool) → Sound kinds
    → Sound (λ (a b : NameUse). equal a.name b.name && (kinds a.kind b.kind && (nat_eq a.line b.line && nat_eq a.col b.col)))
fields_sound kinds sound a b e =
    let h = and_parts (equal a.name b.name) (kinds a.kind b.kind && (nat_eq a.line b.line && nat_eq a.col b.col)) e in
    let q = and_parts (kinds a.kind b.kind) (nat_eq a.line b.line && nat_eq a.col b.col) h.1 in
    let p = and_parts (nat_eq a.line b.line) (nat_eq a.col b.col) q.1 in
    λ i. record { name = equal_is a.name b.name h.0 i; kind = sound a.kind b.kind q.0 i; line = eqb-true a.line b.line p.0 i; col = eqb-true a.col b.col p.1 i }

pub all_three : (a b c : List Refusal) (x y z : Option Refusal) → x ≡ joined None (first a) → y ≡ joined x (first b) → z ≡ joined y (first c) → z ≡ first (a ++ (b ++ c))
all_three a b c x y z e f g =
    g ∙ ap (λ (o : Option Refusal). joined o (first c)) (f ∙ ap (λ (o : Option Refusal). joined o (first b)) e)
    ∙ joined_assoc (first a) (first b) (first c) ∙ ap (joined (first a)) (sym (first_append b c)) ∙ sym (first_append a (b ++ c))

-- what is the same is equal
pub kinds_sound : Sound kinds.it
kinds_sound (kind.Applied n true) (kind.Applied k true) e = ap (λ (m : ℕ). kind.Applied m true) (eqb-true n k (and_parts (nat_eq n k) true e).0)
kinds_sound (kind.Applied n false) (kind.Applied k false) e = ap (λ (m : ℕ). kind.Applied m false) (eqb-true n k (and_parts (nat_eq n k) true e).0)
kinds_sound (kind.Applied n true) (kind.Applied k false) e = absurd (true≢false (sym (and_parts (nat_eq n k) false e).1))
kinds_sound (kind.Applied n false) (kind.Applied k true) e = absurd (true≢false (sym (and_parts (nat_eq n k) false e).1))
kinds_sound kind.Assigned kind.Assigned e = refl
kinds_sound kind.Handed kind.Handed e = refl
kinds_sound (kind.Applied n r) kind.Assigned e = cc
kinds_sound (kind.Applied n r) kind.Handed e = cc
kinds_sound kind.Assigned (kind.Applied n r) e = cc
kinds_sound kind.Assigned kind.Handed e = cc
kinds_sound kind.Handed (kind.Applied n r) e = cc
kinds_sound kind.Handed kind.Assigned e = cc

pub uses_sound : Sound same.it
uses_sound = fields_sound kinds.it kinds_sound
