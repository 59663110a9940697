-- Items and calls that go over members, choose, or bind a name.
use Rattle.std.proofs.Common.{◌≡◌, List, [], ◌∷◌, length, reverse, Bool, cond, Ok, Result, refl, sym, ap, subst, ◌∙◌, arith}
use Rattle.std.proofs.lemmas.List.{reverse-reverse}
use Rattle.tla_value.specs.declared.stop.EvalStop.{EvalStop}
use Rattle.tla_value.specs.Value.{Value, Values, values_in, Outcome, ◌>>=◌}
use Rattle.module_tree.specs.ActionTruth.{Verdict, some_member}
use Rattle.value_forms.specs.Gives.{Tells}

-- ---- members, which are taken from the last on of the reversed list

pub members_whole : (o : Outcome Values) (one : Value → Verdict) (all left : List Value) → o ≡ Ok (values_in all) → left ≡ reverse all → some_member (values_in (reverse left)) one ≡ (o >>= λ vs. some_member vs one)
members_whole o one all left h e = ap (λ (l : List Value). some_member (values_in l) one) (ap reverse e ∙ reverse-reverse all) ∙ sym (ap (λ (u : Outcome Values). u >>= λ vs. some_member vs one) h)

pub none_left : (xs : List Value) → length xs ≡ 0 → reverse xs ≡ []
none_left [] e = refl
none_left (x ∷ xs) e = absurd (let no : ⊥ = omega (arith, e) in no)

-- ---- one of two

pub chosen : (r : Result Bool EvalStop) (first : Bool) (o a b : Verdict) → o ≡ Ok first → Tells r (cond first a b) → Tells r (o >>= λ q. cond q a b)
chosen r first o a b h t = subst (Tells r) (sym (ap (λ (u : Verdict). u >>= λ q. cond q a b) h)) t
