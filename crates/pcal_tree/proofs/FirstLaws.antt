-- Lists of offences that no test tells apart have the same offences, and the same first one.
use Rattle.std.proofs.Common.{◌≡◌, ℕ, ◌≤◌, List, [], ◌∷◌, ◌++◌, Bool, true, false, ◌&&◌, ◌||◌, nat_eq, nat_lt, cond, Some, Contains, ◌↔◌, refl, sym, ◌∙◌, ap, arith, le-ltb, lt-ltb, ltb-true, ltb-false, eqb-true, eq-eqb, true≢false}
use Rattle.std.specs.List.{list_any}
use Rattle.std.proofs.lemmas.List.Folds.{list_any-append}
use Rattle.std.specs.Str.{bytes_eq}
use Rattle.std.proofs.lemmas.Slice.Eq.{bytes_eq-Decides}
use Rattle.std.proofs.lemmas.Bool.{and_parts, and_from, or_parts, or_left, or_right}
use Rattle.std.proofs.lemmas.Map.Views.{Contains-from_any, list_any-from_Contains}
use Rattle.tla_token.specs.declared.rule.Rule.{Rule}
use Rattle.tla_token.specs.declared.rule.Refusal.{Refusal}
use Rattle.tla_token.specs.declared.rule.Rule.TheVariants as rule
use Rattle.tla_token.specs.Rules.{rule_number}
use Rattle.pcal_tree.specs.Offences.{is_before, is_sooner, sooner, first}
use Rattle.pcal_tree.specs.laws.MacroUses.{same_place, same_name, same_refusal}
use Rattle.pcal_tree.proofs.SetLaws.{Same, Sound}

-- ---- what is the same is equal

abbrev all_rules : List Rule
all_rules = rule.NotAscii ∷ rule.BadToken ∷ rule.OpenComment ∷ rule.OpenString ∷ rule.NoModule ∷ rule.NoAlgorithm ∷ rule.TwoAlgorithms ∷ rule.BadRegion ∷ rule.Placement ∷ rule.Options ∷ rule.LeftOutWord ∷ rule.NumberTooBig ∷ rule.TooMany ∷ rule.TooDeep ∷ rule.Syntax ∷ rule.Unknown ∷ rule.Duplicate ∷ rule.Rebind ∷ rule.Reserved ∷ rule.Arity ∷ rule.NotVariable ∷ rule.NeedsModule ∷ rule.OutsideVariable ∷ rule.OpaqueUnit ∷ rule.ProcessNotConstant ∷ rule.InitSelf ∷ rule.InitLater ∷ rule.Infinite ∷ rule.DefinedStale ∷ rule.SelfOutside ∷ rule.FirstLabel ∷ rule.WhileLabel ∷ rule.AfterJump ∷ rule.AfterBranch ∷ rule.LabelInside ∷ rule.AssignTwice ∷ rule.UnknownLabel ∷ rule.ReturnOutside ∷ rule.DoubleLabel ∷ rule.TooLarge ∷ rule.BadLine ∷ []

abbrev rule_of : ℕ → List Rule → Rule
rule_of n [] = rule.Unknown
rule_of n (r ∷ rs) = cond (nat_eq (rule_number r) n) r (rule_of n rs)

numbered : (r : Rule) → rule_of (rule_number r) all_rules ≡ r
numbered rule.NotAscii = refl
numbered rule.BadToken = refl
numbered rule.OpenComment = refl
numbered rule.OpenString = refl
numbered rule.NoModule = refl
numbered rule.NoAlgorithm = refl
numbered rule.TwoAlgorithms = refl
numbered rule.BadRegion = refl
numbered rule.Placement = refl
numbered rule.Options = refl
numbered rule.LeftOutWord = refl
numbered rule.NumberTooBig = refl
numbered rule.TooMany = refl
numbered rule.TooDeep = refl
numbered rule.Syntax = refl
numbered rule.Unknown = refl
numbered rule.Duplicate = refl
numbered rule.Rebind = refl
numbered rule.Reserved = refl
numbered rule.Arity = refl
numbered rule.NotVariable = refl
numbered rule.NeedsModule = refl
numbered rule.OutsideVariable = refl
numbered rule.OpaqueUnit = refl
numbered rule.ProcessNotConstant = refl
numbered rule.InitSelf = refl
numbered rule.InitLater = refl
numbered rule.Infinite = refl
numbered rule.DefinedStale = refl
numbered rule.SelfOutside = refl
numbered rule.FirstLabel = refl
numbered rule.WhileLabel = refl
numbered rule.AfterJump = refl
numbered rule.AfterBranch = refl
numbered rule.LabelInside = refl
numbered rule.AssignTwice = refl
numbered rule.UnknownLabel = refl
numbered rule.ReturnOutside = refl
numbered rule.DoubleLabel = refl
numbered rule.TooLarge = refl
numbered rule.BadLine = refl

rule_sound : (r q : Rule) → rule_number r ≡ rule_number q → r ≡ q
rule_sound r q e = sym (numbered r) ∙ ap (λ n. rule_of n all_rules) e ∙ numbered q

pub place_sound : Sound same_place
place_sound p q e =
    let h = and_parts (nat_eq p.line q.line) (nat_eq p.col q.col) e in λ i. record { line = eqb-true p.line q.line h.0 i; col = eqb-true p.col q.col h.1 i }

pub name_sound : Sound same_name
name_sound n k e =
    let h = and_parts (bytes_eq n.word k.word) (same_place n.place k.place) e in
    λ i. record { word = (bytes_eq-Decides n.word k.word).0 h.0 i; place = place_sound n.place k.place h.1 i }

pub refusal_sound : Sound same_refusal
refusal_sound r q e =
    let h = and_parts (nat_eq (rule_number r.rule) (rule_number q.rule)) (same_place r.place q.place) e in
    λ i. record { rule = rule_sound r.rule q.rule (eqb-true (rule_number r.rule) (rule_number q.rule) h.0) i; place = place_sound r.place q.place h.1 i }

same_itself : (r : Refusal) → same_refusal r r ≡ true
same_itself r =
    and_from (nat_eq (rule_number r.rule) (rule_number r.rule)) (same_place r.place r.place) (eq-eqb (rule_number r.rule) (rule_number r.rule) refl)
    (and_from (nat_eq r.place.line r.place.line) (nat_eq r.place.col r.place.col) (eq-eqb r.place.line r.place.line refl) (eq-eqb r.place.col r.place.col refl))

-- ---- the same offences

same_turned : (r q : Refusal) → same_refusal r q ≡ true → same_refusal q r ≡ true
same_turned r q e = ap (λ (z : Refusal). same_refusal z r) (sym (refusal_sound r q e)) ∙ same_itself r

either_way : (r q : Refusal) → same_refusal r q ≡ same_refusal q r
either_way r q = by (same_refusal r q) (same_refusal q r) (same_turned r q) (same_turned q r)
  where
    by : (b c : Bool) → (b ≡ true → c ≡ true) → (c ≡ true → b ≡ true) → b ≡ c
    by true c h k = sym (h refl)
    by false true h k = k refl
    by false false h k = refl

any_contained : (r : Refusal) (xs : List Refusal) → Contains xs r → list_any (same_refusal r) xs ≡ true
any_contained r xs h =
    list_any-from_Contains {eq = same_refusal} (record {
      refl = same_itself;
      symm = either_way;
      congr = λ x y z e. ap (λ (w : Refusal). same_refusal w z) (refusal_sound x y e);
    }) r xs h

contained : (xs ys : List Refusal) → Same xs ys → (r : Refusal) → Contains xs r → Contains ys r
contained xs ys s r h = Contains-from_any {eq = same_refusal} refusal_sound r ys (sym (s (same_refusal r)) ∙ any_contained r xs h)

pub same_offences : (xs ys : List Refusal) → Same xs ys → (r : Refusal) → Contains xs r ↔ Contains ys r
same_offences xs ys s r = (contained xs ys s r, contained ys xs (λ f. sym (s f)) r)

-- ---- one number first, and then what k says

abbrev Before : ℕ → ℕ → Bool → Bool
Before a b k = nat_lt a b || (nat_eq a b && k)

and_false : (a b : Bool) → (a ≡ true → b ≡ false) → (a && b) ≡ false
and_false true b h = h refl
and_false false b h = refl

false_and : (a b : Bool) → (a && b) ≡ false → a ≡ true → b ≡ false
false_and true b h e = h
false_and false b h e = cc

-- not before
after_parts : (a b : ℕ) (k : Bool) → Before a b k ≡ false → (b ≤ a) × (a ≡ b → k ≡ false)
after_parts a b k e =
    let h = or_parts (nat_lt a b) (nat_eq a b && k) e in (ltb-false a b h.0, λ s. false_and (nat_eq a b) k h.1 (eq-eqb a b s))

after_from : (a b : ℕ) (k : Bool) → b ≤ a → (a ≡ b → k ≡ false) → Before a b k ≡ false
after_from a b k h s =
    (λ i. le-ltb a b h i || (nat_eq a b && k)) ∙ and_false (nat_eq a b) k (λ e. s (eqb-true a b e))

before_parts : (a b : ℕ) (k : Bool) → Before a b k ≡ true → (a ≤ b) × (a ≡ b → k ≡ true)
before_parts a b k e = by (nat_lt a b) refl e
  where
    by : (c : Bool) → nat_lt a b ≡ c → (c || (nat_eq a b && k)) ≡ true → (a ≤ b) × (a ≡ b → k ≡ true)
    by true h e = let l = ltb-true a b h in (omega arith, λ s. absurd (omega arith))
    by false h e = let p = and_parts (nat_eq a b) k e in let q = eqb-true a b p.0 in (omega arith, λ s. p.1)

through : (a b c : ℕ) (k l m : Bool) → (k ≡ false → l ≡ false → m ≡ false) → Before a b k ≡ false → Before b c l ≡ false → Before a c m ≡ false
through a b c k l m f h e =
    let p = after_parts a b k h in let q = after_parts b c l e in
    let u = p.0 in let v = q.0 in
    after_from a c m (omega arith) (λ s. f (p.1 (omega arith)) (q.1 (omega arith)))

turned : (a b : ℕ) (k l : Bool) → (k ≡ true → l ≡ false) → Before a b k ≡ true → Before b a l ≡ false
turned a b k l f h = let p = before_parts a b k h in after_from b a l p.0 (λ s. f (p.1 (sym s)))

level : (a b : ℕ) (k l : Bool) → Before a b k ≡ false → Before b a l ≡ false → (a ≡ b) × (k ≡ false) × (l ≡ false)
level a b k l h e =
    let p = after_parts a b k h in let q = after_parts b a l e in
    let u = p.0 in let v = q.0 in
    let s : a ≡ b = omega arith in
    (s, p.1 s, q.1 (sym s))

-- ---- of two offences

later_through : (r q p : Refusal) → is_sooner r q ≡ false → is_sooner q p ≡ false → is_sooner r p ≡ false
later_through r q p =
    through (rule_number r.rule) (rule_number q.rule) (rule_number p.rule) (is_before r.place q.place) (is_before q.place p.place) (is_before r.place p.place)
    (through r.place.line q.place.line p.place.line (nat_lt r.place.col q.place.col) (nat_lt q.place.col p.place.col) (nat_lt r.place.col p.place.col)
    (λ h e. le-ltb r.place.col p.place.col (let u = ltb-false r.place.col q.place.col h in let v = ltb-false q.place.col p.place.col e in omega arith)))

sooner_turned : (r q : Refusal) → is_sooner r q ≡ true → is_sooner q r ≡ false
sooner_turned r q =
    turned (rule_number r.rule) (rule_number q.rule) (is_before r.place q.place) (is_before q.place r.place)
    (turned r.place.line q.place.line (nat_lt r.place.col q.place.col) (nat_lt q.place.col r.place.col)
    (λ h. le-ltb q.place.col r.place.col (let u = ltb-true r.place.col q.place.col h in omega arith)))

not_sooner_itself : (r : Refusal) → is_sooner r r ≡ false
not_sooner_itself r = by (is_sooner r r) refl
  where
    by : (b : Bool) → is_sooner r r ≡ b → is_sooner r r ≡ false
    by true e = sooner_turned r r e
    by false e = e

one_place : (r q : Refusal) → is_sooner r q ≡ false → is_sooner q r ≡ false → r ≡ q
one_place r q h e =
    let p = level (rule_number r.rule) (rule_number q.rule) (is_before r.place q.place) (is_before q.place r.place) h e in
    let l = level r.place.line q.place.line (nat_lt r.place.col q.place.col) (nat_lt q.place.col r.place.col) p.1 p.2 in
    let u = ltb-false r.place.col q.place.col l.1 in
    let v = ltb-false q.place.col r.place.col l.2 in
    let c : r.place.col ≡ q.place.col = omega arith in
    λ i. record { rule = rule_sound r.rule q.rule p.0 i; place = record { line = l.0 i; col = c i } }

-- ---- the first one

-- it is one of them, and none is sooner
abbrev Least : Refusal → List Refusal → Type 0
Least r xs = (list_any (same_refusal r) xs ≡ true) × (list_any (λ q. is_sooner q r) xs ≡ false)

none_sooner : (q r : Refusal) (xs : List Refusal) → is_sooner q r ≡ false → list_any (λ p. is_sooner p q) xs ≡ false → list_any (λ p. is_sooner p r) xs ≡ false
none_sooner q r [] e h = refl
none_sooner q r (x ∷ xs) e h =
    let k = or_parts (is_sooner x q) (list_any (λ p. is_sooner p q) xs) h in
    λ i. later_through x q r k.0 e i || none_sooner q r xs e k.1 i

first_least : (r : Refusal) (rs : List Refusal) → Least (sooner r (first rs)) (r ∷ rs)
first_least r [] = (or_left (same_refusal r r) false (same_itself r), λ i. not_sooner_itself r i || false)
first_least r (p ∷ ps) = by (is_sooner q r) refl (first_least p ps)
  where
    q : Refusal
    q = sooner p (first ps)

    by : (b : Bool) → is_sooner q r ≡ b → Least q (p ∷ ps) → Least (cond b q r) (r ∷ p ∷ ps)
    by true e h = (or_right (same_refusal q r) (list_any (same_refusal q) (p ∷ ps)) h.0, λ i. sooner_turned q r e i || h.1 i)
    by false e h = (
      or_left (same_refusal r r) (list_any (same_refusal r) (p ∷ ps)) (same_itself r),
      λ i. not_sooner_itself r i || none_sooner q r (p ∷ ps) e h.1 i,
    )

-- what a test finds in no element, it doesn't find in one
not_found : (r q : Refusal) (xs : List Refusal) → list_any (same_refusal r) xs ≡ true → list_any (λ p. is_sooner p q) xs ≡ false → is_sooner r q ≡ false
not_found r q [] e h = cc
not_found r q (x ∷ xs) e h = by (same_refusal r x) refl e (not_found r q xs) (or_parts (is_sooner x q) (list_any (λ p. is_sooner p q) xs) h)
  where
    by : (b : Bool) → same_refusal r x ≡ b → (b || list_any (same_refusal r) xs) ≡ true
        → (list_any (same_refusal r) xs ≡ true → list_any (λ p. is_sooner p q) xs ≡ false → is_sooner r q ≡ false)
        → (is_sooner x q ≡ false) × (list_any (λ p. is_sooner p q) xs ≡ false) → is_sooner r q ≡ false
    by true s e k h = ap (λ (z : Refusal). is_sooner z q) (refusal_sound r x s) ∙ h.0
    by false s e k h = k e h.1

-- what is least in a list is the first one
least_is_first : (r x : Refusal) (xs : List Refusal) → Least r (x ∷ xs) → first (x ∷ xs) ≡ Some r
least_is_first r x xs h =
    let q = sooner x (first xs) in
    let k = first_least x xs in
    ap Some (one_place q r (not_found q r (x ∷ xs) k.0 h.1) (not_found r q (x ∷ xs) h.0 k.1))

pub same_first : (xs ys : List Refusal) → Same xs ys → first xs ≡ first ys
same_first [] [] s = refl
same_first [] (y ∷ ys) s = absurd (true≢false (sym (s (λ r. true))))
same_first (x ∷ xs) [] s = absurd (true≢false (s (λ r. true)))
same_first (x ∷ xs) (y ∷ ys) s =
    let q = sooner y (first ys) in
    let k = first_least y ys in
    least_is_first q x xs (s (same_refusal q) ∙ k.0, s (λ p. is_sooner p q) ∙ k.1)

-- ---- lesser rules come first

abbrev pub Below : ℕ → Refusal → Bool
Below n r = nat_lt (rule_number r.rule) n

-- none is sooner than r, and one of them has a lesser rule than n
below_too : (n : ℕ) (r : Refusal) (xs : List Refusal) → list_any (Below n) xs ≡ true → list_any (λ q. is_sooner q r) xs ≡ false → Below n r ≡ true
below_too n r [] e h = cc
below_too n r (x ∷ xs) e h = by (Below n x) refl e (below_too n r xs) (or_parts (is_sooner x r) (list_any (λ q. is_sooner q r) xs) h)
  where
    by : (b : Bool) → Below n x ≡ b → (b || list_any (Below n) xs) ≡ true → (list_any (Below n) xs ≡ true → list_any (λ q. is_sooner q r) xs ≡ false → Below n r ≡ true)
        → (is_sooner x r ≡ false) × (list_any (λ q. is_sooner q r) xs ≡ false) → Below n r ≡ true
    by true s e rest k =
        let u = ltb-true (rule_number x.rule) n s in
        let v = (after_parts (rule_number x.rule) (rule_number r.rule) (is_before x.place r.place) k.0).0 in
        lt-ltb (rule_number r.rule) n (omega arith)
    by false s e rest k = rest e k.1

-- none of a rule that isn't lesser is sooner
none_above : (n : ℕ) (r : Refusal) (ys : List Refusal) → Below n r ≡ true → list_any (Below n) ys ≡ false → list_any (λ q. is_sooner q r) ys ≡ false
none_above n r [] e h = refl
none_above n r (y ∷ ys) e h =
    let k = or_parts (Below n y) (list_any (Below n) ys) h in
    let u = ltb-true (rule_number r.rule) n e in
    let v = ltb-false (rule_number y.rule) n k.0 in
    λ i. after_from (rule_number y.rule) (rule_number r.rule) (is_before y.place r.place) (omega arith) (λ s. absurd (omega arith)) i || none_above n r ys e k.1 i

pub lesser_first : (n : ℕ) (xs ys : List Refusal) → list_any (Below n) xs ≡ true → list_any (Below n) ys ≡ false → first (xs ++ ys) ≡ first xs
lesser_first n [] ys e h = cc
lesser_first n (x ∷ xs) ys e h =
    let r = sooner x (first xs) in
    let k = first_least x xs in
    least_is_first r x (xs ++ ys) (
      list_any-append (same_refusal r) (x ∷ xs) ys ∙ or_left (list_any (same_refusal r) (x ∷ xs)) (list_any (same_refusal r) ys) k.0,
      list_any-append (λ q. is_sooner q r) (x ∷ xs) ys ∙ (λ i. k.1 i || none_above n r ys (below_too n r (x ∷ xs) e k.1) h i),
    )
