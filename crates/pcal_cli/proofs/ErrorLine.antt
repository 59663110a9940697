-- The digits of a number, and how long a rule's name is.
use Rattle.std.proofs.Common.{◌≡◌, ℕ, zero, suc, ◌+◌, ◌-◌, ◌*◌, ◌/◌, ◌%◌, ◌^◌, ◌<◌, ◌≤◌, List, [], ◌∷◌, ◌++◌, length, drop, set, refl, sym, subst, ap, ◌∙◌, arith, append_assoc}
use Rattle.std.proofs.lemmas.List.{drop-set}
use Rattle.std.proofs.Math.Nat.{pow-suc}
use Rattle.std.specs.Fmt.{decimal}
use Rattle.std.proofs.lemmas.Fmt.{decimal_digit, decimal_step}
use Rattle.tla_token.specs.declared.rule.Rule.{Rule}
use Rattle.tla_token.specs.declared.rule.Rule.TheVariants.{NotAscii, BadToken, OpenComment, OpenString, NoModule, NoAlgorithm, TwoAlgorithms, BadRegion, Placement, Options, LeftOutWord, NumberTooBig, TooMany, TooDeep, Syntax, Unknown, Duplicate, Rebind, Reserved, Arity, NotVariable, NeedsModule, OutsideVariable, OpaqueUnit, ProcessNotConstant, InitSelf, InitLater, Infinite, DefinedStale, SelfOutside, FirstLabel, WhileLabel, AfterJump, AfterBranch, LabelInside, AssignTwice, UnknownLabel, ReturnOutside, DoubleLabel, TooLarge, BadLine}
use Rattle.tla_token.specs.Rules.{rule_name}

-- no rule's name is long
pub short_name : (r : Rule) → length (rule_name r) ≤ 18
short_name NotAscii = omega arith
short_name BadToken = omega arith
short_name OpenComment = omega arith
short_name OpenString = omega arith
short_name NoModule = omega arith
short_name NoAlgorithm = omega arith
short_name TwoAlgorithms = omega arith
short_name BadRegion = omega arith
short_name Placement = omega arith
short_name Options = omega arith
short_name LeftOutWord = omega arith
short_name NumberTooBig = omega arith
short_name TooMany = omega arith
short_name TooDeep = omega arith
short_name Syntax = omega arith
short_name Unknown = omega arith
short_name Duplicate = omega arith
short_name Rebind = omega arith
short_name Reserved = omega arith
short_name Arity = omega arith
short_name NotVariable = omega arith
short_name NeedsModule = omega arith
short_name OutsideVariable = omega arith
short_name OpaqueUnit = omega arith
short_name ProcessNotConstant = omega arith
short_name InitSelf = omega arith
short_name InitLater = omega arith
short_name Infinite = omega arith
short_name DefinedStale = omega arith
short_name SelfOutside = omega arith
short_name FirstLabel = omega arith
short_name WhileLabel = omega arith
short_name AfterJump = omega arith
short_name AfterBranch = omega arith
short_name LabelInside = omega arith
short_name AssignTwice = omega arith
short_name UnknownLabel = omega arith
short_name ReturnOutside = omega arith
short_name DoubleLabel = omega arith
short_name TooLarge = omega arith
short_name BadLine = omega arith

-- ---- digits

-- the digits of what is left of a number, if anything is
abbrev pub front_digits : ℕ → List ℕ
front_digits zero = []
front_digits (suc n) = decimal (suc n)

-- the last digit, and those before it
pub last_digit : (n : ℕ) → n < 2 ^ 64 → decimal n ≡ front_digits (n / 10) ++ ((48 + n % 10) ∷ [])
last_digit n small = by (n / 10) refl
  where
    by : (q : ℕ) → n / 10 ≡ q → decimal n ≡ front_digits q ++ ((48 + n % 10) ∷ [])
    by zero e = (let d : n % 10 ≡ n = omega arith in decimal_digit n (omega arith) ∙ ap (λ (k : ℕ). (48 + k) ∷ []) (sym d))
    by (suc q) e = decimal_step n (omega arith) small ∙ ap (λ (k : ℕ). decimal k ++ ((48 + n % 10) ∷ [])) e

pub more_digits : (n : ℕ) → 0 < n → n < 2 ^ 64 → front_digits n ≡ front_digits (n / 10) ++ ((48 + n % 10) ∷ [])
more_digits zero some small = absurd (omega arith)
more_digits (suc n) some small = last_digit (suc n) small

-- a number of k digits at most, without its last one
pub below_tenth : (n k : ℕ) → 0 < k → n < 10 ^ k → n / 10 < 10 ^ (k - 1)
below_tenth n zero some h = absurd (omega arith)
below_tenth n (suc k) some h = (let e : 10 ^ suc k ≡ 10 ^ k * 10 = pow-suc 10 k in let d : suc k - 1 ≡ k = omega arith in subst (λ (j : ℕ). n / 10 < 10 ^ j) (sym d) (omega (arith, e)))

pub some_place : (n k : ℕ) → 0 < n → n < 10 ^ k → 0 < k
some_place n zero some h = absurd (omega arith)
some_place n (suc k) some h = omega arith

-- digits so far, and one before them
pub digit_before : (ds ds' all : List ℕ) (from rest : ℕ) → 0 < from → from < length ds + 1 → 0 < rest → rest < 2 ^ 64 → ds' ≡ set ds (from - 1) (48 + rest % 10)
    → front_digits rest ++ drop from ds ≡ all → front_digits (rest / 10) ++ drop (from - 1) ds' ≡ all
digit_before ds ds' all zero rest some within r small e h = absurd (omega arith)
digit_before ds ds' all (suc from) rest some within r small e h =
    let d : suc from - 1 ≡ from = omega arith in
    let on : from + 1 ≡ suc from = omega arith in
    let here : drop (suc from - 1) ds' ≡ (48 + rest % 10) ∷ drop (suc from) ds =
    ap (λ (j : ℕ). drop j ds') d ∙ ap (drop from) (e ∙ ap (λ (j : ℕ). set ds j (48 + rest % 10)) d) ∙ drop-set ds from (48 + rest % 10) (omega arith) ∙ ap (λ (j : ℕ). (48 + rest % 10) ∷ drop j ds) on in
    ap (λ (x : List ℕ). front_digits (rest / 10) ++ x) here
    ∙ sym (append_assoc (front_digits (rest / 10)) ((48 + rest % 10) ∷ []) (drop (suc from) ds))
    ∙ ap (λ (x : List ℕ). x ++ drop (suc from) ds) (sym (more_digits rest r small)) ∙ h
