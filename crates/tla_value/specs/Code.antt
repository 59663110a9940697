-- Values as numbers in pairs, by which a value in memory is seen as the value, and how far values are nested.
use Rattle.std.proofs.Common.{refl, ap, arith}
use denote.Param.Weighed.{most}
use base.Stored.{Coded, Gv, gnil, gnum, gcons, coded_ℕ, coded_ℤ, coded_bool, coded_list}
use Rattle.std.specs.Prelude.{◌≡◌, ◌≤◌, ◌+◌, max, ℕ, List, [], ◌∷◌}
use Rattle.tla_value.specs.Value.{Value, Values, truth, int, text, model, set, fun, no_values, and, values_in}

abbrev mutual
  pub code_of : Value → Gv
  code_of (truth b) = gcons (gnum 0) (coded_bool.code b)
  code_of (int z) = gcons (gnum 1) (coded_ℤ.code z)
  code_of (text w) = gcons (gnum 2) ((coded_list coded_ℕ).code w)
  code_of (model w) = gcons (gnum 3) ((coded_list coded_ℕ).code w)
  code_of (set vs) = gcons (gnum 4) (codes_of vs)
  code_of (fun ds vs) = gcons (gnum 5) (gcons (codes_of ds) (codes_of vs))

  pub codes_of : Values → Gv
  codes_of no_values = gnil
  codes_of (and v vs) = gcons (code_of v) (codes_of vs)

halves : (a b c d : Gv) → gcons a b ≡ gcons c d → (a ≡ c) × (b ≡ d)
halves a b c d e = (cc, cc)

-- different values have different codes
mutual
  pub code_tells : (v w : Value) → code_of v ≡ code_of w → v ≡ w
  code_tells (truth a) (truth b) e = ap truth (coded_bool.inj a b (halves _ _ _ _ e).1)
  code_tells (int a) (int b) e = ap int (coded_ℤ.inj a b (halves _ _ _ _ e).1)
  code_tells (text a) (text b) e = ap text ((coded_list coded_ℕ).inj a b (halves _ _ _ _ e).1)
  code_tells (model a) (model b) e = ap model ((coded_list coded_ℕ).inj a b (halves _ _ _ _ e).1)
  code_tells (set a) (set b) e = ap set (codes_tell a b (halves _ _ _ _ e).1)
  code_tells (fun d a) (fun f b) e =
      let x = halves _ _ _ _ (halves _ _ _ _ e).1 in λ i. fun (codes_tell d f x.0 i) (codes_tell a b x.1 i)
  code_tells v w e = cc

  pub codes_tell : (vs ws : Values) → codes_of vs ≡ codes_of ws → vs ≡ ws
  codes_tell no_values no_values e = refl
  codes_tell (and v vs) (and w ws) e =
      let x = halves _ _ _ _ e in λ i. and (code_tells v w x.0 i) (codes_tell vs ws x.1 i)
  codes_tell vs ws e = cc

abbrev pub value_code : Coded Value
value_code = record { code = code_of; inj = code_tells }

-- a measure that is larger than that of every part, with room for the lists between
abbrev mutual
  pub height : Value → ℕ
  height (truth b) = 0
  height (int z) = 0
  height (text w) = 0
  height (model w) = 0
  height (set vs) = heights vs + 2
  height (fun ds vs) = max (heights ds) (heights vs) + 2

  pub heights : Values → ℕ
  heights no_values = 0
  heights (and v vs) = max (height v) (heights vs)

abbrev pub row_height : List Value → ℕ
row_height vs = heights (values_in vs) + 1

pub most_heights : (vs : List Value) → most (λ v. height v + 1) vs ≤ heights (values_in vs) + 1
most_heights [] = omega arith
most_heights (v ∷ vs) = omega (arith, most_heights vs)
