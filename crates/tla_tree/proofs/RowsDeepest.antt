-- Worked rows of the limit of open forms itself: the 201st form is refused.
use Rattle.std.proofs.Common.{◌≡◌, ℕ, zero, suc, List, [], ◌∷◌, Ok, Err, refl}
use Rattle.tla_token.specs.declared.rule.Rule.{Rule}
use Rattle.tla_token.specs.declared.rule.Rule.TheVariants.{Syntax, TooDeep}
use Rattle.tla_tree.specs.declared.op.Op.TheVariants as op
use Rattle.tla_tree.specs.Lexical.{Token}
use Rattle.tla_tree.specs.Lexical as tk
use Rattle.tla_tree.specs.Spelling.{Phrase}
use Rattle.tla_tree.specs.Reader.{Out, readers, readers_in, read_limited}
use Rattle.tla_tree.specs.FirstStop.{RefusesExpression}
use Rattle.tla_tree.proofs.LimitedStops.{is_refused}
use Rattle.tla_tree.proofs.RowsStops.{at, w, s, m}

-- so many brackets, and then
abbrev open_brackets : ℕ → List Token → List Token
open_brackets zero r = r
open_brackets (suc n) r = m 1 tk.open_bracket ∷ open_brackets n r

-- so many operators of one chain, and then
abbrev chained : ℕ → List Token → List Token
chained zero r = r
chained (suc n) r = s 1 op.Plus ∷ w 1 ∷ chained n r

-- Ok: the number of tokens left
abbrev stops : Out Phrase → Rule × ℕ
stops (Ok x) = (Syntax, 1000)
stops (Err u) = (u.0, left u.1)
  where
    left : List Token → ℕ
    left [] = 0
    left (t ∷ ts) = suc (left ts)

abbrev all_read : Out Phrase → ℕ
all_read (Ok (a, [])) = 1
all_read o = 0

-- 200 brackets go on to the end, and of 201 the last one is refused
brackets_200 : stops (read_limited (open_brackets 200 [])) ≡ (Syntax, 0)
unfolding readers_in
brackets_200 = refl

brackets_201 : stops (read_limited (open_brackets 201 [])) ≡ (TooDeep, 1)
unfolding readers_in
brackets_201 = refl

-- a chain of 200 operators is read, and of 201 the last one is refused
chain_200 : all_read (read_limited (w 1 ∷ chained 200 [])) ≡ 1
unfolding readers_in
chain_200 = refl

chain_201 : stops (read_limited (w 1 ∷ chained 201 [])) ≡ (TooDeep, 2)
unfolding readers_in
chain_201 = refl

-- `{a \in ((..(a)..))`, with 199 brackets, is a filter, and refused at the closing brace, as an element
abbrev closed : ℕ → List Token → List Token
closed zero r = r
closed (suc n) r = m 1 tk.close_bracket ∷ closed n r

abbrev deep_set : List Token → List Token
deep_set r = m 1 tk.open_brace ∷ w 1 ∷ s 1 op.In ∷ open_brackets 199 (w 1 ∷ closed 199 r)

deep_filter : all_read (read_limited (deep_set (m 1 tk.colon ∷ w 1 ∷ m 1 tk.close_brace ∷ []))) ≡ 1
unfolding readers_in
deep_filter = refl

deep_element : stops (read_limited (deep_set (m 1 tk.close_brace ∷ []))) ≡ (TooDeep, 1)
unfolding readers_in
deep_element = refl

-- so 201 brackets are refused at the last one
refused_201 : RefusesExpression (open_brackets 201 []) (at 40) (record { rule = TooDeep; place = at 1 })
unfolding readers_in
refused_201 = is_refused (open_brackets 201 []) (open_brackets 200 []) (m 1 tk.open_bracket ∷ []) (at 40) TooDeep refl refl
