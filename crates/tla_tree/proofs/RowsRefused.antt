-- A worked example of a refusal behind `{x \in`, found by reading.
use Rattle.std.proofs.Common.{◌≡◌, List, [], ◌∷◌, map, Some, Err, refl, codes}
use Rattle.tla_token.specs.declared.rule.Rule.TheVariants.{Syntax}
use Rattle.tla_tree.specs.declared.op.Op.TheVariants as op
use Rattle.tla_tree.specs.Lexical.{Token}
use Rattle.tla_tree.specs.Lexical as tk
use Rattle.tla_tree.specs.Spelling.{Phrase}
use Rattle.tla_tree.specs.Spelling as spelled
use Rattle.tla_tree.specs.Reader.{readers, readers_in, read}
use Rattle.tla_tree.specs.Nesting.{counts}
use Rattle.tla_tree.specs.FirstStop.{looks, Passes, phrases, in_expression, RefusesExpression}
use Rattle.tla_tree.proofs.StopsThere.{refused_at}
use Rattle.tla_tree.proofs.RowsStops.{at, w, s, m, name}

-- ---- in `{a \in a \in a}` a colon could still come before the last brace

abbrev before_brace : List Token
before_brace = m 1 tk.open_brace ∷ w 2 ∷ s 4 op.In ∷ w 8 ∷ s 10 op.In ∷ w 14 ∷ []

abbrev whole : List Token
whole = m 1 tk.open_brace ∷ w 2 ∷ s 4 op.In ∷ w 8 ∷ s 10 op.In ∷ w 14 ∷ m 15 tk.close_brace ∷ []

stopped : read 0 whole ≡ Err (Syntax, m 15 tk.close_brace ∷ [])
unfolding readers_in
stopped = refl

abbrev completed : Phrase
completed = spelled.filter (at 1) (at 2) (codes "a") (at 4) (spelled.infix_of (name 8) (at 10) op.In (name 14)) (at 15) (name 17) (at 18)

passed : Passes (phrases 0) (map Some (looks before_brace))
passed = (map Some (looks (m 15 tk.colon ∷ w 17 ∷ m 18 tk.close_brace ∷ [])), map in_expression (counts 0 completed []), (completed, search, refl, refl), refl)

refused : RefusesExpression whole (at 40) (record { rule = Syntax; place = at 15 })
refused = refused_at whole before_brace (m 15 tk.close_brace ∷ []) (at 40) Syntax stopped refl passed
