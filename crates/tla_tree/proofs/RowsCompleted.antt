-- Worked rows of what is wanted behind tokens, by computation.
use Rattle.std.proofs.Common.{◌≡◌, [], ◌∷◌, refl}
use Rattle.tla_tree.specs.declared.op.Op.TheVariants as op
use Rattle.tla_tree.specs.Lexical as tk
use Rattle.tla_tree.specs.Reader.{readers, readers_in}
use Rattle.tla_tree.specs.Wanted.{mark_at, key_at, sign_at, number_at}
use Rattle.tla_tree.specs.NeedsLists.{needs, wants_behind, completion}
use Rattle.tla_tree.proofs.RowsReader.{w, s, m, k}

-- nothing: an expression is wanted
at_first : completion 0 [] ≡ number_at 0 ∷ []
unfolding readers_in needs
at_first = refl

-- `(a +`: an operand, and round it the bracket
in_brackets : wants_behind 0 (m 1 tk.open_bracket ∷ w 2 ∷ s 4 op.Plus ∷ []) ≡ (number_at 0 ∷ []) ∷ (mark_at 0 tk.close_bracket ∷ []) ∷ []
unfolding readers_in needs
in_brackets = refl

-- a whole one wants nothing
whole : completion 0 (w 1 ∷ s 3 op.Plus ∷ w 5 ∷ []) ≡ []
unfolding readers_in needs
whole = refl

-- `[a EXCEPT ![IF a`: what IF wants, then the subscript, the setting and the square bracket
in_subscript : wants_behind 0 (m 1 tk.open_square ∷ w 2 ∷ k 4 tk.except_key ∷ m 11 tk.bang ∷ m 12 tk.open_square ∷ k 13 tk.if_key ∷ w 16 ∷ [])
    ≡ (key_at 0 tk.then_key ∷ number_at 0 ∷ key_at 0 tk.else_key ∷ number_at 0 ∷ []) ∷ (mark_at 0 tk.close_square ∷ []) ∷ (sign_at 0 op.Equal ∷ number_at 0 ∷ []) ∷ (mark_at 0 tk.close_square ∷ []) ∷ []
unfolding readers_in needs
in_subscript = refl

-- `{a \in a`, as a set for a
in_set : wants_behind 0 (m 1 tk.open_brace ∷ w 2 ∷ s 4 op.In ∷ w 8 ∷ []) ≡ (mark_at 0 tk.colon ∷ number_at 0 ∷ mark_at 0 tk.close_brace ∷ []) ∷ []
unfolding readers_in needs
in_set = refl

-- `/\ (`: right of the bullet's column
in_bullet : wants_behind 0 (s 4 op.And ∷ m 7 tk.open_bracket ∷ []) ≡ (number_at 4 ∷ []) ∷ (mark_at 4 tk.close_bracket ∷ []) ∷ []
unfolding readers_in needs
in_bullet = refl
