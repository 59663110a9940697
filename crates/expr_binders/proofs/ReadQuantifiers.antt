-- Quantifiers from their first token on.
use Rattle.std.proofs.Common.{◌≡◌, ℕ, ◌+◌, Bool, true, false, List, Some, sym, ap, ◌∙◌}
use Rattle.tla_token.specs.declared.place.Place.{Place}
use Rattle.tla_tree.specs.Lexical.{Token}
use Rattle.tla_tree.specs.Spelling as spelled
use Rattle.tla_tree.specs.Reader.{tail, room, keyed, quantifier}
use Rattle.tla_tree.specs.Whole.{whole_in}
use Rattle.tla_tree.proofs.Opened.{in_quantifier}
use Rattle.expr_rows.proofs.ReadLinks.{open_at}

pub quantifier_more : (linked : Bool) (b e : ℕ) (every : Bool) (p : Place) (ts us : List Token) (d : ℕ) → d + 1 ≡ b → us ≡ tail ts → keyed (room linked (whole_in linked) (Some b)) e p (spelled.quantifier every) ts ≡ quantifier (whole_in linked (Some d)) e every p us
quantifier_more linked b e true p ts us d l t = open_at d 0 b l (in_quantifier e true p) ts ∙ ap (quantifier (whole_in linked (Some d)) e true p) (sym t)
quantifier_more linked b e false p ts us d l t = open_at d 0 b l (in_quantifier e false p) ts ∙ ap (quantifier (whole_in linked (Some d)) e false p) (sym t)
