-- The tokens of labels with one more after them.
use Rattle.std.proofs.Common.{◌≡◌, List, refl, ap}
use Rattle.tla_tree.specs.Tree.{Name}
use Rattle.tla_tree.specs.Lexical.{Token}
use Rattle.pcal_tree.specs.GrammarParts.{name, Colon, colon_tokens, Labels, no_labels, label, labels}
use Rattle.syntax_reading.specs.ReadAround.{with_label}

pub with_label_tokens : (ls : Labels) (x : Name) (c : Colon) (ts : List Token) → labels (with_label ls x c) ts ≡ labels ls (name x (colon_tokens c ts))
with_label_tokens no_labels x c ts = refl
with_label_tokens (label y d ls) x c ts = ap (λ (us : List Token). name y (colon_tokens d us)) (with_label_tokens ls x c ts)
