-- Steps in code where a statement comes: readers one after the other, where one more form may be open, and labels.
use Rattle.std.proofs.Common.{◌≡◌, ℕ, ◌+◌, ◌<◌, Bool, true, false, List, Ok, refl, ap, ◌∙◌, arith}
use Rattle.std.proofs.lemmas.Bool.{le-leb}
use Rattle.tla_token.specs.declared.token.Tokens.{Tokens}
use Rattle.tla_token.specs.Limits.{deepest_statement}
use Rattle.tla_tree.specs.Tree.{Name}
use Rattle.tla_tree.specs.Lexical.{Token}
use Rattle.tla_tree.specs.Reader.{Out, Reader, then_read, tail, if_fits, skip}
use Rattle.pcal_tree.specs.declared.mark.Mark.TheVariants as mark
use Rattle.pcal_tree.specs.Algorithm.{Statements}
use Rattle.pcal_tree.specs.Algorithm as tree
use Rattle.pcal_tree.specs.GrammarParts.{Colon, colon, colon_plus, colon_minus, Labels, no_labels, label, with_labels}
use Rattle.syntax_reading.specs.ReadAround.{with_label, within}
use Rattle.algorithm_reader.specs.PartsRead.{parts_in, mark_of}

-- ---- readers one after the other
pub goes_on : {A B : Type 0} (o : Out A) (f : A → Reader B) (a : A) (us : List Token) (q : Out B) → o ≡ Ok (a, us) → f a us ≡ q → then_read o f ≡ q
goes_on o f a us q e g = ap (λ (z : Out _). then_read z f) e ∙ g

fits_with : {A : Type 0} (b : Bool) → b ≡ true → (r : Reader A) (ts : List Token) → if_fits b r ts ≡ r ts
fits_with true e r ts = refl
fits_with false e r ts = (let no : false ≡ true = e in absurd cc)

-- where one more form may be open
pub fits_within : {A : Type 0} (v : Tokens) (d : ℕ) (r : Reader A) (ts : List Token) → d < deepest_statement → within (parts_in v) d r ts ≡ r (tail ts)
fits_within v d r ts h = fits_with ((parts_in v).room (d + 1)) (le-leb (d + 1) deepest_statement (omega (arith, h))) (skip r) ts

-- ---- labels
pub label_mark : (ls : Labels) (x : Name) (c : Colon) (ss : Statements) → with_labels (with_label ls x c) ss ≡ with_labels ls (tree.mark x (mark_of c) ss)
label_mark no_labels x (colon q) ss = refl
label_mark no_labels x (colon_plus q r) ss = refl
label_mark no_labels x (colon_minus q r) ss = refl
label_mark (label y (colon q) ls) x c ss = ap (tree.mark y mark.Plain) (label_mark ls x c ss)
label_mark (label y (colon_plus q r) ls) x c ss = ap (tree.mark y mark.Strong) (label_mark ls x c ss)
label_mark (label y (colon_minus q r) ls) x c ss = ap (tree.mark y mark.LeftOut) (label_mark ls x c ss)
