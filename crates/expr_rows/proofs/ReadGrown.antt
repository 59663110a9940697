-- An expression so far that grows, or is refused.
use Rattle.std.proofs.Common.{Bool, true, false, ◌≡◌, ℕ, ◌+◌, arith, List, length, Ok, Err, Result, Option, refl, sym, ap, ◌∙◌, subst}
use Rattle.tla_token.specs.declared.rule.Rule.TheVariants.{TooDeep}
use Rattle.tla_token.specs.declared.token.Tokens.{Tokens}
use Rattle.tla_tree.specs.Tree.{Tree}
use Rattle.tla_tree.specs.Pool.{Keeps}
use Rattle.tla_tree.specs.Lexical.{Token}
use Rattle.tla_tree.specs.Nesting.{links, before, chain}
use Rattle.tla_tree.specs.Spelling.{Phrase}
use Rattle.tla_tree.specs.Reader.{Out, Reader, then_read}
use Rattle.expr_nodes.specs.declared.cursor.Halt.{Halt}
use Rattle.expr_nodes.specs.declared.cursor.Halt.TheVariants as halt
use Rattle.expr_nodes.specs.declared.make.Read.{Read}
use Rattle.expr_nodes.specs.declared.shape.Shape.{Shape}
use Rattle.expr_nodes.specs.ShapeOf.{links_before, field_links}
use Rattle.expr_nodes.specs.ReadIn.{IsIn, Reads, Fails}
use Rattle.expr_nodes.specs.Ahead.{ahead}
use Rattle.expr_rows.specs.HasRead.{GrowsTo, Steps}
use Rattle.expr_rows.proofs.ReadLemmas.{fails_then}
use Rattle.expr_nodes.proofs.ShapeLemmas.{links_is, chain_is, before_is}

pub grown : {linked : Bool} (v : Tokens) {new : List Tree} {x : Read} {i : ℕ} (on : Phrase → Reader Phrase) (o p : Out Phrase) → o ≡ then_read p on → Reads (IsIn linked new x) (ahead v i) p → GrowsTo linked v new x i on o
grown {linked} v on o p k r = record { what = r.what; told = r.told; is = k ∙ ap (λ (p : Out Phrase). then_read p on) r.is }

-- refused in the part that is read first
pub lost : (linked : Bool) (new : List Tree) (a : Phrase) (ts : List Token) (v : Tokens) (on : Phrase → Reader Phrase) (o : Out Phrase) {A : Type 0} (p : Out A) (f : A → Reader Phrase) {r : Result (Option (Read × ℕ)) Halt} {w u : Halt}
    → r ≡ Err w → w ≡ u → o ≡ then_read p f → Fails u p → Steps linked v new on a ts r o
lost linked new a ts v on o p f {r} {w} {u} i j k h = subst (λ (r : Result (Option (Read × ℕ)) Halt). Steps linked v new on a ts r o) (sym i) (subst (λ (w : Halt). Fails w o) (sym j) (subst (Fails u) (sym k) (fails_then u p f h)))

-- too deep at this token
pub deep : (linked : Bool) (new : List Tree) (a : Phrase) (ts : List Token) (v : Tokens) (on : Phrase → Reader Phrase) (o : Out Phrase) {r : Result (Option (Read × ℕ)) Halt} {w u : Halt}
    → r ≡ Err w → w ≡ u → u ≡ halt.Refused TooDeep (length ts) → o ≡ Err (TooDeep, ts) → Steps linked v new on a ts r o
deep linked new a ts v on o {r} {w} {u} i j k h = subst (λ (r : Result (Option (Read × ℕ)) Halt). Steps linked v new on a ts r o) (sym i) (subst (λ (w : Halt). Fails w o) (sym (j ∙ k)) (subst (Fails (halt.Refused TooDeep (length ts))) (sym h) (refl, refl)))

pub links_in : {linked : Bool} {ts : List Tree} {x : Read} {a : Phrase} → IsIn linked ts x a → before linked a ≡ x.shape.links
links_in {linked} {ts} {x} {a} h = sym (links_is linked a) ∙ ap (λ (s : Shape). s.links) h.shape

pub chain_in : {linked : Bool} {ts : List Tree} {x : Read} {a : Phrase} → IsIn linked ts x a → chain a ≡ x.shape.chain
chain_in {linked} {ts} {x} {a} h = sym (chain_is linked a) ∙ ap (λ (s : Shape). s.chain) h.shape

-- those that count
pub before_in : {linked : Bool} {ts : List Tree} {x : Read} {a : Phrase} → IsIn linked ts x a → links_before linked x.shape.links ≡ before linked a
before_in {linked} {ts} {x} {a} h = sym (ap (λ (s : Shape). links_before linked s.links) h.shape) ∙ before_is linked a

pub field_in : {linked : Bool} {ts : List Tree} {x : Read} {a : Phrase} → IsIn linked ts x a → field_links linked x.shape.links ≡ field_links linked (links a)
field_in {linked} {ts} {x} {a} h = by linked h
  where
    by : (w : Bool) → IsIn w ts x a → field_links w x.shape.links ≡ field_links w (links a)
    by true h = ap (λ (n : ℕ). n + 1) (sym (links_in h))
    by false h = refl

-- ---- step by step
pub same_pool : {ts : List Tree} → Keeps ts ts
same_pool {ts} = record { longer = omega arith; same = λ i h. refl }

pub grown_on : {linked : Bool} (v : Tokens) {old new : List Tree} {x y : Read} {i j : ℕ} (on : Phrase → Reader Phrase) {o : Out Phrase} → GrowsTo linked v old x i on o → ((a : Phrase) → IsIn linked old x a → GrowsTo linked v new y j on (on a (ahead v i))) → GrowsTo linked v new y j on o
grown_on {linked} v on h k = (let g = k h.what h.told in record { what = g.what; told = g.told; is = h.is ∙ g.is })

pub grown_lost : {linked : Bool} (v : Tokens) {old : List Tree} {x : Read} {i : ℕ} (w : Halt) (on : Phrase → Reader Phrase) {o : Out Phrase} → GrowsTo linked v old x i on o → ((a : Phrase) → IsIn linked old x a → Fails w (on a (ahead v i))) → Fails w o
grown_lost {linked} v w on h k = subst (Fails w) (sym h.is) (k h.what h.told)

pub grown_end : {linked : Bool} (v : Tokens) {old : List Tree} {x : Read} {i : ℕ} (on : Phrase → Reader Phrase) {o : Out Phrase} → GrowsTo linked v old x i on o → ((a : Phrase) → IsIn linked old x a → on a (ahead v i) ≡ Ok (a, ahead v i)) → Reads (IsIn linked old x) (ahead v i) o
grown_end {linked} v on h k = record { what = h.what; is = h.is ∙ k h.what h.told; told = h.told }
