-- A form that opens, as code reads it that counts down how many may open.
use Rattle.std.proofs.Common.{◌≡◌, ℕ, zero, suc, ◌≤◌, List, length, Result, refl, sym, ap, ◌∙◌, subst, arith}
use Rattle.tla_token.specs.declared.rule.Rule.TheVariants.{TooDeep}
use Rattle.tla_tree.specs.Lexical.{Token}
use Rattle.tla_tree.specs.Reader.{Reader, tail, skip}
use Rattle.tla_tree.specs.Whole.{read_bounded}
use Rattle.expr_nodes.specs.declared.cursor.Halt.{Halt}
use Rattle.expr_nodes.specs.declared.cursor.Halt.TheVariants as halt
use Rattle.expr_nodes.specs.ReadIn.{Told, Fails}
use Rattle.region_reading.specs.Bound.{Bound, deeper, opened}
use Rattle.region_reading.specs.ItemReader.{an_operand}
use Rattle.region_reading.proofs.BoundLaws.{deeper_is, opened_is}
use Rattle.region_items.specs.Begins.{bound}

pub opened_more : {A : Type 0} (l d : ℕ) (f : Bound → Reader A) (ts : List Token) → suc d ≡ l → opened (bound l) f ts ≡ f (bound d) ts
opened_more l d f ts e = subst (λ (l : ℕ). opened (bound l) f ts ≡ f (bound d) ts) e (opened_is read_bounded d f ts)

pub opened_lost : {A : Type 0} (l : ℕ) (f : Bound → Reader A) (ts : List Token) (w : Halt) → l ≤ 0 → w ≡ halt.Refused TooDeep (length ts) → Fails w (opened (bound l) f ts)
opened_lost zero f ts w h i = rw i (refl, refl)
opened_lost (suc l) f ts w h i = absurd (omega (arith, h))

-- what is told inside is told of the form
pub inside_told : {X A : Type 0} (P : X → A → Type 0) (g : X → List Token) (r : Result X Halt) (f : Bound → ℕ → Reader A) (l d e k : ℕ) (ts us : List Token) → suc d ≡ l → k ≡ e → us ≡ tail ts
    → Told P g r (f (bound d) k us) → Told P g r (opened (bound l) (λ n. skip (f n e)) ts)
inside_told P g r f l d e k ts us i j t h =
    let same : f (bound d) k us ≡ f (bound d) e (tail ts) = (λ y. f (bound d) (j y) (t y)) in
    subst (Told P g r) (same ∙ sym (opened_more l d (λ n. skip (f n e)) ts i)) h

-- an operand inside
pub operand_inside : (l d e k : ℕ) (ts : List Token) → suc d ≡ l → k ≡ e → an_operand (bound d) k ts ≡ an_operand (deeper (bound l)) e ts
operand_inside l d e k ts i j = (λ y. an_operand (bound d) (j y) ts) ∙ ap (λ (m : Bound). an_operand m e ts) (sym (deeper_is read_bounded d) ∙ ap (λ (l : ℕ). deeper (bound l)) i)
