-- Proves what is asked of `keyworded`.
use Rattle.std.proofs.Common.{ℕ, sym, ◌∙◌}
use Rattle.tla_token.specs.TokensSeen.{span_bytes}
use Rattle.module_tree.specs.Grammar.{ItemForm}
use Rattle.module_write.specs.declared.«module».Item.{Item}
use Rattle.expr_nodes.specs.Ahead.{ahead}
use Rattle.region_items.specs.Stand.{IsItem}
use Rattle.region_reading.specs.ItemReader.{unchanged_from}
use Rattle.region_items.proofs.OpeningRead.{inside_told}
use Rattle.region_items.proofs.ItemFirst.{unchanged_told}
use Rattle.region_items.proofs.plain_items.keyworded.Goals as goal

pub returns-in_ok-inside-clause-read : goal.returns-in_ok-inside-clause-read
returns-in_ok-inside-clause-read c r p ts =
    let v = c.args.tokens.now in
    let s = c.args.s in
    unchanged_told (λ (x : Item × ℕ) (f : ItemForm). IsItem ts x.0 f) (λ (x : Item × ℕ). ahead v x.1) c.unchanged.result s.left s.edge p (span_bytes v.bytes.items c.args.word) (ahead v s.at) (sym c.is_unchanged.ensures ∙ c.if-is_unchanged.true)
    (inside_told (λ (x : Item × ℕ) (f : ItemForm). IsItem ts x.0 f) (λ (x : Item × ℕ). ahead v x.1) c.unchanged.result (λ n e. unchanged_from n e p) s.left _ s.edge _ (ahead v s.at) _ c.in_ok-inside.ensures.left c.in_ok-inside.ensures.edge c.in_ok-inside.ensures.rest (c.unchanged.ensures.read p ts))
