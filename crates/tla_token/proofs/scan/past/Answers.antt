use Rattle.std.proofs.Common.{◌≡◌, List, ℕ, take, drop, is_some, map, ap, sym, ◌∙◌}
use Rattle.std.specs.Option.{option_map}
use Rattle.std.proofs.lemmas.List.{take_rest}
use Rattle.tla_token.specs.Lexemes.{unquoted}
use Rattle.tla_token.specs.Scan.{inner}
use Rattle.tla_token.specs.TokensSeen.{token_seen, kind_seen}
use Rattle.tla_token.proofs.Scans.{goes_past}
use Rattle.tla_token.proofs.scan.past.Goals as goal

pub returns-clause-goes : goal.returns-clause-goes
returns-clause-goes c =
    goes_past c.args.reading c.args.from c.args.bytes.now c.args.scan.now c.args.part c.piece_of-piece.result.now c.place_after-scan.result c.saturating_sub-scan.result c.note.new.fault
    (map (token_seen c.args.bytes.now) c.args.items.now.items) (map (token_seen c.args.bytes.now) c.keep.new.items.items) (option_map (kind_seen c.args.bytes.now) c.kind_at-kind.result) c.quote_at-scan.result
    c.requires.stands c.requires.part (rw take_rest at c.piece_of-piece.ensures.value) c.place_after-scan.ensures.value c.place_after-scan.ensures.line c.place_after-scan.ensures.col
    c.saturating_sub-scan.ensures c.note.ensures c.kind_at-kind.ensures.kind (c.in_ok-keep.ensures.added c.args.bytes.now) (c.quote_at-scan.ensures (take c.args.part.len (drop c.args.scan.now.at c.args.bytes.now)))

pub returns-clause-canonical : goal.returns-clause-canonical
returns-clause-canonical c =
    let is : c.piece_of-piece.result.now ≡ take c.args.part.len (drop c.args.scan.now.at c.args.bytes.now) = rw take_rest at c.piece_of-piece.ensures.value in
    c.in_ok-keep.ensures.canonical c.args.bytes.now c.requires.canonical
    (c.kind_at-kind.ensures.canonical (λ t. ap (λ (u : List ℕ). is_some (unquoted (inner u))) (sym is) ∙ c.piece_of-piece.ensures.text t))
