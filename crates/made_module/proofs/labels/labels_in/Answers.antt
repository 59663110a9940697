-- Proves that an algorithm has so many labels.
use Rattle.std.proofs.Common.{◌≡◌, List, length, sym, ap, ◌∙◌, arith}
use Rattle.std.proofs.lemmas.List.{length-map}
use Rattle.pcal_tree.specs.InMemory.{algorithm_at}
use Rattle.source_map.specs.Lines.{Line}
use Rattle.written_names.specs.Units.{naming_of}
use Rattle.label_lines.specs.Found.{line_seen}
use Rattle.made_module.proofs.LabelCounts.{as_many}
use Rattle.made_module.proofs.labels.labels_in.Goals as goal

pub returns : goal.returns
returns c = λ ts.
    let found = c.in_ok-lines.lines in
    let as_found : c.len.result ≡ length found.items = omega (arith, c.len.ensures, found.ok) in
    as_found ∙ sym (length-map found.items line_seen) ∙ ap (λ (ls : List Line). length ls) (c.in_ok-lines.ensures ts) ∙ as_many (naming_of c.new-as_typed.result) (algorithm_at ts c.args.algorithm.now)
