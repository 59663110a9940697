-- Proves what is asked of `links`.
use Rattle.std.proofs.Common.{sym, ap, ◌∙◌}
use Rattle.expr_nodes.specs.declared.shape.Shape.{Shape}
use Rattle.expr_nodes.proofs.ShapeLemmas.{links_is}
use Rattle.expr_nodes.proofs.shape.links.Goals as goal

pub returns : goal.returns
returns c = λ w a e. sym (ap (λ (s : Shape). s.links) e) ∙ links_is w a
