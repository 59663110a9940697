-- Proves that the table of procedures has what those of each name call.
use Rattle.std.proofs.Common.{List, ℕ, [], length, replicate, sym, ap, ◌∙◌}
use Rattle.std.proofs.lemmas.List.{length-replicate}
use Rattle.tla_token.specs.Signs.{is_among}
use Rattle.tla_tree.specs.Tree.{Word}
use Rattle.fairness_lines.proofs.Reaching.{lists_long}
use Rattle.fairness_lines.proofs.TableRows.{rows_of_none, names_at}
use Rattle.fairness_lines.proofs.table.table_of.Goals as goal

pub add_procedures-requires : goal.add_procedures-requires
add_procedures-requires c = sym (lists_long c.in_ok-rows.rows.items) ∙ ap length c.in_ok-rows.ensures ∙ length-replicate c.len.result [] ∙ c.len.ensures

pub returns : goal.returns
returns c = λ ts. record {
  apart = c.apart.ensures;
  among = λ x. c.in_ok-names.ensures.among x ∙ ap (λ (xs : List Word). is_among xs x) (c.as_slice.ensures ∙ c.in_ok-list.ensures ∙ names_at ts c.args.procedures.now);
  called = c.in_ok-add_procedures.ensures ts
      (c.in_ok-rows.ensures ∙ ap (λ (n : ℕ). replicate n []) c.len.ensures ∙ sym (rows_of_none c.in_ok-names.names c.in_ok-names.names));
}
