-- Proves that procedures and what runs are prepared, and that the variables and names are those of the translation.
use Rattle.std.proofs.Common.{subst, sym, ◌∙◌}
use Rattle.name_bits.specs.NamesIn.{AllApart}
use Rattle.running.proofs.making.grounds.Goals as goal

pub returns-clause-made : goal.returns-clause-made
returns-clause-made c = λ P here naming apart few.
    let named = c.in_ok-names.ensures c.args.pool.now P here naming in
    let ordered = c.in_ok-order.ensures.order (subst AllApart (sym (c.as_slice.ensures ∙ named)) apart) ∙ c.as_slice.ensures ∙ named in
    let own = c.in_ok-own.ensures c.args.pool.now P here naming ordered few in
    record {
      procedures = c.in_ok-made.ensures.procedures P (record { within = c.requires; algorithm = here; naming = naming; order = ordered; own = own; this = c.in_ok-this.ensures });
      main = c.in_ok-made.ensures.main P (record { within = c.requires; algorithm = here; naming = naming; order = ordered; own = own; this = c.in_ok-this.ensures });
      procedures_within = c.in_ok-made.ensures.within.0;
      main_within = c.in_ok-made.ensures.within.1;
      variables = named;
      pc_is = c.in_ok-pc.ensures;
      stack_is = c.in_ok-stack.ensures;
      self_is = c.in_ok-this.ensures;
    }
