-- The options of `translate` that change what is written ("A PlusCal User's Manual", section 3.7, on the option `-label`; the end that stutters, section 4).
use Rattle.std.specs.Prelude.{Bool, false}

pub record Options : Type 0 where
  pub label : Bool  -- --label: labels are added in every algorithm, not only in a uniprocess one without any
  pub no_terminating : Bool  -- --no-terminating: no unit Terminating, and no disjunct of Next of that name

abbrev pub no_options : Options
no_options = record { label = false; no_terminating = false }
