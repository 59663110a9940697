use Rattle.std.proofs.Common.{◌≡◌, ◌+◌, true, false, length, drop, codes, sym, ◌∙◌}
use Rattle.std.proofs.lemmas.List.{take_rest}
use Rattle.tla_token.specs.Lexemes.{is_blank}
use Rattle.tla_token.specs.Cut.{run}
use Rattle.module_tree.specs.TextFront.{begins}
use Rattle.module_split.proofs.BeginningSteps.{fair_yes, fair_past, fair_blankless, fair_wordless}
use Rattle.module_split.proofs.beginning.fair_len.Goals as goal
use Rattle.module_split.proofs.beginning.fair_len.Goals.{else-blanks-gt0-via-then-blanks-gt0+else-starts_with, else-blanks-gt0-via-else-blanks-gt0}

pub returns-then-starts_with-clause-is : goal.returns-then-starts_with-clause-is
returns-then-starts_with-clause-is c =
    let t = c.args.text.now in
    let n = c.blank_len-blanks.result in
    let e : n ≡ length (run is_blank (drop 6 t)) = rw take_rest at c.blank_len-blanks.ensures.value in
    let g : begins (drop (6 + n) t) (codes "algorithm") ≡ true = sym (rw take_rest at c.starts_with-then-blanks-gt0.ensures.value) ∙ c.if-starts_with.true in
    fair_yes t n (sym c.starts_with.ensures.value ∙ c.if-not-starts_with.false) e c.if-blanks-gt0.true g

pub returns-then-starts_with-clause-past : goal.returns-then-starts_with-clause-past
returns-then-starts_with-clause-past c =
    let t = c.args.text.now in
    let n = c.blank_len-blanks.result in
    let e : n ≡ length (run is_blank (drop 6 t)) = rw take_rest at c.blank_len-blanks.ensures.value in
    let g : begins (drop (6 + n) t) (codes "algorithm") ≡ true = sym (rw take_rest at c.starts_with-then-blanks-gt0.ensures.value) ∙ c.if-starts_with.true in
    fair_past t n e g

pub returns-else-blanks-gt0-clause-is : goal.returns-else-blanks-gt0-clause-is
returns-else-blanks-gt0-clause-is c =
    let t = c.args.text.now in
    let n = c.blank_len-blanks.result in
    let e : n ≡ length (run is_blank (drop 6 t)) = rw take_rest at c.blank_len-blanks.ensures.value in
    let h : begins t (codes "--fair") ≡ true = sym c.starts_with.ensures.value ∙ c.if-not-starts_with.false in
    elim c.else-blanks-gt0.branch [
      | else-blanks-gt0-via-then-blanks-gt0+else-starts_with w ↦ (let g : begins (drop (6 + n) t) (codes "algorithm") ≡ false = sym (rw take_rest at w.starts_with-then-blanks-gt0.ensures.value) ∙ w.if-starts_with.false in
          fair_wordless t n h e w.if-blanks-gt0.true g)
      | else-blanks-gt0-via-else-blanks-gt0 w ↦ fair_blankless t n h e w.if-blanks-gt0.false
    ]
