use Rattle.std.proofs.Common.{ap, sym, ◌∙◌, None, filter}
use Rattle.std.proofs.lemmas.List.{take_rest}
use Rattle.tla_token.specs.Offences.{least}
use Rattle.module_tree.specs.AlgorithmText.{Inside, in_tokens}
use Rattle.module_tree.specs.FileOffences.{inner_offences, is_splitting}
use Rattle.module_split.proofs.AlgorithmSteps.{Started, fair_started, plain_started, nothing_known, none_marked}
use Rattle.module_split.proofs.algorithm.algorithm_at.Goals as goal
use Rattle.module_split.proofs.algorithm.algorithm_at.Goals.{then-is_fair, else-is_fair}

pub walk_inside-requires-clause-here : goal.walk_inside-requires-clause-here
walk_inside-requires-clause-here c =
    let s : Started c.args.text.now c.args.from c.args.end c.if-is_fair.words =
    elim c.if-is_fair.branch [
      | then-is_fair w ↦ fair_started c.args.text.now c.args.from c.args.end c.if-is_fair.words c.requires.ends c.requires.begins (sym w.if-is_fair.true ∙ rw take_rest at c.is_fair.ensures) w.words-is
      | else-is_fair w ↦ plain_started c.args.text.now c.args.from c.args.end c.if-is_fair.words c.requires.ends c.requires.begins (sym w.if-is_fair.false ∙ rw take_rest at c.is_fair.ensures) w.words-is
    ] in
    nothing_known c.args.text.now c.args.from c.args.end c.if-is_fair.words None s

pub returns-clause-stage : goal.returns-clause-stage
returns-clause-stage c =
    let s : Started c.args.text.now c.args.from c.args.end c.if-is_fair.words =
    elim c.if-is_fair.branch [
      | then-is_fair w ↦ fair_started c.args.text.now c.args.from c.args.end c.if-is_fair.words c.requires.ends c.requires.begins (sym w.if-is_fair.true ∙ rw take_rest at c.is_fair.ensures) w.words-is
      | else-is_fair w ↦ plain_started c.args.text.now c.args.from c.args.end c.if-is_fair.words c.requires.ends c.requires.begins (sym w.if-is_fair.false ∙ rw take_rest at c.is_fair.ensures) w.words-is
    ] in
    c.walk_inside.ensures.stage ∙ ap (λ (i : Inside). i.stage) s.rest

pub returns-clause-to : goal.returns-clause-to
returns-clause-to c =
    let s : Started c.args.text.now c.args.from c.args.end c.if-is_fair.words =
    elim c.if-is_fair.branch [
      | then-is_fair w ↦ fair_started c.args.text.now c.args.from c.args.end c.if-is_fair.words c.requires.ends c.requires.begins (sym w.if-is_fair.true ∙ rw take_rest at c.is_fair.ensures) w.words-is
      | else-is_fair w ↦ plain_started c.args.text.now c.args.from c.args.end c.if-is_fair.words c.requires.ends c.requires.begins (sym w.if-is_fair.false ∙ rw take_rest at c.is_fair.ensures) w.words-is
    ] in
    c.walk_inside.ensures.to ∙ ap (λ (i : Inside). i.to) s.rest

pub returns-clause-fault : goal.returns-clause-fault
returns-clause-fault c =
    let s : Started c.args.text.now c.args.from c.args.end c.if-is_fair.words =
    elim c.if-is_fair.branch [
      | then-is_fair w ↦ fair_started c.args.text.now c.args.from c.args.end c.if-is_fair.words c.requires.ends c.requires.begins (sym w.if-is_fair.true ∙ rw take_rest at c.is_fair.ensures) w.words-is
      | else-is_fair w ↦ plain_started c.args.text.now c.args.from c.args.end c.if-is_fair.words c.requires.ends c.requires.begins (sym w.if-is_fair.false ∙ rw take_rest at c.is_fair.ensures) w.words-is
    ] in
    c.walk_inside.ensures.fault ∙ ap (λ (i : Inside). least (filter is_splitting (inner_offences i.parts))) s.rest

pub returns-clause-marked : goal.returns-clause-marked
returns-clause-marked c k =
    let s : Started c.args.text.now c.args.from c.args.end c.if-is_fair.words =
    elim c.if-is_fair.branch [
      | then-is_fair w ↦ fair_started c.args.text.now c.args.from c.args.end c.if-is_fair.words c.requires.ends c.requires.begins (sym w.if-is_fair.true ∙ rw take_rest at c.is_fair.ensures) w.words-is
      | else-is_fair w ↦ plain_started c.args.text.now c.args.from c.args.end c.if-is_fair.words c.requires.ends c.requires.begins (sym w.if-is_fair.false ∙ rw take_rest at c.is_fair.ensures) w.words-is
    ] in
    none_marked c.args.marks.now c.walk_inside.new.marks _ k (c.requires.unmarked k) (c.walk_inside.ensures.marked k) ∙ ap (λ (i : Inside). in_tokens i.parts k) s.rest
