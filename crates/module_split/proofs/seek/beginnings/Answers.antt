use Rattle.std.proofs.Common.{ℕ, List, ◌+◌, ◌++◌, get_or, drop, ap, sym, ◌∙◌, append_assoc, append-nil}
use Rattle.module_split.specs.StandsSeen.{stands_seen}
use Rattle.module_tree.specs.FileParts.{beginnings}
use Rattle.module_split.proofs.Comments.{begun_some, begun_none, begun_more, begun_done, no_stand}
use Rattle.module_split.proofs.seek.beginnings.Goals as goal
use Rattle.module_split.proofs.seek.beginnings.Goals.{in-Some+in_ok-add_beginnings, in_default}

pub stands-preserved : goal.stands-preserved
stands-preserved c =
    let x = c.args.text.now in
    let items = c.stands.starts.items in
    let more = beginnings (stands_seen x (drop (c.stands.stand-index + 1) c.args.stands.now)) in
    let on = begun_more x c.args.stands.now c.stands.stand-index no_stand c.stands-test.true in
    elim c.match-within.branch [
      | in-Some+in_ok-add_beginnings w ↦ ap (λ v. v.items ++ more) w.starts-is
          ∙ ap (λ (ns : List ℕ). ns ++ more) (w.in_ok-add_beginnings.ensures ∙ ap (λ (ns : List ℕ). items ++ ns) (begun_some x _ w.in-Some.span w.in-Some.ensures))
          ∙ append_assoc items _ more
          ∙ ap (λ (ns : List ℕ). items ++ ns) on
          ∙ c.stands.invariant
      | in_default w ↦ ap (λ v. v.items ++ more) w.starts-is
          ∙ ap (λ (ns : List ℕ). items ++ (ns ++ more)) (sym (begun_none x (get_or c.args.stands.now c.stands.stand-index no_stand) c.within.result w.in_default.is c.within.ensures))
          ∙ ap (λ (ns : List ℕ). items ++ ns) on
          ∙ c.stands.invariant
    ]

pub returns : goal.returns
returns c =
    let items = c.stands.starts.items in
    sym (append-nil items) ∙ ap (λ (ns : List ℕ). items ++ ns) (sym (begun_done c.args.text.now c.args.stands.now c.stands.stand-index c.stands-test.false)) ∙ c.stands.invariant
