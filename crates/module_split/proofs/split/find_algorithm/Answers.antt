use Rattle.std.proofs.Common.{get_or, refl, sym, ap, ◌∙◌, ◌-◌, drop}
use Rattle.module_tree.specs.FileParts.{first_of}
use Rattle.module_tree.specs.AlgorithmText.{algorithm_at}
use Rattle.module_split.proofs.Comments.{no_stand, begun_some, begun_none, no_comment, no_beginning, algorithm_here}
use Rattle.module_split.proofs.split.find_algorithm.Goals as goal

pub returns-then-comment-stands : goal.returns-then-comment-stands
returns-then-comment-stands c = no_comment c.args.text.now c.args.stands.now c.args.comment c.requires.comment c.if-comment-stands.true

pub unreachable-requires : goal.unreachable-requires
unreachable-requires c =
    no_beginning c.args.text.now c.args.stands.now c.args.comment no_stand c.requires.comment c.if-comment-stands.false
    (ap first_of (begun_none c.args.text.now (get_or c.args.stands.now c.args.comment no_stand) c.within.result c.in_default.is c.within.ensures))

pub unreachable-requires-in_default-first_beginning : goal.unreachable-requires-in_default-first_beginning
unreachable-requires-in_default-first_beginning c =
    no_beginning c.args.text.now c.args.stands.now c.args.comment no_stand c.requires.comment c.if-comment-stands.false
    (ap first_of (sym (begun_some c.args.text.now (get_or c.args.stands.now c.args.comment no_stand) c.in-Some.span c.in-Some.ensures)) ∙ sym c.first_beginning.ensures.first ∙ c.in_default-first_beginning.is)

pub returns : goal.returns
returns c =
    let n = c.in-Some-first_beginning.from in
    record {
      found = algorithm_at n (c.in-Some.span.to - n) (drop n c.args.text.now);
      is =
          algorithm_here c.args.text.now c.args.stands.now c.args.comment no_stand c.in-Some.span n c.requires.comment c.if-comment-stands.false c.in-Some.ensures
          (ap first_of (sym (begun_some c.args.text.now (get_or c.args.stands.now c.args.comment no_stand) c.in-Some.span c.in-Some.ensures)) ∙ sym c.in-Some-first_beginning.ensures.first);
      begins = refl;
      ends = sym c.algorithm_at-inside.ensures.to;
      stage = sym c.algorithm_at-inside.ensures.stage;
      fault = c.algorithm_at-inside.ensures.fault;
      marked = c.algorithm_at-inside.ensures.marked;
    }
