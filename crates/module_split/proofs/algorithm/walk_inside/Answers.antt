use Rattle.std.proofs.Common.{refl, sym, ◌∙◌, arith}
use Rattle.module_split.specs.declared.algorithm.Inside.{Inside}
use Rattle.module_split.proofs.AlgorithmSteps.{follows_on, follows_known, at_end, some_there}
use Rattle.module_split.proofs.algorithm.walk_inside.Goals as goal

pub parts-preserved : goal.parts-preserved
parts-preserved c =
    let here : Inside = record { at = c.parts.inside.at; stage = c.parts.inside.stage; wordless = c.inner_part.new.wordless; fault = c.parts.inside.fault } in
    record {
      here = c.past-inside.ensures.here;
      so_far =
          follows_on c.args.text.now c.args.end c.args.start here c.past-inside.result c.args.marks.now c.parts.marks c.past-inside.new.marks
          (follows_known c.args.text.now c.args.end c.args.start c.parts.inside here c.args.marks.now c.parts.marks refl refl refl c.parts.invariant.so_far) c.past-inside.ensures;
    }

pub returns-else-not-is_past : goal.returns-else-not-is_past
returns-else-not-is_past c = at_end c.args.text.now c.args.end c.args.start c.parts.inside c.args.marks.now c.parts.marks (sym c.is_past.ensures ∙ c.if-not-is_past.false) c.parts.invariant.so_far

pub unreachable-requires : goal.unreachable-requires
unreachable-requires c = some_there c.parts.inside.at c.args.end c.args.text.now (omega arith) c.requires.ends c.in-None.ensures.part
