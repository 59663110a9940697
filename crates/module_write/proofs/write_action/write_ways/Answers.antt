-- Proves what is asked of `write_ways`.
use Rattle.std.proofs.Common.{List, ◌++◌, refl}
use Rattle.std.specs.Prelude.{codes}
use Rattle.module_write.specs.declared.«module».Way.{Way}
use Rattle.module_tree.specs.Layout.{blanks, line, way_text, ways_text}
use Rattle.module_write.specs.InMemory.{way_at, ways_at}
use Rattle.tla_write.proofs.OneMore.{listed_more}
use Rattle.module_lines.proofs.Regrouped.{line_joined}
use Rattle.module_write.proofs.write_action.write_ways.Goals as goal

pub loop-way-preserved : goal.loop-way-preserved
loop-way-preserved c =
    let ts = c.args.pool.now in
    listed_more (λ (ys : List Way). ways_text (ways_at ts ys)) (λ (y : Way). line 2 (codes "\\/ " ++ way_text (way_at ts y))) (record { none = refl; more = λ x xs. refl })
    c.args.into.now c.loop-way.into c.push.new.self c.args.ways.now c.loop-way.way-index c.way-item.result c.way-item.is c.loop-way-test.true c.loop-way.invariant
    (rw (c.in_ok-push.ensures.ok, c.in_ok-write_way.ensures, c.in_ok-begin_line.ensures) (line_joined c.loop-way.into (blanks 2) (codes "\\/ ") (way_text (way_at ts c.way-item.result)) (codes "\n")))
