-- Proves what is seen in a macro's body where nothing was seen yet.
use Rattle.std.proofs.lemmas.Result.{on_ok_weaker}
use Rattle.pcal_tree.specs.InMemory.{statements_at}
use Rattle.pcal_tree.specs.laws.MacroSpots.{seen_in_call, seen_in_body}
use Rattle.read_rules.specs.PlainPuts.{Going}
use Rattle.read_rules.proofs.SeenBodyLaws.{is_way}
use Rattle.read_rules.proofs.OnceLaws.{way_once}
use Rattle.read_rules.proofs.macros.see_once.Goals as goal

pub returns : goal.returns
returns c =
    on_ok_weaker c.keep_once-2.result
    (λ done u r ms ps p q k.
    let f : Going = λ z. seen_in_body (seen_in_call ms) ps (statements_at c.args.pool.now c.args.body.now) z in
    let a = c.args.ways.now in
    let b = c.body.new.ways in
    let g = c.in_ok-body.ensures ms ps k in
    record {
      unreached = c.in_ok-keep_once.ensures _ (way_once b.unreached (f u) (is_way a.unreached b.unreached u f p g.0));
      reached = done _ (way_once b.reached (f r) (is_way a.reached b.reached r f q g.1));
    }) c.keep_once-2.ensures
