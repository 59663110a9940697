-- Proves that the names of a process are added where they are wanted.
use Rattle.std.proofs.Common.{◌≡◌, Bool, true, ◌||◌, List, map, ◌++◌, sym, ap, ◌∙◌}
use Rattle.std.proofs.lemmas.Result.{on_ok_weaker}
use Rattle.tla_tree.specs.Tree.{Word}
use Rattle.pcal_tree.specs.declared.algorithm.Declaration.{Declaration}
use Rattle.written_names.specs.Units.{naming_of}
use Rattle.draft.specs.RoutineNames.{words_of}
use Rattle.draft.proofs.NameLaws.{process_names}
use Rattle.draft.proofs.variables.add_process.Goals as goal
use Rattle.draft.proofs.variables.add_process.Goals.{then-every, else-every}

pub returns-then-process : goal.returns-then-process
returns-then-process c =
    let p = c.args.process.now in
    let f = naming_of c.args.naming.now in
    let wanted : (c.args.every || p.several) ≡ true = elim c.if-every.branch [
      | then-every w ↦ ap (λ (b : Bool). b || p.several) w.if-every.true
      | else-every w ↦ ap (λ (b : Bool). b || p.several) w.if-every.false ∙ sym w.value-is ∙ c.if-process.true
    ] in
    on_ok_weaker c.add_locals.result (λ h ts.
    h ∙ ap (λ (ds : List Declaration). c.args.into.now ++ map (f.local c.args.number) (words_of ds)) c.deref.ensures.value
    ∙ ap (λ (l : List Word). c.args.into.now ++ l) (process_names ts f c.args.every c.args.number p wanted))
    c.add_locals.ensures
