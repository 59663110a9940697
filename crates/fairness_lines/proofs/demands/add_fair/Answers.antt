-- Proves that the demands of a fair process are those of its own steps and of those of the procedures that it reaches.
use Rattle.std.proofs.Common.{◌≡◌, ◌++◌, List, map, length, sym, ap, ◌∙◌, append_assoc, arith}
use Rattle.std.specs.Prelude.{filter}
use Rattle.std.specs.List.{flat_map}
use Rattle.std.proofs.lemmas.Result.{on_ok_weaker}
use Rattle.std.proofs.lemmas.List.{length-map}
use Rattle.pcal_tree.specs.Algorithm.{Routine, numbered, procedure_routine}
use Rattle.pcal_tree.specs.InMemory.{statements_at, macro_at, procedure_at, algorithm_at}
use Rattle.written_names.specs.Units.{naming_of}
use Rattle.fairness.specs.ReachedProcedures.{reached}
use Rattle.fairness_lines.specs.Tables.{marked_word}
use Rattle.fairness_lines.specs.Asked.{Asked, asked_of, asked_in}
use Rattle.fairness_lines.specs.DemandsAt.{takers_at, all_asked}
use Rattle.fairness_lines.proofs.demands.add_fair.Goals as goal

pub returns-clause-asked : goal.returns-clause-asked
returns-clause-asked c =
    on_ok_weaker c.add_procedures.result (λ h ts u t n b.
    let f = naming_of c.args.draft.now.naming.now in
    let tk = takers_at ts c.args.owner in
    let a = algorithm_at ts c.args.draft.now.algorithm.now in
    let each : Routine → List Asked = asked_in f tk c.args.owner.number c.args.owner.strong in
    let first : c.len-first.result ≡ length (map (macro_at ts) c.args.draft.now.algorithm.now.macros.items) =
    omega (arith, c.len-first.ensures, c.args.draft.now.algorithm.now.macros.ok, length-map c.args.draft.now.algorithm.now.macros.items (macro_at ts)) in
    let rest : flat_map each (filter (λ u. marked_word c.args.table.now.names c.deref.result.now u.name.word) (numbered procedure_routine c.len-first.result (map (procedure_at ts) c.deref-2.result.now))) ≡ flat_map each (reached a u) =
    (λ i. flat_map each (filter (λ u. marked_word c.args.table.now.names (c.deref.ensures.value i) u.name.word) (numbered procedure_routine (first i) (map (procedure_at ts) (c.deref-2.ensures.value i)))))
    ∙ ap (flat_map each) (sym (c.in_ok-marks.ensures ts a u t b)) in
    let own : asked_of f tk c.args.owner.number c.args.owner.strong c.args.owner.number (statements_at ts c.args.body.now) ≡ each u = λ i. asked_of f tk c.args.owner.number c.args.owner.strong (sym n i) (sym b i) in
    h ts
    ∙ (λ i. c.in_ok-add_routine.ensures.asked ts i ++ rest i)
    ∙ append_assoc (all_asked ts c.args.into.now.items) (asked_of f tk c.args.owner.number c.args.owner.strong c.args.owner.number (statements_at ts c.args.body.now)) (flat_map each (reached a u))
    ∙ ap (λ (xs : List Asked). all_asked ts c.args.into.now.items ++ (xs ++ flat_map each (reached a u))) own)
    c.add_procedures.ensures.asked

pub returns-clause-within : goal.returns-clause-within
returns-clause-within c = on_ok_weaker c.add_procedures.result (λ h m k l. h m (c.in_ok-add_routine.ensures.within m k l) l) c.add_procedures.ensures.within
