-- An algorithm that has what its text gives, and breaks no rule on names and labels, can be written where no statement, its macro calls written out, assigns a variable beside a part of it.
use Rattle.std.proofs.Common.{◌≡◌, ℕ, suc, ◌<◌, length, List, [], ◌∷◌, not, ◌⊎◌, inl, inr, sym, subst}
use Rattle.std.specs.Bool.{IsTrue}
use Rattle.std.specs.List.{AllByRecursion}
use Rattle.tla_token.specs.Limits.{past_text}
use Rattle.tla_token.specs.Words.{is_own}
use Rattle.tla_tree.specs.laws.Writable.{IsIdentifier, IsWritable}
use Rattle.tla_value.specs.Outside.{Outside}
use Rattle.module_tree.specs.TextFront.{Text}
use Rattle.module_tree.specs.Walk.{walk}
use Rattle.module_tree.specs.laws.Outsides.{HasOutside}
use Rattle.pcal_tree.specs.Algorithm.{locals, Definition, Procedure, Process, Main, alone, processes, Routine, procedure_routine, process_routine, numbered, first_procedure, first_process, procedure_routines, main_routines, routines, Algorithm}
use Rattle.pcal_tree.specs.OffencesLabels.{label_offences}
use Rattle.pcal_tree.specs.OffencesNames.{use_offences_of, repeated_names}
use Rattle.pcal_tree.specs.OffencesOfNames.{offences_of_uses, offences_of_declarations, offences_of_reads, through_each_call, name_offences}
use Rattle.pcal_tree.specs.OffencesReserved.{reserved_declared}
use Rattle.pcal_tree.specs.Processes.{OneOf}
use Rattle.pcal_tree.specs.laws.Apart.{FewNames}
use Rattle.pcal_tree.proofs.RoutineNames.{one_either}
use Rattle.translation.specs.laws.WritableAlgorithm.{IsWritableDeclaration, IsWritableDefinition, IsStarted, IsWritableMain, IsWritableAlgorithm}
use Rattle.translation.specs.laws.AcceptedAlgorithm.{IsAccepted}
use Rattle.translation.specs.laws.TypedAlgorithm.{IsTypedDefinition, IsTypedProcedure, IsTypedProcess, IsTypedMain, IsTypedAlgorithm}
use Rattle.translation.proofs.AcceptedNames.{names_once, definitions_free, bodies_labelled}
use Rattle.translation.proofs.OnceThrough.{accepted_once}
use Rattle.translation.proofs.FewNames.{few_names, tokens_within}
use Rattle.translation.proofs.KnownRoutines.{routine_written}
use Rattle.translation.proofs.TypedLabels.{labelled_typed}
use Rattle.translation.proofs.TypedTexts.{text_typed}
use Rattle.pcal_tree.proofs.ClearLabels.{both_none}
use Rattle.pcal_tree.proofs.OneStand.{every_both}

-- its name, its variables and a body that isn't empty
abbrev IsTypedRoutine : Routine → Type 0
IsTypedRoutine u = IsIdentifier u.name.word × AllByRecursion IsWritableDeclaration (locals u) × IsStarted u.body

procedures_typed : (n : ℕ) (ps : List Procedure) → AllByRecursion IsTypedProcedure ps → (u : Routine) → OneOf u (numbered procedure_routine n ps) → IsTypedRoutine u
procedures_typed n [] h u k = absurd k
procedures_typed n (p ∷ ps) h u (inl e) = subst IsTypedRoutine (sym e) (h.0.0, every_both IsWritableDeclaration p.params p.variables h.0.1 h.0.2, h.0.3.0)
procedures_typed n (p ∷ ps) h u (inr k) = procedures_typed (suc n) ps h.1 u k

processes_typed : (n : ℕ) (ps : List Process) → AllByRecursion IsTypedProcess ps → (u : Routine) → OneOf u (numbered process_routine n ps) → IsTypedRoutine u
processes_typed n [] h u k = absurd k
processes_typed n (p ∷ ps) h u (inl e) = subst IsTypedRoutine (sym e) (h.0.0, h.0.2, h.0.3.0)
processes_typed n (p ∷ ps) h u (inr k) = processes_typed (suc n) ps h.1 u k

main_typed : (a : Algorithm) (m : Main) → IsIdentifier a.name.word → IsTypedMain m → (u : Routine) → OneOf u (main_routines a m) → IsTypedRoutine u
main_typed a (alone ss) i h u (inl e) = subst IsTypedRoutine (sym e) (i, tt, h.0)
main_typed a (alone ss) i h u (inr k) = absurd k
main_typed a (processes []) i h u k = absurd h
main_typed a (processes (p ∷ ps)) i h u k = processes_typed (first_process a) (p ∷ ps) h u k

routine_typed : (a : Algorithm) → IsTypedAlgorithm a → (u : Routine) → OneOf u (routines a) → IsTypedRoutine u
routine_typed a h u k = by (one_either u (procedure_routines a) (main_routines a a.main) k)
  where
    by : OneOf u (procedure_routines a) ⊎ OneOf u (main_routines a a.main) → IsTypedRoutine u
    by (inl q) = procedures_typed (first_procedure a) a.procedures h.procedures u q
    by (inr q) = main_typed a a.main h.name h.main u q

definitions_writable : (ds : List Definition) → AllByRecursion IsTypedDefinition ds → AllByRecursion (λ (d : Definition). IsTrue (not (is_own d.name.word))) ds → AllByRecursion IsWritableDefinition ds
definitions_writable [] h k = tt
definitions_writable (d ∷ ds) h k = ((h.0.0, k.0, h.0.1, h.0.2), definitions_writable ds h.1 k.1)

identities : (ps : List Process) → AllByRecursion IsTypedProcess ps → AllByRecursion (λ (q : Process). IsWritable q.identity) ps
identities [] h = tt
identities (p ∷ ps) h = (h.0.1, identities ps h.1)

main_writable : (m : Main) → IsTypedMain m → IsWritableMain m
main_writable (alone ss) h = tt
main_writable (processes []) h = absurd h
main_writable (processes (p ∷ ps)) h = identities (p ∷ ps) h

-- uses of names, names declared twice and reserved names
rules_on_names : (a : Algorithm) (o : Outside) → name_offences a o ≡ [] → (use_offences_of a o ≡ []) × (repeated_names a o ≡ []) × (reserved_declared a o ≡ [])
rules_on_names a o h =
    let F = through_each_call a o in
    let p = both_none (offences_of_uses F a o) _ h in
    let q = both_none (offences_of_declarations F a o) (offences_of_reads F a) p.1 in
    let r = both_none (repeated_names a o) _ q.0 in
    ((both_none F.uses _ p.0).0, r.0, (both_none F.rebound (reserved_declared a o) r.1).1)

pub accepted_writable : (o : Outside) (a : Algorithm) → IsTypedAlgorithm a → FewNames a o → name_offences a o ≡ [] → label_offences a ≡ [] → IsWritableAlgorithm o a
accepted_writable o a h few names labels =
    let n = rules_on_names a o names in
    record {
      few = few;
      globals = h.globals;
      definitions = definitions_writable a.definitions h.definitions (definitions_free a o n.2);
      main = main_writable a.main h.main;
      routines = λ u k.
          let t = routine_typed a h u k in
          record { name = t.0; locals = t.1; once = names_once a o n.1 u k; labelled = bodies_labelled a labels u k t.2; body = routine_written a o h n.0 u k (accepted_once a labels u k) };
    }

-- of a file within the limits, with labels added
pub text_writable : (x : Text) (o : Outside) (a : Algorithm) → IsAccepted o a → length x < past_text → HasOutside (walk x) o → IsWritableAlgorithm o a
text_writable x o a h size out =
    accepted_writable o a (subst IsTypedAlgorithm h.labels_added (labelled_typed h.forced h.typed (text_typed h.syntax h.text h.from h.to h.tokens h.typed h.tok (tokens_within h.tokens h.rules).0 h.spelled))) (few_names x o a h size out) h.names h.labels
