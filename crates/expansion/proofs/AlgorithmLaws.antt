-- Procedures, processes and algorithms in memory with their macro calls written out, as the pool grows.
use Rattle.std.proofs.Common.{◌≡◌, ◌≤◌, List, length, map, Vec, Global, sym, ap, ◌∙◌, arith}
use Rattle.std.proofs.lemmas.Simd.{map-map}
use Rattle.tla_tree.specs.Tree.{Name, Tree}
use Rattle.tla_tree.specs.Pool.{Keeps}
use Rattle.tla_tree.specs.Nesting.{greatest}
use Rattle.pcal_tree.specs.declared.algorithm.Stmt.{Stmt}
use Rattle.pcal_tree.specs.declared.algorithm.Declaration.{Declaration}
use Rattle.pcal_tree.specs.declared.algorithm.Macro.{Macro}
use Rattle.pcal_tree.specs.declared.algorithm.Procedure.{Procedure}
use Rattle.pcal_tree.specs.declared.algorithm.Process.{Process}
use Rattle.pcal_tree.specs.declared.algorithm.Main.{Main}
use Rattle.pcal_tree.specs.Algorithm as pure
use Rattle.pcal_tree.specs.InMemory.{statements_at, declarations_at, procedure_at, process_at, main_at, past_macro, past_procedure, past_process, past_main}
use Rattle.pcal_tree.specs.Expand.{graft_all, expand, expanded, written_out}
use Rattle.pcal_tree.proofs.InMemoryGrown.{declarations_at-kept, statements_at-kept, main_at-kept, each_kept}
use Rattle.macro_expand.specs.Size.{expanded_main}
use Rattle.expansion_size.specs.FramesIn.{newest_first}
use Rattle.expansion_size.specs.declared.frames.Frames.TheVariants.{Outside}
use Rattle.expansion.specs.Written.{written}
use Rattle.expansion.specs.Expanded.{expanded_procedure, expanded_process}
use Rattle.expansion.proofs.PutTwice.{all_none}
use Rattle.expansion_size.proofs.FrameLaws.{put_outside}
use Rattle.expansion.proofs.BodyLaws.{newest_kept}
use Rattle.macro_arguments.proofs.Lists.{MadeOf, Grows}

-- outside macros what is written is the expansion
pub outside_written : (ts : List Tree) (ms : List Macro) (ss : List Stmt) → written ts ms Outside ss ≡ expanded (newest_first ts ms) (statements_at ts ss)
outside_written ts ms ss =
    (λ j. graft_all (put_outside ts j) (expand (written_out (newest_first ts ms)) (statements_at ts ss)))
    ∙ all_none (expand (written_out (newest_first ts ms)) (statements_at ts ss))

-- ---- procedures and processes

abbrev pub procedure_put : List Macro → List Tree → Procedure → pure.Procedure
procedure_put ms ts p = expanded_procedure (newest_first ts ms) (procedure_at ts p)

abbrev pub process_put : List Macro → List Tree → Process → pure.Process
process_put ms ts p = expanded_process (newest_first ts ms) (process_at ts p)

pub procedures_grow : Grows past_procedure procedure_at
procedures_grow ts us k p h = λ j. record {
  name = p.name;
  params = declarations_at-kept ts us k p.params.items (omega (arith, h)) j;
  variables = declarations_at-kept ts us k p.variables.items (omega (arith, h)) j;
  body = statements_at-kept ts us k p.body.items (omega (arith, h)) j;
}

pub processes_grow : Grows past_process process_at
processes_grow ts us k p h = λ j. record {
  name = p.name;
  fairness = p.fairness;
  several = p.several;
  identity = k.same p.identity (omega (arith, h)) j;
  variables = declarations_at-kept ts us k p.variables.items (omega (arith, h)) j;
  body = statements_at-kept ts us k p.body.items (omega (arith, h)) j;
}

module _ (ts us : List Tree) (k : Keeps ts us) (ms : List Macro) (h : greatest (map past_macro ms) ≤ length ts) where
  pub procedure_grown : (p : Procedure) → past_procedure p ≤ length ts → procedure_put ms us p ≡ procedure_put ms ts p
  procedure_grown p l = λ j. expanded_procedure (newest_kept ts us k ms h j) (procedures_grow ts us k p l j)

  pub process_grown : (p : Process) → past_process p ≤ length ts → process_put ms us p ≡ process_put ms ts p
  process_grown p l = λ j. expanded_process (newest_kept ts us k ms h j) (processes_grow ts us k p l j)

pub procedures_made : (ms : List Macro) (old ts : List Tree) (rs ps : List Procedure) → MadeOf past_procedure procedure_at (procedure_put ms old) ts rs ps → map (procedure_at ts) rs ≡ map (expanded_procedure (newest_first old ms)) (map (procedure_at old) ps)
procedures_made ms old ts rs ps m = m.stand ∙ sym (map-map (expanded_procedure (newest_first old ms)) (procedure_at old) ps)

pub processes_made : (ms : List Macro) (old ts : List Tree) (rs ps : List Process) → MadeOf past_process process_at (process_put ms old) ts rs ps → map (process_at ts) rs ≡ map (expanded_process (newest_first old ms)) (map (process_at old) ps)
processes_made ms old ts rs ps m = m.stand ∙ sym (map-map (expanded_process (newest_first old ms)) (process_at old) ps)

module _ (ts us : List Tree) (k : Keeps ts us) (ms : List Macro) where
  -- the body of a routine that is outside macros
  pub body_made : (rs ss ks : List Stmt) → statements_at us rs ≡ written ts ms Outside ks → ks ≡ ss → statements_at us rs ≡ expanded (newest_first ts ms) (statements_at ts ss)
  body_made rs ss ks h e = h ∙ ap (written ts ms Outside) e ∙ outside_written ts ms ss

  pub procedure_made : (p : Procedure) (n : Name) (qs vs : Vec Declaration Global) (b : Vec Stmt Global) → past_procedure p ≤ length ts → n ≡ p.name → qs.items ≡ p.params.items → vs.items ≡ p.variables.items
      → statements_at us b.items ≡ expanded (newest_first ts ms) (statements_at ts p.body.items)
      → procedure_at us (record { name = n; params = qs; variables = vs; body = b }) ≡ expanded_procedure (newest_first ts ms) (procedure_at ts p)
  procedure_made p n qs vs b h same q v is = λ j. record {
    name = same j;
    params = (ap (declarations_at us) q ∙ declarations_at-kept ts us k p.params.items (omega (arith, h))) j;
    variables = (ap (declarations_at us) v ∙ declarations_at-kept ts us k p.variables.items (omega (arith, h))) j;
    body = is j;
  }

  pub process_made : (p : Process) (n : Name) (vs : Vec Declaration Global) (b : Vec Stmt Global) → past_process p ≤ length ts → n ≡ p.name → vs.items ≡ p.variables.items
      → statements_at us b.items ≡ expanded (newest_first ts ms) (statements_at ts p.body.items)
      → process_at us (record { name = n; fairness = p.fairness; several = p.several; identity = p.identity; variables = vs; body = b }) ≡ expanded_process (newest_first ts ms) (process_at ts p)
  process_made p n vs b h same v is = λ j. record {
    name = same j;
    fairness = p.fairness;
    several = p.several;
    identity = k.same p.identity (omega (arith, h)) j;
    variables = (ap (declarations_at us) v ∙ declarations_at-kept ts us k p.variables.items (omega (arith, h))) j;
    body = is j;
  }

  pub procedures_kept : (rs : List Procedure) → greatest (map past_procedure rs) ≤ length ts → map (procedure_at us) rs ≡ map (procedure_at ts) rs
  procedures_kept rs h = each_kept ts us k (procedure_at us) (procedure_at ts) past_procedure (procedures_grow ts us k) rs h

  pub main_grown : greatest (map past_macro ms) ≤ length ts → (m : Main) → past_main m ≤ length ts → expanded_main (expanded (newest_first us ms)) (main_at us m) ≡ expanded_main (expanded (newest_first ts ms)) (main_at ts m)
  main_grown h m l = λ j. expanded_main (expanded (newest_kept ts us k ms h j)) (main_at-kept ts us k m l j)
