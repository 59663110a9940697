-- What was read stays as the pool grows, and a program of it is the definition's.
use Rattle.std.proofs.Common.{◌≡◌, ℕ, ◌≤◌, List, [], ◌∷◌, length, map, take, refl, ap, ◌∙◌, arith}
use Rattle.tla_tree.specs.Tree.{Tree}
use Rattle.tla_tree.specs.Pool.{Keeps}
use Rattle.tla_value.specs.Defs.{definitions_at}
use Rattle.tla_value.specs.Outside.{Outside, found}
use Rattle.tla_value.specs.States.{Entries}
use Rattle.pcal_tree.specs.Algorithm.{Algorithm}
use Rattle.pcal_tree.proofs.InMemoryGrown.{algorithm_at-kept}
use Rattle.module_outside.specs.declared.definition.ReadDefinition.{ReadDefinition}
use Rattle.module_outside.specs.OutsideAt.{made_of, definition_seen}
use Rattle.module_outside.specs.FoundAt.{AreHeld}
use Rattle.step_moves.specs.declared.program.Program as code
use Rattle.running.specs.ProgramsOf.{IsProgramOf}
use Rattle.running.specs.ReadBefore.{WasRead, IsFilled}

pub read_kept : (ts us : List Tree) (ds : List ReadDefinition) → Keeps ts us → AreHeld (length ts) ds → map (definition_seen us) ds ≡ map (definition_seen ts) ds
read_kept ts us [] k h = refl
read_kept ts us (d ∷ ds) k h = λ j. made_of d.title d.params.items (k.same d.body h.0 j) ∷ read_kept ts us ds k h.1 j

pub held_more : (m n : ℕ) (ds : List ReadDefinition) → m ≤ n → AreHeld m ds → AreHeld n ds
held_more m n [] le h = tt
held_more m n (d ∷ ds) le h = ((let b = h.0 in omega (arith, le, b)), held_more m n ds le h.1)

pub program_read : (ts : List Tree) (ds : List ReadDefinition) (p : code.Program) (o : Outside) (g : Algorithm) (es : Entries) → WasRead ts ds p o g → IsFilled ds p es → IsProgramOf p o g es
program_read ts ds p o g es read filled = record {
  algorithm = algorithm_at-kept ts p.pool.now read.kept p.algorithm.now read.within ∙ read.algorithm;
  naming = read.naming;
  outside =
      ap (λ (n : ℕ). definitions_at p.pool.now (take n p.defs.now)) filled.many
      ∙ filled.outside p.pool.now
      ∙ ap found (read_kept ts p.pool.now ds read.kept read.held ∙ read.outside);
  constants = filled.constants;
}
