-- A draft stays one of its program as the pool grows.
use Rattle.std.proofs.Common.{List, ◌∙◌, arith}
use Rattle.tla_tree.specs.Tree.{Tree}
use Rattle.tla_tree.specs.Pool.{Keeps}
use Rattle.pcal_tree.specs.Program.{Program}
use Rattle.pcal_tree.proofs.InMemoryGrown.{algorithm_at-kept}
use Rattle.draft.specs.declared.draft.Draft.{Draft}
use Rattle.draft.specs.Drafts.{IsDraft}

pub draft_kept : (ts us : List Tree) → Keeps ts us → (d : Draft) (P : Program) → IsDraft ts d P → IsDraft us d P
draft_kept ts us k d P h = record {
  within = (let w = h.within in omega (arith, w, k.longer));
  algorithm = algorithm_at-kept ts us k d.algorithm.now h.within ∙ h.algorithm;
  naming = h.naming;
  order = h.order;
  own = h.own;
  this = h.this;
}
