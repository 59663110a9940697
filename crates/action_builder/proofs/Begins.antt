-- What is written for a macro call has a statement and no label, where the bodies of macros have no label.
use Rattle.std.proofs.Common.{◌≡◌, List, [], ◌∷◌, Bool, true, false, cond, bytes_eq}
use Rattle.tla_tree.specs.Tree.{Word, Trees, Graft}
use Rattle.pcal_tree.specs.Algorithm.{Span, Statement, branch, either, with, while, macro, Statements, done, then, mark, Branches, no_branches, or, Macro}
use Rattle.pcal_tree.specs.Run.{arguments}
use Rattle.pcal_tree.specs.StepStart.{begin}
use Rattle.pcal_tree.specs.Expand.{graft_one, graft_all, graft_some, followed_by, Writing, expand_one, expand, expand_some, written_out, expanded, expand_begin}
use Rattle.pcal_tree.proofs.ExpandRuns.{opens_graft}
use Rattle.pcal_tree.proofs.BeginLaws.{WrittenBare, begin_expanded, opens_one}
use Rattle.pcal_tree.specs.laws.Expansion.{Calls, CallsOne, CallsSome, Chosen, Throughout, FineCall, BeginsUnlabelled, Stays, BareOne, Bare, BareSome, BareBodies}
use Rattle.tla_value.specs.laws.Grafting.{Apart, ApartForm}

bare_joined : (a b : Statements) → Bare a → Bare b → Bare (followed_by a b)
bare_joined done b h k = k
bare_joined (then at st a) b h k = (h.0, bare_joined a b h.1 k)
bare_joined (mark m j a) b h k = absurd h

mutual
  bare_graft_one : (g : Graft) (st : Statement) → BareOne st → BareOne (graft_one g st)
  bare_graft_one g (branch e a b) h = (bare_graft g a h.0, bare_graft g b h.1)
  bare_graft_one g (either bs) h = bare_graft_some g bs h
  bare_graft_one g (with bs b) h = bare_graft g b h
  bare_graft_one g (while e b) h = bare_graft g b h
  bare_graft_one g st h = tt

  bare_graft : (g : Graft) (ss : Statements) → Bare ss → Bare (graft_all g ss)
  bare_graft g done h = tt
  bare_graft g (then at st rest) h = (bare_graft_one g st h.0, bare_graft g rest h.1)
  bare_graft g (mark m k rest) h = absurd h

  bare_graft_some : (g : Graft) (bs : Branches) → BareSome bs → BareSome (graft_some g bs)
  bare_graft_some g no_branches h = tt
  bare_graft_some g (or b bs) h = (bare_graft g b h.0, bare_graft_some g bs h.1)

mutual
  bare_expand_one : (X : Writing) (P : Word → Trees → Type 0) → WrittenBare X P → (at : Span) (st : Statement) → CallsOne P st → BareOne st → (rest : Statements) → Bare rest → Bare (expand_one X at st rest)
  bare_expand_one X P w at (macro m ts) c h rest k = bare_joined (X at m ts) rest (w at m ts c).1 k
  bare_expand_one X P w at (branch e a b) c h rest k = ((bare_expand X P w a c.0 h.0, bare_expand X P w b c.1 h.1), k)
  bare_expand_one X P w at (either bs) c h rest k = (bare_expand_some X P w bs c h, k)
  bare_expand_one X P w at (with bs b) c h rest k = (bare_expand X P w b c h, k)
  bare_expand_one X P w at (while e b) c h rest k = (bare_expand X P w b c h, k)
  bare_expand_one X P w at st c h rest k = (tt, k)

  bare_expand : (X : Writing) (P : Word → Trees → Type 0) → WrittenBare X P → (ss : Statements) → Calls P ss → Bare ss → Bare (expand X ss)
  bare_expand X P w done c h = tt
  bare_expand X P w (then at st rest) c h = bare_expand_one X P w at st c.0 h.0 (expand X rest) (bare_expand X P w rest c.1 h.1)
  bare_expand X P w (mark m k rest) c h = absurd h

  bare_expand_some : (X : Writing) (P : Word → Trees → Type 0) → WrittenBare X P → (bs : Branches) → CallsSome P bs → BareSome bs → BareSome (expand_some X bs)
  bare_expand_some X P w no_branches c h = tt
  bare_expand_some X P w (or b bs) c h = (bare_expand X P w b c.0 h.0, bare_expand_some X P w bs c.1 h.1)

opens_body : (X : Writing) (P : Word → Trees → Type 0) → WrittenBare X P → (ss : Statements) → Calls P ss → BeginsUnlabelled ss → BeginsUnlabelled (expand X ss)
opens_body X P w done c h = absurd h
opens_body X P w (then at st rest) c h = opens_one X P w at st (expand X rest) c.0
opens_body X P w (mark m k rest) c h = absurd h

written_bare : (ms : List Macro) → BareBodies ms → WrittenBare (written_out ms) (FineCall ms)
written_bare [] b at m ts h = (tt, (tt, tt))
written_bare (d ∷ older) b at m ts h = by (written_bare older b.1) (bytes_eq d.name.word m) h
  where
    by : WrittenBare (written_out older) (FineCall older) → (q : Bool) → Chosen q (Throughout (ApartForm (arguments d.params ts)) (Apart (arguments d.params ts)) (expand (written_out older) d.body) × Calls (FineCall older) d.body × BeginsUnlabelled d.body × Stays d.body) (FineCall older m ts) → BeginsUnlabelled (cond q (graft_all (arguments d.params ts) (expand (written_out older) d.body)) (written_out older at m ts)) × Bare (cond q (graft_all (arguments d.params ts) (expand (written_out older) d.body)) (written_out older at m ts))
    by ih true k = (
      opens_graft (arguments d.params ts) (expand (written_out older) d.body) (opens_body (written_out older) (FineCall older) ih d.body k.1 k.2),
      bare_graft (arguments d.params ts) (expand (written_out older) d.body) (bare_expand (written_out older) (FineCall older) ih d.body k.1 b.0),
    )
    by ih false k = ih at m ts k

pub begins_expanded : (ms : List Macro) → BareBodies ms → (l here : Word) (ss : Statements) → Calls (FineCall ms) ss → (x : Word) → begin l here (expanded ms ss) x ≡ expand_begin (written_out ms) (begin l here ss x)
begins_expanded ms b l here ss h x = begin_expanded (written_out ms) (FineCall ms) (written_bare ms b) l here ss h x
