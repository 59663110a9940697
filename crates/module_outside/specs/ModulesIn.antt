-- The standard modules that are extended, in memory: what they give.
use Rattle.std.specs.Prelude.{ℕ, nat_eq, Bool, true, false, not, ◌&&◌, ◌||◌, List, Option, Some, None, cond, bytes_eq, codes, ◌≡◌}
use Rattle.tla_token.specs.Signs.{is_among}
use Rattle.tla_token.specs.Words.{standard_names, sequence_names, tlc_names}
use Rattle.tla_tree.specs.declared.op.Op.{Op}
use Rattle.tla_tree.specs.declared.op.Op.TheVariants as op
use Rattle.tla_tree.specs.Tree.{Word}
use Rattle.module_outside.specs.declared.modules.Modules.{Modules}
use Rattle.module_outside.specs.declared.standard.Giver.{Giver}
use Rattle.module_outside.specs.declared.standard.Giver.TheVariants as giver
use Rattle.module_outside.specs.declared.standard.Standard.{Standard}

-- these of the standard modules are among the words
pub record AreModules (m : Modules) (ms : List Word) : Type 0 where
  pub naturals : is_among ms (codes "Naturals") ≡ m.naturals
  pub integers : is_among ms (codes "Integers") ≡ m.integers
  pub sequences : is_among ms (codes "Sequences") ≡ m.sequences
  pub finite_sets : is_among ms (codes "FiniteSets") ≡ m.finite_sets
  pub tlc : is_among ms (codes "TLC") ≡ m.tlc

abbrev pub no_modules : Modules
no_modules = record { naturals = false; integers = false; sequences = false; finite_sets = false; tlc = false }

-- with one more
abbrev pub with_module : Modules → Word → Modules
with_module m x = record {
  naturals = m.naturals || bytes_eq (codes "Naturals") x;
  integers = m.integers || bytes_eq (codes "Integers") x;
  sequences = m.sequences || bytes_eq (codes "Sequences") x;
  finite_sets = m.finite_sets || bytes_eq (codes "FiniteSets") x;
  tlc = m.tlc || bytes_eq (codes "TLC") x;
}

abbrev pub gives : Modules → Giver → Bool
gives m giver.Numbers = m.naturals || m.integers
gives m giver.Integers = m.integers
gives m giver.Sequences = m.sequences
gives m giver.FiniteSets = m.finite_sets
gives m giver.Tlc = m.tlc

abbrev pub has_op : Modules → Op → Bool
has_op m op.Plus = m.naturals || m.integers
has_op m op.Minus = m.naturals || m.integers
has_op m op.Times = m.naturals || m.integers
has_op m op.Divide = m.naturals || m.integers
has_op m op.Modulo = m.naturals || m.integers
has_op m op.Range = m.naturals || m.integers
has_op m op.Less = m.naturals || m.integers
has_op m op.Greater = m.naturals || m.integers
has_op m op.AtMost = m.naturals || m.integers
has_op m op.AtLeast = m.naturals || m.integers
has_op m op.Negate = m.integers
has_op m op.Concat = m.sequences
has_op m op.MapsTo = m.tlc
has_op m op.Override = m.tlc
has_op m _ = true

abbrev pub is_standard_in : Modules → Word → Bool
is_standard_in m w = is_among standard_names w || (m.sequences && is_among sequence_names w) || (m.tlc && is_among tlc_names w)

-- ---- names

abbrev pub row_of : ℕ → Giver → Bool → Option Standard
row_of n g inf = Some (record { arity = n; giver = g; infinite = inf })

abbrev pub standard_of : Word → Option Standard
standard_of x =
    cond (bytes_eq (codes "Nat") x) (row_of 0 giver.Numbers true)
    (cond (bytes_eq (codes "Int") x) (row_of 0 giver.Integers true)
    (cond (bytes_eq (codes "Seq") x) (row_of 1 giver.Sequences true)
    (cond (bytes_eq (codes "Len") x) (row_of 1 giver.Sequences false)
    (cond (bytes_eq (codes "Append") x) (row_of 2 giver.Sequences false)
    (cond (bytes_eq (codes "Head") x) (row_of 1 giver.Sequences false)
    (cond (bytes_eq (codes "Tail") x) (row_of 1 giver.Sequences false)
    (cond (bytes_eq (codes "SubSeq") x) (row_of 3 giver.Sequences false)
    (cond (bytes_eq (codes "Cardinality") x) (row_of 1 giver.FiniteSets false)
    (cond (bytes_eq (codes "IsFiniteSet") x) (row_of 1 giver.FiniteSets false)
    (cond (bytes_eq (codes "PrintT") x) (row_of 1 giver.Tlc false)
    (cond (bytes_eq (codes "Assert") x) (row_of 2 giver.Tlc false) None)))))))))))

abbrev pub given : Modules → Bool → Option Standard → ℕ → Bool
given m inf None n = false
given m inf (Some s) n = nat_eq s.arity n && (gives m s.giver && (inf || not s.infinite))
