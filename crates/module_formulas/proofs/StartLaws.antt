-- The conjunct of a variable is made up of its parts.
use Rattle.std.proofs.Common.{◌≡◌, ◌++◌, List, refl, sym, ap, ◌∙◌}
use Rattle.tla_token.specs.Signs.{is_among}
use Rattle.tla_tree.specs.Tree.{Word, Tree, graft}
use Rattle.tla_value.specs.Grafts.{owned}
use Rattle.pcal_tree.specs.declared.algorithm.Declaration as code
use Rattle.pcal_tree.specs.Algorithm.{Start, unset, equals, among, Routine, declares}
use Rattle.pcal_tree.specs.InMemory.{declarations_at}
use Rattle.pcal_tree.specs.Takers.{Takers, each_of, single, lone}
use Rattle.pcal_tree.specs.Program.{Program}
use Rattle.written_names.specs.Units.{naming_of}
use Rattle.prime_subst.specs.declared.localising.Local.{Local}
use Rattle.prime_subst.specs.Readers.{renames_of}
use Rattle.name_bits.specs.NamesIn.{names_in}
use Rattle.action_builder.specs.InitialFormulas.{written_in, plain_start, start_by}
use Rattle.draft.specs.declared.draft.Draft.{Draft}
use Rattle.draft.specs.Drafts.{IsDraft}
use Rattle.draft.specs.RoutineNames.{words_of}
use Rattle.draft.proofs.NameLaws.{both_declared}
use Rattle.module_formulas.specs.Starts.{formula, spread_by, is_choice, first_value, started_in, set_in, IsLocal}

pub written_is : (ts : List Tree) (d : Draft) (l : Local) (P : Program) (u : Routine) → IsDraft ts d P → IsLocal l P u → (t : Tree)
    → graft (owned d.this.now (is_among (names_in d.order.now d.own.now))) (graft (renames_of (is_among l.locals.now) ((naming_of l.naming.now).local l.unit)) t) ≡ written_in P u t
written_is ts d l P u h k t =
    λ i. graft (owned (h.this i) (λ x. h.own x i)) (graft (renames_of (λ x. k.names x i) ((k.naming i).local (sym k.number i))) t)

pub plain_is : (f : Tree → Tree) (x : Word) (d : Start) → formula (is_choice d) x (first_value f f d) ≡ plain_start f x d
plain_is f x unset = refl
plain_is f x (equals e) = refl
plain_is f x (among e) = refl

pub start_is : (P : Program) (u : Routine) (t : Takers) (x : Word) (d : Start) → formula (is_choice d) x (spread_by t (is_choice d) (first_value (started_in P u t) (set_in P u t) d)) ≡ start_by P u t x d
start_is P u (each_of s) x unset = refl
start_is P u (each_of s) x (equals e) = refl
start_is P u (each_of s) x (among e) = refl
start_is P u (single s) x unset = refl
start_is P u (single s) x (equals e) = refl
start_is P u (single s) x (among e) = refl
start_is P u lone x unset = refl
start_is P u lone x (equals e) = refl
start_is P u lone x (among e) = refl

-- the names of a routine in memory
pub local_is : (l : Local) (ts : List Tree) (d : Draft) (P : Program) (u : Routine) (ps vs : List code.Declaration) → IsDraft ts d P → l.naming.now ≡ d.naming.now → u.number ≡ l.unit
    → u.params ≡ declarations_at ts ps → u.variables ≡ declarations_at ts vs → ((x : Word) → is_among l.locals.now x ≡ is_among (words_of ps ++ words_of vs) x) → IsLocal l P u
local_is l ts d P u ps vs h same number params variables names = record {
  number = number;
  naming = ap naming_of same ∙ h.naming;
  names = λ x. names x ∙ ap (λ (ws : List Word). is_among ws x) (sym (both_declared ts ps vs))
      ∙ sym (λ i. declares (params i ++ variables i) x);
}
