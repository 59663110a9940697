-- Proves the law `primes_read_the_mid_state`.
use Rattle.tla_value.specs.laws.Grafting.{In}
use Rattle.tla_value.proofs.MidState.{mid_law}
use Rattle.tla_value.proofs.meaning_laws.primes_read_the_mid_state.Goals as goal

pub returns : goal.returns
returns c = λ k A u constants ds s t h g e b o. mid_law k A (In u) constants ds s t h g e b o
