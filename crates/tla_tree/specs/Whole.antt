-- The readers with as many steps as they need: what code that reads is to give, whatever it has read before.
use Rattle.std.specs.Prelude.{ℕ, suc, ◌*◌, Bool, true, false, Some, length}
use Rattle.tla_tree.specs.Spelling.{Phrase}
use Rattle.tla_tree.specs.Reader.{Limit, Reader, Readers, readers_in, free}

-- w tells whether fields and closed applications count
abbrev pub whole_in : Bool → Limit → Readers
whole_in w b = record {
  expr = λ e c ts. (readers_in w (suc (suc (4 * length ts))) b).expr e c ts;
  short = λ e ts. (readers_in w (suc (suc (4 * length ts))) b).short e ts;
  postfix = λ e a ts. (readers_in w (suc (suc (4 * length ts))) b).postfix e a ts;
  climb = λ e c a ts. (readers_in w (suc (suc (4 * length ts))) b).climb e c a ts;
  phrases = λ e ts. (readers_in w (suc (suc (4 * length ts))) b).phrases e ts;
  binds = λ e p x ts. (readers_in w (suc (suc (4 * length ts))) b).binds e p x ts;
  fields = λ e m f ts. (readers_in w (suc (suc (4 * length ts))) b).fields e m f ts;
  settings = λ e ts. (readers_in w (suc (suc (4 * length ts))) b).settings e ts;
  path = λ e ts. (readers_in w (suc (suc (4 * length ts))) b).path e ts;
  bullets = λ e o c ts. (readers_in w (suc (suc (4 * length ts))) b).bullets e o c ts;
  arms = λ e ts. (readers_in w (suc (suc (4 * length ts))) b).arms e ts;
  locals = λ e ts. (readers_in w (suc (suc (4 * length ts))) b).locals e ts;
}

-- where they count
abbrev pub whole : Limit → Readers
whole b = whole_in true b

-- an expression of a module, in which so many forms may be open, fields and closed applications not counted
abbrev pub read_bounded : ℕ → ℕ → Reader Phrase
read_bounded b e ts = (whole_in false (Some b)).expr e free ts
