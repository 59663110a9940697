-- Proves that the program is that of what was read, and that what is followed is its run.
use Rattle.std.proofs.Common.{refl}
use Rattle.run_files.specs.Turns.{script_of}
use Rattle.running.proofs.FollowLaws.{can_follow, followed_told}
use Rattle.running.proofs.following.followed_on.Goals as goal

pub followed_from-requires : goal.followed_from-requires
followed_from-requires c =
    can_follow c.args.pool.now c.args.checked.now c.requires.can c.args.constants _ refl refl refl c.as_slice-outside.result.now c.as_slice-outside.ensures.value
    c.in_ok-defs.ensures.outside refl c.in_ok-values.ensures c.args.made.now (c.requires.made c.args.constants) (c.in_ok-defs.ensures.whole _ refl refl refl)

pub returns : goal.returns
returns c =
    followed_told c.args.pool.now c.args.checked.now c.requires.can c.args.constants _ refl refl refl c.as_slice-outside.result.now c.as_slice-outside.ensures.value
    c.in_ok-defs.ensures.outside refl c.in_ok-values.ensures (script_of c.args.script.now) c.followed_from.result c.followed_from.ensures
