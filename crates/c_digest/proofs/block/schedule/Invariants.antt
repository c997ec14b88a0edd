use Rattle.std.proofs.Common.{◌≡◌, ◌-◌, ◌≤◌, length, take}
use Rattle.sha2.specs.Sha256.{first_words, schedule}
use Rattle.c_digest.proofs.block.schedule.Given as goal

abbrev pub invariant-given : goal.invariant-given
invariant-given l = (length l.words ≡ 64) × (take l.t l.words ≡ first_words l.block l.t)

abbrev pub invariant-further : goal.invariant-further
invariant-further l = (length l.words ≡ 64) × (16 ≤ l.t) × (take l.t l.words ≡ schedule l.block (l.t - 16))
