use Rattle.std.proofs.Common.{ℕ, ◌≡◌, sym, length}
use Rattle.std.proofs.Math.ListN.{replicate}
use Rattle.std.proofs.lemmas.List.{length-replicate}
use Rattle.replay.proofs.room.Goals as goal

zeros-long : (n : ℕ) → n ≡ length {A = ℕ} (replicate n 0)
zeros-long n = sym (length-replicate {A = ℕ} n 0)

pub returns : goal.returns
returns c = zeros-long 524288
