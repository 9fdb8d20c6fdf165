-- The end of a long input does not matter: its first 4,194,304 bytes have the same listing. Assumes nothing.
use mathlib.Core.Path.{◌≡◌, ap}
use mathlib.Core.List.{List}
use Prim.Native.Nat.{ℕ, ◌≤◌}
use lib.ListN.{take}
use Rattle.plan.proofs.Cut.{cut_read}
use Rattle.rehearsal.specs.Listing.{printed, listing}

pub cut_listing : (room : ℕ) (bytes : List ℕ) → 4_194_304 ≤ room → listing (take room bytes) ≡ listing bytes
cut_listing room bytes h = ap printed (cut_read room bytes h)
