-- How many probes a search may take. Assumes nothing.
use Rattle.std.specs.Prelude.{ℕ, zero, suc, ◌*◌, ◌/◌}

-- how often n can be halved until it is 0, at most h times: for n of at most h, the number of its binary digits
unfoldable pub digits : (h n : ℕ) → ℕ
digits zero n = 0
digits (suc h) zero = 0
digits (suc h) (suc n) = suc (digits h (suc n / 2))

-- "P being the base-2 logarithm of k + 1 rounded up": k + 1 is at most 2 ^ P, and P is the least such number (proofs/Logarithm.antt)
unfoldable pub limit : (k : ℕ) → ℕ
limit k = digits k k

-- of both searches, so that "127 times 2P words are lent"
unfoldable pub most_probes : (k : ℕ) → ℕ
most_probes k = 2 * limit k
