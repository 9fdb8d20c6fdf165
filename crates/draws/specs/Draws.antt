-- The draws: "Marsaglia's xorshift64 (13, 7, 17) from the seeds' exclusive or, 1 if that is 0; a coefficient is the low 61 bits, skipping
-- p; a mask the low 58; a byte the low 8." They are drawn in the order of their use: for each bid its 2k groups of t coefficients; then
-- for each sheet the mask, its t coefficients and the bytes, in the dealer's order. Assumes nothing.
use Rattle.std.specs.Prelude.{cond, List, [], ◌∷◌, ℕ, zero, suc, ◌+◌, ◌*◌, ◌/◌, ◌%◌, ◌^◌, eqb}
use Rattle.std.specs.Int.Bits.{bit_xor}
use Rattle.fields.specs.Amount.{p}
use Rattle.sharing.specs.Scheme.{threshold}
use Rattle.search.specs.Limit.{most_probes}
use Rattle.comparison.specs.Probe.{SheetCoins, TripleCoins}
use Rattle.auction.specs.Coins.{Coins}

abbrev pub xor_up : (bits x : ℕ) → ℕ
xor_up bits x = bit_xor x (x * 2 ^ bits % 2 ^ 64)

abbrev pub xor_down : (bits x : ℕ) → ℕ
xor_down bits x = bit_xor x (x / 2 ^ bits)

-- the next state, of which each draw is the low bits
unfoldable pub next : ℕ → ℕ
next x = xor_up 17 (xor_down 7 (xor_up 13 x))

unfoldable pub first_state : ℕ → ℕ
first_state seed = cond (eqb seed 0) 1 seed

-- the state that a coefficient is read off: p is skipped, and does not come twice (proofs/Drawn.antt)
unfoldable pub next_coin : ℕ → ℕ
next_coin x = cond (eqb (next x % 2 ^ 61) p) (next (next x)) (next x)

-- the state m draws later, and what is drawn till then
unfoldable pub later : (ℕ → ℕ) → ℕ → ℕ → ℕ
later step zero x = x
later step (suc m) x = later step m (step x)

unfoldable pub drawn : (ℕ → ℕ) → (size m : ℕ) → ℕ → List ℕ
drawn step size zero x = []
drawn step size (suc m) x = step x % size ∷ drawn step size m (step x)

-- m coefficients, and m bytes
abbrev pub drawn_coins : ℕ → ℕ → List ℕ
drawn_coins m x = drawn next_coin (2 ^ 61) m x

abbrev pub drawn_bytes : ℕ → ℕ → List ℕ
drawn_bytes m x = drawn next 256 m x

-- m groups of t
unfoldable pub groups : (ℕ → ℕ) → (size t m : ℕ) → ℕ → List (List ℕ)
groups step size t zero x = []
groups step size t (suc m) x = drawn step size t x ∷ groups step size t m (later step t x)

-- ---- what the bids use

-- the coins of m bids of 2k amounts
unfoldable pub bid_coins : (t k m : ℕ) → ℕ → List (List (List ℕ))
bid_coins t k zero x = []
bid_coins t k (suc m) x = groups next_coin (2 ^ 61) t (2 * k) x ∷ bid_coins t k m (later next_coin (2 * k * t) x)

-- the state after them
unfoldable pub after_bids : (t k m : ℕ) → ℕ → ℕ
after_bids t k zero x = x
after_bids t k (suc m) x = after_bids t k m (later next_coin (2 * k * t) x)

-- ---- what the sheets use

-- "the rehearsal keeps to 33": the last round of its probes
abbrev pub last_rehearsed : ℕ
last_rehearsed = 33

-- "alpha, beta and t coefficients each for alpha, beta, gamma"
unfoldable pub triple_coins : (t : ℕ) → ℕ → TripleCoins
triple_coins t x =
    let y = next (next x) in
    record {
      alpha = next x % 256;
      beta = y % 256;
      of_alpha = drawn_bytes t y;
      of_beta = drawn_bytes t (later next t y);
      of_gamma = drawn_bytes t (later next (t + t) y);
    }

unfoldable pub all_triples : (t m : ℕ) → ℕ → List TripleCoins
all_triples t zero x = []
all_triples t (suc m) x = triple_coins t x ∷ all_triples t m (later next (2 + 3 * t) x)

unfoldable pub sheet_coins : (t : ℕ) → ℕ → SheetCoins
sheet_coins t x =
    let y = later next_coin t (next x) in
    record {
      mask = next x % 2 ^ 58;
      of_mask = drawn_coins t (next x);
      of_bits = groups next 256 t 33 y;
      triples = all_triples t 31 (later next (33 * t) y);
    }

-- the state after a sheet, and the coins of m sheets
unfoldable pub after_sheet : (t : ℕ) → ℕ → ℕ
after_sheet t x = later next (126 * t + 62) (later next_coin t (next x))

unfoldable pub all_sheets : (t m : ℕ) → ℕ → List SheetCoins
all_sheets t zero x = []
all_sheets t (suc m) x = sheet_coins t x ∷ all_sheets t m (after_sheet t x)

-- ---- a whole auction's coins

unfoldable pub auction_coins : (n k bids seed : ℕ) → Coins
auction_coins n k bids seed =
    let t = threshold n in
    record { bids = bid_coins t k bids (first_state seed); sheets = all_sheets t (most_probes k) (after_bids t k bids (first_state seed)) }
