-- The dealer: "One call writes keeper j's sheet of 127 words", or of 220 for seven rounds: "mask share, 33 bit shares, then alpha, beta, gamma
-- shares for each i." Assumes nothing.
use Rattle.std.specs.Prelude.{not, ◌&&◌, List, [], ◌∷◌, ◌++◌, map, ℕ, zero, suc, ◌+◌, ◌*◌, ◌^◌, ltb, drop, get_or}
use Rattle.fields.specs.Bits.{bit}
use Rattle.fields.specs.Amount.{p, amounts}
use Rattle.fields.specs.Byte.{product, bytes}
use Rattle.refusal.specs.Judging.{◌⇒◌, judged, kept}
use Rattle.refusal.specs.Refusal.{Judgement}
use Rattle.refusal.specs.declared.Refusal.TheVariants.{OutOfRange, WrongLength, CoinOutOfRange}
use Rattle.ranges.specs.Lists.{from, every}
use Rattle.sharing.specs.Polynomial.{value, share_each}
use Rattle.sharing.specs.Scheme.{threshold}
use Rattle.ranges.specs.Sizes.{party, long}
use Rattle.ways.specs.Way.{is_way, way_of, triples_of, sheet_size, drawn_size}

-- The refusals of `deal`, lowest number first. "the mask b (below 2^58), then its t coefficients", which are below p.
-- "That is 1 + t words and 126t + 62 bytes", or 219t + 124. `last` is the last round of the probes that it is dealt for.
unfoldable pub deal_judgement : (n own last : ℕ) (words drawn sheet : List ℕ) → Judgement
deal_judgement n own last words drawn sheet =
    judged
    ((not (party n own && is_way last) ⇒ OutOfRange)
    ∷ (not (long (1 + threshold n) words && long (drawn_size (way_of last) (threshold n)) drawn && long (sheet_size (way_of last)) sheet) ⇒ WrongLength)
    ∷ (not (ltb (get_or words 0 0) (2 ^ 58) && every (λ c. ltb c p) (drop 1 words)) ⇒ CoinOutOfRange)
    ∷ [])

-- a party's shares of bytes, each made with the next t of the drawn bytes
abbrev pub byte_shares : (t own : ℕ) (secrets drawn : List ℕ) → List ℕ
byte_shares t own secrets drawn = share_each bytes t own secrets drawn

-- "bits 1 to 33 of b"
abbrev pub mask_bits : ℕ → List ℕ
mask_bits b = map (λ i. bit i b) (from 1 33)

-- alpha and beta, which are drawn, and gamma: "gamma is alpha times beta"
abbrev pub triple_secrets : List ℕ → List ℕ
triple_secrets drawn =
    let alpha = get_or drawn 0 0 in
    let beta = get_or drawn 1 0 in
    alpha ∷ beta ∷ product alpha beta ∷ []

-- "alpha, beta and t coefficients each for alpha, beta, gamma"
unfoldable pub triple : (t own : ℕ) (drawn : List ℕ) → List ℕ
triple t own drawn = byte_shares t own (triple_secrets drawn) (drop 2 drawn)

-- m such triples, one after the other
unfoldable pub triples : (t own m : ℕ) (drawn : List ℕ) → List ℕ
triples t own zero drawn = []
triples t own (suc m) drawn = triple t own drawn ++ triples t own m (drop (2 + 3 * t) drawn)

-- The words are the mask's polynomial. "The drawn bytes are t coefficients for each of bits 1 to 33 of b ..; then" m triples.
unfoldable pub preprocessing : (m t own : ℕ) (words drawn : List ℕ) → List ℕ
preprocessing m t own words drawn =
    value amounts words own
    ∷ byte_shares t own (mask_bits (get_or words 0 0)) drawn
    ++ triples t own m (drop (33 * t) drawn)

-- what the slice lent for the preprocessing holds afterwards
abbrev pub deal_left : (n own last : ℕ) (words drawn sheet : List ℕ) → List ℕ
deal_left n own last words drawn sheet =
    kept (deal_judgement n own last words drawn sheet) (preprocessing (triples_of (way_of last)) (threshold n) own words drawn) sheet
