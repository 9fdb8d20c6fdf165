-- The desk: "One call writes keeper j's bundle of 2k shares." Assumes nothing.
use Rattle.std.specs.Prelude.{not, ◌&&◌, List, [], ◌∷◌, ℕ, ◌*◌, leb, ltb}
use Rattle.fields.specs.Amount.{p, amounts}
use Rattle.refusal.specs.Judging.{Test, ◌⇒◌, judged, kept}
use Rattle.refusal.specs.Refusal.{Judgement}
use Rattle.refusal.specs.declared.Refusal.TheVariants.{OutOfRange, WrongLength, CoinOutOfRange, AmountTooLarge, NotMonotone}
use Rattle.ranges.specs.Lists.{every}
use Rattle.sharing.specs.Polynomial.{share_each}
use Rattle.sharing.specs.Scheme.{threshold}
use Rattle.ranges.specs.Sizes.{party, listed, long}
use Rattle.bid.specs.Table.{most, monotone}

-- what may be wrong with the table and the coins that are lent, lowest number first
abbrev pub faults : (k : ℕ) (table coins : List ℕ) → List Test
faults k table coins =
    (not (every (λ c. ltb c p) coins) ⇒ CoinOutOfRange)
    ∷ (not (every (λ a. leb a most) table) ⇒ AmountTooLarge)
    ∷ (not (monotone k table) ⇒ NotMonotone)
    ∷ []

-- The refusals of `split`, lowest number first. "Draws are 2k groups of t words below p."
unfoldable pub split_judgement : (n own k : ℕ) (table coins shares : List ℕ) → Judgement
split_judgement n own k table coins shares =
    judged
    ((not (party n own && listed k) ⇒ OutOfRange)
    ∷ (not (long (2 * k) table && long (2 * k * threshold n) coins && long (2 * k) shares) ⇒ WrongLength)
    ∷ faults k table coins)

-- A party's share of each amount, made with the amount's own t coins. The amounts are tenths, and are shared as they are.
abbrev pub bid_shares : (t own : ℕ) (table coins : List ℕ) → List ℕ
bid_shares t own table coins = share_each amounts t own table coins

-- what the slice lent for the shares holds afterwards
abbrev pub split_left : (n own k : ℕ) (table coins shares : List ℕ) → List ℕ
split_left n own k table coins shares =
    kept (split_judgement n own k table coins shares) (bid_shares (threshold n) own table coins) shares
