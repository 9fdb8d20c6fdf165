-- How the desk writes a party's bundle of a bid: "The older call remains", and the newer one writes "entry after entry". Assumes nothing.
use Rattle.std.specs.Prelude.{◌≡◌, List, ℕ, ◌*◌, length}
use Rattle.ranges.specs.Lists.{from}
use Rattle.ranges.specs.Orders.{Shuffle}

-- by one call for the whole table; or by one for each entry, in this order, the first on a slice that holds this
pub data Way : Type 0 where
  whole : Way
  by_entries : (order lent : List ℕ) → Way

-- each of the 2k entries once, in any order, whatever the slice held before
abbrev pub EachOnce : (k : ℕ) → Way → Type 0
EachOnce k whole = Unit {0}
EachOnce k (by_entries order lent) = Shuffle (from 1 (2 * k)) order × (length lent ≡ 2 * k)

-- the way of each bidder's bundle for each party
abbrev pub Desk : Type 0
Desk = (bidder own : ℕ) → Way

abbrev pub Complete : (k : ℕ) → Desk → Type 0
Complete k desk = (bidder own : ℕ) → EachOnce k (desk bidder own)
